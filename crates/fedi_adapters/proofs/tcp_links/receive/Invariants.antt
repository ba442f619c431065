use Rattle.std.proofs.Common.{◌≡◌, ◌≤◌, length, take}
use Rattle.std.specs.Io.KnownBytes.{Consumes}
use Rattle.fedi_adapters.proofs.tcp_links.receive.Given as goal

abbrev pub invariant-loop : goal.invariant-loop
invariant-loop g l = record {
  room : length l.into ≡ length l.initial.into;
  within : l.filled ≤ length l.into;
  read : Consumes (g.S.Read.remaining l.initial.stream) (g.S.Read.remaining l.stream)
      (take l.filled l.into);
}
