use Rattle.std.proofs.Common.{◌≡◌}
use Rattle.fedi_adapters.proofs.tcp_lines.TcpLine.receive.Given as goal

abbrev pub invariant-loop : goal.invariant-loop
invariant-loop g l = record {
  reads : l.self.read_faults ≡ l.initial.self.read_faults;
  writes : l.self.write_faults ≡ l.initial.self.write_faults;
}
