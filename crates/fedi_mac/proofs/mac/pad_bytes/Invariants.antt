use Rattle.std.proofs.Common.{◌≡◌, map, ◌++◌, take, drop}
use Rattle.fedi_mac.specs.Hmac.{padded}
use Rattle.fedi_mac.proofs.mac.pad_bytes.Given as goal

abbrev pub invariant-loop-byte : goal.invariant-loop-byte
invariant-loop-byte l = l.bytes ≡ map (padded l.pad) (take l.byte-index l.initial.bytes) ++ drop l.byte-index l.initial.bytes
