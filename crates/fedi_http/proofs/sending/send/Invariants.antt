use Rattle.std.proofs.Common.{◌≡◌, ◌-◌, ◌≤◌, length, take, is_some}
use Rattle.std.specs.Io.KnownBytes.{Appends}
use Rattle.fedi_http.proofs.sending.send.Given as goal

abbrev pub invariant-writes : goal.invariant-writes
invariant-writes g l = record {
  within : l.done ≤ length l.bytes;
  sent : Appends (g.K.Sink.sent l.fn.sink) (g.K.Sink.sent l.sink) (take l.done l.bytes);
  told : is_some (g.K.Sink.sent l.sink) ≡ is_some (g.K.Sink.sent l.fn.sink);
  beside : g.K.Sink.beside_sink l.sink ≡ g.K.Sink.beside_sink l.fn.sink;
  calm : g.K.Sink.write_faults l.sink ≡ g.K.Sink.write_faults l.fn.sink;
}

abbrev pub decreases-writes : goal.decreases-writes
decreases-writes g l = length l.bytes - l.done
