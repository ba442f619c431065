use Rattle.std.proofs.Common.{take}
use Rattle.fedi_model.specs.Requests.{fields_at}
use Rattle.fedi_http.specs.Fields.{AreKnown}
use Rattle.fedi_http.proofs.fields.KnownFields.read.Given as goal

abbrev pub invariant-loop-span : goal.invariant-loop-span
invariant-loop-span l = AreKnown (fields_at l.text (take l.span-index l.spans)) l.known
