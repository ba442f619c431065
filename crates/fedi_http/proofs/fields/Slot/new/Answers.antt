use Rattle.fedi_http.proofs.FieldLemmas.{slot-nil}
use Rattle.fedi_http.proofs.fields.Slot.new.Goals as goal

pub returns : goal.returns
returns c = slot-nil c.args.name.now
