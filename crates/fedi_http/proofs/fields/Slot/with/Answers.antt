use Rattle.std.proofs.Common.{refl, sym, ◌∙◌}
use Rattle.fedi_model.specs.Requests.{field_of}
use Rattle.fedi_http.proofs.FieldLemmas.{slot-other, slot-first, slot-again}
use Rattle.fedi_http.proofs.fields.Slot.with.Goals as goal

pub returns-then-not-is_same_name : goal.returns-then-not-is_same_name
returns-then-not-is_same_name c fields is =
    slot-other c.args.wanted.now fields (field_of (c.args.name.now, c.args.value.now)) c.args.self
    (rw c.as_bytes.ensures.value at (sym c.is_same_name.ensures) ∙ c.if-not-is_same_name.true) is

pub returns-in-None : goal.returns-in-None
returns-in-None c fields is =
    slot-first c.args.wanted.now fields (field_of (c.args.name.now, c.args.value.now)) c.args.self c.args.value
    (rw c.as_bytes.ensures.value at (sym c.is_same_name.ensures) ∙ c.if-not-is_same_name.false) c.in-None.is refl is

pub returns-in-Some : goal.returns-in-Some
returns-in-Some c fields is =
    slot-again c.args.wanted.now fields (field_of (c.args.name.now, c.args.value.now)) c.args.self c.in-Some.first
    (rw c.as_bytes.ensures.value at (sym c.is_same_name.ensures) ∙ c.if-not-is_same_name.false) c.in-Some.is is
