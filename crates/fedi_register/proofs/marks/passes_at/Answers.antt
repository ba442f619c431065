use Rattle.std.proofs.Common.{◌∙◌, refl, sym, ap, Some}
use Rattle.std.proofs.lemmas.Fn.{says_at}
use Rattle.std.proofs.lemmas.Option.{slice_get-get_or, slice_get_past}
use Rattle.fedi_register.specs.Marks.{is_there, passes_at}
use Rattle.fedi_register.proofs.marks.passes_at.Goals as goal

pub returns-in-Some : goal.returns-in-Some
unfolding passes_at
returns-in-Some g c = λ p decides.
    let item = c.in-Some.item.now in
    let got = c.in-Some.ensures.lookup in
    decides item c.passes.result (says_at g.F.Fn c.passes.ensures refl)
    ∙ sym (ap (is_there p) (slice_get-get_or c.args.items.now c.args.place item got.3.0 ∙ ap Some (sym got.1)))

pub returns-in-None : goal.returns-in-None
unfolding passes_at
returns-in-None g c = λ p decides. sym (ap (is_there p) (slice_get_past c.args.items.now c.args.place c.in-None.ensures.lookup.3))
