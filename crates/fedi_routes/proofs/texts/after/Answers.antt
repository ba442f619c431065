use Rattle.std.proofs.Common.{◌+◌, sym, ◌∙◌}
use Rattle.fedi_routes.proofs.TextLemmas.{back_found, back_none, slice_to_end}
use Rattle.fedi_routes.proofs.texts.after.Goals as goal

pub returns-in-Some : goal.returns-in-Some
returns-in-Some c =
    slice_to_end (c.in-Some.end + 1) c.args.text.now
    ∙ back_found _ c.args.text.now c.in-Some.end (sym c.first.ensures ∙ c.in-Some.is)

pub returns-in-None : goal.returns-in-None
returns-in-None c = back_none _ c.args.text.now (sym c.first.ensures ∙ c.in-None.is)
