use Rattle.std.proofs.Common.{sym, ◌∙◌}
use Rattle.fedi_routes.proofs.TextLemmas.{front_found, front_all}
use Rattle.fedi_routes.proofs.texts.before.Goals as goal

pub returns-in-Some : goal.returns-in-Some
returns-in-Some c = front_found _ c.args.text.now c.in-Some.end (sym c.first.ensures ∙ c.in-Some.is)

pub returns-in-None : goal.returns-in-None
returns-in-None c = front_all _ c.args.text.now (sym c.first.ensures ∙ c.in-None.is)
