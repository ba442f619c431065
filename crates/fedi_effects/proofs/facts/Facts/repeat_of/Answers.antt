use Rattle.std.proofs.Common.{◌∙◌}
use Rattle.fedi_effects.proofs.KeptKeys.{found_under, none_under}
use Rattle.fedi_effects.proofs.facts.Facts.repeat_of.Goals as goal

pub returns-in-Some : goal.returns-in-Some
returns-in-Some c = c.repeat_in.ensures ∙ found_under c.args.self.now.town c.args.author.now c.args.key.now c.in-Some.act.now c.in-Some.ensures

pub returns-in-None : goal.returns-in-None
returns-in-None c = none_under c.args.self.now.town c.args.author.now c.args.key.now c.in-None.ensures
