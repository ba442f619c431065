use Rattle.fedi_opening.proofs.Keys.{key_unused}
use Rattle.fedi_opening.proofs.judging.is_new_key.Goals as goal

pub returns-in-Some : goal.returns-in-Some
returns-in-Some c =
    key_unused c.args.facts.now.town c.args.author.now c.args.repeat.now c.in-Some.repeat c.repeat_of.result c.is_none.result c.in-Some.is c.repeat_of.ensures c.is_none.ensures
