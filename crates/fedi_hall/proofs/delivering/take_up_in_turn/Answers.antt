use Rattle.std.proofs.Common.{sym, ◌∙◌}
use Rattle.fedi_hall.proofs.Attempting.{take_grown, take_turn}
use Rattle.fedi_hall.proofs.delivering.take_up_in_turn.Goals as goal

pub give-requires-clause-grows : goal.give-requires-clause-grows
give-requires-clause-grows g c =
    take_grown c.number-by.result _ c.args.moment _ c.take-held.result.value.log c.take_up-taken.new.self.log c.take_up-taken.result
    (c.number-by.ensures ∙ sym c.take-held.ensures.same) c.take-held.ensures.value c.take_up-taken.ensures.taken

pub returns-clause-taken : goal.returns-clause-taken
returns-clause-taken g c =
    take_turn c.number-by.result _ c.args.moment _ _ c.take-held.result.value.log c.take_up-taken.new.self.log _ c.front-front.result c.take_up-taken.result
    c.number-by.ensures c.take-held.ensures.value c.give.ensures.seen c.take-held.ensures.list c.front-front.ensures c.take_up-taken.ensures.taken
