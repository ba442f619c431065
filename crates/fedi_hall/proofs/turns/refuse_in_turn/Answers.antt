use Rattle.std.proofs.Common.{Some, refl}
use Rattle.fedi_log.specs.Keeping.{base_of}
use Rattle.fedi_turn.specs.Turn.{number_of}
use Rattle.fedi_hall.proofs.Attempting.{grows_none}
use Rattle.fedi_hall.proofs.Turning.{turn_same, turn_tells}
use Rattle.fedi_hall.proofs.turns.refuse_in_turn.Goals as goal

pub give-requires-clause-grows : goal.give-requires-clause-grows
give-requires-clause-grows g c = grows_none _ _ _ c.take-held.ensures.value

pub returns-clause-text : goal.returns-clause-text
returns-clause-text g c =
    let n = number_of c.args.pass.now in
    turn_tells (λ text. text.items) (base_of g.P.Keeper.growth g.P.Keeper.room g.O.Opened.state) n n _ _
    c.take-held.result.value.log c.take-held.result.value.log _
    c.args.moment c.args.request.now c.args.body.now c.args.closing c.refuse-text.result refl
    c.take-held.ensures.value c.give.ensures.seen c.take-held.ensures.list
    (c.refuse-text.ensures (Some n))

pub returns-clause-lacking : goal.returns-clause-lacking
returns-clause-lacking g c =
    turn_same _ _ _ c.take-held.result.value.log _ c.refuse-text.result c.take-held.ensures.value
    c.give.ensures.seen c.take-held.ensures.list
