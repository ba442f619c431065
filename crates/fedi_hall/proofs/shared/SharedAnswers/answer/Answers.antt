use Rattle.std.proofs.Common.{◌∙◌, Err, Ok, sym}
use Rattle.fedi_town.specs.Histories.{town}
use Rattle.fedi_hall.proofs.Knowing.{known_caller}
use Rattle.fedi_hall.proofs.shared.SharedAnswers.answer.Goals as goal

pub answer_in_turn-requires-clause-caller : goal.answer_in_turn-requires-clause-caller
answer_in_turn-requires-clause-caller g c =
    known_caller (town g.O.Opened.state.history) c.args.self.now.lobby.now.roster
    c.args.request.now c.args.body.now (Ok c.in-Ok.caller)
    c.requires.ready.0.roster (sym c.in-Ok.is ∙ c.in_ok-caller.ensures)

pub refuse_in_turn-requires-clause-caller : goal.refuse_in_turn-requires-clause-caller
refuse_in_turn-requires-clause-caller g c =
    known_caller (town g.O.Opened.state.history) c.args.self.now.lobby.now.roster
    c.args.request.now c.args.body.now (Err c.in-Err.refusal)
    c.requires.ready.0.roster (sym c.in-Err.is ∙ c.in_ok-caller.ensures)
