use Rattle.std.proofs.Common.{IfOk, IsTrue, OnErr, Some, subst, sym, ◌≡◌, ◌∙◌}
use Rattle.fedi_log.specs.Keeping.{base_of}
use Rattle.fedi_logged.specs.Turning.{TurnTells, is_draft, text_in}
use Rattle.fedi_logged.proofs.Telling.{of_text}
use Rattle.fedi_turn.specs.Turn.{number_of, seen_of}
use Rattle.fedi_hall.proofs.Turning.{grown_by, turn_left, turn_same, turn_tells}
use Rattle.fedi_hall.proofs.turns.answer_in_turn.Goals as goal

pub give-requires-clause-grows : goal.give-requires-clause-grows
give-requires-clause-grows g c =
    grown_by (text_in c.args.moment c.args.request.now.head_only c.args.closing) (base_of g.P.Keeper.growth g.P.Keeper.room g.O.Opened.state)
    c.number-by.result _ _ c.take-held.result.value.log c.settle-settled.new.self.log
    c.args.moment c.args.request.now c.args.body.now c.args.closing c.settle-settled.result (c.number-by.ensures ∙ sym c.take-held.ensures.same) c.take-held.ensures.value
    c.settle-settled.ensures.text c.settle-settled.ensures.lacking

pub returns-clause-text : goal.returns-clause-text
returns-clause-text g c =
    let b = base_of g.P.Keeper.growth g.P.Keeper.room g.O.Opened.state in
    let text = text_in c.args.moment c.args.request.now.head_only c.args.closing in
    let told = turn_tells text b c.number-by.result _ _ _ c.take-held.result.value.log c.settle-settled.new.self.log _
    c.args.moment c.args.request.now c.args.body.now c.args.closing c.settle-settled.result c.number-by.ensures c.take-held.ensures.value c.give.ensures.seen
    c.take-held.ensures.list c.settle-settled.ensures.text in
    of_text (λ t. TurnTells b (Some (number_of c.args.pass.now)) (seen_of c.args.pass.now) (seen_of c.give.new.pass) c.args.moment c.args.request.now c.args.body.now c.args.closing t)
    _ c.write.result
    (subst (λ r. IfOk r (λ a. TurnTells b (Some (number_of c.args.pass.now)) (seen_of c.args.pass.now) (seen_of c.give.new.pass) c.args.moment c.args.request.now c.args.body.now c.args.closing (text a)))
    c.in_ok-answered.was told)
    c.write.ensures.text

pub returns-clause-lacking : goal.returns-clause-lacking
returns-clause-lacking g c =
    let now = c.settle-settled.new.self.log in
    turn_left _ _ _ _ c.take-held.result.value.log now _ c.write.result c.take-held.ensures.value c.give.ensures.seen
    c.take-held.ensures.list
    (subst (λ r. IfOk r (λ a. IsTrue (is_draft a) → now ≡ c.take-held.result.value.log)) c.in_ok-answered.was c.settle-settled.ensures.draft)
    c.write.ensures.memory

pub returns-in_err-answered-clause-lacking : goal.returns-in_err-answered-clause-lacking
returns-in_err-answered-clause-lacking g c =
    let now = c.settle-settled.new.self.log in
    let same = subst (λ r. OnErr r (now ≡ c.take-held.result.value.log)) c.in_err-answered.was c.settle-settled.ensures.lacking in
    turn_same _ _ _ c.take-held.result.value.log _ c.from_residual.result c.take-held.ensures.value (c.give.ensures.seen ∙ same)
    c.take-held.ensures.list
