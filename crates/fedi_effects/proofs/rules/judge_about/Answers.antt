use Rattle.std.proofs.Common.{◌≡◌, ap, ◌∙◌, inl, inr}
use Rattle.std.specs.Result.{result_err}
use Rattle.fedi_town.specs.declared.caller.Caller.TheVariants.{Actor}
use Rattle.fedi_town.specs.Deeds.{is_open, is_pending}
use Rattle.fedi_town.specs.Rules.{announce_rule, answer_rule, broken_about, change_rule, like_rule, undo_rule}
use Rattle.fedi_effects.proofs.rules.judge_about.Goals as goal

pub returns-in-Update : goal.returns-in-Update
unfolding broken_about
returns-in-Update c = λ name is.
    let judged = c.judge_change.ensures ∙ ap (change_rule c.args.author.now) (c.seen_maker.ensures name is) in
    elim c.in-Update.is as (λ _. result_err c.judge_change.result ≡ broken_about c.args.facts.now.town (Actor name) c.args.author.now c.args.deed c.args.id.now)
    [ inl update ↦ rw update judged | inr delete ↦ rw delete judged ]

pub returns-in-Like : goal.returns-in-Like
unfolding broken_about
returns-in-Like c = λ name is. rw c.in-Like.is (c.judge_like.ensures ∙ ap like_rule (c.seen_maker-in-Like.ensures name is))

pub returns-in-Announce : goal.returns-in-Announce
unfolding broken_about
returns-in-Announce c = λ name is. rw c.in-Announce.is (c.judge_announce.ensures ∙ ap announce_rule (c.seen_maker-in-Announce.ensures name is))

pub returns-in-Accept : goal.returns-in-Accept
unfolding broken_about
returns-in-Accept c = λ name is. rw c.in-Accept.is (c.judge_accept.ensures ∙ ap (answer_rule is_pending c.args.author.now) (c.seen_act.ensures name is))

pub returns-in-Reject : goal.returns-in-Reject
unfolding broken_about
returns-in-Reject c = λ name is. rw c.in-Reject.is (c.judge_reject.ensures ∙ ap (answer_rule is_open c.args.author.now) (c.seen_act-in-Reject.ensures name is))

pub returns-in-Undo : goal.returns-in-Undo
unfolding broken_about
returns-in-Undo c = λ name is. rw c.in-Undo.is (c.judge_undo.ensures ∙ ap (undo_rule c.args.author.now) (c.seen_act-in-Undo.ensures name is))
