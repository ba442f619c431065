use Rattle.std.proofs.Common.{◌≡◌, Some, inl, inr, ap, sym, ◌∙◌}
use Rattle.fedi_model.specs.Posting.{Keep, is_there, judge_delivery}
use Rattle.fedi_model.specs.declared.post.Read.TheVariants.{Ready}
use Rattle.fedi_objects.specs.declared.activity.Activity.{Activity}
use Rattle.fedi_inbound.specs.declared.judging.Verdict.TheVariants.{New, AddInbox, Repeat, NotOrigin}
use Rattle.fedi_inbound.specs.Verdicts.{verdict}
use Rattle.fedi_inbound.proofs.Judgements.{judged}
use Rattle.fedi_inbound.proofs.receiving.receive_read.Goals as goal

pub returns-in-NotOrigin : goal.returns-in-NotOrigin
returns-in-NotOrigin c =
    let t = c.args.facts.now.town in
    let p = c.args.peer.now in
    let owner = c.args.owner.now in
    let a = c.in-Ready.activity in
    let is : c.args.read ≡ Ready a = let e = c.in-Ready.is in cc in
    let same : c.get.result.now ≡ a = let v = c.activity.view_is in let g = c.get.ensures in cc in
    let found = c.judge_remote.ensures ∙ ap (λ (x : Activity). verdict t p owner x) same in
    rw is (judged t p owner a NotOrigin (sym c.in-NotOrigin.is ∙ found))

pub returns-in-Repeat : goal.returns-in-Repeat
returns-in-Repeat c =
    let t = c.args.facts.now.town in
    let p = c.args.peer.now in
    let owner = c.args.owner.now in
    let a = c.in-Ready.activity in
    let is : c.args.read ≡ Ready a = let e = c.in-Ready.is in cc in
    let same : c.get.result.now ≡ a = let v = c.activity.view_is in let g = c.get.ensures in cc in
    let found = c.judge_remote.ensures ∙ ap (λ (x : Activity). verdict t p owner x) same in
    rw is (judged t p owner a Repeat (sym c.in-Repeat.is ∙ found))

pub returns-in-New : goal.returns-in-New
returns-in-New c =
    let t = c.args.facts.now.town in
    let p = c.args.peer.now in
    let owner = c.args.owner.now in
    let a = c.in-Ready.activity in
    let is : c.args.read ≡ Ready a = let e = c.in-Ready.is in cc in
    let same : c.get.result.now ≡ a = let v = c.activity.view_is in let g = c.get.ensures in cc in
    let found = c.judge_remote.ensures ∙ ap (λ (x : Activity). verdict t p owner x) same in
    elim c.in-New.is as (λ _. Keep a ≡ judge_delivery t.host (Some p) (is_there t owner c.args.read) c.args.read) [
      | inl new ↦ rw is (judged t p owner a New (sym new ∙ found))
      | inr more ↦ rw is (judged t p owner a AddInbox (sym more ∙ found))
    ]
