use Rattle.std.proofs.Common.{◌≡◌, Option, Some, None, sym, ap, subst, ◌∙◌}
use Rattle.fedi_model.specs.declared.post.Read.TheVariants.{NotJson, Bad, Ready}
use Rattle.fedi_model.specs.AnswerKinds.{Refuse, Misshape}
use Rattle.std.specs.Prelude.{Result, Err}
use Rattle.std.specs.Result.{result_err}
use Rattle.fedi_model.specs.Posting.{Judgement, Stop, Keep, judge_activity, repeat_by, repeat_under, unless_broken}
use Rattle.fedi_objects.specs.declared.activity.Activity.{Activity}
use Rattle.fedi_town.specs.declared.caller.Caller.TheVariants.{Actor}
use Rattle.fedi_town.specs.declared.refusal.Refusal.{Refusal}
use Rattle.fedi_core.proofs.Judging.{bad_shape, no_repeat, not_json, turned_away, under_key}
use Rattle.fedi_core.specs.Judging.{IsJudged}
use Rattle.fedi_town.specs.Agreement.{repeats_of}
use Rattle.fedi_town.specs.declared.refusal.Refusal.TheVariants.{BadBody}
use Rattle.fedi_core.proofs.posts.judge.Goals as goal

pub returns-in-Err : goal.returns-in-Err
returns-in-Err c = (
  Refuse c.in-Err.refusal,
  turned_away c.args.facts.now.town c.args.caller.now c.args.name.now c.args.author.now c.args.post c.in-Err.refusal c.in-Err.ensures,
  c.refusal_reply.ensures,
)

pub returns-in-NotJson : goal.returns-in-NotJson
returns-in-NotJson c =
    let is : c.args.post.read ≡ NotJson = let e = c.in-NotJson.is in cc in (
      Refuse BadBody,
      not_json c.args.facts.now.town c.args.caller.now c.args.name.now c.args.author.now c.args.post c.in_default.ensures is,
      c.refusal_reply-in-NotJson.ensures,
    )

pub returns-in-Bad : goal.returns-in-Bad
returns-in-Bad c =
    let is : c.args.post.read ≡ Bad c.in-Bad.fault = let e = c.in-Bad.is in cc in (
      Misshape c.in-Bad.fault,
      bad_shape c.args.facts.now.town c.args.caller.now c.args.name.now c.args.author.now c.args.post c.in-Bad.fault c.in_default.ensures is,
      c.misshapen_reply.ensures,
    )

pub returns-in-Some : goal.returns-in-Some
returns-in-Some c =
    let t = c.args.facts.now.town in
    let post = c.args.post in
    let is : post.read ≡ Ready c.in-Ready.activity = let e = c.in-Ready.is in cc in
    let found : Some c.in-Some.repeat ≡ repeat_under (repeats_of t c.args.author.now) post.key = let e = c.in-Some.is in let f = c.repeat_under.ensures in cc in
    let judged = under_key t c.args.caller.now c.args.name.now c.args.author.now post c.in-Ready.activity c.in-Some.repeat c.in_default.ensures is found in
    subst (λ (j : Judgement). IsJudged j (repeat_by post.digest post.key) c.judge_repeat.result) (sym judged)
    (c.judge_repeat.ensures (judge_activity t c.args.caller.now c.args.author.now c.in-Ready.activity) (repeat_by post.digest post.key))

pub returns : goal.returns
returns c =
    let t = c.args.facts.now.town in
    let post = c.args.post in
    let r = c.in-Err-judge_local.refusal in
    let is : post.read ≡ Ready c.in-Ready.activity = let e = c.in-Ready.is in cc in
    let none : None ≡ repeat_under (repeats_of t c.args.author.now) post.key = let e = c.in_default-repeat_under.is in let f = c.repeat_under.ensures in cc in
    let judged = no_repeat t c.args.caller.now c.args.name.now c.args.author.now post c.in-Ready.activity c.in_default.ensures is none in
    let same : c.get.result.now ≡ c.in-Ready.activity = let v = c.activity.view_is in let g = c.get.ensures in cc in
    let err : c.judge_local.result ≡ Err r = let e = c.in-Err-judge_local.is in cc in
    let told : judge_activity t (Actor c.args.name.now) c.args.author.now c.get.result.now ≡ Stop (Refuse r) =
    ap (λ (o : Option Refusal). unless_broken o (Keep c.get.result.now)) (sym (c.judge_local.ensures c.args.name.now c.requires))
    ∙ ap (λ (o : Result (Unit {0}) Refusal). unless_broken (result_err o) (Keep c.get.result.now)) err in (
      Refuse r,
      judged ∙ (ap (λ (a : Activity). judge_activity t (Actor c.args.name.now) c.args.author.now a) (sym same) ∙ told),
      c.refusal_reply-in-Err-judge_local.ensures,
    )
