-- The verdict on a delivery is the judgement on what was read.
use Rattle.std.proofs.Common.{◌≡◌, Bool, true, false, ℕ, List, Some, None, refl}
use Rattle.std.specs.Prelude.{if◌then◌else◌}
use Rattle.fedi_model.specs.AnswerKinds.{Refuse}
use Rattle.fedi_model.specs.Posting.{Judgement, Stop, Repeat, Keep, is_there, judge_delivery}
use Rattle.fedi_model.specs.declared.post.Read.TheVariants.{Ready}
use Rattle.fedi_objects.specs.declared.activity.Activity.{Activity}
use Rattle.fedi_town.specs.declared.act.Peer.{Peer}
use Rattle.fedi_town.specs.declared.refusal.Refusal.TheVariants as refusals
use Rattle.fedi_town.specs.Origins.{is_foreign, has_inbox}
use Rattle.fedi_town.specs.Towns.{Town}
use Rattle.fedi_inbound.specs.declared.judging.Verdict.{Verdict}
use Rattle.fedi_inbound.specs.declared.judging.Verdict.TheVariants as verdicts
use Rattle.fedi_inbound.specs.Verdicts.{is_known_by, verdict}

-- the judgement by a verdict
abbrev pub judgement_by : Verdict → Activity → Judgement
judgement_by verdicts.New a = Keep a
judgement_by verdicts.AddInbox a = Keep a
judgement_by verdicts.Repeat a = Repeat None
judgement_by verdicts.NotOrigin a = Stop (Refuse refusals.NotOrigin)

by_tests : (foreign there known : Bool) (a : Activity)
    → judgement_by (if foreign then verdicts.NotOrigin else (if there then verdicts.Repeat else (if known then verdicts.AddInbox else verdicts.New))) a
    ≡ (if foreign then Stop (Refuse refusals.NotOrigin) else (if there then Repeat None else Keep a))
by_tests true there known a = refl
by_tests false true known a = refl
by_tests false false true a = refl
by_tests false false false a = refl

pub judged : (t : Town) (p : Peer) (owner : List ℕ) (a : Activity) (v : Verdict) → v ≡ verdict t p owner a
    → judgement_by v a ≡ judge_delivery t.host (Some p) (is_there t owner (Ready a)) (Ready a)
judged t p owner a v is =
    rw is (by_tests (is_foreign t.host p a.actor a.id a.object) (has_inbox t a.id owner) (is_known_by t a.id) a)
