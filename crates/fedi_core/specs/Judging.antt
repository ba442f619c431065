-- What becomes of a post, as the result of judging it.
use Rattle.std.specs.Prelude.{◌≡◌, List, ℕ, Option, option_copied}
use Rattle.fedi_town.specs.declared.caller.Caller.{Caller}
use Rattle.fedi_town.specs.declared.caller.Caller.TheVariants.{Actor}
use Rattle.fedi_town.specs.declared.refusal.Refusal.{Refusal}
use Rattle.fedi_objects.specs.declared.activity.Activity.{Activity}
use Rattle.fedi_model.specs.declared.post.Post.{Post}
use Rattle.fedi_model.specs.AnswerKinds.{Answer, Refuse}
use Rattle.fedi_model.specs.Posting.{Judgement, Stop, Repeat, Keep, by_steps, is_bad_key}
use Rattle.fedi_model.specs.Reading.{is_nobody, is_self}
use Rattle.fedi_model.specs.Replies.{reply_of}
use Rattle.fedi_core.specs.declared.posts.Judged.{Judged}
use Rattle.fedi_core.specs.declared.posts.Judged.TheVariants.{Refused, Repeated, Kept}

-- this is the result of the judgement on a post, which is kept under this key
abbrev pub IsJudged : Judgement → Option (List ℕ × List ℕ) → Judged → Type 0
IsJudged j repeat (Refused r) = (a : Answer) × (j ≡ Stop a) × (r ≡ reply_of a)
IsJudged j repeat (Repeated id) = j ≡ Repeat (option_copied id)
IsJudged j repeat (Kept a key) = (j ≡ Keep a) × (key ≡ repeat)

-- the judgement after the steps before the body of the post at this name, if this is the judgement
-- on a post that passes them
abbrev pub steps_before : Caller → List ℕ → Post → Judgement → Judgement
steps_before c name post j =
    by_steps (is_bad_key post.key) (is_nobody c) (is_self c name) post.is_typed j

-- the post is by the member of this name, and passes these steps
pub record IsAdmitted (c : Caller) (name : List ℕ) (post : Post) : Type 0 where
  pub own : c ≡ Actor name
  pub passes : (j : Judgement) → steps_before c name post j ≡ j

-- one of them refuses it with this refusal
abbrev pub IsTurnedAway : Caller → List ℕ → Post → Refusal → Type 0
IsTurnedAway c name post r = (j : Judgement) → steps_before c name post j ≡ Stop (Refuse r)
