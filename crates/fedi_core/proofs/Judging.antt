-- The decision on a post, by the judgement on it.
use Rattle.std.proofs.Common.{◌≡◌, ℕ, ◌+◌, true, List, Option, Some, None, refl, sym, subst, ap, ◌∙◌}
use Rattle.std.specs.Prelude.{option_map}
use Rattle.fedi_objects.specs.declared.activity.Activity.{Activity}
use Rattle.fedi_town.specs.declared.caller.Caller.{Caller}
use Rattle.fedi_town.specs.declared.caller.Caller.TheVariants.{Nobody, Actor, Peer}
use Rattle.fedi_town.specs.declared.refusal.Refusal.{Refusal}
use Rattle.fedi_town.specs.declared.refusal.Refusal.TheVariants.{BadBody}
use Rattle.fedi_town.specs.Agreement.{repeats_of}
use Rattle.fedi_reading.specs.declared.shape_fault.ShapeFault.{ShapeFault}
use Rattle.fedi_core.specs.Judging.{IsAdmitted, IsTurnedAway}
use Rattle.fedi_town.specs.Ids.{activity_id}
use Rattle.fedi_town.specs.Towns.{Town, count_of, id_of}
use Rattle.fedi_model.specs.declared.post.Post.{Post}
use Rattle.fedi_model.specs.declared.post.Read.{Read}
use Rattle.fedi_model.specs.declared.post.Read.TheVariants.{NotJson, Bad, Ready}
use Rattle.fedi_model.specs.Posting.{Stop, Keep, judge_activity, judge_post, judge_read, post_answer, repeat_under, unless_repeat}
use Rattle.fedi_model.specs.AnswerKinds.{Answer, Refuse, Misshape}
use Rattle.fedi_model.specs.Reading.{is_self}
use Rattle.fedi_town.proofs.Texts.{bytes_eq-is}
use Rattle.fedi_model.specs.declared.reply.Reply.{Reply}
use Rattle.fedi_model.specs.Replies.{reply_of, without_body}

pub is_own : (c : Caller) (name : List ℕ) → is_self c name ≡ true → c ≡ Actor name
is_own Nobody name is = absurd cc
is_own (Actor own) name is = ap (λ (n : List ℕ). Actor n) (bytes_eq-is own name is)
is_own (Peer host) name is = absurd cc

-- ---- the judgement

pub turned_away : (t : Town) (c : Caller) (name author : List ℕ) (post : Post) (r : Refusal) → IsTurnedAway c name post r
    → judge_post t c name author post ≡ Stop (Refuse r)
turned_away t c name author post r away = away (judge_read t c author post post.read)

pub not_json : (t : Town) (c : Caller) (name author : List ℕ) (post : Post) → IsAdmitted c name post → post.read ≡ NotJson
    → judge_post t c name author post ≡ Stop (Refuse BadBody)
not_json t c name author post admitted is =
    admitted.passes (judge_read t c author post post.read) ∙ ap (λ (r : Read). judge_read t c author post r) is

pub bad_shape : (t : Town) (c : Caller) (name author : List ℕ) (post : Post) (fault : ShapeFault) → IsAdmitted c name post → post.read ≡ Bad fault
    → judge_post t c name author post ≡ Stop (Misshape fault)
bad_shape t c name author post fault admitted is =
    admitted.passes (judge_read t c author post post.read) ∙ ap (λ (r : Read). judge_read t c author post r) is

ready : (t : Town) (c : Caller) (name author : List ℕ) (post : Post) (a : Activity) → IsAdmitted c name post → post.read ≡ Ready a
    → judge_post t c name author post
    ≡ unless_repeat post.digest (repeat_under (repeats_of t author) post.key) (judge_activity t c author a)
ready t c name author post a admitted is =
    admitted.passes (judge_read t c author post post.read) ∙ ap (λ (r : Read). judge_read t c author post r) is

pub under_key : (t : Town) (c : Caller) (name author : List ℕ) (post : Post) (a : Activity) (k : (List ℕ × List ℕ) × Option (List ℕ))
    → IsAdmitted c name post → post.read ≡ Ready a → Some k ≡ repeat_under (repeats_of t author) post.key
    → judge_post t c name author post ≡ unless_repeat post.digest (Some k) (judge_activity t c author a)
under_key t c name author post a k admitted is found =
    ready t c name author post a admitted is
    ∙ ap (λ (o : Option ((List ℕ × List ℕ) × Option (List ℕ))). unless_repeat post.digest o (judge_activity t c author a)) (sym found)

pub no_repeat : (t : Town) (c : Caller) (name author : List ℕ) (post : Post) (a : Activity)
    → IsAdmitted c name post → post.read ≡ Ready a → None ≡ repeat_under (repeats_of t author) post.key
    → judge_post t c name author post ≡ judge_activity t (Actor name) author a
no_repeat t c name author post a admitted is found =
    ready t c name author post a admitted is
    ∙ (ap (λ (o : Option ((List ℕ × List ℕ) × Option (List ℕ))). unless_repeat post.digest o (judge_activity t c author a)) (sym found)
    ∙ ap (λ (d : Caller). judge_activity t d author a) admitted.own)

-- ---- the decision

-- the member of this name was found
abbrev IsFound : Town → List ℕ → List ℕ → Type 0
IsFound t name author = Some author ≡ id_of t name

-- ---- a post that is refused

pub refused_reply : (t : Town) (c : Caller) (name author : List ℕ) (post : Post) (r : Reply) → IsFound t name author
    → (a : Answer) × (judge_post t c name author post ≡ Stop a) × (r ≡ reply_of a) → r ≡ reply_of (post_answer t c name post (id_of t name))
refused_reply t c name author post r found h =
    subst (λ (id : Option (List ℕ)). r ≡ reply_of (post_answer t c name post id)) found
    (h.2 ∙ rw h.1 refl)

-- ---- a post that is kept

pub kept_reply : (t : Town) (c : Caller) (name author : List ℕ) (post : Post) (a : Activity) (r : Reply) → IsFound t name author
    → judge_post t c name author post ≡ Keep a
    → r ≡ without_body 201 (option_map (λ host. activity_id host name (count_of t author + 1)) t.host)
    → r ≡ reply_of (post_answer t c name post (id_of t name))
kept_reply t c name author post a r found h told =
    subst (λ (own : Option (List ℕ)). r ≡ reply_of (post_answer t c name post own)) found (told ∙ rw h refl)

-- ---- memory
