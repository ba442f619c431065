-- A post or a delivery whose body is not read is refused, whatever it holds.
use Rattle.std.proofs.Common.{◌≡◌, ◌∙◌, ℕ, Bool, true, false, ◌&&◌, not, List, Option, Some, None}
use Rattle.std.proofs.Common.{refl, ap}
use Rattle.fedi_model.specs.AnswerKinds.{Answer}
use Rattle.fedi_model.specs.Posting.{Judgement, by_steps, is_bad_key, is_there, judge_delivery}
use Rattle.fedi_model.specs.Posting.{judge_read, answer_delivery, answer_post, delivery_answer}
use Rattle.fedi_model.specs.Posting.{post_answer}
use Rattle.fedi_model.specs.Reading.{is_nobody, is_peer, is_self}
use Rattle.fedi_model.specs.declared.post.Post.{Post}
use Rattle.fedi_town.specs.Agreement.{peer_of}
use Rattle.fedi_town.specs.declared.caller.Caller.{Caller}
use Rattle.fedi_town.specs.Towns.{Town, id_of}
use Rattle.fedi_model.specs.Asks.{answer_of}
use Rattle.fedi_model.specs.declared.ask.Ask.TheVariants.{Outbox, Inbox}

-- if one of the steps refuses, what would be judged after them does not matter
stopped : (bad nobody allowed typed : Bool) (j k : Judgement)
    → (allowed && (typed && not bad)) ≡ false
    → by_steps bad nobody allowed typed j ≡ by_steps bad nobody allowed typed k
stopped true nobody allowed typed j k unread = refl
stopped false true allowed typed j k unread = refl
stopped false false false typed j k unread = refl
stopped false false true false j k unread = refl
stopped false false true true j k unread = cc

same_steps : (bad worse nobody allowed typed other : Bool) (j k : Judgement) → bad ≡ worse
    → typed ≡ other → (allowed && (typed && not bad)) ≡ false
    → by_steps bad nobody allowed typed j ≡ by_steps worse nobody allowed other k
same_steps bad worse nobody allowed typed other j k keys types unread =
    stopped bad nobody allowed typed j k unread
    ∙ (ap (λ (b : Bool). by_steps b nobody allowed typed k) keys
    ∙ ap (λ (b : Bool). by_steps worse nobody allowed b k) types)

posted : (t : Town) (c : Caller) (name : List ℕ) (post other : Post) (id : Option (List ℕ))
    → is_bad_key post.key ≡ is_bad_key other.key → post.is_typed ≡ other.is_typed
    → (is_self c name && (post.is_typed && not (is_bad_key post.key))) ≡ false
    → post_answer t c name post id ≡ post_answer t c name other id
posted t c name post other None keys types unread = refl
posted t c name post other (Some id) keys types unread =
    ap (λ (j : Judgement). answer_post t name id j)
    (same_steps (is_bad_key post.key) (is_bad_key other.key) (is_nobody c) (is_self c name)
    post.is_typed other.is_typed (judge_read t c id post post.read)
    (judge_read t c id other other.read) keys types unread)

pub unread_posts : (t : Town) (c : Caller) (name : List ℕ) (post other : Post)
    → is_bad_key post.key ≡ is_bad_key other.key → post.is_typed ≡ other.is_typed
    → (is_self c name && (post.is_typed && not (is_bad_key post.key))) ≡ false
    → answer_of t c (Outbox name post) ≡ answer_of t c (Outbox name other)
unread_posts t c name post other keys types unread =
    posted t c name post other (id_of t name) keys types unread

-- a delivery has no key
unkeyed : (allowed typed : Bool) → (allowed && typed) ≡ false
    → (allowed && (typed && not false)) ≡ false
unkeyed false typed e = refl
unkeyed true false e = refl
unkeyed true true e = cc

delivered : (t : Town) (c : Caller) (post other : Post) (id : Option (List ℕ))
    → post.is_typed ≡ other.is_typed → (is_peer c && post.is_typed) ≡ false
    → delivery_answer t c post id ≡ delivery_answer t c other id
delivered t c post other None types unread = refl
delivered t c post other (Some owner) types unread =
    ap (λ (j : Judgement). answer_delivery j)
    (same_steps false false (is_nobody c) (is_peer c) post.is_typed other.is_typed
    (judge_delivery t.host (peer_of t c) (is_there t owner post.read) post.read)
    (judge_delivery t.host (peer_of t c) (is_there t owner other.read) other.read) refl types
    (unkeyed (is_peer c) post.is_typed unread))

pub unread_deliveries : (t : Town) (c : Caller) (name : List ℕ) (post other : Post)
    → post.is_typed ≡ other.is_typed → (is_peer c && post.is_typed) ≡ false
    → answer_of t c (Inbox name post) ≡ answer_of t c (Inbox name other)
unread_deliveries t c name post other types unread =
    delivered t c post other (id_of t name) types unread
