-- What becomes of a post to an outbox (ActivityPub, section 6) and of a delivery to an inbox
-- (section 7).
use Rattle.std.specs.Prelude.{ℕ, ◌+◌, Bool, true, false, not, List, Option, Some, None, option_map}
use Rattle.std.specs.Prelude.{if◌then◌else◌}
use Rattle.std.specs.List.{find}
use Rattle.std.specs.Str.{bytes_eq}
use Rattle.fedi_town.specs.declared.refusal.Refusal.{Refusal}
use Rattle.fedi_town.specs.declared.refusal.Refusal.TheVariants.{NotFound, BadQuery, NoKey}
use Rattle.fedi_town.specs.declared.refusal.Refusal.TheVariants.{NotOwner, WrongType, BadBody}
use Rattle.fedi_town.specs.declared.refusal.Refusal.TheVariants.{KeyReused, NotOrigin}
use Rattle.fedi_objects.specs.declared.activity.Activity.{Activity}
use Rattle.fedi_objects.specs.declared.entry.Entry.{Entry}
use Rattle.fedi_objects.specs.declared.entry.Entry.TheVariants.{Local, Remote}
use Rattle.fedi_town.specs.declared.act.Peer.{Peer}
use Rattle.fedi_town.specs.declared.caller.Caller.{Caller}
use Rattle.fedi_town.specs.declared.caller.Caller.TheVariants as callers
use Rattle.fedi_town.specs.Agreement.{repeats_of, peer_of}
use Rattle.fedi_town.specs.Origins.{is_foreign, has_inbox}
use Rattle.fedi_town.specs.Ids.{activity_id}
use Rattle.fedi_town.specs.Rules.{broken_post}
use Rattle.fedi_town.specs.Towns.{Town, count_of}
use Rattle.fedi_model.specs.declared.post.KeyAsk.{KeyAsk}
use Rattle.fedi_model.specs.declared.post.KeyAsk.TheVariants.{Absent, Malformed, Given}
use Rattle.fedi_model.specs.declared.post.Post.{Post}
use Rattle.fedi_model.specs.declared.post.Read.{Read}
use Rattle.fedi_model.specs.declared.post.Read.TheVariants.{NotJson, Bad, Ready}
use Rattle.fedi_model.specs.AnswerKinds.{Answer, Refuse, Misshape, Created, Accepted}
use Rattle.fedi_model.specs.Reading.{is_nobody, is_self, is_peer}

-- ---- judgements

-- what a post is: refused, a repeat of the post that made this id, or an activity to keep
pub data Judgement : Type 0 where
  Stop : Answer → Judgement
  Repeat : Option (List ℕ) → Judgement
  Keep : Activity → Judgement

-- it is refused if a rule is broken
abbrev pub unless_broken : Option Refusal → Judgement → Judgement
unless_broken None j = j
unless_broken (Some r) j = Stop (Refuse r)

-- the steps before a body is examined, in order: whether the key is valid, whether the caller is
-- known, whether the caller may post here, and the media type
abbrev pub by_steps : Bool → Bool → Bool → Bool → Judgement → Judgement
by_steps bad_key nobody allowed typed j =
    if bad_key then Stop (Refuse BadQuery) else (
    if nobody then Stop (Refuse NoKey) else (
    if not allowed then Stop (Refuse NotOwner) else (
    if not typed then Stop (Refuse WrongType) else j)))

-- ---- a member's post

-- the author's activity: it is kept if it breaks no rule
abbrev pub judge_activity : Town → Caller → List ℕ → Activity → Judgement
judge_activity t c author a = unless_broken (broken_post t c author a) (Keep a)

-- the key is malformed
abbrev pub is_bad_key : KeyAsk → Bool
is_bad_key Absent = false
is_bad_key Malformed = true
is_bad_key (Given key) = false

-- the requested one of the author's keys, with its digest and id
abbrev pub repeat_under : List ((List ℕ × List ℕ) × Option (List ℕ)) → KeyAsk
    → Option ((List ℕ × List ℕ) × Option (List ℕ))
repeat_under rs Absent = None
repeat_under rs Malformed = None
repeat_under rs (Given key) = find (λ r. bytes_eq r.0.0 key) rs

-- a post under a stored key is a repeat if the body is the same, and is refused if it is another
abbrev pub unless_repeat : List ℕ → Option ((List ℕ × List ℕ) × Option (List ℕ))
    → Judgement → Judgement
unless_repeat digest None j = j
unless_repeat digest (Some k) j =
    if bytes_eq k.0.1 digest then Repeat k.1 else Stop (Refuse KeyReused)

-- what was read of the author's post
abbrev pub judge_read : Town → Caller → List ℕ → Post → Read → Judgement
judge_read t c author post NotJson = Stop (Refuse BadBody)
judge_read t c author post (Bad fault) = Stop (Misshape fault)
judge_read t c author post (Ready a) =
    unless_repeat post.digest (repeat_under (repeats_of t author) post.key)
    (judge_activity t c author a)

-- the post at this name, by the author with this id
abbrev pub judge_post : Town → Caller → List ℕ → List ℕ → Post → Judgement
judge_post t c name author post =
    by_steps (is_bad_key post.key) (is_nobody c) (is_self c name) post.is_typed
    (judge_read t c author post post.read)

-- the answer to a member's post: the id of what it made, now or earlier (ActivityPub, section 6)
abbrev pub answer_post : Town → List ℕ → List ℕ → Judgement → Answer
answer_post t name author (Stop a) = a
answer_post t name author (Repeat id) = Created id
answer_post t name author (Keep a) =
    Created (option_map (λ host. activity_id host name (count_of t author + 1)) t.host)

-- the answer to a post at a name, given the member's id if it was found
abbrev pub post_answer : Town → Caller → List ℕ → Post → Option (List ℕ) → Answer
post_answer t c name post None = Refuse NotFound
post_answer t c name post (Some author) =
    answer_post t name author (judge_post t c name author post)

-- ---- a delivery

-- what was read of a peer's delivery, given whether the inbox already has it
abbrev pub judge_delivery : Option (List ℕ) → Option Peer → Bool → Read → Judgement
judge_delivery host None there read = Stop (Refuse NotOwner)
judge_delivery host (Some p) there NotJson = Stop (Refuse BadBody)
judge_delivery host (Some p) there (Bad fault) = Stop (Misshape fault)
judge_delivery host (Some p) there (Ready a) =
    if is_foreign host p a.actor a.id a.object then Stop (Refuse NotOrigin)
    else (if there then Repeat None else Keep a)

-- the activity that was read already goes to this owner's inbox
abbrev pub is_there : Town → List ℕ → Read → Bool
is_there t owner NotJson = false
is_there t owner (Bad fault) = false
is_there t owner (Ready a) = has_inbox t a.id owner

-- the delivery to this owner's inbox
abbrev pub judge_inbox : Town → Caller → List ℕ → Post → Judgement
judge_inbox t c owner post =
    by_steps false (is_nobody c) (is_peer c) post.is_typed
    (judge_delivery t.host (peer_of t c) (is_there t owner post.read) post.read)

-- the answer to a delivery, which does not reveal whether the activity was known
abbrev pub answer_delivery : Judgement → Answer
answer_delivery (Stop a) = a
answer_delivery (Repeat id) = Accepted
answer_delivery (Keep a) = Accepted

-- the answer to a delivery to an inbox, given the id of the inbox's owner if it was found
abbrev pub delivery_answer : Town → Caller → Post → Option (List ℕ) → Answer
delivery_answer t c post None = Refuse NotFound
delivery_answer t c post (Some owner) = answer_delivery (judge_inbox t c owner post)

-- ---- entries

-- the key that the post is kept under, with the digest of its body
abbrev pub repeat_by : List ℕ → KeyAsk → Option (List ℕ × List ℕ)
repeat_by digest Absent = None
repeat_by digest Malformed = None
repeat_by digest (Given key) = Some (key, digest)

-- the entry of a member's post that is kept at this moment
abbrev pub post_entry : List ℕ → Post → ℕ → Judgement → Option Entry
post_entry name post moment (Stop a) = None
post_entry name post moment (Repeat id) = None
post_entry name post moment (Keep a) = Some (Local name (repeat_by post.digest post.key) a moment)

-- the entry of a post at a name, given the member's id if it was found
abbrev pub entry_at : Town → Caller → List ℕ → Post → ℕ → Option (List ℕ) → Option Entry
entry_at t c name post moment None = None
entry_at t c name post moment (Some author) =
    post_entry name post moment (judge_post t c name author post)

-- the entry of this caller's delivery
abbrev pub delivery_of : Caller → List ℕ → Activity → ℕ → Option Entry
delivery_of callers.Nobody name a moment = None
delivery_of (callers.Actor own) name a moment = None
delivery_of (callers.Peer host) name a moment = Some (Remote host name a moment)

-- the entry of a delivery that is kept at this moment
abbrev pub inbox_entry : Caller → List ℕ → ℕ → Judgement → Option Entry
inbox_entry c name moment (Stop a) = None
inbox_entry c name moment (Repeat id) = None
inbox_entry c name moment (Keep a) = delivery_of c name a moment

-- the entry of a delivery to an inbox, given the id of the inbox's owner if it was found
abbrev pub inbox_entry_at : Town → Caller → List ℕ → Post → ℕ → Option (List ℕ) → Option Entry
inbox_entry_at t c name post moment None = None
inbox_entry_at t c name post moment (Some owner) =
    inbox_entry c name moment (judge_inbox t c owner post)
