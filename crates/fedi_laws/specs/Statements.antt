-- The laws about the meaning of a history.
use Rattle.std.specs.Prelude.{◌≡◌, ℕ, ◌+◌, ◌≤◌, Bool, true, false, ◌||◌, if◌then◌else◌, List, []}
use Rattle.std.specs.Prelude.{◌∷◌, ◌++◌, ◌&&◌, not, map, IsTrue, Option, Some}
use Rattle.std.specs.List.{list_any}
use Rattle.std.specs.Str.{bytes_eq}
use Rattle.fedi_address.specs.Names.{is_name}
use Rattle.fedi_objects.specs.declared.activity.Activity.{Activity}
use Rattle.fedi_objects.specs.declared.activity.ObjectRef.TheVariants.{Id, Whole}
use Rattle.fedi_objects.specs.declared.entry.Came.{Came}
use Rattle.fedi_objects.specs.declared.entry.Entry.{Entry}
use Rattle.fedi_objects.specs.declared.entry.Entry.TheVariants.{Hosted, Made, PeerSet, Local}
use Rattle.fedi_objects.specs.declared.entry.Entry.TheVariants.{Remote, Tried}
use Rattle.fedi_objects.specs.declared.kind.Kind.TheVariants as kinds
use Rattle.fedi_objects.specs.declared.object.Object.{Object}
use Rattle.fedi_objects.specs.Forms.{is_tombstone}
use Rattle.fedi_town.specs.declared.act.Act.{Act}
use Rattle.fedi_town.specs.declared.caller.Caller.{Caller}
use Rattle.fedi_town.specs.Activities.{local_act, remote_act}
use Rattle.fedi_town.specs.Agreement.{Agree, member_names}
use Rattle.fedi_town.specs.Boards.{board_id, boards, boards_by, pinned, pinned_by}
use Rattle.fedi_town.specs.Deeds.{deed_of, changes_nothing, is_delete, is_follow, is_update}
use Rattle.fedi_town.specs.Histories.{town, is_known}
use Rattle.fedi_town.specs.Ids.{actor_id, object_id}
use Rattle.fedi_town.specs.Legal.{IsLegal, is_caller}
use Rattle.fedi_town.specs.Lists.{PassesOnce}
use Rattle.fedi_town.specs.Objects.{emptied, maker, makes, object_at, rewrite_act}
use Rattle.fedi_town.specs.Queues.{is_due, is_due_delivery, is_of_pair, queue}
use Rattle.fedi_town.specs.Relations.{has_activity_id, ref_id}
use Rattle.fedi_town.specs.Replays.{acts_of, replay}
use Rattle.fedi_town.specs.Seeing.{sees}
use Rattle.fedi_town.specs.Showing.{bare_tombstone, view}
use Rattle.fedi_town.specs.Towns.{Town, count_of, has_name, id_of}
use Rattle.fedi_town.specs.declared.caller.Caller.TheVariants as callers
use Rattle.fedi_model.specs.declared.ask.Ask.{Ask}
use Rattle.fedi_model.specs.declared.ask.Ask.TheVariants as asks
use Rattle.fedi_model.specs.Asks.{answer_of, entry_of, IsPostable}
use Rattle.fedi_model.specs.Cleanness.{is_clean_answer}
use Rattle.fedi_model.specs.declared.post.Post.{Post}
use Rattle.fedi_model.specs.Posting.{is_bad_key}
use Rattle.fedi_model.specs.Reading.{is_peer, is_self}

-- ---- what a caller may learn

-- Legal histories that agree for a caller give the caller the same answer, whatever else they
-- contain.
abbrev pub AnswersArePrivate : Type 0
AnswersArePrivate =
    (g h : List Entry) (c : Caller) (ask : Ask) → IsLegal g → IsLegal h → Agree (town g) (town h) c
    → answer_of (town g) c ask ≡ answer_of (town h) c ask

-- the ask is who a member is
abbrev pub is_of_profiles : Ask → Bool
is_of_profiles (asks.Webfinger resource) = true
is_of_profiles (asks.Actor name) = true
is_of_profiles ask = false

-- Who a member is depends only on the host and on the members' names, and is the same for
-- everybody.
abbrev pub ProfilesTellNamesAlone : Type 0
ProfilesTellNamesAlone =
    (g h : List Entry) (c d : Caller) (ask : Ask) → IsLegal g → IsLegal h
    → (town g).host ≡ (town h).host
    → member_names (town g) ≡ member_names (town h) → is_of_profiles ask ≡ true
    → answer_of (town g) c ask ≡ answer_of (town h) d ask

-- The answer for a post whose body is not read does not depend on the body: the caller is not the
-- member, the body has another media type, or the key is malformed.
abbrev pub UnreadPostsAreAnsweredAlike : Type 0
UnreadPostsAreAnsweredAlike =
    (t : Town) (c : Caller) (name : List ℕ) (post other : Post)
    → is_bad_key post.key ≡ is_bad_key other.key → post.is_typed ≡ other.is_typed
    → (is_self c name && (post.is_typed && not (is_bad_key post.key))) ≡ false
    → answer_of t c (asks.Outbox name post) ≡ answer_of t c (asks.Outbox name other)

-- The answer for a delivery whose body is not read does not depend on the body: the caller is no
-- peer, or the body has another media type.
abbrev pub UnreadDeliveriesAreAnsweredAlike : Type 0
UnreadDeliveriesAreAnsweredAlike =
    (t : Town) (c : Caller) (name : List ℕ) (post other : Post)
    → post.is_typed ≡ other.is_typed → (is_peer c && post.is_typed) ≡ false
    → answer_of t c (asks.Inbox name post) ≡ answer_of t c (asks.Inbox name other)

-- A member's post that changes nothing earlier changes nothing that is known to a caller who does
-- not see it. So the agreement is not empty: a private post changes no answer to a stranger.
abbrev pub UnseenPostsTellNothing : Type 0
UnseenPostsTellNothing =
    (history : List Entry) (host name : List ℕ) (repeat : Option (List ℕ × List ℕ)) (a : Activity)
    (moment : ℕ) (c : Caller)
    → IsLegal history → (town history).host ≡ Some host
    → list_any (has_name name) (town history).actors ≡ true
    → changes_nothing (deed_of a.kind) ≡ true
    → sees (town history) c (local_act (town history) host name repeat a moment) ≡ false
    → Agree (town (history ++ Local name repeat a moment ∷ [])) (town history) c

-- The same holds for a delivery of a new id that changes nothing earlier and is not a Follow.
abbrev pub UnseenDeliveriesTellNothing : Type 0
UnseenDeliveriesTellNothing =
    (history : List Entry) (peer inbox owner author id : List ℕ) (a : Activity) (moment : ℕ)
    (c : Caller)
    → id_of (town history) inbox ≡ Some owner → a.actor ≡ Some author → a.id ≡ Some id
    → is_known (town history) id ≡ false
    → changes_nothing (deed_of a.kind) ≡ true → is_follow (deed_of a.kind) ≡ false
    → sees (town history) c (remote_act (town history) owner author a moment) ≡ false
    → Agree (town (history ++ Remote peer inbox a moment ∷ [])) (town history) c

-- A delivery of a known id reveals something only to the owner of its inbox.
abbrev pub AddedInboxesTellTheirOwners : Type 0
AddedInboxesTellTheirOwners =
    (history : List Entry) (host peer inbox author id : List ℕ) (a : Activity) (moment : ℕ)
    (c : Caller)
    → IsLegal history → (town history).host ≡ Some host
    → list_any (has_name inbox) (town history).actors ≡ true
    → a.actor ≡ Some author → a.id ≡ Some id → is_known (town history) id ≡ true
    → is_caller (town history) c ≡ true → is_self c inbox ≡ false
    → Agree (town (history ++ Remote peer inbox a moment ∷ [])) (town history) c

-- the caller is the peer of this host
abbrev pub is_peer_of : List ℕ → Caller → Bool
is_peer_of host callers.Nobody = false
is_peer_of host (callers.Actor name) = false
is_peer_of host (callers.Peer own) = bytes_eq host own

-- Adding a peer changes nothing that any caller knows except the peer itself.
abbrev pub AddedPeersTellThemselves : Type 0
AddedPeersTellThemselves =
    (history : List Entry) (host key address : List ℕ) (relay : Bool) (moment : ℕ) (c : Caller)
    → is_peer_of host c ≡ false
    → Agree (town (history ++ PeerSet host key address relay moment ∷ [])) (town history) c

-- An attempt to deliver changes nothing that any caller knows.
abbrev pub AttemptsTellNothing : Type 0
AttemptsTellNothing =
    (history : List Entry) (activity recipient : List ℕ) (came : Came) (moment : ℕ) (c : Caller)
    → Agree (town (history ++ Tried activity recipient came moment ∷ [])) (town history) c

-- an object, without what a Tombstone hides if it is one
abbrev pub bare_object : Object → Object
bare_object o = if is_tombstone o then bare_tombstone o else o

-- the town without what Tombstones hide
abbrev pub without_deleted : Town → Town
without_deleted t = record t { acts = map (rewrite_act bare_object) t.acts }

-- Histories that differ only in what Tombstones hide agree for everybody, so no caller learns it.
abbrev pub DeletedContentIsToldToNobody : Type 0
DeletedContentIsToldToNobody =
    (g h : List Entry) (c : Caller) → without_deleted (town g) ≡ without_deleted (town h)
    → Agree (town g) (town h) c

-- the caller is nobody or a member
abbrev pub is_no_peer : Caller → Bool
is_no_peer callers.Nobody = true
is_no_peer (callers.Actor name) = true
is_no_peer (callers.Peer host) = false

-- Whoever sees the Create of an object sees each Update and Delete of it that its author may post.
-- Whoever is separated from the author by a Block sees neither.
abbrev pub ChangesReachTheReaders : Type 0
ChangesReachTheReaders =
    (history : List Entry) (host name id : List ℕ) (repeat : Option (List ℕ × List ℕ))
    (a : Activity) (moment : ℕ) (m : Act) (c : Caller)
    → IsLegal (history ++ Local name repeat a moment ∷ []) → (town history).host ≡ Some host
    → (is_update (deed_of a.kind) || is_delete (deed_of a.kind)) ≡ true
    → ref_id (local_act (town history) host name repeat a moment).activity.object ≡ Some id
    → maker (town history) id ≡ Some m
    → m.author ≡ actor_id host name → is_no_peer c ≡ true → sees (town history) c m ≡ true
    → sees (town history) c (local_act (town history) host name repeat a moment) ≡ true

-- No answer, to any caller and for any ask, names a recipient that `bto` or `bcc` hides
-- (ActivityPub, section 6).
abbrev pub AnswersAreClean : Type 0
AnswersAreClean = (t : Town) (c : Caller) (ask : Ask) → is_clean_answer (answer_of t c ask) ≡ true

-- ---- objects and activities

-- The present state of an object is the object that its Create made, changed by each Update that
-- was done, one after another, and replaced with a Tombstone once a Delete was done (ActivityPub,
-- sections 6.2 to 6.4 and 7.2 to 7.4).
abbrev pub ObjectsAreReplayed : Type 0
ObjectsAreReplayed =
    (history : List Entry) (id : List ℕ) → object_at (town history) id ≡ replay id (acts_of history)

-- A Tombstone does not change, whatever comes after it.
abbrev pub TombstonesStay : Type 0
TombstonesStay =
    (history later : List Entry) (id : List ℕ) (o : Object) → object_at (town history) id ≡ Some o
    → is_tombstone o ≡ true
    → object_at (town (history ++ later)) id ≡ Some o

-- a Create of this object
abbrev pub creates : Object → Activity → Activity
creates o a = record a { kind = kinds.Create; object = Whole o }

-- a Delete of the object with this id
abbrev pub deletes : List ℕ → Activity → Activity
deletes id a = record a { kind = kinds.Delete; object = Id id }

-- The content of a deleted object leaves no trace: after its Delete the town is the same whatever
-- was in the properties that an Update may set, and so is everything that anybody may learn from
-- then on.
abbrev pub DeletedContentLeavesNoTrace : Type 0
DeletedContentLeavesNoTrace =
    (history later : List Entry) (host name id : List ℕ) (first second : Option (List ℕ × List ℕ))
    (a b : Activity) (o other : Object) (m n : ℕ)
    → (town history).host ≡ Some host
    → id ≡ object_id host name (count_of (town history) (actor_id host name) + 1)
    → list_any (makes id) (town history).acts ≡ false → is_tombstone o ≡ false
    → emptied o ≡ emptied other
    → town (history ++ Local name first (creates o a) m
    ∷ Local name second (deletes id b) n ∷ later)
    ≡ town (history ++ Local name first (creates other a) m
    ∷ Local name second (deletes id b) n ∷ later)

-- No object is made twice.
abbrev pub ObjectsAreMadeOnce : Type 0
ObjectsAreMadeOnce =
    (history : List Entry) (id : List ℕ) → PassesOnce (makes id) (town history).acts

-- In a legal history no two activities have the same id: an activity that is repeated does not act
-- a second time.
abbrev pub ActivitiesAreThereOnce : Type 0
ActivitiesAreThereOnce =
    (history : List Entry) → IsLegal history → (id : List ℕ)
    → PassesOnce (has_activity_id id) (town history).acts

-- ---- the next entry

-- The entry that an ask makes may come next, so each ask keeps a legal history legal.
abbrev pub AsksKeepHistoriesLegal : Type 0
AsksKeepHistoriesLegal =
    (history : List Entry) (c : Caller) (ask : Ask) (moment : ℕ) (e : Entry) → IsLegal history
    → IsPostable (town history) ask → entry_of (town history) c ask moment ≡ Some e
    → IsLegal (history ++ e ∷ [])

-- the entry is an attempt to deliver this activity to this recipient
abbrev pub is_attempt_of : List ℕ → List ℕ → Entry → Bool
is_attempt_of id recipient (Hosted host moment) = false
is_attempt_of id recipient (Made name digest locked moment) = false
is_attempt_of id recipient (PeerSet host key address relay moment) = false
is_attempt_of id recipient (Local name repeat a moment) = false
is_attempt_of id recipient (Remote peer inbox a moment) = false
is_attempt_of id recipient (Tried activity other came moment) =
    is_of_pair id recipient
    (record { activity = activity; recipient = other; came = came; moment = moment })

-- A delivery that is due stays due until it is tried.
abbrev pub DueDeliveriesStayDue : Type 0
DueDeliveriesStayDue =
    (history later : List Entry) (id recipient : List ℕ) (m n : ℕ) → IsLegal (history ++ later)
    → list_any (is_attempt_of id recipient) later ≡ false → m ≤ n
    → is_due (town history) id recipient m ≡ true
    → is_due (town (history ++ later)) id recipient n ≡ true

-- What is due is in the queue, and is due there.
abbrev pub DueDeliveriesAreQueued : Type 0
DueDeliveriesAreQueued =
    (t : Town) (id recipient : List ℕ) (moment : ℕ)
    → is_due t id recipient moment ≡ list_any (is_due_delivery id recipient moment) (queue t)

-- ---- members

-- In a legal history the name of a member is valid, and the member's id is the one that the name
-- gives at the host.
abbrev pub MembersHaveTheirIds : Type 0
MembersHaveTheirIds =
    (history : List Entry) (host name id : List ℕ) → IsLegal history
    → (town history).host ≡ Some host
    → id_of (town history) name ≡ Some id → (is_name name ≡ true) × (id ≡ actor_id host name)

-- What a caller sees in the collections that a member makes, and which of them, depends only on what
-- the caller is shown.
pub record BoardsTellWhatIsShown : Type 0 where
  pub pinned : (t : Town) (c : Caller) (author slug : List ℕ)
      → pinned t c author slug ≡ pinned_by author (board_id author slug) (view t c)
  pub boards : (t : Town) (c : Caller) (author : List ℕ)
      → boards t c author ≡ boards_by author (view t c)
