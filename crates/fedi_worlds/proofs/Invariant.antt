-- What is true of a world between two events.
use Rattle.std.proofs.Common.{◌≡◌, ℕ, ◌^◌, ◌<◌, ◌≤◌, true, false, List, ◌++◌, length, Some}
use Rattle.std.specs.Prelude.{◌⊎◌, slice_get}
use Rattle.std.specs.Str.{bytes_eq}
use Rattle.fedi_address.specs.Iris.{host_of}
use Rattle.fedi_address.specs.Names.{is_name}
use Rattle.fedi_address.specs.Recipients.{is_among}
use Rattle.fedi_delivery.specs.Deliveries.{body_of, lookup_to, post_to}
use Rattle.fedi_delivery.specs.Replies.{IsCameOfPost, IsFoundIn}
use Rattle.fedi_delivery.specs.declared.replies.Found.TheVariants.{Inbox}
use Rattle.fedi_objects.specs.declared.activity.Activity.{Activity}
use Rattle.fedi_objects.specs.declared.entry.Came.{Came}
use Rattle.fedi_objects.specs.declared.entry.Entry.{Entry}
use Rattle.fedi_objects.specs.declared.entry.Entry.TheVariants.{Remote, Tried}
use Rattle.fedi_town.specs.declared.act.Act.{Act}
use Rattle.fedi_town.specs.declared.outcome.Outcome.TheVariants.{Delivered}
use Rattle.fedi_town.specs.Histories.{town}
use Rattle.fedi_town.specs.Ids.{actor_id, activity_id, inbox_id}
use Rattle.fedi_town.specs.Origins.{has_inbox}
use Rattle.fedi_town.specs.Queues.{outcome, sends}
use Rattle.fedi_worlds.specs.Promises.{Somewhere, HaveOrigins}
use Rattle.fedi_worlds.specs.Worlds.{Server, Request, Reply, Attempt, Task, World, Posting}
use Rattle.fedi_worlds.proofs.Sites.{IsSite, IsServer}

-- ---- activities

-- the activity is a member's of this host
pub record IsOwn (host : List ℕ) (x : Act) : Type 0 where
  pub name : List ℕ
  pub number : ℕ
  pub named : is_name name ≡ true
  pub small : number < 2 ^ 32
  pub author : x.author ≡ actor_id host name
  pub id : x.activity.id ≡ Some (activity_id host name number)

-- the activity came by one of these entries, from another host
pub record IsTaken (host : List ℕ) (h : List Entry) (x : Act) : Type 0 where
  pub away : bytes_eq (host_of x.author) host ≡ false
  pub place : ℕ
  pub peer : List ℕ
  pub inbox : List ℕ
  pub a : Activity
  pub moment : ℕ
  pub there : slice_get h place ≡ Some (Remote peer inbox a moment)
  pub id : a.id ≡ x.activity.id
  pub actor : a.actor ≡ Some x.author
  pub kind : a.kind ≡ x.activity.kind

-- where an activity of a history comes from
pub record IsRooted (host : List ℕ) (h : List Entry) (x : Act) : Type 0 where
  pub actor : x.activity.actor ≡ Some x.author
  pub from : IsOwn host x ⊎ IsTaken host h x

-- ---- attempts

-- the recipient is a member of some server, and this is its inbox
pub record IsInboxOf (recipient inbox : List ℕ) : Type 0 where
  pub host : List ℕ
  pub name : List ℕ
  pub shape : IsSite host
  pub named : is_name name ≡ true
  pub recipient_is : recipient ≡ actor_id host name
  pub inbox_is : inbox ≡ inbox_id recipient

-- the task is to deliver an activity of the history to somebody that it is sent to
pub record IsTask (servers : List Server) (c : Task) : Type 0 where
  pub server : Server
  pub there : slice_get servers c.server ≡ Some server
  pub later : List Entry
  pub is : server.history ≡ c.since ++ later
  pub place : ℕ
  pub act : Act
  pub holds : slice_get (town c.since).acts place ≡ Some act
  pub named : act.activity.id ≡ Some c.activity
  pub reached : is_among c.recipient (sends (town c.since) act) ≡ true

-- the text is the post of the task
pub record IsPosted (c : Task) (text : List ℕ) : Type 0 where
  pub inbox : List ℕ
  pub found : IsInboxOf c.recipient inbox
  pub place : ℕ
  pub act : Act
  pub holds : slice_get (town c.since).acts place ≡ Some act
  pub named : act.activity.id ≡ Some c.activity
  pub short : length (body_of (town c.since) act) < 2 ^ 64
  pub sent : post_to (town c.since) c.recipient inbox (body_of (town c.since) act) ≡ Some text

-- the request is the lookup or the post of its task
pub record IsSent (attempts : List Attempt) (q : Request) : Type 0 where
  pub attempt : Attempt
  pub there : slice_get attempts q.attempt ≡ Some attempt
  pub host : q.host ≡ host_of attempt.task.recipient
  pub kind : (lookup_to (town attempt.task.since) attempt.task.recipient ≡ Some q.text)
      ⊎ IsPosted attempt.task q.text

-- this recipient's inbox has the activity
abbrev pub Shows : List ℕ → List ℕ → List Entry → Type 0
Shows id recipient h = has_inbox (town h) (Some id) recipient ≡ true

-- what a server has kept as delivered is there
abbrev pub HaveShown : World → Type 0
HaveShown w =
    (n k : ℕ) (s : Server) (id recipient : List ℕ) (came : Came) (moment : ℕ)
    → slice_get w.servers n ≡ Some s
    → slice_get s.history k ≡ Some (Tried id recipient came moment) → outcome came ≡ Delivered
    → Somewhere w.servers (host_of recipient) (Shows id recipient)

-- what a reply tells: an inbox that there is; and if it acknowledges a post, the activity is there
pub record IsHeard (servers : List Server) (requests : List Request) (attempts : List Attempt)
    (r : Reply) : Type 0 where
  pub request : Request
  pub asked : slice_get requests r.request ≡ Some request
  pub attempt : Attempt
  pub there : slice_get attempts request.attempt ≡ Some attempt
  pub shows : (inbox : List ℕ) → IsFoundIn attempt.task.recipient (Some r.text) (Inbox inbox)
      → IsInboxOf attempt.task.recipient inbox
  pub delivered : IsPosted attempt.task request.text → (came : Came)
      → IsCameOfPost (Some r.text) came
      → outcome came ≡ Delivered
      → Somewhere servers (host_of attempt.task.recipient)
      (Shows attempt.task.activity attempt.task.recipient)

-- after its post, the last request of an attempt is the post
abbrev pub IsPosting : List Request → Attempt → Type 0
IsPosting requests a =
    a.stage ≡ Posting
    → (q : Request) × (slice_get requests a.request ≡ Some q) × IsPosted a.task q.text

-- ---- the world

pub record IsWorld (w : World) : Type 0 where
  pub now : w.moment ≤ 253402300799
  pub servers : (n : ℕ) (s : Server) → slice_get w.servers n ≡ Some s → IsServer s
  pub origins : HaveOrigins w
  pub shown : HaveShown w
  pub tasks : (k : ℕ) (a : Attempt) → slice_get w.attempts k ≡ Some a → IsTask w.servers a.task
  pub posting : (k : ℕ) (a : Attempt) → slice_get w.attempts k ≡ Some a → IsPosting w.requests a
  pub sent : (k : ℕ) (q : Request) → slice_get w.requests k ≡ Some q → IsSent w.attempts q
  pub heard : (k : ℕ) (r : Reply) → slice_get w.replies k ≡ Some r
      → IsHeard w.servers w.requests w.attempts r
