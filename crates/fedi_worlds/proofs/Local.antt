-- What is used about one server, and about the texts that two exchange.
use Rattle.std.proofs.Common.{◌≡◌, ℕ, ◌<◌, ◌≤◌, ◌^◌, length, Bool, true, false, List, [], ◌∷◌, ◌++◌}
use Rattle.std.proofs.Common.{Some}
use Rattle.std.specs.Prelude.{◌⊎◌, slice_get, Ok, Result}
use Rattle.std.specs.Str.{bytes_eq}
use Rattle.fedi_address.specs.Iris.{host_of}
use Rattle.fedi_address.specs.Names.{is_name}
use Rattle.fedi_address.specs.Recipients.{is_among}
use Rattle.fedi_delivery.specs.Deliveries.{body_of, lookup_to, post_to}
use Rattle.fedi_delivery.specs.Replies.{IsCameOfPost, IsFoundIn}
use Rattle.fedi_delivery.specs.declared.replies.Found.TheVariants.{Inbox}
use Rattle.fedi_log.specs.Claims.{IsFirst}
use Rattle.fedi_model.specs.declared.ask.Ask.{Ask}
use Rattle.fedi_model.specs.declared.reply.Reply as replies
use Rattle.fedi_model.specs.declared.request.Request as requests
use Rattle.fedi_model.specs.Asks.{entry_of}
use Rattle.fedi_model.specs.Reading.{is_peer}
use Rattle.fedi_model.specs.ReplyText.{reply_text}
use Rattle.fedi_objects.specs.declared.activity.Activity.{Activity}
use Rattle.fedi_objects.specs.declared.entry.Came.{Came}
use Rattle.fedi_objects.specs.declared.entry.Entry.{Entry}
use Rattle.fedi_objects.specs.declared.entry.Entry.TheVariants.{Hosted, Made, PeerSet, Local}
use Rattle.fedi_objects.specs.declared.entry.Entry.TheVariants.{Remote, Tried}
use Rattle.fedi_reading.specs.Deliveries.{reads_delivered}
use Rattle.fedi_town.specs.declared.act.Act.{Act}
use Rattle.fedi_town.specs.declared.caller.Caller.{Caller}
use Rattle.fedi_town.specs.declared.outcome.Outcome.TheVariants.{Delivered}
use Rattle.fedi_town.specs.declared.refusal.Refusal.{Refusal}
use Rattle.fedi_town.specs.Addressing.{is_of_town}
use Rattle.fedi_town.specs.Histories.{town}
use Rattle.fedi_town.specs.Ids.{actor_id}
use Rattle.fedi_town.specs.Legal.{IsLegal}
use Rattle.fedi_town.specs.Origins.{has_inbox}
use Rattle.fedi_town.specs.Queues.{outcome, sends}
use Rattle.fedi_town.specs.Towns.{Town, id_of}
use Rattle.fedi_worlds.specs.Promises.{IsRelay}
use Rattle.fedi_worlds.specs.Steps.{Comes, IsAnswered, free_at}
use Rattle.fedi_worlds.specs.Worlds.{Server, Attempt}
use Rattle.fedi_worlds.proofs.Sites.{IsSite, IsServer}
use Rattle.fedi_worlds.proofs.Shown.{document_of}
use Rattle.fedi_worlds.proofs.Invariant.{IsRooted, IsOwn, IsInboxOf}

-- a member's post
abbrev pub IsLocalEntry : Entry → Type 0
IsLocalEntry (Hosted host moment) = ⊥
IsLocalEntry (Made name digest locked moment) = ⊥
IsLocalEntry (PeerSet host key address relay moment) = ⊥
IsLocalEntry (Local name repeat a moment) = Unit {0}
IsLocalEntry (Remote peer inbox a moment) = ⊥
IsLocalEntry (Tried activity recipient came moment) = ⊥

-- ---- one history

-- each activity is a member's own, or came by an entry
abbrev pub ActsAreRooted : Type 0
ActsAreRooted =
    (h : List Entry) (host : List ℕ) → IsLegal h → (town h).host ≡ Some host
    → (k : ℕ) (x : Act) → slice_get (town h).acts k ≡ Some x → IsRooted host h x

-- an activity stays in an inbox
abbrev pub InboxesKeep : Type 0
InboxesKeep =
    (h more : List Entry) (id owner : List ℕ) → has_inbox (town h) (Some id) owner ≡ true
    → has_inbox (town (h ++ more)) (Some id) owner ≡ true

-- the first part of a legal history is legal, and has the same host if it has one
abbrev pub FrontsAreLegal : Type 0
FrontsAreLegal = (h more : List Entry) → IsLegal (h ++ more) → IsLegal h

abbrev pub HostsStay : Type 0
HostsStay =
    (h more : List Entry) (host : List ℕ) → IsLegal (h ++ more) → (town h).host ≡ Some host
    → (town (h ++ more)).host ≡ Some host

-- a member stays, with its id
abbrev pub MembersStay : Type 0
MembersStay =
    (h more : List Entry) (name id : List ℕ) → IsLegal (h ++ more) → id_of (town h) name ≡ Some id
    → id_of (town (h ++ more)) name ≡ Some id

-- so does a relay
abbrev pub RelaysStay : Type 0
RelaysStay =
    (h more : List Entry) (host : List ℕ) → IsRelay (town h) host → IsRelay (town (h ++ more)) host

-- what may be claimed is an activity and somebody that it is sent to
pub record IsDue (t : Town) (id recipient : List ℕ) : Type 0 where
  pub place : ℕ
  pub act : Act
  pub holds : slice_get t.acts place ≡ Some act
  pub named : act.activity.id ≡ Some id
  pub reached : is_among recipient (sends t act) ≡ true

abbrev pub WhatIsFreeIsSent : Type 0
WhatIsFreeIsSent =
    (attempts : List Attempt) (n moment : ℕ) (h : List Entry) (id recipient : List ℕ)
    → IsFirst id recipient (free_at attempts n moment h) → IsDue (town h) id recipient

-- ---- answers

-- who is no peer makes no other entry than a post
abbrev pub OnlyPeersDeliver : Type 0
OnlyPeersDeliver =
    (t : Town) (c : Caller) (ask : Ask) (moment : ℕ) (e : Entry) → is_peer c ≡ false
    → entry_of t c ask moment ≡ Some e → IsLocalEntry e

-- a lookup makes no entry
abbrev pub LookupsOnlyRead : Type 0
LookupsOnlyRead =
    (t : Town) (recipient text : List ℕ) (h : List Entry) (moment : ℕ)
    (came : Result requests.Request Refusal) (body : List ℕ) (given : replies.Reply)
    (more : List Entry)
    → lookup_to t recipient ≡ Some text → Comes text came body
    → IsAnswered h moment came body given more
    → more ≡ []

-- a reply in which an inbox is found is the document of the member whose inbox it is
abbrev pub DocumentsAreMembers : Type 0
DocumentsAreMembers =
    (s : Server) (moment at : ℕ) (came : Result requests.Request Refusal) (body : List ℕ)
    (given : replies.Reply) (more : List Entry) (head_only last : Bool) (recipient inbox : List ℕ)
    → IsServer s → at ≤ 253402300799 → length given.body < 2 ^ 64
    → IsAnswered s.history moment came body given more
    → IsFoundIn recipient (Some (reply_text at head_only last given)) (Inbox inbox)
    → IsInboxOf recipient inbox

-- what a post adds to the history of the server that it reaches
abbrev pub AddsDelivery : (since h : List Entry) (own recipient : List ℕ) (x : Act) (moment : ℕ)
    → List Entry → Type 0
AddsDelivery since h own recipient x moment more =
    (more ≡ [])
    ⊎ ((name : List ℕ) × (a : Activity) × (more ≡ Remote own name a moment ∷ [])
    × (reads_delivered (document_of (town since) x) ≡ Ok a)
    × (id_of (town h) name ≡ Some recipient))

-- a post that its recipient's server answers
pub record IsDelivered (since : List Entry) (own id recipient : List ℕ) (x : Act) (s : Server)
    (moment : ℕ) (given : replies.Reply) (head_only last : Bool) (more : List Entry) : Type 0 where
  pub adds : AddsDelivery since s.history own recipient x moment more
  pub there : (came : Came) → IsCameOfPost (Some (reply_text moment head_only last given)) came
      → outcome came ≡ Delivered → has_inbox (town (s.history ++ more)) (Some id) recipient ≡ true

abbrev pub PostsDeliver : Type 0
PostsDeliver =
    (since : List Entry) (own id recipient inbox text : List ℕ) (place : ℕ) (x : Act) (s : Server)
    (moment : ℕ) (came : Result requests.Request Refusal) (body : List ℕ) (given : replies.Reply)
    (head_only last : Bool) (more : List Entry)
    → IsLegal since → (town since).host ≡ Some own → IsSite own
    → slice_get (town since).acts place ≡ Some x → x.activity.id ≡ Some id
    → (root : List ℕ) → IsSite root → IsOwn root x → length (body_of (town since) x) < 2 ^ 64
    → IsInboxOf recipient inbox
    → post_to (town since) recipient inbox (body_of (town since) x) ≡ Some text
    → IsServer s → s.host ≡ host_of recipient → Comes text came body
    → IsAnswered s.history moment came body given more → IsLegal (s.history ++ more)
    → IsDelivered since own id recipient x s moment given head_only last more

-- ---- documents

-- what is read of the document of a member's activity has its id, actor and kind
pub record IsSameActivity (x : Act) (a : Activity) : Type 0 where
  pub id : a.id ≡ x.activity.id
  pub actor : a.actor ≡ Some x.author
  pub kind : a.kind ≡ x.activity.kind

abbrev pub DocumentsAreRead : Type 0
DocumentsAreRead =
    (t : Town) (host : List ℕ) (x : Act) (a : Activity) → IsSite host → IsOwn host x
    → reads_delivered (document_of t x) ≡ Ok a → IsSameActivity x a

-- what a delivery must be to be accepted: its actor is of another host, and of the peer's or the
-- peer is a relay
pub record MayCome (t : Town) (host peer : List ℕ) (a : Activity) : Type 0 where
  pub actor : List ℕ
  pub by : a.actor ≡ Some actor
  pub away : bytes_eq (host_of actor) host ≡ false
  pub relayed : bytes_eq peer (host_of actor) ≡ false → IsRelay t peer

abbrev pub DeliveriesMayCome : Type 0
DeliveriesMayCome =
    (h : List Entry) (host peer inbox : List ℕ) (a : Activity) (moment : ℕ)
    → (town h).host ≡ Some host → IsLegal (h ++ Remote peer inbox a moment ∷ [])
    → MayCome (town h) host peer a

-- a member's id is of its host
abbrev pub MembersAreNear : Type 0
MembersAreNear =
    (host name : List ℕ) → IsSite host → is_name name ≡ true
    → (host_of (actor_id host name) ≡ host) × (is_of_town (Some host) (actor_id host name) ≡ true)

abbrev pub InboxesAreNear : Type 0
InboxesAreNear =
    (recipient inbox : List ℕ) → IsInboxOf recipient inbox → host_of inbox ≡ host_of recipient

pub record Locals : Type 0 where
  pub near : MembersAreNear
  pub inboxes : InboxesAreNear
  pub rooted : ActsAreRooted
  pub keep : InboxesKeep
  pub fronts : FrontsAreLegal
  pub hosts : HostsStay
  pub members : MembersStay
  pub relays : RelaysStay
  pub free : WhatIsFreeIsSent
  pub asks : OnlyPeersDeliver
  pub lookups : LookupsOnlyRead
  pub documents : DocumentsAreMembers
  pub posts : PostsDeliver
  pub reads : DocumentsAreRead
  pub may_come : DeliveriesMayCome
