-- What is true of every world that a schedule reaches: deliveries come from where they say, and
-- what was delivered has arrived (ActivityPub, section 7).
use Rattle.std.specs.Prelude.{◌≡◌, ℕ, ◌≤◌, true, MatchBool, List, [], ◌∷◌, ◌++◌, slice_get, codes}
use Rattle.std.specs.Prelude.{Option, Some, Ok}
use Rattle.std.specs.List.{find}
use Rattle.std.specs.Str.{bytes_eq}
use Rattle.serde_json.specs.Data.{Data}
use Rattle.fedi_address.specs.Hosts.{IsHost, address}
use Rattle.fedi_address.specs.Iris.{IsIri, host_of}
use Rattle.fedi_address.specs.Recipients.{is_among}
use Rattle.fedi_model.specs.AnswerKinds.{Document}
use Rattle.fedi_model.specs.Reading.{activity_document}
use Rattle.fedi_objects.specs.declared.activity.Activity.{Activity}
use Rattle.fedi_objects.specs.declared.entry.Came.{Came}
use Rattle.fedi_objects.specs.declared.entry.Entry.{Entry}
use Rattle.fedi_objects.specs.declared.entry.Entry.TheVariants.{Hosted, Made, PeerSet, Local}
use Rattle.fedi_objects.specs.declared.entry.Entry.TheVariants.{Remote, Tried}
use Rattle.fedi_objects.specs.declared.kind.Kind.{Kind}
use Rattle.fedi_reading.specs.Deliveries.{reads_delivered}
use Rattle.fedi_town.specs.declared.act.Act.{Act}
use Rattle.fedi_town.specs.declared.act.Peer.{Peer}
use Rattle.fedi_town.specs.declared.outcome.Outcome.TheVariants.{Delivered}
use Rattle.fedi_town.specs.Addressing.{is_of_town}
use Rattle.fedi_town.specs.Histories.{town}
use Rattle.fedi_town.specs.Legal.{IsLegal}
use Rattle.fedi_town.specs.Lists.{PassesOnce}
use Rattle.fedi_town.specs.Origins.{has_inbox}
use Rattle.fedi_town.specs.Queues.{outcome}
use Rattle.fedi_town.specs.Relations.{has_activity_id}
use Rattle.fedi_town.specs.Towns.{Town, has_host, id_of}
use Rattle.fedi_worlds.specs.Events.{Event}
use Rattle.fedi_worlds.specs.Steps.{Runs}
use Rattle.fedi_worlds.specs.Worlds.{Server, World}

-- ---- the beginning

-- the history has set a server up and made members and peers, and nothing else
abbrev pub IsSetUp : List Entry → Type 0
IsSetUp [] = Unit {0}
IsSetUp (Hosted host moment ∷ h) = IsSetUp h
IsSetUp (Made name digest locked moment ∷ h) = IsSetUp h
IsSetUp (PeerSet host key address relay moment ∷ h) = IsSetUp h
IsSetUp (Local name repeat a moment ∷ h) = ⊥
IsSetUp (Remote peer inbox a moment ∷ h) = ⊥
IsSetUp (Tried activity recipient came moment ∷ h) = ⊥

-- A server as operators make it, with any keys: its host is one, and `https://HOST/` is an IRI; and
-- its history is legal and has set it up for this host, with its members and peers.
pub record IsNewServer (s : Server) : Type 0 where
  pub host : IsHost s.host
  pub root : IsIri (address s.host (codes "/"))
  pub hosted : (town s.history).host ≡ Some s.host
  pub legal : IsLegal s.history
  pub set_up : IsSetUp s.history

-- each server is new, no two have one host, and none has sent anything yet
pub record IsStart (w : World) : Type 0 where
  pub now : w.moment ≤ 253402300799
  pub servers : (n : ℕ) (s : Server) → slice_get w.servers n ≡ Some s → IsNewServer s
  pub hosts : (m n : ℕ) (s t : Server) → slice_get w.servers m ≡ Some s
      → slice_get w.servers n ≡ Some t → s.host ≡ t.host → m ≡ n
  pub requests : w.requests ≡ []
  pub replies : w.replies ≡ []
  pub attempts : w.attempts ≡ []

-- some server has this host, and this is true of its history
pub record Somewhere (servers : List Server) (host : List ℕ) (F : List Entry → Type 0)
    : Type 0 where
  pub number : ℕ
  pub server : Server
  pub there : slice_get servers number ≡ Some server
  pub host_is : server.host ≡ host
  pub fact : F server.history

-- ---- where deliveries come from

-- The activity is what a reader gets of the document of a member's activity (ActivityPub, section
-- 3.2), as the document was at some point of the member's server's history; and the owner of this
-- inbox is one of its recipients there.
pub record IsReadingOf (h : List Entry) (owner : List ℕ) (a : Activity) : Type 0 where
  pub seen : List Entry
  pub later : List Entry
  pub is : h ≡ seen ++ later
  pub place : ℕ
  pub act : Act
  pub there : slice_get (town seen).acts place ≡ Some act
  pub own : is_of_town (town seen).host act.author ≡ true
  pub document : Data
  pub shown : activity_document (town seen) act ≡ Document document
  pub reads : reads_delivered document ≡ Ok a
  pub reached : is_among owner act.recipients ≡ true

-- the server has accepted an activity with this id and of this kind from its member
pub record IsAccepted (h : List Entry) (id : Option (List ℕ)) (author : List ℕ)
    (kind : Kind) : Type 0 where
  pub seen : List Entry
  pub later : List Entry
  pub is : h ≡ seen ++ later
  pub place : ℕ
  pub act : Act
  pub there : slice_get (town seen).acts place ≡ Some act
  pub own : is_of_town (town seen).host act.author ≡ true
  pub id_is : act.activity.id ≡ id
  pub author_is : act.author ≡ author
  pub kind_is : act.activity.kind ≡ kind

-- the peer is a relay
abbrev pub IsRelay : Town → List ℕ → Type 0
IsRelay t host = (p : Peer) × (find (has_host host) t.peers ≡ Some p) × (p.relay ≡ true)

-- Where a delivery that was accepted comes from. If its actor's own server delivered it, it is what
-- a reader gets of a member's activity there, of which the owner of the inbox is a recipient. If
-- not, a relay delivered it, and the actor's server has accepted an activity with this id, actor
-- and kind; what else it says is up to the relay.
pub record HasOrigin (servers : List Server) (h : List Entry) (peer inbox : List ℕ)
    (a : Activity) : Type 0 where
  pub owner : List ℕ
  pub owned : id_of (town h) inbox ≡ Some owner
  pub actor : List ℕ
  pub by : a.actor ≡ Some actor
  pub from : MatchBool (bytes_eq peer (host_of actor))
      (Somewhere servers peer (λ g. IsReadingOf g owner a))
      (IsRelay (town h) peer
      × Somewhere servers (host_of actor) (λ g. IsAccepted g a.id actor a.kind))

-- each delivery that a server has accepted has its origin at another
abbrev pub HaveOrigins : World → Type 0
HaveOrigins w =
    (n k : ℕ) (s : Server) (peer inbox : List ℕ) (a : Activity) (moment : ℕ)
    → slice_get w.servers n ≡ Some s → slice_get s.history k ≡ Some (Remote peer inbox a moment)
    → HasOrigin w.servers s.history peer inbox a

-- Deliveries come from where they say (ActivityPub, section 3, on spoofed content), in every world
-- that events lead to from the beginning, whatever is lost, repeated or overtaken and whoever
-- crashes. What is supposed about keys is `no_peer` in `Asks` and `sent` in `Arrives`, and
-- about the way between servers `host` in `Arrives` and `sent` in `Reaches`.
abbrev pub DeliveriesHaveOrigins : Type 0
DeliveriesHaveOrigins =
    (w v : World) (events : List Event) → IsStart w → Runs w events v → HaveOrigins v

-- ---- what was delivered has arrived

-- the recipient's inbox has the activity with this id (ActivityPub, section 5.2), and the server
-- has it once
abbrev pub Has : List ℕ → List ℕ → List Entry → Type 0
Has id recipient h =
    (has_inbox (town h) (Some id) recipient ≡ true)
    × PassesOnce (has_activity_id id) (town h).acts

-- if a server has kept that an activity was delivered, its recipient's server has it
abbrev pub HaveArrived : World → Type 0
HaveArrived w =
    (n k : ℕ) (s : Server) (id recipient : List ℕ) (came : Came) (moment : ℕ)
    → slice_get w.servers n ≡ Some s
    → slice_get s.history k ≡ Some (Tried id recipient came moment) → outcome came ≡ Delivered
    → Somewhere w.servers (host_of recipient) (Has id recipient)

-- What was delivered has arrived and acts once (ActivityPub, sections 5.2 and 7.1), in every world
-- that events lead to from the beginning, whatever is lost, repeated or overtaken and whoever
-- crashes. What is supposed is as for `DeliveriesHaveOrigins`.
abbrev pub DeliveriesArrive : Type 0
DeliveriesArrive =
    (w v : World) (events : List Event) → IsStart w → Runs w events v → HaveArrived v
