-- What the replies to the two requests of a delivery show (RFC 9112, section 4; RFC 9110, section
-- 15).
use Rattle.std.specs.Prelude.{◌≡◌, ◌≢◌, ℕ, ◌≤◌, ◌&&◌, List, length, bytes_eq, Option, Some, None}
use Rattle.std.specs.Prelude.{Result, Ok, Err, if◌then◌else◌}
use Rattle.std.specs.declared.alloc.AllocError.{AllocError}
use Rattle.httparse.specs.Grammar.{ResponseHead, ReadsResponse, status_code}
use Rattle.serde_json.specs.Data.{Data}
use Rattle.fedi_address.specs.Iris.{host_of}
use Rattle.fedi_objects.specs.declared.entry.Came.{Came}
use Rattle.fedi_objects.specs.declared.entry.Sent.TheVariants.{Lookup, Post}
use Rattle.fedi_objects.specs.declared.entry.What.{What}
use Rattle.fedi_objects.specs.declared.entry.What.TheVariants.{Failed, NoHead, BadActor, Status}
use Rattle.fedi_reading.specs.Actors.{reads_actor}
use Rattle.fedi_reading.specs.Bodies.{IsBodyOf}
use Rattle.fedi_reading.specs.declared.actors.ActorDocument.{ActorDocument}
use Rattle.fedi_reading.specs.declared.shape_fault.ShapeFault.{ShapeFault}
use Rattle.fedi_delivery.specs.declared.replies.Found.{Found}
use Rattle.fedi_delivery.specs.declared.replies.Found.TheVariants.{Inbox, Ended}

-- ---- the head

-- the largest number of fields that are read from a head
abbrev pub most_fields : ℕ
most_fields = 64

-- The reply begins with a head of at most 64 fields and this status (RFC 9112, section 4), and the
-- rest follows. No status is below 100 (RFC 9110, section 15).
pub record HasHead (reply : List ℕ) (status : ℕ) (rest : List ℕ) : Type 0 where
  pub head : ResponseHead
  pub reads : ReadsResponse reply head rest
  pub few : length head.fields ≤ most_fields
  pub status_is : status ≡ status_code head
  pub known : 100 ≤ status

-- it does not begin with such a head
abbrev pub HasNoHead : List ℕ → Type 0
HasNoHead reply = (status : ℕ) (rest : List ℕ) → ¬ (HasHead reply status rest)

-- ---- the actor document

-- the inbox that a document names, if it is the recipient's, and the inbox is at the recipient's
-- host
abbrev pub inbox_of : List ℕ → Result ActorDocument ShapeFault → Option (List ℕ)
inbox_of recipient (Err fault) = None
inbox_of recipient (Ok document) =
    if bytes_eq document.id recipient && bytes_eq (host_of document.inbox) (host_of recipient)
    then Some document.inbox else None

-- the recipient's inbox, by the value of an actor document (ActivityPub, section 4.1)
unfoldable pub inbox_in : List ℕ → Data → Option (List ℕ)
inbox_in recipient d = inbox_of recipient (reads_actor d)

-- the bytes are JSON that names the recipient's inbox
abbrev pub NamesInbox : List ℕ → List ℕ → List ℕ → Type 0
NamesInbox recipient bytes inbox =
    (d : Data) × IsBodyOf bytes d × (inbox_in recipient d ≡ Some inbox)

-- the bytes are not JSON, or the JSON names no inbox of the recipient
abbrev pub NamesNone : List ℕ → List ℕ → Type 0
NamesNone recipient bytes = (d : Data) → IsBodyOf bytes d → inbox_in recipient d ≡ None

-- ---- the lookup

-- no inbox was found, and this is how the attempt ends
abbrev pub ended_by : What → Found
ended_by what = Ended (record { step = Lookup; what = what })

-- The reply to a lookup has no head, it has a status other than 200, or the bytes after its head do
-- not name the recipient's inbox.
abbrev pub EndsLookup : List ℕ → List ℕ → What → Type 0
EndsLookup recipient reply Failed = ⊥
EndsLookup recipient reply NoHead = HasNoHead reply
EndsLookup recipient reply BadActor =
    (rest : List ℕ) × HasHead reply 200 rest × NamesNone recipient rest
EndsLookup recipient reply (Status status) =
    (rest : List ℕ) × HasHead reply status rest × (status ≢ 200)

-- what the reply to a lookup shows: the recipient's inbox, or how the attempt ends
abbrev pub IsShown : List ℕ → List ℕ → Found → Type 0
IsShown recipient reply (Inbox inbox) =
    (rest : List ℕ) × HasHead reply 200 rest × NamesInbox recipient rest inbox
IsShown recipient reply (Ended came) = (came.step ≡ Lookup) × EndsLookup recipient reply came.what

-- what was heard of a lookup shows this: without a reply the attempt has failed
abbrev pub IsFoundIn : List ℕ → Option (List ℕ) → Found → Type 0
IsFoundIn recipient None found = found ≡ ended_by Failed
IsFoundIn recipient (Some reply) found = IsShown recipient reply found

-- what the bytes after a head with the status 200 show
abbrev pub IsShownBy : List ℕ → List ℕ → Found → Type 0
IsShownBy recipient bytes (Inbox inbox) = NamesInbox recipient bytes inbox
IsShownBy recipient bytes (Ended came) =
    (came ≡ record { step = Lookup; what = BadActor }) × NamesNone recipient bytes

-- memory is needed for a document alone: after a head with the status 200
abbrev pub HasDocument : Option (List ℕ) → Type 0
HasDocument None = ⊥
HasDocument (Some reply) = (rest : List ℕ) × HasHead reply 200 rest

-- what was heard of a lookup shows this, or there is no memory to read it
abbrev pub IsLookedUp : List ℕ → Option (List ℕ) → Result Found AllocError → Type 0
IsLookedUp recipient row (Ok found) = IsFoundIn recipient row found
IsLookedUp recipient row (Err e) = HasDocument row

-- ---- the post

-- How the reply to a post ends the attempt: it has no head, or it has this status.
abbrev pub EndsPost : List ℕ → What → Type 0
EndsPost reply Failed = ⊥
EndsPost reply NoHead = HasNoHead reply
EndsPost reply BadActor = ⊥
EndsPost reply (Status status) = (rest : List ℕ) × HasHead reply status rest

-- what was heard of a post means this for the attempt: without a reply it has failed
abbrev pub IsCameOfPost : Option (List ℕ) → Came → Type 0
IsCameOfPost None came = came ≡ record { step = Post; what = Failed }
IsCameOfPost (Some reply) came = (came.step ≡ Post) × EndsPost reply came.what

-- ---- only one result

-- What is heard of a lookup or of a post shows exactly one thing.
pub record ShowsOnce : Type 0 where
  pub lookup :
      (recipient : List ℕ) (row : Option (List ℕ)) (a b : Found)
      → IsFoundIn recipient row a → IsFoundIn recipient row b → a ≡ b
  pub post :
      (row : Option (List ℕ)) (a b : Came) → IsCameOfPost row a → IsCameOfPost row b → a ≡ b
