-- What is read of an actor document (ActivityPub, section 4.1; ActivityStreams 2.0 Vocabulary,
-- section 4).
use Rattle.std.specs.Prelude.{ℕ, List, find, Bool, true, false, not, ◌||◌, Option, Some, None}
use Rattle.std.specs.Prelude.{is_some, codes, Result, Ok, Err}
use Rattle.serde_json.specs.Data.{Data}
use Rattle.serde_json.specs.Find.{as_object}
use Rattle.fedi_reading.specs.Activities.{reads_address}
use Rattle.fedi_reading.specs.Deliveries.{has_no}
use Rattle.fedi_reading.specs.DeliveryFaults.{is_bad_at}
use Rattle.fedi_reading.specs.Faults.{faults}
use Rattle.fedi_reading.specs.Properties.{reference_at, text_at}
use Rattle.fedi_reading.specs.Shapes.{◌>>=◌}
use Rattle.fedi_reading.specs.declared.actors.ActorDocument.{ActorDocument}
use Rattle.fedi_reading.specs.declared.shape_fault.ShapeFault.{ShapeFault}
use Rattle.fedi_reading.specs.declared.shape_fault.ShapeFault.TheVariants.{
  NotObject,
  BadContext,
  NoType,
  NoId,
  NoActor,
  NoObject,
  BadIri,
  TooManyRecipients,
  BadText,
  SelfTarget,
  Memory,
}

-- the `id` of an actor and the address of its inbox, with the name that it prefers
unfoldable pub reads_names : List ℕ → List ℕ → Data → Result ActorDocument ShapeFault
reads_names id inbox d = do
  own ← reads_address id
  there ← reads_address inbox
  Ok (record {
    id = own;
    inbox = there;
    preferred_username = text_at (codes "preferredUsername") d;
  })

-- an actor document with this `id`, whose inbox is still to be read
abbrev pub reads_inbox : List ℕ → Data → Option (List ℕ) → Result ActorDocument ShapeFault
reads_inbox id d None = Err NoObject
reads_inbox id d (Some inbox) = reads_names id inbox d

-- an actor document whose `id` is still to be read
abbrev pub reads_id : Data → Option (List ℕ) → Result ActorDocument ShapeFault
reads_id d None = Err NoId
reads_id d (Some id) = reads_inbox id d (reference_at (codes "inbox") d)

-- an actor document, if the value is an object
abbrev pub reads_members : Data → Bool → Result ActorDocument ShapeFault
reads_members d false = Err NotObject
reads_members d true = reads_id d (reference_at (codes "id") d)

-- an actor document
unfoldable pub reads_actor : Data → Result ActorDocument ShapeFault
reads_actor d = reads_members d (is_some (as_object d))

-- the fault holds of an actor document
abbrev pub has_actor_fault : Data → ShapeFault → Bool
has_actor_fault d NotObject = not (is_some (as_object d))
has_actor_fault d BadContext = false
has_actor_fault d NoType = false
has_actor_fault d NoId = has_no (codes "id") d
has_actor_fault d NoActor = false
has_actor_fault d NoObject = has_no (codes "inbox") d
has_actor_fault d BadIri = is_bad_at (codes "id") d || is_bad_at (codes "inbox") d
has_actor_fault d TooManyRecipients = false
has_actor_fault d BadText = false
has_actor_fault d SelfTarget = false
has_actor_fault d Memory = false

-- the fault with the least number that holds
unfoldable pub first_actor_fault : Data → Option ShapeFault
first_actor_fault d = find (has_actor_fault d) faults
