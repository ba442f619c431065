-- The possible answers to a request, before they are written as HTTP.
use Rattle.std.specs.Prelude.{ℕ, List, Option, Some, None}
use Rattle.serde_json.specs.Data.{Data}
use Rattle.fedi_town.specs.declared.refusal.Refusal.{Refusal}
use Rattle.fedi_reading.specs.declared.shape_fault.ShapeFault.{ShapeFault}
use Rattle.fedi_model.specs.declared.ask.Allow.{Allow}

-- A refusal; a fault of shape; the methods of the path (RFC 9110, section 15.5.6); a document of
-- ActivityStreams or of WebFinger (15.3.1); what is left of a deleted object (15.5.11; ActivityPub,
-- section 6.4); the id of what was posted (15.3.2; ActivityPub, section 6); and that a delivery was
-- accepted (15.3.3).
pub data Answer : Type 0 where
  Refuse : Refusal → Answer
  Misshape : ShapeFault → Answer
  Disallow : Allow → Answer
  Document : Data → Answer
  Profile : Data → Answer
  Tombstone : Data → Answer
  Created : Option (List ℕ) → Answer
  Accepted : Answer

-- the refusal if there is one, else the answer
abbrev pub unless_refused : Option Refusal → Answer → Answer
unless_refused None a = a
unless_refused (Some r) a = Refuse r
