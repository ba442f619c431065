-- What is wrong with what another server delivers, fault by fault.
use Rattle.std.specs.Prelude.{ℕ, List, find, Bool, false, ◌&&◌, ◌||◌, Option, is_none}
use Rattle.std.specs.Prelude.{option_and_then, codes}
use Rattle.std.specs.Option.{option_map_or}
use Rattle.serde_json.specs.Data.{Data}
use Rattle.fedi_reading.specs.Activities.{carried, kind_of, need_of, needs_id, object_id}
use Rattle.fedi_reading.specs.ActivityFaults.{has_bad_entry, has_read, is_self}
use Rattle.fedi_reading.specs.Deliveries.{has_no}
use Rattle.fedi_reading.specs.Faults.{faults, has_fault, is_bad_reference, is_bad_reply}
use Rattle.fedi_reading.specs.Properties.{iri, reference_at, type_of}
use Rattle.fedi_reading.specs.Reading.{is_crowded}
use Rattle.fedi_reading.specs.declared.need.Need.{Need}
use Rattle.fedi_reading.specs.declared.need.Need.TheVariants.{Anything}
use Rattle.fedi_reading.specs.declared.shape_fault.ShapeFault.{ShapeFault}
use Rattle.fedi_reading.specs.declared.shape_fault.ShapeFault.TheVariants.{
  NotObject,
  BadContext,
  NoType,
  NoId,
  NoActor,
  NoObject,
  BadIri,
  TooManyRecipients,
  BadText,
  SelfTarget,
  Memory,
}

-- what an activity needs as its object; anything else needs nothing
abbrev pub needed : Data → Need
needed d = option_map_or need_of (kind_of d) Anything

-- this property names something, but by an invalid address
abbrev pub is_bad_at : List ℕ → Data → Bool
is_bad_at key d = is_bad_reference (reference_at key d)

-- the activity names its `id`, its actor, its target or what it replies to by an invalid address
abbrev pub has_bad_address : Data → Bool
has_bad_address d =
    is_bad_at (codes "id") d
    || (is_bad_at (codes "actor") d || (is_bad_at (codes "target") d || is_bad_reply d))

-- the object names the actor it is attributed to or what it replies to by an invalid address
abbrev pub has_bad_source : Data → Bool
has_bad_source o = is_bad_at (codes "attributedTo") o || is_bad_reply o

-- the fault holds of a delivery, which needs this
abbrev pub has_delivery_fault : Need → Data → ShapeFault → Bool
has_delivery_fault need d NotObject = has_fault d NotObject
has_delivery_fault need d BadContext = has_fault d BadContext
has_delivery_fault need d NoType = is_none (kind_of d) || has_read (λ o. is_none (type_of o)) need d
has_delivery_fault need d NoId = has_no (codes "id") d || has_read (has_no (codes "id")) need d
has_delivery_fault need d NoActor = has_no (codes "actor") d
has_delivery_fault need d NoObject =
    is_none (carried need d) && (needs_id need && is_none (object_id d))
has_delivery_fault need d BadIri =
    has_bad_address d || (is_bad_reference (object_id d) || (has_read has_bad_source need d
    || (has_bad_entry d || has_read has_bad_entry need d)))
has_delivery_fault need d TooManyRecipients = is_crowded 501 d || has_read (is_crowded 501) need d
has_delivery_fault need d BadText =
    has_fault d BadText || has_read (λ o. has_fault o BadText) need d
has_delivery_fault need d SelfTarget =
    option_map_or (λ actor. is_self actor need d)
    (option_and_then iri (reference_at (codes "actor") d)) false
has_delivery_fault need d Memory = false

-- the fault with the least number that holds
unfoldable pub first_delivery_fault : Data → Option ShapeFault
first_delivery_fault d = find (has_delivery_fault (needed d) d) faults
