-- What is wrong with what a client posts, fault by fault: with an activity, or with an object
-- alone.
use Rattle.std.specs.Prelude.{ℕ, List, ◌++◌, length, find, Bool, true, false, ◌&&◌, ◌||◌, nat_lt}
use Rattle.std.specs.Prelude.{Option, is_none, option_and_then, codes, bytes_eq}
use Rattle.std.specs.Option.{option_map_or}
use Rattle.std.specs.List.{list_any, filter_map}
use Rattle.serde_json.specs.Data.{Data}
use Rattle.fedi_address.specs.Recipients.{all_of, distinct}
use Rattle.fedi_address.specs.declared.recipients.Recipients.{Recipients}
use Rattle.fedi_reading.specs.Properties.{entries_at, reference_at, type_of, iri}
use Rattle.fedi_reading.specs.Reading.{is_bad, all_entries, recipient_of}
use Rattle.fedi_reading.specs.Activities.{kind_of, need_of, embedded, carried, object_id, needs_id}
use Rattle.fedi_reading.specs.Faults.{is_bad_reference, is_bad_reply, has_fault, faults}
use Rattle.fedi_reading.specs.declared.need.Need.{Need}
use Rattle.fedi_reading.specs.declared.need.Need.TheVariants.{Whole, Change, Another}
use Rattle.fedi_reading.specs.declared.shape_fault.ShapeFault.{ShapeFault}
use Rattle.fedi_reading.specs.declared.shape_fault.ShapeFault.TheVariants.{
  NotObject,
  BadContext,
  NoType,
  NoId,
  NoActor,
  NoObject,
  BadIri,
  TooManyRecipients,
  BadText,
  SelfTarget,
  Memory,
}

-- the activity creates the object that it contains, and the object passes this test
abbrev pub has_made : (Data → Bool) → Need → Data → Bool
has_made test Whole d = option_map_or test (embedded d) false
has_made test need d = false

-- the activity creates or changes the object that it contains, and the object passes this test
abbrev pub has_read : (Data → Bool) → Need → Data → Bool
has_read test need d = option_map_or test (carried need d) false

-- an object of this type cannot be created
abbrev pub has_wrong_type : Data → Bool
has_wrong_type o = option_map_or (λ text. bytes_eq text (codes "Tombstone")) (type_of o) true

-- the object that the activity needs is missing
abbrev pub lacks_object : Need → Data → Bool
lacks_object Whole d = is_none (embedded d)
lacks_object Change d = is_none (embedded d) || is_none (object_id d)
lacks_object need d = needs_id need && is_none (object_id d)

-- one of the entries names a recipient by an invalid address
abbrev pub has_bad_entry : Data → Bool
has_bad_entry d = list_any is_bad (all_entries d)

-- the recipients in a field of the Create, then those in that field of the object, each once
unfoldable pub named_by_both : List ℕ → Data → Data → List (List ℕ)
named_by_both key d o = distinct (filter_map recipient_of (entries_at key d ++ entries_at key o))

-- the recipients that a Create and its object name together
abbrev pub union : Data → Data → Recipients
union d o = record {
  to = named_by_both (codes "to") d o;
  cc = named_by_both (codes "cc") d o;
  bto = named_by_both (codes "bto") d o;
  bcc = named_by_both (codes "bcc") d o;
  audience = named_by_both (codes "audience") d o;
}

-- the object has too many entries, or names too many recipients together with its Create
abbrev pub has_crowd : Data → Data → Bool
has_crowd d o = has_fault o TooManyRecipients || nat_lt 500 (length (all_of (union d o)))

-- the activity must be about another actor, and it names the author
abbrev pub is_self : List ℕ → Need → Data → Bool
is_self author Another d =
    option_map_or (λ id. bytes_eq id author) (option_and_then iri (object_id d)) false
is_self author need d = false

-- the fault holds of an activity that a client posts, which needs this
abbrev pub has_activity_fault : List ℕ → Need → Data → ShapeFault → Bool
has_activity_fault author need d NotObject = has_fault d NotObject
has_activity_fault author need d BadContext = has_fault d BadContext
has_activity_fault author need d NoType = has_made has_wrong_type need d
has_activity_fault author need d NoId = false
has_activity_fault author need d NoActor = false
has_activity_fault author need d NoObject = lacks_object need d
has_activity_fault author need d BadIri =
    is_bad_reference (object_id d) || (is_bad_reference (reference_at (codes "target") d)
    || (has_read is_bad_reply need d
    || (is_bad_reply d || (has_bad_entry d || has_made has_bad_entry need d))))
has_activity_fault author need d TooManyRecipients =
    has_fault d TooManyRecipients || has_made (has_crowd d) need d
has_activity_fault author need d BadText =
    has_fault d BadText || has_read (λ o. has_fault o BadText) need d
has_activity_fault author need d SelfTarget = is_self author need d
has_activity_fault author need d Memory = false

-- The fault holds of what a client posts: an activity, by its type, or an object alone.
abbrev pub has_post_fault : List ℕ → Data → ShapeFault → Bool
has_post_fault author d fault =
    option_map_or (λ kind. has_activity_fault author (need_of kind) d fault) (kind_of d)
    (has_fault d fault)

-- the fault with the least number that holds
unfoldable pub first_post_fault : List ℕ → Data → Option ShapeFault
first_post_fault author d = find (has_post_fault author d) faults
