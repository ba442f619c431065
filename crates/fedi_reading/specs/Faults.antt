-- What is wrong with an object that a client posts, fault by fault.
use Rattle.std.specs.Prelude.{ℕ, List, [], ◌∷◌, length, find, Bool, true, false, not, ◌||◌, nat_lt}
use Rattle.std.specs.Prelude.{Option, is_some, is_none, codes}
use Rattle.std.specs.Option.{option_map_or}
use Rattle.std.specs.List.{list_any}
use Rattle.serde_json.specs.Data.{Data}
use Rattle.serde_json.specs.Find.{as_object}
use Rattle.fedi_reading.specs.Properties.{text_at, reference_at, has_context, type_of}
use Rattle.fedi_reading.specs.Properties.{makes_nothing, iri}
use Rattle.fedi_reading.specs.Reading.{is_bad, all_entries, is_crowded}
use Rattle.fedi_reading.specs.declared.shape_fault.ShapeFault.{ShapeFault}
use Rattle.fedi_reading.specs.declared.shape_fault.ShapeFault.TheVariants.{
  NotObject,
  BadContext,
  NoType,
  NoId,
  NoActor,
  NoObject,
  BadIri,
  TooManyRecipients,
  BadText,
  SelfTarget,
  Memory,
}

-- something is named, but by an invalid address
abbrev pub is_bad_reference : Option (List ℕ) → Bool
is_bad_reference reference = option_map_or (λ text. is_none (iri text)) reference false

-- what is replied to is named, but by an invalid address
abbrev pub is_bad_reply : Data → Bool
is_bad_reply d = is_bad_reference (reference_at (codes "inReplyTo") d)

-- a text is too long to be kept
abbrev pub is_long : Option (List ℕ) → Bool
is_long text = option_map_or (λ bytes. nat_lt 65536 (length bytes)) text false

-- the fault holds of an object that a client posts; the faults of activities cannot
abbrev pub has_fault : Data → ShapeFault → Bool
has_fault d NotObject = not (is_some (as_object d))
has_fault d BadContext = not (has_context d)
has_fault d NoType = option_map_or makes_nothing (type_of d) true
has_fault d NoId = false
has_fault d NoActor = false
has_fault d NoObject = false
has_fault d BadIri = is_bad_reply d || list_any is_bad (all_entries d)
has_fault d TooManyRecipients = is_crowded 500 d
has_fault d BadText =
    list_any is_long
    (text_at (codes "content") d ∷ text_at (codes "summary") d ∷ text_at (codes "name") d ∷ [])
has_fault d SelfTarget = false
has_fault d Memory = false

-- the faults, in the order of their numbers
abbrev pub faults : List ShapeFault
faults =
    NotObject ∷ BadContext ∷ NoType ∷ NoId ∷ NoActor ∷ NoObject ∷ BadIri ∷ TooManyRecipients
    ∷ BadText ∷ SelfTarget ∷ []

-- the fault with the least number that holds
unfoldable pub first_fault : Data → Option ShapeFault
first_fault d = find (has_fault d) faults
