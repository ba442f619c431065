-- How JSON represents the properties of ActivityStreams (ActivityStreams 2.0 Core, sections 2 and
-- 4).
use Rattle.std.specs.Prelude.{ℕ, List, [], ◌∷◌, length, Bool, true, false, ◌||◌, nat_le, nat_lt}
use Rattle.std.specs.Prelude.{Option, Some, None, unwrap_or, option_and_then, if◌then◌else◌, codes}
use Rattle.std.specs.Prelude.{bytes_eq, Result, Ok, Err}
use Rattle.std.specs.Option.{option_map_or}
use Rattle.std.specs.List.{list_any}
use Rattle.serde_json.specs.Data.{Data, null, string, Items, no_items, item}
use Rattle.serde_json.specs.Find.{get, at, as_str, as_array}
use Rattle.fedi_address.specs.Iris.{normal}
use Rattle.fedi_objects.specs.Kinds.{kind_name, kinds}
use Rattle.fedi_objects.specs.Limits.{is_type}
use Rattle.fedi_reading.specs.declared.shape_fault.ShapeFault.{ShapeFault}
use Rattle.fedi_reading.specs.declared.shape_fault.ShapeFault.TheVariants.{NoType, BadText}

-- a property whose value is null is treated as absent (Core, section 2)
abbrev pub present : Data → Option Data
present null = None
present d = Some d

-- the value of a property, if it is present
unfoldable pub property : List ℕ → Data → Option Data
property key d = option_and_then present (get key d)

-- the text of a property, if it is a string (Core, section 4.7)
unfoldable pub text_at : List ℕ → Data → Option (List ℕ)
text_at key d = option_and_then as_str (get key d)

-- the entries of a list
abbrev pub list_of : Items → List Data
list_of no_items = []
list_of (item d ds) = d ∷ list_of ds

-- the values of a property that may have several: the entries of a list, or the single value (Core,
-- section 4)
unfoldable pub entries : Data → List Data
entries d = option_map_or list_of (as_array d) (d ∷ [])

-- the values of the property with this name, none if it is absent
unfoldable pub entries_at : List ℕ → Data → List Data
entries_at key d = option_map_or entries (property key d) []

-- where a single value is expected, a list counts as its first entry
unfoldable pub first_of : Data → Data
first_of d = unwrap_or (at 0 d) d

-- an object is named by its address, or is given as an object with its `id` (Core, section 4.1)
unfoldable pub named : Data → Option (List ℕ)
named (string text) = Some text
named d = text_at (codes "id") d

-- what a single-valued property names
unfoldable pub reference_at : List ℕ → Data → Option (List ℕ)
reference_at key d = option_and_then (λ value. named (first_of value)) (property key d)

-- the text is the context of ActivityStreams (Core, section 2.1)
unfoldable pub is_context : Data → Bool
is_context (string text) = bytes_eq text (codes "https://www.w3.org/ns/activitystreams")
is_context d = false

-- a document without a context is read as if it had this one (Core, section 2.1)
unfoldable pub has_context : Data → Bool
has_context d =
    option_map_or (λ value. list_any is_context (entries value))
    (property (codes "@context") d) true

-- a text of this form; any other text is skipped
abbrev pub formed : (List ℕ → Bool) → Option (List ℕ) → Option (List ℕ)
formed test None = None
formed test (Some text) = if test text then Some text else None

-- the type of a thing, the first one if it has several, of 1 to 64 bytes (Core, section 4.1)
unfoldable pub type_of : Data → Option (List ℕ)
type_of d =
    formed is_type (option_and_then (λ value. as_str (first_of value)) (property (codes "type") d))

-- the text is an activity type
unfoldable pub is_activity_type : List ℕ → Bool
is_activity_type text = list_any (λ kind. bytes_eq (kind_name kind) text) kinds

-- a type that a posted object must not have: an activity type, or that of deleted objects
-- (Vocabulary, section 3.3)
unfoldable pub makes_nothing : List ℕ → Bool
makes_nothing text = is_activity_type text || bytes_eq text (codes "Tombstone")

-- the type, if a client may post an object with it
abbrev pub made_type : Option (List ℕ) → Result (List ℕ) ShapeFault
made_type None = Err NoType
made_type (Some text) = if makes_nothing text then Err NoType else Ok text

-- the type of an object to be created
unfoldable pub reads_type : Data → Result (List ℕ) ShapeFault
reads_type d = made_type (type_of d)

-- a text that is kept has at most 65,536 bytes
abbrev pub kept_text : Option (List ℕ) → Result (Option (List ℕ)) ShapeFault
kept_text None = Ok None
kept_text (Some text) = if nat_lt 65536 (length text) then Err BadText else Ok (Some text)

-- the text of a property, which must not be too long
unfoldable pub reads_text : List ℕ → Data → Result (Option (List ℕ)) ShapeFault
reads_text key d = kept_text (text_at key d)

-- an address of at most 2,048 bytes
abbrev pub short_iri : List ℕ → Option (List ℕ)
short_iri text = if nat_le (length text) 2048 then Some text else None

-- the address that a text denotes: a web address of at most 2,048 bytes (Core, section 2.2)
unfoldable pub iri : List ℕ → Option (List ℕ)
iri text = option_and_then short_iri (normal text)
