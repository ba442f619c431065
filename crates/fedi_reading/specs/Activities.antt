-- What is read of an activity that a client posts (ActivityStreams 2.0 Vocabulary, sections 3 and
-- 4; ActivityPub, section 6).
use Rattle.std.specs.Prelude.{ℕ, List, length, find, Bool, true, false, ◌&&◌, nat_lt, Option, Some}
use Rattle.std.specs.Prelude.{None, is_none, is_some, option_and_then, if◌then◌else◌, codes}
use Rattle.std.specs.Prelude.{bytes_eq, Result, Ok, Err}
use Rattle.std.specs.Option.{option_map_or}
use Rattle.serde_json.specs.Data.{Data, null, boolean, number, string, array, object, Items}
use Rattle.serde_json.specs.Data.{no_items, item}
use Rattle.serde_json.specs.Find.{get, as_object}
use Rattle.fedi_address.specs.Recipients.{all_of, union as joined}
use Rattle.fedi_address.specs.declared.recipients.Recipients.{Recipients}
use Rattle.fedi_objects.specs.Kinds.{kind_name, kinds as all_kinds}
use Rattle.fedi_objects.specs.declared.activity.Activity.{Activity}
use Rattle.fedi_objects.specs.declared.activity.ObjectRef.{ObjectRef}
use Rattle.fedi_objects.specs.declared.activity.ObjectRef.TheVariants.{Nothing, Id, Whole, Changed}
use Rattle.fedi_objects.specs.declared.kind.Kind.{Kind}
use Rattle.fedi_objects.specs.declared.kind.Kind.TheVariants as kinds
use Rattle.fedi_objects.specs.declared.object.Change.{Change}
use Rattle.fedi_objects.specs.declared.object.Edit.{Edit}
use Rattle.fedi_objects.specs.declared.object.Edit.TheVariants.{Keep, Remove, Give}
use Rattle.fedi_objects.specs.declared.object.Tag.{Tag}
use Rattle.fedi_reading.specs.Properties.{property, reference_at, has_context, type_of, iri}
use Rattle.fedi_reading.specs.Reading.{reads_iri, reads_reply, reads_both, reads_people}
use Rattle.fedi_reading.specs.Reading.{reads_words, url_of, tags_of, made, reads_posted}
use Rattle.fedi_reading.specs.Shapes.{◌>>=◌}
use Rattle.fedi_reading.specs.declared.need.Need.{Need}
use Rattle.fedi_reading.specs.declared.need.Need.TheVariants as needs
use Rattle.fedi_reading.specs.declared.shape_fault.ShapeFault.{ShapeFault}
use Rattle.fedi_reading.specs.declared.shape_fault.ShapeFault.TheVariants.{BadContext, NoType}
use Rattle.fedi_reading.specs.declared.shape_fault.ShapeFault.TheVariants.{NoObject, BadIri}
use Rattle.fedi_reading.specs.declared.shape_fault.ShapeFault.TheVariants.{TooManyRecipients}
use Rattle.fedi_reading.specs.declared.shape_fault.ShapeFault.TheVariants.{SelfTarget}

-- ---- the type

-- the type of activity with this name
unfoldable pub kind_named : List ℕ → Option Kind
kind_named text = find (λ kind. bytes_eq (kind_name kind) text) all_kinds

-- the type of an activity, or nothing if a document has another type
unfoldable pub kind_of : Data → Option Kind
kind_of d = option_and_then kind_named (type_of d)

-- what an activity of this type needs as its object (ActivityPub, sections 6.2 to 6.10)
abbrev pub need_of : Kind → Need
need_of kinds.Create = needs.Whole
need_of kinds.Update = needs.Change
need_of kinds.Follow = needs.Another
need_of kinds.Block = needs.Another
need_of kinds.Accept = needs.Id
need_of kinds.Announce = needs.Id
need_of kinds.Delete = needs.Id
need_of kinds.Like = needs.Id
need_of kinds.Reject = needs.Id
need_of kinds.Undo = needs.Id
need_of _ = needs.Anything

-- ---- the object

-- A single value: a list of one entry counts as that entry; null and every other list count as
-- absent.
abbrev mutual
  pub one_value : Data → Option Data
  one_value null = None
  one_value (boolean b) = Some (boolean b)
  one_value (number n) = Some (number n)
  one_value (string text) = Some (string text)
  one_value (array ds) = one_entry ds
  one_value (object ms) = Some (object ms)

  pub one_entry : Items → Option Data
  one_entry no_items = None
  one_entry (item d no_items) = one_value d
  one_entry (item d (item e ds)) = None

-- what an activity is about (Vocabulary, section 4)
unfoldable pub object_at : Data → Option Data
object_at d = option_and_then one_value (property (codes "object") d)

-- a thing given as an object, and not by its address
abbrev pub itself : Data → Option Data
itself d = if is_some (as_object d) then Some d else None

-- the object that the activity contains
unfoldable pub embedded : Data → Option Data
embedded d = option_and_then itself (object_at d)

-- the object that a Create or an Update carries, if it contains one
abbrev pub carried : Need → Data → Option Data
carried needs.Whole d = embedded d
carried needs.Change d = embedded d
carried need d = None

-- the `id` of a thing, or the address that represents it
unfoldable pub id_of : Data → Option (List ℕ)
id_of (string text) = Some text
id_of d = reference_at (codes "id") d

-- the `id` of what the activity is about
unfoldable pub object_id : Data → Option (List ℕ)
object_id d = option_and_then id_of (object_at d)

-- a part that an activity must have
abbrev pub or_no_object : {A : Type 0} → Option A → Result A ShapeFault
or_no_object None = Err NoObject
or_no_object (Some x) = Ok x

-- a text that must be an address
unfoldable pub reads_address : List ℕ → Result (List ℕ) ShapeFault
reads_address text = option_map_or Ok (iri text) (Err BadIri)

-- ---- what each activity says

-- the actor or thing that an activity is directed to (Vocabulary, section 4)
unfoldable pub reads_target : Data → Result (Option (List ℕ)) ShapeFault
reads_target d = reads_iri (reference_at (codes "target") d)

-- An activity of this type, about this, with its target, what it replies to, its recipients, its
-- content, summary and name, and its mentions: the server sets its `id`, its actor and its time
-- (ActivityPub, section 6).
abbrev pub posted_activity : Kind → ObjectRef → Option (List ℕ) → Option (List ℕ) × Recipients
    → Option (List ℕ) × Option (List ℕ) × Option (List ℕ) → List Tag → Activity
posted_activity kind about target people words tags = record {
  id = None;
  kind = kind;
  actor = None;
  object = about;
  target = target;
  recipients = people.1;
  in_reply_to = people.0;
  content = words.0;
  summary = words.1;
  name = words.2;
  published = None;
  tags = tags;
}

-- ---- a Create (ActivityPub, section 6.2)

-- the type of an object to be created, which must not be that of deleted objects
abbrev pub new_type : Option (List ℕ) → Result (List ℕ) ShapeFault
new_type None = Err NoType
new_type (Some text) = if bytes_eq text (codes "Tombstone") then Err NoType else Ok text

-- the type of the object of a Create
unfoldable pub reads_new_type : Data → Result (List ℕ) ShapeFault
reads_new_type o = new_type (type_of o)

-- The recipients of a Create and its object: both have all recipients that either names
-- (ActivityPub, section 6.2).
unfoldable pub reads_audience : Data → Data → Result Recipients ShapeFault
reads_audience d o = do
  both ← reads_both 500 d o
  if nat_lt 500 (length (all_of (joined both.0 both.1))) then Err TooManyRecipients
      else Ok (joined both.0 both.1)

-- A Create of this object. The object's `id` must be an address, but is not kept.
unfoldable pub reads_creation : Data → Data → Result Activity ShapeFault
reads_creation d o = do
  kind ← reads_new_type o
  id ← reads_iri (reference_at (codes "id") o)
  target ← reads_target d
  object_reply ← reads_reply o
  reply ← reads_reply d
  recipients ← reads_audience d o
  words ← reads_words d
  object_words ← reads_words o
  Ok (posted_activity kinds.Create (Whole (made kind (object_reply, recipients) object_words
      (url_of o, tags_of o))) target (reply, recipients) words (tags_of d))

-- a Create: it creates the object that it contains
abbrev pub reads_create : Data → Result Activity ShapeFault
reads_create d = or_no_object (embedded d) >>= reads_creation d

-- ---- an Update (ActivityPub, section 6.3)

-- the value is null
abbrev pub is_null : Data → Bool
is_null null = true
is_null d = false

-- what is done to a property: a given value replaces it, null removes it (ActivityPub, section
-- 6.3.1)
abbrev pub edit : {A : Type 0} → List ℕ → Data → Option A → Edit A
edit key o (Some given) = Give given
edit key o None = if option_map_or is_null (get key o) false then Remove else Keep

-- the value can hold tags: a list, or one tag
abbrev pub holds_tags : Data → Bool
holds_tags (array ds) = true
holds_tags (object ms) = true
holds_tags d = false

-- the mentions, if tags are given
unfoldable pub given_tags : Data → Option (List Tag)
given_tags o =
    if option_map_or holds_tags (get (codes "tag") o) false then Some (tags_of o) else None

-- what is done to the object with this `id`
abbrev pub change : List ℕ → Data → Option (List ℕ)
    → Option (List ℕ) × Option (List ℕ) × Option (List ℕ) → Change
change id o reply words = record {
  id = id;
  content = edit (codes "content") o words.0;
  summary = edit (codes "summary") o words.1;
  name = edit (codes "name") o words.2;
  url = edit (codes "url") o (url_of o);
  in_reply_to = edit (codes "inReplyTo") o reply;
  tags = edit (codes "tag") o (given_tags o);
}

-- the `id` of the object that an Update changes
unfoldable pub reads_own_id : Data → Result (List ℕ) ShapeFault
reads_own_id o = or_no_object (reference_at (codes "id") o) >>= reads_address

-- an Update by this object, which contains the changes
unfoldable pub reads_changes : Data → Data → Result Activity ShapeFault
reads_changes d o = do
  id ← reads_own_id o
  target ← reads_target d
  object_reply ← reads_reply o
  people ← reads_people d
  words ← reads_words d
  object_words ← reads_words o
  Ok (posted_activity kinds.Update
      (Changed (change id o object_reply object_words)) target people words (tags_of d))

-- an Update: it changes the object whose `id` it contains
abbrev pub reads_update : Data → Result Activity ShapeFault
reads_update d = or_no_object (embedded d) >>= reads_changes d

-- ---- every other activity

-- something is named, if it is needed
abbrev pub needs_id : Need → Bool
needs_id needs.Anything = false
needs_id need = true

-- the `id` of what the activity is about
unfoldable pub reads_id : Need → Option (List ℕ) → Result (Option (List ℕ)) ShapeFault
reads_id need reference =
    if needs_id need && is_none reference then Err NoObject else reads_iri reference

-- the author follows or blocks the author
abbrev pub is_oneself : List ℕ → Need → Option (List ℕ) → Bool
is_oneself author needs.Another (Some id) = bytes_eq id author
is_oneself author need id = false

-- a thing by its `id`, if there is one
abbrev pub object_ref : Option (List ℕ) → ObjectRef
object_ref None = Nothing
object_ref (Some id) = Id id

-- an activity of another type, which keeps the `id` of its object
unfoldable pub reads_other : List ℕ → Kind → Need → Data → Result Activity ShapeFault
reads_other author kind need d = do
  id ← reads_id need (object_id d)
  target ← reads_target d
  people ← reads_people d
  words ← reads_words d
  if is_oneself author need id then Err SelfTarget
      else Ok (posted_activity kind (object_ref id) target people words (tags_of d))

-- ---- the whole

-- an activity of this type, which needs this
abbrev pub reads_by_need : List ℕ → Kind → Need → Data → Result Activity ShapeFault
reads_by_need author kind needs.Whole d = reads_create d
reads_by_need author kind needs.Change d = reads_update d
reads_by_need author kind need d = reads_other author kind need d

-- an activity of this type
abbrev pub reads_kind : List ℕ → Data → Kind → Result Activity ShapeFault
reads_kind author d kind =
    if has_context d then reads_by_need author kind (need_of kind) d else Err BadContext

-- What a client posts: an activity, or an object alone, which is read as a Create of it.
unfoldable pub reads_activity : List ℕ → Data → Result Activity ShapeFault
reads_activity author d = option_map_or (reads_kind author d) (kind_of d) (reads_posted d)
