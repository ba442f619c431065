-- What a reader is shown of an activity that the reader sees (ActivityPub, sections 3.2 and 6).
use Rattle.std.specs.Prelude.{ℕ, false, ◌&&◌, List, [], ◌∷◌, map, Option, Some, None, if◌then◌else◌}
use Rattle.fedi_address.specs.Recipients.{is_among, stripped}
use Rattle.fedi_objects.specs.declared.activity.Activity.{Activity}
use Rattle.fedi_objects.specs.declared.activity.ObjectRef.{ObjectRef}
use Rattle.fedi_objects.specs.declared.activity.ObjectRef.TheVariants.{Nothing, Id, Whole}
use Rattle.fedi_objects.specs.declared.object.Object.{Object}
use Rattle.fedi_objects.specs.Forms.{is_tombstone}
use Rattle.fedi_objects.specs.Objects.{object_of_kind, stripped_object}
use Rattle.fedi_town.specs.declared.act.Act.{Act}
use Rattle.fedi_town.specs.declared.caller.Caller.{Caller}
use Rattle.fedi_town.specs.declared.caller.Caller.TheVariants.{Nobody, Actor, Peer}
use Rattle.fedi_town.specs.Deeds.{is_create, is_update, is_done}
use Rattle.fedi_town.specs.Objects.{maker_of, object_of, whole_of}
use Rattle.fedi_town.specs.Relations.{ref_id}
use Rattle.fedi_town.specs.Seeing.{seen}
use Rattle.fedi_town.specs.Towns.{Town, deed, id_of}

-- just the id, if there is one
abbrev pub ref_to : Option (List ℕ) → ObjectRef
ref_to None = Nothing
ref_to (Some id) = Id id

-- the object in its present state, of the Create that made it and of each Update that changed it
unfoldable pub present_object : Town → Act → Option Object
present_object t x =
    if is_create (deed x) && is_done x.state then whole_of x.activity.object else (
    if is_update (deed x) && is_done x.state
    then object_of (maker_of t (ref_id x.activity.object)) else None)

-- a Tombstone with its four members only: `id`, `type`, `formerType` and `deleted` (ActivityStreams
-- 2.0 Vocabulary, section 3.3)
abbrev pub bare_tombstone : Object → Object
bare_tombstone o =
    record (object_of_kind o.kind) { id = o.id; former_kind = o.former_kind; deleted = o.deleted }

-- an object as it is shown: a Tombstone with these members only, any other without `bto` and `bcc`
-- (ActivityPub, section 6)
abbrev pub shown_object : Object → Object
shown_object o = if is_tombstone o then bare_tombstone o else stripped_object o

-- the object if there is one, else its id
abbrev pub object_or_id : Option Object → Option (List ℕ) → ObjectRef
object_or_id None id = ref_to id
object_or_id (Some o) id = Whole (shown_object o)

-- what is shown of what the activity is about
unfoldable pub shown_ref : Town → Act → ObjectRef
shown_ref t x = object_or_id (present_object t x) (ref_id x.activity.object)

-- the activity without `bto` and `bcc` (ActivityPub, section 6), with its object in its present
-- state
unfoldable pub shown_activity : Town → Act → Activity
shown_activity t x =
    record x.activity { recipients = stripped x.activity.recipients; object = shown_ref t x }

-- the caller's own id
abbrev pub id_of_caller : Town → Caller → Option (List ℕ)
id_of_caller t Nobody = None
id_of_caller t (Actor name) = id_of t name
id_of_caller t (Peer host) = None

-- only the caller, if it is among the recipients
abbrev pub own_among : Option (List ℕ) → List (List ℕ) → List (List ℕ)
own_among None recipients = []
own_among (Some id) recipients = if is_among id recipients then id ∷ [] else []

-- What the caller is shown: the activity, with the parts that no caller may know left empty. So
-- each test on an activity is a test on what is shown of it too.
unfoldable pub sight_of : Town → Caller → Act → Act
sight_of t c x = record {
  author = x.author;
  activity = shown_activity t x;
  repeat = None;
  moment = 0;
  recipients = own_among (id_of_caller t c) x.recipients;
  forwards = [];
  is_public = x.is_public;
  for_followers = false;
  state = x.state;
}

-- all that the caller is shown, in the order of acceptance
abbrev pub view : Town → Caller → List Act
view t c = map (sight_of t c) (seen t c)
