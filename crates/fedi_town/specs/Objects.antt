-- Objects: who made them, and their state after an Update or a Delete (ActivityPub, sections 6.2 to
-- 6.4 and 7.2 to 7.4).
use Rattle.std.specs.Prelude.{ℕ, Bool, true, false, ◌&&◌, List, [], Option, Some, None}
use Rattle.std.specs.Prelude.{option_and_then}
use Rattle.std.specs.List.{find}
use Rattle.fedi_objects.specs.declared.activity.ObjectRef.{ObjectRef}
use Rattle.fedi_objects.specs.declared.activity.ObjectRef.TheVariants.{Nothing, Id, Whole, Changed}
use Rattle.fedi_objects.specs.declared.object.Change.{Change}
use Rattle.fedi_objects.specs.declared.object.Edit.{Edit}
use Rattle.fedi_objects.specs.declared.object.Edit.TheVariants as edits
use Rattle.fedi_objects.specs.declared.object.Object.{Object}
use Rattle.fedi_objects.specs.Forms.{is_tombstone}
use Rattle.fedi_town.specs.declared.act.Act.{Act}
use Rattle.fedi_town.specs.Deeds.{is_create, is_done}
use Rattle.fedi_town.specs.Relations.{is_about}
use Rattle.fedi_town.specs.Towns.{Town, deed}

-- ---- who made an object

-- the object that an activity carries
abbrev pub whole_of : ObjectRef → Option Object
whole_of Nothing = None
whole_of (Id iri) = None
whole_of (Whole o) = Some o
whole_of (Changed change) = None

-- an activity carries an object
abbrev pub is_whole : ObjectRef → Bool
is_whole Nothing = false
is_whole (Id iri) = false
is_whole (Whole o) = true
is_whole (Changed change) = false

-- the activity made the object with this id: a Create that is done (ActivityPub, section 6.2)
unfoldable pub makes : List ℕ → Act → Bool
makes id x = (is_create (deed x) && is_done x.state) && is_about id x

-- the activity that made the object with this id
abbrev pub maker : Town → List ℕ → Option Act
maker t id = find (makes id) t.acts

-- the activity that made the object with this id, if there is one
abbrev pub maker_of : Town → Option (List ℕ) → Option Act
maker_of t id = option_and_then (maker t) id

-- the object that this activity carries
abbrev pub object_of : Option Act → Option Object
object_of None = None
object_of (Some m) = whole_of m.activity.object

-- the object with this id in its present state
abbrev pub object_at : Town → List ℕ → Option Object
object_at t id = object_of (maker t id)

-- there is an object, and it was deleted
abbrev pub is_tombstone_in : Option Object → Bool
is_tombstone_in None = false
is_tombstone_in (Some o) = is_tombstone o

-- it made an object, which was deleted
unfoldable pub is_deleted : Act → Bool
is_deleted x =
    (is_create (deed x) && is_done x.state) && is_tombstone_in (whole_of x.activity.object)

-- ---- what becomes of an object

-- a property after a client's Update: kept, removed by null, or replaced (ActivityPub, section
-- 6.3.1)
abbrev pub edit : {A : Type 0} → Edit A → Option A → Option A
edit edits.Keep old = old
edit edits.Remove old = None
edit (edits.Give new) old = Some new

-- a list after a client's Update, in the same way
abbrev pub edit_list : {A : Type 0} → Edit (List A) → List A → List A
edit_list edits.Keep old = old
edit_list edits.Remove old = []
edit_list (edits.Give new) old = new

-- the object after a client's Update (ActivityPub, section 6.3)
unfoldable pub change_object : Change → List ℕ → Object → Object
change_object c stamp o = record o {
  content = edit c.content o.content;
  summary = edit c.summary o.summary;
  name = edit c.name o.name;
  url = edit c.url o.url;
  in_reply_to = edit c.in_reply_to o.in_reply_to;
  tags = edit_list c.tags o.tags;
  updated = Some stamp;
}

-- the object after a peer's Update, which carries the whole object (ActivityPub, section 7.3)
unfoldable pub replace_object : Object → Object → Object
replace_object new o = record o {
  content = new.content;
  summary = new.summary;
  name = new.name;
  url = new.url;
  in_reply_to = new.in_reply_to;
  tags = new.tags;
  updated = new.updated;
}

-- the object after an Update that carries this
abbrev pub update_object : ObjectRef → List ℕ → Object → Object
update_object Nothing stamp o = o
update_object (Id iri) stamp o = o
update_object (Whole new) stamp o = replace_object new o
update_object (Changed c) stamp o = change_object c stamp o

-- an object without the properties that an Update may set (ActivityPub, section 6.3)
abbrev pub emptied : Object → Object
emptied o = record o {
  content = None;
  summary = None;
  name = None;
  url = None;
  in_reply_to = None;
  tags = [];
}

-- what is left of an object after a Delete (ActivityPub, section 6.4; ActivityStreams 2.0
-- Vocabulary, section 3.3)
unfoldable pub tombstone_of : List ℕ → List ℕ → Object → Object
tombstone_of kind stamp o =
    record (emptied o) { kind = kind; former_kind = Some o.kind; deleted = Some stamp }

-- what an activity carries, after a change of the object
abbrev pub rewrite_ref : (Object → Object) → ObjectRef → ObjectRef
rewrite_ref f Nothing = Nothing
rewrite_ref f (Id iri) = Id iri
rewrite_ref f (Whole o) = Whole (f o)
rewrite_ref f (Changed c) = Changed c

-- the activity, after a change of its object
unfoldable pub rewrite_act : (Object → Object) → Act → Act
rewrite_act f x =
    record x { activity = record x.activity { object = rewrite_ref f x.activity.object } }
