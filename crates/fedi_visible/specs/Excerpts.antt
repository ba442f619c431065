-- What is shown of an activity, apart from the town in which it was found.
use Rattle.std.specs.Prelude.{ℕ, Bool, ◌&&◌, List, Option, Some, None, option_map, if◌then◌else◌}
use Rattle.fedi_address.specs.Recipients.{stripped}
use Rattle.fedi_objects.specs.declared.activity.Activity.{Activity}
use Rattle.fedi_objects.specs.declared.activity.ObjectRef.{ObjectRef}
use Rattle.fedi_objects.specs.declared.kind.State.{State}
use Rattle.fedi_objects.specs.declared.object.Object.{Object}
use Rattle.fedi_town.specs.declared.act.Act.{Act}
use Rattle.fedi_town.specs.Addressing.{is_of_town}
use Rattle.fedi_town.specs.Deeds.{is_create, is_update, is_done}
use Rattle.fedi_town.specs.Objects.{maker_of, object_of, whole_of}
use Rattle.fedi_town.specs.Relations.{ref_id}
use Rattle.fedi_town.specs.Showing.{object_or_id, present_object, shown_activity, shown_object}
use Rattle.fedi_town.specs.Towns.{Town, deed}
use Rattle.fedi_register.specs.Excerpts.{excerpt}

-- what everybody who sees an activity is shown of it
pub record Sight : Type 0 where
  pub author : List ℕ
  -- the activity, with its author as its actor
  pub shown : Activity
  -- its object in its present state, if it has one
  pub object : Option Object
  pub state : State
  -- everybody sees it
  pub public : Bool
  -- its author is a member of this server
  pub local : Bool

-- what is shown of the activity in this town
abbrev pub sight_at : Town → Act → Sight
sight_at t x = record {
  author = x.author;
  shown = record (shown_activity t x) { actor = Some x.author };
  object = option_map shown_object (present_object t x);
  state = x.state;
  public = x.is_public;
  local = is_of_town t.host x.author;
}

-- the activity without `bto` and `bcc` (ActivityPub, section 6), with its author as its actor and
-- with this object
abbrev pub shown_with : Act → ObjectRef → Activity
shown_with x object = record x.activity {
  actor = Some x.author;
  object = object;
  recipients = stripped x.activity.recipients;
}

-- ---- excerpts

-- what is copied of the activity that made the object which an Update changed
unfoldable pub maker_excerpt : Town → Act → Option Act
maker_excerpt t x =
    if is_update (deed x) && is_done x.state
    then option_map excerpt (maker_of t (ref_id x.activity.object)) else None

-- the object in its present state, given the activity that made what an Update changed
unfoldable pub object_given : Act → Option Act → Option Object
object_given x maker =
    if is_create (deed x) && is_done x.state then whole_of x.activity.object else (
    if is_update (deed x) && is_done x.state then object_of maker else None)

-- what is shown of the activity, given the activity that made what an Update changed, and whether
-- its author is a member
abbrev pub sight_in : Act → Option Act → Bool → Sight
sight_in x maker local = record {
  author = x.author;
  shown = shown_with x (object_or_id (object_given x maker) (ref_id x.activity.object));
  object = option_map shown_object (object_given x maker);
  state = x.state;
  public = x.is_public;
  local = local;
}
