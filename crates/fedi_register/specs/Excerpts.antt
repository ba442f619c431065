-- What is copied of an activity to show it to readers.
use Rattle.std.specs.Prelude.{ℕ, List, [], None}
use Rattle.fedi_address.specs.Recipients.{stripped}
use Rattle.fedi_objects.specs.declared.activity.ObjectRef.{ObjectRef}
use Rattle.fedi_objects.specs.declared.activity.ObjectRef.TheVariants.{Nothing, Id, Whole, Changed}
use Rattle.fedi_objects.specs.Objects.{stripped_object}
use Rattle.fedi_town.specs.declared.act.Act.{Act}

-- what the activity is about, without `bto` and `bcc` (ActivityPub, section 6), and without what a
-- client asked to change, which is shown in the changed object alone (section 6.3)
abbrev pub excerpt_ref : ObjectRef → ObjectRef
excerpt_ref Nothing = Nothing
excerpt_ref (Id id) = Id id
excerpt_ref (Whole o) = Whole (stripped_object o)
excerpt_ref (Changed change) = Id change.id

-- the activity without what no reader is shown of it: its `bto` and `bcc` (ActivityPub, section 6),
-- the `actor` that was given, as its author is shown in its place, and how it came and goes further
abbrev pub excerpt : Act → Act
excerpt x = record x {
  activity = record x.activity {
    actor = None;
    object = excerpt_ref x.activity.object;
    recipients = stripped x.activity.recipients;
  };
  repeat = None;
  recipients = [];
  forwards = [];
}
