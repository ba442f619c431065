-- Objects, activities and changes with few properties, and objects without what is hidden.
use Rattle.std.specs.Prelude.{ℕ, List, [], None}
use Rattle.fedi_address.specs.Recipients.{nobody, stripped}
use Rattle.fedi_objects.specs.declared.kind.Kind.{Kind}
use Rattle.fedi_objects.specs.declared.kind.Kind.TheVariants.{Create}
use Rattle.fedi_objects.specs.declared.activity.Activity.{Activity}
use Rattle.fedi_objects.specs.declared.activity.ObjectRef.TheVariants.{Nothing, Whole}
use Rattle.fedi_objects.specs.declared.object.Object.{Object}
use Rattle.fedi_objects.specs.declared.object.Change.{Change}
use Rattle.fedi_objects.specs.declared.object.Edit.TheVariants.{Keep}

-- the object of this type, with no other property
abbrev pub object_of_kind : List ℕ → Object
object_of_kind kind = record {
  id = None;
  kind = kind;
  attributed_to = None;
  recipients = nobody;
  in_reply_to = None;
  content = None;
  summary = None;
  name = None;
  url = None;
  published = None;
  updated = None;
  former_kind = None;
  deleted = None;
  tags = [];
}

-- the activity of this type about nothing, with no other property
abbrev pub activity_of_kind : Kind → Activity
activity_of_kind kind = record {
  id = None;
  kind = kind;
  actor = None;
  object = Nothing;
  target = None;
  recipients = nobody;
  in_reply_to = None;
  content = None;
  summary = None;
  name = None;
  published = None;
  tags = [];
}

-- the Create of an object, for the same recipients (ActivityPub, section 6.2.1)
abbrev pub creation : Object → Activity
creation o = record (activity_of_kind Create) { object = Whole o; recipients = o.recipients }

-- the change that keeps each property
abbrev pub no_change : List ℕ → Change
no_change id = record {
  id = id;
  content = Keep;
  summary = Keep;
  name = Keep;
  url = Keep;
  in_reply_to = Keep;
  tags = Keep;
}

-- the object without `bto` and `bcc` (ActivityPub, section 6)
abbrev pub stripped_object : Object → Object
stripped_object o = record o { recipients = stripped o.recipients }
