-- An object as seen through the properties that may be shown.
use Rattle.std.specs.Prelude.{[]}
use Rattle.std.specs.Option.{option_copied}
use Rattle.fedi_objects.specs.declared.object.Object.{Object}
use Rattle.fedi_objects.specs.declared.shown.ObjectView.{ObjectView}

-- the object with these properties, which names nobody in `bto` and `bcc`
abbrev pub viewed : ObjectView → Object
viewed v = record {
  id = option_copied v.id;
  kind = v.kind.now;
  attributed_to = option_copied v.attributed_to;
  recipients =
      record { to = v.to.now; cc = v.cc.now; bto = []; bcc = []; audience = v.audience.now };
  in_reply_to = option_copied v.in_reply_to;
  content = option_copied v.content;
  summary = option_copied v.summary;
  name = option_copied v.name;
  url = option_copied v.url;
  published = option_copied v.published;
  updated = option_copied v.updated;
  former_kind = option_copied v.former_kind;
  deleted = option_copied v.deleted;
  tags = v.tags.now;
}
