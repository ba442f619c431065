-- What is read of an activity that another server delivers (ActivityStreams 2.0 Vocabulary,
-- sections 3 and 4; ActivityPub, section 7).
use Rattle.std.specs.Prelude.{ℕ, List, Bool, false, not, ◌&&◌, ◌||◌, Option, Some, None, is_none}
use Rattle.std.specs.Prelude.{is_some, if◌then◌else◌, codes, Result, Ok, Err}
use Rattle.std.specs.Option.{option_map_or}
use Rattle.serde_json.specs.Data.{Data}
use Rattle.serde_json.specs.Find.{as_object}
use Rattle.fedi_address.specs.declared.recipients.Recipients.{Recipients}
use Rattle.fedi_objects.specs.Limits.{is_date, is_type}
use Rattle.fedi_objects.specs.Objects.{activity_of_kind, object_of_kind}
use Rattle.fedi_objects.specs.declared.activity.Activity.{Activity}
use Rattle.fedi_objects.specs.declared.activity.ObjectRef.{ObjectRef}
use Rattle.fedi_objects.specs.declared.activity.ObjectRef.TheVariants.{Whole}
use Rattle.fedi_objects.specs.declared.kind.Kind.{Kind}
use Rattle.fedi_objects.specs.declared.object.Object.{Object}
use Rattle.fedi_reading.specs.Activities.{carried, is_oneself, kind_of, need_of, needs_id}
use Rattle.fedi_reading.specs.Activities.{object_id, object_ref, reads_target}
use Rattle.fedi_reading.specs.Properties.{formed, has_context, reference_at, text_at, type_of}
use Rattle.fedi_reading.specs.Reading.{reads_iri, reads_reply, reads_few, reads_both, reads_words}
use Rattle.fedi_reading.specs.Reading.{url_of, tags_of}
use Rattle.fedi_reading.specs.Shapes.{◌>>=◌}
use Rattle.fedi_reading.specs.declared.need.Need.{Need}
use Rattle.fedi_reading.specs.declared.shape_fault.ShapeFault.{ShapeFault}
use Rattle.fedi_reading.specs.declared.shape_fault.ShapeFault.TheVariants.{NotObject, BadContext}
use Rattle.fedi_reading.specs.declared.shape_fault.ShapeFault.TheVariants.{NoType, NoId, NoActor}
use Rattle.fedi_reading.specs.declared.shape_fault.ShapeFault.TheVariants.{NoObject, SelfTarget}

-- ---- what a client does not set

-- a time, as the other server writes it (Vocabulary, section 4)
unfoldable pub date_at : List ℕ → Data → Option (List ℕ)
date_at key d = formed is_date (text_at key d)

-- what a deleted object was (Vocabulary, section 3.3)
unfoldable pub former_of : Data → Option (List ℕ)
former_of d = formed is_type (text_at (codes "formerType") d)

-- the actor that an object is attributed to (Vocabulary, section 4)
unfoldable pub reads_attributed : Data → Result (Option (List ℕ)) ShapeFault
reads_attributed o = reads_iri (reference_at (codes "attributedTo") o)

-- ---- addresses, which are read before anything is counted

-- the activity with its `id`, its actor, its target and what it replies to
unfoldable pub reads_addresses : Activity → Data → Result Activity ShapeFault
reads_addresses a d = do
  id ← reads_iri (reference_at (codes "id") d)
  actor ← reads_iri (reference_at (codes "actor") d)
  target ← reads_target d
  in_reply_to ← reads_reply d
  Ok (record a { id = id; actor = actor; target = target; in_reply_to = in_reply_to })

-- the object with its `id`, the actor that it is attributed to and what it replies to
unfoldable pub reads_own_addresses : Object → Data → Result Object ShapeFault
reads_own_addresses made o = do
  id ← reads_iri (reference_at (codes "id") o)
  attributed_to ← reads_attributed o
  in_reply_to ← reads_reply o
  Ok (record made { id = id; attributed_to = attributed_to; in_reply_to = in_reply_to })

-- ---- the other properties of an activity and an object

-- the activity, about this and for these recipients, with its content, summary and name, its time
-- and its mentions
abbrev pub said : Activity → ObjectRef → Recipients
    → Option (List ℕ) × Option (List ℕ) × Option (List ℕ) → Data → Activity
said a about recipients words d = record a {
  object = about;
  recipients = recipients;
  content = words.0;
  summary = words.1;
  name = words.2;
  published = date_at (codes "published") d;
  tags = tags_of d;
}

-- the object, for these recipients, with its content, summary and name, its url, its times, its
-- former type and its mentions
abbrev pub told : Object → Recipients → Option (List ℕ) × Option (List ℕ) × Option (List ℕ)
    → Data → Object
told made recipients words o = record made {
  recipients = recipients;
  content = words.0;
  summary = words.1;
  name = words.2;
  url = url_of o;
  published = date_at (codes "published") o;
  updated = date_at (codes "updated") o;
  former_kind = former_of o;
  deleted = date_at (codes "deleted") o;
  tags = tags_of o;
}

-- ---- an activity that carries no object

-- the actor follows or blocks itself
abbrev pub is_own_target : Option (List ℕ) → Need → Option (List ℕ) → Bool
is_own_target actor need about = option_map_or (λ author. is_oneself author need about) actor false

-- the activity as it is delivered, which keeps the `id` of its object
unfoldable pub reads_bare : Activity → Need → Data → Result Activity ShapeFault
reads_bare a need d = do
  addressed ← reads_addresses a d
  about ← reads_iri (object_id d)
  recipients ← reads_few 501 d
  words ← reads_words d
  if is_own_target addressed.actor need about then Err SelfTarget
      else Ok (said addressed (object_ref about) recipients words d)

-- this property names nothing
abbrev pub has_no : List ℕ → Data → Bool
has_no key d = is_none (reference_at key d)

-- an activity of this type, which carries no object
unfoldable pub reads_without : Kind → Data → Result Activity ShapeFault
reads_without kind d =
    if has_no (codes "id") d then Err NoId else (
    if has_no (codes "actor") d then Err NoActor else (
    if needs_id (need_of kind) && is_none (object_id d) then Err NoObject
    else reads_bare (activity_of_kind kind) (need_of kind) d))

-- ---- one that carries its object

-- The activity and its object as they are delivered. Each may have one entry more than a post,
-- since another server may have added a recipient that was implied.
unfoldable pub reads_full : Activity → Object → Data → Data → Result Activity ShapeFault
reads_full a made d o = do
  addressed ← reads_addresses a d
  own ← reads_own_addresses made o
  both ← reads_both 501 d o
  words ← reads_words d
  object_words ← reads_words o
  Ok (said addressed (Whole (told own both.1 object_words o)) both.0 words d)

-- an activity of this type, with an object of this other type
abbrev pub reads_with : Kind → Data → Data → Option (List ℕ) → Result Activity ShapeFault
reads_with kind d o None = Err NoType
reads_with kind d o (Some type) =
    if has_no (codes "id") d || has_no (codes "id") o then Err NoId else (
    if has_no (codes "actor") d then Err NoActor
    else reads_full (activity_of_kind kind) (object_of_kind type) d o)

-- ---- the whole

-- an activity of this type, which carries this object or no object
abbrev pub reads_carried : Kind → Data → Option Data → Result Activity ShapeFault
reads_carried kind d None = reads_without kind d
reads_carried kind d (Some o) = reads_with kind d o (type_of o)

-- an activity of this type
unfoldable pub reads_sent : Data → Kind → Result Activity ShapeFault
reads_sent d kind = reads_carried kind d (carried (need_of kind) d)

-- what another server delivers: an activity, since an object alone is not a valid delivery
unfoldable pub reads_delivered : Data → Result Activity ShapeFault
reads_delivered d =
    if not (is_some (as_object d)) then Err NotObject else (
    if not (has_context d) then Err BadContext else (
    option_map_or (reads_sent d) (kind_of d) (Err NoType)))
