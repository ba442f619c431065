-- The JSON in which objects are shown (ActivityStreams 2.0 Core, sections 2 to 4). Absent
-- properties and empty lists are not written.
use Rattle.std.specs.Prelude.{ℕ, List, [], ◌++◌, map, length, Bool, true, false, not, ◌&&◌, ◌==◌}
use Rattle.std.specs.Prelude.{Option, Some, None, if◌then◌else◌, codes, bytes_eq}
use Rattle.serde_json.specs.Data.{Data, null, boolean, number, string, array, object, Items}
use Rattle.serde_json.specs.Data.{no_items, item, Members, no_members, member, put}
use Rattle.serde_json.specs.View.{items_of}
use Rattle.std.specs.Option.{option_copied}
use Rattle.fedi_objects.specs.Kinds.{kind_name}
use Rattle.fedi_objects.specs.declared.activity.Activity.{Activity}
use Rattle.fedi_objects.specs.declared.activity.ObjectRef.{ObjectRef}
use Rattle.fedi_objects.specs.declared.activity.ObjectRef.TheVariants as refs
use Rattle.fedi_objects.specs.declared.object.Tag.{Tag}
use Rattle.fedi_objects.specs.declared.object.Object.{Object}
use Rattle.fedi_objects.specs.declared.shown.Shown.{Shown}
use Rattle.fedi_objects.specs.declared.shown.ShownObject.{ShownObject}
use Rattle.fedi_objects.specs.declared.shown.ShownObject.TheVariants as shows

-- the members, with a text if there is one
unfoldable pub with_text : List ℕ → Option (List ℕ) → Members → Members
with_text key None ms = ms
with_text key (Some text) ms = put key (string text) ms

-- the members, with a list if it is not empty
unfoldable pub with_list : List ℕ → List Data → Members → Members
with_list key ds ms = if length ds == 0 then ms else put key (array (items_of ds)) ms

-- the members, with the one context at the top of a document (Core, section 2.1)
unfoldable pub with_context : Bool → Members → Members
with_context true ms =
    put (codes "@context") (string (codes "https://www.w3.org/ns/activitystreams")) ms
with_context false ms = ms

-- the members, with the addresses of an object's likes and shares (ActivityPub, sections 5.7 and
-- 5.8)
unfoldable pub with_collections : Bool → Option (List ℕ) → Members → Members
with_collections true (Some id) ms =
    put (codes "likes") (string (id ++ codes "/likes"))
    (put (codes "shares") (string (id ++ codes "/shares")) ms)
with_collections true None ms = ms
with_collections false id ms = ms

-- a mention (Vocabulary, section 5.5)
unfoldable pub tag_form : Tag → Data
tag_form t =
    object (put (codes "href") (string t.href) (put (codes "name") (string t.name)
    (put (codes "type") (string (codes "Mention")) no_members)))

-- the members, with the recipients, but never `bto` and `bcc` (ActivityPub, section 6)
unfoldable pub with_audience : List (List ℕ) → List (List ℕ) → List (List ℕ) → Members → Members
with_audience to cc audience ms =
    with_list (codes "audience") (map string audience)
    (with_list (codes "cc") (map string cc) (with_list (codes "to") (map string to) ms))

-- the members, with the content, the name, the summary and the mentions
unfoldable pub with_words : Option (List ℕ) → Option (List ℕ) → Option (List ℕ) → List Tag
    → Members → Members
with_words content summary name tags ms =
    with_text (codes "content") content
    (with_text (codes "name") name
    (with_text (codes "summary") summary (with_list (codes "tag") (map tag_form tags) ms)))

-- an object's type and times
unfoldable pub kind_members : Object → Members
kind_members o =
    with_text (codes "published") o.published
    (put (codes "type") (string o.kind) (with_text (codes "updated") o.updated no_members))

-- the members, with an object's own address and those of its likes and shares
unfoldable pub with_id : Bool → Option (List ℕ) → Members → Members
with_id local id ms = with_text (codes "id") id (with_collections local id ms)

-- the members, with the addresses that an object names
unfoldable pub with_links : Object → Members → Members
with_links o ms =
    with_text (codes "attributedTo") o.attributed_to
    (with_text (codes "inReplyTo") o.in_reply_to (with_text (codes "url") o.url ms))

-- the members of an object that was not deleted
abbrev pub live_members : Bool → Object → Members
live_members local o =
    with_links o
    (with_id local o.id
    (with_audience o.recipients.to o.recipients.cc o.recipients.audience
    (with_words o.content o.summary o.name o.tags (kind_members o))))

-- what is left of an object that was deleted (Vocabulary, section 3.3; ActivityPub, section 6.4)
unfoldable pub tombstone_members : Object → Members
tombstone_members o =
    with_text (codes "deleted") o.deleted
    (with_text (codes "formerType") o.former_kind
    (with_text (codes "id") o.id
    (put (codes "type") (string o.kind) no_members)))

-- the object was deleted (Vocabulary, section 3.3)
abbrev pub is_tombstone : Object → Bool
is_tombstone o = bytes_eq o.kind (codes "Tombstone")

-- what is shown of an object
abbrev pub object_members : Bool → Object → Members
object_members local o = if is_tombstone o then tombstone_members o else live_members local o

-- an object by itself, given whether it is this server's and whether it is a document of its own
unfoldable pub object_form : Bool → Bool → Object → Data
object_form local context o = object (with_context context (object_members local o))

-- the members, with what an activity is about: an address, or the object itself
unfoldable pub with_object : Bool → ObjectRef → Members → Members
with_object local refs.Nothing ms = ms
with_object local (refs.Id id) ms = put (codes "object") (string id) ms
with_object local (refs.Whole o) ms = put (codes "object") (object_form local false o) ms
with_object local (refs.Changed change) ms = ms

-- an activity's type and time
unfoldable pub activity_kind_members : Activity → Members
activity_kind_members a =
    with_text (codes "published") a.published
    (put (codes "type") (string (kind_name a.kind)) no_members)

-- the members, with an activity's author, its own address and those that it names
unfoldable pub with_activity_links : List ℕ → Activity → Members → Members
with_activity_links author a ms =
    put (codes "actor") (string author)
    (with_text (codes "id") a.id
    (with_text (codes "inReplyTo") a.in_reply_to
    (with_text (codes "target") a.target ms)))

-- what is shown of an author's activity
abbrev pub activity_members : Bool → List ℕ → Activity → Members
activity_members local author a =
    with_activity_links author a
    (with_object local a.object
    (with_audience a.recipients.to a.recipients.cc a.recipients.audience
    (with_words a.content a.summary a.name a.tags (activity_kind_members a))))

-- an author's activity by itself (Core, section 4.2), given whether it is this server's and whether
-- it is a document of its own
unfoldable pub activity_form : Bool → Bool → List ℕ → Activity → Data
activity_form local context author a =
    object (with_context context (activity_members local author a))

-- what a shown activity is about
abbrev pub object_in : ShownObject → ObjectRef
object_in shows.Nothing = refs.Nothing
object_in (shows.Id id) = refs.Id id.now
object_in (shows.Present o) = refs.Whole o

-- the activity that is shown, which names nobody in `bto` and `bcc`
abbrev pub shown_in : Shown → Activity
shown_in s = record {
  id = option_copied s.id;
  kind = s.kind;
  actor = Some s.author.now;
  object = object_in s.object;
  target = option_copied s.target;
  recipients =
      record { to = s.to.now; cc = s.cc.now; bto = []; bcc = []; audience = s.audience.now };
  in_reply_to = option_copied s.in_reply_to;
  content = option_copied s.content;
  summary = option_copied s.summary;
  name = option_copied s.name;
  published = option_copied s.published;
  tags = s.tags.now;
}

-- a member that everybody may see
abbrev pub is_open : List ℕ → Bool
is_open key = not (bytes_eq key (codes "bto")) && not (bytes_eq key (codes "bcc"))

-- no member at any depth is named `bto` or `bcc`
abbrev mutual
  pub is_clean : Data → Bool
  is_clean null = true
  is_clean (boolean b) = true
  is_clean (number n) = true
  is_clean (string s) = true
  is_clean (array ds) = items_are_clean ds
  is_clean (object ms) = members_are_clean ms

  pub items_are_clean : Items → Bool
  items_are_clean no_items = true
  items_are_clean (item d ds) = is_clean d && items_are_clean ds

  pub members_are_clean : Members → Bool
  members_are_clean no_members = true
  members_are_clean (member k d ms) = is_open k && (is_clean d && members_are_clean ms)
