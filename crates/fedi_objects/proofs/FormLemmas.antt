-- What is shown never names a hidden recipient.
use Rattle.std.proofs.Common.{◌≡◌, ℕ, List, [], ◌∷◌, map, length, Bool, true, false, ◌&&◌, cond, codes, Option, Some, None, refl}
use Rattle.std.specs.Prelude.{◌==◌}
use Rattle.std.specs.Ordering.{nat_cmp, match_ordering}
use Rattle.std.specs.declared.cmp.Ordering.TheVariants.{Less, Equal, Greater}
use Rattle.std.specs.Cmp.Lexicographic.{slice_cmp}
use Rattle.std.proofs.lemmas.Bool.{and_parts}
use Rattle.serde_json.specs.Data.{Data, string, array, object, Items, item, Members, no_members, member, put}
use Rattle.serde_json.specs.View.{items_of}
use Rattle.fedi_objects.specs.declared.object.Tag.{Tag}
use Rattle.fedi_objects.specs.declared.object.Object.{Object}
use Rattle.fedi_objects.specs.Kinds.{kind_name}
use Rattle.fedi_objects.specs.declared.activity.Activity.{Activity}
use Rattle.fedi_objects.specs.declared.activity.ObjectRef.{ObjectRef}
use Rattle.fedi_objects.specs.declared.activity.ObjectRef.TheVariants as refs
use Rattle.fedi_objects.specs.Objects.{stripped_object}
use Rattle.fedi_objects.specs.Forms.{is_open, is_clean, items_are_clean, members_are_clean, with_text, with_list, with_context, with_collections, tag_form, with_audience, with_words, kind_members, with_id, with_links, live_members, tombstone_members, is_tombstone, object_form, with_object, activity_kind_members, with_activity_links, activity_members, activity_form}

record IsShown (d : Data) : Type 0 where
  clean : is_clean d ≡ true

record AreShown (ds : Items) : Type 0 where
  clean : items_are_clean ds ≡ true

record HasShown (ms : Members) : Type 0 where
  clean : members_are_clean ms ≡ true

both : (a b : Bool) → a ≡ true → b ≡ true → (a && b) ≡ true
both a b h k = rw (h, k) refl

string_shown : (text : List ℕ) → IsShown (string text)
string_shown text = record { clean = refl }

object_shown : (ms : Members) → HasShown ms → IsShown (object ms)
object_shown ms h = record { clean = h.clean }

array_shown : (ds : Items) → AreShown ds → IsShown (array ds)
array_shown ds h = record { clean = h.clean }

none_shown : HasShown no_members
none_shown = record { clean = refl }

member_shown : (k : List ℕ) (d : Data) (ms : Members) → is_open k ≡ true → IsShown d → HasShown ms → HasShown (member k d ms)
member_shown k d ms free shown rest =
    record { clean = both _ _ free (both _ _ shown.clean rest.clean) }

-- the parts of a shown object's members
member_parts : (k : List ℕ) (d : Data) (ms : Members) → HasShown (member k d ms) → (is_open k ≡ true) × IsShown d × HasShown ms
member_parts k d ms h =
    let free = and_parts _ _ h.clean in
    let clean = and_parts _ _ free.1 in
    (free.0, record { clean = clean.0 }, record { clean = clean.1 })

put_shown : (k : List ℕ) (d : Data) (ms : Members) → is_open k ≡ true → IsShown d → HasShown ms → HasShown (put k d ms)
put_shown k d no_members free shown rest = member_shown k d no_members free shown rest
put_shown k d (member l e ms) free shown rest =
    let parts = member_parts l e ms rest in
    elim (slice_cmp nat_cmp k l) as (λ o. HasShown (match_ordering o (member k d (member l e ms)) (member l d ms) (member l e (put k d ms)))) [
      | Less ↦ member_shown k d (member l e ms) free shown rest
      | Equal ↦ member_shown l d ms parts.0 shown parts.2
      | Greater ↦ member_shown l e (put k d ms) parts.0 parts.1 (put_shown k d ms free shown parts.2)
    ]

with_text_shown : (k : List ℕ) (text : Option (List ℕ)) (ms : Members) → is_open k ≡ true → HasShown ms → HasShown (with_text k text ms)
unfolding with_text
with_text_shown k None ms free rest = rest
with_text_shown k (Some text) ms free rest = put_shown k (string text) ms free (string_shown text) rest

with_list_shown : (k : List ℕ) (ds : List Data) (ms : Members) → is_open k ≡ true → AreShown (items_of ds) → HasShown ms → HasShown (with_list k ds ms)
unfolding with_list
with_list_shown k ds ms free shown rest =
    elim (length ds == 0) as (λ b. HasShown (cond b ms (put k (array (items_of ds)) ms)))
    [ true ↦ rest | false ↦ put_shown k (array (items_of ds)) ms free (array_shown (items_of ds) shown) rest ]

item_shown : (d : Data) (ds : Items) → IsShown d → AreShown ds → AreShown (item d ds)
item_shown d ds h rest = record { clean = both _ _ h.clean rest.clean }

texts_shown : (texts : List (List ℕ)) → AreShown (items_of (map string texts))
texts_shown [] = record { clean = refl }
texts_shown (text ∷ texts) = item_shown (string text) _ (string_shown text) (texts_shown texts)

tag_shown : (t : Tag) → IsShown (tag_form t)
unfolding tag_form
tag_shown t =
    object_shown _ (put_shown (codes "href") _ _ refl (string_shown t.href)
    (put_shown (codes "name") _ _ refl (string_shown t.name)
    (put_shown (codes "type") _ _ refl (string_shown (codes "Mention")) none_shown)))

tags_shown : (tags : List Tag) → AreShown (items_of (map tag_form tags))
tags_shown [] = record { clean = refl }
tags_shown (t ∷ tags) = item_shown (tag_form t) _ (tag_shown t) (tags_shown tags)

with_context_shown : (context : Bool) (ms : Members) → HasShown ms → HasShown (with_context context ms)
unfolding with_context
with_context_shown true ms rest = put_shown (codes "@context") _ ms refl (string_shown _) rest
with_context_shown false ms rest = rest

with_collections_shown : (local : Bool) (id : Option (List ℕ)) (ms : Members) → HasShown ms → HasShown (with_collections local id ms)
unfolding with_collections
with_collections_shown true (Some id) ms rest =
    put_shown (codes "likes") _ _ refl (string_shown _) (put_shown (codes "shares") _ ms refl (string_shown _) rest)
with_collections_shown true None ms rest = rest
with_collections_shown false id ms rest = rest

texts_put : (k : List ℕ) (texts : List (List ℕ)) (ms : Members) → is_open k ≡ true → HasShown ms → HasShown (with_list k (map string texts) ms)
texts_put k texts ms free rest = with_list_shown k (map string texts) ms free (texts_shown texts) rest

with_audience_shown : (to cc audience : List (List ℕ)) (ms : Members) → HasShown ms → HasShown (with_audience to cc audience ms)
unfolding with_audience
with_audience_shown to cc audience ms rest =
    texts_put (codes "audience") audience _ refl (texts_put (codes "cc") cc _ refl (texts_put (codes "to") to ms refl rest))

with_words_shown : (content summary name : Option (List ℕ)) (tags : List Tag) (ms : Members) → HasShown ms → HasShown (with_words content summary name tags ms)
unfolding with_words
with_words_shown content summary name tags ms rest =
    with_text_shown (codes "content") content _ refl (with_text_shown (codes "name") name _ refl
    (with_text_shown (codes "summary") summary _ refl (with_list_shown (codes "tag") _ ms refl (tags_shown tags) rest)))

kind_members_shown : (o : Object) → HasShown (kind_members o)
unfolding kind_members
kind_members_shown o =
    with_text_shown (codes "published") o.published _ refl (put_shown (codes "type") _ _ refl (string_shown o.kind)
    (with_text_shown (codes "updated") o.updated no_members refl none_shown))

with_id_shown : (local : Bool) (id : Option (List ℕ)) (ms : Members) → HasShown ms → HasShown (with_id local id ms)
unfolding with_id
with_id_shown local id ms rest = with_text_shown (codes "id") id _ refl (with_collections_shown local id ms rest)

with_links_shown : (o : Object) (ms : Members) → HasShown ms → HasShown (with_links o ms)
unfolding with_links
with_links_shown o ms rest =
    with_text_shown (codes "attributedTo") o.attributed_to _ refl (with_text_shown (codes "inReplyTo") o.in_reply_to _ refl
    (with_text_shown (codes "url") o.url ms refl rest))

live_members_shown : (local : Bool) (o : Object) → HasShown (live_members local o)
live_members_shown local o =
    with_links_shown o _ (with_id_shown local o.id _ (with_audience_shown _ _ _ _ (with_words_shown _ _ _ o.tags _ (kind_members_shown o))))

tombstone_members_shown : (o : Object) → HasShown (tombstone_members o)
unfolding tombstone_members
tombstone_members_shown o =
    with_text_shown (codes "deleted") o.deleted _ refl (with_text_shown (codes "formerType") o.former_kind _ refl
    (with_text_shown (codes "id") o.id _ refl (put_shown (codes "type") _ no_members refl (string_shown o.kind) none_shown)))

object_form_shown : (local context : Bool) (o : Object) → IsShown (object_form local context o)
unfolding object_form
object_form_shown local context o =
    object_shown _ (with_context_shown context _ (elim (is_tombstone o) as (λ b. HasShown (cond b (tombstone_members o) (live_members local o)))
    [ true ↦ tombstone_members_shown o | false ↦ live_members_shown local o ]))

pub is_clean-object_form : (local context : Bool) (o : Object) → is_clean (object_form local context o) ≡ true
is_clean-object_form local context o = (object_form_shown local context o).clean

with_object_shown : (local : Bool) (o : ObjectRef) (ms : Members) → HasShown ms → HasShown (with_object local o ms)
unfolding with_object
with_object_shown local refs.Nothing ms rest = rest
with_object_shown local (refs.Id id) ms rest = put_shown (codes "object") _ ms refl (string_shown id) rest
with_object_shown local (refs.Whole o) ms rest = put_shown (codes "object") _ ms refl (object_form_shown local false o) rest
with_object_shown local (refs.Changed change) ms rest = rest

activity_kind_members_shown : (a : Activity) → HasShown (activity_kind_members a)
unfolding activity_kind_members
activity_kind_members_shown a =
    with_text_shown (codes "published") _ _ refl (put_shown (codes "type") _ no_members refl (string_shown (kind_name a.kind)) none_shown)

with_activity_links_shown : (author : List ℕ) (a : Activity) (ms : Members) → HasShown ms → HasShown (with_activity_links author a ms)
unfolding with_activity_links
with_activity_links_shown author a ms rest =
    put_shown (codes "actor") _ _ refl (string_shown author) (with_text_shown (codes "id") _ _ refl
    (with_text_shown (codes "inReplyTo") _ _ refl (with_text_shown (codes "target") _ ms refl rest)))

activity_members_shown : (local : Bool) (author : List ℕ) (a : Activity) → HasShown (activity_members local author a)
activity_members_shown local author a =
    with_activity_links_shown author a _ (with_object_shown local a.object _ (with_audience_shown _ _ _ _
    (with_words_shown _ _ _ a.tags _ (activity_kind_members_shown a))))

activity_form_shown : (local context : Bool) (author : List ℕ) (a : Activity) → IsShown (activity_form local context author a)
unfolding activity_form
activity_form_shown local context author a = object_shown _ (with_context_shown context _ (activity_members_shown local author a))

pub is_clean-activity_form : (local context : Bool) (author : List ℕ) (a : Activity) → is_clean (activity_form local context author a) ≡ true
is_clean-activity_form local context author a = (activity_form_shown local context author a).clean

-- the form of an object does not depend on `bto` and `bcc`
pub object_form_stripped : (local context : Bool) (o : Object) → object_form local context (stripped_object o) ≡ object_form local context o
unfolding object_form kind_members with_links tombstone_members
object_form_stripped local context o = refl
