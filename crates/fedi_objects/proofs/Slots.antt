-- The tokens of what is shown, member by member in the order of the keys.
use Rattle.std.proofs.Common.{◌≡◌, ℕ, List, [], ◌∷◌, map, length, Bool, true, false, cond, codes, Option, Some, None, option_map, refl, ap, ◌∙◌}
use Rattle.std.specs.Prelude.{◌==◌}
use Rattle.json.specs.Token.{Token}
use Rattle.json.specs.Tree.{json_tokens}
use Rattle.serde_json.specs.Data.{Data, string, array, object, Members, put}
use Rattle.serde_json.specs.View.{items_of}
use Rattle.serde_json.specs.Written.{outline}
use Rattle.fedi_objects.specs.Kinds.{kind_name}
use Rattle.fedi_objects.specs.declared.activity.Activity.{Activity}
use Rattle.fedi_objects.specs.declared.activity.ObjectRef.{ObjectRef}
use Rattle.fedi_objects.specs.declared.activity.ObjectRef.TheVariants as refs
use Rattle.fedi_objects.specs.declared.object.Object.{Object}
use Rattle.fedi_objects.specs.Forms.{with_text, with_list, with_context, with_collections, tag_form, with_audience, with_words, kind_members, with_id, with_links, live_members, tombstone_members, with_object, activity_kind_members, with_activity_links, activity_members, activity_form}
use Rattle.fedi_objects.specs.Writing.{listed, context_of, collection_of, object_value}
use Rattle.fedi_objects.proofs.Ordered.{Slot, with_member, put_all, sorted, slot_tokens, put_all_tokens}

with_text_slot : (k : List ℕ) (text : Option (List ℕ)) (ms : Members) → with_text k text ms ≡ with_member k (option_map string text) ms
unfolding with_text
with_text_slot k None ms = refl
with_text_slot k (Some text) ms = refl

with_list_slot : (k : List ℕ) (ds : List Data) (ms : Members) → with_list k ds ms ≡ with_member k (listed ds) ms
unfolding with_list listed
with_list_slot k ds ms =
    let d = array (items_of ds) in
    elim (length ds == 0) as (λ b. cond b ms (put k d ms) ≡ with_member k (cond b None (Some d)) ms) [ true ↦ refl | false ↦ refl ]

with_context_slot : (context : Bool) (ms : Members) → with_context context ms ≡ with_member (codes "@context") (context_of context) ms
unfolding with_context context_of
with_context_slot true ms = refl
with_context_slot false ms = refl

with_collections_slots : (local : Bool) (id : Option (List ℕ)) (ms : Members) → with_collections local id ms
    ≡ with_member (codes "likes") (collection_of local id (codes "/likes")) (with_member (codes "shares") (collection_of local id (codes "/shares")) ms)
unfolding with_collections collection_of
with_collections_slots true (Some id) ms = refl
with_collections_slots true None ms = refl
with_collections_slots false id ms = refl

with_object_slot : (local : Bool) (o : ObjectRef) (ms : Members) → with_object local o ms ≡ with_member (codes "object") (object_value local o) ms
unfolding with_object object_value
with_object_slot local refs.Nothing ms = refl
with_object_slot local (refs.Id id) ms = refl
with_object_slot local (refs.Whole o) ms = refl
with_object_slot local (refs.Changed change) ms = refl

-- a live object's members as its form puts them
abbrev live_slots : Bool → Bool → Object → List Slot
live_slots local context o =
    (codes "@context", context_of context)
    ∷ (codes "attributedTo", option_map string o.attributed_to)
    ∷ (codes "inReplyTo", option_map string o.in_reply_to)
    ∷ (codes "url", option_map string o.url)
    ∷ (codes "id", option_map string o.id)
    ∷ (codes "likes", collection_of local o.id (codes "/likes"))
    ∷ (codes "shares", collection_of local o.id (codes "/shares"))
    ∷ (codes "audience", listed (map string o.recipients.audience))
    ∷ (codes "cc", listed (map string o.recipients.cc))
    ∷ (codes "to", listed (map string o.recipients.to))
    ∷ (codes "content", option_map string o.content)
    ∷ (codes "name", option_map string o.name)
    ∷ (codes "summary", option_map string o.summary)
    ∷ (codes "tag", listed (map tag_form o.tags))
    ∷ (codes "published", option_map string o.published)
    ∷ (codes "type", Some (string o.kind))
    ∷ (codes "updated", option_map string o.updated)
    ∷ []

live_as_slots : (local context : Bool) (o : Object) → with_context context (live_members local o) ≡ put_all (live_slots local context o)
unfolding with_links with_id with_audience with_words kind_members
live_as_slots local context o = simp (with_context_slot, with_text_slot, with_list_slot, with_collections_slots) refl

pub live_tokens : (local context : Bool) (o : Object) → json_tokens (outline (object (with_context context (live_members local o))))
    ≡ Token.begin_object ∷ slot_tokens (sorted (live_slots local context o))
live_tokens local context o = ap (λ ms. json_tokens (outline (object ms))) (live_as_slots local context o) ∙ put_all_tokens (live_slots local context o) refl

-- the members of what is left of a deleted object, as its form puts them
abbrev tombstone_slots : Bool → Object → List Slot
tombstone_slots context o =
    (codes "@context", context_of context)
    ∷ (codes "deleted", option_map string o.deleted)
    ∷ (codes "formerType", option_map string o.former_kind)
    ∷ (codes "id", option_map string o.id)
    ∷ (codes "type", Some (string o.kind))
    ∷ []

tombstone_as_slots : (context : Bool) (o : Object) → with_context context (tombstone_members o) ≡ put_all (tombstone_slots context o)
unfolding tombstone_members
tombstone_as_slots context o = simp (with_context_slot, with_text_slot) refl

pub tombstone_tokens : (context : Bool) (o : Object) → json_tokens (outline (object (with_context context (tombstone_members o))))
    ≡ Token.begin_object ∷ slot_tokens (sorted (tombstone_slots context o))
tombstone_tokens context o = ap (λ ms. json_tokens (outline (object ms))) (tombstone_as_slots context o) ∙ put_all_tokens (tombstone_slots context o) refl

-- an activity's members as its form puts them
abbrev activity_slots : Bool → Bool → List ℕ → Activity → List Slot
activity_slots local context author a =
    (codes "@context", context_of context)
    ∷ (codes "actor", Some (string author))
    ∷ (codes "id", option_map string a.id)
    ∷ (codes "inReplyTo", option_map string a.in_reply_to)
    ∷ (codes "target", option_map string a.target)
    ∷ (codes "object", object_value local a.object)
    ∷ (codes "audience", listed (map string a.recipients.audience))
    ∷ (codes "cc", listed (map string a.recipients.cc))
    ∷ (codes "to", listed (map string a.recipients.to))
    ∷ (codes "content", option_map string a.content)
    ∷ (codes "name", option_map string a.name)
    ∷ (codes "summary", option_map string a.summary)
    ∷ (codes "tag", listed (map tag_form a.tags))
    ∷ (codes "published", option_map string a.published)
    ∷ (codes "type", Some (string (kind_name a.kind)))
    ∷ []

activity_as_slots : (local context : Bool) (author : List ℕ) (a : Activity)
    → with_context context (activity_members local author a) ≡ put_all (activity_slots local context author a)
unfolding with_activity_links with_audience with_words activity_kind_members
activity_as_slots local context author a = simp (with_context_slot, with_text_slot, with_list_slot, with_object_slot) refl

pub activity_tokens : (local context : Bool) (author : List ℕ) (a : Activity) → json_tokens (outline (activity_form local context author a))
    ≡ Token.begin_object ∷ slot_tokens (sorted (activity_slots local context author a))
unfolding activity_form
activity_tokens local context author a =
    ap (λ ms. json_tokens (outline (object ms))) (activity_as_slots local context author a) ∙ put_all_tokens (activity_slots local context author a) refl
