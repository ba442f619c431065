-- What is read of a client's activity has the shape of a post.
use Rattle.std.proofs.Common.{◌≡◌, ℕ, ◌≤◌, List, [], ◌++◌, length, Bool, true, false, cond, not, ◌&&◌, ◌||◌, Option, Some, None, codes, refl, sym, subst, ◌∙◌}
use Rattle.std.specs.Prelude.{Ok, Err, IsTrue, is_none, is_some}
use Rattle.std.specs.Option.{option_map_or}
use Rattle.std.specs.List.{filter_map}
use Rattle.std.proofs.lemmas.Bool.{le-leb}
use Rattle.serde_json.specs.Data.{Data}
use Rattle.serde_json.specs.Find.{get}
use Rattle.fedi_address.specs.Recipients.{all_of, distinct}
use Rattle.fedi_address.specs.declared.recipients.Recipients.{Recipients}
use Rattle.fedi_objects.specs.declared.activity.Activity.{Activity}
use Rattle.fedi_objects.specs.declared.kind.Kind.{Kind}
use Rattle.fedi_objects.specs.declared.kind.Kind.TheVariants as kinds
use Rattle.fedi_objects.specs.declared.object.Edit.TheVariants.{Keep, Remove}
use Rattle.fedi_objects.specs.declared.object.Tag.{Tag}
use Rattle.fedi_reading.specs.ActivityFaults.{named_by_both, union}
use Rattle.fedi_reading.specs.Activities.{kind_of, need_of, embedded, object_id, or_no_object, reads_creation, is_null, edit, holds_tags, given_tags, reads_changes, needs_id, reads_id, is_oneself, object_ref, reads_kind, reads_by_need, reads_activity}
use Rattle.fedi_reading.specs.Properties.{entries_at, has_context, iri}
use Rattle.fedi_reading.specs.Reading.{recipient_of, reads_iri, tags_of, reads_posted}
use Rattle.fedi_reading.specs.declared.shape_fault.ShapeFault.TheVariants.{BadContext, NoObject, BadIri}
use Rattle.fedi_reading.proofs.ActivityKept.{new_type_kept, audience_kept, IsCreation, creation_parts, IsUpdate, update_parts, IsOther, other_parts}
use Rattle.fedi_reading.proofs.KeptLemmas.{then_ok, words_kept, people_kept}
use Rattle.fedi_reading.specs.declared.need.Need.{Need}
use Rattle.fedi_town.specs.declared.deed.Deed.{Deed}
use Rattle.fedi_town.specs.Deeds.{deed_of, is_create, is_update, is_follow, is_block, is_other}
use Rattle.fedi_town.specs.Relations.{ref_id, is_id}
use Rattle.fedi_objects.specs.Limits.{is_text}
use Rattle.fedi_town.specs.Shapes.{is_none_or, is_each_once, are_addressed, are_tags, is_text_edit, is_tags_edit, is_posted_ref, is_posted}
use Rattle.fedi_town.proofs.Once.{once_folded}
use Rattle.fedi_model.proofs.Posted.{same_people, addressed, not_long, named_shortly, read_is_posted}

-- ---- a Create

once_named : (key : List ℕ) (d o : Data) → is_each_once (named_by_both key d o) ≡ true
unfolding named_by_both distinct
once_named key d o = once_folded [] (filter_map recipient_of (entries_at key d ++ entries_at key o)) refl

-- both together name at most 500 recipients, and none is repeated in a field
all_addressed : (d o : Data) (r : Recipients) → r ≡ union d o → length (all_of r) ≤ 500 → are_addressed 500 r ≡ true
all_addressed d o r same few =
    let count = le-leb (length (all_of r)) 500 few in
    let to : is_each_once r.to ≡ true = rw same (once_named (codes "to") d o) in
    let copied : is_each_once r.cc ≡ true = rw same (once_named (codes "cc") d o) in
    let bto : is_each_once r.bto ≡ true = rw same (once_named (codes "bto") d o) in
    let bcc : is_each_once r.bcc ≡ true = rw same (once_named (codes "bcc") d o) in
    let audience : is_each_once r.audience ≡ true = rw same (once_named (codes "audience") d o) in
    rw (count, to, copied, bto, bcc, audience) refl

creation_kept : (author : List ℕ) (d o : Data) (a : Activity) → IsCreation d o a → is_posted author a ≡ true
creation_kept author d o a h =
    let kind = new_type_kept o h.kind h.kind_read in
    let words = words_kept d h.words h.words_read in
    let content = not_long h.words.0 words.0 in
    let summary = not_long h.words.1 words.1 in
    let name = not_long h.words.2 words.2 in
    let object_words = words_kept o h.object_words h.object_words_read in
    let object_content = not_long h.object_words.0 object_words.0 in
    let object_summary = not_long h.object_words.1 object_words.1 in
    let object_name = not_long h.object_words.2 object_words.2 in
    let people = audience_kept d o h.recipients h.recipients_read in
    let reached = all_addressed d o h.recipients people.0 people.1 in
    let same = same_people h.recipients in
    let tags = named_shortly d in
    let object_tags = named_shortly o in
    subst (λ (x : Activity). is_posted author x ≡ true) (sym h.whole)
    (rw (kind.0, kind.1, content, summary, name, object_content, object_summary, object_name, reached, same, tags, object_tags) refl)

-- ---- an Update

edit_kept : (key : List ℕ) (o : Data) (given : Option (List ℕ)) → is_none_or is_text given ≡ true → is_text_edit (edit key o given) ≡ true
edit_kept key o None h =
    elim (option_map_or is_null (get key o) false) as (λ b. is_text_edit (cond b Remove Keep) ≡ true) [ true ↦ refl | false ↦ refl ]
edit_kept key o (Some text) h = h

tags_edit_kept : (key : List ℕ) (o : Data) (given : Option (List Tag)) → option_map_or are_tags given true ≡ true → is_tags_edit (edit key o given) ≡ true
tags_edit_kept key o None h =
    elim (option_map_or is_null (get key o) false) as (λ b. is_tags_edit (cond b Remove Keep) ≡ true) [ true ↦ refl | false ↦ refl ]
tags_edit_kept key o (Some tags) h = h

given_kept : (o : Data) → option_map_or are_tags (given_tags o) true ≡ true
unfolding given_tags
given_kept o =
    elim (option_map_or holds_tags (get (codes "tag") o) false) as (λ b. option_map_or are_tags (cond b (Some (tags_of o)) None) true ≡ true)
    [ true ↦ named_shortly o | false ↦ refl ]

update_kept : (author : List ℕ) (d o : Data) (a : Activity) → IsUpdate d o a → is_posted author a ≡ true
update_kept author d o a h =
    let words = words_kept d h.words h.words_read in
    let content = not_long h.words.0 words.0 in
    let summary = not_long h.words.1 words.1 in
    let name = not_long h.words.2 words.2 in
    let object_words = words_kept o h.object_words h.object_words_read in
    let object_content = edit_kept (codes "content") o h.object_words.0 (not_long h.object_words.0 object_words.0) in
    let object_summary = edit_kept (codes "summary") o h.object_words.1 (not_long h.object_words.1 object_words.1) in
    let object_name = edit_kept (codes "name") o h.object_words.2 (not_long h.object_words.2 object_words.2) in
    let object_tags = tags_edit_kept (codes "tag") o (given_tags o) (given_kept o) in
    let people = people_kept d h.people h.people_read in
    let reached = addressed 500 d h.people.1 people.0 people.1 in
    let tags = named_shortly d in
    subst (λ (x : Activity). is_posted author x ≡ true) (sym h.whole)
    (rw (content, summary, name, object_content, object_summary, object_name, object_tags, reached, tags) refl)

-- ---- every other activity

-- an address is read exactly if there is a text for it
pub read_there : (reference id : Option (List ℕ)) → reads_iri reference ≡ Ok id → is_none id ≡ is_none reference
read_there None id h = let same : None ≡ id = cc in rw (← same) refl
read_there (Some text) id h =
    elim (iri text) as (λ o. cond (is_some o) (Ok o) (Err BadIri) ≡ Ok id → is_none id ≡ false)
    [ None ↦ λ k. absurd cc | Some i ↦ λ k. let same : Some i ≡ id = cc in rw (← same) refl ] h

-- an `id` is there if one is needed
id_there : (need : Need) (reference id : Option (List ℕ)) → reads_id need reference ≡ Ok id → (needs_id need && is_none id) ≡ false
unfolding reads_id
id_there need reference id =
    elim (needs_id need && is_none reference) as (λ b. (needs_id need && is_none reference) ≡ b → cond b (Err NoObject) (reads_iri reference) ≡ Ok id → (needs_id need && is_none id) ≡ false)
    [ true ↦ λ same h. absurd cc | false ↦ λ same h. rw (read_there reference id h) same ] refl

-- an activity that needs no `id` has no effect
pub needs_same : (kind : Kind) → needs_id (need_of kind) ≡ not (is_other (deed_of kind))
needs_same kinds.Accept = refl
needs_same kind = refl

pub other_there : (b c : Bool) → (not b && c) ≡ false → (b || not c) ≡ true
other_there true c h = refl
other_there false true h = absurd cc
other_there false false h = refl

ref_kept : (d : Deed) (r : Recipients) (id : Option (List ℕ)) → is_create d ≡ false → is_update d ≡ false → (is_other d || not (is_none id)) ≡ true → is_posted_ref d r (object_ref id) ≡ true
ref_kept d r None h k l = elim (is_other d) as (λ b. (b || false) ≡ true → b ≡ true) [ true ↦ λ _. refl | false ↦ λ m. m ] l
ref_kept d r (Some id) h k l = rw (h, k) refl

-- a Follow or a Block is about another actor
pub self_same : (author : List ℕ) (kind : Kind) (id : Option (List ℕ)) → ((is_follow (deed_of kind) || is_block (deed_of kind)) && is_id author (ref_id (object_ref id))) ≡ is_oneself author (need_of kind) id
self_same author kinds.Follow None = refl
self_same author kinds.Follow (Some id) = refl
self_same author kinds.Block None = refl
self_same author kinds.Block (Some id) = refl
self_same author kind id = refl

other_kept : (author : List ℕ) (kind : Kind) (d : Data) (a : Activity) → is_create (deed_of kind) ≡ false → is_update (deed_of kind) ≡ false → IsOther author kind (need_of kind) d a → is_posted author a ≡ true
other_kept author kind d a no_create no_update h =
    let words = words_kept d h.words h.words_read in
    let content = not_long h.words.0 words.0 in
    let summary = not_long h.words.1 words.1 in
    let name = not_long h.words.2 words.2 in
    let people = people_kept d h.people h.people_read in
    let reached = addressed 500 d h.people.1 people.0 people.1 in
    let tags = named_shortly d in
    let needed : (not (is_other (deed_of kind)) && is_none h.id) ≡ false = rw (← needs_same kind) (id_there (need_of kind) (object_id d) h.id h.id_read) in
    let about : is_posted_ref (deed_of kind) h.people.1 (object_ref h.id) ≡ true = ref_kept (deed_of kind) h.people.1 h.id no_create no_update (other_there (is_other (deed_of kind)) (is_none h.id) needed) in
    let self = self_same author kind h.id ∙ h.of_another in
    subst (λ (x : Activity). is_posted author x ≡ true) (sym h.whole)
    (rw (content, summary, name, tags, reached, about, self) refl)

-- ---- the whole

kind_kept : (author : List ℕ) (d : Data) (a : Activity) (kind : Kind) → reads_by_need author kind (need_of kind) d ≡ Ok a → is_posted author a ≡ true
kind_kept author d a kinds.Create h =
    let found = then_ok (or_no_object (embedded d)) (reads_creation d) a h in
    creation_kept author d found.0 a (creation_parts d found.0 a found.2)
kind_kept author d a kinds.Update h =
    let found = then_ok (or_no_object (embedded d)) (reads_changes d) a h in
    update_kept author d found.0 a (update_parts d found.0 a found.2)
kind_kept author d a kind h = other_kept author kind d a refl refl (other_parts author kind (need_of kind) d a h)

post_kept : (author : List ℕ) (d : Data) (a : Activity) (found : Option Kind) → option_map_or (reads_kind author d) found (reads_posted d) ≡ Ok a → is_posted author a ≡ true
post_kept author d a None h = read_is_posted d a author h
post_kept author d a (Some kind) h =
    elim (has_context d) as (λ b. cond b (reads_by_need author kind (need_of kind) d) (Err BadContext) ≡ Ok a → is_posted author a ≡ true)
    [ true ↦ kind_kept author d a kind | false ↦ λ k. absurd cc ] h

pub activity_is_posted : (d : Data) (a : Activity) (author : List ℕ) → reads_activity author d ≡ Ok a → IsTrue (is_posted author a)
unfolding reads_activity
activity_is_posted d a author h = post_kept author d a (kind_of d) h
