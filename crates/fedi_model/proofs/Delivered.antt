-- What is read of a delivery has the shape of a delivery.
use Rattle.std.proofs.Common.{◌≡◌, ℕ, List, Bool, true, false, not, ◌&&◌, ◌||◌, Option, Some, None, codes, refl, sym, ap, subst, ⊎_elim, ◌∙◌}
use Rattle.std.specs.Prelude.{Ok, IsTrue, is_none, is_some}
use Rattle.std.specs.Option.{option_map_or}
use Rattle.std.proofs.lemmas.Bool.{or_parts}
use Rattle.serde_json.specs.Data.{Data}
use Rattle.fedi_objects.specs.Limits.{is_date, is_type}
use Rattle.fedi_objects.specs.Objects.{activity_of_kind, object_of_kind}
use Rattle.fedi_objects.specs.declared.activity.Activity.{Activity}
use Rattle.fedi_objects.specs.declared.activity.ObjectRef.TheVariants.{Whole}
use Rattle.fedi_objects.specs.declared.kind.Kind.{Kind}
use Rattle.fedi_objects.specs.declared.kind.Kind.TheVariants as kinds
use Rattle.fedi_objects.specs.declared.object.Object.{Object}
use Rattle.fedi_reading.specs.Activities.{carried, need_of, object_id, object_ref}
use Rattle.fedi_reading.specs.Deliveries.{date_at, former_of, has_no, is_own_target, reads_delivered, said, told}
use Rattle.fedi_reading.specs.Properties.{reference_at}
use Rattle.fedi_reading.specs.Reading.{reads_iri}
use Rattle.fedi_reading.proofs.DeliveryKept.{date_kept, former_kept, addressed_parts, own_parts, HasNoObject, HasObject, delivery_parts}
use Rattle.fedi_reading.proofs.KeptLemmas.{few_kept, both_kept, typed_kept, words_kept}
use Rattle.fedi_town.specs.declared.deed.Deed.{Deed}
use Rattle.fedi_town.specs.Deeds.{deed_of, is_create, is_update, is_other}
use Rattle.fedi_town.specs.Shapes.{is_none_or, is_object_within, is_delivered_ref, is_actor_target, is_delivered}
use Rattle.fedi_model.proofs.Posted.{addressed, not_long, named_shortly}
use Rattle.fedi_model.proofs.PostedActivity.{read_there, needs_same, other_there, self_same}

-- ---- what is there

some_of : {A : Type 0} (found : Option A) → is_none found ≡ false → is_some found ≡ true
some_of None h = absurd cc
some_of (Some x) h = refl

-- an address is read if the property is there
there : (key : List ℕ) (d : Data) (id : Option (List ℕ)) → has_no key d ≡ false → reads_iri (reference_at key d) ≡ Ok id → is_some id ≡ true
there key d id h k = some_of id (read_there (reference_at key d) id k ∙ h)

passes : (test : List ℕ → Bool) (found : Option (List ℕ)) → option_map_or test found true ≡ true → is_none_or test found ≡ true
passes test None h = refl
passes test (Some text) h = h

-- ---- an activity that carries no object

ref_sent : (deed : Deed) (about : Option (List ℕ)) → (is_other deed || not (is_none about)) ≡ true → is_delivered_ref deed (object_ref about) ≡ true
ref_sent deed None h = elim (is_other deed) as (λ b. (b || false) ≡ true → b ≡ true) [ true ↦ λ _. refl | false ↦ λ k. k ] h
ref_sent deed (Some id) h = refl

-- an actor follows or blocks another actor
another : (kind : Kind) (a : Activity) (actor about : Option (List ℕ)) → a.kind ≡ kind → a.object ≡ object_ref about → is_own_target actor (need_of kind) about ≡ false → is_actor_target actor a ≡ false
another kind a None about h k l = refl
another kind a (Some author) about h k l = rw (h, k) (self_same author kind about ∙ l)

bare_kept : (kind : Kind) (d : Data) (a : Activity) → HasNoObject kind d a → is_delivered a ≡ true
bare_kept kind d a h =
    let parts = addressed_parts (activity_of_kind kind) d h.bare.addressed h.bare.addresses_read in
    let words = words_kept d h.bare.words h.bare.words_read in
    let content = not_long h.bare.words.0 words.0 in
    let summary = not_long h.bare.words.1 words.1 in
    let name = not_long h.bare.words.2 words.2 in
    let published = passes is_date (date_at (codes "published") d) (date_kept (codes "published") d) in
    let few = few_kept 501 d h.bare.recipients h.bare.recipients_read in
    let reached = addressed 501 d h.bare.recipients few.0 few.1 in
    let tags = named_shortly d in
    let id = there (codes "id") d parts.id h.id_there parts.id_read in
    let actor = there (codes "actor") d parts.actor h.actor_there parts.actor_read in
    let needed : (not (is_other (deed_of kind)) && is_none h.bare.about) ≡ false =
    rw (← needs_same kind, read_there (object_id d) h.bare.about h.bare.about_read) h.about_there in
    let about = ref_sent (deed_of kind) h.bare.about (other_there (is_other (deed_of kind)) (is_none h.bare.about) needed) in
    let sender : h.bare.addressed.actor ≡ parts.actor = ap (λ (x : Activity). x.actor) parts.whole in
    let whole : Activity = said (record (activity_of_kind kind) { id = parts.id; actor = parts.actor; target = parts.target; in_reply_to = parts.in_reply_to }) (object_ref h.bare.about) h.bare.recipients h.bare.words d in
    let own = another kind whole parts.actor h.bare.about refl refl (ap (λ (x : Option (List ℕ)). is_own_target x (need_of kind) h.bare.about) (sym sender) ∙ h.bare.of_another) in
    let same : a ≡ whole = h.bare.whole ∙ ap (λ (x : Activity). said x (object_ref h.bare.about) h.bare.recipients h.bare.words d) parts.whole in
    subst (λ (x : Activity). is_delivered x ≡ true) (sym same)
    (rw (id, actor, content, summary, name, published, tags, reached, about, own) refl)

-- ---- one that carries its object

-- an activity that carries an object is a Create or an Update
carries : (kind : Kind) (d o : Data) → carried (need_of kind) d ≡ Some o → (is_create (deed_of kind) || is_update (deed_of kind)) ≡ true
carries kinds.Create d o h = refl
carries kinds.Update d o h = refl
carries kind d o h = absurd cc

-- and it does not follow or block its own actor
of_nobody : (kind : Kind) (d o : Data) (actor : Option (List ℕ)) (a : Activity) → carried (need_of kind) d ≡ Some o → a.kind ≡ kind → is_actor_target actor a ≡ false
of_nobody kinds.Create d o None a h k = refl
of_nobody kinds.Create d o (Some author) a h k = rw k refl
of_nobody kinds.Update d o None a h k = refl
of_nobody kinds.Update d o (Some author) a h k = rw k refl
of_nobody kind d o actor a h k = absurd cc

-- the object is within each limit
object_within : (d o : Data) (a : Activity) (kind : Kind) (h : HasObject kind d o a) → is_object_within 501 (told h.full.own h.full.both.1 h.full.object_words o) ≡ true
object_within d o a kind h =
    let own = own_parts (object_of_kind h.type) o h.full.own h.full.own_read in
    let type : is_type h.full.own.kind ≡ true = rw own.whole (typed_kept o h.type h.type_read) in
    let words = words_kept o h.full.object_words h.full.object_words_read in
    let content = not_long h.full.object_words.0 words.0 in
    let summary = not_long h.full.object_words.1 words.1 in
    let name = not_long h.full.object_words.2 words.2 in
    let published = passes is_date (date_at (codes "published") o) (date_kept (codes "published") o) in
    let updated = passes is_date (date_at (codes "updated") o) (date_kept (codes "updated") o) in
    let deleted = passes is_date (date_at (codes "deleted") o) (date_kept (codes "deleted") o) in
    let former = passes is_type (former_of o) (former_kept o) in
    let both = both_kept 501 d o h.full.both h.full.both_read in
    let reached = addressed 501 o h.full.both.1 both.1.0 both.1.1 in
    rw (type, content, summary, name, published, updated, deleted, former, named_shortly o, reached) refl

full_kept : (kind : Kind) (d o : Data) (a : Activity) → carried (need_of kind) d ≡ Some o → HasObject kind d o a → is_delivered a ≡ true
full_kept kind d o a k h =
    let parts = addressed_parts (activity_of_kind kind) d h.full.addressed h.full.addresses_read in
    let own = own_parts (object_of_kind h.type) o h.full.own h.full.own_read in
    let ids = or_parts (has_no (codes "id") d) (has_no (codes "id") o) h.ids_there in
    let id = there (codes "id") d parts.id ids.0 parts.id_read in
    let own_id : is_some h.full.own.id ≡ true = rw own.whole (there (codes "id") o own.id ids.1 own.id_read) in
    let actor = there (codes "actor") d parts.actor h.actor_there parts.actor_read in
    let words = words_kept d h.full.words h.full.words_read in
    let content = not_long h.full.words.0 words.0 in
    let summary = not_long h.full.words.1 words.1 in
    let name = not_long h.full.words.2 words.2 in
    let published = passes is_date (date_at (codes "published") d) (date_kept (codes "published") d) in
    let both = both_kept 501 d o h.full.both h.full.both_read in
    let reached = addressed 501 d h.full.both.0 both.0.0 both.0.1 in
    let made : Object = told h.full.own h.full.both.1 h.full.object_words o in
    let within = object_within d o a kind h in
    let whole : Activity = said (record (activity_of_kind kind) { id = parts.id; actor = parts.actor; target = parts.target; in_reply_to = parts.in_reply_to }) (Whole made) h.full.both.0 h.full.words d in
    let alone = of_nobody kind d o parts.actor whole k refl in
    let same : a ≡ whole = h.full.whole ∙ ap (λ (x : Activity). said x (Whole made) h.full.both.0 h.full.words d) parts.whole in
    subst (λ (x : Activity). is_delivered x ≡ true) (sym same)
    (rw (id, actor, content, summary, name, published, named_shortly d, reached, carries kind d o k, own_id, within, alone) refl)

-- ---- the whole

pub delivery_is_delivered : (d : Data) (a : Activity) → reads_delivered d ≡ Ok a → IsTrue (is_delivered a)
delivery_is_delivered d a h =
    let parts = delivery_parts d a h in
    ⊎_elim (bare_kept parts.kind d a) (λ full. full_kept parts.kind d full.0 a full.1 full.2) parts.said
