-- What holds of the parts of a delivery that was read.
use Rattle.std.proofs.Common.{◌≡◌, ℕ, List, true, false, not, ◌&&◌, ◌||◌, Option, Some, None, ◌⊎◌, inl, inr, codes, refl, sym}
use Rattle.std.specs.Prelude.{Ok, Err, is_some, is_none}
use Rattle.std.specs.Option.{option_map_or}
use Rattle.serde_json.specs.Data.{Data}
use Rattle.serde_json.specs.Find.{as_object}
use Rattle.fedi_address.specs.declared.recipients.Recipients.{Recipients}
use Rattle.fedi_objects.specs.Limits.{is_date, is_type}
use Rattle.fedi_objects.specs.Objects.{activity_of_kind, object_of_kind}
use Rattle.fedi_objects.specs.declared.activity.Activity.{Activity}
use Rattle.fedi_objects.specs.declared.activity.ObjectRef.TheVariants.{Whole}
use Rattle.fedi_objects.specs.declared.kind.Kind.{Kind}
use Rattle.fedi_objects.specs.declared.object.Object.{Object}
use Rattle.fedi_reading.specs.Activities.{carried, kind_of, need_of, needs_id, object_id, object_ref, reads_target}
use Rattle.fedi_reading.specs.Deliveries.{date_at, former_of, reads_attributed, reads_addresses, reads_own_addresses, said, told, is_own_target, reads_bare, has_no, reads_without, reads_full, reads_with, reads_carried, reads_sent, reads_delivered}
use Rattle.fedi_reading.specs.Properties.{reference_at, text_at, has_context, type_of}
use Rattle.fedi_reading.specs.Reading.{reads_iri, reads_reply, reads_few, reads_both, reads_words}
use Rattle.fedi_reading.specs.declared.need.Need.{Need}
use Rattle.fedi_reading.specs.declared.shape_fault.ShapeFault.TheVariants.{NotObject, BadContext, NoType, NoId, NoActor, NoObject, SelfTarget}
use Rattle.fedi_reading.proofs.ActivityKept.{same_ok}
use Rattle.fedi_reading.proofs.KeptLemmas.{then_ok, if_ok, test_ok, formed_kept}

-- ---- texts of a form

-- a time that is kept is a date
pub date_kept : (key : List ℕ) (d : Data) → option_map_or is_date (date_at key d) true ≡ true
unfolding date_at
date_kept key d = formed_kept is_date (text_at key d) _ refl

-- a former type that is kept has 1 to 64 bytes
pub former_kept : (d : Data) → option_map_or is_type (former_of d) true ≡ true
unfolding former_of
former_kept d = formed_kept is_type (text_at (codes "formerType") d) _ refl

-- ---- the parts that make up a delivery

-- the addresses of an activity
pub record IsAddressed (a : Activity) (d : Data) (b : Activity) : Type 0 where
  pub id : Option (List ℕ)
  pub actor : Option (List ℕ)
  pub target : Option (List ℕ)
  pub in_reply_to : Option (List ℕ)
  pub id_read : reads_iri (reference_at (codes "id") d) ≡ Ok id
  pub actor_read : reads_iri (reference_at (codes "actor") d) ≡ Ok actor
  pub whole : b ≡ record a { id = id; actor = actor; target = target; in_reply_to = in_reply_to }

pub addressed_parts : (a : Activity) (d : Data) (b : Activity) → reads_addresses a d ≡ Ok b → IsAddressed a d b
unfolding reads_addresses
addressed_parts a d b h =
    let id = then_ok (reads_iri (reference_at (codes "id") d)) _ b h in
    let actor = then_ok (reads_iri (reference_at (codes "actor") d)) _ b id.2 in
    let target = then_ok (reads_target d) _ b actor.2 in
    let in_reply_to = then_ok (reads_reply d) _ b target.2 in
    record {
      id = id.0;
      actor = actor.0;
      target = target.0;
      in_reply_to = in_reply_to.0;
      id_read = id.1;
      actor_read = actor.1;
      whole = same_ok _ b in_reply_to.2;
    }

-- the addresses of an object
pub record IsOwn (made : Object) (o : Data) (own : Object) : Type 0 where
  pub id : Option (List ℕ)
  pub attributed_to : Option (List ℕ)
  pub in_reply_to : Option (List ℕ)
  pub id_read : reads_iri (reference_at (codes "id") o) ≡ Ok id
  pub whole : own ≡ record made { id = id; attributed_to = attributed_to; in_reply_to = in_reply_to }

pub own_parts : (made : Object) (o : Data) (own : Object) → reads_own_addresses made o ≡ Ok own → IsOwn made o own
unfolding reads_own_addresses
own_parts made o own h =
    let id = then_ok (reads_iri (reference_at (codes "id") o)) _ own h in
    let attributed_to = then_ok (reads_attributed o) _ own id.2 in
    let in_reply_to = then_ok (reads_reply o) _ own attributed_to.2 in
    record {
      id = id.0;
      attributed_to = attributed_to.0;
      in_reply_to = in_reply_to.0;
      id_read = id.1;
      whole = same_ok _ own in_reply_to.2;
    }

-- the parts of an activity that carries no object
pub record IsBare (a : Activity) (need : Need) (d : Data) (b : Activity) : Type 0 where
  pub addressed : Activity
  pub about : Option (List ℕ)
  pub recipients : Recipients
  pub words : Option (List ℕ) × Option (List ℕ) × Option (List ℕ)
  pub addresses_read : reads_addresses a d ≡ Ok addressed
  pub about_read : reads_iri (object_id d) ≡ Ok about
  pub recipients_read : reads_few 501 d ≡ Ok recipients
  pub words_read : reads_words d ≡ Ok words
  pub of_another : is_own_target addressed.actor need about ≡ false
  pub whole : b ≡ said addressed (object_ref about) recipients words d

pub bare_parts : (a : Activity) (need : Need) (d : Data) (b : Activity) → reads_bare a need d ≡ Ok b → IsBare a need d b
unfolding reads_bare
bare_parts a need d b h =
    let addressed = then_ok (reads_addresses a d) _ b h in
    let about = then_ok (reads_iri (object_id d)) _ b addressed.2 in
    let recipients = then_ok (reads_few 501 d) _ b about.2 in
    let words = then_ok (reads_words d) _ b recipients.2 in
    let whole : Activity = said addressed.0 (object_ref about.0) recipients.0 words.0 d in
    let passed = if_ok (is_own_target addressed.0.actor need about.0) SelfTarget whole b words.2 in
    record {
      addressed = addressed.0;
      about = about.0;
      recipients = recipients.0;
      words = words.0;
      addresses_read = addressed.1;
      about_read = about.1;
      recipients_read = recipients.1;
      words_read = words.1;
      of_another = passed.0;
      whole = sym passed.1;
    }

-- the parts of an activity that carries its object
pub record IsFull (a : Activity) (made : Object) (d o : Data) (b : Activity) : Type 0 where
  pub addressed : Activity
  pub own : Object
  pub both : Recipients × Recipients
  pub words : Option (List ℕ) × Option (List ℕ) × Option (List ℕ)
  pub object_words : Option (List ℕ) × Option (List ℕ) × Option (List ℕ)
  pub addresses_read : reads_addresses a d ≡ Ok addressed
  pub own_read : reads_own_addresses made o ≡ Ok own
  pub both_read : reads_both 501 d o ≡ Ok both
  pub words_read : reads_words d ≡ Ok words
  pub object_words_read : reads_words o ≡ Ok object_words
  pub whole : b ≡ said addressed (Whole (told own both.1 object_words o)) both.0 words d

pub full_parts : (a : Activity) (made : Object) (d o : Data) (b : Activity) → reads_full a made d o ≡ Ok b → IsFull a made d o b
unfolding reads_full
full_parts a made d o b h =
    let addressed = then_ok (reads_addresses a d) _ b h in
    let own = then_ok (reads_own_addresses made o) _ b addressed.2 in
    let both = then_ok (reads_both 501 d o) _ b own.2 in
    let words = then_ok (reads_words d) _ b both.2 in
    let object_words = then_ok (reads_words o) _ b words.2 in
    record {
      addressed = addressed.0;
      own = own.0;
      both = both.0;
      words = words.0;
      object_words = object_words.0;
      addresses_read = addressed.1;
      own_read = own.1;
      both_read = both.1;
      words_read = words.1;
      object_words_read = object_words.1;
      whole = same_ok _ b object_words.2;
    }

-- ---- what a delivery contains

-- what an activity that carries no object contains
pub record HasNoObject (kind : Kind) (d : Data) (a : Activity) : Type 0 where
  pub id_there : has_no (codes "id") d ≡ false
  pub actor_there : has_no (codes "actor") d ≡ false
  pub about_there : (needs_id (need_of kind) && is_none (object_id d)) ≡ false
  pub bare : IsBare (activity_of_kind kind) (need_of kind) d a

without_parts : (kind : Kind) (d : Data) (a : Activity) → reads_without kind d ≡ Ok a → HasNoObject kind d a
unfolding reads_without
without_parts kind d a h =
    let id = test_ok (has_no (codes "id") d) NoId _ a h in
    let actor = test_ok (has_no (codes "actor") d) NoActor _ a id.1 in
    let about = test_ok (needs_id (need_of kind) && is_none (object_id d)) NoObject _ a actor.1 in
    record {
      id_there = id.0;
      actor_there = actor.0;
      about_there = about.0;
      bare = bare_parts (activity_of_kind kind) (need_of kind) d a about.1;
    }

-- what an activity that carries this object contains
pub record HasObject (kind : Kind) (d o : Data) (a : Activity) : Type 0 where
  pub type : List ℕ
  pub type_read : type_of o ≡ Some type
  pub ids_there : (has_no (codes "id") d || has_no (codes "id") o) ≡ false
  pub actor_there : has_no (codes "actor") d ≡ false
  pub full : IsFull (activity_of_kind kind) (object_of_kind type) d o a

with_parts : (kind : Kind) (d o : Data) (a : Activity) (found : Option (List ℕ)) → type_of o ≡ found → reads_with kind d o found ≡ Ok a → HasObject kind d o a
with_parts kind d o a None k h = absurd cc
with_parts kind d o a (Some type) k h =
    let ids = test_ok (has_no (codes "id") d || has_no (codes "id") o) NoId _ a h in
    let actor = test_ok (has_no (codes "actor") d) NoActor _ a ids.1 in
    record {
      type = type;
      type_read = k;
      ids_there = ids.0;
      actor_there = actor.0;
      full = full_parts (activity_of_kind kind) (object_of_kind type) d o a actor.1;
    }

-- what is read is an activity of some type, which either carries no object or carries one
pub record IsDelivery (d : Data) (a : Activity) : Type 0 where
  pub kind : Kind
  pub said : HasNoObject kind d a ⊎ ((o : Data) × (carried (need_of kind) d ≡ Some o) × HasObject kind d o a)

sent_parts : (kind : Kind) (d : Data) (a : Activity) (found : Option Data) → carried (need_of kind) d ≡ found → reads_carried kind d found ≡ Ok a → IsDelivery d a
sent_parts kind d a None k h = record { kind = kind; said = inl (without_parts kind d a h) }
sent_parts kind d a (Some o) k h = record { kind = kind; said = inr (o, k, with_parts kind d o a (type_of o) refl h) }

typed_parts : (d : Data) (a : Activity) (found : Option Kind) → option_map_or (reads_sent d) found (Err NoType) ≡ Ok a → IsDelivery d a
unfolding reads_sent
typed_parts d a None h = absurd cc
typed_parts d a (Some kind) h = sent_parts kind d a (carried (need_of kind) d) refl h

pub delivery_parts : (d : Data) (a : Activity) → reads_delivered d ≡ Ok a → IsDelivery d a
unfolding reads_delivered
delivery_parts d a h =
    let one = test_ok (not (is_some (as_object d))) NotObject _ a h in
    let other = test_ok (not (has_context d)) BadContext _ a one.1 in
    typed_parts d a (kind_of d) other.1
