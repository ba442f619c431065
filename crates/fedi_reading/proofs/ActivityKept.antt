-- What holds of the parts of an activity that was read.
use Rattle.std.proofs.Common.{◌≡◌, ℕ, ◌≤◌, List, length, true, false, nat_lt, Option, Some, None, codes, bytes_eq, sym, ap, subst}
use Rattle.std.specs.Prelude.{Result, Ok}
use Rattle.std.proofs.lemmas.Bool.{ltb-false}
use Rattle.serde_json.specs.Data.{Data}
use Rattle.fedi_address.specs.Recipients.{all_of, union as joined}
use Rattle.fedi_address.specs.declared.recipients.Recipients.{Recipients}
use Rattle.fedi_objects.specs.Limits.{is_type}
use Rattle.fedi_objects.specs.declared.activity.Activity.{Activity}
use Rattle.fedi_objects.specs.declared.activity.ObjectRef.TheVariants.{Whole, Changed}
use Rattle.fedi_objects.specs.declared.kind.Kind.{Kind}
use Rattle.fedi_objects.specs.declared.kind.Kind.TheVariants as kinds
use Rattle.fedi_reading.specs.ActivityFaults.{union}
use Rattle.fedi_reading.specs.Activities.{object_id, reads_target, new_type, reads_new_type, reads_audience, reads_creation, reads_own_id, change, reads_changes, reads_id, is_oneself, object_ref, posted_activity, reads_other}
use Rattle.fedi_reading.specs.Properties.{type_of, reference_at}
use Rattle.fedi_reading.specs.Reading.{reads_iri, reads_reply, reads_both, reads_people, reads_words, url_of, tags_of, made}
use Rattle.fedi_reading.specs.declared.need.Need.{Need}
use Rattle.fedi_reading.specs.declared.shape_fault.ShapeFault.{ShapeFault}
use Rattle.fedi_reading.specs.declared.shape_fault.ShapeFault.TheVariants.{NoType, TooManyRecipients, SelfTarget}
use Rattle.fedi_reading.proofs.ActivityFaultLemmas.{joined_named}
use Rattle.fedi_reading.proofs.KeptLemmas.{then_ok, if_ok, typed_kept, both_kept}

new_type_ok : (found : Option (List ℕ)) (kind : List ℕ) → new_type found ≡ Ok kind → (found ≡ Some kind) × (bytes_eq kind (codes "Tombstone") ≡ false)
new_type_ok None kind h = absurd cc
new_type_ok (Some text) kind h =
    let passed = if_ok (bytes_eq text (codes "Tombstone")) NoType text kind h in
    (ap Some passed.1, subst (λ (t : List ℕ). bytes_eq t (codes "Tombstone") ≡ false) passed.1 passed.0)

-- the type of an object to be created has 1 to 64 bytes, and is not that of deleted objects
pub new_type_kept : (o : Data) (kind : List ℕ) → reads_new_type o ≡ Ok kind → (is_type kind ≡ true) × (bytes_eq kind (codes "Tombstone") ≡ false)
unfolding reads_new_type
new_type_kept o kind h =
    let passed = new_type_ok (type_of o) kind h in
    (typed_kept o kind passed.0, passed.1)

-- the recipients of a Create and its object are those that either names, at most 500
pub audience_kept : (d o : Data) (r : Recipients) → reads_audience d o ≡ Ok r → (r ≡ union d o) × (length (all_of r) ≤ 500)
unfolding reads_audience
audience_kept d o r h =
    let found = then_ok (reads_both 500 d o) _ r h in
    let all : Recipients = joined found.0.0 found.0.1 in
    let passed = if_ok (nat_lt 500 (length (all_of all))) TooManyRecipients all r found.2 in
    let both = both_kept 500 d o found.0 found.1 in
    subst (λ (x : Recipients). (x ≡ union d o) × (length (all_of x) ≤ 500)) passed.1
    (joined_named d o found.0.0 found.0.1 both.0.0 both.1.0, ltb-false 500 (length (all_of all)) passed.0)

-- ---- the parts that make up an activity

pub same_ok : {A : Type 0} (x y : A) → ◌≡◌ {A = Result A ShapeFault} (Ok x) (Ok y) → y ≡ x
same_ok x y h = cc

-- the parts of a Create
pub record IsCreation (d o : Data) (a : Activity) : Type 0 where
  pub kind : List ℕ
  pub target : Option (List ℕ)
  pub object_reply : Option (List ℕ)
  pub reply : Option (List ℕ)
  pub recipients : Recipients
  pub words : Option (List ℕ) × Option (List ℕ) × Option (List ℕ)
  pub object_words : Option (List ℕ) × Option (List ℕ) × Option (List ℕ)
  pub kind_read : reads_new_type o ≡ Ok kind
  pub recipients_read : reads_audience d o ≡ Ok recipients
  pub words_read : reads_words d ≡ Ok words
  pub object_words_read : reads_words o ≡ Ok object_words
  pub whole : a ≡ posted_activity kinds.Create (Whole (made kind (object_reply, recipients) object_words (url_of o, tags_of o))) target (reply, recipients) words (tags_of d)

pub creation_parts : (d o : Data) (a : Activity) → reads_creation d o ≡ Ok a → IsCreation d o a
unfolding reads_creation
creation_parts d o a h =
    let kind = then_ok (reads_new_type o) _ a h in
    let id = then_ok (reads_iri (reference_at (codes "id") o)) _ a kind.2 in
    let target = then_ok (reads_target d) _ a id.2 in
    let object_reply = then_ok (reads_reply o) _ a target.2 in
    let reply = then_ok (reads_reply d) _ a object_reply.2 in
    let recipients = then_ok (reads_audience d o) _ a reply.2 in
    let words = then_ok (reads_words d) _ a recipients.2 in
    let object_words = then_ok (reads_words o) _ a words.2 in
    record {
      kind = kind.0;
      target = target.0;
      object_reply = object_reply.0;
      reply = reply.0;
      recipients = recipients.0;
      words = words.0;
      object_words = object_words.0;
      kind_read = kind.1;
      recipients_read = recipients.1;
      words_read = words.1;
      object_words_read = object_words.1;
      whole = same_ok _ a object_words.2;
    }

-- the parts of an Update
pub record IsUpdate (d o : Data) (a : Activity) : Type 0 where
  pub id : List ℕ
  pub target : Option (List ℕ)
  pub object_reply : Option (List ℕ)
  pub people : Option (List ℕ) × Recipients
  pub words : Option (List ℕ) × Option (List ℕ) × Option (List ℕ)
  pub object_words : Option (List ℕ) × Option (List ℕ) × Option (List ℕ)
  pub people_read : reads_people d ≡ Ok people
  pub words_read : reads_words d ≡ Ok words
  pub object_words_read : reads_words o ≡ Ok object_words
  pub whole : a ≡ posted_activity kinds.Update (Changed (change id o object_reply object_words)) target people words (tags_of d)

pub update_parts : (d o : Data) (a : Activity) → reads_changes d o ≡ Ok a → IsUpdate d o a
unfolding reads_changes
update_parts d o a h =
    let id = then_ok (reads_own_id o) _ a h in
    let target = then_ok (reads_target d) _ a id.2 in
    let object_reply = then_ok (reads_reply o) _ a target.2 in
    let people = then_ok (reads_people d) _ a object_reply.2 in
    let words = then_ok (reads_words d) _ a people.2 in
    let object_words = then_ok (reads_words o) _ a words.2 in
    record {
      id = id.0;
      target = target.0;
      object_reply = object_reply.0;
      people = people.0;
      words = words.0;
      object_words = object_words.0;
      people_read = people.1;
      words_read = words.1;
      object_words_read = object_words.1;
      whole = same_ok _ a object_words.2;
    }

-- the parts of another activity
pub record IsOther (author : List ℕ) (kind : Kind) (need : Need) (d : Data) (a : Activity) : Type 0 where
  pub id : Option (List ℕ)
  pub target : Option (List ℕ)
  pub people : Option (List ℕ) × Recipients
  pub words : Option (List ℕ) × Option (List ℕ) × Option (List ℕ)
  pub id_read : reads_id need (object_id d) ≡ Ok id
  pub people_read : reads_people d ≡ Ok people
  pub words_read : reads_words d ≡ Ok words
  pub of_another : is_oneself author need id ≡ false
  pub whole : a ≡ posted_activity kind (object_ref id) target people words (tags_of d)

pub other_parts : (author : List ℕ) (kind : Kind) (need : Need) (d : Data) (a : Activity) → reads_other author kind need d ≡ Ok a → IsOther author kind need d a
unfolding reads_other
other_parts author kind need d a h =
    let id = then_ok (reads_id need (object_id d)) _ a h in
    let target = then_ok (reads_target d) _ a id.2 in
    let people = then_ok (reads_people d) _ a target.2 in
    let words = then_ok (reads_words d) _ a people.2 in
    let passed = if_ok (is_oneself author need id.0) SelfTarget (posted_activity kind (object_ref id.0) target.0 people.0 words.0 (tags_of d)) a words.2 in
    record {
      id = id.0;
      target = target.0;
      people = people.0;
      words = words.0;
      id_read = id.1;
      people_read = people.1;
      words_read = words.1;
      of_another = passed.0;
      whole = sym passed.1;
    }
