-- What is read of an activity whose parts have been read.
use Rattle.std.proofs.Common.{◌≡◌, ℕ, List, false, Option, codes, refl}
use Rattle.std.specs.Prelude.{Ok}
use Rattle.serde_json.specs.Data.{Data}
use Rattle.fedi_address.specs.declared.recipients.Recipients.{Recipients}
use Rattle.fedi_objects.specs.declared.activity.Activity.{Activity}
use Rattle.fedi_objects.specs.declared.activity.ObjectRef.TheVariants.{Whole, Changed}
use Rattle.fedi_objects.specs.declared.kind.Kind.TheVariants as kinds
use Rattle.fedi_reading.specs.Activities.{object_id, reads_target, reads_id, is_oneself, object_ref, posted_activity, reads_new_type, reads_audience, reads_creation, reads_own_id, change, reads_changes, reads_other}
use Rattle.fedi_reading.specs.Properties.{reference_at}
use Rattle.fedi_reading.specs.Reading.{reads_iri, reads_reply, reads_people, reads_words, url_of, tags_of, made}
use Rattle.fedi_reading.specs.declared.need.Need.{Need}

-- an activity that keeps the `id` of its object
pub other_said : (author : List ℕ) (need : Need) (d : Data) (a : Activity) (id target : Option (List ℕ)) (people : Option (List ℕ) × Recipients) (words : Option (List ℕ) × Option (List ℕ) × Option (List ℕ))
    → reads_id need (object_id d) ≡ Ok id → reads_target d ≡ Ok target → reads_people d ≡ Ok people → reads_words d ≡ Ok words → is_oneself author need id ≡ false
    → reads_other author a.kind need d ≡ Ok (posted_activity a.kind (object_ref id) target people words (tags_of d))
unfolding reads_other
other_said author need d a id target people words h i j k l = rw (h, i, j, k, l) refl

-- a Create of an object
pub creation_said : (d o : Data) (kind : List ℕ) (id target object_reply reply : Option (List ℕ)) (recipients : Recipients) (words object_words : Option (List ℕ) × Option (List ℕ) × Option (List ℕ))
    → reads_new_type o ≡ Ok kind → reads_iri (reference_at (codes "id") o) ≡ Ok id → reads_target d ≡ Ok target → reads_reply o ≡ Ok object_reply → reads_reply d ≡ Ok reply → reads_audience d o ≡ Ok recipients → reads_words d ≡ Ok words → reads_words o ≡ Ok object_words
    → reads_creation d o ≡ Ok (posted_activity kinds.Create (Whole (made kind (object_reply, recipients) object_words (url_of o, tags_of o))) target (reply, recipients) words (tags_of d))
unfolding reads_creation
creation_said d o kind id target object_reply reply recipients words object_words g h i j k l m n = rw (g, h, i, j, k, l, m, n) refl

-- an Update by an object
pub changes_said : (d o : Data) (id : List ℕ) (target object_reply : Option (List ℕ)) (people : Option (List ℕ) × Recipients) (words object_words : Option (List ℕ) × Option (List ℕ) × Option (List ℕ))
    → reads_own_id o ≡ Ok id → reads_target d ≡ Ok target → reads_reply o ≡ Ok object_reply → reads_people d ≡ Ok people → reads_words d ≡ Ok words → reads_words o ≡ Ok object_words
    → reads_changes d o ≡ Ok (posted_activity kinds.Update (Changed (change id o object_reply object_words)) target people words (tags_of d))
unfolding reads_changes
changes_said d o id target object_reply people words object_words h i j k l m = rw (h, i, j, k, l, m) refl
