-- An item repeats an earlier Follow of the same actor by the same author.
use Rattle.std.proofs.Common.{◌≡◌, ℕ, false, List, refl, sym, subst}
use Rattle.std.specs.Prelude.{◌&&◌}
use Rattle.std.specs.Str.{bytes_eq}
use Rattle.std.proofs.lemmas.Bool.{and_parts}
use Rattle.fedi_register.specs.Registers.{IsNarrower, relates, relates_by_key}
use Rattle.fedi_register.proofs.Places.{follow_relates, id_key}
use Rattle.fedi_visible.specs.Places.{can_come_again, is_same_seen}
use Rattle.fedi_town.specs.declared.act.Act.{Act}
use Rattle.fedi_town.specs.declared.caller.Caller.{Caller}
use Rattle.fedi_town.specs.declared.caller.Which.{Which}
use Rattle.fedi_town.specs.declared.caller.Which.TheVariants.{Inbox, Outbox, Followers, Following, Liked, Likes, Shares}
use Rattle.fedi_town.specs.Collections.{is_item, is_same_item, object_key}
use Rattle.fedi_town.specs.Deeds.{is_accepted, is_follow}
use Rattle.fedi_town.specs.Relations.{is_about, is_following, is_id, ref_id}
use Rattle.fedi_town.specs.Seeing.{sees}
use Rattle.fedi_town.specs.Towns.{Town, deed, is_by}

follower-again : (t : Town) (c : Caller) (name id : List ℕ) (x : Act) → IsNarrower (is_same_seen t c (Followers name) id x) (relates_by_key x.author id)
unfolding is_same_seen is_item is_following is_same_item relates_by_key relates is_by is_about
follower-again t c name id x y is =
    let parts = and_parts ((is_follow (deed y) && is_accepted y.state) && is_id id (ref_id y.activity.object)) (bytes_eq y.author x.author && sees t c y) is in
    let item = and_parts (is_follow (deed y) && is_accepted y.state) (is_id id (ref_id y.activity.object)) parts.0 in
    rw (
      follow_relates (deed y) (and_parts (is_follow (deed y)) (is_accepted y.state) item.0).0,
      (and_parts (bytes_eq y.author x.author) (sees t c y) parts.1).0,
      id_key id (ref_id y.activity.object) item.1,
    ) refl

-- in the followers collection: a Follow of the owner by the same actor
pub follower_again : (t : Town) (c : Caller) (which : Which) (name id : List ℕ) (x : Act) → which ≡ Followers name → IsNarrower (is_same_seen t c which id x) (relates_by_key x.author id)
follower_again t c which name id x is = subst (λ (w : Which). IsNarrower (is_same_seen t c w id x) (relates_by_key x.author id)) (sym is) (follower-again t c name id x)

followed-again : (t : Town) (c : Caller) (name id : List ℕ) (x : Act) → IsNarrower (is_same_seen t c (Following name) id x) (relates_by_key id (object_key x))
unfolding is_same_seen is_item is_same_item relates_by_key relates is_by
followed-again t c name id x y is =
    let parts = and_parts ((is_follow (deed y) && is_accepted y.state) && bytes_eq y.author id) (bytes_eq (object_key y) (object_key x) && sees t c y) is in
    let item = and_parts (is_follow (deed y) && is_accepted y.state) (bytes_eq y.author id) parts.0 in
    rw (
      follow_relates (deed y) (and_parts (is_follow (deed y)) (is_accepted y.state) item.0).0,
      item.1,
      (and_parts (bytes_eq (object_key y) (object_key x)) (sees t c y) parts.1).0,
    ) refl

-- in the following collection: a Follow of the same actor by the owner
pub followed_again : (t : Town) (c : Caller) (which : Which) (name id : List ℕ) (x : Act) → which ≡ Following name → IsNarrower (is_same_seen t c which id x) (relates_by_key id (object_key x))
followed_again t c which name id x is = subst (λ (w : Which). IsNarrower (is_same_seen t c w id x) (relates_by_key id (object_key x))) (sym is) (followed-again t c name id x)

-- in any other collection no item is repeated
pub neither : (which : Which) → ((name : List ℕ) → which ≡ Followers name → ⊥) → ((name : List ℕ) → which ≡ Following name → ⊥) → false ≡ can_come_again which
neither (Inbox name) p q = refl
neither (Outbox name) p q = refl
neither (Followers name) p q = absurd (p name refl)
neither (Following name) p q = absurd (q name refl)
neither (Liked name) p q = refl
neither (Likes name number) p q = refl
neither (Shares name number) p q = refl
