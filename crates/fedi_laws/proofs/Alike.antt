-- What is shown of an activity is the same as the activity in everything that a test may examine.
use Rattle.std.proofs.Common.{◌≡◌, ℕ, Bool, true, false, List, [], ◌∷◌, Option, Some, None, refl, ap, subst, ◌∙◌}
use Rattle.std.specs.Prelude.{◌&&◌, codes, if◌then◌else◌}
use Rattle.std.specs.List.{find}
use Rattle.std.specs.Str.{bytes_eq}
use Rattle.fedi_objects.specs.declared.activity.ObjectRef.{ObjectRef}
use Rattle.fedi_objects.specs.declared.activity.ObjectRef.TheVariants.{Nothing, Id, Whole, Changed}
use Rattle.fedi_objects.specs.declared.object.Object.{Object}
use Rattle.fedi_objects.specs.Forms.{is_tombstone}
use Rattle.fedi_objects.specs.Objects.{stripped_object}
use Rattle.fedi_town.specs.Deeds.{is_create, is_update, is_done}
use Rattle.fedi_town.specs.Objects.{makes, maker_of, whole_of, is_deleted, is_tombstone_in, object_of}
use Rattle.fedi_town.specs.Relations.{ref_id, is_id, is_about}
use Rattle.fedi_town.specs.Showing.{sight_of, shown_ref, shown_activity, present_object, bare_tombstone, shown_object, object_or_id, ref_to}
use Rattle.fedi_town.specs.Towns.{Town, deed}
use Rattle.fedi_town.specs.declared.act.Act.{Act}
use Rattle.fedi_town.specs.declared.caller.Caller.{Caller}
use Rattle.fedi_town.proofs.Finding.{found_passes}
use Rattle.fedi_town.proofs.Texts.{bytes_eq-is}
use Rattle.std.proofs.lemmas.Bool.{and_parts}

pub record IsAlike (x y : Act) : Type 0 where
  pub author : y.author ≡ x.author
  pub kind : y.activity.kind ≡ x.activity.kind
  pub own : y.activity.id ≡ x.activity.id
  pub state : y.state ≡ x.state
  pub is_public : y.is_public ≡ x.is_public
  pub about : ref_id y.activity.object ≡ ref_id x.activity.object
  pub buried : is_deleted y ≡ is_deleted x

-- ---- the id of what is shown

named_ref : (id : Option (List ℕ)) → ref_id (ref_to id) ≡ id
named_ref None = refl
named_ref (Some id) = refl

-- if there is a present form, it has the id
abbrev HasId : Option Object → Option (List ℕ) → Type 0
HasId None id = Unit {0}
HasId (Some o) id = o.id ≡ id

shown_id : (o : Object) → (shown_object o).id ≡ o.id
shown_id o =
    elim (is_tombstone o) as (λ b. (if b then bare_tombstone o else stripped_object o).id ≡ o.id) [
      | true ↦ refl
      | false ↦ refl
    ]

named_present : (o : Option Object) (id : Option (List ℕ)) → HasId o id → ref_id (object_or_id o id) ≡ id
named_present None id h = named_ref id
named_present (Some o) id h = shown_id o ∙ h

whole_named : (r : ObjectRef) → HasId (whole_of r) (ref_id r)
whole_named Nothing = tt
whole_named (Id iri) = tt
whole_named (Whole o) = refl
whole_named (Changed c) = tt

it_is : (id : List ℕ) (o : Option (List ℕ)) → is_id id o ≡ true → o ≡ Some id
it_is id None e = absurd cc
it_is id (Some own) e = ap (λ (i : List ℕ). Some i) (bytes_eq-is own id e)

pub about_it : (id : List ℕ) (m : Act) → makes id m ≡ true → ref_id m.activity.object ≡ Some id
unfolding makes is_about
about_it id m made = it_is id (ref_id m.activity.object) (and_parts (is_create (deed m) && is_done m.state) (is_id id (ref_id m.activity.object)) made).1

carried_named : (id : List ℕ) (found : Option Act) → ((m : Act) → found ≡ Some m → makes id m ≡ true) → HasId (object_of found) (Some id)
carried_named id None h = tt
carried_named id (Some m) h = subst (λ (i : Option (List ℕ)). HasId (whole_of m.activity.object) i) (about_it id m (h m refl)) (whole_named m.activity.object)

maker_named : (t : Town) (id : Option (List ℕ)) → HasId (object_of (maker_of t id)) id
maker_named t None = tt
maker_named t (Some id) = carried_named id (find (makes id) t.acts) (found_passes (makes id) t.acts)

choice-named : (a b : Bool) (x y : Option Object) (id : Option (List ℕ)) → HasId x id → HasId y id → HasId (if a then x else (if b then y else None)) id
choice-named true b x y id h k = h
choice-named false true x y id h k = k
choice-named false false x y id h k = tt

present_named : (t : Town) (x : Act) → HasId (present_object t x) (ref_id x.activity.object)
unfolding present_object
present_named t x =
    choice-named (is_create (deed x) && is_done x.state) (is_update (deed x) && is_done x.state) _ _ (ref_id x.activity.object)
    (whole_named x.activity.object) (maker_named t (ref_id x.activity.object))

shown_named : (t : Town) (x : Act) → ref_id (shown_ref t x) ≡ ref_id x.activity.object
unfolding shown_ref
shown_named t x = named_present (present_object t x) (ref_id x.activity.object) (present_named t x)

-- ---- whether its object was deleted

not_whole : (id : Option (List ℕ)) → is_tombstone_in (whole_of (ref_to id)) ≡ false
not_whole None = refl
not_whole (Some id) = refl

shown_kind : (o : Object) → (shown_object o).kind ≡ o.kind
shown_kind o =
    elim (is_tombstone o) as (λ b. (if b then bare_tombstone o else stripped_object o).kind ≡ o.kind) [
      | true ↦ refl
      | false ↦ refl
    ]

buried_present : (o : Option Object) (id : Option (List ℕ)) → is_tombstone_in (whole_of (object_or_id o id)) ≡ is_tombstone_in o
buried_present None id = not_whole id
buried_present (Some o) id = ap (λ (k : List ℕ). bytes_eq k (codes "Tombstone")) (shown_kind o)

same_buried : (a b : Bool) (r : ObjectRef) (y : Option Object) (id : Option (List ℕ))
    → (a && is_tombstone_in (whole_of (object_or_id (if a then whole_of r else (if b then y else None)) id))) ≡ (a && is_tombstone_in (whole_of r))
same_buried true b r y id = buried_present (whole_of r) id
same_buried false b r y id = refl

shown_buried : (t : Town) (c : Caller) (x : Act) → is_deleted (sight_of t c x) ≡ is_deleted x
unfolding is_deleted sight_of shown_activity shown_ref present_object
shown_buried t c x = same_buried (is_create (deed x) && is_done x.state) (is_update (deed x) && is_done x.state) x.activity.object _ (ref_id x.activity.object)

pub shown_alike : (t : Town) (c : Caller) (x : Act) → IsAlike x (sight_of t c x)
unfolding sight_of shown_activity
shown_alike t c x = record {
  author = refl;
  kind = refl;
  own = refl;
  state = refl;
  is_public = refl;
  about = shown_named t x;
  buried = shown_buried t c x;
}
