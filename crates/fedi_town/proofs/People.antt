-- Members: what their names determine.
use Rattle.std.proofs.Common.{◌≡◌, ℕ, Bool, true, false, List, [], ◌∷◌, Option, Some, None, refl, sym, ap, subst, ◌∙◌}
use Rattle.std.specs.Prelude.{◌&&◌, option_map}
use Rattle.std.specs.List.{list_any, list_all, find}
use Rattle.std.specs.Str.{bytes_eq}
use Rattle.std.proofs.lemmas.Bool.{and_parts}
use Rattle.fedi_address.specs.Hosts.{is_host_text}
use Rattle.fedi_address.specs.Names.{is_name}
use Rattle.fedi_town.specs.declared.act.Actor.{Actor}
use Rattle.fedi_town.specs.Ids.{actor_id}
use Rattle.fedi_town.specs.Towns.{Town, has_name, id_of}
use Rattle.fedi_town.proofs.Members.{is_member, IsFound, found}
use Rattle.fedi_town.proofs.Texts.{bytes_eq-is}

-- the id that a name gives at a host
abbrev pub id_at : Option (List ℕ) → List ℕ → List ℕ
id_at None name = []
id_at (Some host) name = actor_id host name

pub member_id : (host : Option (List ℕ)) (a : Actor) → is_member host a ≡ true → a.id ≡ id_at host a.name
member_id None a is = absurd cc
member_id (Some host) a is =
    let rest = (and_parts (is_host_text host) (is_name a.name && bytes_eq a.id (actor_id host a.name)) is).1 in
    bytes_eq-is a.id (actor_id host a.name) (and_parts (is_name a.name) (bytes_eq a.id (actor_id host a.name)) rest).1

name_of : (host : Option (List ℕ)) (a : Actor) → is_member host a ≡ true → is_name a.name ≡ true
name_of None a is = absurd cc
name_of (Some host) a is =
    let rest = (and_parts (is_host_text host) (is_name a.name && bytes_eq a.id (actor_id host a.name)) is).1 in
    (and_parts (is_name a.name) (bytes_eq a.id (actor_id host a.name)) rest).0

-- the name of a member is valid
pub named_is : (name : List ℕ) (host : Option (List ℕ)) (xs : List Actor) → list_all (is_member host) xs ≡ true → list_any (has_name name) xs ≡ true → is_name name ≡ true
unfolding has_name
named_is name host [] all any = absurd cc
named_is name host (a ∷ xs) all any =
    let parts = and_parts (is_member host a) (list_all (is_member host) xs) all in
    elim (bytes_eq a.name name) as (λ b. bytes_eq a.name name ≡ b → is_name name ≡ true) [
      | true ↦ λ e. subst (λ (n : List ℕ). is_name n ≡ true) (bytes_eq-is a.name name e) (name_of host a parts.0)
      | false ↦ λ e. named_is name host xs parts.1 (rw e at any)
    ] refl

-- the id of a found member is that of its name
found_id : (own name : List ℕ) (found_one : Option Actor) (id : List ℕ) → ((a : Actor) → found_one ≡ Some a → IsFound (has_name name) (is_member (Some own)) a)
    → option_map (λ a. a.id) found_one ≡ Some id → id ≡ actor_id own name
unfolding has_name
found_id own name None id h is = absurd cc
found_id own name (Some a) id h is =
    let f = h a refl in
    let same : a.id ≡ id = cc in
    sym same ∙ member_id (Some own) a f.kept ∙ ap (actor_id own) (bytes_eq-is a.name name f.passes)

pub id_of-is : (t : Town) (own name id : List ℕ) → list_all (is_member (Some own)) t.actors ≡ true → id_of t name ≡ Some id → id ≡ actor_id own name
id_of-is t own name id all is =
    found_id own name (find (has_name name) t.actors) id (λ a e. found (has_name name) (is_member (Some own)) t.actors a all e) is

-- a member with the name is found
pub some_found : {A : Type 0} (p : A → Bool) (xs : List A) → list_any p xs ≡ true → (x : A) × (find p xs ≡ Some x)
some_found p [] any = absurd cc
some_found {A} p (x ∷ xs) any =
    elim (p x) as (λ b. p x ≡ b → (y : A) × (find p (x ∷ xs) ≡ Some y)) [
      | true ↦ λ e. (x, rw e refl)
      | false ↦ λ e. let rest = some_found p xs (rw e at any) in (rest.0, rw e rest.1)
    ] refl

pub there_is : (t : Town) (own name : List ℕ) → list_all (is_member (Some own)) t.actors ≡ true → list_any (has_name name) t.actors ≡ true → id_of t name ≡ Some (actor_id own name)
there_is t own name all any =
    let f = some_found (has_name name) t.actors any in
    let id : id_of t name ≡ Some f.0.id = ap (λ (m : Option Actor). option_map (λ a. a.id) m) f.1 in
    id ∙ ap (λ (i : List ℕ). Some i) (id_of-is t own name f.0.id all id)
