-- Members: each has the id that its name gives, and no member's id is that of a collection or
-- Public.
use Rattle.std.proofs.Common.{◌≡◌, ℕ, Bool, true, false, leb, List, [], ◌∷◌, ◌++◌, length, Option, Some, None, refl, sym, ap, subst, ◌∙◌, arith, append_assoc}
use Rattle.std.specs.Prelude.{◌&&◌, codes, slice_index}
use Rattle.std.specs.List.{list_all, find}
use Rattle.std.specs.Str.{bytes_eq}
use Rattle.std.proofs.lemmas.Bool.{and_parts}
use Rattle.std.proofs.lemmas.List.{append_cancel_left}
use Rattle.std.proofs.lemmas.List.Folds.{list_all-append}
use Rattle.fedi_address.specs.Hosts.{is_host_text, address}
use Rattle.fedi_address.specs.Iris.{public_iri, target_of, host_of}
use Rattle.fedi_address.specs.Names.{is_name, is_name_byte}
use Rattle.fedi_address.proofs.Parts.{host_of-address, target_of-address}
use Rattle.fedi_town.specs.Ids.{actor_id, actor_path, followers_id}
use Rattle.fedi_town.specs.Towns.{Town}
use Rattle.fedi_town.specs.declared.act.Actor.{Actor}
use Rattle.fedi_town.proofs.Paths.{actor_path_is_plain}
use Rattle.fedi_town.proofs.Texts.{is_false, bytes_eq-is}

-- the member's name is valid, and gives its id at the host
abbrev pub is_member : Option (List ℕ) → Actor → Bool
is_member None a = false
is_member (Some host) a = is_host_text host && (is_name a.name && bytes_eq a.id (actor_id host a.name))

pub record HasMembers (t : Town) : Type 0 where
  pub all : list_all (is_member t.host) t.actors ≡ true

-- ---- ids of members

pub name_bytes : (name : List ℕ) → is_name name ≡ true → list_all is_name_byte name ≡ true
name_bytes name h = (and_parts (leb 1 (length name) && leb (length name) 30) (list_all is_name_byte name) h).1

-- a member's id is of the host
pub host_of-actor_id : (host name : List ℕ) → is_host_text host ≡ true → is_name name ≡ true → host_of (actor_id host name) ≡ host
unfolding actor_id
host_of-actor_id host name shape ref_id = host_of-address host (actor_path name) shape (actor_path_is_plain name ref_id)

public_target : target_of public_iri ≡ codes "/ns/activitystreams"
unfolding target_of
public_target = refl

apart : (x y : ℕ) → x ≡ y → x ≡ 117 → y ≡ 110 → ⊥
apart x y same p q = omega arith

unlike : (name : List ℕ) → actor_path name ≡ codes "/ns/activitystreams" → ⊥
unlike name e = apart (slice_index (actor_path name) 1) (slice_index (codes "/ns/activitystreams") 1) (ap (λ (p : List ℕ). slice_index p 1) e) refl refl

pub not_public : (host name : List ℕ) → is_host_text host ≡ true → is_name name ≡ true → bytes_eq (actor_id host name) public_iri ≡ false
unfolding actor_id
not_public host name shape ref_id =
    is_false (bytes_eq (actor_id host name) public_iri) (λ e.
    let same : address host (actor_path name) ≡ public_iri = bytes_eq-is (address host (actor_path name)) public_iri e in
    let path : actor_path name ≡ codes "/ns/activitystreams" =
    sym (target_of-address host (actor_path name) shape (actor_path_is_plain name ref_id)) ∙ ap target_of same ∙ public_target in
    unlike name path)

no_slash : (m tail : List ℕ) → list_all is_name_byte (m ++ 47 ∷ tail) ≡ true → ⊥
no_slash m tail h =
    let both : (list_all is_name_byte m && false) ≡ true = sym (list_all-append is_name_byte m (47 ∷ tail)) ∙ h in
    let wrong : false ≡ true = (and_parts (list_all is_name_byte m) false both).1 in
    absurd cc

pub not_followers : (host n m : List ℕ) → is_name n ≡ true → bytes_eq (actor_id host n) (followers_id (actor_id host m)) ≡ false
unfolding actor_id
not_followers host n m ref_id =
    is_false (bytes_eq (actor_id host n) (followers_id (actor_id host m))) (λ e.
    let same : codes "https://" ++ (host ++ (codes "/users/" ++ n)) ≡ (codes "https://" ++ (host ++ (codes "/users/" ++ m))) ++ codes "/followers" =
    bytes_eq-is (actor_id host n) (followers_id (actor_id host m)) e in
    let far : codes "https://" ++ (host ++ (codes "/users/" ++ n)) ≡ codes "https://" ++ (host ++ (codes "/users/" ++ (m ++ codes "/followers"))) =
    same ∙ simp append_assoc in
    let near : host ++ (codes "/users/" ++ n) ≡ host ++ (codes "/users/" ++ (m ++ codes "/followers")) = append_cancel_left (codes "https://") _ _ far in
    let path : codes "/users/" ++ n ≡ codes "/users/" ++ (m ++ codes "/followers") = append_cancel_left host _ _ near in
    let tail : n ≡ m ++ codes "/followers" = append_cancel_left (codes "/users/") _ _ path in
    no_slash m (codes "followers") (subst (λ (s : List ℕ). list_all is_name_byte s ≡ true) tail (name_bytes n ref_id)))

-- ---- the found member

-- the found element passes, and has the property that all have
pub record IsFound {A : Type 0} (p q : A → Bool) (x : A) : Type 0 where
  pub passes : p x ≡ true
  pub kept : q x ≡ true

pub found : {A : Type 0} (p q : A → Bool) (xs : List A) (x : A) → list_all q xs ≡ true → find p xs ≡ Some x → IsFound p q x
found p q [] x all is = absurd cc
found {A} p q (y ∷ xs) x all is =
    let parts = and_parts (q y) (list_all q xs) all in
    elim (p y) as (λ b. p y ≡ b → IsFound p q x) [
      | true ↦ λ passes.
          let here : find p (y ∷ xs) ≡ Some y = rw passes refl in
          let same : y ≡ x = cc in
          subst (λ (z : A). IsFound p q z) same (record { passes = passes; kept = parts.0 })
      | false ↦ λ fails.
          let later : find p (y ∷ xs) ≡ find p xs = rw fails refl in
          let there : find p xs ≡ Some x = cc in
          found p q xs x parts.1 there
    ] refl
