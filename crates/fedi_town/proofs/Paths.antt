-- The paths of ids are plain, so that each id is an IRI.
use Rattle.std.proofs.Common.{◌≡◌, ℕ, ◌+◌, ◌%◌, ◌^◌, ◌<◌, ◌≤◌, true, leb, List, [], ◌∷◌, ◌++◌, length, refl, ◌∙◌, arith, lit<, lit≤}
use Rattle.std.specs.Cmp.Derive.{both_true}
use Rattle.std.specs.Prelude.{◌&&◌, ◌||◌, IsTrue, codes, decimal}
use Rattle.std.specs.List.{list_all}
use Rattle.std.proofs.lemmas.Bool.{and_parts, le-leb, leb-true, or_right}
use Rattle.std.proofs.lemmas.Fmt.{decimal_by_steps, length-decimal-le}
use Rattle.std.proofs.lemmas.List.{length-append}
use Rattle.std.proofs.lemmas.List.Folds.{list_all-append}
use Rattle.fedi_address.specs.Hosts.{is_path_byte, is_plain_path}
use Rattle.fedi_address.specs.Names.{is_lower, is_digit, is_name_byte, is_name}
use Rattle.fedi_town.specs.Ids.{actor_path, activity_path, object_path}

digit_in_path : (d : ℕ) → d < 10 → is_path_byte (48 + d) ≡ true
digit_in_path d lt =
    let low : leb 48 (48 + d) ≡ true = le-leb 48 (48 + d) (omega arith) in
    let high : leb (48 + d) 57 ≡ true = le-leb (48 + d) 57 (omega arith) in
    let digit : is_digit (48 + d) ≡ true = both_true low high in
    let second : (is_lower (48 + d) || is_digit (48 + d)) ≡ true = or_right (is_lower (48 + d)) (is_digit (48 + d)) digit in
    rw second refl

digits_in_path : (n : ℕ) → n < 2 ^ 64 → list_all is_path_byte (decimal n) ≡ true
digits_in_path =
    decimal_by_steps (λ n ds. list_all is_path_byte ds ≡ true)
    (λ n lt. both_true (digit_in_path n lt) refl)
    (λ n ds more h. list_all-append is_path_byte ds ((48 + n % 10) ∷ []) ∙ both_true h (both_true (digit_in_path (n % 10) (omega arith)) refl))

pub name_in_path : (name : List ℕ) → list_all is_name_byte name ≡ true → list_all is_path_byte name ≡ true
name_in_path [] h = refl
name_in_path (b ∷ name) h =
    let first : is_name_byte b ≡ true = (and_parts (is_name_byte b) (list_all is_name_byte name) h).0 in
    let rest = name_in_path name ((and_parts (is_name_byte b) (list_all is_name_byte name) h).1) in
    both_true (rw first refl) rest

-- the properties of a name as part of a path
record NameFacts (name : List ℕ) : Type 0 where
  short : length name ≤ 30
  bytes : list_all is_path_byte name ≡ true

name_facts : (name : List ℕ) → IsTrue (is_name name) → NameFacts name
name_facts name h =
    let first : (leb 1 (length name) && leb (length name) 30) ≡ true = (and_parts (leb 1 (length name) && leb (length name) 30) (list_all is_name_byte name) h).0 in
    record {
      short = leb-true (length name) 30 ((and_parts (leb 1 (length name)) (leb (length name) 30) first).1);
      bytes = name_in_path name ((and_parts (leb 1 (length name) && leb (length name) 30) (list_all is_name_byte name) h).1);
    }

-- `/users/` followed by a short text of such bytes is a plain path
plain_after_users : (tail : List ℕ) → length tail ≤ 121 → list_all is_path_byte tail ≡ true → IsTrue (is_plain_path (codes "/users/" ++ tail))
plain_after_users tail short bytes =
    let room : leb (length (codes "/users/" ++ tail)) 128 ≡ true = le-leb (length (codes "/users/" ++ tail)) 128 (omega arith) in
    both_true (both_true refl room) (rw bytes refl)

pub actor_path_is_plain : (name : List ℕ) → IsTrue (is_name name) → IsTrue (is_plain_path (actor_path name))
actor_path_is_plain name h = let n = name_facts name h in plain_after_users name (omega (arith, n.short)) n.bytes

plain_numbered : (kind name : List ℕ) (number : ℕ) → length kind ≤ 3 → list_all is_path_byte kind ≡ true → number < 2 ^ 64 → IsTrue (is_name name)
    → IsTrue (is_plain_path (codes "/users/" ++ (name ++ (kind ++ decimal number))))
plain_numbered kind name number three plain small h =
    let n = name_facts name h in
    let digits : length (decimal number) ≤ 20 = length-decimal-le 20 number (lit< tt) (omega arith) (omega arith) in
    plain_after_users (name ++ (kind ++ decimal number))
    (omega (arith, length-append name (kind ++ decimal number), length-append kind (decimal number), n.short))
    (list_all-append is_path_byte name (kind ++ decimal number)
    ∙ both_true n.bytes (list_all-append is_path_byte kind (decimal number) ∙ both_true plain (digits_in_path number small)))

pub activity_path_is_plain : (name : List ℕ) (number : ℕ) → number < 2 ^ 64 → IsTrue (is_name name) → IsTrue (is_plain_path (activity_path name number))
activity_path_is_plain name number small h = plain_numbered (codes "/a/") name number (lit≤ tt) refl small h

pub object_path_is_plain : (name : List ℕ) (number : ℕ) → number < 2 ^ 64 → IsTrue (is_name name) → IsTrue (is_plain_path (object_path name number))
object_path_is_plain name number small h = plain_numbered (codes "/o/") name number (lit≤ tt) refl small h
