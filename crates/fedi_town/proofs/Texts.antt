-- Texts that are equal, and conditions that do not both hold.
use Rattle.std.proofs.Common.{◌≡◌, ℕ, Bool, true, false, List, refl}
use Rattle.std.specs.Prelude.{◌&&◌, ◌||◌}
use Rattle.std.specs.Str.{bytes_eq}
use Rattle.std.proofs.lemmas.Bool.{false_from_ne_true}
use Rattle.std.proofs.lemmas.Slice.Eq.{bytes_eq-Decides}

pub bytes_eq-same : (b : List ℕ) → bytes_eq b b ≡ true
bytes_eq-same b = (bytes_eq-Decides b b).1 refl

pub bytes_eq-is : (a b : List ℕ) → bytes_eq a b ≡ true → a ≡ b
bytes_eq-is a b e = (bytes_eq-Decides a b).0 e

pub is_false : (a : Bool) → (a ≡ true → ⊥) → a ≡ false
is_false true h = absurd (h refl)
is_false false h = refl

pub not_both : (a : Bool) → a ≡ true → a ≡ false → ⊥
not_both true p q = absurd cc
not_both false p q = absurd cc

pub bytes_eq-swapped : (a b : List ℕ) → bytes_eq a b ≡ false → bytes_eq b a ≡ false
bytes_eq-swapped a b other =
    false_from_ne_true (bytes_eq b a)
    (λ same. not_both (bytes_eq a b) (rw (bytes_eq-is b a same) (bytes_eq-same a)) other)

pub or_true : (a : Bool) → (a || true) ≡ true
or_true true = refl
or_true false = refl

pub or_no : (a : Bool) → (a || false) ≡ a
or_no true = refl
or_no false = refl

pub and_none : (a : Bool) → (a && false) ≡ false
and_none true = refl
and_none false = refl
