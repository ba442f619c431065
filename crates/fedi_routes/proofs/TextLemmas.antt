-- Texts cut at the first byte that passes a test.
use Rattle.std.proofs.Common.{◌≡◌, ℕ, ◌+◌, ◌-◌, List, [], length, length-drop, take, drop, Bool, not, Some, None, sym, ◌∙◌, ap, arith}
use Rattle.std.specs.Prelude.{position}
use Rattle.std.proofs.Math.ListN.{drop_of_length-le}
use Rattle.std.proofs.Math.Seq.{take-length}
use Rattle.std.proofs.lemmas.List.Sums.{prefix_len-le-length}
use Rattle.std.proofs.lemmas.Grind.{common_steps}
use Rattle.std.specs.List.{position_or_len, before_first, after_first}

position_Some : (p : ℕ → Bool) (xs : List ℕ) (k : ℕ) → position p xs ≡ Some k → position_or_len p xs ≡ k
position_Some p xs k h = grind (arith, common_steps)

position_None : (p : ℕ → Bool) (xs : List ℕ) → position p xs ≡ None → position_or_len p xs ≡ length xs
position_None p xs h = grind (arith, common_steps, prefix_len-le-length (λ x. not (p x)) xs)

-- the part of a text before the byte, whether it is found or not
pub front_found : (p : ℕ → Bool) (xs : List ℕ) (k : ℕ) → position p xs ≡ Some k → take k xs ≡ before_first p xs
front_found p xs k h = ap (λ (n : ℕ). take n xs) (sym (position_Some p xs k h))

pub front_all : (p : ℕ → Bool) (xs : List ℕ) → position p xs ≡ None → xs ≡ before_first p xs
front_all p xs h = sym (ap (λ (n : ℕ). take n xs) (position_None p xs h) ∙ take-length xs)

-- and the part after the byte
pub back_found : (p : ℕ → Bool) (xs : List ℕ) (k : ℕ) → position p xs ≡ Some k → drop (k + 1) xs ≡ after_first p xs
back_found p xs k h = ap (λ (n : ℕ). drop (n + 1) xs) (sym (position_Some p xs k h))

pub back_none : (p : ℕ → Bool) (xs : List ℕ) → position p xs ≡ None → [] ≡ after_first p xs
back_none p xs h =
    let none : drop (length xs + 1) xs ≡ [] = drop_of_length-le xs (omega arith) in
    sym (ap (λ (n : ℕ). drop (n + 1) xs) (position_None p xs h) ∙ none)

-- what a slice from an index to the end shows
pub slice_to_end : (k : ℕ) (xs : List ℕ) → take (length xs - k) (drop k xs) ≡ drop k xs
slice_to_end k xs = ap (λ (n : ℕ). take n (drop k xs)) (sym (length-drop k xs)) ∙ take-length (drop k xs)
