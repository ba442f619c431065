-- A string that begins with another.
use Rattle.std.proofs.Common.{◌≡◌, ℕ, true, false, List, [], ◌∷◌, ◌++◌, length, take, drop, refl, nat_eq}
use Rattle.std.specs.Prelude.{◌&&◌}
use Rattle.std.specs.Str.{bytes_eq}
use Rattle.std.proofs.lemmas.Bool.{and_parts}

-- if it does, the rest decides
pub rest_after : (front rest text back : List ℕ) → bytes_eq (take (length front) text) front ≡ true → back ≡ drop (length front) text
    → bytes_eq back rest ≡ bytes_eq text (front ++ rest)
rest_after [] rest text back same is = rw is refl
rest_after (x ∷ front) rest [] back same is = absurd cc
rest_after (x ∷ front) rest (y ∷ text) back same is =
    let parts = and_parts (nat_eq y x) (bytes_eq (take (length front) text) front) same in
    rw parts.0 (rest_after front rest text back parts.1 is)

pub other_prefix : (front rest text : List ℕ) → bytes_eq (take (length front) text) front ≡ false → bytes_eq text (front ++ rest) ≡ false
other_prefix [] rest text other = absurd cc
other_prefix (x ∷ front) rest [] other = refl
other_prefix (x ∷ front) rest (y ∷ text) other =
    elim (nat_eq y x) as (λ b. (b && bytes_eq (take (length front) text) front) ≡ false → (b && bytes_eq text (front ++ rest)) ≡ false) [
      | true ↦ λ e. other_prefix front rest text e
      | false ↦ λ e. refl
    ] other
