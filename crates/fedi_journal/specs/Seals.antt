-- What is found of a record that is to be followed by its seal.
use Rattle.std.specs.Prelude.{◌≡◌, ◌≢◌, ℕ, List, [], ◌∷◌, ◌++◌, take, Option, Some, None}
use Rattle.fedi_outside.specs.Images.{Format}

-- after these records, this one is followed by its seal, and this is remembered of all of them; or
-- it is followed by other bytes
abbrev pub IsFollowed : {S : Type 0} → Format → (List (List ℕ) → S) → List (List ℕ) → List ℕ
    → List ℕ → Option S → Type 0
IsFollowed f after rs r rest (Some next) =
    (next ≡ after (rs ++ r ∷ [])) × (take f.width rest ≡ f.seal rs r)
IsFollowed f after rs r rest None = take f.width rest ≢ f.seal rs r
