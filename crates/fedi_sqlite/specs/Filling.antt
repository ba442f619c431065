-- What filling a table from a keeper leaves, in one transaction.
use Rattle.std.specs.Prelude.{◌≡◌, ◌≢◌, ◌⊎◌, ℕ, List, [], ◌∷◌, ◌++◌, length, slice_get, Option}
use Rattle.std.specs.Prelude.{Some, IfSome, IsErrOf, MatchResult, OnOk, Result}
use Rattle.sqlite.specs.State.{State}
use Rattle.fedi_outside.specs.declared.vaults.FillFault.{FillFault}
use Rattle.fedi_outside.specs.declared.vaults.FillFault.TheVariants.{Exists}
use Rattle.fedi_sqlite.specs.Kept.{IsAdding, Keeps}

-- in a transaction before which these records were kept, or after one that was rolled back to them
abbrev pub IsRetained : List (List ℕ) → State → Type 0
IsRetained kept s = ((records : List (List ℕ)) × IsAdding kept records s) ⊎ Keeps kept s

-- copying one record, at the first free place
abbrev pub CopiesOne : {T E : Type 0} → Option (List (List ℕ)) → State → State → ℕ → Result T E
    → Type 0
CopiesOne from old new place r =
    (kept records : List (List ℕ)) → IsAdding kept records old → place ≡ length records
    → MatchResult r (λ _. (payload : List ℕ) × IsAdding kept (records ++ payload ∷ []) new
    × IfSome from (λ all. slice_get all place ≡ Some payload)) (λ _. IsRetained kept new)

-- copying all records, if there are none so far
abbrev pub CopiesAll : {T E : Type 0} → Option (List (List ℕ)) → State → State → Result T E → Type 0
CopiesAll from old new r =
    (kept : List (List ℕ)) → IsAdding kept [] old
    → MatchResult r (λ _. (records : List (List ℕ)) × IsAdding kept records new
    × IfSome from (λ all. records ≡ all)) (λ _. IsRetained kept new)

-- filling a table without records, in a transaction of its own
abbrev pub FillsEmpty : {T E : Type 0} → Option (List (List ℕ)) → State → State → Result T E
    → Type 0
FillsEmpty from old new r =
    Keeps [] old
    → MatchResult r (λ _. (records : List (List ℕ)) × Keeps records new
    × IfSome from (λ all. records ≡ all)) (λ _. Keeps [] new)

-- filling a table: all records of the keeper are kept, or after an error what was kept before
pub record Fills {T : Type 0} (from : Option (List (List ℕ))) (old new : State)
    (r : Result T FillFault) : Type 0 where
  pub filled : (kept : List (List ℕ)) → Keeps kept old
      → MatchResult r (λ _. (records : List (List ℕ)) × Keeps records new
      × IfSome from (λ all. records ≡ all)) (λ _. Keeps kept new)
  pub none : (kept : List (List ℕ)) → Keeps kept old → OnOk r (kept ≡ [])
  pub some : (kept : List (List ℕ)) → Keeps kept old → IsErrOf r Exists → kept ≢ []
