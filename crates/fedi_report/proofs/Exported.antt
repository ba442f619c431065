-- Lemmas on the rows of exports.
use Rattle.std.proofs.Common.{arith, ap, refl, ◌≡◌, ◌∙◌, ℕ, zero, suc, ◌+◌, List, [], ◌∷◌, length, map, option_map, slice_get, Some}
use Rattle.std.proofs.lemmas.Option.{slice_get-map}
use Rattle.fedi_report.specs.Exports.{activity_row, activity_rows}
use Rattle.fedi_report.specs.Tables.{row_at, row_or_nothing}
use Rattle.fedi_town.specs.declared.act.Act.{Act}

-- the row of the activity at a position
pub activity_row_at : (xs : List Act) (first k : ℕ) → slice_get (activity_rows first xs) k ≡ option_map (activity_row (first + k)) (slice_get xs k)
activity_row_at [] first k = refl
activity_row_at (x ∷ xs) first zero = let e : first ≡ first + 0 = omega (arith) in ap (λ n. Some (activity_row n x)) e
activity_row_at (x ∷ xs) first (suc k) =
    let e : suc first + k ≡ first + suc k = omega (arith) in
    activity_row_at xs (suc first) k ∙ ap (λ n. option_map (activity_row n) (slice_get xs k)) e

-- there are as many rows as activities
pub activity_rows_length : (xs : List Act) (first : ℕ) → length (activity_rows first xs) ≡ length xs
activity_rows_length [] first = refl
activity_rows_length (x ∷ xs) first = ap suc (activity_rows_length xs (suc first))

-- the text of the row of the activity at a position
pub activity_text_at : (xs : List Act) (k : ℕ) → row_at (activity_rows 0 xs) k ≡ row_or_nothing (option_map (activity_row k) (slice_get xs k))
activity_text_at xs k =
    let e : 0 + k ≡ k = omega (arith) in
    ap row_or_nothing (activity_row_at xs 0 k ∙ ap (λ n. option_map (activity_row n) (slice_get xs k)) e)

-- the text of the row of the element at a position
pub mapped_row_at : {A : Type 0} (f : A → List (List ℕ)) (xs : List A) (k : ℕ) → row_at (map f xs) k ≡ row_or_nothing (option_map f (slice_get xs k))
mapped_row_at f xs k = ap row_or_nothing (slice_get-map f xs k)
