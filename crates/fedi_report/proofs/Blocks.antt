-- Lemmas on the rows of a table, block by block.
use Rattle.std.proofs.Common.{arith, ◌-◌, ◌≤◌, ◌≡◌, ◌∙◌, refl, sym, ap, ℕ, zero, suc, ◌+◌, List, [], ◌∷◌, ◌++◌, drop, take, slice_get}
use Rattle.std.proofs.Math.Seq.{take-add}
use Rattle.std.proofs.lemmas.List.{append_assoc, append-nil, take-append-drop}
use Rattle.std.proofs.lemmas.List.Concat.{flat_map-append}
use Rattle.csv.specs.Writing.{default_writer, row_text}
use Rattle.fedi_report.specs.Tables.{row_at, row_or_nothing, rows_from, rows_text}

-- the element at a position after the first ones
get_behind : {A : Type 0} (xs : List A) (k n : ℕ) → slice_get (drop k xs) n ≡ slice_get xs (k + n)
get_behind xs zero n = let e : n ≡ 0 + n = omega (arith) in ap (slice_get xs) e
get_behind [] (suc k) n = refl
get_behind (x ∷ xs) (suc k) n = let e : suc (k + n) ≡ suc k + n = omega (arith) in get_behind xs k n ∙ ap (slice_get (x ∷ xs)) e

-- one more of the first rows
one_more : (rows : List (List (List ℕ))) (n : ℕ) → rows_text (take n rows) ++ row_or_nothing (slice_get rows n) ≡ rows_text (take (suc n) rows)
one_more [] zero = refl
one_more [] (suc n) = refl
one_more (row ∷ rows) zero = sym (append-nil (row_text default_writer row))
one_more (row ∷ rows) (suc n) = append_assoc (row_text default_writer row) (rows_text (take n rows)) _ ∙ ap (λ text. row_text default_writer row ++ text) (one_more rows n)

-- one more row of a block
pub next_row : (rows : List (List (List ℕ))) (from n : ℕ) → rows_text (rows_from rows from n) ++ row_at rows (from + n) ≡ rows_text (rows_from rows from (suc n))
next_row rows from n = ap (λ r. rows_text (rows_from rows from n) ++ row_or_nothing r) (sym (get_behind rows from n)) ∙ one_more (drop from rows) n

-- the text with the row at the next position
pub next_row_at : (rows : List (List (List ℕ))) (from next : ℕ) (before after : List ℕ) → from ≤ next → before ≡ rows_text (rows_from rows from (next - from))
    → after ≡ before ++ row_at rows next → after ≡ rows_text (rows_from rows from ((next + 1) - from))
next_row_at rows from next before after behind was is =
    let here : from + (next - from) ≡ next = omega (arith, behind) in
    let more : suc (next - from) ≡ (next + 1) - from = omega (arith, behind) in
    is ∙ ap (λ t. t ++ row_at rows next) was ∙ ap (λ k. rows_text (rows_from rows from (next - from)) ++ row_at rows k) (sym here)
    ∙ next_row rows from (next - from) ∙ ap (λ n. rows_text (rows_from rows from n)) more

-- the first rows and then a block
pub rows_and_block : (names : List ℕ) (rows : List (List (List ℕ))) (from next : ℕ) → from ≤ next
    → (names ++ rows_text (take from rows)) ++ rows_text (rows_from rows from (next - from)) ≡ names ++ rows_text (take next rows)
rows_and_block names rows from next behind =
    let here : from + (next - from) ≡ next = omega (arith, behind) in
    let both = take-add from (next - from) rows in
    append_assoc names (rows_text (take from rows)) _
    ∙ ap (λ t. names ++ t) (sym (flat_map-append (row_text default_writer) (take from rows) (rows_from rows from (next - from)))
    ∙ ap rows_text (sym both ∙ ap (λ n. take n rows) here))

-- and all rows that follow
pub rows_and_rest : (names : List ℕ) (rows : List (List (List ℕ))) (n : ℕ) → names ++ rows_text rows ≡ (names ++ rows_text (take n rows)) ++ rows_text (drop n rows)
rows_and_rest names rows n =
    ap (λ t. names ++ rows_text t) (sym (take-append-drop n rows))
    ∙ ap (λ t. names ++ t) (flat_map-append (row_text default_writer) (take n rows) (drop n rows))
    ∙ sym (append_assoc names (rows_text (take n rows)) (rows_text (drop n rows)))
