-- Rows that are written and read one after the other.
use Rattle.std.proofs.Common.{◌≡◌, ℕ, zero, suc, ◌+◌, ◌<◌, ◌≤◌, pos, List, [], ◌∷◌, ◌++◌, length, map, take, slice_index_or, Less, refl, sym, ap, subst, ◌∙◌, arith, tests}
use Rattle.std.specs.List.{AllByRecursion}
use Rattle.sqlite.specs.declared.types.Value.TheVariants.{Int}
use Rattle.sqlite.specs.Order.{Row}
use Rattle.sqlite_value.specs.Order.{value_cmp}
use Rattle.sqlite_value.proofs.OrderLemmas.{value_cmp-Int}
use Rattle.fedi_selection.specs.ActRows.{ActFields, AreInOrder}
use Rattle.fedi_selection.specs.Acts.{IsAfter, act_row, shown_row}

lower : (m n : ℕ) → m < n → value_cmp (Int (pos m)) (Int (pos n)) ≡ Less
lower m n h = value_cmp-Int (pos m) (pos n) ∙ grind (arith, tests)

at_index : {X : Type 0} (P : X → Type 0) (xs : List X) (i : ℕ) (d : X) → AllByRecursion P xs → i < length xs → P (slice_index_or xs i d)
at_index P [] i d all low = absurd (omega (arith, low))
at_index P (x ∷ xs) zero d all low = all.0
at_index P (x ∷ xs) (suc i) d all low = at_index P xs i d all.1 (omega (arith, low))

-- the row at this index comes after those before it
pub row_after : (rows : List ActFields) (i : ℕ) (x : ActFields) → AreInOrder rows → i < length rows → x ≡ slice_index_or rows i x → IsAfter (map act_row (take i rows)) (act_row x)
row_after [] i x order low is = absurd (omega (arith, low))
row_after (y ∷ ys) zero x order low is = tt
row_after (y ∷ ys) (suc i) x order low is =
    let short : i < length ys = omega (arith, low) in
    let above : y.place < x.place = subst (λ (z : ActFields). y.place < z.place) (sym is) (at_index (λ (z : ActFields). y.place < z.place) ys i x order.0 short) in
    (lower y.place x.place above, row_after ys i x order.1 short is)

-- and makes one more
pub one_more : {X : Type 0} (xs : List X) (i : ℕ) (x : X) → i < length xs → x ≡ slice_index_or xs i x → take (i + 1) xs ≡ take i xs ++ x ∷ []
one_more [] i x low is = absurd (omega (arith, low))
one_more (y ∷ ys) zero x low is = ap (λ z. z ∷ []) (sym is)
one_more (y ∷ ys) (suc i) x low is =
    let e : suc i + 1 ≡ suc (i + 1) = omega arith in
    ap (λ n. take n (y ∷ ys)) e ∙ ap (λ rest. y ∷ rest) (one_more ys i x (omega (arith, low)) is)

map_more : (xs : List ActFields) (x : ActFields) → map act_row (xs ++ x ∷ []) ≡ map act_row xs ++ act_row x ∷ []
map_more [] x = refl
map_more (y ∷ ys) x = ap (λ rest. act_row y ∷ rest) (map_more ys x)

pub one_more_row : (rows : List ActFields) (i : ℕ) (x : ActFields) → i < length rows → x ≡ slice_index_or rows i x → map act_row (take i rows) ++ act_row x ∷ [] ≡ map act_row (take (i + 1) rows)
one_more_row rows i x low is = sym (ap (map act_row) (one_more rows i x low is) ∙ map_more (take i rows) x)

pub take_past : {X : Type 0} (xs : List X) (i : ℕ) → length xs ≤ i → take i xs ≡ xs
take_past [] zero past = refl
take_past [] (suc i) past = refl
take_past (x ∷ xs) zero past = absurd (omega (arith, past))
take_past (x ∷ xs) (suc i) past = ap (λ rest. x ∷ rest) (take_past xs i (omega (arith, past)))

-- the activity that the row at this index shows
pub record ShownAt (acts : List ActFields) (i : ℕ) (row : Row) : Type 0 where
  pub act : ActFields
  pub is : row ≡ shown_row act
  pub more : take (i + 1) acts ≡ take i acts ++ act ∷ []

pub shown_at : (acts : List ActFields) (i : ℕ) (row : Row) → i < length (map shown_row acts) → row ≡ slice_index_or (map shown_row acts) i row → ShownAt acts i row
shown_at [] i row low is = absurd (omega (arith, low))
shown_at (x ∷ acts) zero row low is = record { act = x; is = is; more = refl }
shown_at (x ∷ acts) (suc i) row low is =
    let rest = shown_at acts i row (omega (arith, low)) is in
    let e : suc i + 1 ≡ suc (i + 1) = omega arith in
    record { act = rest.act; is = rest.is; more = ap (λ n. take n (x ∷ acts)) e ∙ ap (λ them. x ∷ them) rest.more }
