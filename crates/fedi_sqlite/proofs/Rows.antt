-- Rows at the places from 0 on.
use Rattle.std.proofs.Common.{◌≡◌, ℕ, ◌+◌, ◌<◌, pos, List, [], ◌∷◌, ◌++◌, length, Bool, true, false, cond, Less, refl, ap, ◌∙◌, arith, tests}
use Rattle.sqlite.specs.declared.types.Value.{Value}
use Rattle.sqlite.specs.declared.types.Value.TheVariants.{Null, Int}
use Rattle.sqlite_value.specs.Order.{value_cmp}
use Rattle.sqlite_value.proofs.OrderLemmas.{value_cmp-Int}
use Rattle.sqlite_trees.specs.Tree.{put_row}
use Rattle.sqlite.specs.Ops.{unary}
use Rattle.sqlite.specs.Kind.TheVariants.{Integer}
use Rattle.sqlite.specs.Cast.{cast}
use Rattle.fedi_sqlite.specs.Kept.{row_of, rows_from}

pub lower : (m n : ℕ) → m < n → value_cmp (Int (pos m)) (Int (pos n)) ≡ Less
lower m n h = value_cmp-Int (pos m) (pos n) ∙ grind (arith, tests)

-- a row past all places goes to the end
pub put_last : (records : List (List ℕ)) (from place : ℕ) (payload : List ℕ) → place ≡ from + length records
    → put_row (row_of place payload) (rows_from from records) ≡ rows_from from (records ++ payload ∷ [])
put_last [] from place payload is = ap (λ n. row_of n payload ∷ []) (omega (arith, is))
put_last (first ∷ more) from place payload is =
    rw (lower from place (omega (arith, is))) (ap (λ rows. row_of from first ∷ rows) (put_last more (from + 1) place payload (omega (arith, is))))

either : (b : Bool) (x : Value) → cond b x x ≡ x
either true x = refl
either false x = refl

pub cast_null : cast Integer Null ≡ Null
unfolding unary
cast_null = either _ Null

pub cast_int : (n : ℕ) → cast Integer (Int (pos n)) ≡ Int (pos n)
unfolding unary
cast_int n = either _ (Int (pos n))
