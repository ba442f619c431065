-- A released row is the row itself except for the claim.
use Rattle.std.proofs.Common.{◌≡◌, ℕ, zero, suc, Bool, List, [], ◌∷◌, Some, refl, sym, ap, ◌∙◌}
use Rattle.std.specs.Prelude.{filter, map, slice_get}
use Rattle.std.specs.List.{list_any}
use Rattle.fedi_queue.specs.declared.rows.QueueRow.{QueueRow}
use Rattle.fedi_queue.specs.Claims.{is_at, release}
use Rattle.fedi_queue.specs.Queues.{is_claimed}
use Rattle.fedi_queue.specs.Rows.{is_row_of}
use Rattle.fedi_town.specs.declared.act.Act.{Act}
use Rattle.fedi_town.specs.Lists.{PassesOnce}

pub of_released : (acts : List Act) (id r : List ℕ) (row : QueueRow) → is_row_of acts id r (release row) ≡ is_row_of acts id r row
unfolding is_row_of
of_released acts id r row = refl

pub at_released : (a p : ℕ) (row : QueueRow) → is_at a p (release row) ≡ is_at a p row
unfolding is_at
at_released a p row = refl

pub any_released : (p : QueueRow → Bool) (rows : List QueueRow) → ((row : QueueRow) → p (release row) ≡ p row) → list_any p (map release rows) ≡ list_any p rows
any_released p [] same = refl
any_released p (row ∷ rows) same = rw (same row, any_released p rows same) refl

pub once_released : (p : QueueRow → Bool) (rows : List QueueRow) → ((row : QueueRow) → p (release row) ≡ p row) → PassesOnce p (map release rows) → PassesOnce p rows
once_released p [] same once = tt
once_released p (row ∷ rows) same once = (λ passes. sym (any_released p rows same) ∙ once.0 (same row ∙ passes), once_released p rows same once.1)

pub got_released : (rows : List QueueRow) (k : ℕ) (y : QueueRow) → slice_get rows k ≡ Some y → slice_get (map release rows) k ≡ Some (release y)
got_released [] k y got = absurd cc
got_released (row ∷ rows) zero y got = let same : row ≡ y = cc in rw same refl
got_released (row ∷ rows) (suc k) y got = got_released rows k y got

released_unclaimed : (rows : List QueueRow) → filter is_claimed (map release rows) ≡ []
unfolding is_claimed
released_unclaimed [] = refl
released_unclaimed (row ∷ rows) = released_unclaimed rows

pub none_claimed : (rows : List QueueRow) → map release rows ≡ rows → filter is_claimed rows ≡ []
none_claimed rows same = ap (λ (ys : List QueueRow). filter is_claimed ys) (sym same) ∙ released_unclaimed rows
