-- The machines with which a world starts.
use Rattle.std.specs.Prelude.{◌≡◌, ℕ, List, IsTrue, Some, is_some, slice_get}
use Rattle.fedi_core.specs.Machines.{Machine}
use Rattle.fedi_queue.specs.Rows.{rows_of}
use Rattle.fedi_town.specs.Histories.{town}
use Rattle.fedi_worlds.specs.Promises.{IsSetUp}

-- the machine has been set up, it has only members and peers so far, and no delivery is claimed
pub record IsNew {P : Type 0} (m : Machine P) : Type 0 where
  pub hosted : IsTrue (is_some (town m.history).host)
  pub set_up : IsSetUp m.history
  pub unclaimed : m.rows ≡ rows_of (town m.history)

-- each of them is new, and no two have the same host
pub record AreNew {P : Type 0} (machines : List (Machine P)) : Type 0 where
  pub each : (n : ℕ) (m : Machine P) → slice_get machines n ≡ Some m → IsNew m
  pub hosts : (j k : ℕ) (m o : Machine P) → slice_get machines j ≡ Some m
      → slice_get machines k ≡ Some o → (town m.history).host ≡ (town o.history).host → j ≡ k
