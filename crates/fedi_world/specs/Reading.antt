-- Where requests arrive.
use Rattle.std.specs.Prelude.{◌≡◌, ◌≢◌, ℕ, List, Some, slice_get}
use Rattle.fedi_logged.specs.Logs.{MachineLog}
use Rattle.fedi_town.specs.Histories.{town}

-- the server of this number has the host
abbrev pub IsAt : {P : Type 0} → List (MachineLog P) → List ℕ → ℕ → Type 0
IsAt {P} seats host n =
    (m : MachineLog P) × (slice_get seats n ≡ Some m) × ((town m.core.history).host ≡ Some host)

-- no server has it
abbrev pub IsNowhere : {P : Type 0} → List (MachineLog P) → List ℕ → Type 0
IsNowhere {P} seats host =
    (n : ℕ) (m : MachineLog P) → slice_get seats n ≡ Some m
    → (town m.core.history).host ≢ Some host
