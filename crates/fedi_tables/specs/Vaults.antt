-- What a vault and a selection over a file show of themselves, before and after it is open.
use Rattle.std.specs.Prelude.{ℕ, false, Option, None, Some}
use Rattle.fedi_outside.specs.Causes.{next_count}
use Rattle.fedi_outside.specs.Vaults.{VaultState}
use Rattle.fedi_selection.specs.Selections.{SelectionState}
use Rattle.fedi_tables.specs.declared.databases.Unopened.{Unopened}
use Rattle.fedi_tables.specs.declared.databases.Unopened.TheVariants.{Failed, Memory}

-- the count of faults after a file was not opened: a failure is counted, lack of memory is not
abbrev pub counted : Unopened → ℕ → ℕ
counted Failed n = next_count n
counted Memory n = n

-- a vault over a file: before the file is open, no keeper is out, and nothing is said of records
abbrev pub vault_shown : {V : Type 0} → (V → VaultState) → Option V → ℕ → VaultState
vault_shown shown None faults = record { kept = None; out = false; faults = faults }
vault_shown shown (Some vault) faults = shown vault

-- a selection over a file: before the file is open, nothing is said of rows
abbrev pub selection_shown : {L : Type 0} → (L → SelectionState) → Option L → ℕ → SelectionState
selection_shown shown None faults = record { laid = None; faults = faults }
selection_shown shown (Some selection) faults = shown selection
