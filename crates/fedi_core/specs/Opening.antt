-- What remains of the opening of a machine.
use Rattle.std.specs.Prelude.{◌≡◌, ℕ, List, [], Option, None, Result, Ok, Err}
use Rattle.fedi_objects.specs.declared.entry.Entry.{Entry}
use Rattle.fedi_opening.specs.declared.fault.OpenFault.{OpenFault}
use Rattle.fedi_opening.specs.declared.fault.OpenFault.TheVariants.{Failed, Damaged, Empty, Memory}
use Rattle.fedi_core.specs.Machines.{Machine}

-- how the opening went, without the keeper that was handed back
abbrev pub outcome_of : {T E P : Type 0} → Result T (E × P) → Result T E
outcome_of (Ok core) = Ok core
outcome_of (Err back) = Err back.0

-- the keeper of the machine, or the one that was handed back
abbrev pub keeper_after : {E P : Type 0} → Result (Machine P) (E × P) → P
keeper_after (Ok core) = core.keeper
keeper_after (Err back) = back.1

-- why the history of a machine is not opened anew: it is only found damaged if the keeper does not
-- report its records, and empty if it has no entry
abbrev pub IsUnopened : Option (List (List ℕ)) → List Entry → OpenFault → Type 0
IsUnopened records history Failed = Unit {0}
IsUnopened records history (Damaged place) = records ≡ None
IsUnopened records history Empty = history ≡ []
IsUnopened records history Memory = Unit {0}
