-- An entry that may be added can be written.
use Rattle.fedi_entry.specs.Limits.{KeepsLimits}
use Rattle.fedi_objects.specs.declared.entry.Entry.{Entry}
use Rattle.fedi_opening.proofs.AdmissibleLimits.{admissible_keeps}
use Rattle.fedi_town.specs.Towns.{Town}
use Rattle.fedi_core.specs.Keeping.{MayAdd}

pub added_keeps : (t : Town) (e : Entry) → MayAdd t e → KeepsLimits e
added_keeps t e may = admissible_keeps t e may.admissible may.attempt
