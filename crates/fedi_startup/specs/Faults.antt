-- How the faults of a journal, of a history and of a keeper are reported as faults of a store.
use Rattle.fedi_journal.specs.declared.faults.InitFault.{InitFault}
use Rattle.fedi_journal.specs.declared.faults.InitFault.TheVariants as inits
use Rattle.fedi_journal.specs.declared.faults.JournalFault.{JournalFault}
use Rattle.fedi_journal.specs.declared.faults.JournalFault.TheVariants as journals
use Rattle.fedi_opening.specs.declared.fault.OpenFault.{OpenFault}
use Rattle.fedi_opening.specs.declared.fault.OpenFault.TheVariants as openings
use Rattle.fedi_startup.specs.declared.faults.MakeFault.{MakeFault}
use Rattle.fedi_startup.specs.declared.faults.MakeFault.TheVariants as makes
use Rattle.fedi_startup.specs.declared.faults.StoreFault.{StoreFault}
use Rattle.fedi_startup.specs.declared.faults.StoreFault.TheVariants.{NotAStore, OldFormat}
use Rattle.fedi_startup.specs.declared.faults.StoreFault.TheVariants.{DamagedByte}
use Rattle.fedi_startup.specs.declared.faults.StoreFault.TheVariants.{DamagedRecord, Failed, Memory}

-- a journal was not opened
abbrev pub of_journal : JournalFault → StoreFault
of_journal journals.NotAStore = NotAStore
of_journal journals.OldFormat = OldFormat
of_journal (journals.Damaged place) = DamagedByte place
of_journal journals.Failed = Failed
of_journal journals.Memory = Memory

-- a history was not opened
abbrev pub of_opening : OpenFault → StoreFault
of_opening openings.Failed = Failed
of_opening (openings.Damaged place) = DamagedRecord place
of_opening openings.Empty = NotAStore
of_opening openings.Memory = Memory

-- a journal was not made
abbrev pub of_init : InitFault → MakeFault
of_init inits.Exists = makes.Exists
of_init inits.Failed = makes.Failed
