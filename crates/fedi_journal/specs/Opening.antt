-- The disk of a journal that was opened or made.
use Rattle.std.specs.Prelude.{Result, Ok, Err}
use Rattle.fedi_outside.specs.declared.disks.Disk as disks
use Rattle.fedi_journal.specs.declared.seals.Seal as seals
use Rattle.fedi_journal.specs.declared.journal.SealedJournal.{SealedJournal}

-- the disk of a journal
abbrev pub disk_of : {D S : Type 0} {disk_ghosts : disks.Ghosts D} {seal_ghosts : seals.Ghosts S}
    → SealedJournal D S disk_ghosts seal_ghosts → D
disk_of journal = journal.disk

-- the disk of the journal, or the one that was handed back
abbrev pub disk_after : {D S E : Type 0} {disk_ghosts : disks.Ghosts D}
    {seal_ghosts : seals.Ghosts S} → Result (SealedJournal D S disk_ghosts seal_ghosts) (E × D) → D
disk_after (Ok journal) = disk_of journal
disk_after (Err back) = back.1
