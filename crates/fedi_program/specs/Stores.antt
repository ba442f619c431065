-- What a run does with the store of a disk, and what it prints about it.
use Rattle.std.specs.Prelude.{◌≡◌, ◌⊎◌, ℕ, Bool, List, [], ◌∷◌, ◌++◌, codes, decimal, Option, None}
use Rattle.std.specs.Prelude.{IfSome}
use Rattle.hex.specs.Hex.{encode_lower}
use Rattle.fedi_address.specs.Hosts.{IsHost}
use Rattle.fedi_log.specs.Keeping.{GoesAlone, HoldsFrom, State, since}
use Rattle.fedi_log.specs.Log.{Log, given}
use Rattle.fedi_entry.specs.Codes.{code_of}
use Rattle.fedi_objects.specs.declared.entry.Entry.{Entry}
use Rattle.fedi_objects.specs.declared.entry.Entry.TheVariants.{Hosted}
use Rattle.fedi_journal.specs.Chains.{chain, chained}
use Rattle.fedi_journal.specs.Making.{KeepsOther}
use Rattle.fedi_outside.specs.Disks.{DiskCrashes, DiskState, IsUntouched}
use Rattle.fedi_outside.specs.declared.disks.Disk.{Ghosts as DiskGhosts}
use Rattle.fedi_logged.specs.Conversations.{IsNow}
use Rattle.fedi_logged.specs.Endings.{BreaksOff, Output, Scene, Writes}
use Rattle.fedi_program.specs.Endings.{HoldsSession, Prints, TalksIfTold}
use Rattle.fedi_logged.specs.Turning.{setting_by}
use Rattle.fedi_program.specs.Members.{MakesMember, Reports, refusal_line}
use Rattle.fedi_program.specs.Peers.{MakesPeer}
use Rattle.fedi_program.specs.declared.commands.Table.{Table}
use Rattle.fedi_program.specs.declared.commands.Table.TheVariants.{Actors, Activities, Queue}
use Rattle.fedi_report.specs.Exports.{activities_text, actors_text, queue_text}
use Rattle.fedi_report.specs.Reports.{check_text}
use Rattle.fedi_report.specs.Tables.{Begins}
use Rattle.fedi_town.specs.Histories.{town}
use Rattle.fedi_town.specs.Towns.{Town}
use Rattle.fedi_logged.specs.Marks.{MarksMayCome}
use Rattle.fedi_startup.specs.Making.{IsMade, IsNotMade, LeavesAtMost}
use Rattle.fedi_startup.specs.Stores.{ComesBack, IsClosed, IsOpened, LeavesStores, records_of}
use Rattle.fedi_startup.specs.Surviving.{LeavesStoresAlong, LeavesStoresFound, SurvivesOnDisk}
use Rattle.fedi_startup.specs.Surviving.{growth, opened_base, room}
use Rattle.fedi_startup.specs.declared.faults.MakeFault.{MakeFault}
use Rattle.fedi_startup.specs.declared.faults.MakeFault.TheVariants as makes
use Rattle.fedi_startup.specs.declared.faults.StoreFault.{StoreFault}
use Rattle.fedi_startup.specs.declared.faults.StoreFault.TheVariants.{NotAStore, OldFormat}
use Rattle.fedi_startup.specs.declared.faults.StoreFault.TheVariants.{DamagedByte}
use Rattle.fedi_startup.specs.declared.faults.StoreFault.TheVariants.{DamagedRecord, Failed, Memory}
use Rattle.fedi_program.specs.Seen.{Chance, Medium}

-- ---- disks

-- reads of the disk give the same bytes, and a crash meanwhile or afterwards leaves nothing new,
-- image by image
abbrev pub IsSame : Medium → Medium → Type 0
IsSame before after = IsUntouched before.shown after.shown before.crashes after.crashes

-- no machine was opened over the disk, for this reason, and it is untouched
pub record IsRefused (before after : Medium) (fault : StoreFault) : Type 0 where
  pub back : ComesBack fault before.shown after.shown
  pub same : IsSame before after

-- A machine was opened over the disk, in the first of these states, and closed in the second, and
-- represents this log, which begins with the history of the opening. The disk's file has the
-- records of its history. If the bytes of the disk are known, a crash after the run leaves a store
-- of that history, or of it followed by the entry in doubt; a crash during the run left files of
-- the records along the log, if an earlier crash did, and these are stores; and from some moment of
-- the run on it left such stores whatever an earlier crash did.
pub record IsServed (before after : Medium) (opened closed : State) (log : Log) : Type 0 where
  pub opens : IsOpened before.shown opened
  pub closes : IsClosed after.shown after.crashes closed
  pub holds : HoldsFrom (opened_base opened) (given opened.history) closed log
  pub marks : MarksMayCome [] log
  pub leaves :
      IfSome after.shown.reads (λ _. LeavesStores after.crashes closed.history closed.keeper.doubt)
  pub files :
      IfSome before.shown.reads (λ _. SurvivesOnDisk before.crashes after.crashes opened log)
  pub stores : IfSome before.shown.reads (λ _. LeavesStoresAlong before.crashes after.crashes
      opened.history (since (opened_base opened) log))
  pub found : IfSome before.shown.reads (λ _. LeavesStoresFound before.crashes after.crashes
      opened.history (since (opened_base opened) log))

-- and nobody else added to the log
abbrev pub IsServedAlone : Medium → Medium → State → State → Log → Type 0
IsServedAlone before after opened closed log =
    IsServed before after opened closed log × GoesAlone None (given opened.history) log

-- the same with some log
abbrev pub IsRunAlone : Medium → Medium → State → State → Type 0
IsRunAlone before after opened closed = (log : Log) × IsServedAlone before after opened closed log

-- no machine was opened over the disk, or one was opened and closed
abbrev pub IsKeptSafe : Medium → Medium → Type 0
IsKeptSafe before after =
    ((fault : StoreFault) × IsRefused before after fault)
    ⊎ ((opened : State) × (closed : State) × (log : Log) × IsServed before after opened closed log)

-- ---- what is printed of a store that is not opened

-- the line that says where a store is damaged
unfoldable pub damage_line : List ℕ → ℕ → List ℕ
damage_line what place =
    (((codes "damaged at " ++ what) ++ codes " ") ++ decimal place) ++ codes "\n"

-- the status of a run whose store is not opened
abbrev pub status_by : StoreFault → ℕ
status_by NotAStore = 3
status_by OldFormat = 14
status_by (DamagedByte place) = 4
status_by (DamagedRecord place) = 4
status_by Failed = 5
status_by Memory = 12

-- and what is printed, which is nothing if memory ran out
abbrev pub ReportsStore : StoreFault → Output → Output → ℕ → Type 0
ReportsStore NotAStore before now status = Reports before now 3 (codes "not a store\n") status
ReportsStore OldFormat before now status = Reports before now 14 (codes "old format\n") status
ReportsStore (DamagedByte place) before now status =
    Reports before now 4 (damage_line (codes "byte") place) status
ReportsStore (DamagedRecord place) before now status =
    Reports before now 4 (damage_line (codes "record") place) status
ReportsStore Failed before now status = Reports before now 5 (codes "disk fault\n") status
ReportsStore Memory before now status = (status ≡ 12) × Writes before now []

-- ---- what a run does

-- How a run serves one connection over the store of a disk: the store is not opened, and nothing is
-- read or written; or it is opened, and a session is held, unless there is no memory to begin one.
abbrev pub ServesStore : Option ℕ → Medium → Medium → Scene → Scene → ℕ → Type 0
ServesStore told before after first now status =
    ((fault : StoreFault) × IsRefused before after fault × (now ≡ first)
    × (status ≡ status_by fault))
    ⊎ ((opened : State) × (closed : State) × (log : Log)
    × IsServedAlone before after opened closed log
    × HoldsSession (setting_by growth room told None opened) opened log first now status)

-- the whole conversation over the input was held, over the store of a disk
abbrev pub TalksOverStore : Option ℕ → Medium → Medium → Scene → Scene → Type 0
TalksOverStore told before after first now =
    (opened : State) × (closed : State) × (log : Log) × IsServedAlone before after opened closed log
    × TalksIfTold (setting_by growth room told None opened) opened log first now

-- how a run makes a member in the store of a disk
abbrev pub AddsMember : Option ℕ → Medium → Medium → Chance → Chance → Output → Output → List ℕ
    → Bool → ℕ → Type 0
AddsMember told before after chance left first now name locked status =
    ((fault : StoreFault) × IsRefused before after fault × (left ≡ chance)
    × ReportsStore fault first now status)
    ⊎ ((opened : State) × (closed : State) × IsRunAlone before after opened closed
    × MakesMember growth room told chance left opened closed first now name locked status)

-- how a run makes a peer in the store of a disk
abbrev pub AddsPeer : Option ℕ → Medium → Medium → Output → Output → List ℕ → List ℕ → List ℕ → Bool
    → ℕ → Type 0
AddsPeer told before after first now host key address relay status =
    ((fault : StoreFault) × IsRefused before after fault × ReportsStore fault first now status)
    ⊎ ((opened : State) × (closed : State) × IsRunAlone before after opened closed
    × MakesPeer growth room told opened closed first now host key address relay status)

-- the line that gives the chain of the records, in 64 digits
unfoldable pub tip_line : List ℕ → List ℕ
tip_line tip = codes "tip " ++ (encode_lower tip ++ codes "\n")

-- how much this history holds is printed, and then this chain, unless there is no memory for the
-- lines (12) or a write failed (7)
abbrev pub PrintsCount : List ℕ → Output → Output → List Entry → ℕ → Type 0
PrintsCount tip first now history status =
    Prints first now (check_text history ++ tip_line tip) status
    ⊎ ((status ≡ 12) × Writes first now [])

-- and it is the chain of the records of the history, if the bytes of the store are known
abbrev pub Counts : Option (List ℕ) → Output → Output → List Entry → ℕ → Type 0
Counts reads first now history status =
    (tip : List ℕ) × IfSome reads (λ _. tip ≡ chain (records_of history))
    × PrintsCount tip first now history status

-- how a run counts what the store of a disk holds; the disk is untouched
abbrev pub ChecksStore : Medium → Medium → Output → Output → ℕ → Type 0
ChecksStore before after first now status =
    ((fault : StoreFault) × IsRefused before after fault × ReportsStore fault first now status)
    ⊎ ((opened : State) × IsServed before after opened opened (given opened.history)
    × IsSame before after
    × Counts before.shown.reads first now opened.history status)

-- the text of a table
abbrev pub table_text : Table → Town → List ℕ
table_text Actors t = actors_text t
table_text Activities t = activities_text t
table_text Queue t = queue_text t

-- the text was printed completely (0), or a proper prefix of it before a write failed (7), or a
-- prefix of it before memory ran out (12)
abbrev pub PrintsTable : Output → Output → List ℕ → ℕ → Type 0
PrintsTable first now text status =
    ((status ≡ 0) × Writes first now text)
    ⊎ (((status ≡ 7) × BreaksOff first now [] text) ⊎ ((status ≡ 12) × Begins first now text))

-- how a run prints a table of what the store of a disk holds; the disk is untouched
abbrev pub ExportsStore : Table → Medium → Medium → Output → Output → ℕ → Type 0
ExportsStore table before after first now status =
    ((fault : StoreFault) × IsRefused before after fault × ReportsStore fault first now status)
    ⊎ ((opened : State) × IsServed before after opened opened (given opened.history)
    × IsSame before after
    × PrintsTable first now (table_text table (town opened.history)) status)

-- ---- making a store

-- the line that says that a store was made for this host
abbrev pub made_line : List ℕ → List ℕ
made_line host = codes "made " ++ (host ++ codes "\n")

-- what a store is begun with that is to be made for this host: its host and the moment, and the
-- line that says that it was made
pub record IsBeginning (told : Option ℕ) (host : List ℕ) (read : List ℕ) (moment : ℕ)
    (line : List ℕ) : Type 0 where
  pub same : read ≡ host
  pub valid : IsHost read
  pub moment_is : IsNow told moment
  pub line_is : line ≡ made_line host

-- why none is to be made, and the status: memory ran out (12), or the text is not a valid host (10)
abbrev pub IsNoHost : List ℕ → Output → Output → ℕ → Type 0
IsNoHost host first now status =
    ((status ≡ 12) × Writes first now [])
    ⊎ ((IsHost host → ⊥) × Reports first now 10 (refusal_line (codes "bad host")) status)

-- what is printed about a store that is not made, which is nothing if memory ran out, and the
-- status
abbrev pub ReportsMaking : MakeFault → Output → Output → ℕ → Type 0
ReportsMaking makes.Exists before now status = Reports before now 9 (codes "exists\n") status
ReportsMaking makes.Full before now status = Reports before now 13 (codes "full\n") status
ReportsMaking makes.Failed before now status = Reports before now 5 (codes "disk fault\n") status
ReportsMaking makes.Memory before now status = (status ≡ 12) × Writes before now []

-- how the making of a store with this first entry ends
abbrev pub EndsMaking : DiskState → DiskState → DiskCrashes → Output → Output → List ℕ → Entry
    → ℕ → Type 0
EndsMaking before after crashes first now host e status =
    (IsMade (e ∷ []) before after crashes × Prints first now (made_line host) status)
    ⊎ ((fault : MakeFault) × IsNotMade (code_of e) fault before after
    × ReportsMaking fault first now status)

-- How a run makes the disk a store for this host: it ends without asking the disk, because memory
-- ran out (12) or the text is not a valid host (10); or the first entry says the host and the
-- moment.
abbrev pub MakesStore : {D : Type 0} → DiskGhosts D → Option ℕ → D → D → Output → Output → List ℕ
    → ℕ → Type 0
MakesStore disks told before after first now host status =
    ((status ≡ 12) × (after ≡ before) × Writes first now [])
    ⊎ (((IsHost host → ⊥) × (after ≡ before)
    × Reports first now 10 (refusal_line (codes "bad host")) status)
    ⊎ (IsHost host × (moment : ℕ) × IsNow told moment
    × LeavesAtMost (code_of (Hosted host moment)) (disks.shown before).reads
    (disks.crashes before) (disks.crashes after)
    × EndsMaking (disks.shown before) (disks.shown after) (disks.crashes after) first now host
    (Hosted host moment) status))

-- the bytes of an existing store stay: reads give the same, and a crash at any moment leaves
-- nothing new
abbrev pub KeepsStore : Medium → Medium → Type 0
KeepsStore before after =
    KeepsOther chained before.shown after.shown before.crashes after.crashes
