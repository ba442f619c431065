-- The marks of a log: entries that the keeper failed to keep. Each of them may come at the position
-- of its mark, so a record in doubt can be read when the store is opened again.
use Rattle.std.specs.Prelude.{ℕ, ◌++◌, List, [], ◌∷◌, Option}
use Rattle.fedi_log.specs.declared.items.What.{What}
use Rattle.fedi_log.specs.declared.items.What.TheVariants.{Entered, Marked, Claimed, Released}
use Rattle.fedi_log.specs.Keeping.{Base, HoldsSince, State}
use Rattle.fedi_log.specs.Leaving.{CrashesAlong}
use Rattle.fedi_log.specs.Log.{Log, entry_in}
use Rattle.fedi_outside.specs.Keepers.{Crashes}
use Rattle.fedi_objects.specs.declared.entry.Entry.{Entry}
use Rattle.fedi_opening.specs.Opening.{IsNext}
use Rattle.fedi_town.specs.Histories.{town}

-- what is marked may come next in this history
abbrev pub MayCome : List Entry → What → Type 0
MayCome history (Entered e) = Unit {0}
MayCome history (Marked e) = IsNext (town history) e
MayCome history (Claimed p place moment) = Unit {0}
MayCome history (Released p) = Unit {0}

-- after this history, each marked entry may come at the position of its mark
abbrev pub MarksMayCome : List Entry → Log → Type 0
MarksMayCome history [] = Unit {0}
MarksMayCome history (i ∷ log) =
    MayCome history i.what × MarksMayCome (history ++ entry_in i.what) log

-- The machine holds this log, which extends what was seen. Crashes along it are as `CrashesAlong`
-- says, and each entry that is marked in it may come at the position of its mark.
pub record Survives (b : Base) (by : Option ℕ) (seen log : Log) (state : State)
    (before after : Crashes) : Type 0 where
  pub holds : HoldsSince b by seen state log
  pub crashes : CrashesAlong b log before after
  pub marks : MarksMayCome [] log

-- there is such a log
abbrev pub SurvivesMarked : Base → Option ℕ → Log → State → Crashes → Crashes → Type 0
SurvivesMarked b by seen state before after =
    (log : Log) × Survives b by seen log state before after
