-- A machine holds its log, from an opening on.
use Rattle.std.specs.Prelude.{◌≡◌, ℕ, Bool, true, false, List, [], ◌++◌, map, Option}
use Rattle.fedi_core.specs.Machines.{Machine}
use Rattle.fedi_log.specs.Keeping.{Holds, State, base_of}
use Rattle.fedi_log.specs.Leaving.{CrashesAlong}
use Rattle.fedi_log.specs.Log.{Log, Outcome, given, items_of, made_by}
use Rattle.fedi_log.specs.declared.items.Item.{Item}
use Rattle.fedi_log.specs.declared.items.Pair.{Pair}
use Rattle.fedi_log.specs.declared.items.What.{What}
use Rattle.fedi_log.specs.declared.items.What.TheVariants.{Entered, Marked, Claimed, Released}
use Rattle.fedi_objects.specs.declared.entry.Entry.{Entry}
use Rattle.fedi_objects.specs.declared.entry.Entry.TheVariants.{Tried}
use Rattle.fedi_outside.specs.Keepers.{Crashes}
use Rattle.fedi_town.specs.Legal.{IsLegal}
use Rattle.fedi_logged.specs.Marks.{MarksMayCome}
use Rattle.fedi_logged.specs.Turns.{Standing, Turns}
use Rattle.fedi_logged.specs.declared.noted.Deed.{Deed}
use Rattle.fedi_logged.specs.declared.noted.Deed.TheVariants as deeds
use Rattle.fedi_logged.specs.declared.noted.Delivery.{Delivery}
use Rattle.fedi_logged.specs.declared.noted.Noted.{Noted}

-- ---- what a machine holds

-- The log begins with the history of the opening. The machine holds it, and its history is legal:
-- its keeper has the record of each entry that was kept since, once and in order, and counted one
-- fault for each mark and no other. Crashes along it are as `CrashesAlong` says, and each entry
-- that is marked in it may come at the position of its mark.
pub record StandsFor (growth room : ℕ → ℕ) (opened : State) (first : Crashes) (now : State)
    (crashes : Crashes) (log : Log) : Type 0 where
  pub past : Log
  pub begins : log ≡ given opened.history ++ past
  pub holds : Holds (base_of growth room opened) now log
  pub legal : IsLegal now.history
  pub crashed : CrashesAlong (base_of growth room opened) log first crashes
  pub marked : MarksMayCome [] log

-- a machine, and its log
pub record MachineLog (P : Type 0) : Type 0 where
  pub core : Machine P
  pub log : Log

-- the same moment, and a crash since any earlier one might have left the same in both
pub record AreSame (a b : Crashes) : Type 0 where
  pub clock : a.clock ≡ b.clock
  pub told : a.told ≡ b.told
  pub there : (moment : ℕ) (left : List (List ℕ)) → a.left_since moment left
      → b.left_since moment left
  pub back : (moment : ℕ) (left : List (List ℕ)) → b.left_since moment left
      → a.left_since moment left

-- one turn of the machine with some outcome, which is added to the log
abbrev pub TurnsOn : (ℕ → ℕ) → Option ℕ → Standing → Standing → Log → Log → Type 0
TurnsOn growth by before after log now =
    (o : Outcome) × Turns growth before after o × (now ≡ log ++ items_of by o)

-- ---- what is noted of the log

-- what became of the entry, given whether it was kept
abbrev pub became : Bool → Entry → What
became true e = Entered e
became false e = Marked e

-- the delivery that was noted
abbrev pub pair_of : Delivery → Pair
pair_of d = record { activity = d.activity.value; recipient = d.recipient.value }

-- what was noted
abbrev pub what_of : Deed → What
what_of (deeds.Entry e kept) = became kept e.value
what_of (deeds.Claimed d place moment) = Claimed (pair_of d) place moment
what_of (deeds.Tried d came moment kept) =
    became kept (Tried d.activity.value d.recipient.value came moment)
what_of (deeds.Released d) = Released (pair_of d)

-- the item that was noted
abbrev pub item_of : Noted → Item
item_of n = made_by n.by (what_of n.deed)

-- the log of a given history, with what was noted since
abbrev pub log_of : List Entry → List Noted → Log
log_of first noted = given first ++ map item_of noted
