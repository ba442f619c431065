-- A machine, as its callers see it, and its invariants.
use Rattle.std.specs.Prelude.{◌≡◌, ℕ, IfSome, List, [], ◌∷◌, ◌++◌, filter, length, map}
use Rattle.std.specs.List.{AllByRecursion}
use Rattle.fedi_entry.specs.Codes.{code_of}
use Rattle.fedi_entry.specs.Fields.{IsFormed}
use Rattle.fedi_objects.specs.declared.entry.Entry.{Entry}
use Rattle.fedi_opening.specs.Opening.{IsNext}
use Rattle.fedi_outside.specs.Keepers.{KeeperState}
use Rattle.fedi_queue.specs.declared.rows.QueueRow.{QueueRow}
use Rattle.fedi_queue.specs.Queues.{Queued, is_claimed, stays_claimed}
use Rattle.fedi_town.specs.declared.act.Act.{Act}
use Rattle.fedi_town.specs.Histories.{town}
use Rattle.fedi_town.specs.Legal.{IsLegal}
use Rattle.fedi_effects.specs.Holdings.{Holding}

-- the history of everything that was accepted, the keeper of its records, and its waiting
-- deliveries, some of which may be claimed
pub record Machine (P : Type 0) : Type 0 where
  pub history : List Entry
  pub keeper : P
  pub rows : List QueueRow

-- it is the code of an entry that may come next, so it can be read at that position
abbrev pub IsNextCode : List Entry → List ℕ → Type 0
IsNextCode history code = (e : Entry) × IsNext (town history) e × (code ≡ code_of e)

-- the keeper has a record for each entry, and if the records are known, they are the codes of the
-- entries in order; the record in doubt, if there is one, is that of an entry that may come next
pub record IsKeeping (k : KeeperState) (history : List Entry) : Type 0 where
  pub held : k.held ≡ length history
  pub spelled : IfSome k.records (λ records. map code_of history ≡ records)
  pub doubted : IfSome k.doubt (IsNextCode history)

-- the facts are those of a legal history whose entries have well-formed fields, and the keeper
-- keeps it
pub record Stands (facts : Holding) (k : KeeperState) : Type 0 where
  pub made : facts.town ≡ town facts.history
  pub legal : IsLegal facts.history
  pub formed : AllByRecursion IsFormed facts.history
  pub kept : IsKeeping k facts.history

-- the same, and the queue is that of the history
pub record IsMachine (facts : Holding) (k : KeeperState) (queue : Queued) : Type 0 where
  pub stands : Stands facts k
  pub queued : queue.history ≡ facts.history

-- the facts have one more entry
pub record IsGrown (before : Holding) (e : Entry) (after : Holding) : Type 0 where
  pub held : after.history ≡ before.history ++ e ∷ []
  pub made : after.town ≡ town (before.history ++ e ∷ [])

-- the facts are unchanged, except for the room that there is
pub record IsSame (before after : Holding) : Type 0 where
  pub held : after.history ≡ before.history
  pub made : after.town ≡ before.town

-- the rows after the entry have the same claims as those before it, except that of the delivery
-- that the entry records an attempt of
abbrev pub KeepsClaims : List Act → Entry → List QueueRow → List QueueRow → Type 0
KeepsClaims acts e before after = filter is_claimed after ≡ filter (stays_claimed acts e) before

-- the queue has one more entry
pub record IsQueueGrown (before : Queued) (e : Entry) (after : Queued) : Type 0 where
  pub history : after.history ≡ before.history ++ e ∷ []
  pub claims : KeepsClaims (town before.history).acts e before.rows after.rows

-- the queue is unchanged, except for the room that there is
pub record IsQueueSame (before after : Queued) : Type 0 where
  pub history : after.history ≡ before.history
  pub rows : after.rows ≡ before.rows
