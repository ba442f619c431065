-- A database of one table, seen as the rows of that table: at rest, and in a transaction.
use Rattle.std.specs.Prelude.{◌≡◌, List, false, IsTrue}
use Rattle.sqlite.specs.Effect.{Database}
use Rattle.sqlite.specs.Held.{Held, state}
use Rattle.sqlite.specs.Order.{Row}
use Rattle.sqlite.specs.Schema.{Schema}
use Rattle.sqlite.specs.State.{HasCleanDisk, State}
use Rattle.sqlite.specs.Store.{Ghosts}
use Rattle.sqlite_disk.specs.Disk.{MoreFaults}

-- the disk gave back what was written to it, and has not failed in between
pub record IsCalm (old new : State) : Type 0 where
  pub clean : HasCleanDisk new
  pub calm : MoreFaults old.faults new.faults → ⊥

-- a store that always gives back what was written to it and never fails, as memory does
abbrev pub IsSteady : {S : Type 0} → Ghosts S → Type 0
IsSteady {S} g = (old new : Held S) → IsCalm (state g old) (state g new)

-- the connection is open, outside a transaction, over a database of this schema
pub record IsAtRest (schema : Schema) (s : State) : Type 0 where
  pub is_open : IsTrue s.is_open
  pub autocommit : s.in_transaction ≡ false
  pub settled : s.committed ≡ s.now
  pub schema_is : s.now.schema ≡ schema

-- and its first table has these rows
pub record Rests (schema : Schema) (rows : List Row) (s : State) : Type 0 where
  pub rest : IsAtRest schema s
  pub rows_are : s.now.trees 0 ≡ rows

-- the connection is open, in a transaction that began over this database and shows a database of
-- this schema, whose first table has these rows
pub record Holds (schema : Schema) (base : Database) (rows : List Row) (s : State) : Type 0 where
  pub is_open : IsTrue s.is_open
  pub inside : IsTrue s.in_transaction
  pub committed : s.committed ≡ base
  pub schema_is : s.now.schema ≡ schema
  pub rows_are : s.now.trees 0 ≡ rows

-- whatever was written since, the last commit left this database, to which a rollback goes back
pub record IsUndoable (base : Database) (s : State) : Type 0 where
  pub is_open : IsTrue s.is_open
  pub committed : s.committed ≡ base
