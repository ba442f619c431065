-- What a clause says of a lock, of its passes and of the value during a turn.
use Rattle.std.specs.Prelude.{◌≡◌, ◌<◌, ℕ, length, slice_index_or, List, [], ◌∷◌, ◌++◌, All}
use Rattle.std.specs.Prelude.{Contains, Some}
use Rattle.atomic_table.specs.Seated.{TableId}
use Rattle.fedi_turn.specs.declared.record.ReaderView.{ReaderView}
use Rattle.fedi_turn.specs.declared.record.View.TheVariants.{Reader, Writer}
use Rattle.fedi_turn.specs.declared.gate.GateView.{GateView}
use Rattle.fedi_turn.specs.declared.gate.GateView.TheVariants.{Facts}
use Rattle.fedi_turn.specs.declared.gate.GateFacts.{GateFacts}
use Rattle.fedi_turn.specs.declared.grows.Grows.{Ghosts}
use Rattle.fedi_turn.specs.declared.lock.TurnLock.{TurnLock}
use Rattle.fedi_turn.specs.declared.lock.Pass.{Pass}
use Rattle.fedi_turn.specs.declared.lock.Held.{Held}
use Rattle.fedi_turn.specs.Record.{Continues, idle_writer, reader_view, take_in}
use Rattle.fedi_turn.specs.Gate.{facts_of, inside, list_in, writer_in}

-- a fact of each element and its index
abbrev pub Each : {A : Type 0} → (ℕ → A → Type 0) → List A → Type 0
Each {A} P xs = (k : ℕ) (d : A) → k < length xs → P k (slice_index_or xs k d)

module _ {I : Type 0} where
  -- the pass's number
  abbrev pub number_of : Pass I → ℕ
  number_of p = p.number

  -- the list that an idle pass has seen
  abbrev pub seen_of : Pass I → List I
  seen_of p = list_in p.reader.views

  -- the list at the start of the turn
  abbrev pub turn_list : {V : Type 0} → Held V I → List I
  turn_list h = (writer_in h.writer.views).list

  -- what a reader of the record says of a pass
  abbrev pub view_of : Pass I → ReaderView I
  view_of p = reader_view p.number (seen_of p)

  -- a reader's seat of the record, the k-th that was drawn, for a pass that has seen xs
  abbrev pub IsReader : TableId → List I → ℕ → Pass I → Type 0
  IsReader log xs k p =
      (p.reader.table_id ≡ log) × (p.reader.views ≡ Reader (reader_view k xs) ∷ []) × (p.number ≡ k)

  -- and each of these passes has such a seat, the k-th the k-th
  abbrev pub AreReaders : TableId → List I → List (Pass I) → Type 0
  AreReaders log xs ps = Each (IsReader log xs) ps

  -- a seat of the gate, with this view
  abbrev pub HasGate : TableId → GateView I → Pass I → Type 0
  HasGate gate v p = (p.gate.table_id ≡ gate) × (p.gate.views ≡ v ∷ [])

  -- only the seat of the gate differs
  abbrev pub IsSamePass : Pass I → Pass I → Type 0
  IsSamePass old new = (new.reader ≡ old.reader) × (new.number ≡ old.number) × (new.seen ≡ old.seen)

  -- and so of each of these
  abbrev pub AreSame : List (Pass I) → List (Pass I) → Type 0
  AreSame olds news = Each (λ k p. (d : Pass I) → IsSamePass (slice_index_or olds k d) p) news

  -- the pass is idle, and of the lock with these tables
  abbrev pub IsIdleAt : TableId → TableId → GateFacts I → Pass I → Type 0
  IsIdleAt gate log v p =
      (p.gate.table_id ≡ gate) × (p.gate.views ≡ Facts v ∷ []) × (p.reader.table_id ≡ log)
      × (p.reader.views ≡ Reader (view_of p) ∷ [])

module _ {V I : Type 0} (g : Ghosts V I) where
  -- what each seat of the gate knows
  abbrev pub gate_facts : TurnLock V I → GateFacts I
  gate_facts l = facts_of g.list g.base l.gate.shared.key.value

  -- the base of the lock
  abbrev pub base_of : TurnLock V I → List ℕ
  base_of l = g.base l.gate.shared.key.value.value

  -- the list of the value that the lock was made with
  abbrev pub start_of : TurnLock V I → List I
  start_of l = (gate_facts l).start

  -- the pass is of this lock and idle
  abbrev pub IsIdle : TurnLock V I → Pass I → Type 0
  IsIdle l p = IsIdleAt l.gate.shared.table_id l.log.shared.table_id (gate_facts l) p

  -- the pass is of this lock and at turn, and this is what it took
  abbrev pub IsTurn : TurnLock V I → Pass I → Held V I → Type 0
  IsTurn l p h =
      (h.gate.table_id ≡ l.gate.shared.table_id) × (h.gate.me ≡ inside (gate_facts l))
      × (h.writer.table_id ≡ l.log.shared.table_id)
      × ((seen : List I) × (h.writer.views ≡ Writer (take_in (idle_writer (turn_list h) (start_of l)
      (gate_facts l).seats) (reader_view p.number seen)) ∷ []))

  -- each pass is idle, has its index as its number, and has seen the list that the lock was made
  -- with
  abbrev pub AreNew : TurnLock V I → List (Pass I) → Type 0
  AreNew l ps = Each (λ k p. IsIdle l p × (p.number ≡ k) × (seen_of p ≡ start_of l)) ps

  -- the list continues what each of these passes has seen
  abbrev pub ContinuesEach : List (Pass I) → List I → Type 0
  ContinuesEach ps xs = All (λ p. Continues g.name p.number (seen_of p) xs) ps

  -- each item past the list that the lock was made with names one of these passes
  abbrev pub NamesOneOf : TurnLock V I → List (Pass I) → List I → Type 0
  NamesOneOf l ps xs =
      (rest : List I) × (xs ≡ start_of l ++ rest)
      × All (λ x. (p : Pass I) × Contains ps p × (g.name x ≡ Some p.number)) rest

-- how many passes the lock was made with
abbrev pub seats_of : {V I : Type 0} → TurnLock V I → ℕ
seats_of l = l.seats
