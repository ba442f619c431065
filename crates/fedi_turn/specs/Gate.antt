-- What a seat of the gate knows, and the rule of the gate.
use Rattle.std.specs.Prelude.{◌≡◌, ◌≢◌, ◌⊎◌, ℕ, List, [], ◌∷◌, slice_index, Option, Some, None}
use mathlib.Core.Option.{some}
use lib.ListN.{get_elem?}
use Rattle.atomic_table.specs.Table.{State, Step, Me, rest}
use Rattle.atomic_table.specs.Seated.{TableId}
use Rattle.fedi_turn.specs.declared.record.WriterView.{WriterView}
use Rattle.fedi_turn.specs.declared.record.View.{View}
use Rattle.fedi_turn.specs.declared.record.View.TheVariants.{Nothing, Reader, Writer}
use Rattle.fedi_turn.specs.declared.gate.Content.{Content}
use Rattle.fedi_turn.specs.declared.gate.GateFacts.{GateFacts}
use Rattle.fedi_turn.specs.declared.gate.GateView.{GateView}
use Rattle.fedi_turn.specs.declared.gate.GateView.TheVariants.{NoFacts, Facts}
use Rattle.fedi_turn.specs.Record.{idle_writer}

-- the words at which the value is in the slot: for whoever comes, and for the first in the line
abbrev pub HasValue : ℕ → Type 0
HasValue word = (word ≡ 1) ⊎ (word ≡ 3)

-- all other words
abbrev pub LacksValue : ℕ → Type 0
LacksValue word = (word ≢ 1) × (word ≢ 3)

-- the gate has one word and one slot
abbrev pub IsGateSize : TableId → Type 0
IsGateSize t = (t.words ≡ 1) × (t.slots ≡ 1)

module _ {I : Type 0} where
  -- what the one view of the writer's badge says
  abbrev pub writer_in : List (View I) → WriterView I
  writer_in [] = idle_writer [] [] 0
  writer_in (Nothing ∷ vs) = idle_writer [] [] 0
  writer_in (Reader r ∷ vs) = idle_writer [] [] 0
  writer_in (Writer w ∷ vs) = w

  -- the list that a reader's one view has
  abbrev pub list_in : List (View I) → List I
  list_in [] = []
  list_in (Nothing ∷ vs) = []
  list_in (Reader r ∷ vs) = r.list
  list_in (Writer w ∷ vs) = []

  -- a seat of the gate between two turns, and one that has the slot, which is empty
  abbrev pub outside : {V : Type 0} → GateFacts I → Me (Option (Content V I)) (GateView I)
  outside v = (Facts v, [])

  -- a seat of the gate that has the slot, which is empty during the turn
  abbrev pub inside : {V : Type 0} → GateFacts I → Me (Option (Content V I)) (GateView I)
  inside v = (Facts v, (0, None) ∷ [])

module _ {V I : Type 0} (list : V → List I) (base : V → List ℕ) where
  -- what each seat of the gate knows, if this is the first content
  abbrev pub facts_of : Content V I → GateFacts I
  facts_of k = record {
    record_id = k.writer;
    seats = (writer_in k.writer.views).count;
    start = (writer_in k.writer.views).start;
    base = base k.value;
  }

  -- a value at home, and its writer between two turns
  abbrev pub IsHome : GateFacts I → Content V I → Type 0
  IsHome v k =
      (k.writer.table_id ≡ v.record_id.table_id)
      × (k.writer.views ≡ Writer (idle_writer (list k.value) v.start v.seats) ∷ [])
      × (base k.value ≡ v.base)

  -- the rule of the gate: where the word says that the slot has a value, it is at home, and each
  -- seat knows the same
  abbrev pub IsGate : GateFacts I → State (Option (Content V I)) (GateView I) → Type 0
  IsGate v s =
      (HasValue (slice_index s.words 0)
      → (k : Content V I) × (get_elem? s.homes 0 ≡ some (some (Some k))) × IsHome v k)
      × ((j : ℕ) (u : GateView I) → get_elem? s.views j ≡ some u → (u ≡ NoFacts) ⊎ (u ≡ Facts v))

  -- what a try to take the value out at a word shows: if that was the word, the seat has the slot
  abbrev pub TakesOut : Step (Option (Content V I)) → Me (Option (Content V I)) (GateView I) → ℕ
      → Me (Option (Content V I)) (GateView I) → Type 0
  TakesOut st me found after =
      (after.0 ≡ me.0) × (found ≢ st.first → after.1 ≡ me.1)
      × (found ≡ st.first → (k : Content V I) × (after.1 ≡ (0, Some k) ∷ me.1)
      × ((v : GateFacts I) → me.0 ≡ Facts v → IsHome v k))

-- the step of one who puts the value back: the rest of what the seat holds stays
abbrev pub PutsBack : {S I : Type 0} → Step S → Me S (GateView I) → ℕ → Me S (GateView I) → Type 0
PutsBack st me found after = (after.0 ≡ me.0) × (after.1 ≡ rest me.1)
