-- A turn of a door in memory leaves the turns after it, and room for their rows.
use Rattle.std.proofs.Common.{◌≡◌, ◌≤◌, ◌+◌, ℕ, true, List, [], ◌∷◌, ◌++◌, length, length-append, All, Option, Some, None, refl, ap, subst, ◌∙◌, arith}
use Rattle.std.specs.Prelude.{option_map, option_to_list}
use Rattle.std.proofs.lemmas.List.Elements.{All-head, All-tail}
use Rattle.std.specs.declared.snapshot.Snapshot.{Snapshot}
use Rattle.fedi_outside.specs.Doors.{Coming, coming_by}
use Rattle.fedi_outside.specs.MemoryDoors.{IsNewTurn, line_left, line_sent, owed}
use Rattle.fedi_outside.specs.declared.memory_lines.MemoryLine.{MemoryLine}
use Rattle.fedi_outside.specs.declared.turns.Turn.{Turn}

pub turns_left : (turns rest : List (Turn MemoryLine)) (next : Option (Turn MemoryLine)) → turns ≡ option_to_list next ++ rest → All IsNewTurn turns → All IsNewTurn rest
turns_left turns rest None is new = subst (λ (ts : List (Turn MemoryLine)). All IsNewTurn ts) is new
turns_left turns rest (Some t) is new = All-tail IsNewTurn t rest (subst (λ (ts : List (Turn MemoryLine)). All IsNewTurn ts) is new)

pub turn_new : (turns rest : List (Turn MemoryLine)) (t : Turn MemoryLine) → turns ≡ t ∷ rest → All IsNewTurn turns → IsNewTurn t
turn_new turns rest t is new = All-head IsNewTurn t rest (subst (λ (ts : List (Turn MemoryLine)). All IsNewTurn ts) is new)

-- the row of the turn is owed
pub owed_by_turn : (rows spare capacity : ℕ) (turns rest : List (Turn MemoryLine)) (t : Turn MemoryLine) → turns ≡ t ∷ rest
    → rows + spare + length turns ≤ capacity → rows + 1 + length rest ≤ capacity
owed_by_turn rows spare capacity turns rest t is room =
    let longer : length turns ≡ length (t ∷ []) + length rest = ap length is ∙ length-append (t ∷ []) rest in omega (arith, longer, room)

-- no row is owed more than before
pub owed_as_before : (rows spare capacity : ℕ) (turns rest : List (Turn MemoryLine)) (next : Option (Turn MemoryLine)) → turns ≡ option_to_list next ++ rest
    → rows + spare + length turns ≤ capacity → rows + spare + length rest ≤ capacity
owed_as_before rows spare capacity turns rest next is room =
    let longer : length turns ≡ length (option_to_list next) + length rest = ap length is ∙ length-append (option_to_list next) rest in omega (arith, longer, room)

-- if no line is out, the row of the rest is owed
pub owed_idle : {X : Type 0} (f : X → Coming) (out : Option X) (rows spare capacity : ℕ) (turns rest : List (Turn MemoryLine)) (t : Turn MemoryLine)
    → option_map f out ≡ None → turns ≡ t ∷ rest → rows + spare + length turns ≤ capacity → rows + owed out true + length rest ≤ capacity
owed_idle f None rows spare capacity turns rest t none is room = owed_by_turn rows spare capacity turns rest t is room
owed_idle f (Some x) rows spare capacity turns rest t none is room = absurd cc

pub none_out : (out : Option (Snapshot MemoryLine)) (now : Option MemoryLine) → option_map (λ (s : Snapshot MemoryLine). s.value) out ≡ now
    → option_map (coming_by line_left line_sent) now ≡ None → option_map (λ (s : Snapshot MemoryLine). coming_by line_left line_sent s.value) out ≡ None
none_out None now is none = refl
none_out (Some s) now is none = ap (λ (o : Option MemoryLine). option_map (coming_by line_left line_sent) o) is ∙ none
