use Rattle.std.proofs.Common.{◌≡◌, ◌≤◌, ℕ, List, true, map, drop, length, string_bytes}
use Rattle.std.specs.List.{list_all}
use Rattle.fedi_program.specs.Commands.{is_position, read_by, row_by}
use Rattle.fedi_program.proofs.WordLemmas.{answer}
use Rattle.fedi_program.proofs.words.read_by.Given as goal

-- what is read of all words is what is read of those that are left; and the positional arguments so
-- far are valid, and not too many
abbrev pub invariant-loop-word : goal.invariant-loop-word
invariant-loop-word l =
    record {
      left : (name : List ℕ) → answer (row_by name l.row) (map (λ p. p.now) l.positions.items) l.flagged (map string_bytes (drop l.word-index l.words))
          ≡ read_by (map string_bytes l.words) (row_by name l.row);
      positions : list_all is_position (map (λ p. p.now) l.positions.items) ≡ true;
      room : length l.positions.items ≤ l.row.positions;
    }
