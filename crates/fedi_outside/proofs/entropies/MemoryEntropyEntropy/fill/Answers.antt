use Rattle.std.proofs.Common.{◌≡◌, ℕ, ◌+◌, ◌-◌, List, ◌++◌, length, take, drop, ap, sym, ◌∙◌}
use Rattle.std.proofs.lemmas.List.{take-append-drop, drop-drop, take_rest}
use Rattle.fedi_outside.proofs.entropies.MemoryEntropyEntropy.fill.Goals as goal

-- the first 32 bytes after an offset, and those after them
first_and_rest : (bytes first : List ℕ) (place : ℕ) → first ≡ take 32 (take (length bytes - place) (drop place bytes)) → drop place bytes ≡ first ++ drop (place + 32) bytes
first_and_rest bytes first place is_first = rw (is_first, take_rest bytes place, ← drop-drop 32 place bytes) (sym (take-append-drop 32 (drop place bytes)))

pub returns-clause-bytes : goal.returns-clause-bytes
returns-clause-bytes c =
    sym (ap (λ e. e.next) c.self.view_is)
    ∙ first_and_rest c.self.inside.bytes.items c.in-Some.next.now c.self.inside.position (rw c.deref.ensures.value at c.in-Some.ensures.cases.0)
