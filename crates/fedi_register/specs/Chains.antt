-- The chains in which marks are kept.
use Rattle.std.specs.Prelude.{◌≡◌, ℕ, zero, suc, ◌+◌, ◌%◌, ◌<◌, ◌≤◌, ◌^◌, Bool, false, nat_eq, List}
use Rattle.std.specs.Prelude.{map, length, Option, None, Some, slice_get, slice_index, vec_len}
use Rattle.std.specs.Prelude.{vec_capacity, if◌then◌else◌}
use Rattle.fedi_register.specs.declared.marks.Step.{Step}
use Rattle.fedi_register.specs.declared.marks.Marks.TheInside.{Inside}
use Rattle.fedi_register.specs.Marks.{Mark, Marked}

-- the mark of a step
abbrev pub mark_in : Step → Mark
mark_in x = record { mark = x.mark; place = x.place }

-- the chain that a mark belongs to, among this many
unfoldable pub chain_of : ℕ → ℕ → ℕ
chain_of n mark = mark % n

-- there is a mark, and it belongs to this chain
abbrev pub is_of : ℕ → ℕ → Option Mark → Bool
is_of n chain None = false
is_of n chain (Some m) = nat_eq (chain_of n m.mark) chain

-- one more than the number of the newest mark of this chain among the first k, or 0 if there is
-- none
abbrev pub newest : ℕ → ℕ → List Mark → ℕ → ℕ
newest n chain marks zero = zero
newest n chain marks (suc k) =
    if is_of n chain (slice_get marks k) then suc k else newest n chain marks k

-- the step that such a number refers to
abbrev pub step_before : List Step → ℕ → Option Step
step_before steps zero = None
step_before steps (suc k) = slice_get steps k

-- the marks of the steps
abbrev pub marks_of : List Step → List Mark
marks_of steps = map mark_in steps

-- each of the first k steps refers to the newest earlier step of its chain
pub record IsChained (n : ℕ) (steps : List Step) (k : ℕ) : Type 0 where
  pub before : (j : ℕ) (x : Step) → j < k → slice_get steps j ≡ Some x
      → x.before ≡ newest n (chain_of n x.mark) (marks_of steps) j

-- each chain begins at its newest step among the first k
pub record HasHeads (n : ℕ) (marks : List Mark) (heads : List ℕ) (k : ℕ) : Type 0 where
  pub head : (chain : ℕ) → chain < n → slice_index heads chain ≡ newest n chain marks k

-- the marks, as seen by a look-up
abbrev pub marked_in : Inside → Marked
marked_in m = record { marks = marks_of m.steps.items; room = m.room }

-- the steps are kept in chains, there is at least one chain if there is a step or room for one, and
-- the number of a step fits its field
abbrev pub AreMarks : Inside → Type 0
AreMarks m =
    IsChained (length m.heads.items) m.steps.items (length m.steps.items)
    × HasHeads (length m.heads.items) (marks_of m.steps.items) m.heads.items (length m.steps.items)
    × (0 < length m.steps.items + m.room → 0 < length m.heads.items)
    × (length m.steps.items + m.room < 2 ^ 32)
    × (vec_len m.steps + m.room ≤ vec_capacity m.steps)
