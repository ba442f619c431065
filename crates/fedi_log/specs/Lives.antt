-- The lives of a store, one after another: each goes from an opening to an end or a crash, and the
-- next one opens what was left.
use Rattle.std.specs.Prelude.{◌≡◌, ◌⊎◌, ℕ, List, [], ◌∷◌, ◌++◌, map, option_to_list, Contains}
use Rattle.std.specs.List.{AllByRecursion}
use Rattle.fedi_entry.specs.Codes.{code_of}
use Rattle.fedi_entry.specs.Fields.{IsFormed}
use Rattle.fedi_objects.specs.declared.entry.Entry.{Entry}
use Rattle.fedi_log.specs.Keeping.{Base}
use Rattle.fedi_log.specs.Leaving.{LeavesAfter}
use Rattle.fedi_log.specs.Log.{Log, doubts_of, history_of}

-- one life of a store
pub record Life : Type 0 where
  pub base : Base  -- the keeper at the opening
  pub opened : List Entry  -- the history that the opening found
  pub log : Log  -- what happened since, up to the end or the crash
  pub left : List (List ℕ)  -- the records that the end or the crash left

-- the history at its end: what was opened, followed by what was kept
abbrev pub history_at_end : Life → List Entry
history_at_end l = l.opened ++ history_of l.log

-- the records, one of which may be in doubt at its end
abbrev pub doubts : Life → List (List ℕ)
doubts l = doubts_of (option_to_list l.base.shown.doubt) l.log

-- What holds of a life: the entries that were opened and those that were kept have well-formed
-- fields, and what is left are the records of the former, then those of the latter, and after them
-- at most one that is in doubt.
pub record IsLife (l : Life) : Type 0 where
  pub formed : AllByRecursion IsFormed (history_at_end l)
  pub leaves : LeavesAfter l.base (map code_of l.opened) l.log l.left

-- the next life, if there is one, opens exactly the records that this one left
abbrev pub IsFollowed : Life → List Life → Type 0
IsFollowed l [] = Unit {0}
IsFollowed l (next ∷ later) = map code_of next.opened ≡ l.left

-- lives of one store, one after another
abbrev pub AreLives : List Life → Type 0
AreLives [] = Unit {0}
AreLives (l ∷ later) = IsLife l × IsFollowed l later × AreLives later

-- what the next opening finds: the history at the end of this life, followed by at most one entry,
-- whose record was in doubt
abbrev pub IsFoundAfter : Life → List Entry → Type 0
IsFoundAfter l found =
    (found ≡ history_at_end l)
    ⊎ ((e : Entry) × Contains (doubts l) (code_of e) × (found ≡ history_at_end l ++ e ∷ []))
