-- Keepers in memory, as their callers see them.
use Rattle.std.specs.Prelude.{ℕ, Bool, true, false, List, [], length, Option, None, Some}
use Rattle.fedi_outside.specs.Keepers.{Crashes, KeeperState}
use Rattle.fedi_outside.specs.Plans.{Plan}

-- a keeper in memory that never fails
pub record CalmKeeperState : Type 0 where
  pub records : List (List ℕ)
  -- the record of the last append, if that failed and nothing was settled since
  pub doubt : Option (List ℕ)
  pub spare : ℕ  -- any record shorter than this has room
  pub end : ℕ

-- a keeper with no records and this end
abbrev pub no_records : ℕ → CalmKeeperState
no_records end = record { records = []; doubt = None; spare = 0; end = end }

-- such a keeper, and which calls fail
pub record MemoryKeeperState : Type 0 where
  pub keeper : CalmKeeperState
  pub plan : Plan

-- these bytes, if they are in doubt
abbrev pub doubt_of : Bool → List ℕ → Option (List ℕ)
doubt_of true bytes = Some bytes
doubt_of false bytes = None

-- what a keeper in memory shows, with this count of faults
abbrev pub shown_with : ℕ → CalmKeeperState → KeeperState
shown_with faults k = record {
  records = Some k.records;
  held = length k.records;
  doubt = k.doubt;
  spare = k.spare;
  end = k.end;
  faults = faults;
}

-- a keeper in memory reports nothing about crashes
abbrev pub no_crashes : Crashes
no_crashes = record { clock = 0; told = false; left_since = λ _ _. ⊥ }
