-- What a crash may leave of a keeper's records at any moment of a log.
use Rattle.std.specs.Prelude.{ℕ, ◌≡◌, ◌⊎◌, ◌≤◌, List, [], ◌∷◌, ◌++◌, map, Option, option_to_list}
use Rattle.std.specs.Prelude.{Contains}
use Rattle.fedi_entry.specs.Codes.{code_of}
use Rattle.fedi_log.specs.Keeping.{Base, since}
use Rattle.fedi_log.specs.Log.{Log, doubts_of, history_of}
use Rattle.fedi_outside.specs.Keepers.{Adds, Crashes, IfTold}

-- After these items since the opening, a crash leaves the records that the keeper had at the
-- opening, then those of the entries that were kept, and after them at most one that is in doubt.
abbrev pub LeavesAfter : Base → List (List ℕ) → Log → List (List ℕ) → Type 0
LeavesAfter b kept past left =
    (left ≡ kept ++ map code_of (history_of past))
    ⊎ ((d : List ℕ) × Contains (doubts_of (option_to_list b.shown.doubt) past) d
    × (left ≡ (kept ++ map code_of (history_of past)) ++ d ∷ []))

-- a crash may have left these records at some moment of the log: after the first of its items since
-- the opening, none or more
pub record IsLeft (b : Base) (log : Log) (kept left : List (List ℕ)) : Type 0 where
  pub past : Log
  pub rest : Log
  pub is : since b log ≡ past ++ rest
  pub leaves : LeavesAfter b kept past left

-- The clock does not go back, and a crash while the log grew leaves such records, given those that
-- the keeper had at the opening: if what crashes leave is known, those are known too.
pub record CrashesAlong (b : Base) (log : Log) (before after : Crashes) : Type 0 where
  pub clock : before.clock ≤ after.clock
  pub told : after.told ≡ before.told
  pub crash : IfTold before.told b.shown.records
      (λ kept. Adds before.clock before.left_since after.left_since (IsLeft b log kept))

-- A crash after the log was seen in this state may have left these records: after all of the items
-- seen, and the first of those added since, none or more.
pub record IsLeftAfter (b : Base) (seen log : Log) (kept left : List (List ℕ)) : Type 0 where
  pub past : Log
  pub rest : Log
  pub is : log ≡ seen ++ (past ++ rest)
  pub leaves : LeavesAfter b kept (since b (seen ++ past)) left

-- a crash after this moment, at which the log was seen in this state, leaves such records: if what
-- crashes leave is known, the records of the opening are known too
abbrev pub CrashesAfter : Base → Log → Log → ℕ → Crashes → Type 0
CrashesAfter b seen log moment after =
    IfTold after.told b.shown.records (λ kept. (left : List (List ℕ)) → after.left_since moment left
    → IsLeftAfter b seen log kept left)
