-- A file of one record, computed.
use Rattle.std.specs.Prelude.{◌≡◌, ℕ, List, [], ◌∷◌, ◌++◌, set}
use Rattle.fedi_outside.specs.Images.{IsImage, front}
use Rattle.fedi_outside.specs.Opening.{IsDamagedAt}
use Rattle.fedi_journal.specs.Chains.{chained}

-- the code of the first entry of a store: the host club.example, set up at 784111777
abbrev pub hosted : List ℕ
hosted =
    1 ∷ 0 ∷ 0 ∷ 0 ∷ 12 ∷ 99 ∷ 108 ∷ 117 ∷ 98 ∷ 46 ∷ 101 ∷ 120 ∷ 97 ∷ 109 ∷ 112 ∷ 108 ∷ 101 ∷ 0 ∷
    0 ∷ 0 ∷ 0 ∷ 46 ∷ 188 ∷ 152 ∷ 161 ∷ []

-- the file of a store with that entry alone: 75 bytes
abbrev pub first_file : List ℕ
first_file =
    70 ∷ 69 ∷ 68 ∷ 73 ∷ 74 ∷ 82 ∷ 78 ∷ 50 ∷ 1 ∷ 0 ∷ 0 ∷ 0 ∷ 0 ∷ 0 ∷ 0 ∷ 0 ∷ 25 ∷ 1 ∷ 0 ∷ 0 ∷ 0 ∷
    12 ∷ 99 ∷ 108 ∷ 117 ∷ 98 ∷ 46 ∷ 101 ∷ 120 ∷ 97 ∷ 109 ∷ 112 ∷ 108 ∷ 101 ∷ 0 ∷ 0 ∷ 0 ∷ 0 ∷ 46
    ∷ 188 ∷ 152 ∷ 161 ∷ 5 ∷ 214 ∷ 124 ∷ 168 ∷ 116 ∷ 213 ∷ 44 ∷ 26 ∷ 26 ∷ 132 ∷ 105 ∷ 78 ∷ 89 ∷
    45 ∷ 212 ∷ 176 ∷ 150 ∷ 38 ∷ 211 ∷ 245 ∷ 81 ∷ 59 ∷ 145 ∷ 139 ∷ 153 ∷ 119 ∷ 72 ∷ 0 ∷ 88 ∷ 142
    ∷ 22 ∷ 140 ∷ 0 ∷ []

-- It is the file of this record; with another kind of entry in it, it is damaged at byte 8.
pub record FirstFile : Type 0 where
  pub image : IsImage chained (hosted ∷ []) first_file
  pub damaged : IsDamagedAt chained 8 (set first_file 17 9)
