-- Files of records with one record that may be in doubt.
use Rattle.std.specs.Prelude.{ℕ, List, Option}
use Rattle.fedi_outside.specs.Images.{Format, IsImage}
use Rattle.fedi_outside.specs.Keepers.{MayLeave}

-- the bytes are a file of these records, or of these and the one in doubt
abbrev pub HasRecords : Format → List (List ℕ) → Option (List ℕ) → List ℕ → Type 0
HasRecords f records doubt bytes =
    (left : List (List ℕ)) × IsImage f left bytes × MayLeave records doubt left
