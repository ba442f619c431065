-- What is printed about a script.
use Rattle.std.specs.Prelude.{ℕ, List, [], ◌++◌, codes, decimal, Option, Some, None}
use Rattle.fedi_town.specs.declared.outcome.Outcome.{Outcome}
use Rattle.fedi_town.specs.declared.outcome.Outcome.TheVariants.{Delivered, Again, GivenUp}

-- ---- a line for each event

-- a blank and the address of what was made, if anything was
abbrev pub location_part : Option (List ℕ) → List ℕ
location_part None = []
location_part (Some location) = codes " " ++ location

-- the status of the reply to a post, and the address of the activity that was made
unfoldable pub replied_line : ℕ → Option (List ℕ) → List ℕ
replied_line status location = decimal status ++ (location_part location ++ codes "\n")

-- an attempt with this number has sent the request with this number
unfoldable pub attempt_line : ℕ → ℕ → List ℕ
attempt_line attempt request =
    codes "attempt " ++ (decimal attempt ++ (codes " request " ++ (decimal request ++ codes "\n")))

-- there was nothing to claim
abbrev pub idle_line : List ℕ
idle_line = codes "idle\n"

-- a reply was made, with this number and this status
unfoldable pub answered_line : ℕ → ℕ → List ℕ
answered_line reply status =
    codes "reply " ++ (decimal reply ++ (codes " " ++ (decimal status ++ codes "\n")))

-- an attempt has gone on with the request with this number
unfoldable pub request_line : ℕ → List ℕ
request_line request = codes "request " ++ (decimal request ++ codes "\n")

-- what an attempt means that has ended
abbrev pub outcome_line : Outcome → List ℕ
outcome_line Delivered = codes "delivered\n"
outcome_line Again = codes "again\n"
outcome_line GivenUp = codes "gave-up\n"

-- a server has stopped and started again
abbrev pub crashed_line : List ℕ
crashed_line = codes "crashed\n"

-- time has passed
abbrev pub waited_line : List ℕ
waited_line = codes "waited\n"

-- ---- the end

-- how many entries the history of the server of this host has
unfoldable pub entries_line : List ℕ → ℕ → List ℕ
entries_line host count = host ++ (codes " entries " ++ (decimal count ++ codes "\n"))

-- the line with this number, counted from 1, is refused
unfoldable pub refused_line : ℕ → List ℕ
refused_line number = codes "refused: line " ++ (decimal number ++ codes "\n")

-- the script is too long
abbrev pub too_long_line : List ℕ
too_long_line = codes "refused: too long\n"
