-- How a run prints a demonstration.
use Rattle.std.specs.Prelude.{◌≡◌, ◌⊎◌, ℕ, List, []}
use Rattle.fedi_demo.specs.Demonstrating.{IsDemo}
use Rattle.fedi_logged.specs.Endings.{Output, Writes}
use Rattle.fedi_program.specs.Endings.{Prints}

-- The one text of the demonstration with this number is printed, or a proper prefix of it before a
-- write failed (7), or nothing, because memory ran out (12).
abbrev pub Demonstrates : ℕ → Output → Output → ℕ → Type 0
Demonstrates number first now status =
    ((text : List ℕ) × IsDemo number text × Prints first now text status)
    ⊎ ((status ≡ 12) × Writes first now [])
