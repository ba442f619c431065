-- What is read of a post.
use Rattle.std.specs.Prelude.{ℕ, List, Option, Some, None, Result, Ok, Err}
use Rattle.serde_json.specs.Data.{Data}
use Rattle.fedi_model.specs.declared.post.Read.{Read}
use Rattle.fedi_model.specs.declared.post.Read.TheVariants.{NotJson, Bad, Ready}
use Rattle.fedi_objects.specs.declared.activity.Activity as activities
use Rattle.fedi_reading.specs.Bodies.{IsBodyOf}
use Rattle.fedi_reading.specs.declared.shape_fault.ShapeFault.{ShapeFault}
use Rattle.fedi_reading.specs.declared.shape_fault.ShapeFault.TheVariants.{Memory}

-- the value of the body, or none if the body is not JSON
abbrev pub HoldsValue : List ℕ → Option Data → Type 0
HoldsValue body None = (d : Data) → ¬ (IsBodyOf body d)
HoldsValue body (Some d) = IsBodyOf body d

-- the result of a reading that gave the activity, or this fault
abbrev pub read_of : Result activities.Activity ShapeFault → Read
read_of (Ok a) = Ready a
read_of (Err fault) = Bad fault
