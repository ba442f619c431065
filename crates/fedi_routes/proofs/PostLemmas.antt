-- What is read of a post, by the value of its body.
use Rattle.std.proofs.Common.{◌≡◌, ℕ, List, Bool, true, false, Some, None, Ok, Err, ap}
use Rattle.std.specs.Prelude.{◌≢◌, Result}
use Rattle.serde_json.specs.Data.{Data}
use Rattle.fedi_model.specs.declared.post.Read.TheVariants.{NotJson}
use Rattle.fedi_objects.specs.declared.activity.Activity.{Activity}
use Rattle.fedi_reading.specs.Bodies.{IsBodyOf}
use Rattle.fedi_reading.specs.Shapes.{Gives}
use Rattle.fedi_reading.specs.declared.shape_fault.ShapeFault.{ShapeFault}
use Rattle.fedi_reading.specs.declared.shape_fault.ShapeFault.TheVariants.{Memory}
use Rattle.fedi_model.specs.Routes.{ReadsIf}
use Rattle.fedi_routes.specs.Posts.{HoldsValue, read_of}

-- what a reading of the value of the body gave
pub value_read : (read : Bool) (reads : Data → Result Activity ShapeFault) (body : List ℕ)
    (d : Data) (outcome : Result Activity ShapeFault) → read ≡ true → HoldsValue body (Some d)
    → Gives outcome (reads d) → outcome ≢ Err Memory → ReadsIf read reads body (read_of outcome)
value_read read reads body d (Ok a) is h gave m = rw is (d, h, gave)
value_read read reads body d (Err fault) is h gave m =
    rw is (d, h, gave (λ same. m (ap (λ (e : ShapeFault). Err e) same)))

-- nothing, if there is no value
pub nothing_read : (read : Bool) (reads : Data → Result Activity ShapeFault) (body : List ℕ)
    → read ≡ true → HoldsValue body None → ReadsIf read reads body NotJson
nothing_read read reads body is h = rw is h
