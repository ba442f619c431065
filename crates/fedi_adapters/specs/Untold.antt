-- Lines that report nothing of what they carry.
use Rattle.std.specs.Prelude.{Bool, Option, Some, None, if◌then◌else◌}
use Rattle.fedi_outside.specs.Doors.{Coming}

-- such a line as it came
abbrev pub untold : Coming
untold = record { input = None; begun = None }

-- the line that is out, if there is one
abbrev pub untold_if : Bool → Option Coming
untold_if is_out = if is_out then Some untold else None
