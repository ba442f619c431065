use Rattle.std.proofs.Common.{◌≡◌, map, take, false}
use Rattle.std.specs.List.{list_any}
use Rattle.serde_json.specs.View.{view}
use Rattle.fedi_reading.specs.Reading.{is_bad}
use Rattle.fedi_reading.proofs.audience.check_entries.Given as goal

abbrev pub invariant-loop-entry : goal.invariant-loop-entry
invariant-loop-entry l = list_any is_bad (map view (take l.entry-index l.entries)) ≡ false
