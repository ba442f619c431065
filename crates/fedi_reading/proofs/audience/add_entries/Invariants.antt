use Rattle.std.proofs.Common.{map, take}
use Rattle.serde_json.specs.View.{view}
use Rattle.fedi_reading.proofs.ReadingLemmas.{HasRead}
use Rattle.fedi_reading.proofs.audience.add_entries.Given as goal

abbrev pub invariant-loop-entry : goal.invariant-loop-entry
invariant-loop-entry l = HasRead l.fn.kept (map view (take l.entry-index l.entries)) l.kept
