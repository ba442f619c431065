use Rattle.std.proofs.Common.{◌≡◌, map, take}
use Rattle.std.specs.List.{filter_map}
use Rattle.serde_json.specs.View.{view}
use Rattle.fedi_reading.specs.Reading.{tag_of}
use Rattle.fedi_reading.proofs.posted.mentions.Given as goal

abbrev pub invariant-loop-tag : goal.invariant-loop-tag
invariant-loop-tag l = l.found ≡ filter_map tag_of (map view (take l.tag-index l.tags))
