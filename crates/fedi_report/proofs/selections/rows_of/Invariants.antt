use Rattle.std.proofs.Common.{◌-◌, ◌≡◌, ◌≤◌, ◌<◌, ◌^◌, length, take}
use Rattle.fedi_report.specs.Selections.{acts_fields}
use Rattle.fedi_report.proofs.selections.rows_of.Given as goal

abbrev pub invariant-acts : goal.invariant-acts
invariant-acts l = record {
  within : l.position ≤ l.count;
  few : l.count < 2 ^ 62;
  count : l.count ≡ length l.facts.town.acts;
  rows : l.rows.items ≡ acts_fields 0 (take l.position l.facts.town.acts);
}

abbrev pub decreases-acts : goal.decreases-acts
decreases-acts l = l.count - l.position
