use Rattle.std.proofs.Common.{◌≡◌, ◌++◌, take}
use Rattle.std.specs.List.{flat_map, All}
use Rattle.fedi_entry.proofs.values.put_each.Given as goal

abbrev pub invariant-loop-item : goal.invariant-loop-item
invariant-loop-item g l =
    (l.bytes.items ≡ l.initial.bytes.items ++ flat_map g.T.Encode.code (take l.item-index l.items)) × All g.T.Encode.form (take l.item-index l.items)
