use Rattle.std.proofs.Common.{length, subst, sym, ◌∙◌}
use Rattle.fedi_sqlite.specs.Kept.{IsPlaceBelow}
use Rattle.fedi_sqlite.proofs.places.are_below.Goals as goal

pub returns-then-not-branch : goal.returns-then-not-branch
returns-then-not-branch c all =
    let here = subst (IsPlaceBelow (length c.args.rows.now)) (sym c.row-item.is) (all c.loop-row.row-index c.row-item.result c.loop-row-test.true) in
    sym c.if-not-branch.true ∙ c.in_ok-is_below.ensures here
