use Rattle.std.proofs.Common.{rules, ◌∙◌, sym, ap}
use Rattle.std.proofs.Math.ListN.{get_or}
use Rattle.std.proofs.lemmas.List.{take_more_same}
use Rattle.fedi_register.proofs.iris.are_same.Goals as goal

pub loop-place-preserved : goal.loop-place-preserved
loop-place-preserved c =
    let e = c.differ.ensures c.if-differ.false in
    take_more_same c.args.left.now c.args.right.now c.loop-place.place c.index-left-place.result (search rules) (search rules) c.loop-place.invariant
    (sym c.index-left-place.is ∙ e ∙ c.index-right-place.is ∙ ap (λ d. get_or c.args.right.now c.loop-place.place d) (sym e))
