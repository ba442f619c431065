use Rattle.std.proofs.Common.{arith, subst, take_all}
use Rattle.fedi_objects.proofs.Additions.{ended, more_added, one_added, then}
use Rattle.fedi_objects.specs.Writing.{Adds}
use Rattle.fedi_collections.specs.Items.{excerpt_form}
use Rattle.fedi_collections.proofs.ItemTokens.{list_tokens}
use Rattle.fedi_collections.proofs.items.write_excerpts.Goals as goal

pub loop-excerpt-preserved : goal.loop-excerpt-preserved
loop-excerpt-preserved c =
    more_added excerpt_form c.args.excerpts.now c.loop-excerpt.excerpt-index c.excerpt-item.result c.loop-excerpt-test.true c.excerpt-item.is c.loop-excerpt.invariant
    c.in_ok-write_excerpt.ensures

pub returns : goal.returns
returns c =
    let xs = c.args.excerpts.now in
    ended c.end_array.result
    (λ end. subst (λ ts. Adds ts c.args.out.now c.end_array.new.self) (list_tokens excerpt_form xs _ (take_all c.loop-excerpt.excerpt-index xs (omega arith)))
    (then (one_added c.in_ok-begin_array.was c.begin_array.ensures) (then c.loop-excerpt.invariant end)))
    c.end_array.ensures
