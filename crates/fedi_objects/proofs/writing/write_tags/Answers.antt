use Rattle.std.proofs.Common.{◌≡◌, ◌≢◌, length, codes, arith, rules, tests}
use Rattle.fedi_objects.specs.Forms.{tag_form}
use Rattle.fedi_objects.proofs.Additions.{none_listed, one_added, ended, more_added, list_added}
use Rattle.fedi_objects.proofs.writing.write_tags.Goals as goal

pub returns-then-is_empty : goal.returns-then-is_empty
returns-then-is_empty c =
    let none : length c.args.tags.now ≡ 0 = search rules in
    none_listed (codes "tag") tag_form c.args.tags.now c.args.out.now none

pub loop-tag-preserved : goal.loop-tag-preserved
loop-tag-preserved c =
    more_added tag_form c.args.tags.now c.loop-tag.tag-index c.tag-item.result c.loop-tag-test.true c.tag-item.is c.loop-tag.invariant
    c.in_ok-write_tag.ensures

pub returns : goal.returns
returns c =
    let some : length c.args.tags.now ≢ 0 = grind (arith, tests) in
    ended c.end_array.result
    (list_added (codes "tag") tag_form c.args.tags.now c.loop-tag.tag-index some (omega arith)
    (one_added c.in_ok-key.was c.key.ensures) (one_added c.in_ok-begin_array.was c.begin_array.ensures) c.loop-tag.invariant)
    c.end_array.ensures
