use Rattle.std.proofs.Common.{codes, refl}
use Rattle.fedi_objects.specs.Forms.{tag_form}
use Rattle.fedi_objects.proofs.Additions.{then, one_added, ended, as_value, text_added}
use Rattle.fedi_objects.proofs.writing.write_tag.Goals as goal

pub returns : goal.returns
unfolding tag_form
returns c =
    ended c.end_object.result
    (λ last. as_value (tag_form c.args.tag.now) _ refl
    (then (one_added c.in_ok-begin_object.was c.begin_object.ensures)
    (then (text_added (codes "href") c.text.ensures.value c.in_ok-write_str.ensures)
    (then (text_added (codes "name") c.text-2.ensures c.in_ok-write_str-2.ensures)
    (then c.in_ok-write_str-3.ensures last)))))
    c.end_object.ensures
