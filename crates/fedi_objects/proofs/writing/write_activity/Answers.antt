use Rattle.std.proofs.Common.{codes}
use Rattle.fedi_objects.specs.Forms.{activity_form, shown_in}
use Rattle.fedi_objects.proofs.Additions.{then, one_added, ended, as_value, text_added}
use Rattle.fedi_objects.proofs.Slots.{activity_tokens}
use Rattle.fedi_objects.proofs.writing.write_activity.Goals as goal

pub returns : goal.returns
returns c =
    let s = c.args.shown.now in
    let a = shown_in s in
    ended c.end_object.result
    (λ last. as_value (activity_form s.local c.args.context s.author.now a) _ (activity_tokens s.local c.args.context s.author.now a)
    (then (one_added c.in_ok-begin_object.was c.begin_object.ensures)
    (then c.in_ok-write_context.ensures
    (then (text_added (codes "actor") c.text.ensures.value c.in_ok-write_str.ensures)
    (then c.in_ok-write_iris.ensures
    (then c.in_ok-write_iris-2.ensures
    (then c.in_ok-write_text.ensures
    (then c.in_ok-write_iri.ensures
    (then c.in_ok-write_iri-2.ensures
    (then c.in_ok-write_text-2.ensures
    (then c.in_ok-write_about.ensures
    (then c.in_ok-write_text-3.ensures
    (then c.in_ok-write_text-4.ensures
    (then c.in_ok-write_tags.ensures
    (then c.in_ok-write_iri-3.ensures
    (then c.in_ok-write_iris-3.ensures
    (then (text_added (codes "type") c.name.ensures c.in_ok-write_str-2.ensures) last)))))))))))))))))
    c.end_object.ensures
