use Rattle.std.proofs.Common.{codes}
use Rattle.serde_json.specs.Data.{object}
use Rattle.fedi_objects.specs.Forms.{with_context, tombstone_members}
use Rattle.fedi_objects.specs.Views.{viewed}
use Rattle.fedi_objects.proofs.Additions.{then, one_added, ended, as_value, text_added}
use Rattle.fedi_objects.proofs.Slots.{tombstone_tokens}
use Rattle.fedi_objects.proofs.writing.write_tombstone.Goals as goal

pub returns : goal.returns
returns c =
    let o = viewed c.args.view.now in
    ended c.end_object.result
    (λ last. as_value (object (with_context c.args.context (tombstone_members o))) _ (tombstone_tokens c.args.context o)
    (then (one_added c.in_ok-begin_object.was c.begin_object.ensures)
    (then c.in_ok-write_context.ensures
    (then c.in_ok-write_text.ensures
    (then c.in_ok-write_text-2.ensures
    (then c.in_ok-write_iri.ensures
    (then (text_added (codes "type") c.text.ensures c.in_ok-write_str.ensures) last)))))))
    c.end_object.ensures
