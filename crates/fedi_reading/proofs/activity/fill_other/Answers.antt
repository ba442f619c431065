use Rattle.serde_json.specs.View.{view}
use Rattle.fedi_reading.proofs.ActivityLemmas.{other_said}
use Rattle.fedi_reading.proofs.activity.fill_other.Goals as goal

pub returns : goal.returns
returns c =
    rw (c.requires, c.set.ensures, c.set-2.ensures, c.set-3.ensures, c.set-4.ensures, c.set-5.ensures, c.set-6.ensures, c.set-7.ensures, c.set-8.ensures, c.object_ref.ensures, c.in_ok-read_tags.ensures)
    (other_said c.args.author.now c.args.need (view c.args.value.now) c.args.activity.now c.in_ok-id.id c.in_ok-read_target.field-0 _ _
    (rw (← c.object_id.ensures) c.in_ok-id.ensures) c.in_ok-read_target.ensures c.in_ok-in_reply_to.ensures c.in_ok-content.ensures (rw (← c.is_oneself.ensures) c.if-is_oneself.false))
