use Rattle.serde_json.specs.View.{view}
use Rattle.fedi_reading.specs.Reading.{url_of}
use Rattle.fedi_reading.proofs.ActivityLemmas.{creation_said}
use Rattle.fedi_reading.proofs.activity.fill_both.Goals as goal

pub returns : goal.returns
unfolding url_of
returns c =
    rw (c.requires.empty, c.requires.bare, c.set-5.ensures, c.in_ok-clone.ensures.cases, c.set.ensures, c.set-2.ensures, c.set-3.ensures, c.set-4.ensures, c.set-6.ensures, c.set-7.ensures, c.set-8.ensures, c.set-9.ensures, c.set-10.ensures, c.set-11.ensures, c.set-12.ensures, c.set-13.ensures, c.set-14.ensures, c.in_ok-iri_at.ensures, c.in_ok-read_tags.ensures, c.in_ok-read_tags-2.ensures)
    (creation_said (view c.args.value.now) (view c.args.object.now) c.args.made.now.kind c.in_ok-_id._id c.in_ok-read_target.field-0 c.in_ok-read_reply.field-0 c.in_ok-read_reply-2.field-0 c.in_ok-read_audience.field-0 _ _
    c.requires.typed (rw (← c.reference_at.ensures) c.in_ok-_id.ensures) c.in_ok-read_target.ensures c.in_ok-read_reply.ensures c.in_ok-read_reply-2.ensures c.in_ok-read_audience.ensures c.in_ok-content.ensures c.in_ok-content-2.ensures)
