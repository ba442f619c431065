use Rattle.serde_json.specs.View.{view}
use Rattle.fedi_reading.specs.Reading.{url_of}
use Rattle.fedi_reading.proofs.ActivityLemmas.{changes_said}
use Rattle.fedi_reading.proofs.activity.fill_update.Goals as goal

pub returns : goal.returns
unfolding url_of
returns c =
    rw (c.requires.empty, c.requires.kept, c.set.ensures, c.set-2.ensures, c.set-3.ensures, c.set-4.ensures, c.set-5.ensures, c.set-6.ensures, c.set-7.ensures, c.set-8.ensures, c.set-9.ensures, c.set-10.ensures, c.set-11.ensures, c.set-12.ensures, c.set-13.ensures, c.edit.ensures, c.edit-2.ensures, c.edit-3.ensures, c.edit-4.ensures, c.edit-5.ensures, c.edit-6.ensures, c.in_ok-iri_at.ensures, c.in_ok-given_tags.ensures, c.in_ok-read_tags.ensures)
    (changes_said (view c.args.value.now) (view c.args.object.now) c.args.change.now.id c.in_ok-read_target.field-0 c.in_ok-in_reply_to.in_reply_to _ _ _
    c.requires.named c.in_ok-read_target.ensures c.in_ok-in_reply_to.ensures c.in_ok-in_reply_to-2.ensures c.in_ok-content.ensures c.in_ok-content-2.ensures)
