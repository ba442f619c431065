use Rattle.std.proofs.Common.{append-nil, refl, sym, ◌∙◌}
use Rattle.serde_json.specs.View.{view}
use Rattle.fedi_reading.specs.Reading.{tag_of}
use Rattle.fedi_reading.proofs.ReadingLemmas.{filter_map_more, map_take_more}
use Rattle.fedi_reading.proofs.posted.mentions.Goals as goal
use Rattle.fedi_reading.proofs.posted.mentions.Goals.{in-Some+in_ok-push, in_default}

pub loop-tag-preserved : goal.loop-tag-preserved
loop-tag-preserved c =
    rw (map_take_more view c.args.tags.now c.loop-tag.tag-index c.tag-item.result c.loop-tag-test.true, ← c.tag-item.is)
    (elim c.match-branch-2.branch [
      | in-Some+in_ok-push w ↦ rw (w.found-is, w.in_ok-push.ensures.ok, filter_map_more tag_of _ _ _ (sym c.in_ok-mention.ensures ∙ w.in-Some.is), ← c.loop-tag.invariant) refl
      | in_default w ↦ rw (w.found-is, filter_map_more tag_of _ _ _ (sym c.in_ok-mention.ensures ∙ w.in_default.is), append-nil) c.loop-tag.invariant
    ])
