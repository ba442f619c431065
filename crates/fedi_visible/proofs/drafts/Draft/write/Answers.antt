use Rattle.fedi_visible.specs.Drafts.{sight_document}
use Rattle.fedi_visible.proofs.drafts.Draft.write.Goals as goal

pub returns-in-Activity : goal.returns-in-Activity
unfolding sight_document
returns-in-Activity c =
    rw (c.in-Activity.is) (rw (c.shown.ensures.shown, c.shown.ensures.author, c.shown.ensures.local) at c.activity_document.ensures)

pub returns-in-Object : goal.returns-in-Object
returns-in-Object c = rw (c.in-Object.is, ← c.object.ensures) c.object_reply.ensures
