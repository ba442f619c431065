use Rattle.std.proofs.Common.{refl}
use Rattle.fedi_visible.proofs.ShownForms.{shown_whole}
use Rattle.fedi_visible.proofs.showing.show.Goals as goal

pub returns-clause-shown : goal.returns-clause-shown
returns-clause-shown c =
    shown_whole _ c.args.act.now (record { id = c.id.result; author = c.author.result; kind = c.kind.result; target = c.target.result; to = c.to.result; cc = c.cc.result; audience = c.audience.result; in_reply_to = c.in_reply_to.result; content = c.content.result; summary = c.summary.result; name = c.name.result; published = c.published.result; tags = c.tags.result; state = c.state.result; public = c.is_public.result; local = c.args.local; object = c.args.object })
    (record { id = c.id.ensures; author = c.author.ensures; kind = c.kind.ensures; target = c.target.ensures; to = c.to.ensures; cc = c.cc.ensures; audience = c.audience.ensures; in_reply_to = c.in_reply_to.ensures; content = c.content.ensures; summary = c.summary.ensures; name = c.name.ensures; published = c.published.ensures; tags = c.tags.ensures; object = refl })
