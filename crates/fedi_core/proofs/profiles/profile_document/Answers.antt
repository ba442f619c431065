use Rattle.fedi_model.specs.Documents.{jrd_form}
use Rattle.fedi_objects.proofs.Additions.{document}
use Rattle.fedi_core.proofs.profiles.profile_document.Goals as goal

pub returns : goal.returns
returns c =
    c.document_reply.ensures (jrd_form c.args.host.now c.args.name.now c.args.rels.now)
    (document c.in_ok-out.ensures.tokens c.in_ok-out.ensures.before c.in_ok-write_jrd.ensures)
