use Rattle.fedi_visible.proofs.drafts.document_reply.Goals as goal

pub returns : goal.returns
returns c d h = rw (c.document.ensures, c.text_of.ensures d h)
