-- Replies that are decided on before they are written.
use Rattle.std.specs.Prelude.{Bool, false, true}
use Rattle.fedi_collections.specs.Drafts as collections
use Rattle.fedi_model.specs.declared.reply.Reply.{Reply}
use Rattle.fedi_visible.specs.Drafts as documents
use Rattle.fedi_core.specs.declared.drafts.Draft.{Draft}
use Rattle.fedi_core.specs.declared.drafts.Draft.TheVariants.{Ready, Document, Collection}

-- the reply that a draft becomes
abbrev pub reply_in : Draft → Reply
reply_in (Ready r) = r
reply_in (Document d) = documents.reply_in d
reply_in (Collection d) = collections.reply_in d

-- nothing is left to be written
abbrev pub is_ready : Draft → Bool
is_ready (Ready r) = true
is_ready (Document d) = false
is_ready (Collection d) = collections.is_ready d
