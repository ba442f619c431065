-- Replies that are found before they are written.
use Rattle.std.specs.Prelude.{true}
use Rattle.fedi_objects.specs.Forms.{activity_form}
use Rattle.fedi_model.specs.AnswerKinds.{Answer, Document}
use Rattle.fedi_model.specs.Reading.{object_document}
use Rattle.fedi_model.specs.Replies.{reply_of}
use Rattle.fedi_model.specs.declared.reply.Reply.{Reply}
use Rattle.fedi_visible.specs.Excerpts.{Sight}
use Rattle.fedi_visible.specs.declared.drafts.Draft.{Draft}
use Rattle.fedi_visible.specs.declared.drafts.Draft.TheVariants as drafts

-- the document of an activity of which this is shown (ActivityPub, section 3.2)
unfoldable pub sight_document : Sight → Answer
sight_document s = Document (activity_form s.local true s.author s.shown)

-- the reply that a draft becomes
abbrev pub reply_in : Draft → Reply
reply_in (drafts.Ready r) = r
reply_in (drafts.Activity s) = reply_of (sight_document s)
reply_in (drafts.Object s) = reply_of (object_document s.object)
