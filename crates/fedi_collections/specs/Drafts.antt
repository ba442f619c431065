-- Replies to readers of a collection that are found before they are written.
use Rattle.std.specs.Prelude.{map, Bool, false, true}
use Rattle.serde_json.specs.Data.{Data}
use Rattle.fedi_model.specs.AnswerKinds.{Document}
use Rattle.fedi_model.specs.Documents.{page_form}
use Rattle.fedi_model.specs.Replies.{reply_of}
use Rattle.fedi_model.specs.declared.reply.Reply.{Reply}
use Rattle.fedi_collections.specs.declared.drafts.CollectionDraft.{CollectionDraft}
use Rattle.fedi_collections.specs.declared.drafts.CollectionDraft.TheVariants.{Ready, Page}
use Rattle.fedi_collections.specs.declared.pages.PageDraft.{PageDraft}
use Rattle.fedi_collections.specs.Items.{excerpt_form}

-- the document that a page becomes (ActivityStreams 2.0 Core, section 5.2)
abbrev pub page_data : PageDraft → Data
page_data p = page_form p.address p.number p.total (map excerpt_form p.excerpts.items)

-- the reply that shows this page
abbrev pub page_reply : Data → Reply
page_reply page = reply_of (Document page)

-- the reply that a draft becomes
abbrev pub reply_in : CollectionDraft → Reply
reply_in (Ready r) = r
reply_in (Page d) = page_reply (page_data d)

-- nothing is left to be written
abbrev pub is_ready : CollectionDraft → Bool
is_ready (Ready r) = true
is_ready (Page d) = false
