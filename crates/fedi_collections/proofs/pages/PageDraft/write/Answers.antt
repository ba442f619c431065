use Rattle.std.proofs.Common.{◌∙◌}
use Rattle.fedi_collections.proofs.Found.{text_written}
use Rattle.fedi_collections.specs.Drafts.{page_data}
use Rattle.fedi_collections.proofs.pages.PageDraft.write.Goals as goal

pub returns : goal.returns
returns c =
    text_written (page_data c.args.self) c.new-out.result c.write_in.new.out _
    (c.new-out.ensures.before ∙ c.in_ok-with_capacity.ensures.items) c.new-out.ensures.tokens c.in_ok-write_in.ensures c.into_inner.ensures.items
