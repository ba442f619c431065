use Rattle.std.proofs.Common.{◌∙◌}
use Rattle.fedi_model.specs.Documents.{summary_form}
use Rattle.fedi_collections.proofs.Found.{text_written}
use Rattle.fedi_collections.proofs.pages.summary_text.Goals as goal

pub returns : goal.returns
returns c =
    text_written (summary_form c.args.address c.args.total) c.new-out.result c.write_summary.new.out _
    (c.new-out.ensures.before ∙ c.in_ok-with_capacity.ensures.items) c.new-out.ensures.tokens c.in_ok-write_summary.ensures c.into_inner.ensures.items
