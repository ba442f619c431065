use Rattle.std.proofs.Common.{ap, ◌∙◌}
use Rattle.std.specs.Prelude.{is_some}
use Rattle.fedi_register.specs.Authors.{is_author}
use Rattle.fedi_register.proofs.Counts.{any_known}
use Rattle.fedi_register.proofs.Found.{some_copied, some_found}
use Rattle.fedi_register.proofs.authors.Authors.is_known.Goals as goal

pub returns : goal.returns
returns c =
    c.is_some.ensures ∙ some_copied c.find.result ∙ ap is_some c.find.ensures ∙ some_found (is_author c.args.id.now) c.args.self.now
    ∙ any_known c.args.id.now c.args.self.now
