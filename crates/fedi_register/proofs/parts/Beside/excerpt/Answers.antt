use Rattle.std.proofs.Common.{ap, ◌∙◌, Option}
use Rattle.fedi_register.specs.declared.parts.Parts.{Parts}
use Rattle.fedi_register.specs.Parts.{named_part}
use Rattle.fedi_register.proofs.parts.Beside.excerpt.Goals as goal

pub returns-in_ok-new-in-Some-clause-named : goal.returns-in_ok-new-in-Some-clause-named
returns-in_ok-new-in-Some-clause-named c about =
    rw (c.in_ok-new-in-Some.ensures.ok) (c.in_ok-copy-in-Some.ensures.named about ∙ ap (λ (p : Option Parts). named_part p about) c.in-Some.ensures)
