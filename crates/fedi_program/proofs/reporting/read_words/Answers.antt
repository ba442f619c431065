use Rattle.std.proofs.Common.{inr, refl, sym, ◌∙◌}
use Rattle.fedi_program.proofs.reporting.read_words.Goals as goal

pub returns-then-not-is_kind-clause-refused : goal.returns-then-not-is_kind-clause-refused
returns-then-not-is_kind-clause-refused g c =
    inr (c.in-Some.ensures.name.0 refl, sym c.is_kind.ensures ∙ c.if-not-is_kind.true, c.report-then-not-is_kind.ensures)
