use Rattle.std.proofs.Common.{Some, ap, sym, ◌∙◌}
use Rattle.std.specs.Prelude.{option_copied}
use Rattle.fedi_index.proofs.Positions.{ends_is}
use Rattle.fedi_index.proofs.lists.ends_in.Goals as goal

pub returns-in-Some : goal.returns-in-Some
returns-in-Some c = ends_is c.args.place c.args.places.now (Some c.in-Some.last.now) (ap option_copied (sym c.in-Some.is) ∙ c.last.ensures.value)
