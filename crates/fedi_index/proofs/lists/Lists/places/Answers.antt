use Rattle.std.proofs.Common.{None, Some, ap, sym, ◌∙◌}
use Rattle.std.specs.Prelude.{option_copied}
use Rattle.fedi_index.proofs.Found.{places_there}
use Rattle.fedi_index.proofs.lists.Lists.places.Goals as goal

pub returns-in-Some : goal.returns-in-Some
returns-in-Some c =
    c.as_slice.ensures.value
    ∙ rw (← c.self.view_is)
    (places_there c.args.collection c.args.owner.now c.self.inside.rows.items (Some c.in-Some.row.now)
    (ap option_copied (sym c.in-Some.is) ∙ rw (← c.deref.ensures.value) c.row_of.ensures))

pub returns-in-None : goal.returns-in-None
returns-in-None c =
    rw (← c.self.view_is)
    (places_there c.args.collection c.args.owner.now c.self.inside.rows.items None
    (ap option_copied (sym c.in-None.is) ∙ rw (← c.deref.ensures.value) c.row_of.ensures))
