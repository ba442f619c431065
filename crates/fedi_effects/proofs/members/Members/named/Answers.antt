use Rattle.std.proofs.Common.{rules}
use Rattle.fedi_register.proofs.Found.{found}
use Rattle.fedi_register.specs.Marks.{every}
use Rattle.fedi_town.specs.Towns.{has_name}
use Rattle.fedi_effects.specs.Members.{name_mark}
use Rattle.fedi_effects.proofs.MemberMarks.{name_marked}
use Rattle.fedi_effects.proofs.members.Members.named.Goals as goal

pub returns : goal.returns
returns c =
    let name = c.args.name.now in
    rw (← c.self.view_is)
    (found every (has_name name) (name_mark c.self.inside.seed) _ _ _ _ _ _ (c.first_of.ensures (has_name name) (search rules)) c.deref.ensures.value c.mark_of_name.ensures c.self.invariant.0 (name_marked c.self.inside.seed name))
