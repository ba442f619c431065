use Rattle.std.proofs.Common.{rules}
use Rattle.fedi_register.proofs.Found.{found}
use Rattle.fedi_register.specs.Marks.{every}
use Rattle.fedi_town.specs.Towns.{has_id}
use Rattle.fedi_effects.specs.Members.{id_mark}
use Rattle.fedi_effects.proofs.MemberMarks.{id_marked}
use Rattle.fedi_effects.proofs.members.Members.of_text.Goals as goal

pub returns : goal.returns
returns c =
    let id = c.args.id.now in
    rw (← c.self.view_is)
    (found every (has_id id) (id_mark c.self.inside.seed) _ _ _ _ _ _ (c.first_of.ensures (has_id id) (search rules)) c.deref.ensures.value c.mark_of.ensures c.self.invariant.1 (id_marked c.self.inside.seed id))
