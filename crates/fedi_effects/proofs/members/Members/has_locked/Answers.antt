use Rattle.std.proofs.Common.{rules, Bool, ap, ◌∙◌}
use Rattle.std.specs.Prelude.{◌&&◌, is_some}
use Rattle.fedi_register.proofs.Found.{found, some_copied, some_found}
use Rattle.fedi_register.specs.Marks.{every}
use Rattle.fedi_town.specs.declared.act.Actor.{Actor}
use Rattle.fedi_town.specs.Towns.{has_id}
use Rattle.fedi_effects.specs.Members.{id_mark}
use Rattle.fedi_effects.proofs.MemberMarks.{locked_marked}
use Rattle.fedi_effects.proofs.members.Members.has_locked.Goals as goal

pub returns : goal.returns
returns c =
    let id = c.args.id.now in
    let is_locked : Actor → Bool = λ a. has_id id a && a.locked in
    rw (← c.self.view_is)
    (c.is_some.ensures ∙ some_copied c.first_of.result
    ∙ ap is_some (found every is_locked (id_mark c.self.inside.seed) _ _ _ _ _ _ (c.first_of.ensures is_locked (search rules)) c.deref.ensures.value c.mark_of_iri.ensures c.self.invariant.1 (locked_marked c.self.inside.seed id))
    ∙ some_found is_locked c.self.inside.list.items)
