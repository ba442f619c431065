use Rattle.std.proofs.Common.{ap, ◌∙◌}
use Rattle.fedi_register.specs.Seeds.{mark_of}
use Rattle.fedi_index.proofs.Found.{row_added}
use Rattle.fedi_index.proofs.lists.Lists.add.Goals as goal

pub invariant_of-self-2 : goal.invariant_of-self-2
invariant_of-self-2 c =
    rw c.in_ok-push.ensures.items
    (row_added c.self.inside.seed c.self.inside.rows.items _ _ _ c.mark_of_list-mark.result c.len-at.result (c.len-at.ensures ∙ c.self.inside.rows.ok.0) (c.mark_of_list-mark.ensures ∙ ap (mark_of c.self.inside.seed) c.text.ensures.value)
    (c.reserve.ensures.marks ∙ c.self.invariant) (ap (λ m. m.marks) c.push-2.ensures))
