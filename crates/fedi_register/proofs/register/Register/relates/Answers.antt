use Rattle.std.proofs.Common.{◌≡◌, ◌∙◌, List, ap, length}
use Rattle.std.specs.List.{list_any}
use Rattle.std.proofs.Math.Seq.{take-length}
use Rattle.fedi_town.specs.declared.act.Act.{Act}
use Rattle.fedi_register.proofs.register.Register.relates.Goals as goal

pub returns : goal.returns
returns g c = λ p decides narrow.
    let acts = c.self.inside.acts.items in
    let all : c.len.result ≡ length acts = c.len.ensures ∙ c.self.inside.acts.ok.0 in
    rw (← c.self.view_is)
    ((rw (c.text.ensures.value, ← c.self.view_is, all) at (c.is_related_before.ensures p decides)) narrow ∙ ap (λ (xs : List Act). list_any p xs) (take-length acts))
