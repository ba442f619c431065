use Rattle.std.proofs.Common.{◌≡◌, ◌∙◌, List, ap, drop, length, take}
use Rattle.std.specs.List.{list_any}
use Rattle.std.specs.Prelude.{min}
use Rattle.std.proofs.lemmas.List.{take-append-drop}
use Rattle.fedi_town.specs.declared.act.Act.{Act}
use Rattle.fedi_register.specs.Seeds.{mark_of_pair}
use Rattle.fedi_register.specs.Registers.{relates, relates_by_key, relation_mark}
use Rattle.fedi_register.proofs.Found.{any_found, take_least}
use Rattle.fedi_register.proofs.Places.{marked_narrower, relation_marked}
use Rattle.fedi_register.proofs.register.Register.is_related_before.Goals as goal

pub returns : goal.returns
returns g c = λ p decides narrow.
    let author = c.args.author.now in
    let about = c.args.about.now in
    let seed = c.self.inside.seed in
    let acts = c.self.inside.acts.items in
    let k = c.min.result in
    let least : k ≡ min c.args.place (length acts) = rw (c.len.ensures ∙ c.self.inside.acts.ok.0) at c.min.ensures in
    rw (← c.self.view_is)
    (any_found relates p (relation_mark seed) c.mark_of_pair.result (mark_of_pair seed author about) (take k acts) (drop k acts) acts _ _ (rw c.deref.ensures.value at (c.any_of.ensures p decides)) (take-append-drop k acts) c.mark_of_pair.ensures
    c.self.invariant.0.pair (marked_narrower relates (relates_by_key author about) p (relation_mark seed) (mark_of_pair seed author about) (relation_marked seed author about) narrow)
    ∙ ap (λ (xs : List Act). list_any p xs) (take_least c.args.place acts k least))
