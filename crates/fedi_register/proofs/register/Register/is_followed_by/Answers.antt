use Rattle.std.proofs.Common.{[], ◌∙◌}
use Rattle.std.proofs.lemmas.List.{append-nil}
use Rattle.fedi_town.specs.Relations.{is_following}
use Rattle.fedi_register.specs.Seeds.{mark_of}
use Rattle.fedi_register.specs.Registers.{asks_to_follow, object_mark}
use Rattle.fedi_register.proofs.Found.{any_found}
use Rattle.fedi_register.proofs.Places.{followed_marked, marked_narrower}
use Rattle.fedi_register.proofs.register.Register.is_followed_by.Goals as goal

pub returns : goal.returns
returns g c = λ p decides narrow.
    let seed = c.self.inside.seed in
    let b = c.args.b.now in
    let acts = c.self.inside.acts.items in
    rw (← c.self.view_is, ← c.deref.ensures.value)
    (any_found asks_to_follow p (object_mark seed) c.mark_of_iri.result (mark_of seed b) _ [] acts _ _ (c.any_of.ensures p decides) (append-nil _ ∙ c.deref.ensures.value) c.mark_of_iri.ensures c.self.invariant.0.follow
    (marked_narrower asks_to_follow (is_following b) p (object_mark seed) (mark_of seed b) (followed_marked seed b) narrow))
