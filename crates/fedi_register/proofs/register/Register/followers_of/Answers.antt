use Rattle.std.proofs.Common.{◌∙◌, ℕ, ap}
use Rattle.fedi_register.specs.Marks.{places_of}
use Rattle.fedi_register.proofs.Places.{followers_found}
use Rattle.fedi_register.proofs.register.Register.followers_of.Goals as goal

pub returns : goal.returns
returns c =
    let marks = c.self.inside.followed.marks in
    let places = c.in_ok-places.ensures ∙ ap (λ (mark : ℕ). places_of mark marks) c.mark_of_iri.ensures in
    rw (← c.self.view_is)
    (rw (c.new-found.ensures.items, c.deref.ensures.value, ← c.self.view_is) at c.in_ok-add_followers.ensures
    ∙ followers_found c.self.inside.seed c.args.b.now _ marks _ places c.self.invariant.0.follow)
