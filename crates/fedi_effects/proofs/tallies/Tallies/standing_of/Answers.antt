use Rattle.std.proofs.Common.{◌≡◌, ap, ◌∙◌, List, ℕ, Some, None}
use Rattle.fedi_effects.specs.declared.tallies.Tally.{Tally}
use Rattle.fedi_effects.specs.Tallies.{is_tally_of}
use Rattle.fedi_effects.proofs.Tallying.{few_found, standing_found, standing_none}
use Rattle.fedi_effects.proofs.tallies.Tallies.standing_of.Goals as goal
use Rattle.fedi_register.specs.Changes.{place_where}
use Rattle.fedi_town.specs.Queues.{Due}

pub returns-in-Some-clause-value : goal.returns-in-Some-clause-value
returns-in-Some-clause-value c =
    let id = c.args.id.now in
    let recipient = c.args.recipient.now in
    let at : Some c.in-Some.place ≡ place_where (is_tally_of id recipient) c.self.inside.list.items = c.in-Some.ensures ∙ ap (λ (l : List Tally). place_where (is_tally_of id recipient) l) c.deref.ensures.value in
    rw (← c.self.view_is) (standing_found _ _ id recipient c.args.moment c.in-Some.place _ _ c.self.invariant.1 at c.index.ensures)

pub returns-in-Some-clause-few : goal.returns-in-Some-clause-few
returns-in-Some-clause-few c =
    let id = c.args.id.now in
    let recipient = c.args.recipient.now in
    let at : Some c.in-Some.place ≡ place_where (is_tally_of id recipient) c.self.inside.list.items = c.in-Some.ensures ∙ ap (λ (l : List Tally). place_where (is_tally_of id recipient) l) c.deref.ensures.value in
    few_found _ id recipient c.in-Some.place _ _ c.self.invariant.2 at c.index.ensures

pub returns-in-None-clause-value : goal.returns-in-None-clause-value
returns-in-None-clause-value c =
    let id = c.args.id.now in
    let recipient = c.args.recipient.now in
    let none : None ≡ place_where (is_tally_of id recipient) c.self.inside.list.items = c.in-None.ensures ∙ ap (λ (l : List Tally). place_where (is_tally_of id recipient) l) c.deref.ensures.value in
    rw (← c.self.view_is) (ap (λ (m : ℕ). Due 0 m) c.seconds.ensures.value ∙ standing_none _ _ id recipient c.args.moment c.self.invariant.1 none)
