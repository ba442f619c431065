use Rattle.fedi_effects.proofs.facts.Facts.first_by_id.Goals as goal

pub returns : goal.returns
returns g c = λ p decides. rw (← c.self.view_is) (c.first_by_id.ensures p decides)
