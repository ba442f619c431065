use Rattle.fedi_effects.proofs.facts.Facts.first_maker.Goals as goal

pub returns : goal.returns
returns g c = λ p decides. rw (← c.self.view_is) (c.first_maker.ensures p decides)
