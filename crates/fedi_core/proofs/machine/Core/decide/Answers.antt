use Rattle.std.proofs.Common.{ap, subst, refl, ◌∙◌}
use Rattle.fedi_town.specs.Histories.{town}
use Rattle.fedi_town.specs.Legal.{IsLegal}
use Rattle.fedi_core.proofs.Accepting.{decided_may, decided_private}
use Rattle.fedi_core.proofs.machine.Core.decide.Goals as goal

pub returns-clause-may_add : goal.returns-clause-may_add
returns-clause-may_add g c =
    decided_may c.args.self.now.history (g.S.Shelf.holding c.self.inside.shelf).town c.args.caller.now c.args.ask c.args.moment c.decide.result
    (c.self.invariant.stands.made ∙ ap (λ m. town m.history) c.self.view_is)
    (c.requires.postable c.args.self.now.history (subst IsLegal (ap (λ m. m.history) c.self.view_is) c.self.invariant.stands.legal) refl) c.decide.ensures.entry

pub returns-clause-private : goal.returns-clause-private
returns-clause-private g c =
    decided_private c.args.self.now.history (g.S.Shelf.holding c.self.inside.shelf).town c.args.caller.now c.args.ask c.decide.result
    (c.self.invariant.stands.made ∙ ap (λ m. town m.history) c.self.view_is) (subst IsLegal (ap (λ m. m.history) c.self.view_is) c.self.invariant.stands.legal) c.decide.ensures.reply
