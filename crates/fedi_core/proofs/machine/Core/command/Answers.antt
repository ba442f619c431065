use Rattle.std.proofs.Common.{subst, sym}
use Rattle.fedi_town.specs.Legal.{IsLegal}
use Rattle.fedi_core.proofs.Growing.{peers_told}
use Rattle.fedi_core.proofs.Kept.{keeps_by, keeps_nothing}
use Rattle.fedi_core.proofs.Rules.{rule_unkept}
use Rattle.fedi_core.specs.declared.keeping.KeepFault.TheVariants.{Memory}
use Rattle.fedi_core.proofs.machine.Core.command.Goals as goal

pub returns-in-Err-clause-keeps : goal.returns-in-Err-clause-keeps
returns-in-Err-clause-keeps g c =
    let m = c.args.self.now in
    let legal = subst (λ x. IsLegal x.history) c.self.view_is c.self.invariant.stands.legal in
    keeps_by g.P.Keeper m m c.args.entry Memory _
    (sym (rule_unkept c.facts.result.now.town c.args.entry c.in-Err.fault c.in-Err.ensures))
    (keeps_nothing g.P.Keeper m c.args.entry legal (g.met.P.Keeper.crash_now m.keeper))

pub returns-in-Ok-clause-added_peers : goal.returns-in-Ok-clause-added_peers
returns-in-Ok-clause-added_peers g c = peers_told c.args.self.now.history c.keep.new.self.history
