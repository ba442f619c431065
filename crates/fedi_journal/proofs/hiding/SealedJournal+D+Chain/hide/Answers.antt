use Rattle.std.proofs.Common.{ℕ, List, length, arith, subst, sym}
use Rattle.std.specs.Prelude.{None}
use Rattle.fedi_outside.specs.Known.{IsKnown}
use Rattle.fedi_journal.specs.ChainLaws.{hidden_ok}
use Rattle.fedi_journal.specs.Chains.{chain, hidden}
use Rattle.fedi_journal.specs.Finding.{IsSealed}
use Rattle.fedi_journal.proofs.ChainSteps.{of_hidden}
use Rattle.fedi_journal.proofs.MakingSteps.{made_known, sealed_none}
use Rattle.fedi_journal.proofs.hiding.SealedJournal+D+Chain.hide.Goals as goal

pub invariant_of-result : goal.invariant_of-result
invariant_of-result g c =
    let disk = c.make_hidden.new.disk in
    record {
      room = λ some. absurd (omega arith);
      known = subst (λ (l : List ℕ). IsKnown hidden (g.D.Disk.shown disk) (g.D.Disk.crashes disk) 8 l None) (sym c.new.ensures.items)
          (made_known hidden hidden_ok (g.D.Disk.shown disk) (g.D.Disk.crashes disk) (g.D.Disk.shown c.args.disk).reads c.in-Ok.ensures.written c.in-Ok.ensures.durable c.in-Ok.ensures.long);
      sealed = λ bytes is. subst (λ (l : List ℕ). IsSealed hidden (λ (rs : List (List ℕ)). of_hidden (chain rs)) (length l) c.start.result bytes) (sym c.new.ensures.items)
          (sealed_none hidden (λ (rs : List (List ℕ)). of_hidden (chain rs)) c.start.result bytes c.start.ensures);
    }
