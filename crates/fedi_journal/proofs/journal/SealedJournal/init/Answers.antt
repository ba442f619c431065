use Rattle.std.proofs.Common.{List, ℕ, ◌≡◌, length, subst, sym, arith}
use Rattle.std.specs.Prelude.{None}
use Rattle.fedi_outside.specs.Disks.{spliced}
use Rattle.fedi_outside.specs.Known.{IsKnown, records_told}
use Rattle.fedi_journal.specs.Finding.{IsSealed}
use Rattle.fedi_journal.specs.Making.{blank, blank_shown}
use Rattle.fedi_journal.proofs.KeeperSteps.{shows_same}
use Rattle.fedi_journal.proofs.MakingSteps.{made_known, no_records, sealed_none}
use Rattle.fedi_journal.proofs.journal.SealedJournal.init.Goals as goal

pub invariant_of-result : goal.invariant_of-result
invariant_of-result g c =
    let disk = c.make.new.disk in
    record {
      room = λ some. absurd (omega arith);
      known = subst (λ (l : List ℕ). IsKnown g.S.Seal.format (g.D.Disk.shown disk) (g.D.Disk.crashes disk) 8 l None) (sym c.new.ensures.items)
          (made_known g.S.Seal.format g.met.S.Seal.is_format (g.D.Disk.shown disk) (g.D.Disk.crashes disk) (g.D.Disk.shown c.args.disk).reads c.in-Ok.ensures.written c.in-Ok.ensures.durable c.in-Ok.ensures.long);
      sealed = λ bytes is. subst (λ (l : List ℕ). IsSealed g.S.Seal.format g.S.Seal.after (length l) c.start.result bytes) (sym c.new.ensures.items) (sealed_none g.S.Seal.format g.S.Seal.after c.start.result bytes c.start.ensures);
    }

pub returns-in-Ok-clause-shown : goal.returns-in-Ok-clause-shown
returns-in-Ok-clause-shown g c =
    let old = g.D.Disk.shown c.args.disk in
    let new = g.D.Disk.shown c.make.new.disk in
    subst (λ (l : List ℕ). record { records = records_told g.S.Seal.format (length l) new; held = length l; doubt = None; spare = 0; end = 8; faults = new.faults } ≡ blank_shown old) (sym c.new.ensures.items)
    (shows_same 0 None 0 8 (no_records g.S.Seal.format g.met.S.Seal.is_format new old.reads (spliced 0 (blank g.S.Seal.format)) c.in-Ok.ensures.written) c.in-Ok.ensures.faults)
