use Rattle.std.proofs.Common.{length, arith, sym, ◌∙◌, ap, subst}
use Rattle.std.specs.Prelude.{option_map}
use Rattle.fedi_outside.specs.Images.{kept_in}
use Rattle.fedi_outside.specs.Known.{IsKnown}
use Rattle.fedi_journal.specs.Chains.{chain, chained, hidden}
use Rattle.fedi_journal.specs.declared.chains.HiddenChain.{HiddenChain}
use Rattle.fedi_journal.proofs.ChainSteps.{of_chain}
use Rattle.fedi_journal.proofs.HidingSteps.{revealed_known, revealed_passes, revealed_records}
use Rattle.fedi_journal.proofs.KeeperSteps.{some_back}
use Rattle.fedi_journal.proofs.hiding.reveal.Goals as goal

pub write_synced-requires : goal.write_synced-requires
write_synced-requires g c = record { inside = omega (arith, c.args.journal.known.inside, c.requires.begun) }

pub invariant_of-result : goal.invariant_of-result
invariant_of-result g c =
    let k = c.args.journal in
    let known = subst (IsKnown hidden (g.D.Disk.shown k.disk) (g.D.Disk.crashes k.disk) k.end k.gates.items) c.requires.settled k.known in
    let old = g.D.Disk.shown k.disk in
    let new = g.D.Disk.shown c.write_synced.new.disk in
    let n = length k.gates.items in
    record {
      room = λ some. absurd (omega arith);
      known = revealed_known old new (g.D.Disk.crashes k.disk) (g.D.Disk.crashes c.write_synced.new.disk) k.end k.gates.items known (g.met.D.Disk.reads_stay k.disk) c.in-Ok.ensures.written c.in-Ok.ensures.durable;
      sealed = λ bytes is.
          let same = revealed_records old new (g.D.Disk.crashes k.disk) k.end k.gates.items known (g.met.D.Disk.reads_stay k.disk) c.in-Ok.ensures.written in
          let here = some_back old.reads (kept_in hidden n) (kept_in chained n bytes) (sym same ∙ ap (option_map (kept_in chained n)) is) in
          ap of_chain (c.reveal.ensures ∙ (ap (λ (s : HiddenChain). s.tip) (k.sealed here.0 here.1) ∙ ap chain here.2));
    }

pub returns-in-Ok-clause-records : goal.returns-in-Ok-clause-records
returns-in-Ok-clause-records g c =
    let k = c.args.journal in
    let known = subst (IsKnown hidden (g.D.Disk.shown k.disk) (g.D.Disk.crashes k.disk) k.end k.gates.items) c.requires.settled k.known in
    let old = g.D.Disk.shown k.disk in
    let new = g.D.Disk.shown c.write_synced.new.disk in
    revealed_records old new (g.D.Disk.crashes k.disk) k.end k.gates.items known (g.met.D.Disk.reads_stay k.disk) c.in-Ok.ensures.written

pub returns-in-Ok-clause-images : goal.returns-in-Ok-clause-images
returns-in-Ok-clause-images g c = λ kept told.
    let k = c.args.journal in
    let known = subst (IsKnown hidden (g.D.Disk.shown k.disk) (g.D.Disk.crashes k.disk) k.end k.gates.items) c.requires.settled k.known in
    let old = g.D.Disk.shown k.disk in
    let new = g.D.Disk.shown c.write_synced.new.disk in
    revealed_passes old (g.D.Disk.crashes k.disk) (g.D.Disk.crashes c.write_synced.new.disk) k.end k.gates.items known kept told c.write_synced.ensures.time

pub returns-in-Err-clause-images : goal.returns-in-Err-clause-images
returns-in-Err-clause-images g c = λ kept told.
    let k = c.args.journal in
    let known = subst (IsKnown hidden (g.D.Disk.shown k.disk) (g.D.Disk.crashes k.disk) k.end k.gates.items) c.requires.settled k.known in
    let old = g.D.Disk.shown k.disk in
    let new = g.D.Disk.shown c.write_synced.new.disk in
    revealed_passes old (g.D.Disk.crashes k.disk) (g.D.Disk.crashes c.write_synced.new.disk) k.end k.gates.items known kept told c.write_synced.ensures.time
