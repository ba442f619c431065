use Rattle.std.proofs.Common.{◌≡◌, List, ℕ, Some, inl, inr, refl, sym, ap, ◌∙◌}
use Rattle.fedi_journal.specs.Making.{blank}
use Rattle.fedi_journal.specs.Chains.{hidden}
use Rattle.fedi_outside.specs.Disks.{spliced}
use Rattle.fedi_outside.specs.Keepers.{KeeperState}
use Rattle.fedi_program.proofs.FillLemmas.{opening_keeps}
use Rattle.fedi_program.proofs.MigratingLemmas.{fills_from, if_known, is_filled, too_long_from}
use Rattle.fedi_program.proofs.migrating.move_records.Goals as goal

pub returns-in-Err-clause-moved : goal.returns-in-Err-clause-moved
returns-in-Err-clause-moved g c =
    let stop = c.in-Err.ensures.stopped in
    inl (c.in-Err.fault, stop.0, stop.1, c.in-Err.ensures.shown, refl, rw c.into.ensures at c.report_store.ensures)

pub returns-in-Err-hide-clause-moved : goal.returns-in-Err-hide-clause-moved
returns-in-Err-hide-clause-moved g c =
    let read = c.in-Ok.ensures.read in
    let same = ap (λ (k : KeeperState). k.faults) c.in-Ok.ensures.shown in
    let back = c.in-Err-hide.ensures in
    inr (read.0, c.in-Ok.ensures.some, read.1, inl (same, (c.in-Err-hide.fault, back.unhidden, back.stays, back.torn, rw c.into-in-Err-hide.ensures at c.report_making.ensures)))

pub returns-in-Err-hide-clause-outside : goal.returns-in-Err-hide-clause-outside
returns-in-Err-hide-clause-outside g c = c.in-Ok.ensures.outside

pub returns-in-Ok-fill-clause-moved : goal.returns-in-Ok-fill-clause-moved
returns-in-Ok-fill-clause-moved g c =
    let read = c.in-Ok.ensures.read in
    let was = g.P.Keeper.shown c.args.from in
    let counted = g.met.P.Keeper.told_held c.args.from in
    let same = c.in-Ok.ensures.shown in
    let file = c.in-Ok-hide.hidden in
    let hides = c.in-Ok-hide.ensures in
    let fills = c.in-Ok-fill.ensures in
    let begun = file.journal.disk in
    let made = c.in-Ok-fill.journal in
    let after = c.into_disk.result in
    let known = λ (kept : List (List ℕ)) (is : was.records ≡ Some kept). ap (λ (k : KeeperState). k.records) same ∙ is in
    let filled = is_filled was read.0 counted read.1 _ _ (g.D.Disk.shown after) (g.D.Disk.crashes after) c.in-Ok.ensures.some
    (λ kept is. rw c.into_disk.ensures.disk (fills.records kept (known kept is))) fills.settled c.into_disk.ensures.images (g.met.D.Disk.reads_stay after) in
    let along = fills_from was read.0 counted read.1 (g.D.Disk.shown c.args.second) (g.D.Disk.shown begun) (g.D.Disk.crashes c.args.second) (g.D.Disk.crashes begun) (g.D.Disk.crashes after)
    (spliced 0 (blank hidden)) hides.written hides.time hides.images (g.met.D.Disk.only_now begun) (λ kept is. rw c.into_disk.ensures.disk (c.in-Ok-fill.ensures.images kept (known kept is))) in
    let text = c.as_bytes.ensures.value ∙ c.deref.ensures.0 ∙ c.moved_line-line.ensures in
    let count = c.count.ensures ∙ (ap (λ (k : KeeperState). k.held) (fills.calm.0 ∙ same) ∙ sym read.1.counted) in
    let printed = rw (text, count) at c.print.ensures in
    inr (
      read.0,
      c.in-Ok.ensures.some,
      read.1,
      inr (
        if_known (g.D.Disk.shown c.args.second).reads hides.fresh,
        along,
        inr (
          ap (λ (k : KeeperState). k.faults) (fills.calm.0 ∙ same),
          rw c.into_disk.ensures.disk (fills.calm.1 ∙ hides.faults),
          filled,
          printed,
        ),
      ),
    )

pub returns-in-Ok-fill-clause-outside : goal.returns-in-Ok-fill-clause-outside
returns-in-Ok-fill-clause-outside g c = g.met.P.Keeper.read_both c.args.from c.in-Ok.from c.fill.new.from c.in-Ok.ensures.outside c.fill.ensures.outside

pub returns-in-Err-fill-clause-moved : goal.returns-in-Err-fill-clause-moved
returns-in-Err-fill-clause-moved g c =
    let read = c.in-Ok.ensures.read in
    let was = g.P.Keeper.shown c.args.from in
    let counted = g.met.P.Keeper.told_held c.args.from in
    let same = c.in-Ok.ensures.shown in
    let file = c.in-Ok-hide.hidden in
    let hides = c.in-Ok-hide.ensures in
    let back = c.in-Err-fill.ensures in
    let begun = file.journal.disk in
    let after = c.in-Err-fill.second in
    let known = λ (kept : List (List ℕ)) (is : was.records ≡ Some kept). ap (λ (k : KeeperState). k.records) same ∙ is in
    let along = fills_from was read.0 counted read.1 (g.D.Disk.shown c.args.second) (g.D.Disk.shown begun) (g.D.Disk.crashes c.args.second) (g.D.Disk.crashes begun) (g.D.Disk.crashes after)
    (spliced 0 (blank hidden)) hides.written hides.time hides.images (g.met.D.Disk.only_now begun) (λ kept is. c.in-Err-fill.ensures.images kept (known kept is)) in
    inr (
      read.0,
      c.in-Ok.ensures.some,
      read.1,
      inr (
        if_known (g.D.Disk.shown c.args.second).reads hides.fresh,
        along,
        inl (
          c.in-Err-fill.fault,
          rw (ap (λ (k : KeeperState). k.faults) same, hides.faults) at back.unfilled,
          (λ is_full. too_long_from was read.0 counted read.1 (g.D.Disk.shown c.args.second) (g.D.Disk.shown begun) (spliced 0 (blank hidden)) hides.written (λ kept is. back.full is_full kept (known kept is))),
          c.report_filling.ensures,
        ),
      ),
    )

pub returns-in-Err-fill-clause-outside : goal.returns-in-Err-fill-clause-outside
returns-in-Err-fill-clause-outside g c = g.met.P.Keeper.read_both c.args.from c.in-Ok.from c.fill.new.from c.in-Ok.ensures.outside c.fill.ensures.outside

pub returns-in-Err-clause-kept : goal.returns-in-Err-clause-kept
returns-in-Err-clause-kept g c = opening_keeps c.in-Err.fault (g.P.Keeper.shown c.args.from) _ c.in-Err.ensures.shown

pub returns-in-Err-hide-clause-kept : goal.returns-in-Err-hide-clause-kept
returns-in-Err-hide-clause-kept g c = ap (λ (k : KeeperState). k.records) c.in-Ok.ensures.shown

pub returns-in-Ok-fill-clause-kept : goal.returns-in-Ok-fill-clause-kept
returns-in-Ok-fill-clause-kept g c = ap (λ (k : KeeperState). k.records) (c.in-Ok-fill.ensures.calm.0 ∙ c.in-Ok.ensures.shown)

pub returns-in-Err-fill-clause-kept : goal.returns-in-Err-fill-clause-kept
returns-in-Err-fill-clause-kept g c = c.fill.ensures.source ∙ ap (λ (k : KeeperState). k.records) c.in-Ok.ensures.shown
