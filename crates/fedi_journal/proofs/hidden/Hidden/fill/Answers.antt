use Rattle.std.proofs.Common.{ℕ, ◌≡◌, List, [], ◌∷◌, ◌++◌, length, refl, take, arith, sym, ◌∙◌, ap, subst}
use Rattle.std.specs.Prelude.{None, Some, option_map}
use Rattle.fedi_outside.specs.Disks.{Elapses}
use Rattle.fedi_outside.specs.Keepers.{KeeperState}
use Rattle.fedi_outside.specs.Known.{IsKnown, records_told}
use Rattle.fedi_journal.specs.Blocks.{doubt_in}
use Rattle.fedi_outside.specs.Images.{front, kept_in}
use Rattle.fedi_journal.specs.Chains.{IsHidden, chained, hidden}
use Rattle.fedi_journal.specs.Hiding.{IsHiddenOr, IsTooLong}
use Rattle.fedi_journal.specs.Opening.{disk_after}
use Rattle.fedi_journal.proofs.HidingSteps.{elapses_more, elapses_weak, hidden_is_either, hidden_starts, if_ok, if_some, made_told, of_told, taken_more, taken_none, taken_whole, too_long, unfilled}
use Rattle.fedi_journal.proofs.KeeperSteps.{some_back}
use Rattle.fedi_journal.proofs.hidden.Hidden.fill.Goals as goal

pub records-init : goal.records-init
records-init g c =
    let file = c.args.self in
    let k = file.journal in
    let disk = g.D.Disk.shown k.disk in
    let sure = ap (λ b. doubt_in hidden.width b k.block.items) file.sure in
    let none = λ (kept : List (List ℕ)). subst (λ (l : List ℕ). records_told hidden (length l) disk ≡ option_map (λ _. take 0 kept) disk.reads) (sym file.fresh) (taken_none disk kept) in
    record {
      inside = omega arith;
      held = c.count-count.ensures;
      same = refl;
      settled = sure;
      begun = file.begun;
      outside = g.met.P.Keeper.read_none c.args.from.now;
      faults = refl;
      copied = λ kept is. none kept;
      images = λ kept is bytes told. hidden_starts disk (g.D.Disk.crashes k.disk) k.end k.gates.items (subst (IsKnown hidden disk (g.D.Disk.crashes k.disk) k.end k.gates.items) sure k.known) (take 0 kept)
          (none kept ∙ ap (option_map (λ _. take 0 kept)) told);
    }

pub records-preserved : goal.records-preserved
records-preserved g c =
    let k = c.args.self.journal in
    let reads = (g.D.Disk.shown k.disk).reads in
    let inv = c.records.invariant in
    let place = c.records.place in
    let start = g.D.Disk.crashes k.disk in
    let mid = g.D.Disk.crashes c.records.journal.disk in
    let end = g.D.Disk.crashes c.copy_record.new.journal.disk in
    record {
      inside = omega (arith, c.records-test.true);
      held = inv.held;
      same = c.in-Ok.ensures.same ∙ inv.same;
      settled = c.in-Ok.ensures.settled;
      begun = omega (arith, inv.begun, c.copy_record.ensures.end);
      outside = g.met.P.Keeper.read_both c.args.from.now c.records.from c.copy_record.new.from inv.outside c.copy_record.ensures.outside;
      faults = c.in-Ok.ensures.faults ∙ inv.faults;
      copied = λ kept is.
          let one = c.in-Ok.ensures.copied kept (ap (λ (s : KeeperState). s.records) inv.same ∙ is) in
          one.2 ∙ (ap (option_map (λ rs. rs ++ one.0 ∷ [])) (inv.copied kept is) ∙ taken_more reads kept place one.0 one.1);
      images = λ kept is bytes told. elapses_more start mid end IsHidden (inv.images kept is bytes told)
          (c.copy_record.ensures.images (take place kept) (inv.copied kept is ∙ ap (option_map (λ _. take place kept)) told));
    }

pub returns-in-Err-clause-images : goal.returns-in-Err-clause-images
returns-in-Err-clause-images g c =
    let k = c.args.self.journal in
    let reads = (g.D.Disk.shown k.disk).reads in
    let inv = c.records.invariant in
    let place = c.records.place in
    let start = g.D.Disk.crashes k.disk in
    let mid = g.D.Disk.crashes c.records.journal.disk in
    let end = g.D.Disk.crashes c.copy_record.new.journal.disk in
    rw c.into_disk.ensures.disk (λ kept is. if_some reads (Elapses start end (IsHiddenOr kept)) (λ bytes told.
    elapses_weak start end IsHidden (IsHiddenOr kept) (hidden_is_either kept)
    (elapses_more start mid end IsHidden (inv.images kept is bytes told)
    (c.copy_record.ensures.images (take place kept) (inv.copied kept is ∙ ap (option_map (λ _. take place kept)) told)))))

pub returns-clause-records : goal.returns-clause-records
returns-clause-records g c =
    let k = c.args.self.journal in
    let reads = (g.D.Disk.shown k.disk).reads in
    let inv = c.records.invariant in
    let place = c.records.place in
    let shown = g.P.Keeper.shown c.args.from.now in
    let at : place ≡ shown.held = omega (arith, inv.inside, inv.held, c.records-test.false) in
    let count : (kept : List (List ℕ)) → shown.records ≡ Some kept → shown.held ≡ length kept = λ kept is. of_told shown.records (λ (rs : List (List ℕ)). shown.held ≡ length rs) (g.met.P.Keeper.told_held c.args.from.now) kept is in
    let whole : (kept : List (List ℕ)) → shown.records ≡ Some kept → take place kept ≡ kept = λ kept is. taken_whole kept place shown.held at (count kept is) in
    if_ok c.reveal.result (λ made same kept is.
    made_told (kept_in chained (length made.gates.items)) kept (g.D.Disk.shown made.disk).reads reads
    (same ∙ (inv.copied kept is ∙ ap (λ (rs : List (List ℕ)). option_map (λ _. rs) reads) (whole kept is)))) c.reveal.ensures.records

pub returns-clause-images : goal.returns-clause-images
returns-clause-images g c = λ kept is.
    let k = c.args.self.journal in
    let reads = (g.D.Disk.shown k.disk).reads in
    let inv = c.records.invariant in
    let place = c.records.place in
    let shown = g.P.Keeper.shown c.args.from.now in
    let start = g.D.Disk.crashes k.disk in
    let mid = g.D.Disk.crashes c.records.journal.disk in
    let end = g.D.Disk.crashes (disk_after c.reveal.result) in
    let at : place ≡ shown.held = omega (arith, inv.inside, inv.held, c.records-test.false) in
    let whole = taken_whole kept place shown.held at (of_told shown.records (λ (rs : List (List ℕ)). shown.held ≡ length rs) (g.met.P.Keeper.told_held c.args.from.now) kept is) in
    if_some reads (Elapses start end (IsHiddenOr kept)) (λ bytes told.
    elapses_more start mid end (IsHiddenOr kept)
    (elapses_weak start mid IsHidden (IsHiddenOr kept) (hidden_is_either kept) (inv.images kept is bytes told))
    (subst (λ (rs : List (List ℕ)). Elapses mid end (IsHiddenOr rs)) whole
    (c.reveal.ensures.images (take place kept) (inv.copied kept is ∙ ap (option_map (λ _. take place kept)) told))))

pub returns-in-Err-clause-unfilled : goal.returns-in-Err-clause-unfilled
returns-in-Err-clause-unfilled g c =
    let inv = c.records.invariant in
    rw c.into_disk.ensures.disk (unfilled c.in-Err.fault (g.P.Keeper.shown c.args.from.now) (g.P.Keeper.shown c.records.from) (g.P.Keeper.shown c.copy_record.new.from) _ _ (g.D.Disk.shown c.args.self.journal.disk).faults inv.same inv.faults c.in-Err.ensures.faults)

pub returns-in-Err-clause-outside : goal.returns-in-Err-clause-outside
returns-in-Err-clause-outside g c =
    g.met.P.Keeper.read_both c.args.from.now c.records.from c.copy_record.new.from c.records.invariant.outside c.copy_record.ensures.outside

pub returns-in-Err-clause-full : goal.returns-in-Err-clause-full
returns-in-Err-clause-full g c = λ is_full kept is.
    let k = c.args.self.journal in
    let reads = (g.D.Disk.shown k.disk).reads in
    let inv = c.records.invariant in
    let place = c.records.place in
    let j = c.records.journal in
    let one = c.copy_record.ensures.full (rw (c.in-Err.is, is_full) refl) kept (ap (λ (s : KeeperState). s.records) inv.same ∙ is) in
    if_some reads (IsTooLong kept) (λ bytes told.
    let here = some_back (g.D.Disk.shown j.disk).reads (kept_in hidden (length j.gates.items)) (take place kept) (inv.copied kept is ∙ ap (option_map (λ _. take place kept)) told) in
    too_long kept place one.0 j.end one.1 (j.known.ends here.0 here.1 ∙ ap (λ (rs : List (List ℕ)). length (front hidden rs)) here.2) one.2)
