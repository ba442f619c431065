use Rattle.std.proofs.Common.{ℕ, ◌+◌, ◌≡◌, ◌++◌, [], ◌∷◌, drop, take, List, true, refl, sym, ◌∙◌, ap, subst, arith}
use Rattle.fedi_outside.specs.Disks.{DiskState}
use Rattle.fedi_outside.specs.Known.{are_apart}
use Rattle.fedi_outside.specs.Opening.{IsDamagedAt}
use Rattle.fedi_outside.proofs.Gates.{apart_push}
use Rattle.fedi_outside.proofs.Untouched.{elapses_on, nothing_elapses}
use Rattle.fedi_journal.specs.Finding.{IsGate, IsInside, IsScanned}
use Rattle.fedi_journal.specs.Seals.{IsFollowed}
use Rattle.fedi_journal.specs.declared.finding.Gate.TheVariants.{Open}
use Rattle.fedi_journal.proofs.FindingSteps.{scan_goes_on, scan_sealed, scan_starts, scan_unsealed}
use Rattle.fedi_journal.proofs.finding.scan.Goals as goal

pub records-init : goal.records-init
records-init g c = record {
  inside = c.requires.long;
  apart = subst (λ (l : List ℕ). are_apart (9 + g.S.Seal.format.width) l 8 ≡ true) (sym c.new-gates.ensures.items) refl;
  shown = refl;
  time = nothing_elapses (g.D.Disk.crashes c.args.disk.now);
  scanned = λ bytes is. subst (λ (l : List ℕ). IsScanned g.S.Seal.format g.S.Seal.after l 8 c.start-seal.result bytes) (sym c.new-gates.ensures.items)
      (scan_starts g.S.Seal.format g.met.S.Seal.is_format g.S.Seal.after c.start-seal.result bytes c.start-seal.ensures (c.requires.magic bytes is));
}

pub returns-in-Closed-clause-sealed : goal.returns-in-Closed-clause-sealed
returns-in-Closed-clause-sealed g c = λ bytes is.
    scan_sealed g.S.Seal.format g.met.S.Seal.is_format g.S.Seal.after c.records.seal c.records.gates.items bytes c.records.gate (c.records.invariant.scanned bytes is)

pub returns-in-None-clause-damaged : goal.returns-in-None-clause-damaged
returns-in-None-clause-damaged g c = λ place err bytes is.
    let gate = c.records.gate in
    let size = c.in-Open.length in
    let width = c.width-width.ensures.width in
    let here : gate ≡ place = cc err in
    let inside = subst (IsInside c.width-width.result gate c.args.size) c.in-Open.is c.in_ok-look.ensures.inside in
    let same = ap (λ (d : DiskState). d.reads) c.records.invariant.shown ∙ is in
    let found = subst (IsGate c.width-width.result (drop gate bytes)) c.in-Open.is (c.in_ok-look.ensures.found bytes same) in
    let is_open = subst (λ (n : ℕ). IsGate n (drop gate bytes) (Open size)) width found in
    subst (λ (p : ℕ). IsDamagedAt g.S.Seal.format p bytes) here
    (scan_unsealed g.S.Seal.format g.met.S.Seal.is_format g.S.Seal.after c.records.seal c.records.gates.items bytes gate size (omega (arith, inside)) (c.records.invariant.scanned bytes is) is_open
    (λ rs own. subst (IsFollowed g.S.Seal.format g.S.Seal.after rs (take size (drop (gate + 9) bytes)) (drop (gate + 9 + size) bytes)) c.in-None.is
    (c.in_ok-next-in-Open.ensures.found rs bytes own (ap (λ (d : DiskState). d.reads) c.in_ok-look.ensures.shown ∙ same))))

pub records-preserved : goal.records-preserved
records-preserved g c =
    let gate = c.records.gate in
    let size = c.in-Open.length in
    let width = c.width-width.ensures.width in
    let inside = subst (IsInside c.width-width.result gate c.args.size) c.in-Open.is c.in_ok-look.ensures.inside in
    let pushed = c.in_ok-push-in-Some.ensures.items in
    let next = gate + (9 + c.width-width.result + size) in
    record {
      inside = inside;
      apart = subst (λ (l : List ℕ). are_apart (9 + g.S.Seal.format.width) l next ≡ true) (sym pushed) (apart_push (9 + g.S.Seal.format.width) c.records.gates.items gate next c.records.invariant.apart (omega (arith, width)));
      shown = c.in_ok-next-in-Open.ensures.shown ∙ (c.in_ok-look.ensures.shown ∙ c.records.invariant.shown);
      time = elapses_on (g.D.Disk.crashes c.args.disk.now) (g.D.Disk.crashes c.look.new.disk) (g.D.Disk.crashes c.follow.new.disk)
          (elapses_on (g.D.Disk.crashes c.args.disk.now) (g.D.Disk.crashes c.records.disk) (g.D.Disk.crashes c.look.new.disk) c.records.invariant.time c.look.ensures.time) c.follow.ensures.time;
      scanned = λ bytes is.
          let same = ap (λ (d : DiskState). d.reads) c.records.invariant.shown ∙ is in
          let found = subst (IsGate c.width-width.result (drop gate bytes)) c.in-Open.is (c.in_ok-look.ensures.found bytes same) in
          let is_open = subst (λ (n : ℕ). IsGate n (drop gate bytes) (Open size)) width found in
          subst (λ (l : List ℕ). IsScanned g.S.Seal.format g.S.Seal.after l next c.in-Some.next bytes) (sym pushed)
          (subst (λ (n : ℕ). IsScanned g.S.Seal.format g.S.Seal.after (c.records.gates.items ++ gate ∷ []) (gate + (9 + n + size)) c.in-Some.next bytes) (sym width)
          (scan_goes_on g.S.Seal.format g.met.S.Seal.is_format g.S.Seal.after c.records.seal c.in-Some.next c.records.gates.items bytes gate size (omega (arith, inside)) (c.records.invariant.scanned bytes is) is_open
          (λ rs own. subst (IsFollowed g.S.Seal.format g.S.Seal.after rs (take size (drop (gate + 9) bytes)) (drop (gate + 9 + size) bytes)) c.in-Some.is
          (c.in_ok-next-in-Open.ensures.found rs bytes own (ap (λ (d : DiskState). d.reads) c.in_ok-look.ensures.shown ∙ same)))));
    }
