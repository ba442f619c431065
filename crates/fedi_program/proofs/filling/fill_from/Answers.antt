use Rattle.std.specs.Prelude.{⊤}
use Rattle.std.proofs.Common.{ap, inl, inr, refl, sym, ◌∙◌}
use Rattle.fedi_outside.specs.Keepers.{KeeperState}
use Rattle.fedi_program.proofs.FillLemmas.{is_filled_by, not_filled}
use Rattle.fedi_program.proofs.filling.fill_from.Goals as goal

pub returns-in-Err-clause-moved : goal.returns-in-Err-clause-moved
returns-in-Err-clause-moved g c =
    let stop = c.in-Err.ensures.stopped in
    inl (c.in-Err.fault, stop.0, stop.1, c.in-Err.ensures.shown, refl, rw c.into.ensures at c.report_store.ensures)

pub returns-in-Ok-fill-clause-moved : goal.returns-in-Ok-fill-clause-moved
returns-in-Ok-fill-clause-moved g c =
    let read = c.in-Ok.ensures.read in
    let was = g.P.Keeper.shown c.args.from in
    let same = c.in-Ok.ensures.shown in
    let fills = c.in-Ok-fill.ensures in
    let filled = fills.filled in
    let text = c.as_bytes.ensures.value ∙ c.deref.ensures.0 ∙ c.moved_line-line.ensures in
    let count = c.count.ensures ∙ (ap (λ (k : KeeperState). k.held) (fills.source ∙ same) ∙ sym read.1.counted) in
    inr (
      read.0,
      c.in-Ok.ensures.some,
      read.1,
      inr (
        ap (λ (k : KeeperState). k.faults) (fills.source ∙ same),
        is_filled_by was read.0 (g.met.P.Keeper.told_held c.args.from) read.1 _ _ _ (ap (λ (k : KeeperState). k.records) same) filled.none filled.all filled.home filled.cause,
        rw (text, count) at c.print.ensures,
      ),
    )

pub returns-in-Ok-fill-clause-outside : goal.returns-in-Ok-fill-clause-outside
returns-in-Ok-fill-clause-outside g c = g.met.P.Keeper.read_both c.args.from c.in-Ok.from c.fill.new.from c.in-Ok.ensures.outside c.fill.ensures.outside

pub returns-in-Err-fill-clause-moved : goal.returns-in-Err-fill-clause-moved
returns-in-Err-fill-clause-moved g c =
    let read = c.in-Ok.ensures.read in
    let same = ap (λ (k : KeeperState). k.faults) c.in-Ok.ensures.shown in
    let fills = c.in-Err-fill.ensures in
    let filled = fills.filled in
    inr (
      read.0,
      c.in-Ok.ensures.some,
      read.1,
      inl (c.in-Err-fill.fault, not_filled ⊤ c.in-Err-fill.fault _ _ _ _ _ same filled.unchanged filled.exists fills.source filled.home filled.cause, c.report_unfilled.ensures),
    )

pub returns-in-Err-fill-clause-outside : goal.returns-in-Err-fill-clause-outside
returns-in-Err-fill-clause-outside g c = g.met.P.Keeper.read_both c.args.from c.in-Ok.from c.fill.new.from c.in-Ok.ensures.outside c.fill.ensures.outside
