use Rattle.std.proofs.Common.{refl, ap, arith, subst, sym, ◌+◌, ◌∙◌}
use Rattle.sqlite.specs.Held.{state}
use Rattle.fedi_outside.specs.Keepers.{KeeperState}
use Rattle.fedi_sqlite.proofs.FillingSteps.{HasCopied, copied_next, copied_none, copied_whole}
use Rattle.fedi_sqlite.proofs.filling.copy_rows.Goals as goal

pub records-init : goal.records-init
records-init g c = record {
  inside = omega arith;
  held = c.count-count.ensures;
  same_reference = refl;
  same = refl;
  outside = g.met.P.Keeper.read_none c.args.from.now;
  copied = λ steady kept adding. copied_none (g.P.Keeper.shown c.args.from.now).records kept (state g.S.Store c.args.within.now.conn.now) adding;
}

pub copy_row-requires-clause-inside : goal.copy_row-requires-clause-inside
copy_row-requires-clause-inside g c = omega (arith, c.records.invariant.held, ap (λ (s : KeeperState). s.held) c.records.invariant.same, c.records-test.true)

pub copy_row-requires-clause-bound : goal.copy_row-requires-clause-bound
copy_row-requires-clause-bound g c = omega (arith, c.records.invariant.held, c.requires, c.records-test.true)

pub records-preserved : goal.records-preserved
records-preserved g c =
    let inv = c.records.invariant in
    let place = c.records.place in
    let here = (g.P.Keeper.shown c.records.from).records in
    let from = (g.P.Keeper.shown c.args.from.now).records in
    let same = ap (λ (s : KeeperState). s.records) inv.same in
    let old = state g.S.Store c.records.within.conn.now in
    let new = state g.S.Store c.copy_row.new.within.conn.now in record {
      inside = omega (arith, c.records-test.true);
      held = inv.held;
      same_reference = c.copy_row.ensures.same_reference ∙ inv.same_reference;
      same = c.in-Ok.ensures.source ∙ inv.same;
      outside = g.met.P.Keeper.read_both c.args.from.now c.records.from c.copy_row.new.from inv.outside c.copy_row.ensures.outside;
      copied = λ steady kept adding.
          subst (λ f. HasCopied f kept new (place + 1)) same
          (copied_next here kept old new place (subst (λ f. HasCopied f kept old place) (sym same) (inv.copied steady kept adding)) (λ records so_far at. c.in-Ok.ensures.copied steady kept records so_far at));
    }

pub returns-in-Err-clause-copied : goal.returns-in-Err-clause-copied
returns-in-Err-clause-copied g c steady kept adding =
    let so_far = c.records.invariant.copied steady kept adding in
    c.in-Err.ensures.copied steady kept so_far.0 so_far.1 (sym so_far.2)

pub returns-in-Err-clause-outside : goal.returns-in-Err-clause-outside
returns-in-Err-clause-outside g c = g.met.P.Keeper.read_both c.args.from.now c.records.from c.copy_row.new.from c.records.invariant.outside c.copy_row.ensures.outside

pub returns-clause-copied : goal.returns-clause-copied
returns-clause-copied g c steady kept adding =
    let inv = c.records.invariant in
    let shown = g.P.Keeper.shown c.args.from.now in
    copied_whole shown.records kept (state g.S.Store c.records.within.conn.now) c.records.place shown.held (omega (arith, inv.held, c.records-test.false)) (g.met.P.Keeper.told_held c.args.from.now) (inv.copied steady kept adding)
