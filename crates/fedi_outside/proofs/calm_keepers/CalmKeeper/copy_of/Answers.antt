use Rattle.std.proofs.Common.{◌∷◌, [], ◌++◌, Ok, ap, arith, ◌∙◌}
use Rattle.fedi_outside.specs.Keepers.{KeeperState}
use Rattle.fedi_outside.proofs.Copying.{copied_all, copied_more, found_at}
use Rattle.fedi_outside.proofs.calm_keepers.CalmKeeper.copy_of.Goals as goal

pub records-preserved : goal.records-preserved
records-preserved g c =
    let inv = c.records.invariant in
    let place = c.records.place in
    let at = g.P.Keeper.shown c.records.from in
    let bytes = c.in-Some.bytes in record {
      inside = omega (arith, c.records-test.true);
      held = inv.held;
      same = c.in_ok-bytes.ensures.shown ∙ inv.same;
      outside = g.met.P.Keeper.read_both c.args.from.now c.records.from c.load.new.self inv.outside c.load.ensures.outside;
      copied = λ kept is.
          let found = found_at at.records c.load.result bytes place kept (ap (λ (s : KeeperState). s.records) inv.same ∙ is) c.load.ensures.found (c.in_ok-bytes.was ∙ ap Ok c.in-Some.is) in
          c.push_reserved.ensures.items ∙ ap (λ rs. rs ++ bytes.items ∷ []) (c.in_ok-reserve.ensures.items ∙ inv.copied kept is) ∙ copied_more kept place bytes.items found;
    }

pub returns-clause-records : goal.returns-clause-records
returns-clause-records g c =
    let inv = c.records.invariant in
    let shown = g.P.Keeper.shown c.args.from.now in
    copied_all shown.records c.records.records.items c.records.place shown.held (omega (arith, inv.held, c.records-test.false)) (g.met.P.Keeper.told_held c.args.from.now) inv.copied
