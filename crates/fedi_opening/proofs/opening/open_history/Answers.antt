use Rattle.std.proofs.Common.{rules, ℕ, ◌+◌, ◌<◌, ◌≡◌, ◌∙◌, refl, sym, subst}
use Rattle.fedi_outside.specs.Keepers.{KeeperState, PassesTime}
use Rattle.fedi_opening.specs.Opening.{IsRead}
use Rattle.fedi_opening.proofs.Records.{read_all, read_none}
use Rattle.fedi_opening.proofs.Times.{more_time, no_time}
use Rattle.fedi_opening.proofs.opening.open_history.Goals as goal

pub loop-place-init : goal.loop-place-init
loop-place-init g c =
    let keeper = c.args.keeper.now in
    record {
      shown = refl;
      outside = g.met.P.Keeper.read_none keeper;
      time = no_time (g.P.Keeper.shown keeper) (g.P.Keeper.crashes keeper) (g.met.P.Keeper.crash_now keeper);
      read = read_none (g.P.Keeper.shown keeper).records (g.S.Shelf.holding c.args.shelf.now).history c.requires.empty;
    }

pub open_record-requires-clause-read : goal.open_record-requires-clause-read
open_record-requires-clause-read g c =
    let held = c.loop-place.invariant in
    subst (λ (k : KeeperState). IsRead k.records c.loop-place.place (g.S.Shelf.holding c.loop-place.shelf).history) (sym held.shown) held.read

pub loop-place-preserved : goal.loop-place-preserved
loop-place-preserved g c =
    let held = c.loop-place.invariant in
    let first = g.P.Keeper.shown c.args.keeper.now in
    let crashes = g.P.Keeper.crashes in
    let before = c.loop-place.keeper in
    let after = c.open_record.new.keeper in
    record {
      shown = c.in_ok-open_record.ensures.shown ∙ held.shown;
      outside = g.met.P.Keeper.read_both c.args.keeper.now before after held.outside c.open_record.ensures.outside;
      time = more_time first.records first.doubt (crashes c.args.keeper.now) (crashes before) (crashes after) held.time
          (subst (λ (k : KeeperState). PassesTime k.records k.doubt (crashes before) (crashes after)) held.shown c.open_record.ensures.time);
      read = subst (λ (k : KeeperState). IsRead k.records (c.loop-place.place + 1) (g.S.Shelf.holding c.open_record.new.shelf).history) held.shown c.in_ok-open_record.ensures.read;
    }

pub returns-clause-records : goal.returns-clause-records
returns-clause-records g c =
    let first = g.P.Keeper.shown c.args.keeper.now in
    let history = (g.S.Shelf.holding c.loop-place.shelf).history in
    let last : c.loop-place.place ≡ first.held = search rules in
    let read : IsRead first.records first.held history = subst (λ (n : ℕ). IsRead first.records n history) last c.loop-place.invariant.read in
    read_all first.records first.held history (g.met.P.Keeper.told_held c.args.keeper.now) read
