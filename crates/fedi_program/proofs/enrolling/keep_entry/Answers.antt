use Rattle.std.proofs.Common.{None, refl}
use Rattle.fedi_core.specs.declared.keeping.KeepFault.TheVariants as faults
use Rattle.fedi_log.specs.Keeping.{base_of, state_of}
use Rattle.fedi_log.specs.Log.{Full, Kept, NoEntry}
use Rattle.fedi_logged.specs.Turns.{standing_by}
use Rattle.fedi_logged.proofs.Crashing.{survives_turn}
use Rattle.fedi_program.proofs.MemberLemmas.{broken_unmade, settles, settling_survives, unmoved}
use Rattle.fedi_logged.proofs.Turning.{full_turn_by, kept_turn, memory_turn_by, unkept_by}
use Rattle.fedi_program.proofs.enrolling.keep_entry.Goals as goal

pub returns-in-Err-clause-unmade : goal.returns-in-Err-clause-unmade
returns-in-Err-clause-unmade g c =
    broken_unmade g.P.Keeper.room (state_of c.args.core.now.history (g.P.Keeper.shown c.args.core.now.keeper)) c.args.entry c.in-Err.fault c.requires.command
    (rw c.facts.ensures.town at c.in-Err.ensures)

pub returns-in-Err-clause-crashes : goal.returns-in-Err-clause-crashes
returns-in-Err-clause-crashes g c =
    unmoved g.P.Keeper.growth g.P.Keeper.room (state_of c.args.core.now.history (g.P.Keeper.shown c.args.core.now.keeper)) _ (g.met.P.Keeper.crash_now c.args.core.now.keeper)

pub returns-in_default-line-clause-crashes : goal.returns-in_default-line-clause-crashes
returns-in_default-line-clause-crashes g c =
    unmoved g.P.Keeper.growth g.P.Keeper.room (state_of c.args.core.now.history (g.P.Keeper.shown c.args.core.now.keeper)) _ (g.met.P.Keeper.crash_now c.args.core.now.keeper)

pub returns-in-Ok-keep-clause-crashes : goal.returns-in-Ok-keep-clause-crashes
returns-in-Ok-keep-clause-crashes g c =
    let opened = state_of c.args.core.now.history (g.P.Keeper.shown c.args.core.now.keeper) in
    let was = standing_by g.P.Keeper.shown g.P.Keeper.crashes c.args.core.now in
    let is = standing_by g.P.Keeper.shown g.P.Keeper.crashes c.keep.new.self in
    let k = c.in-Ok-keep.ensures.keeps in
    survives_turn (base_of g.P.Keeper.growth g.P.Keeper.room opened) None was is refl refl (g.met.P.Keeper.crash_now c.args.core.now.keeper)
    (Kept c.args.entry, kept_turn g.P.Keeper.growth g.P.Keeper.room was is c.args.entry k.kept k.time)

pub returns-in-Full-clause-crashes : goal.returns-in-Full-clause-crashes
returns-in-Full-clause-crashes g c =
    let x = c.in-Err-keep.ensures.keeps in
    let opened = state_of c.args.core.now.history (g.P.Keeper.shown c.args.core.now.keeper) in
    let was = standing_by g.P.Keeper.shown g.P.Keeper.crashes c.args.core.now in
    let is = standing_by g.P.Keeper.shown g.P.Keeper.crashes c.keep.new.self in
    survives_turn (base_of g.P.Keeper.growth g.P.Keeper.room opened) None was is refl refl (g.met.P.Keeper.crash_now c.args.core.now.keeper)
    (Full c.args.entry, full_turn_by g.P.Keeper.growth g.P.Keeper.room was is c.args.entry c.in-Err-keep.field-0.fault c.in-Full.is x.same x.refused x.time_refused)

pub returns-clause-crashes : goal.returns-clause-crashes
returns-clause-crashes g c =
    let x = c.in-Err-keep.ensures.keeps in
    let opened = state_of c.args.core.now.history (g.P.Keeper.shown c.args.core.now.keeper) in
    let was = standing_by g.P.Keeper.shown g.P.Keeper.crashes c.args.core.now in
    let is = standing_by g.P.Keeper.shown g.P.Keeper.crashes c.keep.new.self in
    survives_turn (base_of g.P.Keeper.growth g.P.Keeper.room opened) None was is refl refl (g.met.P.Keeper.crash_now c.args.core.now.keeper)
    (NoEntry, memory_turn_by g.P.Keeper.growth g.P.Keeper.room was is c.args.entry c.in-Err-keep.field-0.fault c.in-Memory.is x.same x.refused x.time_refused)

pub returns-in-Failed-clause-unmade : goal.returns-in-Failed-clause-unmade
returns-in-Failed-clause-unmade g c =
    let x = c.in-Err-keep.ensures.keeps in
    let was = standing_by g.P.Keeper.shown g.P.Keeper.crashes c.args.core.now in
    let refused = standing_by g.P.Keeper.shown g.P.Keeper.crashes c.keep.new.self in
    let after = state_of c.settle.new.self.history (g.P.Keeper.shown c.settle.new.self.keeper) in
    let failed = unkept_by g.P.Keeper.room was refused c.args.entry c.in-Err-keep.field-0.fault faults.Failed c.in-Failed.is (x.refused, x.time_refused) in (
      refused.state,
      x.same,
      (rw c.facts.ensures.town at c.in_default.ensures, failed.0),
      settles refused.state after c.settle.result c.settle.ensures.history c.settle.ensures.settled c.settle.ensures.refused,
    )

pub returns-in-Failed-clause-crashes : goal.returns-in-Failed-clause-crashes
returns-in-Failed-clause-crashes g c =
    let x = c.in-Err-keep.ensures.keeps in
    let opened = state_of c.args.core.now.history (g.P.Keeper.shown c.args.core.now.keeper) in
    let was = standing_by g.P.Keeper.shown g.P.Keeper.crashes c.args.core.now in
    let refused = standing_by g.P.Keeper.shown g.P.Keeper.crashes c.keep.new.self in
    let is = standing_by g.P.Keeper.shown g.P.Keeper.crashes c.settle.new.self in
    settling_survives (base_of g.P.Keeper.growth g.P.Keeper.room opened) g.P.Keeper.room was refused is c.args.entry c.settle.result refl refl
    (g.met.P.Keeper.crash_now c.args.core.now.keeper) x.same (x.next c.in-Failed.is)
    (unkept_by g.P.Keeper.room was refused c.args.entry c.in-Err-keep.field-0.fault faults.Failed c.in-Failed.is (x.refused, x.time_refused))
    c.settle.ensures.history c.settle.ensures.settled c.settle.ensures.refused c.settle.ensures.time
