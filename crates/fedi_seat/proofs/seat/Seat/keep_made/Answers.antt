use Rattle.std.proofs.Common.{rules, ◌≡◌, IfSome, None, Option, Some, subst}
use Rattle.fedi_core.specs.Keeping.{MayAdd}
use Rattle.fedi_core.specs.declared.keeping.KeepFault.TheVariants as faults
use Rattle.fedi_entry.specs.Codes.{code_of}
use Rattle.fedi_objects.specs.declared.entry.Entry.{Entry}
use Rattle.fedi_town.specs.Histories.{town}
use Rattle.fedi_seat.specs.Seats.{IsUntried}
use Rattle.fedi_seat.proofs.Serving.{became_full, became_kept, became_nothing, kept_by, never_fails, none_kept, one_kept, stays_by}
use Rattle.fedi_seat.proofs.seat.Seat.keep_made.Goals as goal

pub returns-in_default-clause-kept : goal.returns-in_default-clause-kept
returns-in_default-clause-kept g c =
    let z = c.in_default.is in
    let none : c.args.made ≡ None = cc in
    became_nothing g.P.Keeper c.args.made c.args.self.now none

pub keep-requires-clause-may_add : goal.keep-requires-clause-may_add
keep-requires-clause-may_add g c =
    let z = c.in-Some.is in
    let some : c.args.made ≡ Some c.in-Some.entry = cc in
    subst (λ (o : Option Entry). IfSome o (MayAdd (town c.args.self.now.core.history))) some
    c.requires.may_add

pub keep-requires-clause-untried : goal.keep-requires-clause-untried
keep-requires-clause-untried g c =
    let z = c.in-Some.is in
    let some : c.args.made ≡ Some c.in-Some.entry = cc in
    subst (λ (o : Option Entry). IfSome o IsUntried) some c.requires.untried

pub unreachable-requires : goal.unreachable-requires
unreachable-requires g c =
    never_fails (code_of c.in-Some.entry) (g.P.Keeper.shown c.args.self.now.core.keeper)
    (g.P.Keeper.shown c.keep.new.self.core.keeper) (g.met.P.Calm.faultless c.args.self.now.core.keeper)
    (g.met.P.Calm.faultless c.keep.new.self.core.keeper)
    (kept_by g.P.Keeper.room (code_of c.in-Some.entry) c.in-Err.fault faults.Failed _ _
    c.in-Failed.is c.in-Err.ensures.keeps.refused).1

pub unreachable-unreachable : goal.unreachable-unreachable
unreachable-unreachable g c = search rules

pub returns-in-Ok-clause-kept : goal.returns-in-Ok-clause-kept
returns-in-Ok-clause-kept g c =
    let z = c.in-Some.is in
    let some : c.args.made ≡ Some c.in-Some.entry = cc in
    became_kept g.P.Keeper c.args.made c.in-Some.entry c.args.self.now c.keep.new.self some
    (one_kept g.P.Keeper c.in-Some.entry c.args.self.now c.keep.new.self
    c.in-Ok.ensures.keeps.kept c.in-Ok.ensures.log)

pub returns-in-Full-clause-kept : goal.returns-in-Full-clause-kept
returns-in-Full-clause-kept g c =
    let z = c.in-Some.is in
    let some : c.args.made ≡ Some c.in-Some.entry = cc in
    became_full g.P.Keeper c.args.made c.in-Some.entry c.args.self.now c.keep.new.self some
    (none_kept g.P.Keeper c.in-Some.entry c.args.self.now c.keep.new.self
    (kept_by g.P.Keeper.room (code_of c.in-Some.entry) c.in-Err.fault faults.Full _ _
    c.in-Full.is c.in-Err.ensures.keeps.refused)
    c.in-Err.ensures.keeps.same c.in-Err.ensures.same)

pub returns-in-Memory-clause-lacking : goal.returns-in-Memory-clause-lacking
returns-in-Memory-clause-lacking g c =
    stays_by g.P.Keeper c.args.self.now c.keep.new.self
    (kept_by g.P.Keeper.room (code_of c.in-Some.entry) c.in-Err.fault faults.Memory _ _
    c.in-Memory.is c.in-Err.ensures.keeps.refused)
    c.in-Err.ensures.keeps.same c.in-Err.ensures.same
