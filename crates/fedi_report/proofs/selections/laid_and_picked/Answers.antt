use Rattle.std.specs.Prelude.{⊤}
use Rattle.fedi_report.proofs.Selecting.{counted_after, found_after, if_some, laid_after, none_laid, none_laid_counted}
use Rattle.fedi_report.proofs.selections.laid_and_picked.Goals as goal

pub returns-in-Ok-clause-found : goal.returns-in-Ok-clause-found
returns-in-Ok-clause-found g c = found_after c.args.actor.now c.args.kind.now c.args.rows.now _ _ _ c.pick.result c.in-Ok.ensures c.pick.ensures.after c.pick.ensures.found

pub returns-in-Ok-clause-laid : goal.returns-in-Ok-clause-laid
returns-in-Ok-clause-laid g c = laid_after c.args.rows.now _ _ _ c.pick.result c.in-Ok.ensures c.pick.ensures.after

pub returns-in-Ok-clause-faults : goal.returns-in-Ok-clause-faults
returns-in-Ok-clause-faults g c = counted_after c.args.rows.now _ _ _ c.pick.result c.in-Ok.ensures c.pick.ensures.after

pub returns-in-Err-clause-found : goal.returns-in-Err-clause-found
returns-in-Err-clause-found g c = if_some _ tt

pub returns-in-Err-clause-laid : goal.returns-in-Err-clause-laid
returns-in-Err-clause-laid g c = none_laid _ c.args.rows.now _ _ c.in-Err.fault c.in-Err.ensures

pub returns-in-Err-clause-faults : goal.returns-in-Err-clause-faults
returns-in-Err-clause-faults g c = none_laid_counted ⊤ _ _ c.in-Err.fault c.in-Err.ensures
