use Rattle.fedi_routes.proofs.Rows.{inserted, memory_alone}
use Rattle.fedi_routes.proofs.router.add.Goals as goal

pub out_of_memory-requires : goal.out_of_memory-requires
out_of_memory-requires c = memory_alone c.args.kind c.args.router.now c.insert.new.self c.in-Err.error c.requires (rw c.route.ensures at (c.in-Err.ensures))

pub returns-in-Ok : goal.returns-in-Ok
returns-in-Ok c = inserted c.args.kind c.args.router.now c.insert.new.self (rw c.route.ensures at c.in-Ok.ensures)
