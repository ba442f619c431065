use Rattle.std.proofs.Common.{◌≡◌, drop, true}
use Rattle.fedi_routes.proofs.Rows.{are_free}
use Rattle.fedi_routes.specs.Table as table
use Rattle.fedi_routes.proofs.router.Routes.new.Given as goal

abbrev pub invariant-loop-kind : goal.invariant-loop-kind
invariant-loop-kind l = record {
  whole : table.added (drop l.kind-index l.kind-items) l.router ≡ table.rows;
  free : are_free (drop l.kind-index l.kind-items) l.router ≡ true;
}
