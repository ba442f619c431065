use Rattle.std.proofs.Common.{◌≡◌, ◌++◌, map, filter}
use Rattle.form_urlencoded.specs.Parse.{raw_pairs_left}
use Rattle.fedi_model.specs.Queries.{has_key, value_of, values_of}
use Rattle.fedi_routes.proofs.queries.values_of.Given as goal

abbrev pub invariant-loop-name : goal.invariant-loop-name
invariant-loop-name l = l.values ++ map value_of (filter (has_key l.key) (raw_pairs_left l.name-iterator)) ≡ values_of l.key l.query
