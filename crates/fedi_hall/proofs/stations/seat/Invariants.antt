use Rattle.std.proofs.Common.{◌≡◌, ◌≤◌, ◌+◌, ◌++◌, map, reverse, vec_capacity, vec_len}
use Rattle.fedi_hall.specs.Stations.{bench_of, pass_of}
use Rattle.fedi_hall.proofs.stations.seat.Given as goal

abbrev pub invariant-loop-bench : goal.invariant-loop-bench
invariant-loop-bench g l = record {
  passes : l.fn.passes.items ≡ l.passes.items ++ reverse (map pass_of l.stations.items);
  benches : l.fn.benches.items ≡ l.benches.items ++ reverse (map bench_of l.stations.items);
  same : vec_len l.passes ≡ vec_len l.benches;
  many : vec_len l.stations + vec_len l.benches ≡ vec_len l.fn.benches;
  room : vec_len l.stations + vec_len l.benches ≤ vec_capacity l.stations;
}

abbrev pub decreases-loop-bench : goal.decreases-loop-bench
decreases-loop-bench g l = vec_len l.benches
