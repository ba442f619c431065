use Rattle.std.proofs.Common.{◌≡◌, ◌≤◌, ◌+◌, ◌++◌, map, reverse, vec_capacity, vec_len}
use Rattle.std.specs.List.{fold}
use Rattle.fedi_hall.specs.Stations.{bench_of, end_of, ends_of, pass_of}
use Rattle.fedi_hall.specs.Works.{both}
use Rattle.fedi_hall.proofs.stations.leave.Given as goal

abbrev pub invariant-loop-pass : goal.invariant-loop-pass
invariant-loop-pass g l = record {
  passes : reverse (map pass_of l.fn.stations.items) ≡ l.passes.items ++ reverse (map pass_of l.stations.items);
  benches : reverse (map bench_of l.fn.stations.items) ≡ l.benches.items ++ reverse (map bench_of l.stations.items);
  ends : ends_of (reverse (map end_of l.fn.stations.items)) ≡ fold both l.all (reverse (map end_of l.stations.items));
  many : vec_len l.passes + vec_len l.stations ≡ vec_len l.fn.stations;
  room : vec_len l.passes + vec_len l.stations ≤ vec_capacity l.passes;
  space : vec_len l.benches + vec_len l.stations ≤ vec_capacity l.benches;
}

abbrev pub decreases-loop-pass : goal.decreases-loop-pass
decreases-loop-pass g l = vec_len l.stations
