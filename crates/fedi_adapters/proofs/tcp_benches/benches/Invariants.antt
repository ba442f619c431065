use Rattle.std.proofs.Common.{◌≡◌, All, None, false, map, vec_len}
use Rattle.fedi_adapters.specs.Benches.{first_roles}
use Rattle.fedi_adapters.specs.Untold.{untold_if}
use Rattle.fedi_adapters.proofs.tcp_benches.benches.Given as goal

abbrev pub invariant-loop-place : goal.invariant-loop-place
invariant-loop-place g l = record {
  count : vec_len l.benches ≡ l.place;
  roles : map (λ bench. bench.door.role) l.benches.items ≡ first_roles l.size l.place;
  waiting : All (λ bench. (untold_if bench.door.is_out ≡ None) × (bench.door.is_idle ≡ false)) l.benches.items;
}
