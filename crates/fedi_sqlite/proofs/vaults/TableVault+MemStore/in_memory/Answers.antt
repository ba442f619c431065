use Rattle.std.proofs.Common.{[], Some, false, refl, ap}
use Rattle.sqlite.specs.Held.{state}
use Rattle.sqlite.specs.Steps.{over_memory}
use Rattle.fedi_sqlite.proofs.TableSteps.{empty_is_at_rest, kept_is, memory_is_steady, whole}
use Rattle.fedi_sqlite.proofs.vaults.TableVault+MemStore.in_memory.Goals as goal

pub invariant_of-result : goal.invariant_of-result
invariant_of-result c reports =
    let keeps = (c.in-Ok.ensures (memory_is_steady c.in_ok-conn.conn c.make_table.new.conn)).first (empty_is_at_rest (state over_memory c.in_ok-conn.conn) c.in_ok-conn.ensures.empty) in
    record { steady = memory_is_steady; keeps = whole (state over_memory c.make_table.new.conn) [] keeps; held_is = refl }

pub returns-in-Ok-clause-shown : goal.returns-in-Ok-clause-shown
returns-in-Ok-clause-shown c =
    let keeps = (c.in-Ok.ensures (memory_is_steady c.in_ok-conn.conn c.make_table.new.conn)).first (empty_is_at_rest (state over_memory c.in_ok-conn.conn) c.in_ok-conn.ensures.empty) in
    ap (λ rs. record { kept = Some rs; out = false; faults = 0 }) (kept_is (state over_memory c.make_table.new.conn) [] keeps)
