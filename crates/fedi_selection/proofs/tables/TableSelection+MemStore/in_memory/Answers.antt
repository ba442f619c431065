use Rattle.std.proofs.Common.{[], Some, ap, rules}
use Rattle.sqlite.specs.Held.{state}
use Rattle.sqlite.specs.Steps.{over_memory}
use Rattle.fedi_selection.proofs.Lies.{acts_are, empty_is_at_rest, knows_of, memory_is_steady}
use Rattle.fedi_selection.proofs.tables.TableSelection+MemStore.in_memory.Goals as goal

pub returns-in_err-conn : goal.returns-in_err-conn
returns-in_err-conn c = search rules

pub invariant_of-result : goal.invariant_of-result
invariant_of-result c reports =
    let made = (c.in-Ok.ensures (memory_is_steady c.in_ok-conn.conn c.make_acts.new.conn)).first (empty_is_at_rest (state over_memory c.in_ok-conn.conn) c.in_ok-conn.ensures.empty) in
    knows_of over_memory c.make_acts.new.conn [] memory_is_steady (record { rests = made; order = tt })

pub returns-in-Ok-clause-shown : goal.returns-in-Ok-clause-shown
returns-in-Ok-clause-shown c =
    let made = (c.in-Ok.ensures (memory_is_steady c.in_ok-conn.conn c.make_acts.new.conn)).first (empty_is_at_rest (state over_memory c.in_ok-conn.conn) c.in_ok-conn.ensures.empty) in
    ap (λ rows. record { laid = Some rows; faults = 0 }) (acts_are (state over_memory c.make_acts.new.conn) [] (record { rests = made; order = tt }))
