use Rattle.std.proofs.Common.{◌≡◌, true, refl, sym, ◌∙◌}
use Rattle.fedi_queue.specs.Claims.{is_at}
use Rattle.fedi_queue.proofs.Carried.{carried_same}
use Rattle.fedi_queue.proofs.changes.carry_one.Goals as goal

pub returns-then-is_at-clause-carried : goal.returns-then-is_at-clause-carried
returns-then-is_at-clause-carried c =
    let old = c.in-Some.old.now in
    let same : is_at old.activity old.place c.args.row.now ≡ true = sym c.is_at.ensures ∙ c.if-is_at.true in
    λ rest. carried_same c.args.rows.now c.args.next old c.args.row.now _ rest c.in-Some.ensures same refl
