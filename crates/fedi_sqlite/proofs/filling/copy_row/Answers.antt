use Rattle.std.proofs.Common.{inl, inr, Ok, Some, IfSome, ap, subst, sym, ◌≡◌, ◌∙◌}
use Rattle.std.specs.Prelude.{slice_get}
use Rattle.fedi_sqlite.proofs.FillingSteps.{found_in}
use Rattle.fedi_sqlite.proofs.filling.copy_row.Goals as goal

pub returns-in-Err-Failed-clause-copied : goal.returns-in-Err-Failed-clause-copied
returns-in-Err-Failed-clause-copied g c steady kept records adding at = inl (records, adding)

pub returns-in-Err-Memory-clause-copied : goal.returns-in-Err-Memory-clause-copied
returns-in-Err-Memory-clause-copied g c steady kept records adding at = inl (records, adding)

pub returns-in-Ok-clause-copied : goal.returns-in-Ok-clause-copied
returns-in-Ok-clause-copied g c steady kept records adding at =
    let from = (g.P.Keeper.shown c.args.from.now).records in
    let found = found_in from c.load.result c.in-Ok-Some.bytes c.args.place (c.in-Ok-Some.is ∙ ap Ok c.in-Ok-Some.field-0-is) c.load.ensures.found in (
      c.deref.result.now,
      c.in-Ok.ensures.rows (steady c.args.within.now.conn.now c.insert_within.new.within.conn.now) kept records adding at,
      subst (λ p. IfSome from (λ all. slice_get all c.args.place ≡ Some p)) (sym c.deref.ensures.value) found,
    )

pub returns-clause-copied : goal.returns-clause-copied
returns-clause-copied g c steady kept records adding at =
    elim (c.in-Err.ensures.rows (steady c.args.within.now.conn.now c.insert_within.new.within.conn.now) kept records adding at) [ inl still ↦ inl (records, still) | inr back ↦ inr back ]
