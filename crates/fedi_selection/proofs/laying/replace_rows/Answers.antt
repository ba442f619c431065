use Rattle.std.proofs.Common.{◌∙◌, ◌≤◌, length, map, subst, take, arith}
use Rattle.std.proofs.lemmas.Result.{err_from_is_err_and}
use Rattle.sqlite.specs.Held.{state}
use Rattle.fedi_selection.specs.Acts.{act_row, act_schema}
use Rattle.fedi_selection.specs.Databases.{Holds}
use Rattle.fedi_selection.proofs.Rows.{one_more_row, row_after, take_past}
use Rattle.fedi_selection.proofs.laying.replace_rows.Goals as goal

pub returns-in_err-clear_acts-clause-rows : goal.returns-in_err-clear_acts-clause-rows
returns-in_err-clear_acts-clause-rows g c steady base acts held =
    let p = err_from_is_err_and c.from_residual.result c.from_residual.ensures.1 in
    rw p.1 (c.in_err-clear_acts.ensures.rows (steady c.args.tx.now.conn.now c.clear_acts.new.tx.conn.now) base acts held)

pub loop-row-init : goal.loop-row-init
loop-row-init g c = record {
  same_reference = c.clear_acts.ensures.same_reference;
  holds = λ steady base acts held. c.in_ok-clear_acts.ensures.rows (steady c.args.tx.now.conn.now c.clear_acts.new.tx.conn.now) base acts held;
}

pub loop-row-preserved : goal.loop-row-preserved
loop-row-preserved g c =
    let i = c.loop-row.row-index in
    let row = c.row-item.result in
    let rows = c.args.rows.now in
    record {
      same_reference = c.insert_act.ensures.same_reference ∙ c.loop-row.invariant.same_reference;
      holds = λ steady base acts held.
          let before = c.loop-row.invariant.holds steady base acts held in
          let after = row_after rows i row c.requires.order c.loop-row-test.true c.row-item.is in
          let one = c.in_ok-insert_act.ensures.rows (steady c.loop-row.tx.conn.now c.insert_act.new.tx.conn.now) base (map act_row (take i rows)) before after in
          subst (λ all. Holds act_schema base all (state g.S.Store c.insert_act.new.tx.conn.now)) (one_more_row rows i row c.loop-row-test.true c.row-item.is) one;
    }

pub returns-in_err-insert_act-clause-rows : goal.returns-in_err-insert_act-clause-rows
returns-in_err-insert_act-clause-rows g c steady base acts held =
    let p = err_from_is_err_and c.from_residual-in_err-insert_act.result c.from_residual-in_err-insert_act.ensures.1 in
    let i = c.loop-row.row-index in
    let row = c.row-item.result in
    let rows = c.args.rows.now in
    let before = c.loop-row.invariant.holds steady base acts held in
    let after = row_after rows i row c.requires.order c.loop-row-test.true c.row-item.is in
    rw p.1 (c.in_err-insert_act.ensures.rows (steady c.loop-row.tx.conn.now c.insert_act.new.tx.conn.now) base (map act_row (take i rows)) before after)

pub returns-clause-rows : goal.returns-clause-rows
returns-clause-rows g c steady base acts held =
    let i = c.loop-row.row-index in
    let rows = c.args.rows.now in
    let past : length rows ≤ i = let test = c.loop-row-test.false in omega (arith, test) in
    subst (λ all. Holds act_schema base (map act_row all) (state g.S.Store c.loop-row.tx.conn.now)) (take_past rows i past) (c.loop-row.invariant.holds steady base acts held)
