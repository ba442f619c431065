use Rattle.std.proofs.Common.{map}
use Rattle.std.proofs.lemmas.Result.{err_from_is_err_and}
use Rattle.sqlite.specs.Held.{state}
use Rattle.fedi_selection.specs.Acts.{act_row}
use Rattle.fedi_selection.proofs.Lies.{lies_by}
use Rattle.fedi_selection.proofs.tables.lay.Goals as goal

pub returns-in_err-make_acts : goal.returns-in_err-make_acts
returns-in_err-make_acts g c steady acts lies =
    let p = err_from_is_err_and c.from_residual.result c.from_residual.ensures.1 in
    let made = (c.make_acts.ensures (steady c.args.conn.now c.make_acts.new.conn)).again (map act_row acts) lies.rests in
    rw p.1 (record { rests = made; order = lies.order })

pub lay_rows-requires : goal.lay_rows-requires
lay_rows-requires g c = record { order = c.requires.order }

pub returns : goal.returns
returns g c steady acts lies =
    let made = (c.make_acts.ensures (steady c.args.conn.now c.make_acts.new.conn)).again (map act_row acts) lies.rests in
    lies_by c.lay_rows.result c.args.rows.now acts (state g.S.Store c.lay_rows.new.conn) c.requires.order lies.order (c.lay_rows.ensures steady acts made)
