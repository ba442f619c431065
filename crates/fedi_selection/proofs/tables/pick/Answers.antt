use Rattle.std.proofs.Common.{map, ◌∙◌}
use Rattle.std.proofs.lemmas.Result.{err_from_is_err_and}
use Rattle.fedi_selection.specs.ActRows.{picked}
use Rattle.fedi_selection.specs.Acts.{act_row}
use Rattle.fedi_selection.proofs.tables.pick.Goals as goal

pub returns-in_err-rows : goal.returns-in_err-rows
returns-in_err-rows g c steady =
    let p = err_from_is_err_and c.from_residual.result c.from_residual.ensures.1 in
    let shows = c.pick_acts.ensures (steady c.args.conn.now c.pick_acts.new.conn) in record {
      stays = λ acts lies. record { rests = shows.stays (map act_row acts) lies.rests; order = lies.order };
      finds = λ acts lies. rw p.1 tt;
    }

pub returns : goal.returns
returns g c steady =
    let shows = c.in_ok-rows.ensures (steady c.args.conn.now c.pick_acts.new.conn) in record {
      stays = λ acts lies. record { rests = shows.stays (map act_row acts) lies.rests; order = lies.order };
      finds = λ acts lies. c.read_rows.ensures (picked c.args.actor.now c.args.kind.now acts) (c.deref.ensures.value ∙ shows.finds acts lies.rests lies.order);
    }
