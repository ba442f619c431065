use Rattle.fedi_queue.proofs.RowsOf.{coming_rows}
use Rattle.fedi_queue.proofs.making.rows_of_coming.Goals as goal

pub returns : goal.returns
returns c =
    coming_rows _ _ _ _ _ _ _ _ _ _ c.activities-place.ensures.value c.new-rows.ensures.items c.in_ok-add_rows_for.ensures c.in_ok-add_rows_for-2.ensures c.place_after.ensures c.coming.ensures
