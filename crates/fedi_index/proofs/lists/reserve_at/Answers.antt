use Rattle.std.proofs.Common.{arith, refl, rules, sym}
use Rattle.std.proofs.lemmas.Option.{slice_get_read}
use Rattle.fedi_index.proofs.Found.{row_set, rows_roomier}
use Rattle.fedi_index.proofs.lists.reserve_at.Goals as goal

pub returns-clause-roomier : goal.returns-clause-roomier
returns-clause-roomier c =
    rows_roomier c.args.rows.now.items c.args.at c.index_mut.result.now _
    (slice_get_read c.args.rows.now.items _ c.args.at c.index_mut.result.now refl c.requires.there c.index_mut.ensures.value) refl refl (sym c.reserve.ensures.items) (omega (arith, c.reserve.ensures.len, c.reserve.ensures.capacity))

pub returns-clause-room : goal.returns-clause-room
returns-clause-room c = rw (row_set c.args.rows.now.items c.args.at _ c.requires.there) (search rules)
