use Rattle.std.proofs.Common.{◌∙◌, ◌<◌, ◌≤◌, arith, length, refl}
use Rattle.std.specs.Prelude.{vec_capacity, vec_len}
use Rattle.std.proofs.lemmas.Option.{slice_get_read}
use Rattle.fedi_index.specs.Lists.{at_index}
use Rattle.fedi_index.proofs.Found.{listing_grown, listing_there, rows_grown}
use Rattle.fedi_index.proofs.lists.insert_at.Goals as goal

pub insert-requires : goal.insert-requires
insert-requires c =
    let got = slice_get_read c.args.rows.now.items _ c.args.at c.index_mut.result.now refl c.requires.there c.index_mut.ensures.value in
    let within : c.args.index ≤ length c.index_mut.result.now.places.items = rw (listing_there c.args.rows.now.items c.args.at c.index_mut.result.now got) at c.requires.index in
    omega (arith, within, c.index_mut.result.now.places.ok.0)

pub returns : goal.returns
returns c =
    let row = c.index_mut.result.now in
    let got = slice_get_read c.args.rows.now.items _ c.args.at row refl c.requires.there c.index_mut.ensures.value in
    let left = rw (listing_there c.args.rows.now.items c.args.at row got) at c.requires.room in
    let room : vec_len row.places < vec_capacity row.places = omega (arith, left) in
    let done = c.insert.ensures.succeeds room in
    rows_grown c.args.rows.now.items c.args.at (at_index c.args.index c.args.place) row _ got
    (listing_grown row.collection (at_index c.args.index c.args.place) row.owner row.places c.insert.new.self (c.insert.ensures.items ∙ rw done refl) (c.insert.ensures.len ∙ rw done refl) (c.insert.ensures.in_place room).1.0)
