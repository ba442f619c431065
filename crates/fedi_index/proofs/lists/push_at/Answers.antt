use Rattle.std.proofs.Common.{◌≡◌, ◌∙◌, false, refl, true}
use Rattle.std.specs.Prelude.{slice_get}
use Rattle.std.proofs.lemmas.Option.{slice_get_read}
use Rattle.fedi_index.specs.Lists.{at_end, ends_in, listings, places_found}
use Rattle.fedi_index.proofs.Found.{ends_there, listing_grown, rows_grown}
use Rattle.fedi_index.proofs.lists.push_at.Goals as goal

pub returns-then-not-ends_in : goal.returns-then-not-ends_in
returns-then-not-ends_in c =
    let rows = c.args.rows.now.items in
    let row = c.index_mut.result.now in
    let read = slice_get_read rows _ c.args.at c.index.result.now refl c.requires.there c.index.ensures in
    let got = slice_get_read rows _ c.args.at row refl c.requires.there c.index_mut.ensures.value in
    let other : ends_in c.args.place (places_found (slice_get (listings rows) c.args.at)) ≡ false =
    ends_there rows c.args.at c.index.result.now c.args.place c.deref.result.now _ read c.deref.ensures.value c.ends_in.ensures ∙ c.if-not-ends_in.true in
    rw other (rows_grown rows c.args.at (at_end c.args.place) row _ got
    (listing_grown row.collection (at_end c.args.place) row.owner row.places c.push_reserved.new.self c.push_reserved.ensures.items c.push_reserved.ensures.len c.push_reserved.ensures.capacity))

pub returns-else-not-ends_in : goal.returns-else-not-ends_in
returns-else-not-ends_in c =
    let rows = c.args.rows.now.items in
    let read = slice_get_read rows _ c.args.at c.index.result.now refl c.requires.there c.index.ensures in
    let there : ends_in c.args.place (places_found (slice_get (listings rows) c.args.at)) ≡ true =
    ends_there rows c.args.at c.index.result.now c.args.place c.deref.result.now _ read c.deref.ensures.value c.ends_in.ensures ∙ c.if-not-ends_in.false in
    rw there refl
