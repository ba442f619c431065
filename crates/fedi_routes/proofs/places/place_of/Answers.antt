use Rattle.std.proofs.Common.{◌≡◌}
use Rattle.fedi_routes.proofs.PathTexts.{path_text}
use Rattle.fedi_routes.proofs.PlaceLemmas.{no_place, place_found}
use Rattle.fedi_routes.proofs.places.place_of.Goals as goal

pub returns-in_default : goal.returns-in_default
returns-in_default c place there = c.in_default.ensures.cases.0 (rw there.spelled (path_text place there.there))

pub returns-in_err-routed : goal.returns-in_err-routed
returns-in_err-routed c =
    let same : c.in-Ok.text.now ≡ c.args.path.now = c.in-Ok.ensures.cases.0 in
    rw c.from_residual.ensures (no_place c.args.path.now (rw same at c.in_err-routed.ensures))

pub returns : goal.returns
returns c =
    let same : c.in-Ok.text.now ≡ c.args.path.now = c.in-Ok.ensures.cases.0 in
    let routed = c.in_ok-routed.routed in
    place_found c.args.path.now routed.kind routed.name.now routed.item.now c.place_at.result (rw same at c.in_ok-routed.ensures) c.place_at.ensures
