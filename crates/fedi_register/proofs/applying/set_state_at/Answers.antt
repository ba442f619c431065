use Rattle.std.proofs.Common.{◌∙◌, ap, set}
use Rattle.std.proofs.lemmas.Option.{get_or_from_slice_get}
use Rattle.fedi_town.specs.declared.act.Act.{Act}
use Rattle.fedi_town.specs.Effects.{in_state}
use Rattle.fedi_register.proofs.applying.set_state_at.Goals as goal

pub returns : goal.returns
returns c = λ y got.
    let acts = c.args.acts.now in
    let place = c.args.place in
    ap (λ (z : Act). set acts place z)
    (c.set_state.ensures ∙ ap (λ (z : Act). in_state c.args.state z) (get_or_from_slice_get acts place y c.index-acts-place.result got))
