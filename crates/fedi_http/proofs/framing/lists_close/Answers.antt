use Rattle.std.proofs.Common.{rules}
use Rattle.std.specs.Prelude.{◌==◌}
use Rattle.std.proofs.lemmas.Iterator.Search.{any_from_yields_List}
use Rattle.std.proofs.lemmas.Iterator.Splits.{YieldsList-from_slice_split}
use Rattle.fedi_model.specs.Requests.{is_close, lists_close}
use Rattle.fedi_http.proofs.framing.lists_close.Goals as goal

pub returns : goal.returns
unfolding lists_close
returns c =
    any_from_yields_List is_close _ _ c.any.result c.any.ensures.ran
    (YieldsList-from_slice_split _ (λ byte. byte == 44) c.args.value.now c.split.ensures.rest c.split.ensures.done c.split.ensures.closure (search rules))
    (search rules)
