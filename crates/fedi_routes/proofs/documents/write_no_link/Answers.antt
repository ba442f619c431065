use Rattle.std.proofs.Common.{[], refl}
use Rattle.serde_json.specs.Data.{array}
use Rattle.serde_json.specs.View.{items_of}
use Rattle.fedi_objects.proofs.Additions.{then, one_added, ended, as_value}
use Rattle.fedi_routes.proofs.documents.write_no_link.Goals as goal

pub returns : goal.returns
returns c =
    ended c.end_array.result
    (λ last. as_value (array (items_of [])) _ refl (then (one_added c.in_ok-begin_array.was c.begin_array.ensures) last))
    c.end_array.ensures
