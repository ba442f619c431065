use Rattle.std.proofs.Common.{[], ◌∷◌, refl}
use Rattle.serde_json.specs.Data.{array}
use Rattle.serde_json.specs.View.{items_of}
use Rattle.fedi_model.specs.Documents.{self_link}
use Rattle.fedi_objects.proofs.Additions.{then, one_added, ended, as_value}
use Rattle.fedi_routes.proofs.documents.write_self_link.Goals as goal

pub returns : goal.returns
returns c =
    ended c.end_array.result
    (λ last. as_value (array (items_of (self_link c.args.id.now ∷ []))) _ refl
    (then (one_added c.in_ok-begin_array.was c.begin_array.ensures)
    (then (one_added c.in_ok-begin_object.was c.begin_object.ensures)
    (then c.in_ok-write_str.ensures
    (then c.in_ok-write_str-2.ensures
    (then c.in_ok-write_str-3.ensures
    (then (one_added c.in_ok-end_object.was c.end_object.ensures) last)))))))
    c.end_array.ensures
