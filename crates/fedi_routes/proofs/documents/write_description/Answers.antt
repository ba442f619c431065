use Rattle.std.proofs.Common.{[], ◌∷◌, codes, refl}
use Rattle.serde_json.specs.Data.{array, object, string, no_members, put}
use Rattle.serde_json.specs.View.{items_of}
use Rattle.fedi_model.specs.Documents.{links_of}
use Rattle.fedi_objects.proofs.Additions.{then, one_added, ended, as_value}
use Rattle.fedi_routes.proofs.documents.write_description.Goals as goal

pub returns : goal.returns
returns c =
    let id = c.args.id.now in
    ended c.end_object.result
    (λ last. as_value (object (put (codes "aliases") (array (items_of (string id ∷ [])))
    (put (codes "links") (array (items_of (links_of id c.args.rels.now)))
    (put (codes "subject") (string c.args.account.now) no_members)))) _ refl
    (then (one_added c.in_ok-begin_object.was c.begin_object.ensures)
    (then (one_added c.in_ok-key.was c.key.ensures)
    (then (one_added c.in_ok-begin_array.was c.begin_array.ensures)
    (then (one_added c.in_ok-string.was c.string.ensures)
    (then (one_added c.in_ok-end_array.was c.end_array.ensures)
    (then (one_added c.in_ok-key-2.was c.key-2.ensures)
    (then c.in_ok-write_links.ensures
    (then c.in_ok-write_str.ensures last)))))))))
    c.end_object.ensures
