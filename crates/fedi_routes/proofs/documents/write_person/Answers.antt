use Rattle.std.proofs.Common.{true, refl, arith}
use Rattle.serde_json.specs.Data.{object}
use Rattle.fedi_model.specs.Documents.{actor_members}
use Rattle.fedi_objects.specs.Forms.{with_context}
use Rattle.fedi_objects.proofs.Additions.{then, one_added, ended, as_value}
use Rattle.fedi_routes.proofs.documents.write_person.Goals as goal

pub returns : goal.returns
unfolding with_context
returns c =
    ended c.end_object.result
    (λ last. as_value (object (with_context true (actor_members c.args.id.now c.args.name.now))) _ refl
    (then (one_added c.in_ok-begin_object.was c.begin_object.ensures)
    (then c.in_ok-write_str.ensures
    (then c.in_ok-write_joined.ensures
    (then c.in_ok-write_joined-2.ensures
    (then c.in_ok-write_str-2.ensures
    (then c.in_ok-write_joined-3.ensures
    (then c.in_ok-write_joined-4.ensures
    (then c.in_ok-write_joined-5.ensures
    (then c.in_ok-write_str-3.ensures
    (then c.in_ok-write_str-4.ensures last)))))))))))
    c.end_object.ensures

pub write_joined-requires : goal.write_joined-requires
write_joined-requires c = omega (arith, c.requires)

pub write_joined-requires-2 : goal.write_joined-requires-2
write_joined-requires-2 c = omega (arith, c.requires)

pub write_joined-requires-3 : goal.write_joined-requires-3
write_joined-requires-3 c = omega (arith, c.requires)

pub write_joined-requires-4 : goal.write_joined-requires-4
write_joined-requires-4 c = omega (arith, c.requires)

pub write_joined-requires-5 : goal.write_joined-requires-5
write_joined-requires-5 c = omega (arith, c.requires)
