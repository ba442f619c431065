use Rattle.std.proofs.Common.{◌≡◌, ◌≢◌, ◌∷◌, [], length, subst, ℕ, List, arith, rules, tests}
use Rattle.json.specs.Token.{Token}
use Rattle.serde_json.specs.Data.{string}
use Rattle.fedi_objects.specs.Writing.{Adds}
use Rattle.fedi_objects.proofs.Additions.{none_listed, one_added, ended, more_added, list_added}
use Rattle.fedi_objects.proofs.members.write_iris.Goals as goal

pub returns-then-is_empty : goal.returns-then-is_empty
returns-then-is_empty c =
    let none : length c.args.iris.now ≡ 0 = search rules in
    none_listed c.args.key.now string c.args.iris.now c.args.out.now none

pub loop-iri-preserved : goal.loop-iri-preserved
loop-iri-preserved c =
    let one = subst (λ (s : List ℕ). Adds (Token.string s ∷ []) c.loop-iri.out c.string.new.self) c.text.ensures.value
    (one_added c.in_ok-string.was c.string.ensures) in
    more_added string c.args.iris.now c.loop-iri.iri-index c.iri-item.result c.loop-iri-test.true c.iri-item.is c.loop-iri.invariant one

pub returns : goal.returns
returns c =
    let some : length c.args.iris.now ≢ 0 = grind (arith, tests) in
    ended c.end_array.result
    (list_added c.args.key.now string c.args.iris.now c.loop-iri.iri-index some (omega arith)
    (one_added c.in_ok-key.was c.key.ensures) (one_added c.in_ok-begin_array.was c.begin_array.ensures) c.loop-iri.invariant)
    c.end_array.ensures
