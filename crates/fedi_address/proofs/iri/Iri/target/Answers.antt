use Rattle.std.proofs.Common.{◌≡◌, rules, ◌∙◌, subst}
use Rattle.fedi_address.specs.Iris.{IsIri, target_of}
use Rattle.fedi_address.proofs.Parts.{target_of-IsIri}
use Rattle.fedi_address.proofs.iri.Iri.target.Goals as goal

pub returns-clause-of_url : goal.returns-clause-of_url
unfolding target_of
returns-clause-of_url c url read =
    let value : c.before-2.result.now ≡ target_of c.args.self.now = search rules in
    value ∙ target_of-IsIri c.args.self.now (subst IsIri c.self.view_is c.self.invariant) url read
