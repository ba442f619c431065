use Rattle.std.proofs.Common.{◌≡◌, rules, ◌∙◌, subst}
use Rattle.fedi_address.specs.Iris.{IsIri, host_of}
use Rattle.fedi_address.proofs.Parts.{host_of-IsIri}
use Rattle.fedi_address.proofs.iri.Iri.host.Goals as goal

pub returns-clause-of_url : goal.returns-clause-of_url
unfolding host_of
returns-clause-of_url c url read =
    let value : c.after_any.result.now ≡ host_of c.args.self.now = search rules in
    value ∙ host_of-IsIri c.args.self.now (subst IsIri c.self.view_is c.self.invariant) url read
