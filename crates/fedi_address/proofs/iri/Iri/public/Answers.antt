use Rattle.std.proofs.Common.{◌≡◌, rules, sym, subst}
use Rattle.fedi_address.specs.Blocks.{text_in}
use Rattle.fedi_address.specs.Iris.{IsIri, public_iri}
use Rattle.fedi_address.proofs.Public.{public_iri_is}
use Rattle.fedi_address.proofs.iri.Iri.public.Goals as goal

pub invariant_of-result : goal.invariant_of-result
invariant_of-result c =
    let spelled : text_in c.in_ok-block.block.value ≡ public_iri = search rules in
    subst IsIri (sym spelled) public_iri_is
