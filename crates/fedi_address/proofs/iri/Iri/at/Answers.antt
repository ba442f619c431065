use Rattle.std.proofs.Common.{◌≡◌, rules, sym, ap, ◌∙◌, subst}
use Rattle.fedi_address.specs.Blocks.{text_in}
use Rattle.fedi_address.specs.Hosts.{address}
use Rattle.fedi_address.specs.Iris.{IsIri, host_of, target_of}
use Rattle.fedi_address.proofs.Urls.{address_is_iri}
use Rattle.fedi_address.proofs.Parts.{host_of-address, target_of-address}
use Rattle.fedi_address.proofs.iri.Iri.at.Goals as goal

pub invariant_of-result : goal.invariant_of-result
invariant_of-result c =
    let spelled : text_in c.in_ok-block.block.value ≡ address c.args.host.now c.args.path.now = search rules in
    subst IsIri (sym spelled) (address_is_iri c.args.host.now c.args.path.now c.text.ensures.host.shape c.text.ensures.root c.requires)

pub returns-clause-host : goal.returns-clause-host
returns-clause-host c =
    let spelled : text_in c.in_ok-block.block.value ≡ address c.args.host.now c.args.path.now = search rules in
    ap host_of spelled ∙ host_of-address c.args.host.now c.args.path.now c.text.ensures.host.shape c.requires

pub returns-clause-target : goal.returns-clause-target
returns-clause-target c =
    let spelled : text_in c.in_ok-block.block.value ≡ address c.args.host.now c.args.path.now = search rules in
    ap target_of spelled ∙ target_of-address c.args.host.now c.args.path.now c.text.ensures.host.shape c.requires
