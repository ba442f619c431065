use Rattle.std.proofs.Common.{◌≡◌, true, rules, codes, string_bytes, sym, subst}
use Rattle.fedi_address.specs.Hosts.{address, IsHost, is_host_text}
use Rattle.fedi_address.specs.Iris.{IsIri}
use Rattle.fedi_address.proofs.Urls.{IsHost-from_root}
use Rattle.fedi_address.proofs.host.Host.parse.Goals as goal

pub invariant_of-result : goal.invariant_of-result
invariant_of-result c =
    let text : string_bytes c.in_ok-text.text ≡ c.args.text.now = search rules in
    let shape : is_host_text c.args.text.now ≡ true = search rules in
    let root : IsIri (address c.args.text.now (codes "/")) = search rules in
    subst (λ t. IsHost t × IsIri (address t (codes "/"))) (sym text) (IsHost-from_root c.args.text.now shape root, root)

pub returns-clause-host : goal.returns-clause-host
returns-clause-host c =
    let text : string_bytes c.in_ok-text.text ≡ c.args.text.now = search rules in
    let shape : is_host_text c.args.text.now ≡ true = search rules in
    let root : IsIri (address c.args.text.now (codes "/")) = search rules in
    subst IsHost (sym text) (IsHost-from_root c.args.text.now shape root)
