use Rattle.std.proofs.Common.{◌≡◌, ◌≤◌, rules, length}
use Rattle.fedi_address.specs.Blocks.{text_in}
use Rattle.url.specs.Parts.{serialize}
use Rattle.fedi_address.proofs.Urls.{IsIri-from_url}
use Rattle.fedi_address.proofs.iri.Iri.parse.Goals as goal

pub invariant_of-result : goal.invariant_of-result
invariant_of-result c =
    let spelled : text_in c.in_ok-block.block.value ≡ serialize c.in_ok-url.url = search rules in
    let short : length (serialize c.in_ok-url.url) ≤ 2048 = search rules in
    IsIri-from_url c.in_ok-url.url _ c.as_str.ensures.valid c.in_ok-url.ensures.web spelled short
