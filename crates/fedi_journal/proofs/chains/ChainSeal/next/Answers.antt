use Rattle.std.proofs.Common.{ap, ◌∙◌, sym}
use Rattle.fedi_journal.specs.Chains.{link}
use Rattle.fedi_journal.specs.declared.chains.Chain.{Chain}
use Rattle.fedi_journal.proofs.ChainLemmas.{chain_push}
use Rattle.fedi_journal.proofs.ChainSteps.{of_chain}
use Rattle.fedi_journal.proofs.chains.ChainSeal.next.Goals as goal

pub returns : goal.returns
returns c = λ rs is.
    let p = c.args.payload.now in
    ap of_chain (c.link.ensures ∙ (ap (λ (s : Chain). link s.tip p) is ∙ sym (chain_push rs p)))
