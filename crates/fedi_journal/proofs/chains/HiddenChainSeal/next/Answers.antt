use Rattle.std.proofs.Common.{ap, ◌∙◌, sym}
use Rattle.fedi_journal.specs.Chains.{link}
use Rattle.fedi_journal.specs.declared.chains.HiddenChain.{HiddenChain}
use Rattle.fedi_journal.proofs.ChainLemmas.{chain_push}
use Rattle.fedi_journal.proofs.ChainSteps.{of_hidden}
use Rattle.fedi_journal.proofs.chains.HiddenChainSeal.next.Goals as goal

pub returns : goal.returns
returns c = λ rs is.
    let p = c.args.payload.now in
    ap of_hidden (c.link.ensures ∙ (ap (λ (s : HiddenChain). link s.tip p) is ∙ sym (chain_push rs p)))
