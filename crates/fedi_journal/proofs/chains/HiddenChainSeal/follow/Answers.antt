use Rattle.std.proofs.Common.{◌+◌, ap, drop, subst, take}
use Rattle.fedi_journal.specs.Chains.{IsLinked}
use Rattle.fedi_journal.specs.declared.chains.HiddenChain.{HiddenChain}
use Rattle.fedi_journal.proofs.ChainSteps.{followed_none, followed_some, of_hidden}
use Rattle.fedi_journal.proofs.chains.HiddenChainSeal.follow.Goals as goal

pub returns-in-Some-clause-found : goal.returns-in-Some-clause-found
returns-in-Some-clause-found g c = λ rs bytes own is.
    let tip = c.args.self.now.tip in
    let r = take c.args.length (drop c.args.at bytes) in
    let behind = drop (c.args.at + c.args.length) bytes in
    let here = followed_some rs tip r behind c.in-Some.tip (ap (λ (s : HiddenChain). s.tip) own) (subst (IsLinked tip r behind) c.in-Some.is (c.in_ok-tip.ensures.found bytes is)) in
    (ap of_hidden here.0, here.1)

pub returns-in-None-clause-found : goal.returns-in-None-clause-found
returns-in-None-clause-found g c = λ rs bytes own is.
    let tip = c.args.self.now.tip in
    let r = take c.args.length (drop c.args.at bytes) in
    let behind = drop (c.args.at + c.args.length) bytes in
    followed_none rs tip r behind (ap (λ (s : HiddenChain). s.tip) own) (subst (IsLinked tip r behind) c.in-None.is (c.in_ok-tip.ensures.found bytes is))
