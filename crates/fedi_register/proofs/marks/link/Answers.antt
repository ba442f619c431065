use Rattle.std.proofs.Common.{◌≡◌, suc, ◌+◌, arith, refl, length}
use Rattle.fedi_register.proofs.Chains.{chained_linked, heads_linked, marks_linked}
use Rattle.fedi_register.proofs.marks.link.Goals as goal

pub returns-clause-marks : goal.returns-clause-marks
returns-clause-marks c = marks_linked c.args.steps.now c.args.place _ _

pub returns-clause-chained : goal.returns-clause-chained
returns-clause-chained c =
    let k1 : c.args.place + 1 ≡ suc c.args.place = omega arith in
    rw k1 (chained_linked (length c.args.heads.now) c.args.steps.now c.args.place _ _ c.requires.there c.requires.chained
    (rw c.chain_of-chain.ensures.value (c.requires.heads.head _ (rw c.chain_of-chain.ensures.value at c.chain_of-chain.ensures.small))))

pub returns-clause-heads : goal.returns-clause-heads
returns-clause-heads c =
    let k1 : c.args.place + 1 ≡ suc c.args.place = omega arith in
    rw (c.chain_of-chain.ensures.value, marks_linked c.args.steps.now c.args.place _ _, k1)
    (heads_linked (length c.args.heads.now) c.args.steps.now c.args.heads.now c.args.place _ refl c.requires.there
    (rw c.chain_of-chain.ensures.value at c.chain_of-chain.ensures.small) c.requires.heads)
