use Rattle.std.proofs.Common.{◌≡◌, ◌∙◌, arith, length, refl}
use Rattle.fedi_register.proofs.Chains.{newest_headed}
use Rattle.fedi_register.proofs.marks.Marks.find.Goals as goal

pub first_in_chain-requires-clause-head : goal.first_in_chain-requires-clause-head
first_in_chain-requires-clause-head g c =
    let steps = c.self.inside.steps.items in
    let heads = c.self.inside.heads.items in
    let h = c.self.invariant in
    let many : c.len.result ≡ length heads = c.len.ensures ∙ c.self.inside.heads.ok.0 in
    rw (c.newest_of-head.ensures, c.deref.ensures.value, c.deref-2.ensures.value, many)
    (newest_headed (length heads) c.args.mark steps heads refl (λ some. h.2 (omega (arith, some))) h.1)
