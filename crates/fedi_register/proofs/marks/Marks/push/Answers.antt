use Rattle.std.proofs.Common.{◌≡◌, ◌<◌, suc, arith, ap, refl, ◌∙◌, length, set, length-set}
use Rattle.fedi_register.specs.Chains.{chain_of, marks_of, newest}
use Rattle.fedi_register.specs.declared.marks.Step.{Step}
use Rattle.fedi_register.proofs.Chains.{chained_more, heads_more, longer}
use Rattle.fedi_register.proofs.marks.Marks.push.Goals as goal

pub invariant_of-self : goal.invariant_of-self
invariant_of-self c =
    let steps = c.self.inside.steps.items in
    let heads = c.self.inside.heads.items in
    let n = length heads in
    let chain = chain_of n c.args.mark in
    let h = c.self.invariant in
    let room = ap (λ m. m.room) c.self.view_is in
    let some : 0 < n = h.2 (omega (arith, room, c.requires)) in
    let len : c.len.result ≡ n = c.len.ensures ∙ c.self.inside.heads.ok.0 in
    let at : c.chain_of-chain.result ≡ chain = rw len at c.chain_of-chain.ensures.value in
    let small : chain < n = omega (arith, at, len, c.chain_of-chain.ensures.small) in
    let leads : c.head_of-before.result ≡ newest n chain (marks_of steps) (length steps) =
    (rw (c.deref.ensures.value, at) at c.head_of-before.ensures) ∙ h.1.head chain small in
    let number : c.len-2.result ≡ suc (length steps) = omega (arith, c.len-2.ensures, c.push_reserved.ensures.len, c.self.inside.steps.ok.0) in
    let long : length (set heads chain (suc (length steps))) ≡ n = length-set heads chain (suc (length steps)) in
    let e : Step = record { mark = c.args.mark; place = c.args.place; before = c.head_of-before.result } in
    rw (c.push_reserved.ensures.items, c.set_head.ensures, at, number, long) (
      chained_more n steps _ h.0 leads,
      heads_more n steps heads _ refl h.1 small,
      λ _. some,
      omega (arith, h.3, room, c.requires, longer steps e),
      omega (arith, h.4, room, c.requires, c.push_reserved.ensures.len, c.push_reserved.ensures.capacity),
    )
