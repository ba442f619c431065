use Rattle.std.proofs.Common.{◌≡◌, ℕ, get_or, below_more, arith, sym, ◌∙◌}
use Rattle.std.specs.Int.Bits.{xor_self}
use Rattle.std.specs.Prelude.{IsTrue, nat_eq}
use Rattle.std.proofs.lemmas.List.{ext_get_or}
use Rattle.fedi_mac.proofs.Differences.{xor-same, or-left, or-right}
use Rattle.fedi_mac.proofs.matches.Goals as goal

pub loop-place-preserved : goal.loop-place-preserved
loop-place-preserved c =
    let P : ℕ → Type 0 = λ k. get_or c.args.a.now k 0 ≡ get_or c.args.b.now k 0 in (
      λ none. below_more P _ (c.loop-place.invariant.0 (or-left _ _ none)) (xor-same _ _ (or-right _ _ none)),
      λ same. rw (c.loop-place.invariant.1 same, same, xor_self),
    )

none_is_zero : (n : ℕ) → IsTrue (nat_eq n 0) → n ≡ 0
none_is_zero n none = grind arith

zero_is_none : (n : ℕ) → n ≡ 0 → IsTrue (nat_eq n 0)
zero_is_none n none = grind arith

pub returns : goal.returns
returns c = (
  λ none. ext_get_or 0 c.args.a.now c.args.b.now (c.told-a ∙ sym c.told-b)
      (λ i within. c.loop-place.invariant.0 (none_is_zero _ none) i (omega (arith, within, c.told-a))),
  λ same. zero_is_none _ (c.loop-place.invariant.1 same),
)
