use Rattle.std.proofs.Common.{◌≡◌, ◌∙◌, List, ap, drop, eq-eqb, length, refl, sym, take, ℕ, ◌++◌}
use Rattle.std.specs.Prelude.{reverse}
use Rattle.std.proofs.Math.Seq.{take-append_seam}
use Rattle.std.proofs.lemmas.Bool.{ne_eqb}
use Rattle.std.proofs.lemmas.List.{length-reverse}
use Rattle.fedi_register.proofs.Chains.{before_less, gathering_first, gathering_last, gathering_more}
use Rattle.fedi_register.proofs.marks.places_in_chain.Goals as goal
use Rattle.fedi_register.proofs.marks.places_in_chain.Goals.{then-step-mark+in_ok-push, else-step-mark}

pub loop-step-init : goal.loop-step-init
loop-step-init c = rw c.new-places.ensures.items (gathering_first _ c.args.steps.now c.args.mark c.args.head c.requires.head)

pub loop-step-smaller : goal.loop-step-smaller
loop-step-smaller c = before_less _ c.args.steps.now c.loop-step.next c.in-Some.step.now c.requires.chained c.in-Some.ensures

pub loop-step-preserved : goal.loop-step-preserved
loop-step-preserved c =
    let step = c.in-Some.step.now in
    gathering_more _ c.args.steps.now c.args.mark c.loop-step.next c.loop-step.places.items _ step c.requires.chained c.loop-step.invariant c.in-Some.ensures
    (elim c.if-step-mark.branch [
      | then-step-mark+in_ok-push w ↦ rw (w.places-is, eq-eqb step.mark c.args.mark w.if-step-mark.true) w.in_ok-push.ensures.items
      | else-step-mark w ↦ rw (w.places-is, ne_eqb step.mark c.args.mark w.if-step-mark.false) refl
    ])

-- the vector after its items were reversed in place
reversed : (xs ys : List ℕ) (n : ℕ) → n ≡ length xs → ys ≡ reverse xs → take n (ys ++ drop (length ys) xs) ≡ reverse xs
reversed xs ys n long are =
    let same : n ≡ length ys = long ∙ sym (length-reverse xs) ∙ ap (λ (zs : List ℕ). length zs) (sym are) in
    rw same (take-append_seam ys (drop (length ys) xs) ∙ are)

pub returns : goal.returns
returns c =
    let places = c.loop-step.places in
    reversed places.items c.reverse.new.self places.len places.ok.0 (rw c.as_mut_slice.ensures.value at c.reverse.ensures.after)
    ∙ gathering_last _ c.args.steps.now c.args.mark c.loop-step.next places.items c.loop-step.invariant (rw (← c.step_before.ensures, c.in_default.is) refl)
