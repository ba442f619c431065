use Rattle.std.proofs.Common.{eq-eqb, refl, sym, None}
use Rattle.std.proofs.lemmas.Bool.{ne_eqb}
use Rattle.fedi_register.proofs.Chains.{along_first, along_hit, along_last, along_more, before_less}
use Rattle.fedi_register.proofs.marks.any_in_chain.Goals as goal
use Rattle.fedi_register.proofs.marks.any_in_chain.Goals.{else-step-mark-via-then-step-mark+else-passes, else-step-mark-via-else-step-mark}

pub loop-step-init : goal.loop-step-init
loop-step-init g c = along_first _ _ c.args.steps.now c.args.mark c.args.head c.requires.head

pub loop-step-smaller : goal.loop-step-smaller
loop-step-smaller g c = before_less _ c.args.steps.now c.loop-step.next c.in-Some.step.now c.requires.chained c.in-Some.ensures

pub loop-step-preserved : goal.loop-step-preserved
loop-step-preserved g c =
    let step = c.in-Some.step.now in
    along_more _ _ c.args.steps.now c.args.mark c.loop-step.next None None step c.requires.chained c.loop-step.invariant c.in-Some.ensures (λ q decides.
    elim c.else-step-mark.branch [
      | else-step-mark-via-then-step-mark+else-passes w ↦
          rw (eq-eqb step.mark c.args.mark w.if-step-mark.true, ← decides step.place w.passes.result w.passes.ensures, w.if-passes.false) refl
      | else-step-mark-via-else-step-mark w ↦ rw (ne_eqb step.mark c.args.mark w.if-step-mark.false) refl
    ])

pub returns-then-passes : goal.returns-then-passes
returns-then-passes g c = λ q decides.
    let step = c.in-Some.step.now in
    sym (along_hit _ _ c.args.steps.now c.args.mark c.loop-step.next step c.loop-step.invariant c.in-Some.ensures q decides
    (rw (eq-eqb step.mark c.args.mark c.if-step-mark.true, ← decides step.place c.passes.result c.passes.ensures, c.if-passes.true) refl))

pub returns : goal.returns
returns g c = λ q decides.
    rw (← along_last _ _ c.args.steps.now c.args.mark c.loop-step.next None c.loop-step.invariant (rw (← c.step_before.ensures, c.in_default.is) refl) q decides) refl
