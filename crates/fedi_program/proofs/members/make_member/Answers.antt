use Rattle.std.proofs.Common.{◌≡◌, true, false, inl, inr, refl}
use Rattle.fedi_log.specs.Keeping.{state_of}
use Rattle.std.proofs.lemmas.Bool.{false_from_ne_true}
use Rattle.fedi_logged.proofs.SessionLemmas.{now_of}
use Rattle.fedi_program.specs.Members.{key_line}
use Rattle.fedi_program.proofs.MemberLemmas.{unmoved}
use Rattle.fedi_program.proofs.members.make_member.Goals as goal

pub returns-in_default-parse-clause-made : goal.returns-in_default-parse-clause-made
returns-in_default-parse-clause-made g c =
    let bad = false_from_ne_true _ (λ good. let clash : false ≡ true = c.in_default-parse.ensures.name.1 good in absurd cc) in
    inr (
      c.fill.new.into,
      c.clamped-moment.result,
      record { bytes = c.in-Ok.ensures.bytes; length_is = c.fill.array_long; calm = c.in-Ok.ensures.cause.calm },
      now_of _ c.now.result _ c.now.ensures c.clamped-moment.ensures,
      inl (bad, (refl, c.report.ensures)),
    )

pub returns-clause-made : goal.returns-clause-made
returns-clause-made g c =
    let ends = c.enroll.ensures.ends (key_line c.args.name.now c.fill.new.into) c.key_line.ensures in
    inr (
      c.fill.new.into,
      c.clamped-moment.result,
      record { bytes = c.in-Ok.ensures.bytes; length_is = c.fill.array_long; calm = c.in-Ok.ensures.cause.calm },
      now_of _ c.now.result _ c.now.ensures c.clamped-moment.ensures,
      inr (c.in-Some.ensures.name.0 refl, rw (c.in-Some.ensures.same, c.digest.ensures) at ends),
    )

pub returns-in_default-clause-crashes : goal.returns-in_default-clause-crashes
returns-in_default-clause-crashes g c =
    unmoved g.P.Keeper.growth g.P.Keeper.room (state_of c.args.core.now.history (g.P.Keeper.shown c.args.core.now.keeper)) _ (g.met.P.Keeper.crash_now c.args.core.now.keeper)

pub returns-in_default-parse-clause-crashes : goal.returns-in_default-parse-clause-crashes
returns-in_default-parse-clause-crashes g c =
    unmoved g.P.Keeper.growth g.P.Keeper.room (state_of c.args.core.now.history (g.P.Keeper.shown c.args.core.now.keeper)) _ (g.met.P.Keeper.crash_now c.args.core.now.keeper)
