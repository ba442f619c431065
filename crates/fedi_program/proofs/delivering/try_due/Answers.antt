use Rattle.std.proofs.Common.{◌≡◌, ◌-◌, ◌<◌, ◌+◌, ℕ, List, arith, length, sym, subst, ap, ◌∙◌}
use Rattle.std.specs.Prelude.{IsTrue, is_some}
use Rattle.fedi_core.specs.Machines.{Machine}
use Rattle.fedi_log.specs.Keeping.{State, base_of, state_of}
use Rattle.fedi_log.specs.Log.{given}
use Rattle.fedi_logged.proofs.SessionLemmas.{writes_none}
use Rattle.fedi_logged.specs.Turns.{standing_by}
use Rattle.fedi_queue.specs.Due.{due_in}
use Rattle.fedi_town.specs.Histories.{town}
use Rattle.fedi_town.specs.Queues.{Delivery}
use Rattle.fedi_program.specs.Delivering.{EndsNext}
use Rattle.fedi_program.specs.Endings.{Prints}
use Rattle.fedi_program.specs.Seen.{output, tells}
use Rattle.fedi_program.proofs.DeliverLemmas.{IsTrying, done_due, ended_due, sent_more}
use Rattle.fedi_program.proofs.DeliverLemmas.{stopped_survives, trying_first, trying_grown}
use Rattle.fedi_program.proofs.NextLemmas.{rest_opened}
use Rattle.fedi_program.proofs.delivering.try_due.Goals as goal

pub due-init : goal.due-init
due-init g c =
    let opened = g.N.Opened.state in
    let now = c.of-alone.result.logged.core in
    record {
      first = c.count-first.ensures ∙ sym (ap (λ s. length s.history) c.requires.opened);
      rest = rest_opened opened.history c.args.core.history now.history c.of-alone.result.logged.log
          (ap (λ s. s.history) c.requires.opened) (ap (λ m. m.history) c.of-alone.ensures.core)
          c.of-alone.ensures.log c.requires.legal;
      trying = subst (λ (s : State). IsTrying g.P.Keeper.growth g.P.Keeper.room c.args.moment opened s
          (tells g.K.Link c.args.link.now) (tells g.K.Link c.args.link.now)
          (output g.O.Sink c.args.out.now) (output g.O.Sink c.args.out.now))
          (c.requires.opened ∙ ap (λ m. state_of m.history (g.P.Keeper.shown m.keeper))
          (sym c.of-alone.ensures.core))
          (trying_first g.P.Keeper.growth g.P.Keeper.room c.args.moment opened _ _ (writes_none _));
    }

pub try_next-requires : goal.try_next-requires
try_next-requires g c = record {
  hosted = subst (λ (s : State). IsTrue (is_some (town s.history).host)) (sym c.requires.opened)
      c.requires.hosted;
  rest = c.due.invariant.rest;
}

pub due-smaller : goal.due-smaller
due-smaller g c =
    let k = g.P.Keeper in
    let inv = c.due.invariant in
    let now = state_of c.due.alone.logged.core.history (k.shown c.due.alone.logged.core.keeper) in
    let core = c.try_next.new.alone.logged.core in
    let f = rw (c.in-Ok-true.is, c.in-Ok-true.field-0-test) at c.try_next.ensures.tries in
    let legal = (rw c.in-Ok-true.is at c.try_next.ensures.rest).legal in
    let more = sent_more k.growth k.room c.args.moment g.N.Opened.state now
    (state_of core.history (k.shown core.keeper)) (tells g.K.Link c.args.link.now)
    (tells g.K.Link c.due.link) (tells g.K.Link c.try_next.new.link)
    (output g.O.Sink c.args.out.now) (output g.O.Sink c.due.out)
    (output g.O.Sink c.try_next.new.out) inv.trying legal f in
    let left : length (due_in (town core.history) c.args.moment) ≡ length f.rest =
    ap (λ (ds : List Delivery). length ds) more.1 in
    let was : length (due_in (town now.history) c.args.moment) ≡ length f.rest + 1 =
    ap (λ (ds : List Delivery). length ds) f.due ∙ omega arith in
    let less : length (due_in (town core.history) c.args.moment)
    < length (due_in (town now.history) c.args.moment) = omega (arith, left, was) in
    less

pub due-preserved : goal.due-preserved
due-preserved g c =
    let k = g.P.Keeper in
    let inv = c.due.invariant in
    let now = state_of c.due.alone.logged.core.history (k.shown c.due.alone.logged.core.keeper) in
    let core = c.try_next.new.alone.logged.core in
    let rest = rw c.in-Ok-true.is at c.try_next.ensures.rest in
    let more = sent_more k.growth k.room c.args.moment g.N.Opened.state now
    (state_of core.history (k.shown core.keeper)) (tells g.K.Link c.args.link.now)
    (tells g.K.Link c.due.link) (tells g.K.Link c.try_next.new.link)
    (output g.O.Sink c.args.out.now) (output g.O.Sink c.due.out)
    (output g.O.Sink c.try_next.new.out) inv.trying rest.legal
    (rw (c.in-Ok-true.is, c.in-Ok-true.field-0-test) at c.try_next.ensures.tries) in
    record { first = inv.first; rest = rest; trying = more.0 }

pub into_core-core-requires : goal.into_core-core-requires
into_core-core-requires g c = record { alone = c.try_next.ensures.alone }

pub into_core-core-requires-in-Err : goal.into_core-core-requires-in-Err
into_core-core-requires-in-Err g c = record { alone = c.try_next.ensures.alone }

pub overflow_sub-count : goal.overflow_sub-count
overflow_sub-count g c =
    let k = g.P.Keeper in
    let inv = c.due.invariant in
    let d = (rw (c.in-Ok-false.is, c.in-Ok-false.field-0-test) at c.try_next.ensures.tries).1 in
    let grown = trying_grown k.growth k.room _ _ _ _ _ _ _ inv.trying in
    let same : length c.try_next.new.alone.logged.core.history
    ≡ length c.due.alone.logged.core.history = ap (λ s. length s.history) d.same in
    let now : c.count.result ≡ length c.try_next.new.alone.logged.core.history =
    c.count.ensures ∙ ap (λ m. length m.history) c.into_core-core.ensures.core in
    omega (arith, grown, same, now, inv.first)

pub returns-in-Ok-false-clause-tried : goal.returns-in-Ok-false-clause-tried
returns-in-Ok-false-clause-tried g c = λ reading is_now.
    let k = g.P.Keeper in
    let inv = c.due.invariant in
    let was = c.due.alone.logged.core in
    let core = c.try_next.new.alone.logged.core in
    let counted : c.count.result - c.count-first.result
    ≡ length core.history - length g.N.Opened.state.history =
    let all = c.count.ensures ∙ ap (λ m. length m.history) c.into_core-core.ensures.core in
    omega (arith, all, inv.first) in
    let text = c.as_bytes.ensures.value ∙ c.deref.ensures.0 ∙ c.done_line-line.ensures in
    let printed = subst (λ (bytes : List ℕ). Prints (output g.O.Sink c.try_next.new.out)
    (output g.O.Sink c.print.new.out) bytes c.print.result) text c.print.ensures in
    rw c.into_core-core.ensures.core
    (done_due k.growth k.room reading c.args.moment (c.count.result - c.count-first.result)
    g.N.Opened.state (state_of was.history (k.shown was.keeper))
    (state_of core.history (k.shown core.keeper)) _ _ _ _ _ _ _ _ is_now inv.trying
    (rw (c.in-Ok-false.is, c.in-Ok-false.field-0-test) at c.try_next.ensures.tries) counted printed)

pub returns-in-Ok-false-clause-crashes : goal.returns-in-Ok-false-clause-crashes
returns-in-Ok-false-clause-crashes g c =
    (c.try_next.new.alone.logged.log, c.into_core-core.ensures.survives)

pub returns-in-Err-clause-tried : goal.returns-in-Err-clause-tried
returns-in-Err-clause-tried g c = λ reading is_now.
    let k = g.P.Keeper in
    let inv = c.due.invariant in
    let was = c.due.alone.logged.core in
    let core = c.into_core-core-in-Err.result in
    let last = c.report_stop-status.new.core in
    let ends = subst (λ (m : Machine _). EndsNext k.growth k.room c.args.moment
    (state_of was.history (k.shown was.keeper)) (state_of m.history (k.shown m.keeper))
    (tells g.K.Link c.due.link) (tells g.K.Link c.try_next.new.link) (output g.O.Sink c.due.out)
    (output g.O.Sink c.try_next.new.out) c.try_next.result) (sym c.into_core-core-in-Err.ensures.core)
    c.try_next.ensures.tries in
    ended_due k.growth k.room reading c.args.moment g.N.Opened.state
    (state_of was.history (k.shown was.keeper)) (state_of core.history (k.shown core.keeper))
    (state_of last.history (k.shown last.keeper)) _ _ _ _ _ _ _ c.in-Err.stop _ is_now inv.trying
    (rw c.in-Err.is at ends) c.report_stop-status.ensures.ends

pub returns-in-Err-clause-crashes : goal.returns-in-Err-clause-crashes
returns-in-Err-clause-crashes g c =
    let k = g.P.Keeper in
    let was = c.due.alone.logged.core in
    let core = c.into_core-core-in-Err.result in
    let last = c.report_stop-status.new.core in
    let ends = subst (λ (m : Machine _). EndsNext k.growth k.room c.args.moment
    (state_of was.history (k.shown was.keeper)) (state_of m.history (k.shown m.keeper))
    (tells g.K.Link c.due.link) (tells g.K.Link c.try_next.new.link) (output g.O.Sink c.due.out)
    (output g.O.Sink c.try_next.new.out) c.try_next.result) (sym c.into_core-core-in-Err.ensures.core)
    c.try_next.ensures.tries in
    stopped_survives k.growth k.room (base_of k.growth k.room g.N.Opened.state) c.args.moment
    (state_of was.history (k.shown was.keeper)) (given g.N.Opened.state.history)
    c.try_next.new.alone.logged.log g.N.Opened.crashes (standing_by k.shown k.crashes core)
    (standing_by k.shown k.crashes last) _ _ _ _ _ c.in-Err.stop _ c.into_core-core-in-Err.ensures.survives
    (rw c.in-Err.is at ends) c.report_stop-status.ensures.ends c.report_stop-status.ensures.time
