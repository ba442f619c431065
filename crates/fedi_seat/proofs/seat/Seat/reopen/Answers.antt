use Rattle.std.proofs.Common.{◌≡◌, ◌∙◌, List, ap, subst, sym}
use Rattle.std.specs.Prelude.{is_some, true}
use Rattle.fedi_log.specs.Log.{given}
use Rattle.fedi_objects.specs.declared.entry.Entry.{Entry}
use Rattle.fedi_town.specs.Histories.{town}
use Rattle.fedi_seat.proofs.Seating.{log_opened, seat_opened, seat_same}
use Rattle.fedi_seat.proofs.Serving.{of_reported}
use Rattle.fedi_seat.proofs.seat.Seat.reopen.Goals as goal

-- ---- the history is opened again

pub invariant_of-self : goal.invariant_of-self
invariant_of-self g c =
    let middle = c.settle.new.self in
    let now = c.reopen.new.self in
    let same : now.history ≡ c.self.inside.core.history =
    of_reported (g.P.Keeper.shown middle.keeper).records (g.met.P.Calm.reports middle.keeper) c.reopen.ensures.history
    ∙ c.settle.ensures.history in
    seat_opened now.history c.of.result.value.history now.rows c.new.result c.new.ensures
    (ap (λ f. f.history) c.of.ensures ∙ c.facts.ensures.history) c.in-Ok-reopen.ensures.unclaimed c.facts.ensures.legal
    (subst (λ (h : List Entry). is_some (town h).host ≡ true) (sym same) c.self.invariant.hosted)

pub returns-in-Ok-reopen-clause-opened : goal.returns-in-Ok-reopen-clause-opened
returns-in-Ok-reopen-clause-opened g c =
    let middle = c.settle.new.self in
    let same =
    of_reported (g.P.Keeper.shown middle.keeper).records (g.met.P.Calm.reports middle.keeper) c.reopen.ensures.history
    ∙ c.settle.ensures.history in
    log_opened c.reopen.new.self.history c.of.result.value.history c.new.result c.new.ensures
    (ap (λ f. f.history) c.of.ensures ∙ c.facts.ensures.history)
    ∙ ap given same ∙ ap (λ m. given m.core.history) c.self.view_is

-- ---- there was no memory

pub invariant_of-self-in-Err-Memory : goal.invariant_of-self-in-Err-Memory
invariant_of-self-in-Err-Memory g c =
    seat_same c.self.inside.core.history c.reopen.new.self.history c.self.inside.core.rows
    c.reopen.new.self.rows _ (c.in-Err-Memory.ensures.same ∙ c.settle.ensures.history)
    (c.in-Err-Memory.ensures.rows ∙ c.settle.ensures.rows) c.self.invariant
