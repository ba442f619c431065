use Rattle.std.proofs.Common.{◌≡◌, take, arith}
use Rattle.std.proofs.lemmas.List.{take_all}
use Rattle.std.proofs.lemmas.Result.{err_from_is_err_and}
use Rattle.serde_json.specs.View.{view}
use Rattle.fedi_reading.proofs.ReadingLemmas.{none_read, read_past, read_more, finds_bad, map_take_more}
use Rattle.fedi_reading.proofs.audience.add_entries.Goals as goal
use Rattle.fedi_reading.proofs.audience.add_entries.Goals.{in-Some+in_ok-add_new, in_default}

pub loop-entry-init : goal.loop-entry-init
loop-entry-init c = none_read c.args.kept.now

pub returns-in_err-iri-clause-bad : goal.returns-in_err-iri-clause-bad
returns-in_err-iri-clause-bad c =
    let p = err_from_is_err_and c.from_residual.result c.from_residual.ensures.1 in
    rw (p.1, p.2) (λ h. finds_bad view c.args.entries.now c.loop-entry.entry-index c.entry-item.result c.in_err-iri.field-0.0 c.loop-entry-test.true (rw (← c.entry-item.is) (c.in_err-iri.ensures h)))

pub loop-entry-preserved : goal.loop-entry-preserved
loop-entry-preserved c =
    rw (map_take_more view c.args.entries.now c.loop-entry.entry-index c.entry-item.result c.loop-entry-test.true, ← c.entry-item.is)
    (elim c.match-branch-2.branch [
      | in-Some+in_ok-add_new w ↦ rw (w.kept-is, w.in_ok-add_new.ensures) (read_more _ _ _ _ _ c.loop-entry.invariant (rw (← w.in-Some.is) c.in_ok-iri.ensures))
      | in_default w ↦ rw w.kept-is (read_past _ _ _ _ c.loop-entry.invariant (rw (← w.in_default.is) c.in_ok-iri.ensures))
    ])

pub returns : goal.returns
returns c =
    let all : take c.loop-entry.entry-index c.args.entries.now ≡ c.args.entries.now = take_all _ _ (omega arith) in
    let read = rw all at c.loop-entry.invariant in
    record { bad = read.good; added = read.once }
