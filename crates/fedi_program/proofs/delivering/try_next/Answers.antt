use Rattle.std.proofs.Common.{None, inl, subst, ap, ◌∙◌, ◌++◌, ◌∷◌, [], arith}
use Rattle.fedi_logged.proofs.Attempting.{own_stays}
use Rattle.fedi_logged.proofs.Own.{alone_item}
use Rattle.fedi_logged.specs.Claiming.{tried}
use Rattle.fedi_logged.specs.Endings.{BreaksOff, Writes}
use Rattle.fedi_logged.specs.Turns.{standing_by}
use Rattle.fedi_program.specs.Seen.{output}
use Rattle.fedi_program.proofs.NextLemmas.{broken_first, lacking_next, lineless_first, nothing_next}
use Rattle.fedi_program.proofs.NextLemmas.{rest_after, sent_first, standing_from, tried_first}
use Rattle.fedi_program.proofs.NextLemmas.{unkept_first}
use Rattle.fedi_program.proofs.delivering.try_next.Goals as goal

pub attempt_next-next-requires : goal.attempt_next-next-requires
attempt_next-next-requires g c =
    record { ready = (c.requires.hosted, c.requires.rest.alone) }

pub returns-in-Ok-None-clause-tries : goal.returns-in-Ok-None-clause-tries
returns-in-Ok-None-clause-tries g c =
    let k = g.P.Keeper in
    let old = c.args.alone.now.logged in
    let mid = c.attempt_next-next.new.turns.logged in
    (nothing_next k.growth k.room c.args.moment g.N.Opened.state.history
    (standing_by k.shown k.crashes old.core) (standing_by k.shown k.crashes mid.core) old.log mid.log
    _ _ c.attempt_next-next.result.0 _ c.requires.rest c.attempt_next-next.ensures.ready.1
    (standing_from k old.core mid.core c.attempt_next-next.ensures.stays)
    (rw (c.in-Ok-None.is, c.in-Ok-None.field-0-is) at c.attempt_next-next.ensures.tried)).0

pub returns-in-Ok-None-clause-rest : goal.returns-in-Ok-None-clause-rest
returns-in-Ok-None-clause-rest g c =
    let k = g.P.Keeper in
    let old = c.args.alone.now.logged in
    let mid = c.attempt_next-next.new.turns.logged in
    (nothing_next k.growth k.room c.args.moment g.N.Opened.state.history
    (standing_by k.shown k.crashes old.core) (standing_by k.shown k.crashes mid.core) old.log mid.log
    _ _ c.attempt_next-next.result.0 (output g.O.Sink c.args.out.now) c.requires.rest
    c.attempt_next-next.ensures.ready.1
    (standing_from k old.core mid.core c.attempt_next-next.ensures.stays)
    (rw (c.in-Ok-None.is, c.in-Ok-None.field-0-is) at c.attempt_next-next.ensures.tried)).1

pub returns-in-Err-clause-tries : goal.returns-in-Err-clause-tries
returns-in-Err-clause-tries g c =
    let k = g.P.Keeper in
    let old = c.args.alone.now.logged in
    let mid = c.attempt_next-next.new.turns.logged in
    lacking_next k.growth k.room c.args.moment g.N.Opened.state.history
    (standing_by k.shown k.crashes old.core) (standing_by k.shown k.crashes mid.core) old.log mid.log
    _ _ c.attempt_next-next.result.0 _ c.in-Err.field-0 c.requires.rest c.attempt_next-next.ensures.ready.1
    (standing_from k old.core mid.core c.attempt_next-next.ensures.stays)
    (rw c.in-Err.is at c.attempt_next-next.ensures.tried)

pub line_of-requires : goal.line_of-requires
line_of-requires g c =
    let old = c.args.alone.now.logged in
    let mid = c.attempt_next-next.new.turns.logged in
    let i = tried_first g.N.Opened.state.history old.core.history c.args.moment old.log mid.log _ _
    c.attempt_next-next.result.0 c.in-Ok-Some.tried c.requires.rest c.attempt_next-next.ensures.ready.1
    (rw (c.in-Ok-Some.is, c.in-Ok-Some.field-0-is) at c.attempt_next-next.ensures.tried) in
    record { claimed = (i.pair, i.has) }

pub release-requires : goal.release-requires
release-requires g c =
    let old = c.args.alone.now.logged in
    let mid = c.attempt_next-next.new.turns.logged in
    let i = tried_first g.N.Opened.state.history old.core.history c.args.moment old.log mid.log _ _
    c.attempt_next-next.result.0 c.in-Ok-Some.tried c.requires.rest c.attempt_next-next.ensures.ready.1
    (rw (c.in-Ok-Some.is, c.in-Ok-Some.field-0-is) at c.attempt_next-next.ensures.tried) in
    record { claimed = (i.pair, i.has) }

pub returns-in_default-clause-alone : goal.returns-in_default-clause-alone
returns-in_default-clause-alone g c =
    let old = c.args.alone.now.logged in
    let mid = c.attempt_next-next.new.turns.logged in
    let i = tried_first g.N.Opened.state.history old.core.history c.args.moment old.log mid.log _ _
    c.attempt_next-next.result.0 c.in-Ok-Some.tried c.requires.rest c.attempt_next-next.ensures.ready.1
    (rw (c.in-Ok-Some.is, c.in-Ok-Some.field-0-is) at c.attempt_next-next.ensures.tried) in
    alone_item None _ _ _ _ c.attempt_next-next.ensures.ready.1 (c.release.ensures.released i.pair i.has)

pub returns-in_default-clause-tries : goal.returns-in_default-clause-tries
returns-in_default-clause-tries g c =
    let k = g.P.Keeper in
    let old = c.args.alone.now.logged in
    let mid = c.attempt_next-next.new.turns.logged in
    let last = c.release.new.self in
    let i = tried_first g.N.Opened.state.history old.core.history c.args.moment old.log mid.log _ _
    c.attempt_next-next.result.0 c.in-Ok-Some.tried c.requires.rest c.attempt_next-next.ensures.ready.1
    (rw (c.in-Ok-Some.is, c.in-Ok-Some.field-0-is) at c.attempt_next-next.ensures.tried) in
    inl (lineless_first k c.args.moment old.core last.core old.log mid.log _ _ c.in-Ok-Some.tried _ i
    (standing_from k old.core last.core
    (own_stays mid.core last.core c.release.ensures.turn ∙ c.attempt_next-next.ensures.stays)))

pub record-requires-clause-claimed : goal.record-requires-clause-claimed
record-requires-clause-claimed g c =
    let old = c.args.alone.now.logged in
    let mid = c.attempt_next-next.new.turns.logged in
    let i = tried_first g.N.Opened.state.history old.core.history c.args.moment old.log mid.log _ _
    c.attempt_next-next.result.0 c.in-Ok-Some.tried c.requires.rest c.attempt_next-next.ensures.ready.1
    (rw (c.in-Ok-Some.is, c.in-Ok-Some.field-0-is) at c.attempt_next-next.ensures.tried) in
    (i.pair, i.has)

pub record-requires-clause-came : goal.record-requires-clause-came
record-requires-clause-came g c =
    rw (c.in-Ok-Some.is, c.in-Ok-Some.field-0-is) at c.attempt_next-next.ensures.may_come

pub record-requires-clause-later : goal.record-requires-clause-later
record-requires-clause-later g c =
    let old = c.args.alone.now.logged in
    let mid = c.attempt_next-next.new.turns.logged in
    let i = tried_first g.N.Opened.state.history old.core.history c.args.moment old.log mid.log _ _
    c.attempt_next-next.result.0 c.in-Ok-Some.tried c.requires.rest c.attempt_next-next.ensures.ready.1
    (rw (c.in-Ok-Some.is, c.in-Ok-Some.field-0-is) at c.attempt_next-next.ensures.tried) in
    let at = i.at in omega (arith, at)

pub returns-in-Ok-write-clause-alone : goal.returns-in-Ok-write-clause-alone
returns-in-Ok-write-clause-alone g c =
    let old = c.args.alone.now.logged in
    let mid = c.attempt_next-next.new.turns.logged in
    let i = tried_first g.N.Opened.state.history old.core.history c.args.moment old.log mid.log _ _
    c.attempt_next-next.result.0 c.in-Ok-Some.tried c.requires.rest c.attempt_next-next.ensures.ready.1
    (rw (c.in-Ok-Some.is, c.in-Ok-Some.field-0-is) at c.attempt_next-next.ensures.tried) in
    alone_item None _ _ _ _ c.attempt_next-next.ensures.ready.1
    (c.record.ensures.recorded i.pair i.has).grown

pub returns-in-Ok-write-clause-rest : goal.returns-in-Ok-write-clause-rest
returns-in-Ok-write-clause-rest g c =
    let k = g.P.Keeper in
    let old = c.args.alone.now.logged in
    let mid = c.attempt_next-next.new.turns.logged in
    let last = c.record.new.self in
    let t = c.in-Ok-Some.tried in
    let i = tried_first g.N.Opened.state.history old.core.history c.args.moment old.log mid.log _ _
    c.attempt_next-next.result.0 t c.requires.rest c.attempt_next-next.ensures.ready.1
    (rw (c.in-Ok-Some.is, c.in-Ok-Some.field-0-is) at c.attempt_next-next.ensures.tried) in
    let same = standing_from k old.core mid.core c.attempt_next-next.ensures.stays in
    let y = rw c.in-Ok-record.is at (c.record.ensures.machine i.pair i.has) in
    let grown = (rw c.in-Ok-record.is at (c.record.ensures.recorded i.pair i.has)).grown in
    rest_after g.N.Opened.state.history old.core.history last.core.history c.args.moment old.log
    mid.log last.log i.pair t.claim t.came c.requires.rest i.back grown
    (y.kept.history ∙ ap (λ s. s.state.history ++ tried i.pair t.came c.args.moment ∷ []) same) y.legal

pub returns-in-Ok-write-clause-tries : goal.returns-in-Ok-write-clause-tries
returns-in-Ok-write-clause-tries g c =
    let k = g.P.Keeper in
    let old = c.args.alone.now.logged in
    let mid = c.attempt_next-next.new.turns.logged in
    let t = c.in-Ok-Some.tried in
    let i = tried_first g.N.Opened.state.history old.core.history c.args.moment old.log mid.log _ _
    c.attempt_next-next.result.0 t c.requires.rest c.attempt_next-next.ensures.ready.1
    (rw (c.in-Ok-Some.is, c.in-Ok-Some.field-0-is) at c.attempt_next-next.ensures.tried) in
    let line = c.deref.ensures.value ∙ (rw c.in-Ok.is at (c.line_of.ensures i.pair i.has)) in
    sent_first k c.args.moment old.core mid.core c.record.new.self.core old.log mid.log _ _ t _ _ i
    (standing_from k old.core mid.core c.attempt_next-next.ensures.stays)
    (rw c.in-Ok-record.is at (c.record.ensures.machine i.pair i.has))
    (subst (λ text. Writes (output g.O.Sink c.args.out.now) (output g.O.Sink c.write.new.out) text)
    line (rw c.in-Ok-write.is at c.write.ensures.written))

pub returns-in-Ok-record-clause-tries : goal.returns-in-Ok-record-clause-tries
returns-in-Ok-record-clause-tries g c =
    let k = g.P.Keeper in
    let old = c.args.alone.now.logged in
    let mid = c.attempt_next-next.new.turns.logged in
    let t = c.in-Ok-Some.tried in
    let i = tried_first g.N.Opened.state.history old.core.history c.args.moment old.log mid.log _ _
    c.attempt_next-next.result.0 t c.requires.rest c.attempt_next-next.ensures.ready.1
    (rw (c.in-Ok-Some.is, c.in-Ok-Some.field-0-is) at c.attempt_next-next.ensures.tried) in
    let line = c.deref.ensures.value ∙ (rw c.in-Ok.is at (c.line_of.ensures i.pair i.has)) in
    inl (broken_first k c.args.moment old.core mid.core c.record.new.self.core old.log mid.log _ _ t
    _ _ i (standing_from k old.core mid.core c.attempt_next-next.ensures.stays)
    (rw c.in-Ok-record.is at (c.record.ensures.machine i.pair i.has))
    (subst (λ text. BreaksOff (output g.O.Sink c.args.out.now) (output g.O.Sink c.write.new.out) []
    text) line (rw c.in-Err-write.is at c.write.ensures.broken)))

pub returns-clause-tries : goal.returns-clause-tries
returns-clause-tries g c =
    let k = g.P.Keeper in
    let old = c.args.alone.now.logged in
    let mid = c.attempt_next-next.new.turns.logged in
    let t = c.in-Ok-Some.tried in
    let i = tried_first g.N.Opened.state.history old.core.history c.args.moment old.log mid.log _ _
    c.attempt_next-next.result.0 t c.requires.rest c.attempt_next-next.ensures.ready.1
    (rw (c.in-Ok-Some.is, c.in-Ok-Some.field-0-is) at c.attempt_next-next.ensures.tried) in
    rw c.stop_of.ensures (inl (unkept_first k c.args.moment old.core mid.core
    c.record.new.self.core old.log mid.log _ _ t _ c.in-Err-record.fault i
    (standing_from k old.core mid.core c.attempt_next-next.ensures.stays)
    (rw c.in-Err-record.is at (c.record.ensures.machine i.pair i.has))))

pub returns-in-Ok-record-clause-alone : goal.returns-in-Ok-record-clause-alone
returns-in-Ok-record-clause-alone g c =
    let old = c.args.alone.now.logged in
    let mid = c.attempt_next-next.new.turns.logged in
    let i = tried_first g.N.Opened.state.history old.core.history c.args.moment old.log mid.log _ _
    c.attempt_next-next.result.0 c.in-Ok-Some.tried c.requires.rest c.attempt_next-next.ensures.ready.1
    (rw (c.in-Ok-Some.is, c.in-Ok-Some.field-0-is) at c.attempt_next-next.ensures.tried) in
    alone_item None _ _ _ _ c.attempt_next-next.ensures.ready.1
    (c.record.ensures.recorded i.pair i.has).grown

pub returns-clause-alone : goal.returns-clause-alone
returns-clause-alone g c =
    let old = c.args.alone.now.logged in
    let mid = c.attempt_next-next.new.turns.logged in
    let i = tried_first g.N.Opened.state.history old.core.history c.args.moment old.log mid.log _ _
    c.attempt_next-next.result.0 c.in-Ok-Some.tried c.requires.rest c.attempt_next-next.ensures.ready.1
    (rw (c.in-Ok-Some.is, c.in-Ok-Some.field-0-is) at c.attempt_next-next.ensures.tried) in
    alone_item None _ _ _ _ c.attempt_next-next.ensures.ready.1
    (c.record.ensures.recorded i.pair i.has).grown
