use Rattle.std.proofs.Common.{sym, ◌∙◌}
use Rattle.fedi_log.specs.Keeping.{base_of}
use Rattle.fedi_hall.proofs.Attempting.{is_claimed_at, record_grown, record_turn}
use Rattle.fedi_hall.proofs.delivering.record_in_turn.Goals as goal

pub record-recorded-requires-clause-claimed : goal.record-recorded-requires-clause-claimed
record-recorded-requires-clause-claimed g c =
    is_claimed_at c.number-by.result _ _ _ c.take-held.result.value.log c.args.claim c.number-by.ensures c.take-held.ensures.value c.take-held.ensures.list c.requires.claimed

pub give-requires-clause-grows : goal.give-requires-clause-grows
give-requires-clause-grows g c =
    record_grown (base_of g.P.Keeper.growth g.P.Keeper.room g.O.Opened.state) c.number-by.result _ _ _ _ c.take-held.result.value.log c.record-recorded.new.self.log c.args.claim
    c.args.came c.args.moment c.record-recorded.result (c.number-by.ensures ∙ sym c.take-held.ensures.same) c.number-by.ensures c.take-held.ensures.value c.take-held.ensures.list c.requires.claimed
    c.record-recorded.ensures.recorded

pub returns-clause-recorded : goal.returns-clause-recorded
returns-clause-recorded g c =
    record_turn (base_of g.P.Keeper.growth g.P.Keeper.room g.O.Opened.state) c.number-by.result _ _ _ c.take-held.result.value.log c.record-recorded.new.self.log _ c.args.claim
    c.args.came c.args.moment c.front-front.result c.record-recorded.result c.number-by.ensures c.take-held.ensures.value c.give.ensures.seen c.take-held.ensures.list
    c.front-front.ensures c.record-recorded.ensures.recorded
