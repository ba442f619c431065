use Rattle.std.proofs.Common.{sym, ◌∙◌}
use Rattle.fedi_hall.proofs.Attempting.{is_claimed_at, release_grown, release_turn}
use Rattle.fedi_hall.proofs.delivering.release_in_turn.Goals as goal

pub release-requires : goal.release-requires
release-requires g c = record {
  claimed = is_claimed_at c.number-by.result _ _ _ c.take-held.result.value.log c.args.claim c.number-by.ensures c.take-held.ensures.value c.take-held.ensures.list c.requires.claimed;
}

pub give-requires-clause-grows : goal.give-requires-clause-grows
give-requires-clause-grows g c =
    release_grown c.number-by.result _ _ _ _ c.take-held.result.value.log c.release.new.self.log c.args.claim (c.number-by.ensures ∙ sym c.take-held.ensures.same)
    c.number-by.ensures c.take-held.ensures.value c.take-held.ensures.list c.requires.claimed c.release.ensures.released

pub returns-clause-released : goal.returns-clause-released
returns-clause-released g c =
    release_turn c.number-by.result _ _ _ c.take-held.result.value.log c.release.new.self.log _ c.args.claim
    c.number-by.ensures c.take-held.ensures.value c.give.ensures.seen c.take-held.ensures.list c.release.ensures.released
