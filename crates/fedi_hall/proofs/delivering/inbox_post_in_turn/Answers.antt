use Rattle.std.proofs.Common.{Some, refl}
use Rattle.fedi_hall.proofs.Attempting.{goes_after, grows_none, is_claimed_at, post_turn}
use Rattle.fedi_hall.proofs.delivering.inbox_post_in_turn.Goals as goal

pub inbox_post-text-requires : goal.inbox_post-text-requires
inbox_post-text-requires g c = record {
  claimed = (Some _, is_claimed_at _ _ _ _ c.take-held.result.value.log c.args.claim.now refl c.take-held.ensures.value c.take-held.ensures.list c.requires.claimed);
}

pub give-requires-clause-grows : goal.give-requires-clause-grows
give-requires-clause-grows g c = grows_none _ _ _ c.take-held.ensures.value

pub returns-clause-goes : goal.returns-clause-goes
returns-clause-goes g c = goes_after _ _ _ c.take-held.result.value.log _ c.take-held.ensures.value c.give.ensures.seen c.take-held.ensures.list

pub returns-clause-post : goal.returns-clause-post
returns-clause-post g c =
    post_turn _ _ _ c.take-held.result.value.log _ c.args.claim.now c.args.inbox.now c.args.body.now c.inbox_post-text.result c.take-held.ensures.value c.give.ensures.seen
    c.take-held.ensures.list c.inbox_post-text.ensures
