use Rattle.fedi_register.specs.Changes.{accept_one, end_both, undo_one}
use Rattle.fedi_register.proofs.applying.apply_effect.Goals as goal

pub update-requires-clause-once : goal.update-requires-clause-once
update-requires-clause-once c = c.requires.once c.in-Update.object

pub make_tombstone-requires-clause-once : goal.make_tombstone-requires-clause-once
make_tombstone-requires-clause-once c = c.requires.once c.in-Delete.object

pub returns-in-EndFollows : goal.returns-in-EndFollows
returns-in-EndFollows c = rw (c.in-EndFollows.is) c.end_follows.ensures.acts

pub returns-in-EndBoth : goal.returns-in-EndBoth
unfolding end_both
returns-in-EndBoth c = rw (c.in-EndBoth.is) c.end_both.ensures

pub returns-in-Accept : goal.returns-in-Accept
unfolding accept_one
returns-in-Accept c = rw (c.in-Accept.is) c.accept.ensures

pub returns-in-Undo : goal.returns-in-Undo
unfolding undo_one
returns-in-Undo c = rw (c.in-Undo.is) c.undo.ensures
