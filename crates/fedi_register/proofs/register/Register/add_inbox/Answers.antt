use Rattle.std.proofs.Common.{◌≡◌, subst, sym, ap}
use Rattle.std.specs.Prelude.{Some}
use Rattle.fedi_town.specs.Lists.{PassesOnce}
use Rattle.fedi_town.specs.Relations.{has_activity_id}
use Rattle.fedi_register.specs.Changes.{longer_of}
use Rattle.fedi_register.proofs.Indexed.{indexed_inbox}
use Rattle.fedi_register.proofs.register.Register.add_inbox.Goals as goal

pub add_inbox_in_place-requires-clause-once : goal.add_inbox_in_place-requires-clause-once
add_inbox_in_place-requires-clause-once c = subst (PassesOnce (has_activity_id c.args.id.now)) (sym (ap (λ r. r.acts) c.self.view_is)) c.requires.once

pub add_inbox_in_place-requires-clause-longer : goal.add_inbox_in_place-requires-clause-longer
add_inbox_in_place-requires-clause-longer c =
    subst (λ acts. longer_of c.args.id.now c.args.owner.now.value acts ≡ Some c.args.recipients) (sym (ap (λ r. r.acts) c.self.view_is)) c.requires.longer

pub add_inbox_in_place-requires-clause-ids : goal.add_inbox_in_place-requires-clause-ids
add_inbox_in_place-requires-clause-ids c = c.self.invariant.0.id

pub invariant_of-self : goal.invariant_of-self
invariant_of-self c = (
  rw c.add_inbox_in_place.ensures.items (indexed_inbox c.self.inside.seed c.args.id.now c.args.owner.now.value _ _ _ _ _ _ _ _ c.self.invariant.0),
  rw (c.add_inbox_in_place.ensures.len, c.add_inbox_in_place.ensures.capacity) c.self.invariant.1,
  rw c.add_inbox_in_place.ensures.len c.self.invariant.2,
  c.self.invariant.3,
  c.self.invariant.4,
  c.self.invariant.5,
  c.self.invariant.6,
  c.self.invariant.7,
  c.self.invariant.8,
)
