use Rattle.std.proofs.Common.{rules}
use Rattle.std.specs.Prelude.{Err}
use Rattle.serde_json.specs.View.{view}
use Rattle.fedi_reading.specs.Actors.{reads_actor}
use Rattle.fedi_reading.specs.declared.shape_fault.ShapeFault.TheVariants.{NotObject, NoId, NoObject}
use Rattle.fedi_reading.proofs.ActorFaultLemmas.{actor_fault}
use Rattle.fedi_reading.proofs.FaultLemmas.{least_of, none_of}
use Rattle.fedi_reading.proofs.actors.read_actor.Goals as goal

pub returns-then-not-is_object-clause-exact : goal.returns-then-not-is_object-clause-exact
unfolding reads_actor
returns-then-not-is_object-clause-exact c = search rules

pub returns-then-not-is_object-clause-least : goal.returns-then-not-is_object-clause-least
returns-then-not-is_object-clause-least c = least_of _ (Err NotObject) _ (actor_fault (view c.args.value.now)) (returns-then-not-is_object-clause-exact c)

pub returns-in_default-clause-exact : goal.returns-in_default-clause-exact
unfolding reads_actor
returns-in_default-clause-exact c = search rules

pub returns-in_default-clause-least : goal.returns-in_default-clause-least
returns-in_default-clause-least c = least_of _ (Err NoId) _ (actor_fault (view c.args.value.now)) (returns-in_default-clause-exact c)

pub returns-in_default-reference_at-clause-exact : goal.returns-in_default-reference_at-clause-exact
unfolding reads_actor
returns-in_default-reference_at-clause-exact c = search rules

pub returns-in_default-reference_at-clause-least : goal.returns-in_default-reference_at-clause-least
returns-in_default-reference_at-clause-least c = least_of _ (Err NoObject) _ (actor_fault (view c.args.value.now)) (returns-in_default-reference_at-clause-exact c)

pub returns-clause-exact : goal.returns-clause-exact
unfolding reads_actor
returns-clause-exact c = search rules

pub returns-clause-least : goal.returns-clause-least
returns-clause-least c = least_of _ c.read_names.result _ (actor_fault (view c.args.value.now)) (returns-clause-exact c)

pub returns-clause-none : goal.returns-clause-none
returns-clause-none c = none_of _ c.read_names.result _ (actor_fault (view c.args.value.now)) (returns-clause-exact c)
