use Rattle.std.proofs.Common.{rules}
use Rattle.std.specs.Prelude.{Err}
use Rattle.serde_json.specs.View.{view}
use Rattle.fedi_reading.specs.Deliveries.{reads_delivered}
use Rattle.fedi_reading.specs.declared.shape_fault.ShapeFault.TheVariants.{NotObject, BadContext, NoType}
use Rattle.fedi_reading.proofs.DeliveryFaultLemmas.{delivery_fault}
use Rattle.fedi_reading.proofs.FaultLemmas.{least_of, none_of}
use Rattle.fedi_reading.proofs.delivered.read_delivered.Goals as goal

pub returns-then-not-is_object-clause-exact : goal.returns-then-not-is_object-clause-exact
unfolding reads_delivered
returns-then-not-is_object-clause-exact c = search rules

pub returns-then-not-is_object-clause-least : goal.returns-then-not-is_object-clause-least
returns-then-not-is_object-clause-least c = least_of _ (Err NotObject) _ (delivery_fault (view c.args.value.now)) (returns-then-not-is_object-clause-exact c)

pub returns-then-not-has_context-clause-exact : goal.returns-then-not-has_context-clause-exact
unfolding reads_delivered
returns-then-not-has_context-clause-exact c = search rules

pub returns-then-not-has_context-clause-least : goal.returns-then-not-has_context-clause-least
returns-then-not-has_context-clause-least c = least_of _ (Err BadContext) _ (delivery_fault (view c.args.value.now)) (returns-then-not-has_context-clause-exact c)

pub returns-in-None-clause-exact : goal.returns-in-None-clause-exact
unfolding reads_delivered
returns-in-None-clause-exact c = search rules

pub returns-in-None-clause-least : goal.returns-in-None-clause-least
returns-in-None-clause-least c = least_of _ (Err NoType) _ (delivery_fault (view c.args.value.now)) (returns-in-None-clause-exact c)

pub returns-in-Some-clause-exact : goal.returns-in-Some-clause-exact
unfolding reads_delivered
returns-in-Some-clause-exact c = search rules

pub returns-in-Some-clause-least : goal.returns-in-Some-clause-least
returns-in-Some-clause-least c = least_of _ c.read_sent.result _ (delivery_fault (view c.args.value.now)) (returns-in-Some-clause-exact c)

pub returns-in-Some-clause-none : goal.returns-in-Some-clause-none
returns-in-Some-clause-none c = none_of _ c.read_sent.result _ (delivery_fault (view c.args.value.now)) (returns-in-Some-clause-exact c)
