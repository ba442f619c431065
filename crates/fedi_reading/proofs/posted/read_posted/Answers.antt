use Rattle.std.proofs.Common.{rules}
use Rattle.std.specs.Prelude.{Ok, Err}
use Rattle.serde_json.specs.View.{view}
use Rattle.fedi_reading.specs.Reading.{reads_posted}
use Rattle.fedi_reading.specs.declared.shape_fault.ShapeFault.TheVariants.{NotObject, BadContext}
use Rattle.fedi_reading.proofs.FaultLemmas.{posted_fault, least_of, none_of}
use Rattle.fedi_reading.proofs.posted.read_posted.Goals as goal

pub returns-then-not-is_object-clause-exact : goal.returns-then-not-is_object-clause-exact
unfolding reads_posted
returns-then-not-is_object-clause-exact c = search rules

pub returns-then-not-is_object-clause-least : goal.returns-then-not-is_object-clause-least
returns-then-not-is_object-clause-least c = least_of _ (Err NotObject) _ (posted_fault (view c.args.value.now)) (returns-then-not-is_object-clause-exact c)

pub returns-then-not-has_context-clause-exact : goal.returns-then-not-has_context-clause-exact
unfolding reads_posted
returns-then-not-has_context-clause-exact c = search rules

pub returns-then-not-has_context-clause-least : goal.returns-then-not-has_context-clause-least
returns-then-not-has_context-clause-least c = least_of _ (Err BadContext) _ (posted_fault (view c.args.value.now)) (returns-then-not-has_context-clause-exact c)

pub returns-in_err-object-clause-exact : goal.returns-in_err-object-clause-exact
unfolding reads_posted
returns-in_err-object-clause-exact c = search rules

pub returns-in_err-object-clause-least : goal.returns-in_err-object-clause-least
returns-in_err-object-clause-least c = least_of _ _ _ (posted_fault (view c.args.value.now)) (returns-in_err-object-clause-exact c)

pub returns-clause-exact : goal.returns-clause-exact
unfolding reads_posted
returns-clause-exact c = search rules

pub returns-clause-none : goal.returns-clause-none
returns-clause-none c = none_of _ (Ok c.in_ok-create.field-0) _ (posted_fault (view c.args.value.now)) (returns-clause-exact c)
