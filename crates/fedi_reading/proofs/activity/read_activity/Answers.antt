use Rattle.std.proofs.Common.{rules}
use Rattle.serde_json.specs.View.{view}
use Rattle.fedi_reading.specs.Activities.{reads_activity}
use Rattle.fedi_reading.proofs.ActivityFaultLemmas.{activity_fault}
use Rattle.fedi_reading.proofs.FaultLemmas.{least_of, none_of}
use Rattle.fedi_reading.proofs.activity.read_activity.Goals as goal

pub returns-in-None-clause-exact : goal.returns-in-None-clause-exact
unfolding reads_activity
returns-in-None-clause-exact c = search rules

pub returns-in-None-clause-least : goal.returns-in-None-clause-least
returns-in-None-clause-least c = least_of _ c.read_posted.result _ (activity_fault c.args.author.now (view c.args.value.now)) (returns-in-None-clause-exact c)

pub returns-in-None-clause-none : goal.returns-in-None-clause-none
returns-in-None-clause-none c = none_of _ c.read_posted.result _ (activity_fault c.args.author.now (view c.args.value.now)) (returns-in-None-clause-exact c)

pub returns-in-Some-clause-exact : goal.returns-in-Some-clause-exact
unfolding reads_activity
returns-in-Some-clause-exact c = search rules

pub returns-in-Some-clause-least : goal.returns-in-Some-clause-least
returns-in-Some-clause-least c = least_of _ c.read_kind.result _ (activity_fault c.args.author.now (view c.args.value.now)) (returns-in-Some-clause-exact c)

pub returns-in-Some-clause-none : goal.returns-in-Some-clause-none
returns-in-Some-clause-none c = none_of _ c.read_kind.result _ (activity_fault c.args.author.now (view c.args.value.now)) (returns-in-Some-clause-exact c)
