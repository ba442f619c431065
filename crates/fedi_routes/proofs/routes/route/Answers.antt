use Rattle.std.specs.Prelude.{option_copied}
use Rattle.fedi_routes.proofs.AskLemmas.{asked_once, postable}
use Rattle.fedi_routes.proofs.routes.route.Goals as goal

pub returns-in-Some-clause-once : goal.returns-in-Some-clause-once
returns-in-Some-clause-once c = asked_once (option_copied c.args.host) c.args.caller.now c.args.request.now c.args.body.now

pub returns-in-Some-clause-postable : goal.returns-in-Some-clause-postable
returns-in-Some-clause-postable c =
    postable (option_copied c.args.host) c.args.caller.now c.args.request.now c.args.body.now c.in-Some.place c.ask_at.result c.ask_at.ensures.asks
