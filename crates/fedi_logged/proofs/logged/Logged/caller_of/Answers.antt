use Rattle.fedi_logged.proofs.Callers.{caller_opened}
use Rattle.fedi_logged.proofs.logged.Logged.caller_of.Goals as goal

pub returns : goal.returns
returns g c =
    caller_opened g.O.Opened.state.history c.self.inside.core.history c.args.request.now
    c.args.body.now c.caller_of.result c.self.invariant.3
    (rw c.credentials.ensures at c.caller_of.ensures.caller)
