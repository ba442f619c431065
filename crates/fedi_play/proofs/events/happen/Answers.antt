use Rattle.std.proofs.Common.{◌∙◌, sym}
use Rattle.fedi_play.proofs.Hosts.{happened_hosts}
use Rattle.fedi_play.proofs.events.happen.Goals as goal

pub returns-in_ok-put_happened-in-Ok-clause-hosts : goal.returns-in_ok-put_happened-in-Ok-clause-hosts
returns-in_ok-put_happened-in-Ok-clause-hosts c =
    c.requires.hosts ∙ sym (happened_hosts c.args.world.now c.step.new.self c.in-Some.event c.in-Ok.what c.in-Ok.ensures.happened)
