use Rattle.fedi_routes.proofs.WebfingerLemmas.{after_front_stripped}
use Rattle.fedi_routes.proofs.webfinger.after_front.Goals as goal

pub returns : goal.returns
returns c = after_front_stripped c.args.front.now c.args.text.now c.strip_prefix.result c.strip_prefix.ensures.cases
