use Rattle.fedi_routes.proofs.WebfingerLemmas.{cut_at_last}
use Rattle.fedi_routes.proofs.webfinger.account_parts.Goals as goal

pub returns : goal.returns
returns c = cut_at_last c.args.account.now c.rsplit_once.result c.rsplit_once.ensures.cases
