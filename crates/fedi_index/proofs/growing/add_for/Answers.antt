use Rattle.fedi_index.proofs.Positions.{candidates_added}
use Rattle.fedi_index.proofs.growing.add_for.Goals as goal

pub returns-in-Some-clause-added : goal.returns-in-Some-clause-added
returns-in-Some-clause-added c = rw c.in-Some.is (λ acts at are. candidates_added c.args.facts.now.town.host acts c.in-Some.act.now c.args.place c.args.lists.now _ at c.add_to_each.ensures are)
