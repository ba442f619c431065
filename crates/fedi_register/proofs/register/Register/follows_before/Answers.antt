use Rattle.std.proofs.Common.{rules}
use Rattle.fedi_town.specs.Relations.{is_follow_of}
use Rattle.fedi_register.proofs.Places.{follows_narrower}
use Rattle.fedi_register.proofs.register.Register.follows_before.Goals as goal

pub returns : goal.returns
returns c = (rw c.text.ensures.value at (c.is_related_before.ensures (is_follow_of c.args.a.now c.args.b.now) (search rules))) (follows_narrower c.args.a.now c.args.b.now)
