use Rattle.std.proofs.Common.{rules}
use Rattle.fedi_town.specs.States.{is_like_of}
use Rattle.fedi_register.proofs.Places.{likes_narrower}
use Rattle.fedi_register.proofs.register.Register.likes.Goals as goal

pub returns : goal.returns
returns c = c.relates.ensures (is_like_of c.args.a.now c.args.id.now) (search rules) (likes_narrower c.args.a.now c.args.id.now)
