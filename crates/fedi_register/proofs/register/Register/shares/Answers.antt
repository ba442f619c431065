use Rattle.std.proofs.Common.{rules}
use Rattle.fedi_town.specs.States.{is_announce_of}
use Rattle.fedi_register.proofs.Places.{shares_narrower}
use Rattle.fedi_register.proofs.register.Register.shares.Goals as goal

pub returns : goal.returns
returns c = c.relates.ensures (is_announce_of c.args.a.now c.args.id.now) (search rules) (shares_narrower c.args.a.now c.args.id.now)
