use Rattle.std.proofs.Common.{sym}
use Rattle.fedi_town.specs.Objects.{makes, rewrite_act, tombstone_of}
use Rattle.fedi_register.proofs.Once.{map_at_once, map_at_none}
use Rattle.fedi_register.proofs.applying.make_tombstone.Goals as goal

pub returns-in-Some : goal.returns-in-Some
returns-in-Some c =
    let change = rewrite_act (tombstone_of c.args.kind c.args.stamp) in
    map_at_once (makes c.args.object.now) change c.args.acts.now c.in-Some.place c.make_tombstone.new.self c.index-acts-place.result
    c.requires.once (sym c.in-Some.ensures) c.make_tombstone.ensures

pub returns-in_default : goal.returns-in_default
returns-in_default c = map_at_none (makes c.args.object.now) (rewrite_act (tombstone_of c.args.kind c.args.stamp)) c.args.acts.now (sym c.in_default.ensures)
