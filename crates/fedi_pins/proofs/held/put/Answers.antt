use Rattle.std.proofs.Common.{rules, ◌≡◌, None, Some}
use Rattle.std.proofs.lemmas.Map.Text.{btree_map_updates_str}
use Rattle.fedi_pins.specs.Maps.{place_in}
use Rattle.fedi_pins.proofs.Positions.{put_back, put_new}
use Rattle.fedi_pins.proofs.held.put.Goals as goal

pub returns-in_ok-insert : goal.returns-in_ok-insert
returns-in_ok-insert c =
    let there : place_in c.args.held.now c.args.id.now ≡ Some c.in-Some.first = search rules in
    put_back (place_in c.args.held.now) (place_in c.insert.new.self) (place_in c.insert-in-Some.new.self) c.args.id.now c.args.place c.in-Some.first there
    (btree_map_updates_str c.args.id.now c.args.held.now c.insert.new.self _ c.in_ok-first.ensures.updates)
    (btree_map_updates_str c.args.id.now c.insert.new.self c.insert-in-Some.new.self _ c.in_ok-insert.ensures.updates)

pub returns-in_default : goal.returns-in_default
returns-in_default c =
    let none : place_in c.args.held.now c.args.id.now ≡ None = search rules in
    put_new (place_in c.args.held.now) (place_in c.insert.new.self) c.args.id.now c.args.place none
    (btree_map_updates_str c.args.id.now c.args.held.now c.insert.new.self _ c.in_ok-first.ensures.updates)
