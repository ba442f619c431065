use Rattle.std.proofs.Common.{sym, ◌∙◌}
use Rattle.fedi_town.specs.Relations.{has_activity_id}
use Rattle.fedi_register.proofs.Inboxes.{longer_at, more}
use Rattle.fedi_register.proofs.Once.{map_at_once, map_at_none}
use Rattle.fedi_register.proofs.applying.add_inbox.Goals as goal

pub returns-in-Some : goal.returns-in-Some
returns-in-Some c =
    map_at_once (has_activity_id c.args.id.now) (more c.args.owner.now.value) c.args.acts.now c.in-Some.place c.set_recipients.new.self c.index-acts-place.result
    c.requires.once (sym c.in-Some.ensures)
    (c.set_recipients.ensures ∙ longer_at c.args.id.now c.args.owner.now.value c.args.acts.now c.in-Some.place c.args.recipients c.index-acts-place.result c.requires.longer (sym c.in-Some.ensures))

pub returns-in_default : goal.returns-in_default
returns-in_default c = map_at_none (has_activity_id c.args.id.now) (more c.args.owner.now.value) c.args.acts.now (sym c.in_default.ensures)
