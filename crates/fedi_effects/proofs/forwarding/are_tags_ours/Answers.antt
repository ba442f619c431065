use Rattle.std.proofs.Common.{◌∙◌}
use Rattle.fedi_town.specs.Forwarding.{is_ours}
use Rattle.fedi_effects.proofs.Forwards.{any_through}
use Rattle.fedi_effects.proofs.forwarding.are_tags_ours.Goals as goal

pub returns : goal.returns
returns c = c.is_any_tag_ours.ensures ∙ any_through (is_ours c.args.facts.now.town) c.args.tags.now
