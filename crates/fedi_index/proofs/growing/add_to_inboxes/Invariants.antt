use Rattle.std.proofs.Common.{take}
use Rattle.fedi_index.specs.Growing.{is_inbox}
use Rattle.fedi_index.specs.Lists.{AddsOnce}
use Rattle.fedi_index.proofs.growing.add_to_inboxes.Given as goal

abbrev pub invariant-loop-recipient : goal.invariant-loop-recipient
invariant-loop-recipient l = AddsOnce (is_inbox l.facts.town.host (take l.recipient-index l.recipients)) l.place l.fn.lists l.lists
