use Rattle.std.proofs.Common.{take}
use Rattle.fedi_index.specs.Growing.{HasRoom, is_inbox}
use Rattle.fedi_index.specs.Lists.{IsRoomier}
use Rattle.fedi_index.proofs.growing.reserve_inboxes.Given as goal

abbrev pub invariant-loop-recipient : goal.invariant-loop-recipient
invariant-loop-recipient l =
    IsRoomier l.fn.lists l.lists × HasRoom (is_inbox l.facts.town.host (take l.recipient-index l.recipients)) 2 l.lists
