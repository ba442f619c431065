-- A shelf may cross threads.
use denote.Param.Send.{IsSend, view_send, sendable}
use denote.Param.SendFields.{declared_send}
use Rattle.std.proofs.Crossing.{crosses}
use Rattle.fedi_effects.proofs.Sent.{facts_send}
use Rattle.fedi_index.proofs.lists.Lists.TheSendSync.{the_send as lists_send}
use Rattle.fedi_index.specs.contracts.shelf.IndexedShelf as IndexedShelf
use Rattle.fedi_index.specs.contracts.shelf.IndexedShelf.TheInside as Inside

inside_send : IsSend Inside.the_row
inside_send = declared_send Inside.the_type (search (facts_send, lists_send, crosses, sendable) depth 20)

pub shelf_send : IsSend IndexedShelf.the_row
shelf_send = view_send _ _ _ _ _ inside_send
