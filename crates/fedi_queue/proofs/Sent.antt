-- A queue may cross threads.
use denote.Param.Send.{IsSend, view_send, sendable}
use denote.Param.SendFields.{declared_send, variants_send}
use Rattle.std.proofs.Crossing.{crosses}
use Rattle.fedi_register.proofs.KeptSent.{iri_send}
use Rattle.fedi_objects.proofs.entry.Entry.TheSendSync.{the_send as entry_send}
use Rattle.fedi_queue.specs.contracts.changes.Change as Change
use Rattle.fedi_queue.specs.contracts.queue.Queue as Queue
use Rattle.fedi_queue.specs.contracts.queue.Queue.TheInside as Inside
use Rattle.fedi_queue.specs.contracts.queue.Room as Room
use Rattle.fedi_queue.specs.contracts.queue.Start as Start
use Rattle.fedi_queue.specs.contracts.rows.QueueRow as QueueRow
use Rattle.fedi_queue.specs.contracts.rows.Rows as Rows
use Rattle.fedi_queue.specs.contracts.rows.Rows.TheInside as RowsInside
use Rattle.fedi_effects.proofs.Sent.{trace_send}

row_send : IsSend QueueRow.the_row
row_send = search (iri_send, crosses, sendable) depth 20

rows_inside_send : IsSend RowsInside.the_row
rows_inside_send = declared_send RowsInside.the_type (search (row_send, crosses, sendable) depth 20)

rows_send : IsSend Rows.the_row
rows_send = view_send _ _ _ _ _ rows_inside_send

change_send : IsSend Change.the_row
change_send = variants_send Change.enum (search (row_send, crosses, sendable) depth 30)

room_send : IsSend Room.the_row
room_send = declared_send Room.the_type (search (change_send, crosses, sendable) depth 20)

start_send : IsSend Start.the_row
start_send = declared_send Start.the_type (search (crosses, sendable) depth 20)

inside_send : IsSend Inside.the_row
inside_send = declared_send Inside.the_type (search (start_send, rows_send, room_send, trace_send, entry_send, crosses, sendable) depth 30)

pub queue_send : IsSend Queue.the_row
queue_send = view_send _ _ _ _ _ inside_send
