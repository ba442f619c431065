-- The facts may cross threads.
use denote.RattleType.{RattleType}
use denote.Param.Send.{IsSend, view_send, sendable}
use denote.Param.SendFields.{declared_send, variants_send}
use Rattle.std.proofs.Crossing.{crosses}
use Rattle.fedi_address.specs.contracts.host.Host as Host
use Rattle.fedi_register.proofs.KeptSent.{iri_send, iris_send, kept_send, text_send}
use Rattle.fedi_register.proofs.extras.Spare.TheSendSync.{the_send as spare_send}
use Rattle.fedi_register.proofs.pool.Pool.TheSendSync.{the_send as pool_send}
use Rattle.fedi_register.proofs.trace.Trace.TheLaws.TheKnot.{crosses as traces_cross}
use Rattle.fedi_register.specs.contracts.trace.Trace as Trace
use Rattle.fedi_objects.proofs.entry.Entry.TheSendSync.{the_send as entry_send}
use Rattle.fedi_register.proofs.Sent.{register_send}
use Rattle.fedi_town.proofs.effect.Effect.TheSendSync.{the_send as effect_send}
use Rattle.fedi_text.proofs.moment.Moment.TheSendSync.{the_send as moment_send}
use Rattle.fedi_text.specs.contracts.text.Text as Text
use Rattle.fedi_town.specs.contracts.act.Actor as Actor
use Rattle.fedi_town.specs.contracts.act.Attempt as Attempt
use Rattle.fedi_town.specs.contracts.act.Peer as Peer
use Rattle.fedi_effects.proofs.members.Members.TheSendSync.{the_send as members_send}
use Rattle.fedi_effects.specs.contracts.tallies.Tallies as Tallies
use Rattle.fedi_effects.specs.contracts.tallies.Tallies.TheInside as TalliesInside
use Rattle.fedi_effects.specs.contracts.tallies.Tally as Tally
use Rattle.fedi_effects.specs.contracts.facts.Facts as Facts
use Rattle.fedi_effects.specs.contracts.facts.Facts.TheInside as Inside
use Rattle.fedi_effects.specs.contracts.facts.Room as Room
use Rattle.fedi_effects.specs.contracts.ready.Ready as Ready

host_send : IsSend Host.the_row
host_send = search (crosses, sendable) depth 20

actor_send : IsSend Actor.the_row
actor_send = search (iri_send, crosses, sendable) depth 20

peer_send : IsSend Peer.the_row
peer_send = search (host_send, text_send, crosses, sendable) depth 20

attempt_send : IsSend Attempt.the_row
attempt_send = search (iri_send, moment_send, crosses, sendable) depth 20

tally_send : IsSend Tally.the_row
tally_send = search (iri_send, crosses, sendable) depth 20

pub trace_send : (T : RattleType) → IsSend T → IsSend (Trace.the_row T)
trace_send T s = search (traces_cross, crosses, sendable) depth 20

ready_send : IsSend Ready.the_row
ready_send = variants_send Ready.enum (search (host_send, actor_send, peer_send, attempt_send, iri_send, iris_send, kept_send, effect_send, spare_send, crosses, sendable) depth 30)

room_send : IsSend Room.the_row
room_send = declared_send Room.the_type (search (ready_send, crosses, sendable) depth 20)

tallies_inside_send : IsSend TalliesInside.the_row
tallies_inside_send = declared_send TalliesInside.the_type (search (tally_send, trace_send, attempt_send, crosses, sendable) depth 30)

tallies_send : IsSend Tallies.the_row
tallies_send = view_send _ _ _ _ _ tallies_inside_send

inside_send : IsSend Inside.the_row
inside_send = declared_send Inside.the_type (search (host_send, members_send, peer_send, tallies_send, pool_send, register_send, trace_send, room_send, entry_send, crosses, sendable) depth 30)

pub facts_send : IsSend Facts.the_row
facts_send = view_send _ _ _ _ _ inside_send
