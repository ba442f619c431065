-- A roster may be shared by threads.
use denote.Param.Send.{IsSync, view_sync, sendable}
use denote.Param.SendFields.{declared_sync}
use Rattle.std.proofs.Crossing.{crosses}
use Rattle.fedi_address.specs.contracts.host.Host as Host
use Rattle.fedi_text.specs.contracts.text.Text as Text
use Rattle.fedi_town.specs.contracts.act.Peer as Peer
use Rattle.fedi_effects.proofs.members.Members.TheSendSync.{the_sync as members_sync}
use Rattle.fedi_effects.specs.contracts.roster.Roster as Roster
use Rattle.fedi_effects.specs.contracts.roster.Roster.TheInside as Inside

host_sync : IsSync Host.the_row
host_sync = search (crosses, sendable) depth 40

text_sync : IsSync Text.the_row
text_sync = search (crosses, sendable) depth 20

peer_sync : IsSync Peer.the_row
peer_sync = search (host_sync, text_sync, crosses, sendable) depth 20

inside_sync : IsSync Inside.the_row
inside_sync = declared_sync Inside.the_type (search (members_sync, peer_sync, crosses, sendable) depth 30)

pub roster_sync : IsSync Roster.the_row
roster_sync = view_sync _ _ _ _ _ inside_sync
