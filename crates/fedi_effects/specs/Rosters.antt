-- The members and the peers by which the callers of requests are known.
use Rattle.std.specs.Prelude.{List, Bool, true, false}
use Rattle.fedi_objects.specs.declared.entry.Entry.{Entry}
use Rattle.fedi_objects.specs.declared.entry.Entry.TheVariants.{Hosted, Made, PeerSet, Local}
use Rattle.fedi_objects.specs.declared.entry.Entry.TheVariants.{Remote, Tried}
use Rattle.fedi_town.specs.declared.act.Actor.{Actor}
use Rattle.fedi_town.specs.declared.act.Peer.{Peer}
use Rattle.fedi_town.specs.Towns.{Town}
use Rattle.fedi_effects.specs.declared.roster.Roster.TheInside.{Inside}

-- members and peers, each in the order in which they were made
pub record Callers : Type 0 where
  pub actors : List Actor
  pub peers : List Peer

-- the members and the peers of a town
abbrev pub callers_in : Town → Callers
callers_in t = record { actors = t.actors; peers = t.peers }

-- the members and the peers, as look-ups see them
abbrev pub roster_in : Inside → Callers
roster_in r = record { actors = r.actors.actors; peers = r.peers.items }

-- the entry may add a member or a peer
abbrev pub changes_callers : Entry → Bool
changes_callers (Hosted host moment) = false
changes_callers (Made name digest locked moment) = true
changes_callers (PeerSet host key address relay moment) = true
changes_callers (Local name repeat a moment) = false
changes_callers (Remote peer inbox a moment) = false
changes_callers (Tried activity recipient came moment) = false
