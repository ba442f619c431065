-- How the making of a peer ends, and with which status.
use Rattle.std.proofs.Common.{◌≡◌, ℕ, Bool, true, false, List, Option, Some, inl, inr, refl, subst}
use Rattle.fedi_address.specs.Hosts.{IsHost}
use Rattle.fedi_log.specs.Keeping.{State}
use Rattle.fedi_mac.specs.Keys.{key_of}
use Rattle.fedi_startup.specs.Surviving.{growth, room}
use Rattle.fedi_logged.specs.Conversations.{IsNow}
use Rattle.fedi_logged.specs.Endings.{Output}
use Rattle.fedi_town.specs.Histories.{town}
use Rattle.fedi_town.specs.Legal.{is_taken_host}
use Rattle.fedi_town.specs.Towns.{Town}
use Rattle.fedi_program.specs.Commands.{AddPeer}
use Rattle.fedi_program.specs.Members.{EndsWith}
use Rattle.fedi_program.specs.Peers.{MakesPeer, peer_entry, peer_line}
use Rattle.fedi_program.specs.Runs.{is_status_of}
use Rattle.fedi_program.proofs.MemberLemmas.{end_status}
use Rattle.fedi_program.proofs.RunLemmas.{known_status}

-- what is known of the host that was read is known of the text that was given
pub at_host : (t : Town) (host read : List ℕ) (taken : Bool) → read ≡ host → IsHost read → is_taken_host t read ≡ taken → IsHost host × (is_taken_host t host ≡ taken)
at_host t host read taken same is known = subst (λ (h : List ℕ). IsHost h × (is_taken_host t h ≡ taken)) same (is, known)

-- The host and the address that were read are the texts that were given.
pub peer_ends : (growth room : ℕ → ℕ) (told : Option ℕ) (before after : State) (first now : Output) (host read key secret address copied : List ℕ) (relay : Bool)
    (moment status : ℕ) → read ≡ host → copied ≡ address → IsHost read → is_taken_host (town before.history) read ≡ false → key_of key ≡ Some secret → IsNow told moment
    → EndsWith growth room before after first now (peer_entry read secret copied relay moment) (peer_line host) status
    → MakesPeer growth room told before after first now host key address relay status
peer_ends growth room told before after first now host read key secret address copied relay moment status same_host same_address is free read_key moment_is ends =
    inr (inr (inr (inr (
      (at_host (town before.history) host read false same_host is free).0,
      (at_host (town before.history) host read false same_host is free).1,
      secret,
      moment,
      read_key,
      moment_is,
      subst (λ (h : List ℕ). EndsWith growth room before after first now (peer_entry h secret address relay moment) (peer_line host) status) same_host
          (subst (λ (a : List ℕ). EndsWith growth room before after first now (peer_entry read secret a relay moment) (peer_line host) status) same_address ends),
    ))))

-- ---- the status

pub peer_status : (growth room : ℕ → ℕ) (told : Option ℕ) (before after : State) (first now : Output) (host key address : List ℕ) (relay : Bool) (status : ℕ)
    → MakesPeer growth room told before after first now host key address relay status → is_status_of (Some (AddPeer host key address relay)) status ≡ true
peer_status growth room told before after first now host key address relay status (inl memory) =
    known_status (Some (AddPeer host key address relay)) status 12 refl memory.0
peer_status growth room told before after first now host key address relay status (inr (inl bad)) =
    known_status (Some (AddPeer host key address relay)) status 10 refl bad.1.1.0
peer_status growth room told before after first now host key address relay status (inr (inr (inl taken))) =
    known_status (Some (AddPeer host key address relay)) status 10 refl taken.2.1.0
peer_status growth room told before after first now host key address relay status (inr (inr (inr (inl bad)))) =
    known_status (Some (AddPeer host key address relay)) status 10 refl bad.3.1.0
peer_status growth room told before after first now host key address relay status (inr (inr (inr (inr (_, _, secret, moment, _, _, ends))))) =
    end_status (Some (AddPeer host key address relay)) growth room before after first now (peer_entry host secret address relay moment) (peer_line host) status
    refl refl refl refl refl refl ends
