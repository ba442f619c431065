-- Which entries may come next, and which histories are legal.
use Rattle.std.specs.Prelude.{ℕ, Bool, true, false, not, ◌&&◌, ◌||◌, if◌then◌else◌, IsTrue, List}
use Rattle.std.specs.Prelude.{[], ◌∷◌, filter, Option, Some, None, is_some, is_none}
use Rattle.std.specs.List.{list_any, find}
use Rattle.std.specs.Str.{bytes_eq}
use Rattle.fedi_address.specs.Hosts.{is_host_text}
use Rattle.fedi_address.specs.Names.{is_name}
use Rattle.fedi_objects.specs.declared.activity.Activity.{Activity}
use Rattle.fedi_objects.specs.declared.entry.Entry.{Entry}
use Rattle.fedi_objects.specs.declared.entry.Entry.TheVariants.{Hosted, Made, PeerSet, Local}
use Rattle.fedi_objects.specs.declared.entry.Entry.TheVariants.{Remote, Tried}
use Rattle.fedi_objects.specs.Limits.{is_address}
use Rattle.fedi_town.specs.declared.act.Act.{Act}
use Rattle.fedi_town.specs.declared.act.Peer.{Peer}
use Rattle.fedi_town.specs.declared.caller.Caller.{Caller}
use Rattle.fedi_town.specs.declared.caller.Caller.TheVariants as callers
use Rattle.fedi_town.specs.declared.command_fault.CommandFault.{CommandFault}
use Rattle.fedi_town.specs.declared.command_fault.CommandFault.TheVariants.{NameTaken, KeyTaken}
use Rattle.fedi_town.specs.declared.command_fault.CommandFault.TheVariants.{HostTaken, BadAddress}
use Rattle.fedi_town.specs.Origins.{is_foreign, has_inbox}
use Rattle.fedi_town.specs.Histories.{step}
use Rattle.fedi_town.specs.Queues.{is_due}
use Rattle.fedi_town.specs.Rules.{broken_post}
use Rattle.fedi_town.specs.Shapes.{is_posted, is_delivered}
use Rattle.fedi_town.specs.Towns.{Town, empty_town, has_name, has_digest, has_host, is_by, id_of}

-- ---- a member's post

-- the activity was posted under this key
abbrev pub has_key : List ℕ → Option (List ℕ × List ℕ) → Bool
has_key key None = false
has_key key (Some r) = bytes_eq r.0 key

-- none of these activities was posted under the key
abbrev pub is_new_key : List Act → Option (List ℕ × List ℕ) → Bool
is_new_key acts None = true
is_new_key acts (Some r) = not (list_any (λ x. has_key r.0 x.repeat) acts)

-- the post is a member's; it has the shape of a post; none of the author's activities was posted
-- under the same key; and it breaks no rule
abbrev pub may_post : Town → List ℕ → Option (List ℕ × List ℕ) → Activity → Option (List ℕ) → Bool
may_post t name repeat a None = false
may_post t name repeat a (Some author) =
    is_posted author a
    && (is_new_key (filter (is_by author) t.acts) repeat
    && is_none (broken_post t (callers.Actor name) author a))

-- ---- a delivery

-- the activity does not go to this member's inbox yet
abbrev pub lacks : Town → Option (List ℕ) → Option (List ℕ) → Bool
lacks t id None = false
lacks t id (Some owner) = not (has_inbox t id owner)

-- the peer exists, and may deliver the activity
abbrev pub may_deliver : Town → Option Peer → Activity → Bool
may_deliver t None a = false
may_deliver t (Some p) a = not (is_foreign t.host p a.actor a.id a.object)

-- ---- hosts

-- another host than this server's
abbrev pub is_other_host : Option (List ℕ) → List ℕ → Bool
is_other_host None host = false
is_other_host (Some own) host = not (bytes_eq host own)

-- ---- an operator's command

-- the host is this server's or a peer's
abbrev pub is_taken_host : Town → List ℕ → Bool
is_taken_host t host = not (is_other_host t.host host) || list_any (has_host host) t.peers

-- The first rule that an operator's command breaks. The server is set up once. A member's name and
-- key are new. A peer is another host, which is new and has a valid address. Other entries are not
-- commands and break no rule.
abbrev pub broken_command : Town → Entry → Option CommandFault
broken_command t (Hosted host moment) = if is_none t.host then None else Some HostTaken
broken_command t (Made name digest locked moment) =
    if list_any (has_name name) t.actors then Some NameTaken else (
    if list_any (has_digest digest) t.actors then Some KeyTaken else None)
broken_command t (PeerSet host key address relay moment) =
    if is_taken_host t host then Some HostTaken
    else (if is_address address then None else Some BadAddress)
broken_command t (Local name repeat a moment) = None
broken_command t (Remote peer inbox a moment) = None
broken_command t (Tried activity recipient came moment) = None

-- ---- entries

-- First the server is set up for a host. The names of members and the hosts of peers are valid.
-- None of these breaks the rules of commands. A post and a delivery may come as defined above. An
-- attempt is made when it is due.
abbrev pub is_admissible : Town → Entry → Bool
is_admissible t (Hosted host moment) =
    is_none (broken_command t (Hosted host moment)) && is_host_text host
is_admissible t (Made name digest locked moment) =
    (is_some t.host && is_name name) && is_none (broken_command t (Made name digest locked moment))
is_admissible t (PeerSet host key address relay moment) =
    (is_some t.host && is_host_text host)
    && is_none (broken_command t (PeerSet host key address relay moment))
is_admissible t (Local name repeat a moment) = may_post t name repeat a (id_of t name)
is_admissible t (Remote peer inbox a moment) =
    is_delivered a
    && (may_deliver t (find (has_host peer) t.peers) a && lacks t a.id (id_of t inbox))
is_admissible t (Tried activity recipient came moment) = is_due t activity recipient moment

-- ---- histories

-- each entry is admissible at its position
abbrev pub is_legal_from : Town → List Entry → Bool
is_legal_from t [] = true
is_legal_from t (e ∷ entries) = is_admissible t e && is_legal_from (step t e) entries

-- the history is legal: each of its entries was admissible when it came
pub record IsLegal (history : List Entry) : Type 0 where
  pub admissible : IsTrue (is_legal_from empty_town history)

-- the caller is nobody, a member or a peer
abbrev pub is_caller : Town → Caller → Bool
is_caller t callers.Nobody = true
is_caller t (callers.Actor name) = list_any (has_name name) t.actors
is_caller t (callers.Peer host) = list_any (has_host host) t.peers
