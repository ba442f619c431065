-- In a legal history each member has the id that its name gives, and each peer is another host.
use Rattle.std.proofs.Common.{◌≡◌, ℕ, Bool, true, false, List, [], ◌∷◌, Option, Some, None, refl, ◌∙◌}
use Rattle.std.specs.Prelude.{◌&&◌, ◌||◌, not, is_none, is_some, if◌then◌else◌}
use Rattle.std.specs.List.{list_all, list_any, fold}
use Rattle.std.proofs.lemmas.Bool.{and_parts}
use Rattle.std.proofs.lemmas.List.Folds.{list_all-append}
use Rattle.fedi_address.specs.Hosts.{is_host_text}
use Rattle.fedi_address.specs.Names.{is_name}
use Rattle.fedi_objects.specs.declared.activity.Activity.{Activity}
use Rattle.fedi_objects.specs.declared.entry.Entry.{Entry}
use Rattle.fedi_objects.specs.declared.entry.Entry.TheVariants.{Hosted, Made, PeerSet, Local, Remote, Tried}
use Rattle.fedi_town.proofs.Members.{is_member}
use Rattle.fedi_town.proofs.Steps.{after_post, after_delivery, after_inbox}
use Rattle.fedi_town.specs.Activities.{remote_act}
use Rattle.fedi_town.specs.declared.addition.Addition.TheVariants as additions
use Rattle.fedi_town.specs.Effects.{acceptance}
use Rattle.fedi_town.specs.Histories.{with_addition, member_addition, step, town, is_known}
use Rattle.fedi_town.specs.Ids.{actor_id}
use Rattle.fedi_objects.specs.Limits.{is_address}
use Rattle.fedi_town.specs.Legal.{broken_command, is_admissible, is_legal_from, is_other_host, IsLegal}
use Rattle.fedi_town.specs.Towns.{Town, empty_town, has_host, id_of}
use Rattle.fedi_town.specs.declared.command_fault.CommandFault.{CommandFault}
use Rattle.fedi_town.specs.declared.command_fault.CommandFault.TheVariants.{HostTaken, BadAddress}
use Rattle.fedi_town.specs.declared.act.Actor.{Actor}
use Rattle.fedi_town.specs.declared.act.Peer.{Peer}
use Rattle.fedi_town.proofs.Texts.{bytes_eq-same}

abbrev pub is_apart : Option (List ℕ) → Peer → Bool
is_apart host p = is_other_host host p.host

pub record IsSound (t : Town) : Type 0 where
  pub members : list_all (is_member t.host) t.actors ≡ true
  pub peers : list_all (is_apart t.host) t.peers ≡ true

-- before the server was set up there are no members and no peers
none_yet : {A : Type 0} (p q : A → Bool) (xs : List A) → ((x : A) → p x ≡ false) → list_all p xs ≡ true → list_all q xs ≡ true
none_yet p q [] h all = refl
none_yet p q (x ∷ xs) h all = absurd (let e : p x ≡ true = (and_parts (p x) (list_all p xs) all).0 in let f : p x ≡ false = h x in cc)

hosted_members : (host : Option (List ℕ)) (own : List ℕ) (xs : List Actor) → is_none host ≡ true → list_all (is_member host) xs ≡ true → list_all (is_member (Some own)) xs ≡ true
hosted_members None own xs none all = none_yet (is_member None) (is_member (Some own)) xs (λ x. refl) all
hosted_members (Some h) own xs none all = absurd cc

hosted_peers : (host : Option (List ℕ)) (own : List ℕ) (xs : List Peer) → is_none host ≡ true → list_all (is_apart host) xs ≡ true → list_all (is_apart (Some own)) xs ≡ true
hosted_peers None own xs none all = none_yet (is_apart None) (is_apart (Some own)) xs (λ x. refl) all
hosted_peers (Some h) own xs none all = absurd cc

-- the host is valid, if it is set
abbrev pub is_set : Option (List ℕ) → Bool
is_set None = true
is_set (Some host) = is_host_text host

pub record IsHosted (t : Town) : Type 0 where
  pub sound : IsSound t
  pub host : is_set t.host ≡ true

made_sound : (host : Option (List ℕ)) (t : Town) (name digest : List ℕ) (locked : Bool) → t.host ≡ host → is_name name ≡ true
    → IsHosted t → IsHosted (with_addition t (member_addition host name digest locked))
made_sound None t name digest locked own named h = h
made_sound (Some host) t name digest locked own named h =
    let member : Actor = record { name = name; id = actor_id host name; digest = digest; locked = locked } in
    let shape : is_host_text host ≡ true = rw own at h.host in
    let one : is_member t.host member ≡ true = rw (own, shape, named, bytes_eq-same (actor_id host name)) refl in record {
      sound = record { members = list_all-append (is_member t.host) t.actors (member ∷ []) ∙ rw (h.sound.members, one) refl; peers = h.sound.peers };
      host = h.host;
    }

-- adding an activity keeps members and peers
record KeepsPeople (t u : Town) : Type 0 where
  host : u.host ≡ t.host
  actors : u.actors ≡ t.actors
  peers : u.peers ≡ t.peers

keeps_sound : (t u : Town) → KeepsPeople t u → IsHosted t → IsHosted u
keeps_sound t u k h = record {
  sound = record { members = rw (k.host, k.actors) h.sound.members; peers = rw (k.host, k.peers) h.sound.peers };
  host = rw k.host h.host;
}

posted_keeps : (host : Option (List ℕ)) (t : Town) (name : List ℕ) (repeat : Option (List ℕ × List ℕ)) (a : Activity) (moment : ℕ) → KeepsPeople t (after_post host t name repeat a moment)
posted_keeps None t name repeat a moment = record { host = refl; actors = refl; peers = refl }
posted_keeps (Some host) t name repeat a moment = record { host = refl; actors = refl; peers = refl }

as_keeps : (t : Town) (owner author id : List ℕ) (a : Activity) (moment : ℕ) → KeepsPeople t (after_inbox t owner author id a moment)
as_keeps t owner author id a moment =
    elim (is_known t id) as (λ b. KeepsPeople t (with_addition t (if b then additions.Inbox id owner else additions.Activity (acceptance t (remote_act t owner author a moment))))) [
      | true ↦ record { host = refl; actors = refl; peers = refl }
      | false ↦ record { host = refl; actors = refl; peers = refl }
    ]

delivered_keeps : (t : Town) (owner author id : Option (List ℕ)) (a : Activity) (moment : ℕ) → KeepsPeople t (after_delivery t owner author id a moment)
delivered_keeps t None author id a moment = record { host = refl; actors = refl; peers = refl }
delivered_keeps t (Some owner) None id a moment = record { host = refl; actors = refl; peers = refl }
delivered_keeps t (Some owner) (Some author) None a moment = record { host = refl; actors = refl; peers = refl }
delivered_keeps t (Some owner) (Some author) (Some id) a moment = as_keeps t owner author id a moment

-- the fault unless this holds
abbrev taken_unless : Bool → Option CommandFault
taken_unless held = if held then None else Some HostTaken

holds_untaken : (held : Bool) → is_none (taken_unless held) ≡ true → held ≡ true
holds_untaken true ok = refl
holds_untaken false ok = ok

-- a server that may be set up was not set up before
pub not_hosted : (t : Town) (host : List ℕ) (moment : ℕ) → is_none (broken_command t (Hosted host moment)) ≡ true → is_none t.host ≡ true
not_hosted t host moment ok = holds_untaken (is_none t.host) ok

-- the fault of a peer: its host is taken, or its address is bad
abbrev peer_fault : Bool → Bool → Bool → Option CommandFault
peer_fault other known well = if not other || known then Some HostTaken else (if well then None else Some BadAddress)

other_unbroken : (other known well : Bool) → is_none (peer_fault other known well) ≡ true → other ≡ true
other_unbroken true known well ok = refl
other_unbroken false known well ok = ok

-- a peer that breaks no rule is another host
peer_elsewhere : (t : Town) (host key address : List ℕ) (relay : Bool) (moment : ℕ) → is_none (broken_command t (PeerSet host key address relay moment)) ≡ true
    → is_other_host t.host host ≡ true
peer_elsewhere t host key address relay moment ok =
    other_unbroken (is_other_host t.host host) (list_any (has_host host) t.peers) (is_address address) ok

pub step_sound : (t : Town) (e : Entry) → is_admissible t e ≡ true → IsHosted t → IsHosted (step t e)
step_sound t (Hosted host moment) ok h =
    let parts = and_parts (is_none (broken_command t (Hosted host moment))) (is_host_text host) ok in
    let unset = not_hosted t host moment parts.0 in record {
      sound = record { members = hosted_members t.host host t.actors unset h.sound.members; peers = hosted_peers t.host host t.peers unset h.sound.peers };
      host = parts.1;
    }
step_sound t (Made name digest locked moment) ok h =
    let parts = and_parts (is_some t.host && is_name name) _ ok in
    let named = and_parts (is_some t.host) (is_name name) parts.0 in
    made_sound t.host t name digest locked refl named.1 h
step_sound t (PeerSet host key address relay moment) ok h =
    let other : is_other_host t.host host ≡ true = peer_elsewhere t host key address relay moment (and_parts (is_some t.host && is_host_text host) _ ok).1 in
    let one : Peer = record { host = host; key = key; address = address; relay = relay } in record {
      sound = record { members = h.sound.members; peers = list_all-append (is_apart t.host) t.peers (one ∷ []) ∙ rw (h.sound.peers, other) refl };
      host = h.host;
    }
step_sound t (Local name repeat a moment) ok h = keeps_sound t _ (posted_keeps t.host t name repeat a moment) h
step_sound t (Remote peer inbox a moment) ok h = keeps_sound t _ (delivered_keeps t (id_of t inbox) a.actor a.id a moment) h
step_sound t (Tried activity recipient came moment) ok h = record { sound = record { members = h.sound.members; peers = h.sound.peers }; host = h.host }

fold_sound : (history : List Entry) (t : Town) → is_legal_from t history ≡ true → IsHosted t → IsHosted (fold step t history)
fold_sound [] t ok h = h
fold_sound (e ∷ history) t ok h =
    let parts = and_parts (is_admissible t e) (is_legal_from (step t e) history) ok in
    fold_sound history (step t e) parts.1 (step_sound t e parts.0 h)

pub town_sound : (history : List Entry) → IsLegal history → IsHosted (town history)
town_sound history legal = fold_sound history empty_town legal.admissible (record { sound = record { members = refl; peers = refl }; host = refl })
