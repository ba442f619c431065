-- When two histories agree on all that a caller may know.
use Rattle.std.specs.Prelude.{◌≡◌, ℕ, List, map, filter, Option, Some, None, option_map}
use Rattle.std.specs.List.{filter_map, find}
use Rattle.fedi_town.specs.declared.act.Peer.{Peer}
use Rattle.fedi_town.specs.declared.caller.Caller.{Caller}
use Rattle.fedi_town.specs.declared.caller.Caller.TheVariants as callers
use Rattle.fedi_town.specs.Relations.{blocks}
use Rattle.fedi_town.specs.Showing.{id_of_caller, view}
use Rattle.fedi_town.specs.Towns.{Town, is_by, count_of, has_host}

-- the names of the members, which fix their ids and their actor documents
abbrev pub member_names : Town → List (List ℕ)
member_names t = map (λ a. a.name) t.actors

-- the author's keys for repeats, each with the digest and the id of its activity
abbrev pub repeats_of : Town → List ℕ → List ((List ℕ × List ℕ) × Option (List ℕ))
repeats_of t author =
    filter_map (λ x. option_map (λ r. (r, x.activity.id)) x.repeat) (filter (is_by author) t.acts)

-- a member's own: how many activities there are, the keys for repeats, and who blocks the member
pub record SameOwn (g h : Town) (id : List ℕ) : Type 0 where
  pub count : count_of g id ≡ count_of h id
  pub repeats : repeats_of g id ≡ repeats_of h id
  pub blockers : (b : List ℕ) → blocks g b id ≡ blocks h b id

-- the caller's own, if the caller is a member
abbrev pub IsSameOwn : Town → Town → Option (List ℕ) → Type 0
IsSameOwn g h None = Unit {0}
IsSameOwn g h (Some id) = SameOwn g h id

-- the calling peer
abbrev pub peer_of : Town → Caller → Option Peer
peer_of t callers.Nobody = None
peer_of t (callers.Actor name) = None
peer_of t (callers.Peer host) = find (has_host host) t.peers

-- the same host, the same members, the same peer, the same view, and the caller's own
pub record Agree (g h : Town) (c : Caller) : Type 0 where
  pub host : g.host ≡ h.host
  pub names : member_names g ≡ member_names h
  pub peer : peer_of g c ≡ peer_of h c
  pub view : view g c ≡ view h c
  pub own : IsSameOwn g h (id_of_caller h c)
