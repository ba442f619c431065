-- Which activities another server may deliver (ActivityPub, section 7). This depends on hosts only,
-- so no answer reveals anything else to the server.
use Rattle.std.specs.Prelude.{ℕ, Bool, true, false, not, ◌&&◌, ◌||◌, List, Option, Some, None}
use Rattle.std.specs.List.{list_any}
use Rattle.std.specs.Str.{bytes_eq}
use Rattle.fedi_address.specs.Iris.{host_of}
use Rattle.fedi_address.specs.Recipients.{is_among}
use Rattle.fedi_objects.specs.declared.activity.ObjectRef.{ObjectRef}
use Rattle.fedi_objects.specs.declared.activity.ObjectRef.TheVariants.{Nothing, Id, Whole, Changed}
use Rattle.fedi_town.specs.declared.act.Peer.{Peer}
use Rattle.fedi_town.specs.Relations.{has_activity_id}
use Rattle.fedi_town.specs.Towns.{Town}

-- the IRI has this server's host, with any scheme
abbrev pub is_at : Option (List ℕ) → List ℕ → Bool
is_at None iri = false
is_at (Some host) iri = bytes_eq (host_of iri) host

-- there is an id, and it has the author's host
abbrev pub is_beside : List ℕ → Option (List ℕ) → Bool
is_beside author None = false
is_beside author (Some id) = bytes_eq (host_of id) (host_of author)

-- somebody other than the author is named
abbrev pub is_another : List ℕ → Option (List ℕ) → Bool
is_another author None = false
is_another author (Some id) = not (bytes_eq id author)

-- the activity carries an object that is of another host than the author, or is attributed to
-- somebody else
abbrev pub is_of_another : List ℕ → ObjectRef → Bool
is_of_another author Nothing = false
is_of_another author (Id iri) = false
is_of_another author (Whole o) = not (is_beside author o.id) || is_another author o.attributed_to
is_of_another author (Changed change) = false

-- The peer may not deliver it. Its actor is of this host; or its actor is of a host that is not the
-- peer's, and the peer is not a relay; or its id or its object is not of its actor's host.
abbrev pub is_foreign : Option (List ℕ) → Peer → Option (List ℕ) → Option (List ℕ)
    → ObjectRef → Bool
is_foreign host peer None id object = true
is_foreign host peer (Some actor) id object =
    is_at host actor
    || ((not (bytes_eq (host_of actor) peer.host) && not peer.relay)
    || (not (is_beside actor id) || is_of_another actor object))

-- the activity with this id already goes to this owner's inbox
abbrev pub has_inbox : Town → Option (List ℕ) → List ℕ → Bool
has_inbox t None owner = true
has_inbox t (Some id) owner =
    list_any (λ x. has_activity_id id x && is_among owner x.recipients) t.acts
