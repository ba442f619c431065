-- Who sees what (ActivityPub, sections 3.2, 5 and 6.9).
use Rattle.std.specs.Prelude.{ℕ, Bool, not, ◌&&◌, ◌||◌, List, filter, Option, Some, None}
use Rattle.std.specs.List.{list_any}
use Rattle.std.specs.Str.{bytes_eq}
use Rattle.fedi_address.specs.Iris.{host_of}
use Rattle.fedi_address.specs.Recipients.{is_among}
use Rattle.fedi_town.specs.declared.act.Act.{Act}
use Rattle.fedi_town.specs.declared.caller.Caller.{Caller}
use Rattle.fedi_town.specs.declared.caller.Caller.TheVariants.{Nobody, Actor, Peer}
use Rattle.fedi_town.specs.Relations.{follows, has_block_between, is_following}
use Rattle.fedi_town.specs.Towns.{Town, id_of, is_by}

-- it is for the author's followers, and this actor is one
unfoldable pub is_for_follower : Town → List ℕ → Act → Bool
is_for_follower t id x = x.for_followers && follows t id x.author

-- an actor sees its own activities and, if there is no Block between it and the author, what is
-- public, what goes to it, and what is for the author's followers while it is one
unfoldable pub sees_as : Town → List ℕ → Act → Bool
sees_as t id x =
    is_by id x || (not (has_block_between t id x.author)
    && (x.is_public || (is_among id x.recipients || is_for_follower t id x)))

-- the IRI is of the other server: it has exactly this host
unfoldable pub is_of_peer : List ℕ → List ℕ → Bool
is_of_peer host iri = bytes_eq (host_of iri) host

-- the recipient is of the other server, and there is no Block between it and the author
unfoldable pub reaches : Town → List ℕ → List ℕ → List ℕ → Bool
reaches t host author recipient =
    is_of_peer host recipient && not (has_block_between t recipient author)

-- it is an accepted Follow of the author by somebody of the other server, with no Block between the
-- two
unfoldable pub is_follower_from : Town → List ℕ → List ℕ → Act → Bool
is_follower_from t host author f = is_following author f && reaches t host author f.author

-- somebody of the other server follows the author, with no Block between the two
abbrev pub is_followed_from : Town → List ℕ → List ℕ → Bool
is_followed_from t host author = list_any (is_follower_from t host author) t.acts

-- somebody without an id sees what is public
abbrev pub sees_with : Town → Option (List ℕ) → Act → Bool
sees_with t None x = x.is_public
sees_with t (Some id) x = sees_as t id x

-- The caller sees the activity. A member sees what the member's actor sees. The caller `Nobody`
-- sees what is public. Another server sees what is public, what its own actors made, what goes to
-- one of them, and what is for the author's followers while one of them is a follower.
unfoldable pub sees : Town → Caller → Act → Bool
sees t Nobody x = x.is_public
sees t (Actor name) x = sees_with t (id_of t name) x
sees t (Peer host) x =
    x.is_public || (is_of_peer host x.author || (list_any (reaches t host x.author) x.recipients
    || (x.for_followers && is_followed_from t host x.author)))

-- what the caller sees, in the order of acceptance
abbrev pub seen : Town → Caller → List Act
seen t c = filter (sees t c) t.acts
