-- The ids of this server's actors, activities, objects and collections (ActivityPub, sections 3.1
-- and 5), and the host that an IRI belongs to.
use Rattle.std.specs.Prelude.{ℕ, Bool, ◌&&◌, List, ◌++◌, codes, decimal, nat_eq}
use Rattle.std.specs.List.{starts_with}
use Rattle.std.specs.Str.{bytes_eq}
use Rattle.fedi_address.specs.Hosts.{address}
use Rattle.fedi_address.specs.Iris.{host_of}

-- the path of a member
abbrev pub actor_path : List ℕ → List ℕ
actor_path name = codes "/users/" ++ name

-- the path of the member's activity with this number
abbrev pub activity_path : List ℕ → ℕ → List ℕ
activity_path name number = codes "/users/" ++ (name ++ (codes "/a/" ++ decimal number))

-- the path of the object that the member's activity with this number made
abbrev pub object_path : List ℕ → ℕ → List ℕ
object_path name number = codes "/users/" ++ (name ++ (codes "/o/" ++ decimal number))

-- the id of a member
unfoldable pub actor_id : List ℕ → List ℕ → List ℕ
actor_id host name = address host (actor_path name)

-- the id of a member's activity with this number
unfoldable pub activity_id : List ℕ → List ℕ → ℕ → List ℕ
activity_id host name number = address host (activity_path name number)

-- the id of the object that the member's activity with this number made
unfoldable pub object_id : List ℕ → List ℕ → ℕ → List ℕ
object_id host name number = address host (object_path name number)

-- the IRI is of this host: it uses https and has exactly this host
unfoldable pub is_of_host : List ℕ → List ℕ → Bool
is_of_host host iri = starts_with nat_eq iri (codes "https://") && bytes_eq (host_of iri) host

-- ---- collections of the actor with this id

-- (ActivityPub, section 5.2)
abbrev pub inbox_id : List ℕ → List ℕ
inbox_id actor = actor ++ codes "/inbox"

-- (ActivityPub, section 5.1)
abbrev pub outbox_id : List ℕ → List ℕ
outbox_id actor = actor ++ codes "/outbox"

-- (ActivityPub, section 5.3)
abbrev pub followers_id : List ℕ → List ℕ
followers_id actor = actor ++ codes "/followers"

-- (ActivityPub, section 5.4)
abbrev pub following_id : List ℕ → List ℕ
following_id actor = actor ++ codes "/following"

-- (ActivityPub, section 5.5)
abbrev pub liked_id : List ℕ → List ℕ
liked_id actor = actor ++ codes "/liked"

-- ---- collections of the object with this id

-- (ActivityPub, section 5.7)
abbrev pub likes_id : List ℕ → List ℕ
likes_id object = object ++ codes "/likes"

-- (ActivityPub, section 5.8)
abbrev pub shares_id : List ℕ → List ℕ
shares_id object = object ++ codes "/shares"
