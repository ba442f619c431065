-- The recipients that an activity of another server is forwarded to (ActivityPub, section 7.1.2).
use Rattle.std.specs.Prelude.{ℕ, Bool, false, not, ◌&&◌, ◌||◌, List, [], ◌++◌, map, filter, Option}
use Rattle.std.specs.Prelude.{Some, None, option_to_list, if◌then◌else◌}
use Rattle.std.specs.List.{list_any, find, flat_map}
use Rattle.std.specs.Str.{bytes_eq}
use Rattle.fedi_address.specs.Iris.{host_of}
use Rattle.fedi_address.specs.Recipients.{distinct}
use Rattle.fedi_objects.specs.declared.activity.Activity.{Activity}
use Rattle.fedi_objects.specs.declared.object.Object.{Object}
use Rattle.fedi_town.specs.declared.act.Act.{Act}
use Rattle.fedi_town.specs.declared.act.Actor.{Actor}
use Rattle.fedi_town.specs.Addressing.{is_of_town}
use Rattle.fedi_town.specs.Ids.{followers_id}
use Rattle.fedi_town.specs.Objects.{maker, maker_of, object_of, whole_of}
use Rattle.fedi_town.specs.Relations.{ref_id, is_actor, followers, blocks}
use Rattle.fedi_town.specs.Towns.{Town}

-- ---- what an activity refers to

-- what an object replies to and who it mentions
abbrev pub object_mentions : Option Object → List (List ℕ)
object_mentions None = []
object_mentions (Some o) = option_to_list o.in_reply_to ++ map (λ g. g.href) o.tags

-- what an activity refers to: by `inReplyTo`, `object`, `target` and `tag`, by those of the object
-- that it carries, and by those of the stored object
abbrev pub mentions : Town → Activity → List (List ℕ)
mentions t a =
    option_to_list a.in_reply_to
    ++ (option_to_list (ref_id a.object) ++ (option_to_list a.target
    ++ (map (λ g. g.href) a.tags ++ (object_mentions (whole_of a.object)
    ++ object_mentions (object_of (maker_of t (ref_id a.object)))))))

-- the activity is a member's
abbrev pub is_local : Town → Option Act → Bool
is_local t None = false
is_local t (Some m) = is_of_town t.host m.author

-- the IRI is the id of a member, or of a member's object
unfoldable pub is_ours : Town → List ℕ → Bool
is_ours t iri = is_actor t iri || is_local t (maker t iri)

-- ---- the recipients

-- the follower is neither of this host nor of the author's
unfoldable pub is_far : Town → List ℕ → List ℕ → Bool
is_far t author f = not (is_of_town t.host f) && not (bytes_eq (host_of f) (host_of author))

-- the IRI is that of this member's followers collection
unfoldable pub has_followers_at : List ℕ → Actor → Bool
has_followers_at iri b = bytes_eq (followers_id b.id) iri

-- the far followers of the member, unless the member blocks the author
abbrev pub far_followers : Town → List ℕ → Option Actor → List (List ℕ)
far_followers t author None = []
far_followers t author (Some b) =
    if blocks t b.id author then [] else filter (is_far t author) (followers t b.id)

-- the far followers of the member whose followers collection this is
unfoldable pub forwards_at : Town → List ℕ → List ℕ → List (List ℕ)
forwards_at t author iri = far_followers t author (find (has_followers_at iri) t.actors)

-- The recipients that the author's activity is forwarded to when it arrives for the first time. If
-- it refers to something of this server, these are the far followers of each member whose followers
-- it is addressed to, each once.
unfoldable pub forwards_of : Town → List ℕ → Activity → List (List ℕ)
forwards_of t author a =
    if list_any (is_ours t) (mentions t a)
    then distinct (flat_map (forwards_at t author)
    (a.recipients.to ++ (a.recipients.cc ++ a.recipients.audience))) else []
