-- What the entries of a history so far have made.
use Rattle.std.specs.Prelude.{ℕ, ◌+◌, Bool, nat_lt, List, [], filter, length, Option, None}
use Rattle.std.specs.Prelude.{option_map, if◌then◌else◌}
use Rattle.std.specs.List.{find}
use Rattle.std.specs.Str.{bytes_eq}
use Rattle.fedi_town.specs.declared.act.Act.{Act}
use Rattle.fedi_town.specs.declared.act.Actor.{Actor}
use Rattle.fedi_town.specs.declared.act.Attempt.{Attempt}
use Rattle.fedi_town.specs.declared.act.Peer.{Peer}
use Rattle.fedi_town.specs.declared.deed.Deed.{Deed}
use Rattle.fedi_town.specs.Deeds.{deed_of}

-- the host of the server, once it was set up; its members and its peers in the order in which they
-- were made; the activities in the order in which they were first accepted; and the attempts to
-- deliver, in order
pub record Town : Type 0 where
  pub host : Option (List ℕ)
  pub actors : List Actor
  pub peers : List Peer
  pub acts : List Act
  pub attempts : List Attempt

-- before any entry
abbrev pub empty_town : Town
empty_town = record { host = None; actors = []; peers = []; acts = []; attempts = [] }

-- ---- members and peers

-- the member has this name
unfoldable pub has_name : List ℕ → Actor → Bool
has_name name a = bytes_eq a.name name

-- the member has this id
unfoldable pub has_id : List ℕ → Actor → Bool
has_id id a = bytes_eq a.id id

-- the member's key has this digest
unfoldable pub has_digest : List ℕ → Actor → Bool
has_digest digest a = bytes_eq a.digest digest

-- the peer has this host
unfoldable pub has_host : List ℕ → Peer → Bool
has_host host p = bytes_eq p.host host

-- the id of the member with this name
abbrev pub id_of : Town → List ℕ → Option (List ℕ)
id_of t name = option_map (λ a. a.id) (find (has_name name) t.actors)

-- ---- activities

-- what the activity does
abbrev pub deed : Act → Deed
deed x = deed_of x.activity.kind

-- the activity is this author's
unfoldable pub is_by : List ℕ → Act → Bool
is_by author x = bytes_eq x.author author

-- how many activities the author has
abbrev pub count_of : Town → List ℕ → ℕ
count_of t author = length (filter (is_by author) t.acts)

-- after so many activities there is a number for one more; the highest number is 4,294,967,295
abbrev pub has_next : ℕ → Bool
has_next count = nat_lt count 4294967295

-- how many activities this actor has after one more by the author
abbrev pub count_after : Town → List ℕ → List ℕ → ℕ
count_after t author id = count_of t id + (if bytes_eq author id then 1 else 0)
