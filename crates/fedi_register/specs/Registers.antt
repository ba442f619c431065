-- The accepted activities and the indexes used to look them up.
use Rattle.std.specs.Prelude.{◌≡◌, ℕ, ◌+◌, ◌<◌, ◌≤◌, ◌^◌, Bool, true, false, ◌&&◌, List, filter}
use Rattle.std.specs.Prelude.{length, Option, Some, None, is_some, option_map, vec_len}
use Rattle.std.specs.Prelude.{vec_capacity}
use Rattle.std.specs.Str.{bytes_eq}
use Rattle.fedi_town.specs.declared.act.Act.{Act}
use Rattle.fedi_town.specs.declared.deed.Deed.{Deed}
use Rattle.fedi_town.specs.declared.deed.Deed.TheVariants.{Follow, Like, Announce, Block}
use Rattle.fedi_town.specs.Collections.{object_key}
use Rattle.fedi_town.specs.Deeds.{is_block, is_create, is_follow}
use Rattle.fedi_town.specs.Relations.{ref_id}
use Rattle.fedi_town.specs.Towns.{deed, is_by}
use Rattle.fedi_register.specs.declared.authors.Author.{Author}
use Rattle.fedi_register.specs.declared.register.Register.TheInside.{Inside}
use Rattle.fedi_register.specs.declared.seeds.Seed.{Seed}
use Rattle.fedi_register.specs.Authors.{count_in, ids_of}
use Rattle.fedi_register.specs.Marks.{Mark, marks_from}
use Rattle.fedi_register.specs.Seeds.{mark_of, mark_of_pair}

-- the activities, the known authors, and the number of further activities that there is room for
pub record Registered : Type 0 where
  pub acts : List Act
  pub known : List (List ℕ)
  pub room : ℕ

-- ---- what is looked up

-- it is a request to follow
unfoldable pub asks_to_follow : Act → Bool
asks_to_follow x = is_follow (deed x)

-- it is a Block
unfoldable pub is_blocking : Act → Bool
is_blocking x = is_block (deed x)

-- it was posted under a key
unfoldable pub is_keyed : Act → Bool
is_keyed x = is_some x.repeat

-- ---- what was made

-- it creates an object
unfoldable pub is_making : Act → Bool
is_making x = is_create (deed x)

-- the number for the id of what the activity is about
abbrev pub ref_mark : Seed → Option (List ℕ) → ℕ
ref_mark seed None = 0
ref_mark seed (Some id) = mark_of seed id

-- the number for the id of the object that the activity is about
unfoldable pub object_mark : Seed → Act → ℕ
object_mark seed x = ref_mark seed (ref_id x.activity.object)

-- the number for the key under which the activity was posted
unfoldable pub key_mark : Seed → Act → ℕ
key_mark seed x = ref_mark seed (option_map (λ r. r.0) x.repeat)

-- ---- what has an id

-- it has an id
unfoldable pub has_own_id : Act → Bool
has_own_id x = is_some x.activity.id

-- the number for its own id
unfoldable pub own_mark : Seed → Act → ℕ
own_mark seed x = ref_mark seed x.activity.id

-- ---- relations

-- a Follow, a Like, an Announce or a Block: these are looked up by their author and what they are
-- about
abbrev pub is_relation : Deed → Bool
is_relation Follow = true
is_relation Like = true
is_relation Announce = true
is_relation Block = true
is_relation _ = false

-- it is one of these
unfoldable pub relates : Act → Bool
relates x = is_relation (deed x)

-- the number for the author of the activity and the id of what it is about
unfoldable pub relation_mark : Seed → Act → ℕ
relation_mark seed x = mark_of_pair seed x.author (object_key x)

-- it relates this author to the object with this id, or to one without an id if the string is empty
unfoldable pub relates_by_key : List ℕ → List ℕ → Act → Bool
relates_by_key author key x = relates x && (is_by author x && bytes_eq (object_key x) key)

-- whatever passes the first test passes the second
abbrev pub IsNarrower : (Act → Bool) → (Act → Bool) → Type 0
IsNarrower p q = (x : Act) → p x ≡ true → q x ≡ true

-- ---- authors

-- the number of these activities that are by the author
abbrev pub count_by : List Act → List ℕ → ℕ
count_by acts id = length (filter (is_by id) acts)

-- ---- the register

-- the register, as its callers see it
abbrev pub registered_in : Inside → Registered
registered_in r = record { acts = r.acts.items; known = ids_of r.authors; room = r.room }

-- each index matches the activities
pub record IsIndexed (seed : Seed) (acts : List Act)
    (keyed made ids pairs followed blocked : List Mark) (authors : List Author) : Type 0 where
  pub key : keyed ≡ marks_from is_keyed (key_mark seed) 0 acts
  pub object : made ≡ marks_from is_making (object_mark seed) 0 acts
  pub id : ids ≡ marks_from has_own_id (own_mark seed) 0 acts
  pub pair : pairs ≡ marks_from relates (relation_mark seed) 0 acts
  pub follow : followed ≡ marks_from asks_to_follow (object_mark seed) 0 acts
  pub block : blocked ≡ marks_from is_blocking (relation_mark seed) 0 acts
  pub count : (id : List ℕ) → count_in authors id ≡ count_by acts id

-- the indexes match the activities, there is room in each list, and a position fits its field
abbrev pub IsRegister : Inside → Type 0
IsRegister r =
    IsIndexed r.seed r.acts.items r.keyed.marks r.made.marks r.ids.marks r.pairs.marks
    r.followed.marks r.blocked.marks r.authors
    × (vec_len r.acts + r.room ≤ vec_capacity r.acts)
    × (vec_len r.acts + r.room < 2 ^ 32)
    × (r.room ≤ r.keyed.room)
    × (r.room ≤ r.made.room)
    × (r.room ≤ r.ids.room)
    × (r.room ≤ r.pairs.room)
    × (r.room ≤ r.followed.room)
    × (r.room ≤ r.blocked.room)
