-- The collections that members make, by Add and Remove (ActivityPub, sections 6.6 and 6.7), and
-- what a reader sees of them.
use Rattle.std.specs.Prelude.{ℕ, Bool, true, false, not, ◌&&◌, ◌||◌, nat_eq, is_some, List, []}
use Rattle.std.specs.Prelude.{◌∷◌, ◌++◌, map, filter, drop, length, codes, Option, Some, None}
use Rattle.std.specs.Prelude.{if◌then◌else◌}
use Rattle.std.specs.List.{fold, starts_with}
use Rattle.std.specs.Str.{bytes_eq}
use Rattle.fedi_address.specs.Names.{is_name}
use Rattle.fedi_address.specs.Recipients.{add_new}
use Rattle.fedi_objects.specs.declared.kind.Kind.{Kind}
use Rattle.fedi_objects.specs.declared.kind.Kind.TheVariants as kinds
use Rattle.fedi_town.specs.declared.act.Act.{Act}
use Rattle.fedi_town.specs.declared.caller.Caller.{Caller}
use Rattle.fedi_town.specs.Collections.{object_key, text_of}
use Rattle.fedi_town.specs.Lists.{differs, firsts}
use Rattle.fedi_town.specs.Relations.{is_id, ref_id}
use Rattle.fedi_town.specs.Seeing.{seen}
use Rattle.fedi_town.specs.Towns.{Town, is_by}

-- ---- ids

-- the id of the list of the actor's collections
abbrev pub boards_id : List ℕ → List ℕ
boards_id actor = actor ++ codes "/c"

-- the id of the actor's collection with this name
abbrev pub board_id : List ℕ → List ℕ → List ℕ
board_id actor slug = actor ++ (codes "/c/" ++ slug)

-- it is the id of one of the actor's collections
unfoldable pub is_board : List ℕ → List ℕ → Bool
is_board actor id =
    starts_with nat_eq id (board_id actor [])
    && is_name (drop (length (board_id actor [])) id)

-- ---- Add and Remove

-- it puts something into a collection (ActivityPub, section 6.6)
abbrev pub is_add : Kind → Bool
is_add kinds.Add = true
is_add _ = false

-- it takes something out of a collection (ActivityPub, section 6.7)
abbrev pub is_remove : Kind → Bool
is_remove kinds.Remove = true
is_remove _ = false

-- it is one of the two
abbrev pub is_pin_kind : Kind → Bool
is_pin_kind kind = is_add kind || is_remove kind

-- the id of the collection that the activity is directed to (ActivityStreams 2.0 Vocabulary,
-- section 4, `target`)
abbrev pub target_key : Act → List ℕ
target_key x = text_of x.activity.target

-- it is an Add or a Remove by the author, and its object has an id
unfoldable pub is_pin : List ℕ → Act → Bool
is_pin author x =
    is_by author x && (is_pin_kind x.activity.kind && is_some (ref_id x.activity.object))

-- it is one of them, and is directed to this collection
unfoldable pub is_pin_of : List ℕ → List ℕ → Act → Bool
is_pin_of author board x = is_id board x.activity.target && is_pin author x

-- it is an Add that is directed to one of the author's collections
unfoldable pub opens_board : List ℕ → Act → Bool
opens_board author x =
    is_add x.activity.kind && (is_board author (target_key x) && is_pin author x)

-- ---- what is in a collection

-- The ids in a collection after an Add or a Remove of it: an Add appends the id of its object if it
-- is not there, and a Remove takes it out.
abbrev pub with_pin : List (List ℕ) → Act → List (List ℕ)
with_pin ids x =
    if is_remove x.activity.kind then filter (differs bytes_eq (object_key x)) ids
    else add_new ids (object_key x)

-- the ids in the author's collection with this id after these activities
abbrev pub pinned_by : List ℕ → List ℕ → List Act → List (List ℕ)
pinned_by author board xs = fold with_pin [] (filter (is_pin_of author board) xs)

-- The ids in the author's collection with this name, as the Adds and Removes that the caller sees
-- leave it. One that the caller does not see changes nothing for the caller.
abbrev pub pinned : Town → Caller → List ℕ → List ℕ → List (List ℕ)
pinned t c author slug = pinned_by author (board_id author slug) (seen t c)

-- there is something in the author's collection with this id after these activities
abbrev pub is_filled_by : List ℕ → List Act → List ℕ → Bool
is_filled_by author xs board = not (nat_eq (length (pinned_by author board xs)) 0)

-- the ids of the author's collections that are not empty after these activities, in the order of
-- the first Add to each
abbrev pub boards_by : List ℕ → List Act → List (List ℕ)
boards_by author xs =
    filter (is_filled_by author xs)
    (firsts bytes_eq (map target_key (filter (opens_board author) xs)))

-- the ids of the author's collections that are not empty for the caller, in the order of the first
-- Add to each that the caller sees
abbrev pub boards : Town → Caller → List ℕ → List (List ℕ)
boards t c author = boards_by author (seen t c)

-- ---- one of them, or all

-- the id of the actor's collection with this name, or without a name of the list of them
abbrev pub board_address : List ℕ → Option (List ℕ) → List ℕ
board_address actor None = boards_id actor
board_address actor (Some slug) = board_id actor slug

-- what is in it for the caller
abbrev pub board_items : Town → Caller → List ℕ → Option (List ℕ) → List (List ℕ)
board_items t c author None = boards t c author
board_items t c author (Some slug) = pinned t c author slug
