-- By which Add an item is in a collection that a member makes, or in the list of the member's
-- collections (ActivityPub, sections 6.6 and 6.7).
use Rattle.std.specs.Prelude.{ℕ, Bool, false, ◌&&◌, nat_eq, List, [], drop, filter, length, map}
use Rattle.std.specs.Prelude.{slice_get, Option, Some, None, unwrap_or, if◌then◌else◌}
use Rattle.std.specs.List.{fold}
use Rattle.std.specs.Str.{bytes_eq}
use Rattle.fedi_town.specs.declared.act.Act.{Act}
use Rattle.fedi_town.specs.declared.caller.Caller.{Caller}
use Rattle.fedi_town.specs.Boards.{board_id, is_board, is_filled_by, is_pin_of, is_remove}
use Rattle.fedi_town.specs.Boards.{opens_board, pinned_by, target_key}
use Rattle.fedi_town.specs.Collections.{object_key}
use Rattle.fedi_town.specs.Lists.{firsts}
use Rattle.fedi_town.specs.Seeing.{seen, sees}
use Rattle.fedi_town.specs.Towns.{Town}
use Rattle.fedi_visible.specs.Pins.{directed_places, pin_places}
use Rattle.fedi_pins.specs.declared.pins.Listing.{Listing}
use Rattle.fedi_pins.specs.declared.pins.Listing.TheVariants.{Objects, Boards}

-- ---- names

-- the name of the author's collection with this id, if it is the id of one
abbrev pub slug_of : List ℕ → List ℕ → Option (List ℕ)
slug_of author id =
    if is_board author id then Some (drop (length (board_id author [])) id) else None

-- ---- what changes a collection

-- The activity changes what is listed: an Add or a Remove of the author's collection with this id,
-- or, in the list of the author's collections, an Add to one of them.
abbrev pub is_change : Listing → List ℕ → List ℕ → Act → Bool
is_change Objects author board x = is_pin_of author board x
is_change Boards author board x = opens_board author x

-- it is such an activity, and the caller sees it
unfoldable pub is_seen_change : Town → Caller → Listing → List ℕ → List ℕ → Act → Bool
is_seen_change t c listing author board x = is_change listing author board x && sees t c x

-- the item that the activity is about: the id of its object, or the id of the collection that it is
-- directed to
abbrev pub item_key : Listing → Act → List ℕ
item_key Objects x = object_key x
item_key Boards x = target_key x

-- the item of the activity that was found, or an empty text
abbrev pub key_found : Listing → Option Act → List ℕ
key_found listing None = []
key_found listing (Some x) = item_key listing x

-- the item of the activity at this position
abbrev pub item_at : Town → Listing → ℕ → List ℕ
item_at t listing place = key_found listing (slice_get t.acts place)

-- the activity that was found takes something out
abbrev pub is_remove_found : Option Act → Bool
is_remove_found None = false
is_remove_found (Some x) = is_remove x.activity.kind

-- the activity at this position takes something out
unfoldable pub is_remove_at : Town → ℕ → Bool
is_remove_at t place = is_remove_found (slice_get t.acts place)

-- ---- the Add by which an item is there

-- The position of the Add by which this id is listed for the caller, after the activity at this
-- position: an Add of what is there already changes nothing.
abbrev pub held_by : Town → Caller → Listing → List ℕ → List ℕ → List ℕ → Option ℕ → ℕ → Act
    → Option ℕ
held_by t c listing author board id held place x =
    if is_seen_change t c listing author board x && bytes_eq (item_key listing x) id
    then (if is_remove x.activity.kind then None else Some (unwrap_or held place)) else held

-- the same, after the activity that was found at the position
abbrev pub held_found : Town → Caller → Listing → List ℕ → List ℕ → List ℕ → Option ℕ → ℕ
    → Option Act → Option ℕ
held_found t c listing author board id held place None = held
held_found t c listing author board id held place (Some x) =
    held_by t c listing author board id held place x

-- after the activity at the position
unfoldable pub held_at : Town → Caller → Listing → List ℕ → List ℕ → List ℕ → Option ℕ → ℕ
    → Option ℕ
held_at t c listing author board id held place =
    held_found t c listing author board id held place (slice_get t.acts place)

-- after the activities at these positions
abbrev pub holder : Town → Caller → Listing → List ℕ → List ℕ → List ℕ → List ℕ → Option ℕ
holder t c listing author board places id =
    fold (held_at t c listing author board id) None places

-- it is this position
abbrev pub is_place : ℕ → Option ℕ → Bool
is_place place None = false
is_place place (Some p) = nat_eq p place

-- the activity at this position is the Add by which its item is listed
unfoldable pub is_holder : Town → Caller → Listing → List ℕ → List ℕ → List ℕ → ℕ → Bool
is_holder t c listing author board places place =
    is_place place (holder t c listing author board places (item_at t listing place))

-- the positions of those Adds
abbrev pub held_places : Town → Caller → Listing → List ℕ → List ℕ → List ℕ → List ℕ
held_places t c listing author board places =
    filter (is_holder t c listing author board places) places

-- ---- what is listed

-- the positions of the activities that may change what is listed
abbrev pub candidates : Town → Listing → List ℕ → List ℕ → List ℕ
candidates t Objects author board = directed_places t board
candidates t Boards author board = pin_places t author

-- the ids of the author's collections to which the caller sees an Add, in the order of the first of
-- these
abbrev pub opened : Town → Caller → List ℕ → List (List ℕ)
opened t c author = firsts bytes_eq (map target_key (filter (opens_board author) (seen t c)))

-- what is listed, with collections that may be empty
abbrev pub listed : Town → Caller → Listing → List ℕ → List ℕ → List (List ℕ)
listed t c Objects author board = pinned_by author board (seen t c)
listed t c Boards author board = opened t c author

-- ---- the collections that are not empty

-- it is the id of one of the author's collections, and the caller sees something in it
unfoldable pub is_filled : Town → Caller → List ℕ → List ℕ → Bool
is_filled t c author board = is_board author board && is_filled_by author (seen t c) board

-- the activity at this position is the first Add to a collection in which the caller sees something
unfoldable pub is_filled_first : Town → Caller → List ℕ → List ℕ → List ℕ → ℕ → Bool
is_filled_first t c author board places place =
    is_filled t c author (item_at t Boards place) && is_holder t c Boards author board places place
