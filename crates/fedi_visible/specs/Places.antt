-- The positions, among all activities, of the items of a collection that somebody sees.
use Rattle.std.specs.Prelude.{ℕ, suc, Bool, true, false, not, ◌&&◌, List, [], ◌∷◌, filter, length}
use Rattle.std.specs.Prelude.{take, Option, None, Some, if◌then◌else◌}
use Rattle.std.specs.List.{list_any, range_with_len, slice_get}
use Rattle.fedi_town.specs.declared.act.Act.{Act}
use Rattle.fedi_town.specs.declared.caller.Caller.{Caller}
use Rattle.fedi_town.specs.declared.caller.Which.{Which}
use Rattle.fedi_town.specs.declared.caller.Which.TheVariants.{Followers, Following}
use Rattle.fedi_town.specs.Collections.{is_item, is_same_item}
use Rattle.fedi_town.specs.Seeing.{sees}
use Rattle.fedi_town.specs.Towns.{Town}

-- the activity is in the owner's collection and the caller sees it
unfoldable pub is_seen_item : Town → Caller → Which → List ℕ → Act → Bool
is_seen_item t c which id x = is_item which id x && sees t c x

-- in this collection an item can be repeated
abbrev pub can_come_again : Which → Bool
can_come_again (Followers name) = true
can_come_again (Following name) = true
can_come_again _ = false

-- the item is in it already, by an earlier activity that the caller sees
unfoldable pub is_same_seen : Town → Caller → Which → List ℕ → Act → Act → Bool
is_same_seen t c which id x earlier =
    is_item which id earlier && (is_same_item which earlier x && sees t c earlier)

-- after these activities, this is the first of its item
unfoldable pub is_first : Town → Caller → Which → List ℕ → List Act → Act → Bool
is_first t c which id before x =
    is_seen_item t c which id x && not (list_any (is_same_seen t c which id x) before)

-- the one found after these activities, if there is one, is the first of its item
abbrev pub is_first_of : Town → Caller → Which → List ℕ → List Act → Option Act → Bool
is_first_of t c which id before None = false
is_first_of t c which id before (Some x) = is_first t c which id before x

-- the activity at this position is the first of its item
unfoldable pub is_listed : Town → Caller → Which → List ℕ → ℕ → Bool
is_listed t c which id place = is_first_of t c which id (take place t.acts) (slice_get t.acts place)

-- the positions of the items
abbrev pub places : Town → Caller → Which → List ℕ → List ℕ
places t c which id = filter (is_listed t c which id) (range_with_len 0 (length t.acts))

-- the positions of the activities that pass, if the first activity has this position
abbrev pub places_from : (Act → Bool) → ℕ → List Act → List ℕ
places_from p n [] = []
places_from p n (x ∷ xs) = if p x then n ∷ places_from p (suc n) xs else places_from p (suc n) xs
