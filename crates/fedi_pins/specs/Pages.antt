-- The documents of collections that members make (ActivityStreams 2.0 Core, section 5).
use Rattle.std.specs.Prelude.{◌≡◌, ℕ, ◌*◌, nat_le, List, drop, length, map, take, Option, Some}
use Rattle.std.specs.Prelude.{None, if◌then◌else◌}
use Rattle.serde_json.specs.Data.{Data, string}
use Rattle.serde_json.specs.Written.{compact_text}
use Rattle.fedi_town.specs.declared.caller.Caller.{Caller}
use Rattle.fedi_town.specs.Boards.{board_address, board_items}
use Rattle.fedi_town.specs.Collections.{highest, page_of}
use Rattle.fedi_town.specs.Towns.{Town}
use Rattle.fedi_model.specs.Documents.{page_form, summary_form}
use Rattle.fedi_visible.specs.declared.shelf.VisiblePage.{VisiblePage}
use Rattle.fedi_pins.specs.declared.pins.Listing.{Listing}
use Rattle.fedi_pins.specs.declared.pins.Listing.TheVariants.{Objects, Boards}
use Rattle.fedi_pins.specs.Held.{item_at}

-- what the author's collection of this name lists, or without a name the list of them
abbrev pub listing_of : Option (List ℕ) → Listing
listing_of None = Boards
listing_of (Some slug) = Objects

-- how many items there are, and the positions of the activities whose items are on the page of this
-- number
pub record IsPage
    (t : Town) (listing : Listing) (ids : List (List ℕ)) (number : ℕ) (page : VisiblePage)
    : Type 0 where
  pub total : page.total ≡ length ids
  pub items : map (item_at t listing) page.places.items ≡ take 20 (drop (20 * number) ids)

-- the number of items that the caller sees in the author's collection of this name
abbrev pub total_of : Town → Caller → List ℕ → Option (List ℕ) → ℕ
total_of t c author slug = length (board_items t c author slug)

-- the collection without its items
abbrev pub summary_of : Town → Caller → List ℕ → Option (List ℕ) → Data
summary_of t c author slug = summary_form (board_address author slug) (total_of t c author slug)

-- the page of this number, which is not above the highest
abbrev pub page_at : Town → Caller → List ℕ → Option (List ℕ) → ℕ → Data
page_at t c author slug k =
    page_form (board_address author slug) k (total_of t c author slug)
    (map string (page_of k (board_items t c author slug)))

-- the text of the page of this number, or none if it is above the highest
abbrev pub page_text : Town → Caller → List ℕ → Option (List ℕ) → ℕ → Option (List ℕ)
page_text t c author slug k =
    if nat_le k (highest (total_of t c author slug))
    then Some (compact_text (page_at t c author slug k)) else None
