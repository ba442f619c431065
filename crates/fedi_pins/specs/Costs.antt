-- How often activities are read for a page of a collection that a member makes, or of the list of
-- the member's collections, if so many reads find the candidates.
use Rattle.std.specs.Prelude.{ℕ, ◌+◌, ◌*◌, Bool, List, length, Option, Some, None, if◌then◌else◌}
use Rattle.std.specs.List.{sum_by}
use Rattle.fedi_town.specs.declared.caller.Caller.{Caller}
use Rattle.fedi_town.specs.Boards.{board_id}
use Rattle.fedi_town.specs.Towns.{Town}
use Rattle.fedi_visible.specs.Pins.{directed_places, pin_places}
use Rattle.fedi_pins.specs.Held.{opened}

-- the Adds and Removes that are directed to the collection with this id are read twice
abbrev pub board_cost : ℕ → Town → List ℕ → ℕ
board_cost look t board = look + 2 * length (directed_places t board)

-- the same, if the collection is read at all
abbrev pub cost_if : Bool → ℕ → Town → List ℕ → ℕ
cost_if is_read look t board = if is_read then board_cost look t board else 0

-- for the list, the author's Adds and Removes are read twice, and each collection once to which the
-- caller sees an Add
abbrev pub items_cost : ℕ → Town → Caller → List ℕ → Option (List ℕ) → ℕ
items_cost look t c author (Some slug) = board_cost look t (board_id author slug)
items_cost look t c author None =
    (look + 2 * length (pin_places t author)) + sum_by (board_cost look t) (opened t c author)
