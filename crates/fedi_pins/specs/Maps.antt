-- Maps from ids to positions.
use Rattle.std.specs.Prelude.{◌≡◌, ℕ, Bool, false, nat_lt, List, length, Option, Some}
use Rattle.std.specs.Borrow.{Bor}
use Rattle.std.specs.BTreeMap.{BTreeMap, get_by}
use Rattle.std.specs.Cmp.Lexicographic.{slice_cmp}
use Rattle.std.specs.List.{list_all}
use Rattle.std.specs.Ordering.{nat_cmp}
use Rattle.fedi_town.specs.Towns.{Town}
use Rattle.fedi_pins.specs.Held.{is_remove_at}

-- the position at this id, if there is one
abbrev pub place_in : BTreeMap (Bor (List ℕ)) ℕ → List ℕ → Option ℕ
place_in m id = get_by (λ k. slice_cmp nat_cmp id k.now) m

-- there is an activity at each of these positions
abbrev pub are_there : Town → List ℕ → Bool
are_there t places = list_all (λ place. nat_lt place (length t.acts)) places

-- no position in the map is that of a Remove
abbrev pub HasAddsAlone : Town → BTreeMap (Bor (List ℕ)) ℕ → Type 0
HasAddsAlone t m = (id : List ℕ) (place : ℕ) → place_in m id ≡ Some place
    → is_remove_at t place ≡ false
