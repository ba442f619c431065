-- The recipients of an activity, found one by one.
use Rattle.std.specs.Prelude.{ℕ, Bool, not, nat_lt, length, Option, Some, None, ◌&&◌, List, [], ◌∷◌}
use Rattle.std.specs.Prelude.{◌++◌, if◌then◌else◌}
use Rattle.std.specs.List.{fold, position_or_len}
use Rattle.fedi_address.specs.Recipients.{is_among}
use Rattle.fedi_town.specs.Addressing.{addressees, is_recipient}
use Rattle.fedi_town.specs.Towns.{Town}

-- the author's activity may go there, and it was not found before
unfoldable pub is_new_recipient : Town → List ℕ → List (List ℕ) → List ℕ → Bool
is_new_recipient t author found iri = is_recipient t author iri && not (is_among iri found)

-- one more, if it is new
unfoldable pub with_reached : Town → List ℕ → List (List ℕ) → List ℕ → List (List ℕ)
with_reached t author found iri =
    if is_new_recipient t author found iri then found ++ iri ∷ [] else found

-- all that a name represents
unfoldable pub with_addressees : Town → List ℕ → List (List ℕ) → List ℕ → List (List ℕ)
with_addressees t author found iri = fold (with_reached t author) found (addressees t author iri)

-- the first index of an item that passes the test
abbrev pub first_place : {A : Type 0} → (A → Bool) → List A → Option ℕ
first_place p xs =
    if nat_lt (position_or_len p xs) (length xs) then Some (position_or_len p xs) else None
