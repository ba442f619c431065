-- The followers that an activity of another server is forwarded to, found one by one.
use Rattle.std.specs.Prelude.{ℕ, Bool, not, List}
use Rattle.std.specs.List.{fold}
use Rattle.fedi_address.specs.Recipients.{add_new, is_among}
use Rattle.fedi_town.specs.Forwarding.{forwards_at}
use Rattle.fedi_town.specs.Towns.{Town}

-- it was not found before
unfoldable pub is_unfound : List (List ℕ) → List ℕ → Bool
is_unfound found iri = not (is_among iri found)

-- those that one name adds
unfoldable pub with_forwards : Town → List ℕ → List (List ℕ) → List ℕ → List (List ℕ)
with_forwards t author found iri = fold add_new found (forwards_at t author iri)
