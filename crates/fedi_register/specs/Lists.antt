-- The IRIs of a list.
use Rattle.std.specs.Prelude.{ℕ, List, [], ◌∷◌}
use Rattle.fedi_register.specs.declared.iris.Held.{Held}
use Rattle.fedi_register.specs.declared.iris.Held.TheVariants.{Nothing, One, Many}

-- the stored IRIs
abbrev pub iris_in : Held → List (List ℕ)
iris_in Nothing = []
iris_in (One iri) = iri ∷ []
iris_in (Many iris) = iris.value.items
