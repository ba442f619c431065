-- What the benches of a server are for, in the order in which they are made.
use Rattle.std.specs.Prelude.{ℕ, zero, suc, ◌+◌, ◌/◌, ◌%◌, List, [], ◌∷◌, ◌++◌, nat_eq}
use Rattle.std.specs.Prelude.{if◌then◌else◌}
use Rattle.fedi_adapters.specs.declared.tcp_doors.Role.{Role}
use Rattle.fedi_adapters.specs.declared.tcp_doors.Role.TheVariants.{Serves, Delivers}

-- what the bench at this place is for: in each group of this size one delivers, in the first group
-- the third bench, and in each later group the next one in the group
abbrev pub role_at : ℕ → ℕ → Role
role_at size place =
    if (nat_eq (place % size) ((place / size + 2) % size)) then Delivers else Serves

-- what the first benches are for, as many as are counted
abbrev pub first_roles : ℕ → ℕ → List Role
first_roles size zero = []
first_roles size (suc count) = first_roles size count ++ role_at size count ∷ []
