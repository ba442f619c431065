-- The id of a member is short.
use Rattle.std.proofs.Common.{◌≡◌, ℕ, ◌≤◌, List, ◌++◌, length, codes, true, arith, length-append}
use Rattle.std.specs.Prelude.{◌&&◌, nat_le}
use Rattle.std.specs.List.{list_all}
use Rattle.std.proofs.lemmas.Bool.{and_parts}
use Rattle.std.proofs.lemmas.Bool.Decides.{nat_tests}
use Rattle.fedi_address.specs.Hosts.{address}
use Rattle.fedi_address.specs.Names.{is_name, is_name_byte}
use Rattle.fedi_town.specs.Ids.{actor_id}

name_is_short : (name : List ℕ) → is_name name ≡ true → length name ≤ 30
name_is_short name h =
    let sized = and_parts (nat_le 1 (length name) && nat_le (length name) 30) (list_all is_name_byte name) h in
    let most = (and_parts (nat_le 1 (length name)) (nat_le (length name) 30) sized.0).1 in
    grind (arith, nat_tests)

pub id_is_short : (host name : List ℕ) → length (address host (codes "/")) ≤ 2048 → is_name name ≡ true → length (actor_id host name) ≤ 2200
unfolding actor_id
id_is_short host name root named =
    let short = name_is_short name named in
    omega (arith, root, short, length-append host (codes "/"), length-append host (codes "/users/" ++ name))
