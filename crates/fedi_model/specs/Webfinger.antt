-- The member that a WebFinger query asks for (RFC 7033, sections 4.1 to 4.3).
use Rattle.std.specs.Prelude.{ℕ, ◌&&◌, Bool, nat_eq, nat_lt, nat_le, List, [], ◌∷◌, length, drop}
use Rattle.std.specs.Prelude.{codes, bytes_eq, Option, None, Some, option_map, if◌then◌else◌}
use Rattle.std.specs.List.{starts_with, before_last, after_last}
use Rattle.fedi_address.specs.Iris.{is_at, normal}
use Rattle.fedi_address.specs.Names.{is_name}
use Rattle.fedi_model.specs.declared.ask.Resource.{Resource}
use Rattle.fedi_town.specs.Ids.{actor_id}
use Rattle.fedi_model.specs.Queries.{values_of}

-- what follows this prefix of a text, if the text begins with it
abbrev pub after_front : List ℕ → List ℕ → Option (List ℕ)
after_front front text =
    if starts_with nat_eq text front then Some (drop (length front) text) else None

-- the text, if there is one and it is a name that members may have
abbrev pub as_name : Option (List ℕ) → Option (List ℕ)
as_name None = None
as_name (Some text) = if is_name text then Some text else None

-- an account is split at its last `@` into a user and a host, neither of which is empty (RFC 7565,
-- section 7)
abbrev pub is_account : List ℕ → Bool
is_account account =
    nat_lt 0 (length (before_last is_at account)) && nat_lt 0 (length (after_last is_at account))

-- the member with the account of this user at this domain, which has to be the server's host, once
-- that is set
abbrev pub account_name : Option (List ℕ) → List ℕ → List ℕ → Option (List ℕ)
account_name None user domain = None
account_name (Some host) user domain = if bytes_eq domain host then as_name (Some user) else None

-- the member that an account names, or nobody, if the account is valid
abbrev pub name_of_account : Option (List ℕ) → List ℕ → Option (Option (List ℕ))
name_of_account host account =
    if is_account account
    then Some (account_name host (before_last is_at account) (after_last is_at account)) else None

-- the member with this id
abbrev pub id_name : Option (List ℕ) → List ℕ → Option (List ℕ)
id_name None iri = None
id_name (Some host) iri = as_name (after_front (actor_id host []) iri)

-- the member that an IRI names, or nobody, if the IRI is valid and not too long
abbrev pub name_of_iri : Option (List ℕ) → Option (List ℕ) → Option (Option (List ℕ))
name_of_iri host None = None
name_of_iri host (Some iri) = if nat_le (length iri) 2048 then Some (id_name host iri) else None

-- the member that a text names: what follows `acct:` is an account, and a text without this prefix
-- is read as an IRI
abbrev pub name_by : Option (List ℕ) → Option (List ℕ) → Option (List ℕ) → Option (Option (List ℕ))
name_by host (Some account) iri = name_of_account host account
name_by host None iri = name_of_iri host iri

-- the member that a resource names, or certainly nobody here; and nothing at all if it is malformed
unfoldable pub resource_name : Option (List ℕ) → List ℕ → Option (Option (List ℕ))
resource_name host text = name_by host (after_front (codes "acct:") text) (normal text)

-- the resource, if there is exactly one, with these relations
abbrev pub resource_with : Option (List ℕ) → List (List ℕ) → List (List ℕ) → Option Resource
resource_with host (text ∷ []) rels =
    option_map (λ name. record { name = name; rels = rels }) (resource_name host text)
resource_with host texts rels = None

-- the resource that a query asks for, at the server of this host
unfoldable pub resource_in : Option (List ℕ) → List ℕ → Option Resource
resource_in host query =
    resource_with host (values_of (codes "resource") query) (values_of (codes "rel") query)
