-- The documents of a collection (ActivityPub, section 5; ActivityStreams 2.0 Core, section 5).
use Rattle.std.specs.Prelude.{ℕ, List, length, map, nat_le, Option, Some, None, if◌then◌else◌}
use Rattle.serde_json.specs.Data.{Data}
use Rattle.fedi_model.specs.Documents.{collection_id, item_form, page_form, summary_form}
use Rattle.fedi_town.specs.declared.caller.Caller.{Caller}
use Rattle.fedi_town.specs.declared.caller.Which.{Which}
use Rattle.fedi_town.specs.Collections.{highest, items, page_of}
use Rattle.fedi_town.specs.Towns.{Town}

-- the number of items that the caller sees in the owner's collection
abbrev pub total_of : Town → Caller → Which → List ℕ → ℕ
total_of t c which id = length (items t c which id)

-- the owner's collection without its items
abbrev pub summary_of : Town → Caller → Which → List ℕ → Data
summary_of t c which id = summary_form (collection_id which id) (total_of t c which id)

-- the page of this number, which is not above the highest
abbrev pub page_at : Town → Caller → Which → List ℕ → ℕ → Data
page_at t c which id k =
    page_form (collection_id which id) k (total_of t c which id)
    (map (item_form t which) (page_of k (items t c which id)))

-- the page of this number, or none if it is above the highest
abbrev pub page_or_none : Town → Caller → Which → List ℕ → ℕ → Option Data
page_or_none t c which id k =
    if nat_le k (highest (total_of t c which id)) then Some (page_at t c which id k) else None
