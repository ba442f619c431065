-- The tokens of the documents of a collection and of a page (ActivityStreams 2.0 Core, section 5).
use Rattle.std.specs.Prelude.{ℕ, zero, suc, ◌+◌, nat_le, List, [], ◌∷◌, ◌++◌, codes, decimal}
use Rattle.std.specs.Prelude.{if◌then◌else◌}
use Rattle.json.specs.Token.{Token}
use Rattle.fedi_model.specs.Documents.{page_id}
use Rattle.fedi_town.specs.Collections.{highest}

-- a member whose value is a string
abbrev pub text_member : List ℕ → List ℕ → List Token
text_member key text = Token.key key ∷ Token.string text ∷ []

-- the beginning of a document, with its context (ActivityStreams 2.0 Core, section 2.1)
unfoldable pub document_start : List Token
document_start =
    Token.begin_object
    ∷ text_member (codes "@context") (codes "https://www.w3.org/ns/activitystreams")

-- the type and the end of a document
unfoldable pub document_end : List ℕ → List Token
document_end kind = Token.key (codes "type") ∷ Token.string kind ∷ Token.end_object ∷ []

-- the newest page of a collection with this many items, if there are any
unfoldable pub first_member : List ℕ → ℕ → List Token
first_member id zero = []
first_member id (suc n) = text_member (codes "first") (page_id id (highest (suc n)))

-- the oldest page of a collection with this many items, if there are any
unfoldable pub last_member : List ℕ → ℕ → List Token
last_member id zero = []
last_member id (suc n) = text_member (codes "last") (page_id id 0)

-- the number of items
unfoldable pub total_member : ℕ → List Token
total_member total = Token.key (codes "totalItems") ∷ Token.number (decimal total) ∷ []

-- the page of older items
unfoldable pub next_member : List ℕ → ℕ → List Token
next_member id zero = []
next_member id (suc k) = text_member (codes "next") (page_id id k)

-- the page of newer items, given the highest page
unfoldable pub prev_member : List ℕ → ℕ → ℕ → List Token
prev_member id k top =
    if nat_le (k + 1) top then text_member (codes "prev") (page_id id (k + 1)) else []

-- what comes before the items of a page
unfoldable pub page_start : List ℕ → ℕ → List Token
page_start id k =
    document_start ++ (text_member (codes "id") (page_id id k)
    ++ (next_member id k ++ Token.key (codes "orderedItems") ∷ []))

-- what follows the items of a page of a collection with this many items
unfoldable pub page_end : List ℕ → ℕ → ℕ → List Token
page_end id k total =
    text_member (codes "partOf") id
    ++ (prev_member id k (highest total) ++ document_end (codes "OrderedCollectionPage"))
