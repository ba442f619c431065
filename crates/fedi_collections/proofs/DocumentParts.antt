-- The parts that are written are the documents of collections and of their pages.
use Rattle.std.proofs.Common.{◌≡◌, ℕ, zero, suc, ◌+◌, ◌-◌, ◌<◌, ◌≤◌, arith, nat_le, true, false, List, [], ◌∷◌, ◌++◌, codes, refl, ap, ◌∙◌, append_assoc}
use Rattle.std.specs.Prelude.{if◌then◌else◌}
use Rattle.json.specs.Token.{Token}
use Rattle.json.specs.Tree.{json_tokens}
use Rattle.json.specs.Written.{Written}
use Rattle.serde_json.specs.Data.{Data, string, array, object, Members, no_members, put}
use Rattle.serde_json.specs.View.{items_of}
use Rattle.serde_json.specs.Written.{outline}
use Rattle.fedi_objects.specs.Forms.{with_context}
use Rattle.fedi_model.specs.Documents.{page_form, page_id, summary_form}
use Rattle.fedi_town.specs.Collections.{highest}
use Rattle.fedi_objects.proofs.Additions.{nothing_added}
use Rattle.fedi_collections.specs.Members.{document_end, document_start, first_member, last_member, next_member, page_end, page_start, prev_member, text_member, total_member}
use Rattle.fedi_objects.specs.Writing.{Adds}

-- the parts of a collection without its items
pub summary_parts : (id : List ℕ) (total : ℕ) → document_start ++ (first_member id total ++ (text_member (codes "id") id
    ++ (last_member id total ++ (total_member total ++ document_end (codes "OrderedCollection"))))) ≡ json_tokens (outline (summary_form id total))
unfolding document_start document_end first_member last_member total_member summary_form with_context
summary_parts id zero = refl
summary_parts id (suc n) = refl

abbrev kind_alone : Members
kind_alone = put (codes "type") (string (codes "OrderedCollectionPage")) no_members

-- the parts of a page
page_pieces : (id : List ℕ) (k total : ℕ) (ds : List Data) → document_start ++ (text_member (codes "id") (page_id id k)
    ++ (next_member id k ++ (Token.key (codes "orderedItems") ∷ (json_tokens (outline (array (items_of ds)))
    ++ (text_member (codes "partOf") id ++ (prev_member id k (highest total) ++ document_end (codes "OrderedCollectionPage")))))))
    ≡ json_tokens (outline (page_form id k total ds))
unfolding document_start document_end next_member prev_member page_form with_context
page_pieces id zero total ds =
    elim (nat_le (zero + 1) (highest total)) as (λ b. document_start ++ (text_member (codes "id") (page_id id zero)
    ++ (Token.key (codes "orderedItems") ∷ (json_tokens (outline (array (items_of ds))) ++ (text_member (codes "partOf") id
    ++ ((if b then text_member (codes "prev") (page_id id (zero + 1)) else []) ++ document_end (codes "OrderedCollectionPage"))))))
    ≡ json_tokens (outline (object (with_context true (put (codes "id") (string (page_id id zero))
    (put (codes "orderedItems") (array (items_of ds)) (put (codes "partOf") (string id)
    (if b then put (codes "prev") (string (page_id id (zero + 1))) kind_alone else kind_alone)))))))) [
      | true ↦ refl
      | false ↦ refl
    ]
page_pieces id (suc k) total ds =
    elim (nat_le (suc k + 1) (highest total)) as (λ b. document_start ++ (text_member (codes "id") (page_id id (suc k))
    ++ (text_member (codes "next") (page_id id k)
    ++ (Token.key (codes "orderedItems") ∷ (json_tokens (outline (array (items_of ds))) ++ (text_member (codes "partOf") id
    ++ ((if b then text_member (codes "prev") (page_id id (suc k + 1)) else []) ++ document_end (codes "OrderedCollectionPage")))))))
    ≡ json_tokens (outline (object (with_context true (put (codes "id") (string (page_id id (suc k)))
    (put (codes "next") (string (page_id id k)) (put (codes "orderedItems") (array (items_of ds)) (put (codes "partOf") (string id)
    (if b then put (codes "prev") (string (page_id id (suc k + 1))) kind_alone else kind_alone))))))))) [
      | true ↦ refl
      | false ↦ refl
    ]

-- a page is its beginning, its items and its end
pub page_parts : (id : List ℕ) (k total : ℕ) (ds : List Data)
    → page_start id k ++ (json_tokens (outline (array (items_of ds))) ++ page_end id k total) ≡ json_tokens (outline (page_form id k total ds))
unfolding page_start page_end
page_parts id k total ds =
    let rest = json_tokens (outline (array (items_of ds))) ++ page_end id k total in
    append_assoc document_start _ rest ∙ ap (λ ts. document_start ++ ts) (append_assoc (text_member (codes "id") (page_id id k)) _ rest
    ∙ ap (λ ts. text_member (codes "id") (page_id id k) ++ ts) (append_assoc (next_member id k) (Token.key (codes "orderedItems") ∷ []) rest))
    ∙ page_pieces id k total ds

-- ---- members that are written only sometimes

pub some_first : (id : List ℕ) (n : ℕ) → 0 < n → first_member id n ≡ text_member (codes "first") (page_id id (highest n))
unfolding first_member
some_first id zero some = absurd (omega (arith, some))
some_first id (suc n) some = refl

pub no_first : (id : List ℕ) (n : ℕ) (x : Written) → n ≤ 0 → Adds (first_member id n) x x
unfolding first_member
no_first id zero x none = nothing_added x
no_first id (suc n) x none = absurd (omega (arith, none))

pub some_last : (id : List ℕ) (n : ℕ) → 0 < n → last_member id n ≡ text_member (codes "last") (page_id id 0)
unfolding last_member
some_last id zero some = absurd (omega (arith, some))
some_last id (suc n) some = refl

pub no_last : (id : List ℕ) (n : ℕ) (x : Written) → n ≤ 0 → Adds (last_member id n) x x
unfolding last_member
no_last id zero x none = nothing_added x
no_last id (suc n) x none = absurd (omega (arith, none))

pub some_next : (id : List ℕ) (k : ℕ) → 0 < k → next_member id k ≡ text_member (codes "next") (page_id id (k - 1))
unfolding next_member
some_next id zero some = absurd (omega (arith, some))
some_next id (suc k) some = let e : suc k - 1 ≡ k = omega arith in rw e refl

pub no_next : (id : List ℕ) (k : ℕ) (x : Written) → k ≤ 0 → Adds (next_member id k) x x
unfolding next_member
no_next id zero x none = nothing_added x
no_next id (suc k) x none = absurd (omega (arith, none))
