-- The items of a page are written one after the other.
use Rattle.std.proofs.Common.{◌≡◌, ℕ, List, [], ◌∷◌, ◌++◌, map, reverse, refl, sym, ap, ◌∙◌}
use Rattle.std.proofs.lemmas.List.Folds.{flat_map-map}
use Rattle.std.specs.List.{flat_map}
use Rattle.json.specs.Token.{Token}
use Rattle.json.specs.Tree.{items_tokens, json_tokens}
use Rattle.serde_json.specs.Data.{array, string}
use Rattle.serde_json.specs.View.{items_of}
use Rattle.serde_json.specs.Written.{items_outline, outline}
use Rattle.fedi_collections.proofs.ItemTokens.{map_reverse}

-- the tokens of a list of texts are those of each
texts_in_order : (ids : List (List ℕ)) → items_tokens (items_outline (items_of (map string ids))) ≡ flat_map (λ id. Token.string id ∷ []) ids ++ Token.end_array ∷ []
texts_in_order [] = refl
texts_in_order (id ∷ ids) = ap (λ ts. Token.string id ∷ ts) (texts_in_order ids)

-- the items at these positions, the last first
pub items_by_places : {P : Type 0} (item : ℕ → List ℕ) (value : P → ℕ) (done : List P) (places : List ℕ) → map value done ≡ reverse places
    → (Token.begin_array ∷ flat_map (λ p. Token.string (item (value p)) ∷ []) done) ++ Token.end_array ∷ []
    ≡ json_tokens (outline (array (items_of (map string (reverse (map item places))))))
items_by_places item value done places all_done =
    ap (λ ts. Token.begin_array ∷ ts)
    (ap (λ ts. ts ++ Token.end_array ∷ [])
    (sym (flat_map-map (λ place. Token.string (item place) ∷ []) value done)
    ∙ ap (flat_map (λ place. Token.string (item place) ∷ [])) all_done
    ∙ sym (flat_map-map (λ id. Token.string id ∷ []) item (reverse places))
    ∙ ap (flat_map (λ id. Token.string id ∷ [])) (map_reverse item places))
    ∙ sym (texts_in_order (reverse (map item places))))
