-- The items of a page, in the order in which they are found and written.
use Rattle.std.proofs.Common.{◌≡◌, ℕ, ◌≤◌, length, slice_get, List, [], ◌∷◌, ◌++◌, Option, Some, map, reverse, refl, sym, ap, ◌∙◌, append_assoc, append-nil}
use Rattle.std.proofs.lemmas.List.{map-append, reverse-append}
use Rattle.std.proofs.lemmas.Option.{slice_get_past}
use Rattle.std.proofs.lemmas.List.Folds.{flat_map-map}
use Rattle.std.specs.List.{flat_map}
use Rattle.json.specs.Token.{Token}
use Rattle.json.specs.Written.{Written}
use Rattle.json.specs.Tree.{json_tokens, items_tokens}
use Rattle.serde_json.specs.Data.{Data, array}
use Rattle.serde_json.specs.View.{items_of}
use Rattle.serde_json.specs.Written.{outline, items_outline}
use Rattle.fedi_objects.proofs.Additions.{nothing_added, values_tokens}
use Rattle.fedi_objects.specs.Writing.{Adds}
use Rattle.fedi_collections.specs.Items.{forms_at, tokens_at}

pub map_reverse : {A B : Type 0} (f : A → B) (xs : List A) → map f (reverse xs) ≡ reverse (map f xs)
map_reverse f [] = refl
map_reverse f (x ∷ xs) =
    ap (map f) (reverse-append (x ∷ []) xs) ∙ map-append f (reverse xs) (x ∷ []) ∙ ap (λ ys. ys ++ f x ∷ []) (map_reverse f xs)
    ∙ sym (reverse-append (f x ∷ []) (map f xs))

-- ---- what is found

-- one more item
pub form_added : {A I : Type 0} (form : A → Data) (data_of : I → Data) (all : List A) (place : ℕ) (x : A) (before after : List I) (item : I)
    → Some x ≡ slice_get all place → data_of item ≡ form x → after ≡ before ++ item ∷ []
    → map data_of after ≡ map data_of before ++ forms_at form (slice_get all place)
form_added {A} form data_of all place x before after item at is more =
    ap (map data_of) more ∙ map-append data_of before (item ∷ []) ∙ ap (λ (d : Data). map data_of before ++ d ∷ []) is
    ∙ ap (λ (o : Option A). map data_of before ++ forms_at form o) at

-- there is no item past the end
pub no_form_past : {A : Type 0} (form : A → Data) (xs : List A) (i : ℕ) (ds : List Data) → length xs ≤ i → ds ≡ ds ++ forms_at form (slice_get xs i)
no_form_past form xs i ds past = rw (slice_get_past xs i past) (sym (append-nil ds))

forms_in_order : {A : Type 0} (form : A → Data) (xs : List A) → flat_map (forms_at form) (map Some xs) ≡ map form xs
forms_in_order form [] = refl
forms_in_order form (x ∷ xs) = ap (λ (ds : List Data). form x ∷ ds) (forms_in_order form xs)

-- the items at these positions, if each has one, the last first
pub forms_by_places : {A P : Type 0} (form : A → Data) (all : List A) (value : P → ℕ) (done : List P) (places : List ℕ) (xs : List A)
    → map value done ≡ reverse places → map (slice_get all) places ≡ map Some xs
    → flat_map (λ p. forms_at form (slice_get all (value p))) done ≡ map form (reverse xs)
forms_by_places form all value done places xs all_done same =
    sym (flat_map-map (λ p. forms_at form (slice_get all p)) value done)
    ∙ ap (flat_map (λ p. forms_at form (slice_get all p))) all_done
    ∙ sym (flat_map-map (forms_at form) (slice_get all) (reverse places))
    ∙ ap (flat_map (forms_at form)) (map_reverse (slice_get all) places ∙ ap reverse same ∙ sym (map_reverse Some xs))
    ∙ forms_in_order form (reverse xs)

-- ---- what is written of it

-- the tokens of a list are those of each item
tokens_in_order : {A : Type 0} (form : A → Data) (xs : List A)
    → items_tokens (items_outline (items_of (map form xs))) ≡ values_tokens (map form xs) ++ Token.end_array ∷ []
tokens_in_order form [] = refl
tokens_in_order form (x ∷ xs) =
    ap (λ ts. json_tokens (outline (form x)) ++ ts) (tokens_in_order form xs)
    ∙ sym (append_assoc (json_tokens (outline (form x))) (values_tokens (map form xs)) (Token.end_array ∷ []))

-- the items between brackets are a list
pub list_tokens : {A : Type 0} (form : A → Data) (xs ys : List A) → ys ≡ xs
    → Token.begin_array ∷ (values_tokens (map form ys) ++ Token.end_array ∷ []) ≡ json_tokens (outline (array (items_of (map form xs))))
list_tokens form xs ys all =
    ap (λ zs. Token.begin_array ∷ (values_tokens (map form zs) ++ Token.end_array ∷ [])) all
    ∙ ap (λ ts. Token.begin_array ∷ ts) (sym (tokens_in_order form xs))

-- ---- what is written from the facts

-- the tokens of a list of items are those of each
items_in_order : {A : Type 0} (form : A → Data) (xs : List A)
    → items_tokens (items_outline (items_of (map form xs))) ≡ flat_map (tokens_at form) (map Some xs) ++ Token.end_array ∷ []
items_in_order form [] = refl
items_in_order form (x ∷ xs) =
    ap (λ ts. json_tokens (outline (form x)) ++ ts) (items_in_order form xs)
    ∙ sym (append_assoc (json_tokens (outline (form x))) (flat_map (tokens_at form) (map Some xs)) (Token.end_array ∷ []))

-- there is no item past the end
pub none_past : {A : Type 0} (form : A → Data) (xs : List A) (i : ℕ) (x : Written) → length xs ≤ i → Adds (tokens_at form (slice_get xs i)) x x
none_past form xs i x past = rw (slice_get_past xs i past) (nothing_added x)

-- the items at these positions, if each has one, the last first
pub items_by_places : {A P : Type 0} (form : A → Data) (all : List A) (value : P → ℕ) (done : List P) (places : List ℕ) (xs : List A)
    → map value done ≡ reverse places → map (slice_get all) places ≡ map Some xs
    → (Token.begin_array ∷ flat_map (λ p. tokens_at form (slice_get all (value p))) done) ++ Token.end_array ∷ []
    ≡ json_tokens (outline (array (items_of (map form (reverse xs)))))
items_by_places form all value done places xs all_done same =
    ap (λ ts. Token.begin_array ∷ ts)
    (ap (λ ts. ts ++ Token.end_array ∷ []) (sym (flat_map-map (λ p. tokens_at form (slice_get all p)) value done)
    ∙ ap (flat_map (λ p. tokens_at form (slice_get all p))) all_done
    ∙ sym (flat_map-map (tokens_at form) (slice_get all) (reverse places))
    ∙ ap (flat_map (tokens_at form)) (map_reverse (slice_get all) places ∙ ap reverse same ∙ sym (map_reverse Some xs)))
    ∙ sym (items_in_order form (reverse xs)))
