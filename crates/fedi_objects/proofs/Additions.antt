-- Tokens that are written one after another.
use Rattle.std.proofs.Common.{◌≡◌, ◌≢◌, take_all, ℕ, arith, rules, tests, subst, false, cond, Err, ◌+◌, ◌<◌, List, [], ◌∷◌, ◌++◌, map, take, length, get_or, Some, None, Result, Ok, refl, sym, ap, ◌∙◌, append_assoc, append-nil}
use Rattle.std.specs.Prelude.{◌==◌, OnOk}
use Rattle.std.proofs.lemmas.List.{take_more, map-append}
use Rattle.json.specs.Token.{Token}
use Rattle.json.specs.Tree.{json_tokens, items_tokens}
use Rattle.json.specs.Written.{Written, Writes}
use Rattle.serde_json.specs.Data.{Data, string, array}
use Rattle.serde_json.specs.View.{items_of}
use Rattle.serde_json.specs.Written.{outline, items_outline}
use Rattle.fedi_objects.specs.Writing.{IsWritten, IsDocument, Adds, listed, member_tokens}

pub nothing_added : (w : Written) → Adds [] w w
nothing_added w = record { tokens = sym (append-nil w.tokens); before = refl }

pub then : {a b : List Token} {x y z : Written} → Adds a x y → Adds b y z → Adds (a ++ b) x z
then {a} {b} {x} {y} {z} first second = record {
  tokens = second.tokens ∙ ap (λ ts. ts ++ b) first.tokens ∙ append_assoc x.tokens a b;
  before = second.before ∙ first.before;
}

pub one_added : {E : Type 0} {r : Result (Unit {0}) E} {u : Unit {0}} {t : Token} {x y : Written} → r ≡ Ok u → Writes r x y t → Adds (t ∷ []) x y
one_added {t = t} {x = x} {y = y} was h = record {
  tokens = subst (λ q. OnOk q (y.tokens ≡ x.tokens ++ t ∷ [])) was h.ok;
  before = h.room.0;
}

-- if the last token is written, all tokens are
pub ended : {E : Type 0} (r : Result (Unit {0}) E) {t : Token} {x y : Written} {P : Type 0} → (Adds (t ∷ []) x y → P) → Writes r x y t → OnOk r P
ended (Ok u) f h = f record { tokens = h.ok; before = h.room.0 }
ended (Err e) f h = tt

-- the tokens are those of the value
pub as_value : (d : Data) (ts : List Token) {x y : Written} → json_tokens (outline d) ≡ ts → Adds ts x y → IsWritten d x y
as_value d ts {x} {y} e h = record { tokens = h.tokens ∙ ap (λ us. x.tokens ++ us) (sym e); before = h.before }

-- what was written after nothing is the document
pub document : {d : Data} {x y : Written} → x.tokens ≡ [] → x.before ≡ [] → IsWritten d x y → IsDocument d y
document {d} {x} {y} tokens before h = record {
  tokens = h.tokens ∙ ap (λ ts. ts ++ json_tokens (outline d)) tokens;
  before = h.before ∙ before;
}

-- the same text
pub text_added : (k : List ℕ) {s t : List ℕ} {x y : Written} → s ≡ t → Adds (member_tokens k (Some (string s))) x y → Adds (member_tokens k (Some (string t))) x y
text_added k {x = x} {y = y} same h = subst (λ (u : List ℕ). Adds (member_tokens k (Some (string u))) x y) same h

-- ---- lists

abbrev pub values_tokens : List Data → List Token
values_tokens [] = []
values_tokens (d ∷ ds) = json_tokens (outline d) ++ values_tokens ds

values_tokens-append : (xs ys : List Data) → values_tokens (xs ++ ys) ≡ values_tokens xs ++ values_tokens ys
values_tokens-append [] ys = refl
values_tokens-append (d ∷ xs) ys = ap (λ ts. json_tokens (outline d) ++ ts) (values_tokens-append xs ys) ∙ sym (append_assoc (json_tokens (outline d)) _ _)

array_tokens : (ds : List Data) → items_tokens (items_outline (items_of ds)) ≡ values_tokens ds ++ Token.end_array ∷ []
array_tokens [] = refl
array_tokens (d ∷ ds) = ap (λ ts. json_tokens (outline d) ++ ts) (array_tokens ds) ∙ sym (append_assoc (json_tokens (outline d)) _ _)

-- the tokens of a list that is not empty
pub listed_tokens : {X : Type 0} (k : List ℕ) (f : X → Data) (xs : List X) → length xs ≢ 0
    → member_tokens k (listed (map f xs)) ≡ Token.key k ∷ Token.begin_array ∷ (values_tokens (map f xs) ++ Token.end_array ∷ [])
unfolding listed
listed_tokens k f [] some = absurd (some refl)
listed_tokens k f (x ∷ xs) some =
    let d = array (items_of (map f (x ∷ xs))) in
    let there : (length (map f (x ∷ xs)) == 0) ≡ false = search (rules, tests) in
    ap (λ b. member_tokens k (cond b None (Some d))) there ∙ ap (λ ts. Token.key k ∷ Token.begin_array ∷ ts) (array_tokens (map f (x ∷ xs)))

-- an empty list has no tokens
pub none_listed : {X : Type 0} (k : List ℕ) (f : X → Data) (xs : List X) (w : Written) → length xs ≡ 0 → Adds (member_tokens k (listed (map f xs))) w w
unfolding listed
none_listed k f [] w none = nothing_added w
none_listed k f (x ∷ xs) w none = absurd (omega (arith, none))

-- one more value of a list
pub more_added : {X : Type 0} (f : X → Data) (xs : List X) (i : ℕ) (x : X) {v w z : Written} → i < length xs → x ≡ get_or xs i x
    → Adds (values_tokens (map f (take i xs))) v w → Adds (json_tokens (outline (f x))) w z → Adds (values_tokens (map f (take (i + 1) xs))) v z
more_added f xs i x {v} {w} {z} within is front one =
    let all = then front one in
    let more = ap (map f) (take_more xs i x within ∙ ap (λ y. take i xs ++ y ∷ []) (sym is)) ∙ map-append f (take i xs) (x ∷ []) in
    let same = ap values_tokens more ∙ values_tokens-append (map f (take i xs)) (f x ∷ []) ∙ ap (λ ts. values_tokens (map f (take i xs)) ++ ts) (append-nil (json_tokens (outline (f x)))) in
    record { tokens = all.tokens ∙ ap (λ ts. v.tokens ++ ts) (sym same); before = all.before }

-- a list that is not empty was written between its brackets
pub list_added : {X : Type 0} (k : List ℕ) (f : X → Data) (xs : List X) (i : ℕ) {v w x y z : Written} → length xs ≢ 0 → i ≡ length xs
    → Adds (Token.key k ∷ []) v w → Adds (Token.begin_array ∷ []) w x → Adds (values_tokens (map f (take i xs))) x y → Adds (Token.end_array ∷ []) y z
    → Adds (member_tokens k (listed (map f xs))) v z
list_added {X} k f xs i {v} some full key begin values end =
    let all = then key (then begin (then values end)) in
    let whole = take_all i xs (omega (arith, full)) in
    let same = ap (λ (ys : List X). Token.key k ∷ Token.begin_array ∷ (values_tokens (map f ys) ++ Token.end_array ∷ [])) whole ∙ sym (listed_tokens k f xs some) in
    record { tokens = all.tokens ∙ ap (λ ts. v.tokens ++ ts) same; before = all.before }
