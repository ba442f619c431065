-- Lines of a script, and words of a line.
use Rattle.std.proofs.Common.{◌≡◌, ◌<◌, ◌≤◌, ◌+◌, ◌-◌, ◌≢◌, ◌==◌, ◌||◌, not, ℕ, suc, Bool, true, false, cond, List, [], ◌∷◌, length, take, drop, refl, ap, arith, take_all, length-drop, Bor}
use Rattle.std.specs.Prelude.{MatchOption, Option, Some, None, option_map, nat_lt, position}
use Rattle.std.specs.List.{after_first, before_first, list_any, position_or_len}
use Rattle.std.proofs.lemmas.Bool.{lt-ltb, ltb-true}
use Rattle.std.proofs.lemmas.List.Sums.{prefix_len-le-length}
use Rattle.fedi_script.specs.Lines.{begun, cut, is_space, lines_of}

-- ---- where something is first

pub record IsFirstAt (test : ℕ → Bool) (text : List ℕ) (at : ℕ) : Type 0 where
  pub at_is : at ≡ position_or_len test text
  pub inside : position_or_len test text < length text

by_test : (t : Bool) (test : ℕ → Bool) (text : List ℕ) (at : ℕ)
    → nat_lt (position_or_len test text) (length text) ≡ t
    → Some at ≡ cond t (Some (position_or_len test text)) None → IsFirstAt test text at
by_test true test text at inside is = record { at_is = cc; inside = ltb-true _ _ inside }
by_test false test text at inside is = absurd (cc is)

pub first_at : (test : ℕ → Bool) (text : List ℕ) (at : ℕ) → Some at ≡ position test text
    → IsFirstAt test text at
first_at test text at is = by_test (nat_lt (position_or_len test text) (length text)) test text at refl is

by_none : (t : Bool) (test : ℕ → Bool) (text : List ℕ)
    → nat_lt (position_or_len test text) (length text) ≡ t
    → None ≡ cond t (Some (position_or_len test text)) None
    → (position_or_len test text < length text → t ≡ true) → position_or_len test text ≡ length text
by_none true test text inside is known = absurd (cc is)
by_none false test text inside is known =
    let most : position_or_len test text ≤ length text = prefix_len-le-length (λ x. not (test x)) text in
    let not_less : position_or_len test text < length text → ⊥ = λ less. absurd (cc (known less)) in
    omega (arith, not_less)

pub first_nowhere : (test : ℕ → Bool) (text : List ℕ) → None ≡ position test text
    → position_or_len test text ≡ length text
first_nowhere test text is =
    by_none (nat_lt (position_or_len test text) (length text)) test text refl is (lt-ltb _ _)

-- ---- lines

first_step : (t : Bool) (b : ℕ) (rest : List ℕ) (p : ℕ) → cond (not t) (1 + p) 0 < suc (length rest)
    → (p < length rest → lines_of rest ≡ take p rest ∷ lines_of (drop (p + 1) rest))
    → cond t ([] ∷ lines_of rest) (begun b (lines_of rest))
    ≡ take (cond (not t) (1 + p) 0) (b ∷ rest) ∷ lines_of (drop (cond (not t) (1 + p) 0 + 1) (b ∷ rest))
first_step true b rest p inside more = refl
first_step false b rest p inside more =
    let one : 1 + p ≡ suc p = omega arith in
    let next : suc p + 1 ≡ suc (p + 1) = omega arith in
    let less : p < length rest = omega (arith, inside) in rw (one, next) (ap (begun b) (more less))

-- the first line of a text that has a line feed
pub first_line : (text : List ℕ) → position_or_len (λ b. b == 10) text < length text
    → lines_of text ≡ take (position_or_len (λ b. b == 10) text) text
    ∷ lines_of (drop (position_or_len (λ b. b == 10) text + 1) text)
first_line [] inside = absurd (omega (arith, inside))
first_line (b ∷ rest) inside =
    first_step (b == 10) b rest (position_or_len (λ x. x == 10) rest) inside (first_line rest)

pub cut_line : (text : List ℕ) (at : ℕ) → Some at ≡ position (λ b. b == 10) text
    → lines_of text ≡ take at text ∷ lines_of (take (length text - (at + 1)) (drop (at + 1) text))
cut_line text at is =
    let first = first_at (λ b. b == 10) text at is in
    let all : take (length text - (at + 1)) (drop (at + 1) text) ≡ drop (at + 1) text =
    take_all (length text - (at + 1)) (drop (at + 1) text) (omega (arith, length-drop (at + 1) text)) in
    rw (all, first.at_is) (first_line text first.inside)

-- what comes after it is shorter than the text
pub cut_less : (text : List ℕ) (at : ℕ) → Some at ≡ position (λ b. b == 10) text
    → length (take (length text - (at + 1)) (drop (at + 1) text)) < length text
cut_less text at is =
    let first = first_at (λ b. b == 10) text at is in
    let inside : at < length text = rw first.at_is first.inside in
    let left = length-drop (at + 1) text in
    let all : take (length text - (at + 1)) (drop (at + 1) text) ≡ drop (at + 1) text =
    take_all (length text - (at + 1)) (drop (at + 1) text) (omega (arith, left)) in
    let count : length (drop (at + 1) text) < length text = omega (arith, left, inside) in
    rw all count

pub some_left : (text : List ℕ) → text ≢ [] → 0 < length text
some_left [] some = absurd (some refl)
some_left (b ∷ rest) some = omega arith

last_step : (t : Bool) (b : ℕ) (lines : List (List ℕ)) (line : List ℕ) (p m : ℕ)
    → cond (not t) (1 + p) 0 ≡ suc m → (p ≡ m → begun b lines ≡ (b ∷ line) ∷ [])
    → cond t ([] ∷ lines) (begun b lines) ≡ (b ∷ line) ∷ []
last_step true b lines line p m is more = absurd (omega (arith, is))
last_step false b lines line p m is more = more (omega (arith, is))

-- the only line of a text that has no line feed
pub last_line : (b : ℕ) (rest : List ℕ) → position_or_len (λ x. x == 10) (b ∷ rest) ≡ suc (length rest)
    → lines_of (b ∷ rest) ≡ (b ∷ rest) ∷ []
last_line b [] is = last_step (b == 10) b [] [] 0 0 is (λ _. refl)
last_line b (next ∷ rest) is =
    last_step (b == 10) b (lines_of (next ∷ rest)) (next ∷ rest) (position_or_len (λ x. x == 10) (next ∷ rest))
    (suc (length rest)) is (λ whole. ap (begun b) (last_line next rest whole))

pub whole_line : (text : List ℕ) → text ≢ [] → None ≡ position (λ b. b == 10) text
    → lines_of text ≡ text ∷ []
whole_line [] some is = absurd (some refl)
whole_line (b ∷ rest) some is = last_line b rest (first_nowhere (λ x. x == 10) (b ∷ rest) is)

-- ---- words

any_step : (t rest : Bool) (p n : ℕ) → cond (not t) (1 + p) 0 < suc n → (p < n → rest ≡ true)
    → (t || rest) ≡ true
any_step true rest p n inside more = refl
any_step false rest p n inside more = more (omega (arith, inside))

any_inside : (test : ℕ → Bool) (text : List ℕ) → position_or_len test text < length text
    → list_any test text ≡ true
any_inside test [] inside = absurd (omega (arith, inside))
any_inside test (b ∷ text) inside =
    any_step (test b) (list_any test text) (position_or_len test text) (length text) inside (any_inside test text)

none_step : (t rest : Bool) (p n : ℕ) → cond (not t) (1 + p) 0 ≡ suc n → (p ≡ n → rest ≡ false)
    → (t || rest) ≡ false
none_step true rest p n is more = absurd (omega (arith, is))
none_step false rest p n is more = more (omega (arith, is))

none_inside : (test : ℕ → Bool) (text : List ℕ) → position_or_len test text ≡ length text
    → list_any test text ≡ false
none_inside test [] is = refl
none_inside test (b ∷ text) is =
    none_step (test b) (list_any test text) (position_or_len test text) (length text) is (none_inside test text)

pub cut_is : (text : List ℕ) (r : Option (Bor (List ℕ) × Bor (List ℕ)))
    → MatchOption r (position_or_len is_space text ≡ length text)
    (λ x. (position_or_len is_space text < length text) × (x.0.now ≡ before_first is_space text) × (x.1.now ≡ after_first is_space text))
    → option_map (λ parts. (parts.0.now, parts.1.now)) r ≡ cut text
cut_is text None none = rw (none_inside is_space text none) refl
cut_is text (Some x) found = rw (any_inside is_space text found.0, found.1, found.2) refl
