-- Reading the words of the arguments one after the other.
use Rattle.std.proofs.Common.{◌≡◌, ◌≤◌, ◌<◌, ◌+◌, ◌-◌, ◌==◌, slice_range, suc, nat_le, ℕ, Bool, true, false, ◌&&◌, ◌||◌, List, [], ◌∷◌, ◌++◌, length, map, Option, None, Some, refl, ap, arith, ◌∙◌, append_assoc, append-nil, length-append, drop, drop-cons, get_or, add-one, if◌then◌else◌}
use Rattle.std.proofs.lemmas.List.{drop_all, take_all}
use Rattle.std.proofs.lemmas.List.Folds.{list_all-append}
use Rattle.std.specs.List.{filter, list_all, list_any}
use Rattle.std.specs.Option.{option_and_then}
use Rattle.fedi_program.specs.Commands.{Reading, Row, is_flag, is_position, positions_of, read, read_by, row_by, row_of}
use Rattle.fedi_program.specs.declared.words.Row as coded

-- how often the flag occurs, given whether it occurred before
abbrev counted : Bool → ℕ → ℕ
counted false n = n
counted true n = suc n

-- what is read if these are the positional arguments so far, the flag occurred or not, and these
-- words are left
abbrev pub answer : Row → List (List ℕ) → Bool → List (List ℕ) → Option Reading
answer row ps flagged rest =
    if (length (ps ++ positions_of row.flag rest) == row.positions) && list_all is_position (ps ++ positions_of row.flag rest)
    && nat_le (counted flagged (length (filter (is_flag row.flag) rest))) 1
    then Some (record { verb = row.verb; positions = ps ++ positions_of row.flag rest; flagged = flagged || list_any (is_flag row.flag) rest })
    else None

-- there is nothing before the first word
pub begins : (row : Row) (words : List (List ℕ)) → answer row [] false words ≡ read_by words row
begins row words = refl

-- the flag, which did not occur before
pub flag_first : (row : Row) (ps : List (List ℕ)) (flagged : Bool) (w : List ℕ) (left rest : List (List ℕ)) → left ≡ w ∷ rest → flagged ≡ false
    → is_flag row.flag w ≡ true → answer row ps flagged left ≡ answer row ps true rest
flag_first row ps flagged w left rest at first is = rw (at, first, is) refl

too_many : (n : ℕ) → nat_le (suc (suc n)) 1 ≡ false
too_many n = grind arith

and_false : (a b : Bool) → (a && b && false) ≡ false
and_false true true = refl
and_false true false = refl
and_false false b = refl

-- the flag, which did occur before
pub flag_twice : (row : Row) (ps : List (List ℕ)) (flagged : Bool) (w : List ℕ) (left rest : List (List ℕ)) → left ≡ w ∷ rest → flagged ≡ true
    → is_flag row.flag w ≡ true → answer row ps flagged left ≡ None
flag_twice row ps flagged w left rest at first is =
    let more : nat_le (suc (suc (length (filter (is_flag row.flag) rest)))) 1 ≡ false = too_many (length (filter (is_flag row.flag) rest)) in
    rw (at, first, is, more, and_false (length (ps ++ positions_of row.flag rest) == row.positions) (list_all is_position (ps ++ positions_of row.flag rest))) refl

-- a word that is not the flag
pub position_next : (row : Row) (ps : List (List ℕ)) (flagged : Bool) (w : List ℕ) (left rest : List (List ℕ)) → left ≡ w ∷ rest
    → is_flag row.flag w ≡ false → answer row ps flagged left ≡ answer row (ps ++ w ∷ []) flagged rest
position_next row ps flagged w left rest at other = rw (at, other, append_assoc ps (w ∷ []) (positions_of row.flag rest)) refl

-- the words are not positional arguments so far, or too many
not_taken : (row : Row) (ps : List (List ℕ)) (flagged : Bool) (left : List (List ℕ))
    → ((length (ps ++ positions_of row.flag left) == row.positions) && list_all is_position (ps ++ positions_of row.flag left)) ≡ false
    → answer row ps flagged left ≡ None
not_taken row ps flagged left bad =
    let none = and_off (length (ps ++ positions_of row.flag left) == row.positions) (list_all is_position (ps ++ positions_of row.flag left))
    (nat_le (counted flagged (length (filter (is_flag row.flag) left))) 1) bad in
    rw none refl
  where
    and_off : (a b c : Bool) → (a && b) ≡ false → (a && b && c) ≡ false
    and_off true true c e = absurd (cc e)
    and_off true false c e = refl
    and_off false b c e = refl

-- a word that is neither the flag nor a positional argument
pub no_position : (row : Row) (ps : List (List ℕ)) (flagged : Bool) (w : List ℕ) (left rest : List (List ℕ)) → left ≡ w ∷ rest
    → is_flag row.flag w ≡ false → is_position w ≡ false → answer row ps flagged left ≡ None
no_position row ps flagged w left rest at other bad =
    let all : list_all is_position (ps ++ w ∷ positions_of row.flag rest) ≡ false =
    rw (list_all-append is_position ps (w ∷ positions_of row.flag rest), bad) (second_off (list_all is_position ps)) in
    rw at (not_taken row ps flagged (w ∷ rest) (rw (other, all) (second_off (length (ps ++ w ∷ positions_of row.flag rest) == row.positions))))
  where
    second_off : (a : Bool) → (a && false) ≡ false
    second_off true = refl
    second_off false = refl

-- one positional argument too many
pub too_long : (row : Row) (ps : List (List ℕ)) (flagged : Bool) (w : List ℕ) (left rest : List (List ℕ)) → left ≡ w ∷ rest
    → is_flag row.flag w ≡ false → row.positions ≤ length ps → answer row ps flagged left ≡ None
too_long row ps flagged w left rest at other full =
    let longer : (length (ps ++ w ∷ positions_of row.flag rest) == row.positions) ≡ false =
    grind (arith, length-append ps (w ∷ positions_of row.flag rest)) in
    rw at (not_taken row ps flagged (w ∷ rest) (rw (other, longer) refl))

-- all words are read, and there are too few positional arguments
pub too_short : (row : Row) (ps : List (List ℕ)) (flagged : Bool) → length ps < row.positions → answer row ps flagged [] ≡ None
too_short row ps flagged few =
    let shorter : (length (ps ++ []) == row.positions) ≡ false = grind (arith, append-nil ps) in
    not_taken row ps flagged [] (rw shorter refl)

-- or as many as it takes
pub all_read : (row : Row) (ps : List (List ℕ)) (flagged : Bool) → length ps ≡ row.positions → list_all is_position ps ≡ true
    → answer row ps flagged [] ≡ Some (record { verb = row.verb; positions = ps; flagged = flagged })
all_read row ps flagged enough all = rw (append-nil ps, enough, all, same row.positions, or_false flagged, once flagged) refl
  where
    or_false : (a : Bool) → (a || false) ≡ a
    or_false true = refl
    or_false false = refl

    same : (n : ℕ) → (n == n) ≡ true
    same n = grind arith

    once : (f : Bool) → nat_le (counted f 0) 1 ≡ true
    once true = refl
    once false = refl

-- the word at this index is the first of those from it on
pub next_word : {A : Type 0} (f : A → List ℕ) (xs : List A) (k : ℕ) (x : A) (w : List ℕ) → k < length xs → x ≡ get_or xs k x → w ≡ f x
    → map f (drop k xs) ≡ w ∷ map f (drop (k + 1) xs)
next_word f xs k x w at is word = rw (drop-cons xs k x at, ← is, word, add-one) refl

-- one more positional argument
pub more_positions : {A : Type 0} (f : A → List ℕ) (ps : List A) (p : A) → list_all is_position (map f ps) ≡ true → is_position (f p) ≡ true
    → list_all is_position (map f (ps ++ p ∷ [])) ≡ true
more_positions f [] p so_far is = rw is refl
more_positions f (x ∷ ps) p so_far is =
    let parts = both (is_position (f x)) (list_all is_position (map f ps)) so_far in
    rw parts.0 (more_positions f ps p parts.1 is)
  where
    both : (a b : Bool) → (a && b) ≡ true → (a ≡ true) × (b ≡ true)
    both true b e = (refl, e)
    both false b e = absurd (cc e)

-- no word is left
pub none_left : {A : Type 0} (f : A → List ℕ) (xs : List A) (k : ℕ) → length xs ≤ k → map f (drop k xs) ≡ []
none_left f xs k past = rw (drop_all k xs past) refl

-- the first argument names a row, and this reads the others
pub read_all : {A : Type 0} (f : A → List ℕ) (arguments : List A) (first : A) (name : List ℕ) (row : coded.Row) (result : Option Reading) → 1 ≤ length arguments
    → first ≡ get_or arguments 0 first → name ≡ f first → Some (row_by name row) ≡ row_of name
    → result ≡ read_by (map f (slice_range arguments 1 (length arguments))) (row_by name row) → result ≡ read (map f arguments)
read_all f [] first name row result some is named found reads = absurd (omega (arith, some))
read_all f (x ∷ xs) first name row result some is named found reads =
    let name_is : name ≡ f x = named ∙ ap f is in
    let rest : slice_range (x ∷ xs) 1 (length (x ∷ xs)) ≡ xs = take_all (length (x ∷ xs) - 1) xs (omega arith) in
    rw rest at reads ∙ ap (option_and_then (read_by (map f xs))) found ∙ ap (λ (n : List ℕ). option_and_then (read_by (map f xs)) (row_of n)) name_is
