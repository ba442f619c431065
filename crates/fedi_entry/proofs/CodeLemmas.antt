-- No two entries have the same code: a code determines the value, whatever follows it.
use Rattle.std.proofs.Common.{◌≡◌, ℕ, ◌<◌, ◌≤◌, ◌^◌, Bool, true, false, List, [], ◌∷◌, ◌++◌, length, take, drop, refl, sym, ◌∙◌, ap, subst, append_assoc, arith, length-append}
use Rattle.std.specs.Prelude.{Option, Some, None}
use Rattle.std.specs.List.{flat_map}
use Rattle.std.specs.Int.{to_be_bytes, from_be_bytes, w16, w32, w64}
use Rattle.std.proofs.Math.Seq.{take-append_seam}
use Rattle.std.proofs.lemmas.Nat.{from_be_bytes-to_be_bytes_2, from_be_bytes-to_be_bytes_4, from_be_bytes-to_be_bytes_8}
use Rattle.std.proofs.lemmas.List.{append_cancel_left}
use Rattle.fedi_objects.specs.declared.object.Edit.{Edit}
use Rattle.fedi_objects.specs.declared.object.Edit.TheVariants.{Keep, Remove, Give}
use Rattle.fedi_entry.specs.Codes.{u16_code, u32_code, u64_code, bool_code, text_code, option_code, list_code, edit_code}

-- few enough bytes that each length in them fits in four bytes
abbrev pub IsShort : List ℕ → Type 0
IsShort xs = length xs < 2 ^ 32

-- the code determines the value, whatever follows: two codes, each with what follows it, are equal
-- only if the values are
pub record Tells {X : Type 0} (code : X → List ℕ) : Type 0 where
  pub back : (a b : X) (s t : List ℕ) → IsShort (code a ++ s) → code a ++ s ≡ code b ++ t → (a ≡ b) × (s ≡ t)

pub short_rest : (xs ys : List ℕ) → IsShort (xs ++ ys) → IsShort ys
short_rest xs ys short = omega (arith, length-append xs ys)

pub u16_back : (m n : ℕ) (s t : List ℕ) → m < 2 ^ 16 → n < 2 ^ 16 → u16_code m ++ s ≡ u16_code n ++ t → (m ≡ n) × (s ≡ t)
unfolding u16_code
u16_back m n s t fits_m fits_n e =
    let front : to_be_bytes w16 m ≡ to_be_bytes w16 n = ap (take 2) e in
    (sym (from_be_bytes-to_be_bytes_2 m fits_m) ∙ (ap (from_be_bytes w16) front ∙ from_be_bytes-to_be_bytes_2 n fits_n), ap (drop 2) e)

pub u32_back : (m n : ℕ) (s t : List ℕ) → m < 2 ^ 32 → n < 2 ^ 32 → u32_code m ++ s ≡ u32_code n ++ t → (m ≡ n) × (s ≡ t)
unfolding u32_code
u32_back m n s t fits_m fits_n e =
    let front : to_be_bytes w32 m ≡ to_be_bytes w32 n = ap (take 4) e in
    (sym (from_be_bytes-to_be_bytes_4 m fits_m) ∙ (ap (from_be_bytes w32) front ∙ from_be_bytes-to_be_bytes_4 n fits_n), ap (drop 4) e)

-- a moment comes last
pub u64_code_injective : (m n : ℕ) → m < 2 ^ 64 → n < 2 ^ 64 → u64_code m ≡ u64_code n → m ≡ n
unfolding u64_code
u64_code_injective m n fits_m fits_n e =
    sym (from_be_bytes-to_be_bytes_8 m fits_m) ∙ (ap (from_be_bytes w64) e ∙ from_be_bytes-to_be_bytes_8 n fits_n)

-- parts of the same length
pub same_length : (a b s t : List ℕ) → length a ≡ length b → a ++ s ≡ b ++ t → (a ≡ b) × (s ≡ t)
same_length a b s t same e =
    let front : a ≡ b =
    sym (take-append_seam a s) ∙ (ap (take (length a)) e ∙ (ap (λ n. take n (b ++ t)) same ∙ take-append_seam b t)) in
    (front, append_cancel_left b s t (ap (λ x. x ++ s) (sym front) ∙ e))

text_back : (a b s t : List ℕ) → IsShort (text_code a ++ s) → text_code a ++ s ≡ text_code b ++ t → (a ≡ b) × (s ≡ t)
unfolding text_code
text_back a b s t short e =
    let grouped : u32_code (length a) ++ (a ++ s) ≡ u32_code (length b) ++ (b ++ t) =
    sym (append_assoc (u32_code (length a)) a s) ∙ (e ∙ append_assoc (u32_code (length b)) b t) in
    let total = ap length e in
    let fits_a : length a < 2 ^ 32 = omega (arith, length-append (u32_code (length a) ++ a) s, length-append (u32_code (length a)) a) in
    let fits_b : length b < 2 ^ 32 = omega (arith, total, length-append (u32_code (length b) ++ b) t, length-append (u32_code (length b)) b) in
    let both = u32_back (length a) (length b) (a ++ s) (b ++ t) fits_a fits_b grouped in
    same_length a b s t both.0 both.1

pub text_tells : Tells text_code
text_tells = record { back = text_back }

pub pair_is : {A B : Type 0} (a b : A × B) → a.0 ≡ b.0 → a.1 ≡ b.1 → a ≡ b
pair_is {A} {B} a b front back = ap (λ (x : A). (x, a.1)) front ∙ ap (λ (y : B). (b.0, y)) back

-- one after the other
pair_back : {A B : Type 0} (f : A → List ℕ) (g : B → List ℕ) → Tells f → Tells g → (a b : A × B) (s t : List ℕ)
    → IsShort ((f a.0 ++ g a.1) ++ s) → (f a.0 ++ g a.1) ++ s ≡ (f b.0 ++ g b.1) ++ t → (a ≡ b) × (s ≡ t)
pair_back f g tells_f tells_g a b s t short e =
    let short_whole : IsShort (f a.0 ++ (g a.1 ++ s)) = subst IsShort (append_assoc (f a.0) (g a.1) s) short in
    let first = tells_f.back a.0 b.0 (g a.1 ++ s) (g b.1 ++ t) short_whole (sym (append_assoc (f a.0) (g a.1) s) ∙ (e ∙ append_assoc (f b.0) (g b.1) t)) in
    let second = tells_g.back a.1 b.1 s t (short_rest (f a.0) (g a.1 ++ s) short_whole) first.1 in
    (pair_is a b first.0 second.0, second.1)

pub pair_tells : {A B : Type 0} {f : A → List ℕ} {g : B → List ℕ} → Tells f → Tells g → Tells (λ (p : A × B). f p.0 ++ g p.1)
pair_tells {A} {B} {f} {g} tells_f tells_g = record { back = pair_back f g tells_f tells_g }

-- a value by its parts
parts_back : {R P : Type 0} (code : P → List ℕ) → Tells code → (parts : R → P) (whole : P → R) → ((r : R) → whole (parts r) ≡ r)
    → (a b : R) (s t : List ℕ) → IsShort (code (parts a) ++ s) → code (parts a) ++ s ≡ code (parts b) ++ t → (a ≡ b) × (s ≡ t)
parts_back code tells parts whole same a b s t short e =
    let both = tells.back (parts a) (parts b) s t short e in
    (sym (same a) ∙ (ap whole both.0 ∙ same b), both.1)

pub parts_tell : {R P : Type 0} {code : P → List ℕ} → Tells code → (parts : R → P) (whole : P → R) → ((r : R) → whole (parts r) ≡ r)
    → Tells (λ (r : R). code (parts r))
parts_tell {R} {P} {code} tells parts whole same = record { back = parts_back code tells parts whole same }

pub byte_same : (m n : ℕ) (s t : List ℕ) → m ∷ s ≡ n ∷ t → (m ≡ n) × (s ≡ t)
byte_same m n s t e = (cc, cc)

pub bool_back : (a b : Bool) (s t : List ℕ) → bool_code a ++ s ≡ bool_code b ++ t → (a ≡ b) × (s ≡ t)
bool_back false false s t e = (refl, (byte_same _ _ _ _ e).1)
bool_back true true s t e = (refl, (byte_same _ _ _ _ e).1)
bool_back false true s t e = absurd (omega (arith, (byte_same _ _ _ _ e).0))
bool_back true false s t e = absurd (omega (arith, (byte_same _ _ _ _ e).0))

pub bool_tells : Tells bool_code
bool_tells = record { back = λ a b s t short e. bool_back a b s t e }

pub short_tail : (b : ℕ) (xs : List ℕ) → IsShort (b ∷ xs) → IsShort xs
short_tail b xs short = omega arith

option_back : {X : Type 0} (code : X → List ℕ) → Tells code → (a b : Option X) (s t : List ℕ)
    → IsShort (option_code code a ++ s) → option_code code a ++ s ≡ option_code code b ++ t → (a ≡ b) × (s ≡ t)
unfolding option_code
option_back code tells None None s t short e = (refl, (byte_same _ _ _ _ e).1)
option_back code tells (Some a) (Some b) s t short e =
    let both = tells.back a b s t (short_tail 1 (code a ++ s) short) (byte_same _ _ _ _ e).1 in
    (ap Some both.0, both.1)
option_back code tells None (Some b) s t short e = absurd (omega (arith, (byte_same _ _ _ _ e).0))
option_back code tells (Some a) None s t short e = absurd (omega (arith, (byte_same _ _ _ _ e).0))

pub option_tells : {X : Type 0} {code : X → List ℕ} → Tells code → Tells (option_code code)
option_tells {X} {code} tells = record { back = option_back code tells }

edit_back : {X : Type 0} (code : X → List ℕ) → Tells code → (a b : Edit X) (s t : List ℕ)
    → IsShort (edit_code code a ++ s) → edit_code code a ++ s ≡ edit_code code b ++ t → (a ≡ b) × (s ≡ t)
unfolding edit_code
edit_back code tells Keep Keep s t short e = (refl, (byte_same _ _ _ _ e).1)
edit_back code tells Remove Remove s t short e = (refl, (byte_same _ _ _ _ e).1)
edit_back code tells (Give a) (Give b) s t short e =
    let both = tells.back a b s t (short_tail 2 (code a ++ s) short) (byte_same _ _ _ _ e).1 in
    (ap Give both.0, both.1)
edit_back code tells Keep Remove s t short e = absurd (omega (arith, (byte_same _ _ _ _ e).0))
edit_back code tells Keep (Give b) s t short e = absurd (omega (arith, (byte_same _ _ _ _ e).0))
edit_back code tells Remove Keep s t short e = absurd (omega (arith, (byte_same _ _ _ _ e).0))
edit_back code tells Remove (Give b) s t short e = absurd (omega (arith, (byte_same _ _ _ _ e).0))
edit_back code tells (Give a) Keep s t short e = absurd (omega (arith, (byte_same _ _ _ _ e).0))
edit_back code tells (Give a) Remove s t short e = absurd (omega (arith, (byte_same _ _ _ _ e).0))

pub edit_tells : {X : Type 0} {code : X → List ℕ} → Tells code → Tells (edit_code code)
edit_tells {X} {code} tells = record { back = edit_back code tells }

-- the same number of items, one after the other
each_back : {X : Type 0} (code : X → List ℕ) → Tells code → (xs ys : List X) (s t : List ℕ) → length xs ≡ length ys
    → IsShort (flat_map code xs ++ s) → flat_map code xs ++ s ≡ flat_map code ys ++ t → (xs ≡ ys) × (s ≡ t)
each_back code tells [] [] s t same short e = (refl, e)
each_back {X} code tells (x ∷ xs) (y ∷ ys) s t same short e =
    let short_whole : IsShort (code x ++ (flat_map code xs ++ s)) = subst IsShort (append_assoc (code x) (flat_map code xs) s) short in
    let first = tells.back x y (flat_map code xs ++ s) (flat_map code ys ++ t) short_whole
    (sym (append_assoc (code x) (flat_map code xs) s) ∙ (e ∙ append_assoc (code y) (flat_map code ys) t)) in
    let others = each_back code tells xs ys s t (omega arith) (short_rest (code x) (flat_map code xs ++ s) short_whole) first.1 in
    (ap (λ (z : X). z ∷ xs) first.0 ∙ ap (λ (zs : List X). y ∷ zs) others.0, others.1)
each_back code tells [] (y ∷ ys) s t same short e = absurd (omega arith)
each_back code tells (x ∷ xs) [] s t same short e = absurd (omega arith)

-- an item has at least one byte
abbrev pub IsFilled : {X : Type 0} → (X → List ℕ) → Type 0
IsFilled {X} code = (x : X) → 0 < length (code x)

count_within : {X : Type 0} (code : X → List ℕ) → IsFilled code → (xs : List X) → length xs ≤ length (flat_map code xs)
count_within code filled [] = omega arith
count_within code filled (x ∷ xs) = omega (arith, filled x, count_within code filled xs, length-append (code x) (flat_map code xs))

list_back : {X : Type 0} (code : X → List ℕ) → IsFilled code → Tells code → (xs ys : List X) (s t : List ℕ)
    → IsShort (list_code code xs ++ s) → list_code code xs ++ s ≡ list_code code ys ++ t → (xs ≡ ys) × (s ≡ t)
unfolding list_code
list_back code filled tells xs ys s t short e =
    let grouped : u32_code (length xs) ++ (flat_map code xs ++ s) ≡ u32_code (length ys) ++ (flat_map code ys ++ t) =
    sym (append_assoc (u32_code (length xs)) (flat_map code xs) s) ∙ (e ∙ append_assoc (u32_code (length ys)) (flat_map code ys) t) in
    let short_whole : IsShort (u32_code (length xs) ++ (flat_map code xs ++ s)) = subst IsShort (append_assoc (u32_code (length xs)) (flat_map code xs) s) short in
    let total = ap length grouped in
    let short_each : IsShort (flat_map code xs ++ s) = short_rest (u32_code (length xs)) (flat_map code xs ++ s) short_whole in
    let fits_xs : length xs < 2 ^ 32 = omega (arith, short_each, count_within code filled xs, length-append (flat_map code xs) s) in
    let fits_ys : length ys < 2 ^ 32 =
    omega (arith, short_whole, total, count_within code filled ys, length-append (u32_code (length ys)) (flat_map code ys ++ t), length-append (flat_map code ys) t) in
    let both = u32_back (length xs) (length ys) (flat_map code xs ++ s) (flat_map code ys ++ t) fits_xs fits_ys grouped in
    each_back code tells xs ys s t both.0 short_each both.1

pub list_tells : {X : Type 0} {code : X → List ℕ} → IsFilled code → Tells code → Tells (list_code code)
list_tells {X} {code} filled tells = record { back = list_back code filled tells }

pub text_filled : IsFilled text_code
unfolding text_code u32_code
text_filled text = omega arith
