-- What is read is encoded by the bytes that were read, and a code is read again: for numbers, keys
-- and texts, and for values made of these.
use Rattle.std.proofs.Common.{◌≡◌, ◌⊎◌, ℕ, zero, suc, ◌+◌, ◌^◌, ◌<◌, ◌≤◌, Bool, true, false, cond, ltb, List, [], ◌∷◌, ◌++◌, length, get_or, take, drop, Option, Some, None, Result, Ok, Err, refl, sym, ap, subst, ◌∙◌, append_assoc, arith, inl, inr}
use Rattle.std.specs.Prelude.{IfSome, IsTrue, ◌&&◌, ◌==◌, nat_le}
use Rattle.std.specs.List.{flat_map, AllByRecursion}
use Rattle.std.specs.Int.{Width, w16, w32, w64, byte_len, from_be_bytes, to_be_bytes}
use Rattle.std.specs.Str.{is_utf8}
use Rattle.std.proofs.lemmas.Bool.{cases_lt, ltb-false, le-ltb, and_parts}
use Rattle.std.proofs.lemmas.List.{take_at, drop_at, take-append-drop, length-append, length-take, get_or-drop, get_or-take, get_or_past}
use Rattle.std.proofs.lemmas.Bool.Decides.{nat_tests}
use Rattle.std.proofs.lemmas.Nat.{be_bytes_2, be_bytes_4, be_bytes_8, from_be_bytes-to_be_bytes_2, from_be_bytes-to_be_bytes_4, from_be_bytes-to_be_bytes_8}
use Rattle.fedi_objects.specs.declared.object.Edit.{Edit}
use Rattle.fedi_objects.specs.declared.object.Edit.TheVariants.{Keep, Remove, Give}
use Rattle.fedi_entry.specs.Codes.{u16_code, u32_code, u64_code, bool_code, text_code, option_code, list_code, edit_code}
use Rattle.fedi_entry.specs.Fields.{IfGiven, IsList, IsMoment, IsText}
use Rattle.fedi_entry.specs.Reading.{◌>>=◌, ◌&◌, made_of, Read, Reader, number_at, bytes_at, byte_at, slice_at, utf8_at, text_at, flag_at, moment_at, status_at, option_at, edit_at, items_at, list_at}

-- ---- bytes

-- each is a byte
pub record IsBytes (bytes : List ℕ) : Type 0 where
  pub each : (i : ℕ) → get_or bytes i 0 < 256

bytes_drop : (n : ℕ) (bytes : List ℕ) → IsBytes bytes → IsBytes (drop n bytes)
bytes_drop n bytes h = record { each = λ i. rw get_or-drop (h.each (n + i)) }

bytes_take : (n : ℕ) (bytes : List ℕ) → IsBytes bytes → IsBytes (take n bytes)
bytes_take n bytes h = record {
  each = λ i.
      elim (cases_lt i n) [
        | inl lt ↦ rw (get_or-take n bytes i 0 lt) (h.each i)
        | inr le ↦ rw (get_or_past (take n bytes) i 0 (omega (arith, length-take n bytes))) (omega arith)
      ];
}

pub bytes_behind : (xs ys bytes : List ℕ) → bytes ≡ xs ++ ys → IsBytes bytes → IsBytes ys
bytes_behind xs ys bytes is h = subst IsBytes (ap (drop (length xs)) is ∙ drop_at xs ys (length xs) refl) (bytes_drop (length xs) bytes h)

-- ---- steps of a reading that succeeds

pub bind_ok : {A B : Type 0} (r : Result A ℕ) (f : A → Result B ℕ) (y : B) → (r >>= f) ≡ Ok y → (x : A) × (r ≡ Ok x) × (f x ≡ Ok y)
bind_ok (Ok x) f y e = (x, refl, e)
bind_ok (Err left) f y e = absurd cc

guard_ok : {A : Type 0} (b : Bool) (left : ℕ) (x y : A) → cond b (Err left) (Ok x) ≡ Ok y → (b ≡ false) × (x ≡ y)
guard_ok true left x y e = absurd cc
guard_ok false left x y e = (refl, cc)

pub passed_ok : {A : Type 0} (b : Bool) (left : ℕ) (x y : A) → cond b (Ok x) (Err left) ≡ Ok y → (b ≡ true) × (x ≡ y)
passed_ok true left x y e = (refl, cc)
passed_ok false left x y e = absurd cc

-- ---- the two directions, and what preserves them

-- a reader reads exactly the codes of what is valid
pub record Reads {X : Type 0} (code : X → List ℕ) (valid : X → Type 0) (reader : Reader X) : Type 0 where
  pub takes : (bytes : List ℕ) (x : X × List ℕ) → IsBytes bytes → reader bytes ≡ Ok x → (bytes ≡ code x.0 ++ x.1) × valid x.0
  pub again : (x : X) (rest : List ℕ) → valid x → reader (code x ++ rest) ≡ Ok (x, rest)

-- an equivalent condition for what is valid
pub valid_reads : {X : Type 0} {code : X → List ℕ} {P : X → Type 0} {m : Reader X} → Reads code P m → (Q : X → Type 0) → ((x : X) → P x → Q x) → ((x : X) → Q x → P x) → Reads code Q m
valid_reads reads Q to from = record {
  takes = λ bytes x fits e. let one = reads.takes bytes x fits e in (one.0, to x.0 one.1);
  again = λ x rest valid. reads.again x rest (from x valid);
}

-- followed by a test
checked_reads : {X : Type 0} {code : X → List ℕ} {P : X → Type 0} {m : Reader X} → Reads code P m → (test : X → Bool)
    → Reads code (λ x. P x × IsTrue (test x)) (λ bytes. m bytes >>= λ x. cond (test x.0) (Ok x) (Err (length bytes)))
checked_reads {X} {code} {P} {m} reads test = record {
  takes = λ bytes x fits e.
      let a = bind_ok (m bytes) (λ x. cond (test x.0) (Ok x) (Err (length bytes))) x e in
      let one = reads.takes bytes a.0 fits a.1 in
      let passed = passed_ok (test a.0.0) (length bytes) a.0 x a.2 in
      subst (λ (y : X × List ℕ). (bytes ≡ code y.0 ++ y.1) × (P y.0 × IsTrue (test y.0))) passed.1 (one.0, (one.1, passed.0));
  again = λ x rest valid. rw (reads.again x rest valid.0, valid.1) refl;
}

pair_takes : {A B : Type 0} (f : A → List ℕ) (g : B → List ℕ) (P : A → Type 0) (Q : B → Type 0) (m : Reader A) (n : Reader B) → Reads f P m → Reads g Q n
    → (bytes : List ℕ) (x : (A × B) × List ℕ) → IsBytes bytes → (m & n) bytes ≡ Ok x → (bytes ≡ (f x.0.0 ++ g x.0.1) ++ x.1) × (P x.0.0 × Q x.0.1)
pair_takes {A} {B} f g P Q m n reads_m reads_n bytes x fits e =
    let a = bind_ok (m bytes) (λ a. n a.1 >>= λ b. Ok ((a.0, b.0), b.1)) x e in
    let b = bind_ok (n a.0.1) (λ b. Ok ((a.0.0, b.0), b.1)) x a.2 in
    let one = reads_m.takes bytes a.0 fits a.1 in
    let two = reads_n.takes a.0.1 b.0 (bytes_behind (f a.0.0) a.0.1 bytes one.0 fits) b.1 in
    let same : ((a.0.0, b.0.0), b.0.1) ≡ x = cc b.2 in
    subst (λ (y : (A × B) × List ℕ). (bytes ≡ (f y.0.0 ++ g y.0.1) ++ y.1) × (P y.0.0 × Q y.0.1)) same
    (one.0 ∙ (ap (λ (l : List ℕ). f a.0.0 ++ l) two.0 ∙ sym (append_assoc (f a.0.0) (g b.0.0) b.0.1)), (one.1, two.1))

pair_again : {A B : Type 0} (f : A → List ℕ) (g : B → List ℕ) (P : A → Type 0) (Q : B → Type 0) (m : Reader A) (n : Reader B) → Reads f P m → Reads g Q n
    → (x : A × B) (rest : List ℕ) → P x.0 × Q x.1 → (m & n) ((f x.0 ++ g x.1) ++ rest) ≡ Ok (x, rest)
pair_again f g P Q m n reads_m reads_n x rest valid =
    ap (m & n) (append_assoc (f x.0) (g x.1) rest) ∙ rw (reads_m.again x.0 (g x.1 ++ rest) valid.0, reads_n.again x.1 rest valid.1) refl

-- one after the other
pub pair_reads : {A B : Type 0} {f : A → List ℕ} {g : B → List ℕ} {P : A → Type 0} {Q : B → Type 0} {m : Reader A} {n : Reader B} → Reads f P m → Reads g Q n
    → Reads (λ (p : A × B). f p.0 ++ g p.1) (λ (p : A × B). P p.0 × Q p.1) (m & n)
pair_reads {A} {B} {f} {g} {P} {Q} {m} {n} reads_m reads_n = record { takes = pair_takes f g P Q m n reads_m reads_n; again = pair_again f g P Q m n reads_m reads_n }

-- a value by its parts
pub whole_reads : {P R : Type 0} {code : P → List ℕ} {valid : P → Type 0} {m : Reader P} → Reads code valid m → (whole : P → R) (code' : R → List ℕ) (valid' : R → Type 0)
    → ((p : P) → code' (whole p) ≡ code p) → ((p : P) → valid p → valid' (whole p)) → ((r : R) → valid' r → (p : P) × (whole p ≡ r) × valid p) → Reads code' valid' (made_of whole m)
whole_reads {P} {R} {code} {valid} {m} reads whole code' valid' same valid_to valid_from = record {
  takes = λ bytes x fits e.
      let b = bind_ok (m bytes) (λ p. Ok (whole p.0, p.1)) x e in
      let one = reads.takes bytes b.0 fits b.1 in
      let is : (whole b.0.0, b.0.1) ≡ x = cc b.2 in
      subst (λ (y : R × List ℕ). (bytes ≡ code' y.0 ++ y.1) × valid' y.0) is (one.0 ∙ ap (λ (l : List ℕ). l ++ b.0.1) (sym (same b.0.0)), valid_to b.0.0 one.1);
  again = λ r rest v.
      let f = valid_from r v in
      let spelled : code' r ++ rest ≡ code f.0 ++ rest = ap (λ (l : List ℕ). l ++ rest) (ap code' (sym f.1) ∙ same f.0) in
      ap (made_of whole m) spelled ∙ (ap (λ (q : Read P). q >>= λ p. Ok (whole p.0, p.1)) (reads.again f.0 rest f.2) ∙ ap (λ (q : R). Ok (q, rest)) f.1);
}

-- a value after the byte that announces it
pub made_takes : {P R : Type 0} {code : P → List ℕ} {valid : P → Type 0} {m : Reader P} → Reads code valid m → (whole : P → R) (b : ℕ) (code' : R → List ℕ) (valid' : R → Type 0)
    → ((p : P) → code' (whole p) ≡ b ∷ code p) → ((p : P) → valid p → valid' (whole p))
    → (bytes rest : List ℕ) (x : R × List ℕ) → IsBytes bytes → bytes ≡ b ∷ rest → made_of whole m rest ≡ Ok x → (bytes ≡ code' x.0 ++ x.1) × valid' x.0
made_takes {P} {R} {code} {valid} {m} reads whole b code' valid' same valid_to bytes rest x fits spelled e =
    let v = bind_ok (m rest) (λ p. Ok (whole p.0, p.1)) x e in
    let one = reads.takes rest v.0 (bytes_behind (b ∷ []) rest bytes spelled fits) v.1 in
    let is : (whole v.0.0, v.0.1) ≡ x = cc v.2 in
    subst (λ (y : R × List ℕ). (bytes ≡ code' y.0 ++ y.1) × valid' y.0) is
    (spelled ∙ (ap (λ (l : List ℕ). b ∷ l) one.0 ∙ ap (λ (l : List ℕ). l ++ v.0.1) (sym (same v.0.0))), valid_to v.0.0 one.1)

-- ---- numbers, keys, texts

record IsWide (w : Width) (limit : ℕ) : Type 0 where
  pub len : (n : ℕ) → length (to_be_bytes w n) ≡ byte_len w
  pub back : (bytes : List ℕ) → length bytes ≡ byte_len w → IsBytes bytes → to_be_bytes w (from_be_bytes w bytes) ≡ bytes
  pub again : (n : ℕ) → n < limit → from_be_bytes w (to_be_bytes w n) ≡ n
  pub below : (bytes : List ℕ) → IsBytes bytes → from_be_bytes w bytes < limit

wide16 : IsWide w16 (2 ^ 16)
wide16 = record {
  len = λ n. refl;
  back = λ bytes len fits. be_bytes_2 bytes _ len fits.each refl;
  again = λ n lt. from_be_bytes-to_be_bytes_2 n lt;
  below = λ bytes fits. omega (arith, fits.each 0, fits.each 1);
}

wide32 : IsWide w32 (2 ^ 32)
wide32 = record {
  len = λ n. refl;
  back = λ bytes len fits. be_bytes_4 bytes _ len fits.each refl;
  again = λ n lt. from_be_bytes-to_be_bytes_4 n lt;
  below = λ bytes fits. omega (arith, fits.each 0, fits.each 1, fits.each 2, fits.each 3);
}

wide64 : IsWide w64 (2 ^ 64)
wide64 = record {
  len = λ n. refl;
  back = λ bytes len fits. be_bytes_8 bytes _ len fits.each refl;
  again = λ n lt. from_be_bytes-to_be_bytes_8 n lt;
  below = λ bytes fits. omega (arith, fits.each 0, fits.each 1, fits.each 2, fits.each 3, fits.each 4, fits.each 5, fits.each 6, fits.each 7);
}

number_takes : (w : Width) (limit : ℕ) → IsWide w limit → (bytes : List ℕ) (x : ℕ × List ℕ) → IsBytes bytes → number_at w bytes ≡ Ok x → (bytes ≡ to_be_bytes w x.0 ++ x.1) × (x.0 < limit)
number_takes w limit wide bytes x fits e =
    let g = guard_ok (ltb (length bytes) (byte_len w)) (length bytes) (from_be_bytes w (take (byte_len w) bytes), drop (byte_len w) bytes) x e in
    let long : byte_len w ≤ length bytes = ltb-false _ _ g.0 in
    let front : to_be_bytes w (from_be_bytes w (take (byte_len w) bytes)) ≡ take (byte_len w) bytes = wide.back (take (byte_len w) bytes) (omega (arith, length-take (byte_len w) bytes)) (bytes_take (byte_len w) bytes fits) in
    subst (λ (y : ℕ × List ℕ). (bytes ≡ to_be_bytes w y.0 ++ y.1) × (y.0 < limit)) g.1
    (sym (take-append-drop (byte_len w) bytes) ∙ ap (λ (l : List ℕ). l ++ drop (byte_len w) bytes) (sym front), wide.below (take (byte_len w) bytes) (bytes_take (byte_len w) bytes fits))

number_again : (w : Width) (limit : ℕ) → IsWide w limit → (n : ℕ) (rest : List ℕ) → n < limit → number_at w (to_be_bytes w n ++ rest) ≡ Ok (n, rest)
number_again w limit wide n rest lt =
    let len = wide.len n in
    let long : ltb (length (to_be_bytes w n ++ rest)) (byte_len w) ≡ false = le-ltb _ _ (omega (arith, length-append (to_be_bytes w n) rest)) in
    rw (long, take_at (to_be_bytes w n) rest (byte_len w) len, drop_at (to_be_bytes w n) rest (byte_len w) len, wide.again n lt) refl

number_reads : (w : Width) (limit : ℕ) → IsWide w limit → Reads (to_be_bytes w) (λ n. n < limit) (number_at w)
number_reads w limit wide = record { takes = number_takes w limit wide; again = number_again w limit wide }

count_reads : Reads u32_code (λ n. n < 2 ^ 32) (number_at w32)
unfolding u32_code
count_reads = number_reads w32 (2 ^ 32) wide32

pub moment_reads : Reads u64_code IsMoment moment_at
unfolding u64_code moment_at
moment_reads =
    valid_reads (checked_reads (number_reads w64 (2 ^ 64) wide64) (λ n. nat_le n 253402300799)) IsMoment
    (λ n valid. grind (arith, nat_tests, valid.1))
    (λ n valid. (omega (arith, valid), grind (arith, nat_tests, valid)))

pub status_reads : Reads u16_code (λ n. (100 ≤ n) × (n ≤ 999)) status_at
unfolding u16_code status_at
status_reads =
    valid_reads (checked_reads (number_reads w16 (2 ^ 16) wide16) (λ n. nat_le 100 n && nat_le n 999)) (λ n. (100 ≤ n) × (n ≤ 999))
    (λ n valid. let both = and_parts (nat_le 100 n) (nat_le n 999) valid.1 in (grind (arith, nat_tests, both.0), grind (arith, nat_tests, both.1)))
    (λ n valid. (omega (arith, valid.1), grind (arith, nat_tests, valid.0, valid.1)))

pub key_reads : (n : ℕ) → Reads (λ k. k) (λ k. length k ≡ n) (bytes_at n)
key_reads n = record {
  takes = λ bytes x fits e.
      let g = guard_ok (ltb (length bytes) n) (length bytes) (take n bytes, drop n bytes) x e in
      let long : n ≤ length bytes = ltb-false _ _ g.0 in
      let len : length (take n bytes) ≡ n = omega (arith, length-take n bytes) in
      subst (λ (y : List ℕ × List ℕ). (bytes ≡ y.0 ++ y.1) × (length y.0 ≡ n)) g.1 (sym (take-append-drop n bytes), len);
  again = λ k rest len.
      let long : ltb (length (k ++ rest)) n ≡ false = le-ltb _ _ (omega (arith, length-append k rest)) in
      rw (long, take_at k rest n len, drop_at k rest n len) refl;
}

slice_takes : (bytes : List ℕ) (x : List ℕ × List ℕ) → IsBytes bytes → slice_at bytes ≡ Ok x → (bytes ≡ text_code x.0 ++ x.1) × (length x.0 < 2 ^ 32)
unfolding text_code
slice_takes bytes x fits e =
    let n = bind_ok (number_at w32 bytes) (λ n. cond (ltb (length n.1) n.0) (Err (length bytes)) (Ok (take n.0 n.1, drop n.0 n.1))) x e in
    let one = count_reads.takes bytes n.0 fits n.1 in
    let g = guard_ok (ltb (length n.0.1) n.0.0) (length bytes) (take n.0.0 n.0.1, drop n.0.0 n.0.1) x n.2 in
    let long : n.0.0 ≤ length n.0.1 = ltb-false _ _ g.0 in
    let len : length (take n.0.0 n.0.1) ≡ n.0.0 = omega (arith, length-take n.0.0 n.0.1) in
    let text = take n.0.0 n.0.1 in
    let rest = drop n.0.0 n.0.1 in
    let spelled : bytes ≡ (u32_code (length text) ++ text) ++ rest =
    one.0 ∙ (ap (λ (l : List ℕ). u32_code n.0.0 ++ l) (sym (take-append-drop n.0.0 n.0.1)) ∙ (ap (λ (k : ℕ). u32_code k ++ (text ++ rest)) (sym len) ∙ sym (append_assoc (u32_code (length text)) text rest))) in
    let short : length text < 2 ^ 32 = omega (arith, len, one.1) in
    subst (λ (y : List ℕ × List ℕ). (bytes ≡ (u32_code (length y.0) ++ y.0) ++ y.1) × (length y.0 < 2 ^ 32)) g.1 (spelled, short)

slice_again : (text rest : List ℕ) → length text < 2 ^ 32 → slice_at (text_code text ++ rest) ≡ Ok (text, rest)
unfolding text_code
slice_again text rest lt =
    let long : ltb (length (text ++ rest)) (length text) ≡ false = le-ltb _ _ (omega (arith, length-append text rest)) in
    ap slice_at (append_assoc (u32_code (length text)) text rest)
    ∙ rw (count_reads.again (length text) (text ++ rest) lt, long, take_at text rest (length text) refl, drop_at text rest (length text) refl) refl

slice_reads : Reads text_code (λ t. length t < 2 ^ 32) slice_at
slice_reads = record { takes = slice_takes; again = slice_again }

-- a text with a test that no long text passes
pub text_reads : (test : List ℕ → Bool) → ((t : List ℕ) → IsTrue (test t) → length t < 2 ^ 32) → Reads text_code (IsText test) (text_at test)
unfolding text_at utf8_at
text_reads test short =
    valid_reads (checked_reads (checked_reads slice_reads is_utf8) test) (IsText test)
    (λ t valid. record { utf8 = valid.0.1; passes = valid.1 })
    (λ t valid. ((short t valid.passes, valid.utf8), valid.passes))

-- ---- a byte that says what follows

pub byte_is : (bytes : List ℕ) (x : ℕ × List ℕ) → byte_at bytes ≡ Ok x → bytes ≡ x.0 ∷ x.1
unfolding byte_at
byte_is [] x e = absurd cc
byte_is (b ∷ rest) x e = let same : (b, rest) ≡ x = cc e in subst (λ (y : ℕ × List ℕ). b ∷ rest ≡ y.0 ∷ y.1) same refl

-- a choice by a byte
pub choice_ok : {A : Type 0} (b n : ℕ) (p q : Result A ℕ) (y : A) → cond (b == n) p q ≡ Ok y → ((b ≡ n) × (p ≡ Ok y)) ⊎ (q ≡ Ok y)
choice_ok b n p q y e = by (b == n) refl e
  where
    by : (t : Bool) → (b == n) ≡ t → cond t p q ≡ Ok y → ((b ≡ n) × (p ≡ Ok y)) ⊎ (q ≡ Ok y)
    by true is e = inl (grind (arith, nat_tests, is), e)
    by false is e = inr e

-- a value that the byte alone denotes
pub said : {R : Type 0} (b n : ℕ) (code : R → List ℕ) (valid : R → Type 0) (v : R) (bytes rest : List ℕ) (x : R × List ℕ)
    → code v ≡ n ∷ [] → valid v → bytes ≡ b ∷ rest → b ≡ n → ◌≡◌ {A = Result (R × List ℕ) ℕ} (Ok (v, rest)) (Ok x) → (bytes ≡ code x.0 ++ x.1) × valid x.0
said {R} b n code valid v bytes rest x spells holds spelled is e =
    let same : (v, rest) ≡ x = cc e in
    subst (λ (y : R × List ℕ). (bytes ≡ code y.0 ++ y.1) × valid y.0) same
    (spelled ∙ (ap (λ (k : ℕ). k ∷ rest) is ∙ ap (λ (l : List ℕ). l ++ rest) (sym spells)), holds)

flag_takes : (bytes : List ℕ) (x : Bool × List ℕ) → flag_at bytes ≡ Ok x → (bytes ≡ bool_code x.0 ++ x.1) × Unit {0}
unfolding flag_at
flag_takes bytes x e =
    let b = bind_ok (byte_at bytes) (λ b. cond (b.0 == 0) (Ok (false, b.1)) (cond (b.0 == 1) (Ok (true, b.1)) (Err (length bytes)))) x e in
    let spelled = byte_is bytes b.0 b.1 in
    let other : Read Bool = cond (b.0.0 == 1) (Ok (true, b.0.1)) (Err (length bytes)) in
    elim (choice_ok b.0.0 0 (Ok (false, b.0.1)) other x b.2) [
      | inl is ↦ said b.0.0 0 bool_code (λ b. Unit {0}) false bytes b.0.1 x refl tt spelled is.0 is.1
      | inr e ↦ elim (choice_ok b.0.0 1 (Ok (true, b.0.1)) (Err (length bytes)) x e) [
        | inl is ↦ said b.0.0 1 bool_code (λ b. Unit {0}) true bytes b.0.1 x refl tt spelled is.0 is.1
        | inr e ↦ absurd (cc e)
      ]
    ]

flag_again : (b : Bool) (rest : List ℕ) → flag_at (bool_code b ++ rest) ≡ Ok (b, rest)
unfolding flag_at byte_at
flag_again false rest = refl
flag_again true rest = refl

pub flag_reads : Reads bool_code (λ b. Unit {0}) flag_at
flag_reads = record { takes = λ bytes x fits e. flag_takes bytes x e; again = λ b rest v. flag_again b rest }

-- ---- optional values, changes and lists

option_takes : {X : Type 0} (code : X → List ℕ) (P : X → Type 0) (m : Reader X) → Reads code P m
    → (bytes : List ℕ) (x : Option X × List ℕ) → IsBytes bytes → option_at m bytes ≡ Ok x → (bytes ≡ option_code code x.0 ++ x.1) × IfSome x.0 P
unfolding option_at option_code
option_takes {X} code P m reads bytes x fits e =
    let b = bind_ok (flag_at bytes) (λ there. cond there.0 (made_of Some m there.1) (Ok (None, there.1))) x e in
    let flag = flag_reads.takes bytes b.0 fits b.1 in
    by b.0.0 b.0.1 flag.0 b.2
  where
    by : (there : Bool) (rest : List ℕ) → bytes ≡ bool_code there ++ rest → cond there (made_of Some m rest) (Ok (None, rest)) ≡ Ok x
        → (bytes ≡ option_code code x.0 ++ x.1) × IfSome x.0 P
    by false rest spelled e =
        let same : (None, rest) ≡ x = cc e in
        subst (λ (y : Option X × List ℕ). (bytes ≡ option_code code y.0 ++ y.1) × IfSome y.0 P) same (spelled, tt)
    by true rest spelled e = made_takes reads Some 1 (option_code code) (λ o. IfSome o P) (λ v. refl) (λ v valid. valid) bytes rest x fits spelled e

option_again : {X : Type 0} (code : X → List ℕ) (P : X → Type 0) (m : Reader X) → Reads code P m
    → (o : Option X) (rest : List ℕ) → IfSome o P → option_at m (option_code code o ++ rest) ≡ Ok (o, rest)
unfolding option_at option_code flag_at byte_at
option_again code P m reads None rest valid = refl
option_again code P m reads (Some v) rest valid = rw (reads.again v rest valid) refl

pub option_reads : {X : Type 0} {code : X → List ℕ} {P : X → Type 0} {m : Reader X} → Reads code P m → Reads (option_code code) (λ o. IfSome o P) (option_at m)
option_reads {X} {code} {P} {m} reads = record { takes = option_takes code P m reads; again = option_again code P m reads }

edit_takes : {X : Type 0} (code : X → List ℕ) (P : X → Type 0) (m : Reader X) → Reads code P m
    → (bytes : List ℕ) (x : Edit X × List ℕ) → IsBytes bytes → edit_at m bytes ≡ Ok x → (bytes ≡ edit_code code x.0 ++ x.1) × IfGiven P x.0
unfolding edit_at edit_code
edit_takes {X} code P m reads bytes x fits e =
    let b = bind_ok (byte_at bytes) (λ b. cond (b.0 == 0) (Ok (Keep, b.1)) (cond (b.0 == 1) (Ok (Remove, b.1)) (cond (b.0 == 2) (made_of Give m b.1) (Err (length bytes))))) x e in
    let spelled = byte_is bytes b.0 b.1 in
    let given : Read (Edit X) = cond (b.0.0 == 2) (made_of Give m b.0.1) (Err (length bytes)) in
    let removed : Read (Edit X) = cond (b.0.0 == 1) (Ok (Remove, b.0.1)) given in
    elim (choice_ok b.0.0 0 (Ok (Keep, b.0.1)) removed x b.2) [
      | inl is ↦ said b.0.0 0 (edit_code code) (IfGiven P) Keep bytes b.0.1 x refl tt spelled is.0 is.1
      | inr e ↦ elim (choice_ok b.0.0 1 (Ok (Remove, b.0.1)) given x e) [
        | inl is ↦ said b.0.0 1 (edit_code code) (IfGiven P) Remove bytes b.0.1 x refl tt spelled is.0 is.1
        | inr e ↦ elim (choice_ok b.0.0 2 (made_of Give m b.0.1) (Err (length bytes)) x e) [
          | inl is ↦ made_takes reads Give 2 (edit_code code) (IfGiven P) (λ v. refl) (λ v valid. valid) bytes b.0.1 x fits (spelled ∙ ap (λ (n : ℕ). n ∷ b.0.1) is.0) is.1
          | inr e ↦ absurd (cc e)
        ]
      ]
    ]

edit_again : {X : Type 0} (code : X → List ℕ) (P : X → Type 0) (m : Reader X) → Reads code P m
    → (edit : Edit X) (rest : List ℕ) → IfGiven P edit → edit_at m (edit_code code edit ++ rest) ≡ Ok (edit, rest)
unfolding edit_at edit_code byte_at
edit_again code P m reads Keep rest valid = refl
edit_again code P m reads Remove rest valid = refl
edit_again code P m reads (Give v) rest valid = rw (reads.again v rest valid) refl

pub edit_reads : {X : Type 0} {code : X → List ℕ} {P : X → Type 0} {m : Reader X} → Reads code P m → Reads (edit_code code) (IfGiven P) (edit_at m)
edit_reads {X} {code} {P} {m} reads = record { takes = edit_takes code P m reads; again = edit_again code P m reads }

items_take : {X : Type 0} (code : X → List ℕ) (P : X → Type 0) (m : Reader X) → Reads code P m → (n : ℕ) (bytes : List ℕ) (x : List X × List ℕ) → IsBytes bytes
    → items_at m n bytes ≡ Ok x → (bytes ≡ flat_map code x.0 ++ x.1) × ((length x.0 ≡ n) × AllByRecursion P x.0)
unfolding items_at
items_take {X} code P m reads zero bytes x fits e =
    let same : ([], bytes) ≡ x = cc e in
    subst (λ (y : List X × List ℕ). (bytes ≡ flat_map code y.0 ++ y.1) × ((length y.0 ≡ 0) × AllByRecursion P y.0)) same (refl, (refl, tt))
items_take {X} code P m reads (suc n) bytes x fits e =
    let a = bind_ok (m bytes) (λ first. items_at m n first.1 >>= λ others. Ok (first.0 ∷ others.0, others.1)) x e in
    let b = bind_ok (items_at m n a.0.1) (λ others. Ok (a.0.0 ∷ others.0, others.1)) x a.2 in
    let one = reads.takes bytes a.0 fits a.1 in
    let others = items_take code P m reads n a.0.1 b.0 (bytes_behind (code a.0.0) a.0.1 bytes one.0 fits) b.1 in
    let same : (a.0.0 ∷ b.0.0, b.0.1) ≡ x = cc b.2 in
    subst (λ (y : List X × List ℕ). (bytes ≡ flat_map code y.0 ++ y.1) × ((length y.0 ≡ suc n) × AllByRecursion P y.0)) same
    (one.0 ∙ (ap (λ (l : List ℕ). code a.0.0 ++ l) others.0 ∙ sym (append_assoc (code a.0.0) (flat_map code b.0.0) b.0.1)), (ap (λ (k : ℕ). suc k) others.1.0, (one.1, others.1.1)))

items_again : {X : Type 0} (code : X → List ℕ) (P : X → Type 0) (m : Reader X) → Reads code P m → (xs : List X) (rest : List ℕ) → AllByRecursion P xs
    → items_at m (length xs) (flat_map code xs ++ rest) ≡ Ok (xs, rest)
unfolding items_at
items_again code P m reads [] rest valid = refl
items_again code P m reads (x ∷ xs) rest valid =
    ap (items_at m (length (x ∷ xs))) (append_assoc (code x) (flat_map code xs) rest) ∙ rw (reads.again x (flat_map code xs ++ rest) valid.0, items_again code P m reads xs rest valid.1) refl

pub list_reads : {X : Type 0} {code : X → List ℕ} {P : X → Type 0} {m : Reader X} → Reads code P m → Reads (list_code code) (IsList P) (list_at m)
unfolding list_at list_code
list_reads {X} {code} {P} {m} reads = record {
  takes = λ bytes x fits e.
      let a = bind_ok (number_at w32 bytes) (λ n. items_at m n.0 n.1) x e in
      let one = count_reads.takes bytes a.0 fits a.1 in
      let all = items_take code P m reads a.0.0 a.0.1 x (bytes_behind (u32_code a.0.0) a.0.1 bytes one.0 fits) a.2 in
      (one.0 ∙ (ap (λ (l : List ℕ). u32_code a.0.0 ++ l) all.0 ∙ (ap (λ (k : ℕ). u32_code k ++ (flat_map code x.0 ++ x.1)) (sym all.1.0) ∙ sym (append_assoc (u32_code (length x.0)) (flat_map code x.0) x.1))), (omega (arith, all.1.0, one.1), all.1.1));
  again = λ xs rest valid.
      ap (list_at m) (append_assoc (u32_code (length xs)) (flat_map code xs) rest) ∙ rw (count_reads.again (length xs) (flat_map code xs ++ rest) valid.0) (items_again code P m reads xs rest valid.1);
}
