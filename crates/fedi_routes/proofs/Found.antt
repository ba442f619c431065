-- A path that the pattern of a row makes is found at that row.
use Rattle.std.proofs.Common.{◌≡◌, ℕ, zero, suc, ◌-◌, ◌<◌, List, [], ◌∷◌, ◌++◌, append-nil, length, length-append, drop, get_or, Option, Some, None, Bool, true, false, cond, refl, sym, subst, ap, ◌∙◌, arith, nat_eq, ◌==◌, ltb, ◌&&◌}
use Rattle.std.proofs.lemmas.Bool.{and_parts, and_from}
use Rattle.std.proofs.lemmas.Bool.Decides.{nat_tests}
use Rattle.std.proofs.Math.Seq.{drop-append_seam}
use Rattle.std.specs.List.{list_all}
use Rattle.std.specs.Cmp.Lexicographic.{pointwise}
use Rattle.matchit.specs.Rows.{RowsOf, param_token, catch_all_token}
use Rattle.matchit.specs.Seek.{segment, slash, has_slash, same_text, cuts, better, own, step, or_else, longest_from, with_suffix, param_step, seek}
use Rattle.matchit.specs.Order.{lookup}
use Rattle.matchit.proofs.ParamLemmas.{drop-length, one_less}
use Rattle.fedi_routes.specs.Patterns.{is_segment_byte, IsSegment, path_by, path_with, AreWith, AreSegments, part_at_bytes, ends_segment, is_plain, are_clear_of}

-- ---- segments

-- a byte of a segment is a byte other than the slash
pub not_slash : (b : ℕ) → is_segment_byte b ≡ true → (b == slash) ≡ false
not_slash b h = grind (arith, nat_tests)

pub is_byte : (b : ℕ) → is_segment_byte b ≡ true → b < 256
is_byte b h = grind (arith, nat_tests)

-- the first segment of a path is read up to its slash
pub segment-before_slash : (p q : List ℕ) → list_all is_segment_byte p ≡ true → segment (p ++ slash ∷ q) ≡ p ++ slash ∷ []
segment-before_slash [] q h = refl
segment-before_slash (b ∷ p) q h =
    let parts = and_parts (is_segment_byte b) (list_all is_segment_byte p) h in
    rw (not_slash b parts.0) (ap (λ z. b ∷ z) (segment-before_slash p q parts.1))

-- the last segment of a path is read to the end
pub segment-last : (p : List ℕ) → list_all is_segment_byte p ≡ true → (segment p ≡ p) × (has_slash p ≡ false)
segment-last [] h = (refl, refl)
segment-last (b ∷ p) h =
    let parts = and_parts (is_segment_byte b) (list_all is_segment_byte p) h in
    let rest = segment-last p parts.1 in
    rw (not_slash b parts.0) (ap (λ z. b ∷ z) rest.0, rest.1)

-- a segment that is not empty may end with a slash
pub cuts-slash : (p : List ℕ) → 0 < length p → cuts (p ++ slash ∷ []) (slash ∷ []) ≡ true
cuts-slash p h =
    let n : length (p ++ slash ∷ []) - 1 ≡ length p = simp length-append (omega arith) in
    let long : ltb 1 (length (p ++ slash ∷ [])) ≡ true = simp length-append (grind (arith, nat_tests)) in
    rw (long, n, drop-append_seam p (slash ∷ [])) refl

-- no slash ends a segment without one
ends-none : (n : ℕ) (p : List ℕ) → list_all is_segment_byte p ≡ true → pointwise nat_eq (slash ∷ []) (drop n p) ≡ false
ends-none zero [] h = refl
ends-none (suc n) [] h = refl
ends-none zero (b ∷ p) h =
    let parts = and_parts (is_segment_byte b) (list_all is_segment_byte p) h in
    let n : nat_eq slash b ≡ false = grind (arith, nat_tests, not_slash b parts.0) in
    rw n refl
ends-none (suc n) (b ∷ p) h = ends-none n p (and_parts (is_segment_byte b) (list_all is_segment_byte p) h).1

pub cuts-last : (p : List ℕ) → list_all is_segment_byte p ≡ true → cuts p (slash ∷ []) ≡ false
cuts-last p h = rw (ends-none (length p - 1) p h) (grind arith)

-- ---- patterns

-- the rest of a plain pattern is plain
pub plain_rest : (x : ℕ) (t : List ℕ) → is_plain (x ∷ t) ≡ true → is_plain t ≡ true
plain_rest x t h = (and_parts (cond (x == param_token) (ends_segment t) (ltb x 128)) (is_plain t) h).1

-- patterns with the same first token differ as what follows it does
pub part_at_bytes-same : (x y : ℕ) (t r : List ℕ) → (y == x) ≡ true → part_at_bytes (x ∷ t) (y ∷ r) ≡ part_at_bytes t r
part_at_bytes-same x y t r e =
    let n : (x == y) ≡ true = grind (arith, nat_tests) in
    rw n refl

-- a parameter and a byte differ at a parameter
part_at_bytes-param : (c : ℕ) (t r : List ℕ) → c < 256 → part_at_bytes (param_token ∷ t) (c ∷ r) ≡ false
part_at_bytes-param c t r l =
    let n : (param_token == c) ≡ false = grind (arith, nat_tests) in
    rw n refl

-- a pattern that takes the rest of a path is not plain
plain_no_catch : (r : List ℕ) → is_plain (catch_all_token ∷ r) ≡ false
plain_no_catch r = refl

-- after a parameter of a plain pattern its segment ends
pub plain_ends : (y : ℕ) (r : List ℕ) → (y == param_token) ≡ true → is_plain (y ∷ r) ≡ true → ends_segment r ≡ true
plain_ends y r e h = (and_parts (ends_segment r) (is_plain r) (rw e at h)).0

-- if a segment ends and the pattern continues, it continues with a slash
pub segment-slash : (y : ℕ) (t : List ℕ) → ends_segment (y ∷ t) ≡ true → segment (y ∷ t) ≡ slash ∷ []
segment-slash y t h =
    let s : y ≡ slash = grind (arith, nat_tests) in
    rw s refl

-- a slash is better than nothing if the segment may end with it
pub better-suffix : (seg : List ℕ) (v : Bool) → cuts seg (slash ∷ []) ≡ v → better seg [] (slash ∷ []) ≡ cond v (slash ∷ []) []
better-suffix seg v e = rw e refl

-- a pattern that does not continue with a slash is not one of those that do
same_text-other : (r t : List ℕ) → ends_segment r ≡ true → same_text (segment r) (slash ∷ []) ≡ false → same_text r (slash ∷ t) ≡ false
same_text-other [] t h e = refl
same_text-other (y ∷ r) t h e = cc (rw (segment-slash y r h) at e)

pub first_is_byte : (b : ℕ) (p : List ℕ) → list_all is_segment_byte (b ∷ p) ≡ true → b < 256
first_is_byte b p h = is_byte b (and_parts (is_segment_byte b) (list_all is_segment_byte p) h).0

module _ {K : Type 0} where
  -- ---- steps of the search

  pub or_else-none : (a : Option K) → or_else a None ≡ a
  or_else-none None = refl
  or_else-none (Some k) = refl

  param_step-empty : (p : List ℕ) → (param_step {K = K} [] p).1 ≡ []
  unfolding param_step
  param_step-empty p =
      elim (has_slash p) as (λ v. (cond {A = ℕ × RowsOf K} v (0, []) (length p, [])).1 ≡ []) [
        | true ↦ refl
        | false ↦ refl
      ]

  -- without rows nothing is found
  pub seek-empty : (k : ℕ) (p : List ℕ) → seek {K = K} k [] p ≡ None
  unfolding seek
  seek-empty k [] = refl
  seek-empty (suc k) (b ∷ p) = seek-empty k p
  seek-empty zero (b ∷ p) = simp (seek-empty 0 p, param_step-empty (b ∷ p), seek-empty (((param_step {K = K} [] (b ∷ p)).0) - 1) p)

  -- skipped bytes do not count
  pub seek-drop : (k : ℕ) (r : RowsOf K) (p : List ℕ) → seek k r p ≡ seek 0 r (drop k p)
  unfolding seek
  seek-drop zero r p = refl
  seek-drop (suc k) r [] = refl
  seek-drop (suc k) r (b ∷ p) = seek-drop k r p

  -- ---- rows

  -- the row that ends here is the one with the empty pattern
  pub own-is_lookup : (rs : RowsOf K) → own rs ≡ lookup [] rs
  own-is_lookup [] = refl
  own-is_lookup (([], k) ∷ rs) = refl
  own-is_lookup ((x ∷ t, k) ∷ rs) = own-is_lookup rs

  -- a row is found after its first token
  pub lookup-step : (x : ℕ) (t : List ℕ) (rs : RowsOf K) → lookup (x ∷ t) rs ≡ lookup t (step x rs)
  lookup-step x t [] = refl
  lookup-step x t (([], k) ∷ rs) = lookup-step x t rs
  lookup-step x t ((y ∷ r, k) ∷ rs) = by (y == x) (lookup-step x t rs)
    where
      by : (v : Bool) → lookup (x ∷ t) rs ≡ lookup t (step x rs)
          → cond (v && same_text r t) (Some k) (lookup (x ∷ t) rs) ≡ lookup t (cond v ((r, k) ∷ step x rs) (step x rs))
      by true ih = ap (λ z. cond (same_text r t) (Some k) z) ih
      by false ih = ih

  -- what is tested for the first row, and for the others
  pub clear_parts : (t r : List ℕ) (rs : RowsOf K) → ((part_at_bytes t r && is_plain r) && are_clear_of t rs) ≡ true → (part_at_bytes t r ≡ true) × (is_plain r ≡ true) × (are_clear_of t rs ≡ true)
  clear_parts t r rs h =
      let a = and_parts (part_at_bytes t r && is_plain r) (are_clear_of t rs) h in
      let b = and_parts (part_at_bytes t r) (is_plain r) a.0 in
      (b.0, b.1, a.1)

  pub clear_from : (t r : List ℕ) (rs : RowsOf K) → part_at_bytes t r ≡ true → is_plain r ≡ true → are_clear_of t rs ≡ true → ((part_at_bytes t r && is_plain r) && are_clear_of t rs) ≡ true
  clear_from t r rs a b c = and_from (part_at_bytes t r && is_plain r) (are_clear_of t rs) (and_from (part_at_bytes t r) (is_plain r) a b) c

  -- rows that are clear of a pattern are clear of it after its first token
  pub clear-step : (x : ℕ) (t : List ℕ) (rs : RowsOf K) → are_clear_of (x ∷ t) rs ≡ true → are_clear_of t (step x rs) ≡ true
  clear-step x t [] h = refl
  clear-step x t (([], k) ∷ rs) h = clear-step x t rs (clear_parts (x ∷ t) [] rs h).2
  clear-step x t ((y ∷ r, k) ∷ rs) h = by (y == x) refl (clear_parts (x ∷ t) (y ∷ r) rs h) (clear-step x t rs)
    where
      by : (v : Bool) → (y == x) ≡ v → (part_at_bytes (x ∷ t) (y ∷ r) ≡ true) × (is_plain (y ∷ r) ≡ true) × (are_clear_of (x ∷ t) rs ≡ true)
          → (are_clear_of (x ∷ t) rs ≡ true → are_clear_of t (step x rs) ≡ true)
          → are_clear_of t (cond v ((r, k) ∷ step x rs) (step x rs)) ≡ true
      by true e q ih = clear_from t r (step x rs) (sym (part_at_bytes-same x y t r e) ∙ q.0) (plain_rest y r q.1) (ih q.2)
      by false e q ih = ih q.2

  -- and some of these rows are too
  pub clear-with_suffix : (t s : List ℕ) (rs : RowsOf K) → are_clear_of t rs ≡ true → are_clear_of t (with_suffix s rs) ≡ true
  clear-with_suffix t s [] h = refl
  clear-with_suffix t s ((r, k) ∷ rs) h = by (same_text (segment r) s) (clear_parts t r rs h) (clear-with_suffix t s rs)
    where
      by : (v : Bool) → (part_at_bytes t r ≡ true) × (is_plain r ≡ true) × (are_clear_of t rs ≡ true)
          → (are_clear_of t rs ≡ true → are_clear_of t (with_suffix s rs) ≡ true)
          → are_clear_of t (cond v ((r, k) ∷ with_suffix s rs) (with_suffix s rs)) ≡ true
      by true q ih = clear_from t r (with_suffix s rs) q.0 q.1 (ih q.2)
      by false q ih = ih q.2

  -- if a pattern continues with a parameter, no row continues with a byte
  pub step-byte : (c : ℕ) (t : List ℕ) (rs : RowsOf K) → c < 256 → are_clear_of (param_token ∷ t) rs ≡ true → step c rs ≡ []
  step-byte c t [] l h = refl
  step-byte c t (([], k) ∷ rs) l h = step-byte c t rs l (clear_parts (param_token ∷ t) [] rs h).2
  step-byte c t ((y ∷ r, k) ∷ rs) l h = by (y == c) refl (clear_parts (param_token ∷ t) (y ∷ r) rs h) (step-byte c t rs l)
    where
      by : (v : Bool) → (y == c) ≡ v → (part_at_bytes (param_token ∷ t) (y ∷ r) ≡ true) × (is_plain (y ∷ r) ≡ true) × (are_clear_of (param_token ∷ t) rs ≡ true)
          → (are_clear_of (param_token ∷ t) rs ≡ true → step c rs ≡ [])
          → cond v ((r, k) ∷ step c rs) (step c rs) ≡ []
      by true e q ih =
          let s : y ≡ c = grind (arith, nat_tests) in
          let f = rw s at q.0 in
          cc (part_at_bytes-param c t r l)
      by false e q ih = ih q.2

  -- no row takes the rest of a path
  pub step-catch_all : (t : List ℕ) (rs : RowsOf K) → are_clear_of t rs ≡ true → step catch_all_token rs ≡ []
  step-catch_all t [] h = refl
  step-catch_all t (([], k) ∷ rs) h = step-catch_all t rs (clear_parts t [] rs h).2
  step-catch_all t ((y ∷ r, k) ∷ rs) h = by (y == catch_all_token) refl (clear_parts t (y ∷ r) rs h) (step-catch_all t rs)
    where
      by : (v : Bool) → (y == catch_all_token) ≡ v → (part_at_bytes t (y ∷ r) ≡ true) × (is_plain (y ∷ r) ≡ true) × (are_clear_of t rs ≡ true)
          → (are_clear_of t rs ≡ true → step catch_all_token rs ≡ [])
          → cond v ((r, k) ∷ step catch_all_token rs) (step catch_all_token rs) ≡ []
      by true e q ih =
          let s : y ≡ catch_all_token = grind (arith, nat_tests) in
          let f = rw s at q.1 in
          cc (plain_no_catch r)
      by false e q ih = ih q.2

  -- the segment ends here in each row
  abbrev pub Tails : RowsOf K → Type 0
  Tails [] = Unit {0}
  Tails ((r, k) ∷ rs) = (ends_segment r ≡ true) × Tails rs

  -- it does after a parameter
  pub tails : (t : List ℕ) (rs : RowsOf K) → are_clear_of t rs ≡ true → Tails (step param_token rs)
  tails t [] h = tt
  tails t (([], k) ∷ rs) h = tails t rs (clear_parts t [] rs h).2
  tails t ((y ∷ r, k) ∷ rs) h = by (y == param_token) refl (clear_parts t (y ∷ r) rs h) (tails t rs)
    where
      by : (v : Bool) → (y == param_token) ≡ v → (part_at_bytes t (y ∷ r) ≡ true) × (is_plain (y ∷ r) ≡ true) × (are_clear_of t rs ≡ true)
          → (are_clear_of t rs ≡ true → Tails (step param_token rs))
          → Tails (cond v ((r, k) ∷ step param_token rs) (step param_token rs))
      by true e q ih = (plain_ends y r e q.1, ih q.2)
      by false e q ih = ih q.2

  -- ---- the suffix that a parameter leaves: nothing or a slash

  -- a segment without a slash leaves nothing
  pub longest_from-none : (seg : List ℕ) (rs : RowsOf K) → cuts seg (slash ∷ []) ≡ false → Tails rs → longest_from seg [] rs ≡ []
  longest_from-none seg [] c h = refl
  longest_from-none seg (([], k) ∷ rs) c h = longest_from-none seg rs c h.1
  longest_from-none seg ((y ∷ t, k) ∷ rs) c h =
      rw (segment-slash y t h.0, better-suffix seg false c) (longest_from-none seg rs c h.1)

  -- a slash that was found stays
  pub longest_from-kept : (seg : List ℕ) (rs : RowsOf K) → Tails rs → longest_from seg (slash ∷ []) rs ≡ slash ∷ []
  longest_from-kept seg [] h = refl
  longest_from-kept seg (([], k) ∷ rs) h = longest_from-kept seg rs h.1
  longest_from-kept seg ((y ∷ t, k) ∷ rs) h = rw (segment-slash y t h.0) (longest_from-kept seg rs h.1)

  -- a segment with a slash leaves it, if a row continues with one
  pub longest_from-slash : (seg t : List ℕ) (k : K) (rs : RowsOf K) → cuts seg (slash ∷ []) ≡ true → Tails rs → lookup (slash ∷ t) rs ≡ Some k
      → longest_from seg [] rs ≡ slash ∷ []
  longest_from-slash seg t k [] c h l = cc
  longest_from-slash seg t k (([], j) ∷ rs) c h l = longest_from-slash seg t k rs c h.1 l
  longest_from-slash seg t k ((y ∷ r, j) ∷ rs) c h l =
      rw (segment-slash y r h.0, better-suffix seg true c) (longest_from-kept seg rs h.1)

  -- the rows that continue with a slash are found among those
  pub lookup-with_suffix : (t : List ℕ) (rs : RowsOf K) → Tails rs → lookup (slash ∷ t) (with_suffix (slash ∷ []) rs) ≡ lookup (slash ∷ t) rs
  lookup-with_suffix t [] h = refl
  lookup-with_suffix t ((r, k) ∷ rs) h = by (same_text (segment r) (slash ∷ [])) refl (lookup-with_suffix t rs h.1)
    where
      by : (v : Bool) → same_text (segment r) (slash ∷ []) ≡ v
          → lookup (slash ∷ t) (with_suffix (slash ∷ []) rs) ≡ lookup (slash ∷ t) rs
          → lookup (slash ∷ t) (cond v ((r, k) ∷ with_suffix (slash ∷ []) rs) (with_suffix (slash ∷ []) rs))
          ≡ cond (same_text r (slash ∷ t)) (Some k) (lookup (slash ∷ t) rs)
      by true e ih = ap (λ z. cond (same_text r (slash ∷ t)) (Some k) z) ih
      by false e ih = rw (same_text-other r t h.0 e) ih

  -- ---- a parameter takes the rest of its segment

  -- the last segment of a path
  pub param_step-last : (p : List ℕ) (rs : RowsOf K) → list_all is_segment_byte p ≡ true → Tails rs → param_step rs p ≡ (length p, rs)
  unfolding param_step
  param_step-last p rs h q =
      let s = segment-last p h in
      rw (s.0, longest_from-none p rs (cuts-last p h) q, s.1) refl

  -- a segment before a slash
  pub param_step-slash : (p q t : List ℕ) (k : K) (rs : RowsOf K) → IsSegment p → Tails rs → lookup (slash ∷ t) rs ≡ Some k
      → param_step rs (p ++ slash ∷ q) ≡ (length p, with_suffix (slash ∷ []) rs)
  unfolding param_step
  param_step-slash p q t k rs h w l =
      let n : length (p ++ slash ∷ []) - 1 ≡ length p = simp length-append (omega arith) in
      rw (segment-before_slash p q h.bytes, longest_from-slash (p ++ slash ∷ []) t k rs (cuts-slash p h.some) w l, n) refl

  -- ---- the row of the pattern

  -- the search continues after what a parameter took
  pub seek-rest : (n : ℕ) (rs : RowsOf K) (b : ℕ) (p : List ℕ) → 0 < n → seek (n - 1) rs p ≡ seek 0 rs (drop n (b ∷ p))
  seek-rest zero rs b p h = elim h [ ]
  seek-rest (suc n) rs b p h = rw (one_less n) (seek-drop n rs p)

  -- if no row continues with a byte, the parameter decides
  seek-param : (b : ℕ) (t p : List ℕ) (rs : RowsOf K) (n : ℕ) (next : RowsOf K) → b < 256 → are_clear_of (param_token ∷ t) rs ≡ true
      → param_step (step param_token rs) (b ∷ p) ≡ (n, next) → 0 < n
      → seek 0 rs (b ∷ p) ≡ seek 0 next (drop n (b ∷ p))
  unfolding seek
  seek-param b t p rs n next l c e h =
      rw (step-byte b t rs l c, seek-empty 0 p, e, step-catch_all (param_token ∷ t) rs c, or_else-none) (seek-rest n next b p h)

  -- it takes the last segment
  pub seek-last : (t p : List ℕ) (rs : RowsOf K) → IsSegment p → are_clear_of (param_token ∷ t) rs ≡ true → seek 0 rs p ≡ own (step param_token rs)
  unfolding seek
  seek-last t [] rs h c = absurd (omega (arith, h.some))
  seek-last t (b ∷ p) rs h c =
      seek-param b t p rs (length (b ∷ p)) (step param_token rs) (first_is_byte b p h.bytes) c
      (param_step-last (b ∷ p) (step param_token rs) h.bytes (tails (param_token ∷ t) rs c)) h.some
      ∙ ap (λ (z : List ℕ). seek 0 (step param_token rs) z) (drop-length (b ∷ p))

  -- or the one before a slash
  pub seek-slash : (p q t : List ℕ) (k : K) (rs : RowsOf K) → IsSegment p → are_clear_of (param_token ∷ slash ∷ t) rs ≡ true
      → lookup (slash ∷ t) (step param_token rs) ≡ Some k
      → seek 0 rs (p ++ slash ∷ q) ≡ seek 0 (with_suffix (slash ∷ []) (step param_token rs)) (slash ∷ q)
  seek-slash [] q t k rs h c l = absurd (omega (arith, h.some))
  seek-slash (b ∷ p) q t k rs h c l =
      let next = with_suffix (slash ∷ []) (step param_token rs) in
      seek-param b (slash ∷ t) (p ++ slash ∷ q) rs (length (b ∷ p)) next (first_is_byte b p h.bytes) c
      (param_step-slash (b ∷ p) q t k (step param_token rs) h (tails (param_token ∷ slash ∷ t) rs c) l) h.some
      ∙ ap (λ (z : List ℕ). seek 0 next z) (drop-append_seam (b ∷ p) (slash ∷ q))

  pub or-some : (a b : Option K) (k : K) → a ≡ Some k → or_else a b ≡ Some k
  or-some a b k e = rw e refl

-- ---- all of a pattern

-- a path that the pattern makes is found at its row, if the rows are clear of it
abbrev pub Finds : Type 0 → List ℕ → Type 0
Finds K t = (ps : List (List ℕ)) (rs : RowsOf K) (k : K) → lookup t rs ≡ Some k → are_clear_of t rs ≡ true → is_plain t ≡ true → AreSegments t ps
    → seek 0 rs (path_by t ps) ≡ Some k

byte-found : (K : Type 0) (x : ℕ) (t : List ℕ) → Finds K t → (ps : List (List ℕ)) (rs : RowsOf K) (k : K) → lookup (x ∷ t) rs ≡ Some k
    → are_clear_of (x ∷ t) rs ≡ true → is_plain (x ∷ t) ≡ true → AreSegments t ps → seek 0 rs (x ∷ path_by t ps) ≡ Some k
unfolding seek
byte-found K x t ih ps rs k l c p h =
    or-some _ _ k (ih ps (step x rs) k (sym (lookup-step x t rs) ∙ l) (clear-step x t rs c) (plain_rest x t p) h)

-- the same after a parameter
abbrev pub FindsAfter : Type 0 → List ℕ → Type 0
FindsAfter K t = (ps : List (List ℕ)) (rs : RowsOf K) (k : K) → lookup (param_token ∷ t) rs ≡ Some k
    → are_clear_of (param_token ∷ t) rs ≡ true → is_plain (param_token ∷ t) ≡ true → IsSegment (get_or ps 0 []) × AreSegments t (drop 1 ps)
    → seek 0 rs (get_or ps 0 [] ++ path_by t (drop 1 ps)) ≡ Some k

slash-found : (K : Type 0) (t : List ℕ) → Finds K (slash ∷ t) → FindsAfter K (slash ∷ t)
slash-found K t ih ps rs k l c p h =
    let below = step param_token rs in
    let next : lookup (slash ∷ t) below ≡ Some k = sym (lookup-step param_token (slash ∷ t) rs) ∙ l in
    seek-slash (get_or ps 0 []) (path_by t (drop 1 ps)) t k rs h.0 c next
    ∙ ih (drop 1 ps) (with_suffix (slash ∷ []) below) k
    (lookup-with_suffix t below (tails (param_token ∷ slash ∷ t) rs c) ∙ next)
    (clear-with_suffix (slash ∷ t) (slash ∷ []) below (clear-step param_token (slash ∷ t) rs c))
    (plain_rest param_token (slash ∷ t) p) h.1

param-found : (K : Type 0) (t : List ℕ) → Finds K t → FindsAfter K t
param-found K [] ih ps rs k l c p h =
    rw append-nil (seek-last [] (get_or ps 0 []) rs h.0 c ∙ (own-is_lookup (step param_token rs) ∙ (sym (lookup-step param_token [] rs) ∙ l)))
param-found K (y ∷ t) ih ps rs k l c p h =
    let s : y ≡ slash = grind (arith, nat_tests, plain_ends param_token (y ∷ t) refl p) in
    subst (λ (z : ℕ). Finds K (z ∷ t) → FindsAfter K (z ∷ t)) (sym s) (slash-found K t) ih ps rs k l c p h

one-found : (K : Type 0) (x : ℕ) (t : List ℕ) → Finds K t → Finds K (x ∷ t)
one-found K x t ih ps rs k l c p h = by (x == param_token) refl h
  where
    by : (v : Bool) → (x == param_token) ≡ v → AreWith v (AreSegments t) ps
        → seek 0 rs (path_with v x (path_by t) ps) ≡ Some k
    by true e q =
        let s : x ≡ param_token = grind (arith, nat_tests) in
        param-found K t ih ps rs k (rw s at l) (rw s at c) (rw s at p) q
    by false e q = byte-found K x t ih ps rs k l c p q

end-found : (K : Type 0) → Finds K []
unfolding seek
end-found K ps rs k l c p h = own-is_lookup rs ∙ l

-- a path that a row's pattern makes of segments is found at that row
pub found : (K : Type 0) (t : List ℕ) → Finds K t
found K [] = end-found K
found K (x ∷ t) = one-found K x t (found K t)
