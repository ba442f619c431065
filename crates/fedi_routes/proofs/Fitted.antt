-- A row that is found has a pattern that makes the path, of some segments.
use Rattle.std.proofs.Common.{◌≡◌, ℕ, zero, suc, ◌-◌, ◌<◌, List, [], ◌∷◌, ◌++◌, append-nil, length, length-append, drop, get_or, Option, Some, None, Bool, true, false, cond, refl, sym, ap, ◌∙◌, arith, ◌==◌, ◌⊎◌, inl, inr}
use Rattle.std.proofs.lemmas.Bool.{and_from}
use Rattle.std.proofs.lemmas.Bool.Decides.{nat_tests}
use Rattle.std.proofs.Math.Seq.{drop-append_seam, drop-nil}
use Rattle.std.specs.List.{list_all}
use Rattle.std.specs.Cmp.Lexicographic.{bytes_decides}
use Rattle.matchit.specs.Rows.{RowsOf, param_token, catch_all_token}
use Rattle.matchit.specs.Seek.{segment, slash, has_slash, same_text, cuts, own, step, or_else, longest_from, with_suffix, param_step, seek}
use Rattle.matchit.specs.Order.{lookup}
use Rattle.matchit.proofs.ParamLemmas.{drop-length, one_less}
use Rattle.fedi_routes.specs.Patterns.{is_segment_byte, IsSegment, path_by, AreSegments, is_plain, are_clear_of}
use Rattle.fedi_routes.proofs.Found.{segment-before_slash, own-is_lookup, lookup-step, seek-empty, seek-drop, clear_parts, clear_from, plain_rest, clear-with_suffix, step-catch_all, Tails, tails, segment-slash, better-suffix, longest_from-kept, param_step-last, or_else-none}

-- ---- the first segment of a path

-- each item is a byte
abbrev pub AreBytes : List ℕ → Type 0
AreBytes path = (k : ℕ) → get_or path k 0 < 256

-- a first segment, a slash, and the rest
abbrev pub Split : List ℕ → Type 0
Split path = (p : List ℕ) × (q : List ℕ) × (path ≡ p ++ slash ∷ q) × (list_all is_segment_byte p ≡ true)

-- a path is cut at its first slash, or has none
pub split : (path : List ℕ) → AreBytes path → Split path ⊎ (list_all is_segment_byte path ≡ true)
split [] h = inr refl
split (b ∷ path) h = by (b == slash) refl (h 0) (split path (λ k. h (suc k)))
  where
    by : (v : Bool) → (b == slash) ≡ v → b < 256 → Split path ⊎ (list_all is_segment_byte path ≡ true)
        → Split (b ∷ path) ⊎ (list_all is_segment_byte (b ∷ path) ≡ true)
    by true e l r =
        let s : b ≡ slash = grind (arith, nat_tests) in
        inl ([], path, ap (λ (z : ℕ). z ∷ path) s, refl)
    by false e l (inl r) =
        let one : is_segment_byte b ≡ true = grind (arith, nat_tests) in
        inl (b ∷ r.0, r.1, ap (λ z. b ∷ z) r.2, and_from (is_segment_byte b) (list_all is_segment_byte r.0) one r.3)
    by false e l (inr r) =
        let one : is_segment_byte b ≡ true = grind (arith, nat_tests) in
        inr (and_from (is_segment_byte b) (list_all is_segment_byte path) one r)

has_slash-append : (p q : List ℕ) → has_slash (p ++ slash ∷ q) ≡ true
has_slash-append [] q = refl
has_slash-append (b ∷ p) q = by (b == slash) (has_slash-append p q)
  where
    by : (v : Bool) → has_slash (p ++ slash ∷ q) ≡ true → cond v true (has_slash (p ++ slash ∷ q)) ≡ true
    by true ih = refl
    by false ih = ih

-- if a slash is left, there is something before it
cut-some : (p : List ℕ) → cuts (p ++ slash ∷ []) (slash ∷ []) ≡ true → 0 < length p
cut-some [] e = cc
cut-some (b ∷ p) e = omega arith

module _ {K : Type 0} where
  -- ---- rows

  -- plain rows are plain after their first token
  pub plain_step : (x : ℕ) (rs : RowsOf K) → are_clear_of [] rs ≡ true → are_clear_of [] (step x rs) ≡ true
  plain_step x [] h = refl
  plain_step x (([], k) ∷ rs) h = plain_step x rs (clear_parts [] [] rs h).2
  plain_step x ((y ∷ r, k) ∷ rs) h = by (y == x) (clear_parts [] (y ∷ r) rs h) (plain_step x rs)
    where
      by : (v : Bool) → (true ≡ true) × (is_plain (y ∷ r) ≡ true) × (are_clear_of [] rs ≡ true)
          → (are_clear_of [] rs ≡ true → are_clear_of [] (step x rs) ≡ true)
          → are_clear_of [] (cond v ((r, k) ∷ step x rs) (step x rs)) ≡ true
      by true q ih = clear_from [] r (step x rs) refl (plain_rest y r q.1) (ih q.2)
      by false q ih = ih q.2

  -- a row that continues with these bytes begins with them
  suffix-has : (s t : List ℕ) (rs : RowsOf K) (r : K) → lookup t (with_suffix s rs) ≡ Some r → same_text (segment t) s ≡ true
  suffix-has s t [] r h = cc
  suffix-has s t ((u, k) ∷ rs) r h = by (same_text (segment u) s) refl h (suffix-has s t rs r)
    where
      by : (v : Bool) → same_text (segment u) s ≡ v → lookup t (cond v ((u, k) ∷ with_suffix s rs) (with_suffix s rs)) ≡ Some r
          → (lookup t (with_suffix s rs) ≡ Some r → same_text (segment t) s ≡ true) → same_text (segment t) s ≡ true
      by false e g ih = ih g
      by true e g ih = at (same_text u t) refl g ih
        where
          at : (w : Bool) → same_text u t ≡ w → cond w (Some k) (lookup t (with_suffix s rs)) ≡ Some r
              → (lookup t (with_suffix s rs) ≡ Some r → same_text (segment t) s ≡ true) → same_text (segment t) s ≡ true
          at true d g2 ih2 = rw (← (bytes_decides u t).0 d) e
          at false d g2 ih2 = ih2 g2

  -- a row that is found among those is one of all the rows
  pub suffix-lookup : (s t : List ℕ) (rs : RowsOf K) (r : K) → lookup t (with_suffix s rs) ≡ Some r → lookup t rs ≡ Some r
  suffix-lookup s t [] r h = h
  suffix-lookup s t ((u, k) ∷ rs) r h = by (same_text (segment u) s) refl h (suffix-lookup s t rs r) (suffix-has s t rs r)
    where
      by : (v : Bool) → same_text (segment u) s ≡ v → lookup t (cond v ((u, k) ∷ with_suffix s rs) (with_suffix s rs)) ≡ Some r
          → (lookup t (with_suffix s rs) ≡ Some r → lookup t rs ≡ Some r)
          → (lookup t (with_suffix s rs) ≡ Some r → same_text (segment t) s ≡ true)
          → cond (same_text u t) (Some k) (lookup t rs) ≡ Some r
      by true e g ih has = at (same_text u t) g ih
        where
          at : (w : Bool) → cond w (Some k) (lookup t (with_suffix s rs)) ≡ Some r
              → (lookup t (with_suffix s rs) ≡ Some r → lookup t rs ≡ Some r) → cond w (Some k) (lookup t rs) ≡ Some r
          at true g2 ih2 = g2
          at false g2 ih2 = ih2 g2
      by false e g ih has = at (same_text u t) refl
        where
          at : (w : Bool) → same_text u t ≡ w → cond w (Some k) (lookup t rs) ≡ Some r
          at true d =
              let same : u ≡ t = (bytes_decides u t).0 d in
              let f = rw same at e in
              cc (has g)
          at false d = ih g

  -- ---- what a parameter takes

  -- it leaves nothing or a slash
  pub longest_from-cases : (seg : List ℕ) (rs : RowsOf K) → Tails rs
      → (longest_from seg [] rs ≡ []) ⊎ ((longest_from seg [] rs ≡ slash ∷ []) × (cuts seg (slash ∷ []) ≡ true))
  longest_from-cases seg [] h = inl refl
  longest_from-cases seg (([], k) ∷ rs) h = longest_from-cases seg rs h.1
  longest_from-cases seg ((y ∷ t, k) ∷ rs) h = by (cuts seg (slash ∷ [])) refl (longest_from-cases seg rs h.1)
    where
      by : (v : Bool) → cuts seg (slash ∷ []) ≡ v
          → (longest_from seg [] rs ≡ []) ⊎ ((longest_from seg [] rs ≡ slash ∷ []) × (cuts seg (slash ∷ []) ≡ true))
          → (longest_from seg [] ((y ∷ t, k) ∷ rs) ≡ []) ⊎ ((longest_from seg [] ((y ∷ t, k) ∷ rs) ≡ slash ∷ []) × (cuts seg (slash ∷ []) ≡ true))
      by true e ih = inr (rw (segment-slash y t h.0, better-suffix seg true e) (longest_from-kept seg rs h.1), e)
      by false e ih = rw (segment-slash y t h.0, better-suffix seg false e) ih

  -- before a slash it takes nothing, or the segment
  pub param_step-cases : (p q : List ℕ) (rs : RowsOf K) → list_all is_segment_byte p ≡ true → Tails rs
      → (param_step rs (p ++ slash ∷ q) ≡ (0, [])) ⊎ ((param_step rs (p ++ slash ∷ q) ≡ (length p, with_suffix (slash ∷ []) rs)) × (0 < length p))
  unfolding param_step
  param_step-cases p q rs h w = by (longest_from-cases (p ++ slash ∷ []) rs w)
    where
      by : (longest_from (p ++ slash ∷ []) [] rs ≡ []) ⊎ ((longest_from (p ++ slash ∷ []) [] rs ≡ slash ∷ []) × (cuts (p ++ slash ∷ []) (slash ∷ []) ≡ true))
          → (param_step rs (p ++ slash ∷ q) ≡ (0, [])) ⊎ ((param_step rs (p ++ slash ∷ q) ≡ (length p, with_suffix (slash ∷ []) rs)) × (0 < length p))
      by (inl e) = inl (rw (segment-before_slash p q h, e, has_slash-append p q) refl)
      by (inr e) =
          let n : length (p ++ slash ∷ []) - 1 ≡ length p = simp length-append (omega arith) in
          inr (rw (segment-before_slash p q h, e.0, n) refl, cut-some p e.1)

-- ---- the row that is found

-- one of the rows has a pattern that makes the path of some segments
abbrev pub Fits : (K : Type 0) → RowsOf K → K → List ℕ → Type 0
Fits K rs r path = (t : List ℕ) × (ps : List (List ℕ)) × (lookup t rs ≡ Some r) × AreSegments t ps × (path ≡ path_by t ps)

-- a row that is found is such a row
abbrev pub Sound : Type 0 → List ℕ → Type 0
Sound K path = (skip : ℕ) (rs : RowsOf K) (r : K) → AreBytes path → are_clear_of [] rs ≡ true → seek skip rs path ≡ Some r → Fits K rs r (drop skip path)

-- a byte before the path, a last segment, and a segment before a slash
fits-byte : (K : Type 0) (b : ℕ) (path : List ℕ) (rs : RowsOf K) (r : K) → b < 256 → Fits K (step b rs) r path → Fits K rs r (b ∷ path)
fits-byte K b path rs r low f =
    let n : (b == param_token) ≡ false = grind (arith, nat_tests) in
    (b ∷ f.0, f.1, lookup-step b f.0 rs ∙ f.2, rw n f.3, rw n (ap (λ z. b ∷ z) f.4))

fits-end : (K : Type 0) (p : List ℕ) (rs : RowsOf K) (r : K) → IsSegment p → own (step param_token rs) ≡ Some r → Fits K rs r p
fits-end K p rs r h e =
    (param_token ∷ [], p ∷ [], lookup-step param_token [] rs ∙ (sym (own-is_lookup (step param_token rs)) ∙ e), (h, tt), sym (append-nil p))

fits-mid : (K : Type 0) (p q : List ℕ) (rs : RowsOf K) (r : K) → IsSegment p → Fits K (with_suffix (slash ∷ []) (step param_token rs)) r (slash ∷ q)
    → Fits K rs r (p ++ slash ∷ q)
fits-mid K p q rs r h f =
    (param_token ∷ f.0, p ∷ f.1, lookup-step param_token f.0 rs ∙ suffix-lookup (slash ∷ []) f.0 (step param_token rs) r f.2, (h, f.3), ap (λ z. p ++ z) f.4)

or-cases : {K : Type 0} (a b : Option K) (r : K) → or_else a b ≡ Some r → (a ≡ Some r) ⊎ (b ≡ Some r)
or-cases None b r e = inr e
or-cases (Some k) b r e = inl e

-- what is skipped after the first byte
rest-drop : (n b : ℕ) (path : List ℕ) → 0 < n → drop (n - 1) path ≡ drop n (b ∷ path)
rest-drop zero b path h = elim h [ ]
rest-drop (suc n) b path h = rw (one_less n) refl

-- a row that is found by a parameter, before a slash
slash-fits : (K : Type 0) (b : ℕ) (path : List ℕ) (rs : RowsOf K) (r : K) (p q : List ℕ) → Sound K path → AreBytes (b ∷ path) → are_clear_of [] rs ≡ true
    → seek ((param_step (step param_token rs) (b ∷ path)).0 - 1) (param_step (step param_token rs) (b ∷ path)).1 path ≡ Some r
    → b ∷ path ≡ p ++ slash ∷ q → list_all is_segment_byte p ≡ true → Fits K rs r (b ∷ path)
slash-fits K b path rs r p q ih h c e whole bytes = by (param_step-cases p q below bytes (tails [] rs c))
  where
    below : RowsOf K
    below = step param_token rs

    by : (param_step below (p ++ slash ∷ q) ≡ (0, [])) ⊎ ((param_step below (p ++ slash ∷ q) ≡ (length p, with_suffix (slash ∷ []) below)) × (0 < length p))
        → Fits K rs r (b ∷ path)
    by (inl z) =
        let g = rw (ap (param_step below) whole ∙ z) at e in
        cc (seek-empty {K = K} 0 path)
    by (inr z) =
        let next = with_suffix (slash ∷ []) below in
        let g = rw (ap (param_step below) whole ∙ z.0) at e in
        let there = rest-drop (length p) b path z.1 ∙ (ap (drop (length p)) whole ∙ drop-append_seam p (slash ∷ q)) in
        let f = ih (length p - 1) next r (λ k. h (suc k)) (clear-with_suffix [] (slash ∷ []) below (plain_step param_token rs c)) g in
        rw whole (fits-mid K p q rs r (record { some = z.1; bytes = bytes }) (rw there at f))

-- a row that is found by a parameter
param-fits : (K : Type 0) (b : ℕ) (path : List ℕ) (rs : RowsOf K) (r : K) → Sound K path → AreBytes (b ∷ path) → are_clear_of [] rs ≡ true
    → seek ((param_step (step param_token rs) (b ∷ path)).0 - 1) (param_step (step param_token rs) (b ∷ path)).1 path ≡ Some r
    → Fits K rs r (b ∷ path)
unfolding seek
param-fits K b path rs r ih h c e = by (split (b ∷ path) h)
  where
    by : Split (b ∷ path) ⊎ (list_all is_segment_byte (b ∷ path) ≡ true) → Fits K rs r (b ∷ path)
    by (inr all) =
        let step_is = param_step-last (b ∷ path) (step param_token rs) all (tails [] rs c) in
        let g = rw (step_is, one_less (length path), seek-drop (length path) (step param_token rs) path, drop-length path) at e in
        fits-end K (b ∷ path) rs r (record { some = omega arith; bytes = all }) g
    by (inl s) = slash-fits K b path rs r s.0 s.1 ih h c e s.2 s.3

-- a row that is found at a path that is not empty
sound-one : (K : Type 0) (b : ℕ) (path : List ℕ) (rs : RowsOf K) (r : K) → Sound K path → AreBytes (b ∷ path) → are_clear_of [] rs ≡ true
    → seek 0 rs (b ∷ path) ≡ Some r → Fits K rs r (b ∷ path)
unfolding seek
sound-one K b path rs r ih h c e = by (or-cases _ _ r e)
  where
    by : (seek 0 (step b rs) path ≡ Some r) ⊎ (or_else (seek ((param_step (step param_token rs) (b ∷ path)).0 - 1) (param_step (step param_token rs) (b ∷ path)).1 path) (own (step catch_all_token rs)) ≡ Some r) → Fits K rs r (b ∷ path)
    by (inl f) = fits-byte K b path rs r (h 0) (ih 0 (step b rs) r (λ k. h (suc k)) (plain_step b rs c) f)
    by (inr f) =
        let g = rw (step-catch_all [] rs c, or_else-none) at f in
        param-fits K b path rs r ih h c g

-- the path is made by the pattern of the row that is found
pub sound : (K : Type 0) (path : List ℕ) → Sound K path
unfolding seek
sound K [] skip rs r h c e = ([], [], sym (own-is_lookup rs) ∙ e, tt, drop-nil skip)
sound K (b ∷ path) zero rs r h c e = sound-one K b path rs r (sound K path) h c e
sound K (b ∷ path) (suc skip) rs r h c e = sound K path skip rs r (λ k. h (suc k)) c e
