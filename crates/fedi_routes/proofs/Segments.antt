-- The segments of a UTF-8 path are UTF-8.
use Rattle.std.proofs.Common.{◌≡◌, ℕ, ◌<◌, List, [], ◌∷◌, ◌++◌, append-nil, length, length-append, drop, get_or, Bool, true, false, refl, sym, subst, arith, ◌==◌, ltb}
use Rattle.std.proofs.lemmas.Bool.{and_parts}
use Rattle.std.proofs.lemmas.Bool.Decides.{nat_tests}
use Rattle.std.proofs.Math.Seq.{take-append_seam, drop-append_seam}
use Rattle.std.proofs.lemmas.Str.{IsUtf8-take, IsUtf8-drop, IsCharBoundary-after_ascii}
use Rattle.std.specs.Str.{IsUtf8, IsCharBoundary}
use Rattle.matchit.specs.Rows.{param_token}
use Rattle.matchit.specs.Seek.{slash}
use Rattle.fedi_routes.specs.Patterns.{IsSegment, path_by, path_with, AreWith, AreSegments, is_plain}
use Rattle.fedi_routes.proofs.Found.{plain_rest, plain_ends}
use Rattle.fedi_routes.proofs.Taken.{after}

-- the first is UTF-8, and the rest satisfy the predicate; or all do
abbrev pub TextsWith : Bool → (List (List ℕ) → Type 0) → List (List ℕ) → Type 0
TextsWith true rest ps = IsUtf8 (get_or ps 0 []) × rest (drop 1 ps)
TextsWith false rest ps = rest ps

-- the segments are UTF-8
abbrev pub Texts : List ℕ → List (List ℕ) → Type 0
Texts [] = λ ps. Unit {0}
Texts (x ∷ t) = TextsWith (x == param_token) (Texts t)

-- a string may be cut after an ASCII character, and at a slash
after_ascii : (x : ℕ) (rest : List ℕ) → x < 128 → IsUtf8 (x ∷ rest) → IsUtf8 rest
after_ascii x rest l h = IsUtf8-drop (x ∷ rest) 1 h (IsCharBoundary-after_ascii (x ∷ rest) 0 h (omega arith) l)

at_slash : (p q : List ℕ) → IsCharBoundary (p ++ slash ∷ q) (length p)
at_slash p q =
    let e = (after (p ++ slash ∷ q) (length p) slash q (drop-append_seam p (slash ∷ q))).0 in
    (simp length-append (omega arith), λ l h. absurd (omega (arith, e, h)))

before_slash : (p q : List ℕ) → IsUtf8 (p ++ slash ∷ q) → IsUtf8 p
before_slash p q h = rw (take-append_seam p (slash ∷ q)) at (IsUtf8-take (p ++ slash ∷ q) (length p) h (at_slash p q))

from_slash : (p q : List ℕ) → IsUtf8 (p ++ slash ∷ q) → IsUtf8 (slash ∷ q)
from_slash p q h = rw (drop-append_seam p (slash ∷ q)) at (IsUtf8-drop (p ++ slash ∷ q) (length p) h (at_slash p q))

-- the segments of such a path are UTF-8
abbrev AreTexts : List ℕ → Type 0
AreTexts t = (ps : List (List ℕ)) → is_plain t ≡ true → AreSegments t ps → IsUtf8 (path_by t ps) → Texts t ps

-- the same from a parameter on
abbrev AreTextsAfter : List ℕ → Type 0
AreTextsAfter t = (ps : List (List ℕ)) → is_plain (param_token ∷ t) ≡ true → IsSegment (get_or ps 0 []) × AreSegments t (drop 1 ps)
    → IsUtf8 (get_or ps 0 [] ++ path_by t (drop 1 ps)) → IsUtf8 (get_or ps 0 []) × Texts t (drop 1 ps)

slash-texts : (t : List ℕ) → AreTexts (slash ∷ t) → AreTextsAfter (slash ∷ t)
slash-texts t ih ps p h u =
    (before_slash (get_or ps 0 []) (path_by t (drop 1 ps)) u, ih (drop 1 ps) (plain_rest param_token (slash ∷ t) p) h.1 (from_slash (get_or ps 0 []) (path_by t (drop 1 ps)) u))

param-texts : (t : List ℕ) → AreTexts t → AreTextsAfter t
param-texts [] ih ps p h u = (rw append-nil at u, tt)
param-texts (y ∷ t) ih ps p h u =
    let s : y ≡ slash = grind (arith, nat_tests, plain_ends param_token (y ∷ t) refl p) in
    subst (λ (z : ℕ). AreTexts (z ∷ t) → AreTextsAfter (z ∷ t)) (sym s) (slash-texts t) ih ps p h u

one-texts : (x : ℕ) (t : List ℕ) → AreTexts t → AreTexts (x ∷ t)
one-texts x t ih ps p h u = by (x == param_token) refl h u
  where
    by : (v : Bool) → (x == param_token) ≡ v → AreWith v (AreSegments t) ps
        → IsUtf8 (path_with v x (path_by t) ps)
        → TextsWith v (Texts t) ps
    by true d q u2 =
        let s : x ≡ param_token = grind (arith, nat_tests) in
        param-texts t ih ps (rw s at p) q u2
    by false d q u2 =
        let both = and_parts (ltb x 128) (is_plain t) (rw d at p) in
        let low : x < 128 = grind (arith, nat_tests, both.0) in
        ih ps (plain_rest x t p) q (after_ascii x (path_by t ps) low u2)

-- if a pattern makes a UTF-8 path of segments, they are UTF-8
pub texts : (t : List ℕ) → AreTexts t
texts [] ps p h u = tt
texts (x ∷ t) ps p h u = one-texts x t (texts t) ps p h u
