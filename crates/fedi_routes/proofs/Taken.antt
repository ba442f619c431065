-- Each parameter of a pattern takes its segment of the path that the pattern makes.
use Rattle.std.proofs.Common.{◌≡◌, ℕ, zero, suc, ◌+◌, ◌-◌, ◌<◌, ◌≤◌, List, [], ◌∷◌, ◌++◌, append-nil, length, length-append, length-drop, drop, drop-cons, get_or, Bool, true, false, cond, refl, sym, subst, ap, ◌∙◌, arith, ◌==◌, ltb, leb, add-one, min}
use Rattle.std.proofs.lemmas.Bool.{and_parts}
use Rattle.std.proofs.lemmas.Bool.Decides.{nat_tests}
use Rattle.std.proofs.Math.Seq.{take-append_seam, drop-append_seam, drop-nil}
use Rattle.std.proofs.Math.Nat.{min-eq_left}
use Rattle.matchit.specs.Rows.{param_token}
use Rattle.matchit.specs.Seek.{slash}
use Rattle.matchit.specs.Params.{wild_stop, part_of, walk}
use Rattle.fedi_routes.specs.Patterns.{IsSegment, path_by, path_with, AreWith, AreSegments, is_plain}
use Rattle.fedi_routes.proofs.Found.{segment-before_slash, plain_rest, plain_ends}

-- ---- indices of lists

-- an index with something from it on is within the list
pub inside : (xs : List ℕ) (i y : ℕ) (ys : List ℕ) → drop i xs ≡ y ∷ ys → i < length xs
inside xs i y ys e = omega (arith, length-drop i xs, ap length e)

-- what is at an index, and what follows it
pub after : (xs : List ℕ) (i y : ℕ) (ys : List ℕ) → drop i xs ≡ y ∷ ys → (get_or xs i 0 ≡ y) × (drop (i + 1) xs ≡ ys)
after xs i y ys e =
    let l = inside xs i y ys e in
    let s = drop-cons xs i 0 l in
    rw add-one (cc, cc)

-- what follows some bytes later
pub further : (xs : List ℕ) (i : ℕ) (a b : List ℕ) → drop i xs ≡ a ++ b → drop (i + length a) xs ≡ b
further xs zero a b e =
    let z : 0 + length a ≡ length a = omega arith in
    rw (z, e) (drop-append_seam a b)
further [] (suc i) [] b e = drop-nil (suc i + 0) ∙ e
further [] (suc i) (x ∷ a) b e = cc
further (x ∷ xs) (suc i) a b e =
    let z : suc i + length a ≡ suc (i + length a) = omega arith in
    rw z (further xs i a b e)

-- the length of a list, by what follows an index in it
pub size : (xs : List ℕ) (i : ℕ) (ys : List ℕ) → drop i xs ≡ ys → i ≤ length xs → length xs ≡ i + length ys
size xs i ys e h = omega (arith, length-drop i xs, ap length e)

-- ---- the steps of the walk

-- names with what they name
abbrev pub Pairs : Type 0
Pairs = List (List ℕ × List ℕ)

-- the names of a route, which are at these positions of its text, with the segments
abbrev pub pairs : List ℕ → List (ℕ × ℕ) → List (List ℕ) → Pairs
pairs text [] ps = []
pairs text (n ∷ rest) ps = (part_of text n.0 n.1, get_or ps 0 []) ∷ pairs text rest (drop 1 ps)

-- how many parameters there are
abbrev pub wilds : List ℕ → ℕ
wilds [] = 0
wilds (x ∷ t) = cond (x == param_token) suc (λ n. n) (wilds t)

-- a byte is passed in pattern and path
walk-byte : (pattern text path : List ℕ) (names : List (ℕ × ℕ)) (token at x y : ℕ) (t p : List ℕ) → x < 256
    → drop token pattern ≡ x ∷ t → drop at path ≡ y ∷ p
    → walk pattern text path names token at ≡ walk pattern text path names (token + 1) (at + 1)
walk-byte pattern text path [] token at x y t p h e f = refl
walk-byte pattern text path (n ∷ rest) token at x y t p h e f =
    let l = inside path at y p f in
    let a = (after pattern token x t e).1 in
    let low : ltb x param_token ≡ true = grind (arith, nat_tests) in
    let in_path : ltb at (length path) ≡ true = grind (arith, nat_tests) in
    rw (e, a, low, in_path) refl

-- where a parameter's segment ends: at the end of the path, or before a slash
stop-end : (pattern path : List ℕ) (token at : ℕ) → drop token pattern ≡ param_token ∷ [] → wild_stop pattern token path at ≡ length path
stop-end pattern path token at e =
    let len : length pattern ≡ token + 1 = omega (arith, length-drop token pattern, ap length e) in
    let last : ltb (token + 1) (length pattern) ≡ false = grind (arith, nat_tests) in
    let one : ltb token (length pattern) ≡ true = grind (arith, nat_tests) in
    rw (one, (after pattern token param_token [] e).0, last) refl

stop-mid : (pattern path p q t : List ℕ) (token at : ℕ) → drop token pattern ≡ param_token ∷ slash ∷ t → IsSegment p → drop at path ≡ p ++ slash ∷ q
    → wild_stop pattern token path at ≡ at + length p
stop-mid pattern path p q t token at e h f =
    let l = inside pattern token param_token (slash ∷ t) e in
    let a = after pattern token param_token (slash ∷ t) e in
    let l2 = inside pattern (token + 1) slash t a.1 in
    let one : ltb token (length pattern) ≡ true = grind (arith, nat_tests) in
    let two : ltb (token + 1) (length pattern) ≡ true = grind (arith, nat_tests) in
    let n : at + length (p ++ slash ∷ []) - 1 ≡ at + length p = simp length-append (omega arith) in
    rw (one, a.0, two, f, segment-before_slash p q h.bytes, a.1) n

-- the bytes between two indices
part-here : (path p q : List ℕ) (at stop : ℕ) → drop at path ≡ p ++ q → at ≤ length path → stop ≡ at + length p → part_of path at stop ≡ p
part-here path p q at stop e h s =
    let len : length path ≡ at + (length p + length q) = size path at (p ++ q) e h ∙ ap (λ (n : ℕ). at + n) (length-append p q) in
    let a : leb at stop ≡ true = grind (arith, nat_tests) in
    let b : leb stop (length path) ≡ true = grind (arith, nat_tests) in
    let n : stop - at ≡ length p = omega arith in
    rw (a, b, n, e) (take-append_seam p q)

-- a parameter takes the last segment, or one before a slash
walk-end : (pattern text path p : List ℕ) (n : ℕ × ℕ) (token at : ℕ) → drop token pattern ≡ param_token ∷ [] → drop at path ≡ p → at ≤ length path
    → walk pattern text path (n ∷ []) token at ≡ (part_of text n.0 n.1, p) ∷ []
walk-end pattern text path p n token at e f h =
    let here = part-here path p [] at (length path) (f ∙ sym (append-nil p)) h (size path at p f h) in
    rw (e, stop-end pattern path token at e, here) refl

walk-mid : (pattern text path p q t : List ℕ) (n : ℕ × ℕ) (rest : List (ℕ × ℕ)) (token at : ℕ) → length pattern ≤ 18446744073709551615
    → drop token pattern ≡ param_token ∷ slash ∷ t → IsSegment p → drop at path ≡ p ++ slash ∷ q → at ≤ length path
    → walk pattern text path (n ∷ rest) token at ≡ (part_of text n.0 n.1, p) ∷ walk pattern text path rest (token + 1) (at + length p)
walk-mid pattern text path p q t n rest token at small e part f h =
    let stop = stop-mid pattern path p q t token at e part f in
    let here = part-here path p (slash ∷ q) at (at + length p) f h refl in
    let l = inside pattern token param_token (slash ∷ t) e in
    let next : min (token + 1) 18446744073709551615 ≡ token + 1 = min-eq_left (omega arith) in
    rw (e, stop, here, next) refl

-- ---- all of a pattern

-- the walk gives each name its segment
abbrev pub IsTaken : List ℕ → Type 0
IsTaken t = (ps : List (List ℕ)) (pattern text path : List ℕ) (names : List (ℕ × ℕ)) (token at : ℕ) → length pattern ≤ 18446744073709551615
    → drop token pattern ≡ t → drop at path ≡ path_by t ps → at ≤ length path → is_plain t ≡ true → AreSegments t ps → wilds t ≡ length names
    → walk pattern text path names token at ≡ pairs text names ps

no-names : (text : List ℕ) (names : List (ℕ × ℕ)) → 0 ≡ length names → names ≡ []
no-names text [] e = refl
no-names text (n ∷ rest) e = cc

byte-taken : (x : ℕ) (t : List ℕ) → x < 256 → IsTaken t → (ps : List (List ℕ)) (pattern text path : List ℕ) (names : List (ℕ × ℕ)) (token at : ℕ)
    → length pattern ≤ 18446744073709551615 → drop token pattern ≡ x ∷ t → drop at path ≡ x ∷ path_by t ps → is_plain t ≡ true → AreSegments t ps
    → wilds t ≡ length names → walk pattern text path names token at ≡ pairs text names ps
byte-taken x t low ih ps pattern text path names token at small e f p h w =
    let l = inside path at x (path_by t ps) f in
    walk-byte pattern text path names token at x x t (path_by t ps) low e f
    ∙ ih ps pattern text path names (token + 1) (at + 1) small (after pattern token x t e).1 (after path at x (path_by t ps) f).1 (omega arith) p h w

-- the same from a parameter on
abbrev pub IsTakenAfter : List ℕ → Type 0
IsTakenAfter t = (ps : List (List ℕ)) (pattern text path : List ℕ) (names : List (ℕ × ℕ)) (token at : ℕ) → length pattern ≤ 18446744073709551615
    → drop token pattern ≡ param_token ∷ t → drop at path ≡ get_or ps 0 [] ++ path_by t (drop 1 ps) → at ≤ length path → is_plain (param_token ∷ t) ≡ true
    → IsSegment (get_or ps 0 []) × AreSegments t (drop 1 ps) → suc (wilds t) ≡ length names
    → walk pattern text path names token at ≡ pairs text names ps

slash-taken : (t : List ℕ) → IsTaken (slash ∷ t) → IsTakenAfter (slash ∷ t)
slash-taken t ih ps pattern text path [] token at small e f l p h w = cc
slash-taken t ih ps pattern text path (n ∷ rest) token at small e f l p h w =
    let part = get_or ps 0 [] in
    let q = path_by t (drop 1 ps) in
    let rest_of = further path at part (slash ∷ q) f in
    let within = inside path (at + length part) slash q rest_of in
    walk-mid pattern text path part q t n rest token at small e h.0 f l
    ∙ ap (λ (z : Pairs). (part_of text n.0 n.1, part) ∷ z)
    (ih (drop 1 ps) pattern text path rest (token + 1) (at + length part) small (after pattern token param_token (slash ∷ t) e).1 rest_of (omega arith)
    (plain_rest param_token (slash ∷ t) p) h.1 (cc))

param-taken : (t : List ℕ) → IsTaken t → IsTakenAfter t
param-taken [] ih ps pattern text path [] token at small e f l p h w = cc
param-taken [] ih ps pattern text path (n ∷ []) token at small e f l p h w =
    walk-end pattern text path (get_or ps 0 []) n token at e (f ∙ append-nil (get_or ps 0 [])) l
param-taken [] ih ps pattern text path (n ∷ m ∷ rest) token at small e f l p h w = cc
param-taken (y ∷ t) ih ps pattern text path names token at small e f l p h w =
    let s : y ≡ slash = grind (arith, nat_tests, plain_ends param_token (y ∷ t) refl p) in
    subst (λ (z : ℕ). IsTaken (z ∷ t) → IsTakenAfter (z ∷ t)) (sym s) (slash-taken t) ih ps pattern text path names token at small e f l p h w

one-taken : (x : ℕ) (t : List ℕ) → IsTaken t → IsTaken (x ∷ t)
one-taken x t ih ps pattern text path names token at small e f l p h w = by (x == param_token) refl f h w
  where
    by : (v : Bool) → (x == param_token) ≡ v → drop at path ≡ path_with v x (path_by t) ps
        → AreWith v (AreSegments t) ps → cond v suc (λ n. n) (wilds t) ≡ length names
        → walk pattern text path names token at ≡ pairs text names ps
    by true d f2 q w2 =
        let s : x ≡ param_token = grind (arith, nat_tests) in
        param-taken t ih ps pattern text path names token at small (rw s at e) f2 l (rw s at p) q w2
    by false d f2 q w2 =
        let both = and_parts (ltb x 128) (is_plain t) (rw d at p) in
        let low : x < 256 = grind (arith, nat_tests, both.0) in
        byte-taken x t low ih ps pattern text path names token at small e f2 (plain_rest x t p) q w2

end-taken : IsTaken []
end-taken ps pattern text path names token at small e f l p h w = rw (no-names text names w) refl

-- each name of a route has its segment of a path that the route's pattern makes
pub taken : (t : List ℕ) → IsTaken t
taken [] = end-taken
taken (x ∷ t) = one-taken x t (taken t)
