-- A loop that puts bytes under a pad.
use Rattle.std.proofs.Common.{◌≡◌, ◌∙◌, ap, ℕ, ◌+◌, ◌<◌, arith, List, ◌++◌, map, take, drop, set, get_or, length}
use Rattle.std.proofs.lemmas.List.{get_or_default, length-append, length-map, length-drop, length-take}
use Rattle.std.proofs.lemmas.List.Edits.{map_over_more}
use Rattle.fedi_mac.specs.Hmac.{padded}

same-length : (f : ℕ → ℕ) (xs : List ℕ) (i : ℕ) → i < length xs → length (map f (take i xs) ++ drop i xs) ≡ length xs
same-length f xs i lt =
    length-append (map f (take i xs)) (drop i xs)
    ∙ omega (arith, lt, length-map (take i xs) f, length-take i xs, length-drop i xs)

pub padded_more : (pad : ℕ) (xs ys : List ℕ) (i x : ℕ) → i < length xs → ys ≡ map (padded pad) (take i xs) ++ drop i xs → x ≡ padded pad (get_or ys i 0)
    → set ys i x ≡ map (padded pad) (take (i + 1) xs) ++ drop (i + 1) xs
padded_more pad xs ys i x lt h is =
    let long : length ys ≡ length xs = ap length h ∙ same-length (padded pad) xs i lt in
    ap (λ (y : ℕ). set ys i y) is
    ∙ map_over_more (padded pad) xs ys i (get_or ys i 0) lt h (get_or_default ys i 0 (get_or ys i 0) (omega (arith, lt, long)))
