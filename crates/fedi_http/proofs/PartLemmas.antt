-- Lemmas on a part of a list: the `count` items from `start` on.
use Rattle.std.proofs.Common.{◌≡◌, ℕ, ◌+◌, ◌-◌, ◌≤◌, List, ◌++◌, length, take, drop, Option, sym, ap, ◌∙◌, arith, length-take-le, length-drop}
use Rattle.std.proofs.Math.Seq.{take-append-add}
use Rattle.std.proofs.lemmas.List.{drop-append-le, drop-drop, drop-take, take-append-le, take-take}
use Rattle.std.specs.Io.KnownBytes.{Consumes}
use Rattle.fedi_http.specs.Moves.{ReadsBehind}

-- the items after the first k of a part are a part
pub part-drop : (xs : List ℕ) (start count k : ℕ) → k ≤ count → take (count - k) (drop (start + k) xs) ≡ drop k (take count (drop start xs))
part-drop xs start count k h =
    let split : k + (count - k) ≡ count = omega arith in
    ap (take (count - k)) (sym (drop-drop k start xs))
    ∙ sym (drop-take k (count - k) (drop start xs))
    ∙ ap (λ m. drop k (take m (drop start xs))) split

part-length : (xs : List ℕ) (start count : ℕ) → start + count ≤ length xs → length (take count (drop start xs)) ≡ count
part-length xs start count h = length-take-le count (drop start xs) (omega (arith, length-drop start xs))

-- what follows a part that was kept
part-front : (xs into : List ℕ) (start count : ℕ) → start + count ≤ length xs
    → drop start (take (start + count) xs ++ into) ≡ take count (drop start xs) ++ into
part-front xs into start count h =
    drop-append-le start (take (start + count) xs) into (omega (arith, length-take-le (start + count) xs h))
    ∙ ap (λ (l : List ℕ). l ++ into) (drop-take start count xs)

pub part-kept : (xs into : List ℕ) (start count : ℕ) → start + count ≤ length xs
    → take count (drop start (take (start + count) xs ++ into)) ≡ take count (drop start xs)
part-kept xs into start count h =
    ap (take count) (part-front xs into start count h)
    ∙ take-append-le count (take count (drop start xs)) into (omega (arith, part-length xs start count h))
    ∙ take-take count count (drop start xs) (omega arith)

front-read : (front into rest : List ℕ) (end n : ℕ) → length front ≡ end → n ≤ length into → take (end + n) (front ++ (into ++ rest)) ≡ front ++ take n into
front-read front into rest end n long within =
    ap (λ k. take (k + n) (front ++ (into ++ rest))) (sym long) ∙ take-append-add front (into ++ rest) n ∙ ap (λ l. front ++ l) (take-append-le n into rest within)

part-read : (xs into rest : List ℕ) (start count n : ℕ) → start + count ≤ length xs → n ≤ length into
    → take (count + n) (drop start (take (start + count) xs ++ (into ++ rest))) ≡ take count (drop start xs) ++ take n into
part-read xs into rest start count n h within =
    ap (take (count + n)) (part-front xs (into ++ rest) start count h)
    ∙ front-read (take count (drop start xs)) into rest count n (part-length xs start count h) within

-- what was read after a part
pub reads_behind : (a b : Option (List ℕ)) (xs into rest : List ℕ) (start count n : ℕ) → start + count ≤ length xs → n ≤ length into → Consumes a b (take n into)
    → ReadsBehind a b (take count (drop start xs)) (take (count + n) (drop start (take (start + count) xs ++ (into ++ rest))))
reads_behind a b xs into rest start count n inside bound read = (take n into, read, part-read xs into rest start count n inside bound)

-- a part is the same as before it was moved and before the bytes after it were written
pub part_same : (part : List ℕ → List ℕ) (items now old moved was : List ℕ) → items ≡ now → part now ≡ part old → old ≡ moved → part moved ≡ was → part items ≡ was
part_same part items now old moved was written kept lent same = ap part written ∙ kept ∙ ap part lent ∙ same

-- and what was read follows it
pub part_read : (whole part : List ℕ → List ℕ) (items now old more was : List ℕ) → items ≡ now → whole now ≡ part old ++ more → part old ≡ was → whole items ≡ was ++ more
part_read whole part items now old more was written read same = ap whole written ∙ read ∙ ap (λ (l : List ℕ). l ++ more) same
