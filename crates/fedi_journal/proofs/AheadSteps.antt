-- Bytes of a disk that were read ahead.
use Rattle.std.proofs.Common.{◌≡◌, ℕ, ◌+◌, ◌-◌, ◌≤◌, List, length, take, drop, ◌∙◌, ap, arith}
use Rattle.std.proofs.lemmas.List.{drop-drop, drop-take, take-take}

-- a part of them is that part of the disk's bytes
pub part_ahead : (all bytes held part : List ℕ) (start at count : ℕ) → bytes ≡ take (length bytes) (drop start all) → start ≤ at → at + count ≤ start + length bytes
    → held ≡ bytes → part ≡ take ((at - start) + count - (at - start)) (drop (at - start) held) → part ≡ take count (drop at all)
part_ahead all bytes held part start at count ahead low high same is =
    let from : ℕ = at - start in
    let rest : ℕ = length bytes - from in
    let split : length bytes ≡ from + rest = omega (arith, low, high) in
    let there : start + from ≡ at = omega (arith, low) in
    let size : from + count - from ≡ count = omega arith in
    let behind : drop from bytes ≡ take rest (drop at all) =
    ap (drop from) (ahead ∙ ap (λ (n : ℕ). take n (drop start all)) split) ∙ drop-take from rest (drop start all)
    ∙ ap (take rest) (drop-drop from start all ∙ ap (λ (n : ℕ). drop n all) there) in
    is ∙ ap (λ (n : ℕ). take n (drop from held)) size ∙ ap (λ (l : List ℕ). take count (drop from l)) same ∙ ap (take count) behind
    ∙ take-take count rest (drop at all) (omega (arith, low, high))
