-- The file of one record, computed.
use Rattle.std.proofs.Common.{◌≡◌, ℕ, ◌+◌, ◌<◌, List, [], ◌∷◌, ◌++◌, length, get_or, take, drop, set, refl, ap, subst, arith}
use Rattle.sha2.specs.Sha256.{sha256, first_words, schedule, rounds, compress, hash_after, digest_bytes}
use Rattle.fedi_outside.specs.Images.{IsClosedAfter, front, record_code, size_at, size_code}
use Rattle.fedi_outside.specs.Opening.{IsWhole}
use Rattle.fedi_journal.specs.Chains.{chain, chained, link_text}
use Rattle.fedi_journal.specs.ChainRows.{FirstFile, first_file, hosted}

spelled : IsClosedAfter chained (hosted ∷ []) first_file
unfolding sha256 first_words schedule rounds compress hash_after digest_bytes chain link_text size_code record_code front
spelled = refl

begun : take 8 (set first_file 17 9) ≡ front chained []
unfolding front
begun = refl

ends : 8 ≡ length (front chained [])
unfolding front
ends = refl

-- the first byte of the seal that is there is 5, and that of the right one is not
first_of_seal : (n : ℕ) → n ≡ 25 → take 32 (drop (9 + n) (drop 8 (set first_file 17 9))) ≡ chain (take n (drop 9 (drop 8 (set first_file 17 9))) ∷ []) → ⊥
unfolding sha256 first_words schedule rounds compress hash_after digest_bytes chain link_text size_code
first_of_seal n is same = apart (subst (λ (k : ℕ). take 32 (drop (9 + k) (drop 8 (set first_file 17 9))) ≡ chain (take k (drop 9 (drop 8 (set first_file 17 9))) ∷ [])) is same)
  where
    apart : take 32 (drop 34 (drop 8 (set first_file 17 9))) ≡ chain (take 25 (drop 9 (drop 8 (set first_file 17 9))) ∷ []) → ⊥
    apart e = let first = ap (λ (l : List ℕ). get_or l 0 0) e in omega (arith, first)

size_there : size_at (drop 8 (set first_file 17 9)) ≡ 25
unfolding size_at
size_there = refl

not_whole : IsWhole chained [] (drop 8 (set first_file 17 9)) → ⊥
not_whole whole = first_of_seal (size_at (drop 8 (set first_file 17 9))) size_there whole.sealed

pub first_rows : FirstFile
first_rows = record {
  image = record { short = (omega arith, tt); spelled = spelled };
  damaged = ([], record { short = tt; ends = ends; spelled = begun }, record { some = omega arith; not_closed = λ zero. absurd (omega (arith, zero)); not_whole = not_whole });
}
