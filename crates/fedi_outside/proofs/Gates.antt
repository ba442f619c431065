-- The offsets of gates, and the position of a record's bytes that follows from them.
use Rattle.std.proofs.Common.{◌≡◌, ℕ, zero, suc, ◌+◌, ◌-◌, ◌<◌, ◌≤◌, Bool, true, false, ◌&&◌, nat_le, List, [], ◌∷◌, ◌++◌, length, get_or, take, drop, refl, sym, ◌∙◌, ap, append_assoc, arith, length-append}
use Rattle.std.specs.Prelude.{Some, slice_get}
use Rattle.std.proofs.lemmas.Bool.{leb-true, le-leb}
use Rattle.std.proofs.lemmas.List.{drop_at, drop-drop}
use Rattle.std.proofs.Math.Seq.{take-append_seam}
use Rattle.fedi_outside.specs.Images.{Format, IsFormat, blocks, front, gates_of, record_code, size_code}
use Rattle.fedi_outside.specs.Known.{are_apart}
use Rattle.fedi_outside.proofs.ImageLemmas.{length_front, length_record}

-- ---- apart

both : (a b : Bool) → (a && b) ≡ true → (a ≡ true) × (b ≡ true)
both true b is = (refl, is)
both false b is = absurd (cc is)

-- one more gate
pub apart_push : (step : ℕ) (gates : List ℕ) (end after : ℕ) → are_apart step gates end ≡ true → end + step ≤ after → are_apart step (gates ++ end ∷ []) after ≡ true
apart_push step [] end after is far = ap (λ (b : Bool). b && true) (le-leb (end + step) after far)
apart_push step (gate ∷ []) end after is far =
    ap (λ (b : Bool). nat_le (gate + step) end && (b && true)) (le-leb (end + step) after far) ∙ is
apart_push step (gate ∷ next ∷ gates) end after is far =
    let parts = both (nat_le (gate + step) next) (are_apart step (next ∷ gates) end) is in
    ap (λ (b : Bool). b && are_apart step ((next ∷ gates) ++ end ∷ []) after) parts.0 ∙ apart_push step (next ∷ gates) end after parts.1 far

first_before : (step : ℕ) (gates : List ℕ) (end : ℕ) → are_apart step gates end ≡ true → get_or gates 0 end ≤ end
first_before step [] end is = omega arith
first_before step (gate ∷ gates) end is =
    let parts = both (nat_le (gate + step) (get_or gates 0 end)) (are_apart step gates end) is in
    omega (arith, leb-true _ _ parts.0, first_before step gates end parts.1)

-- each gate is this far before the next one, which is not after the end
pub apart_at : (step : ℕ) (gates : List ℕ) (end i : ℕ) → i < length gates → are_apart step gates end ≡ true → (get_or gates i end + step ≤ get_or gates (suc i) end) × (get_or gates (suc i) end ≤ end)
apart_at step [] end i within is = absurd (omega (arith, within))
apart_at step (gate ∷ gates) end zero within is =
    let parts = both (nat_le (gate + step) (get_or gates 0 end)) (are_apart step gates end) is in
    (leb-true _ _ parts.0, first_before step gates end parts.1)
apart_at step (gate ∷ gates) end (suc i) within is =
    let parts = both (nat_le (gate + step) (get_or gates 0 end)) (are_apart step gates end) is in
    apart_at step gates end i (omega (arith, within)) parts.1

-- ---- the gates of records

module _ (f : Format) (ok : IsFormat f) where
  pub length_gates : (at : ℕ) (rs : List (List ℕ)) → length (gates_of f at rs) ≡ length rs
  length_gates at [] = refl
  length_gates at (r ∷ rs) = ap (λ (n : ℕ). suc n) (length_gates (at + (9 + f.width + length r)) rs)

  length_block : (before rs : List (List ℕ)) (r : List ℕ) → length (blocks f before (r ∷ rs)) ≡ (9 + f.width + length r) + length (blocks f (before ++ r ∷ []) rs)
  length_block before rs r = omega (arith, length-append (record_code f before r) (blocks f (before ++ r ∷ []) rs), length_record f ok before r)

  gates_push : (at : ℕ) (before rs : List (List ℕ)) (p : List ℕ) → gates_of f at (rs ++ p ∷ []) ≡ gates_of f at rs ++ (at + length (blocks f before rs)) ∷ []
  gates_push at before [] p = let same : at ≡ at + 0 = omega arith in ap (λ (n : ℕ). n ∷ []) same
  gates_push at before (r ∷ rs) p =
      let step = 9 + f.width + length r in
      let same : at + step + length (blocks f (before ++ r ∷ []) rs) ≡ at + length (blocks f before (r ∷ rs)) = omega (arith, length_block before rs r) in
      ap (λ (l : List ℕ). at ∷ l) (gates_push (at + step) (before ++ r ∷ []) rs p ∙ ap (λ (n : ℕ). gates_of f (at + step) rs ++ n ∷ []) same)

  pub gates_grown : (rs : List (List ℕ)) (p gates : List ℕ) (end : ℕ) → gates ≡ gates_of f 8 rs → end ≡ length (front f rs) → gates ++ end ∷ [] ≡ gates_of f 8 (rs ++ p ∷ [])
  gates_grown rs p gates end is ends =
      let same : end ≡ 8 + length (blocks f [] rs) = ends ∙ length_front f ok rs in
      ap (λ (l : List ℕ). l ++ end ∷ []) is ∙ (ap (λ (n : ℕ). gates_of f 8 rs ++ n ∷ []) same ∙ sym (gates_push 8 [] rs p))

  -- ---- the bytes of a record

  record_bytes : (before : List (List ℕ)) (r rest : List ℕ) → drop 9 (1 ∷ (record_code f before r ++ rest)) ≡ r ++ (f.seal before r ++ rest)
  unfolding record_code size_code
  record_bytes before r rest = append_assoc r (f.seal before r) rest

  next_gate : (before rs : List (List ℕ)) (at end : ℕ) → end ≡ at + length (blocks f before rs) → get_or (gates_of f at rs) 0 end ≡ at
  next_gate before [] at end is = omega (arith, is)
  next_gate before (r ∷ rs) at end is = refl

  -- a record is between its gate and the next one, if these bytes come before the first gate
  bytes_at : (pre : List ℕ) (before rs : List (List ℕ)) (rest : List ℕ) (at end i : ℕ) → at ≡ length pre → end ≡ at + length (blocks f before rs) → i < length rs
      → slice_get rs i ≡ Some (take (get_or (gates_of f at rs) (suc i) end - get_or (gates_of f at rs) i end - (9 + f.width)) (drop (get_or (gates_of f at rs) i end + 9) (pre ++ (blocks f before rs ++ rest))))
  bytes_at pre before [] rest at end i is ends within = absurd (omega (arith, within))
  bytes_at pre before (r ∷ rs) rest at end zero is ends within =
      let after = before ++ r ∷ [] in
      let step = 9 + f.width + length r in
      let size = length_block before rs r in
      let next : get_or (gates_of f (at + step) rs) 0 end ≡ at + step = next_gate after rs (at + step) end (omega (arith, ends, size)) in
      let count : get_or (gates_of f (at + step) rs) 0 end - at - (9 + f.width) ≡ length r = omega (arith, next) in
      let behind = blocks f after rs ++ rest in
      let regroup : blocks f before (r ∷ rs) ++ rest ≡ 1 ∷ (record_code f before r ++ behind) = ap (λ (l : List ℕ). 1 ∷ l) (append_assoc (record_code f before r) (blocks f after rs) rest) in
      let here : drop (at + 9) (pre ++ (blocks f before (r ∷ rs) ++ rest)) ≡ r ++ (f.seal before r ++ behind) =
      sym (drop-drop 9 at (pre ++ (blocks f before (r ∷ rs) ++ rest))) ∙ (ap (drop 9) (drop_at pre (blocks f before (r ∷ rs) ++ rest) at (sym is) ∙ regroup) ∙ record_bytes before r behind) in
      ap (λ (l : List ℕ). Some l) (sym (ap (λ (n : ℕ). take n (drop (at + 9) (pre ++ (blocks f before (r ∷ rs) ++ rest)))) count ∙ (ap (take (length r)) here ∙ take-append_seam r (f.seal before r ++ behind))))
  bytes_at pre before (r ∷ rs) rest at end (suc i) is ends within =
      let after = before ++ r ∷ [] in
      let step = 9 + f.width + length r in
      let block : List ℕ = 1 ∷ record_code f before r in
      let gates = gates_of f (at + step) rs in
      let longer : at + step ≡ length (pre ++ block) = omega (arith, is, length-append pre block, length_record f ok before r) in
      let regroup : (pre ++ block) ++ (blocks f after rs ++ rest) ≡ pre ++ (blocks f before (r ∷ rs) ++ rest) =
      append_assoc pre block (blocks f after rs ++ rest) ∙ ap (λ (l : List ℕ). pre ++ 1 ∷ l) (sym (append_assoc (record_code f before r) (blocks f after rs) rest)) in
      bytes_at (pre ++ block) after rs rest (at + step) end i longer (omega (arith, ends, length_block before rs r)) (omega (arith, within))
      ∙ ap (λ (l : List ℕ). Some (take (get_or gates (suc i) end - get_or gates i end - (9 + f.width)) (drop (get_or gates i end + 9) l))) regroup

  pub record_found : (rs : List (List ℕ)) (bytes rest gates : List ℕ) (end i : ℕ) → gates ≡ gates_of f 8 rs → end ≡ length (front f rs) → bytes ≡ front f rs ++ rest → i < length rs
      → slice_get rs i ≡ Some (take (get_or gates (suc i) end - get_or gates i end - (9 + f.width)) (drop (get_or gates i end + 9) bytes))
  unfolding front
  record_found rs bytes rest gates end i is ends spelled within =
      bytes_at f.magic [] rs rest 8 end i (sym ok.eight) (ends ∙ length_front f ok rs) within
      ∙ (ap (λ (l : List ℕ). Some (take (get_or (gates_of f 8 rs) (suc i) end - get_or (gates_of f 8 rs) i end - (9 + f.width)) (drop (get_or (gates_of f 8 rs) i end + 9) l))) (sym (spelled ∙ append_assoc f.magic (blocks f [] rs) rest))
      ∙ ap (λ (g : List ℕ). Some (take (get_or g (suc i) end - get_or g i end - (9 + f.width)) (drop (get_or g i end + 9) bytes))) (sym is))
