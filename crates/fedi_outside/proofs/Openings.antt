-- What an opening may find of a file excludes all else.
use Rattle.std.proofs.Common.{◌≡◌, inl, inr, ℕ, ◌<◌, List, [], ◌++◌, length, get_or, take, drop, sym, ◌∙◌, ap, append_assoc, arith, length-append, take-append-drop}
use Rattle.std.specs.Prelude.{Some}
use Rattle.std.proofs.lemmas.List.{take_at}
use Rattle.fedi_outside.specs.Images.{Format, IsFormat, IsImage, blocks, front}
use Rattle.fedi_outside.specs.Opening.{Begins, IsDamagedAt, IsNoStore, IsOlder}
use Rattle.fedi_outside.proofs.ImageLemmas.{closed_ends, fronts_back}

module _ (f : Format) (ok : IsFormat f) where
  split : (rs : List (List ℕ)) (gate : ℕ) (bytes : List ℕ) → Begins f rs gate bytes → bytes ≡ front f rs ++ drop gate bytes
  split rs gate bytes begins = sym (take-append-drop gate bytes) ∙ ap (λ (l : List ℕ). l ++ drop gate bytes) begins.spelled

  -- what begins as a file of records does begins with the magic
  pub begins : (rs : List (List ℕ)) (bytes rest : List ℕ) → bytes ≡ front f rs ++ rest → take 8 bytes ≡ f.magic
  unfolding front
  begins rs bytes rest is = ap (take 8) (is ∙ append_assoc f.magic (blocks f [] rs) rest) ∙ take_at f.magic (blocks f [] rs ++ rest) 8 ok.eight

  -- and not with the older one
  not_older : (rs : List (List ℕ)) (bytes rest : List ℕ) → bytes ≡ front f rs ++ rest → IsOlder f bytes → ⊥
  not_older rs bytes rest is older = ok.other (older.1 ∙ ap (λ (l : List ℕ). Some l) (begins rs bytes rest is))

  -- what begins as a file of records does, and has a gate, is a store
  is_store : (rs : List (List ℕ)) (bytes rest : List ℕ) → bytes ≡ front f rs ++ rest → 0 < length rest → IsNoStore f bytes → ⊥
  unfolding front
  is_store rs bytes rest is some (inl short) = omega (arith, short, ap length is, length-append (f.magic ++ blocks f [] rs) rest, length-append f.magic (blocks f [] rs), ok.eight)
  is_store rs bytes rest is some (inr other) = other.0 (begins rs bytes rest is)

  pub one_place : (here there : ℕ) (bytes : List ℕ) → IsDamagedAt f here bytes → IsDamagedAt f there bytes → here ≡ there
  one_place here there bytes one two =
      let same = fronts_back f ok one.0 two.0 (drop here bytes) (drop there bytes) one.1.short two.1.short one.2.some two.2.some one.2.not_whole two.2.not_whole
      (sym (split one.0 here bytes one.1) ∙ split two.0 there bytes two.1) in
      one.1.ends ∙ (ap (λ (rs : List (List ℕ)). length (front f rs)) same.0 ∙ sym two.1.ends)

  pub not_damaged : (rs : List (List ℕ)) (place : ℕ) (bytes : List ℕ) → IsImage f rs bytes → IsDamagedAt f place bytes → ⊥
  not_damaged rs place bytes image damaged =
      let same = fronts_back f ok rs damaged.0 _ (drop place bytes) image.short damaged.1.short (omega arith) damaged.2.some (closed_ends f ok rs _) damaged.2.not_whole
      (sym image.spelled ∙ split damaged.0 place bytes damaged.1) in
      damaged.2.not_closed (ap (λ (l : List ℕ). get_or l 0 0) (sym same.1))

  pub image_is_store : (rs : List (List ℕ)) (bytes : List ℕ) → IsImage f rs bytes → IsNoStore f bytes → ⊥
  image_is_store rs bytes image = is_store rs bytes _ image.spelled (omega arith)

  pub damaged_is_store : (place : ℕ) (bytes : List ℕ) → IsDamagedAt f place bytes → IsNoStore f bytes → ⊥
  damaged_is_store place bytes damaged = is_store damaged.0 bytes (drop place bytes) (split damaged.0 place bytes damaged.1) damaged.2.some

  pub image_not_older : (rs : List (List ℕ)) (bytes : List ℕ) → IsImage f rs bytes → IsOlder f bytes → ⊥
  image_not_older rs bytes image = not_older rs bytes _ image.spelled

  pub damaged_not_older : (place : ℕ) (bytes : List ℕ) → IsDamagedAt f place bytes → IsOlder f bytes → ⊥
  damaged_not_older place bytes damaged = not_older damaged.0 bytes (drop place bytes) (split damaged.0 place bytes damaged.1)

pub older_is_store : (f : Format) (bytes : List ℕ) → IsOlder f bytes → IsNoStore f bytes → ⊥
older_is_store f bytes older (inl short) = omega (arith, older.0, short)
older_is_store f bytes older (inr others) = others.1 older.1
