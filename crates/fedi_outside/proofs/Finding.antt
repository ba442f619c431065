-- Whether bytes are a file of records, and which records they hold; and which images a crash
-- leaves, if it is known which lists of records it leaves.
use Rattle.std.proofs.Common.{◌≡◌, ◌⊎◌, inl, inr, ℕ, zero, suc, ◌+◌, ◌≤◌, ◌^◌, Bool, true, false, cond, ◌&&◌, nat_lt, List, [], ◌∷◌, ◌++◌, length, drop, Option, Some, None, refl, sym, ◌∙◌, ap, subst, arith, length-append}
use Rattle.std.specs.Prelude.{Decides}
use Rattle.std.specs.Str.{bytes_eq}
use Rattle.std.proofs.lemmas.Bool.Decides.{Decides-and, Decides-like, Decides-ltb}
use Rattle.std.proofs.lemmas.Slice.Eq.{bytes_eq-Decides}
use Rattle.fedi_outside.specs.Disks.{DiskCrashes, DiskState}
use Rattle.fedi_outside.specs.Keepers.{Adds}
use Rattle.fedi_outside.specs.Images.{AreShort, Format, IsFormat, IsImage, StandsFor, blocks, front, kept_in, record_code}
use Rattle.fedi_outside.specs.Known.{record_crashes}
use Rattle.fedi_outside.proofs.ImageLemmas.{kept_image, length_front, one_image}

-- this many empty records
many : ℕ → List (List ℕ)
many zero = []
many (suc n) = [] ∷ many n

length_many : (n : ℕ) → length (many n) ≡ n
unfolding many
length_many zero = refl
length_many (suc n) = ap (λ (m : ℕ). suc m) (length_many n)

-- ---- finding

are_short : List (List ℕ) → Bool
are_short [] = true
are_short (r ∷ rs) = nat_lt (length r) (2 ^ 64) && are_short rs

short-Decides : (rs : List (List ℕ)) → Decides (are_short rs) (AreShort rs)
unfolding are_short
short-Decides [] = (λ e. tt, λ s. refl)
short-Decides (r ∷ rs) = Decides-and (nat_lt (length r) (2 ^ 64)) (are_short rs) (Decides-ltb (length r) (2 ^ 64)) (short-Decides rs)

module _ (f : Format) where
  -- the bytes are a file of this many records, those that they begin with
  is_image_of : ℕ → List ℕ → Bool
  is_image_of n bytes =
      let rs = kept_in f n bytes in
      are_short rs && bytes_eq bytes (front f rs ++ 0 ∷ drop (length (front f rs) + 1) bytes)

  image-Decides : (n : ℕ) (bytes : List ℕ) → Decides (is_image_of n bytes) (IsImage f (kept_in f n bytes) bytes)
  unfolding is_image_of
  image-Decides n bytes =
      let rs = kept_in f n bytes in
      let spelled : List ℕ = front f rs ++ 0 ∷ drop (length (front f rs) + 1) bytes in
      Decides-like {P = AreShort rs × (bytes ≡ spelled)} {Q = IsImage f rs bytes} (are_short rs && bytes_eq bytes spelled)
      (λ p. record { short = p.0; spelled = p.1 }) (λ i. (i.short, i.spelled))
      (Decides-and (are_short rs) (bytes_eq bytes spelled) (short-Decides rs) (bytes_eq-Decides bytes spelled))

  -- the records of a file of this many or fewer
  found_to : ℕ → List ℕ → Option (List (List ℕ))
  found_to zero bytes = cond (is_image_of 0 bytes) (Some (kept_in f 0 bytes)) None
  found_to (suc n) bytes = cond (is_image_of (suc n) bytes) (Some (kept_in f (suc n) bytes)) (found_to n bytes)

  -- the records of a file
  pub found_in : List ℕ → Option (List (List ℕ))
  found_in bytes = found_to (length bytes) bytes

  some_same : (xs ys : List (List ℕ)) → Some xs ≡ Some ys → xs ≡ ys
  some_same xs ys e = cc

  none_some : (xs : List (List ℕ)) → None ≡ Some xs → ⊥
  none_some xs e = cc

  found_back : (n : ℕ) (bytes : List ℕ) (rs : List (List ℕ)) → found_to n bytes ≡ Some rs → IsImage f rs bytes
  unfolding found_to
  found_back zero bytes rs =
      elim (is_image_of 0 bytes) as (λ b. is_image_of 0 bytes ≡ b → cond b (Some (kept_in f 0 bytes)) None ≡ Some rs → IsImage f rs bytes) [
        | true ↦ λ t e. subst (λ (l : List (List ℕ)). IsImage f l bytes) (some_same _ _ e) ((image-Decides 0 bytes).0 t)
        | false ↦ λ t e. absurd (none_some rs e)
      ] refl
  found_back (suc n) bytes rs =
      elim (is_image_of (suc n) bytes) as (λ b. is_image_of (suc n) bytes ≡ b → cond b (Some (kept_in f (suc n) bytes)) (found_to n bytes) ≡ Some rs → IsImage f rs bytes) [
        | true ↦ λ t e. subst (λ (l : List (List ℕ)). IsImage f l bytes) (some_same _ _ e) ((image-Decides (suc n) bytes).0 t)
        | false ↦ λ t e. found_back n bytes rs e
      ] refl

  -- what is found are the records of a file
  pub found_is : (bytes : List ℕ) (rs : List (List ℕ)) → found_in bytes ≡ Some rs → IsImage f rs bytes
  unfolding found_in
  found_is bytes rs e = found_back (length bytes) bytes rs e

  module _ (ok : IsFormat f) where
    at_its_count : (rs : List (List ℕ)) (bytes : List ℕ) (n : ℕ) → IsImage f rs bytes → length rs ≡ n → is_image_of n bytes ≡ true
    at_its_count rs bytes n image is =
        let same : kept_in f n bytes ≡ rs = ap (λ (m : ℕ). kept_in f m bytes) (sym is) ∙ kept_image f ok rs bytes image.short image.spelled in
        (image-Decides n bytes).1 (subst (λ (l : List (List ℕ)). IsImage f l bytes) (sym same) image)

    only_that : (rs : List (List ℕ)) (bytes : List ℕ) (n : ℕ) → IsImage f rs bytes → is_image_of n bytes ≡ true → Some (kept_in f n bytes) ≡ Some rs
    only_that rs bytes n image is = ap (λ (l : List (List ℕ)). Some l) (one_image f ok _ rs bytes ((image-Decides n bytes).0 is) image)

    found_here : (n : ℕ) (bytes : List ℕ) (rs : List (List ℕ)) → IsImage f rs bytes → length rs ≤ n → found_to n bytes ≡ Some rs
    unfolding found_to
    found_here zero bytes rs image fits =
        ap (λ (b : Bool). cond b (Some (kept_in f 0 bytes)) None) (at_its_count rs bytes 0 image (omega (arith, fits)))
        ∙ only_that rs bytes 0 image (at_its_count rs bytes 0 image (omega (arith, fits)))
    found_here (suc n) bytes rs image fits =
        elim (is_image_of (suc n) bytes) as (λ b. is_image_of (suc n) bytes ≡ b → cond b (Some (kept_in f (suc n) bytes)) (found_to n bytes) ≡ Some rs) [
          | true ↦ λ t. only_that rs bytes (suc n) image t
          | false ↦ λ t. found_here n bytes rs image (fewer n bytes rs image fits t)
        ] refl
      where
        apart : true ≡ false → ⊥
        apart e = cc

        fewer : (n : ℕ) (bytes : List ℕ) (rs : List (List ℕ)) → IsImage f rs bytes → length rs ≤ suc n → is_image_of (suc n) bytes ≡ false → length rs ≤ n
        fewer n bytes rs image fits t =
            let other : length rs ≡ suc n → ⊥ = λ is. apart (sym (at_its_count rs bytes (suc n) image is) ∙ t) in
            omega (arith, fits, other)

    -- each record has a gate
    count_blocks : (before rs : List (List ℕ)) → length rs ≤ length (blocks f before rs)
    count_blocks before [] = omega arith
    count_blocks before (r ∷ rs) = omega (arith, count_blocks (before ++ r ∷ []) rs, length-append (record_code f before r) (blocks f (before ++ r ∷ []) rs))

    count_image : (rs : List (List ℕ)) (bytes : List ℕ) → IsImage f rs bytes → length rs ≤ length bytes
    count_image rs bytes image =
        omega (arith, ap length image.spelled, length-append (front f rs) (0 ∷ drop (length (front f rs) + 1) bytes), length_front f ok rs, count_blocks [] rs)

    -- the records of a file are found
    pub is_found : (bytes : List ℕ) (rs : List (List ℕ)) → IsImage f rs bytes → found_in bytes ≡ Some rs
    unfolding found_in
    is_found bytes rs image = found_here (length bytes) bytes rs image (count_image rs bytes image)

    -- bytes are a file of records, or none
    pub image_or_none : (bytes : List ℕ) → ((rs : List (List ℕ)) × IsImage f rs bytes) ⊎ ((rs : List (List ℕ)) → IsImage f rs bytes → ⊥)
    image_or_none bytes =
        elim (found_in bytes) as (λ o. found_in bytes ≡ o → ((rs : List (List ℕ)) × IsImage f rs bytes) ⊎ ((rs : List (List ℕ)) → IsImage f rs bytes → ⊥)) [
          | None ↦ λ e. inr (λ rs image. none_some rs (sym e ∙ is_found bytes rs image))
          | Some rs ↦ λ e. inl (rs, found_is bytes rs e)
        ] refl

    -- ---- from lists to images

    -- A crash may have left these images. If each list that one of them represents is as given, and
    -- all such lists are bounded, then each of them is a file of such a list: bytes that are no
    -- file of records would represent a list that is too long.
    pub files_of_lists : (now : List ℕ → Type 0) (told : List (List ℕ) → Type 0) (bound : ℕ)
        → ((image : List ℕ) (rs : List (List ℕ)) → now image → StandsFor f image rs → told rs)
        → ((rs : List (List ℕ)) → told rs → length rs ≤ bound)
        → (image : List ℕ) → now image → (rs : List (List ℕ)) × IsImage f rs image × told rs
    files_of_lists now told bound lists few image is =
        elim (image_or_none image) [
          | inl file ↦ (file.0, file.1, lists image file.0 is (λ others other. one_image f ok others file.0 image other file.1))
          | inr none ↦
              let long = few (many (suc bound)) (lists image (many (suc bound)) is (λ others other. absurd (none others other))) in
              absurd (omega (arith, long, length_many (suc bound)))
        ]

    -- An earlier crash may have left those images, each a file of old records, and a crash since
    -- then these. If each list that one of these represents is new, or represented by one of those,
    -- then each of these is a file of old records or of new ones.
    pub lists_to_images : (past now : List ℕ → Type 0) (old new : List (List ℕ) → Type 0) (bound : ℕ)
        → ((image : List ℕ) → past image → (rs : List (List ℕ)) × IsImage f rs image × old rs)
        → ((image : List ℕ) (rs : List (List ℕ)) → now image → StandsFor f image rs → ((before : List ℕ) × past before × StandsFor f before rs) ⊎ new rs)
        → ((rs : List (List ℕ)) → old rs → length rs ≤ bound) → ((rs : List (List ℕ)) → new rs → length rs ≤ bound)
        → (image : List ℕ) → now image → (rs : List (List ℕ)) × IsImage f rs image × (old rs ⊎ new rs)
    lists_to_images past now old new bound files lists few_old few_new =
        files_of_lists now (λ rs. old rs ⊎ new rs) bound (λ image rs is stands. told rs (lists image rs is stands)) few
      where
        told : (rs : List (List ℕ)) → ((before : List ℕ) × past before × StandsFor f before rs) ⊎ new rs → old rs ⊎ new rs
        told rs (inl left) =
            let file = files left.0 left.1 in
            inl (subst old (left.2 file.0 file.1) file.2)
        told rs (inr left) = inr left

        few : (rs : List (List ℕ)) → old rs ⊎ new rs → length rs ≤ bound
        few rs (inl left) = few_old rs left
        few rs (inr left) = few_new rs left

    -- The same for a keeper on a disk: its calls added only these lists to what a crash since an
    -- earlier moment may have left.
    pub images_left : (shown later : DiskState) (before after : DiskCrashes) (old new : List (List ℕ) → Type 0) (bound moment : ℕ)
        → moment ≤ before.clock
        → ((image : List ℕ) → before.left_since moment image → (rs : List (List ℕ)) × IsImage f rs image × old rs)
        → Adds before.clock (record_crashes f shown before).left_since (record_crashes f later after).left_since new
        → ((rs : List (List ℕ)) → old rs → length rs ≤ bound) → ((rs : List (List ℕ)) → new rs → length rs ≤ bound)
        → (image : List ℕ) → after.left_since moment image → (rs : List (List ℕ)) × IsImage f rs image × (old rs ⊎ new rs)
    images_left shown later before after old new bound moment earlier files adds few_old few_new =
        lists_to_images (before.left_since moment) (after.left_since moment) old new bound files
        (λ image rs left stands. adds.nothing_else moment rs earlier (image, left, stands)) few_old few_new

    -- The same for a keeper if it is also known which lists a crash at the first moment may have
    -- left.
    pub images_known : (shown later : DiskState) (before after : DiskCrashes) (old new : List (List ℕ) → Type 0) (bound : ℕ)
        → ((rs : List (List ℕ)) → (record_crashes f shown before).left_since before.clock rs → old rs)
        → Adds before.clock (record_crashes f shown before).left_since (record_crashes f later after).left_since new
        → ((rs : List (List ℕ)) → old rs → length rs ≤ bound) → ((rs : List (List ℕ)) → new rs → length rs ≤ bound)
        → (image : List ℕ) → after.left_since before.clock image → (rs : List (List ℕ)) × IsImage f rs image × (old rs ⊎ new rs)
    images_known shown later before after old new bound known adds few_old few_new =
        images_left shown later before after old new bound before.clock (omega arith)
        (files_of_lists (before.left_since before.clock) old bound (λ image rs left stands. known rs (image, left, stands)) few_old) adds few_old few_new
