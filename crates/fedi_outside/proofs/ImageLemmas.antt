-- What files of records consist of: at most one list fits, records are read back, and what the
-- steps of a journal make of a file.
use Rattle.std.proofs.Common.{◌≡◌, ℕ, zero, suc, ◌+◌, ◌<◌, ◌≤◌, ◌^◌, List, [], ◌∷◌, ◌++◌, length, take, drop, refl, sym, ◌∙◌, ap, subst, append_assoc, arith, length-append, take-append-drop}
use Rattle.std.specs.Prelude.{None, Some, get_or, nat_eq, false}
use Rattle.std.specs.Int.{to_be_bytes, from_be_bytes, w64}
use Rattle.std.proofs.lemmas.Nat.{from_be_bytes-to_be_bytes_8}
use Rattle.std.proofs.lemmas.List.{take_at, drop_at, take-take, append-nil, drop-drop, append_cancel_left}
use Rattle.std.proofs.Math.Seq.{take-append_seam}
use Rattle.fedi_outside.specs.Disks.{IsTorn, spliced}
use Rattle.fedi_outside.specs.Images.{AreShort, Format, IsClosedAfter, IsFormat, IsImage, blocks, front, kept_in, plain, record_code, records_at, size_at, size_code}
use Rattle.fedi_outside.specs.Opening.{IsWhole}

pub plain_ok : IsFormat plain
plain_ok = record { eight = refl; wide = λ before r. refl; other = λ is. absurd (cc is) }

-- two magics that differ are not the same
pub none_apart : (b : List ℕ) → None ≡ Some b → ⊥
none_apart b is = absurd (cc is)

pub some_apart : (a b : List ℕ) → (a ≡ b → ⊥) → Some a ≡ Some b → ⊥
some_apart a b differ is = let same : a ≡ b = cc is in differ same

pub digits_apart : (a b : List ℕ) (i : ℕ) → nat_eq (get_or a i 0) (get_or b i 0) ≡ false → a ≡ b → ⊥
digits_apart a b i differ is = let same : get_or a i 0 ≡ get_or b i 0 = ap (λ (l : List ℕ). get_or l i 0) is in grind (arith, differ, same)

pub length_size : (n : ℕ) → length (size_code n) ≡ 8
unfolding size_code
length_size n = refl

-- ---- encoded bytes determine what they encode

size_back : (m n : ℕ) (s t : List ℕ) → m < 2 ^ 64 → n < 2 ^ 64 → size_code m ++ s ≡ size_code n ++ t → (m ≡ n) × (s ≡ t)
unfolding size_code
size_back m n s t fits_m fits_n e =
    let first : to_be_bytes w64 m ≡ to_be_bytes w64 n = ap (take 8) e in
    (sym (from_be_bytes-to_be_bytes_8 m fits_m) ∙ (ap (from_be_bytes w64) first ∙ from_be_bytes-to_be_bytes_8 n fits_n), ap (drop 8) e)

pub same_length : (a b s t : List ℕ) → length a ≡ length b → a ++ s ≡ b ++ t → (a ≡ b) × (s ≡ t)
same_length a b s t same e =
    let first : a ≡ b =
    sym (take-append_seam a s) ∙ (ap (take (length a)) e ∙ (ap (λ n. take n (b ++ t)) same ∙ take-append_seam b t)) in
    (first, append_cancel_left b s t (ap (λ x. x ++ s) (sym first) ∙ e))

byte_same : (m n : ℕ) (s t : List ℕ) → m ∷ s ≡ n ∷ t → (m ≡ n) × (s ≡ t)
byte_same m n s t e = (cc, cc)

module _ (f : Format) (ok : IsFormat f) where
  pub length_record : (before : List (List ℕ)) (r : List ℕ) → length (record_code f before r) ≡ 8 + f.width + length r
  unfolding record_code
  length_record before r = omega (arith, length-append (size_code (length r)) (r ++ f.seal before r), length-append r (f.seal before r), ok.wide before r, length_size (length r))

  pub length_front : (rs : List (List ℕ)) → length (front f rs) ≡ 8 + length (blocks f [] rs)
  unfolding front
  length_front rs = omega (arith, length-append f.magic (blocks f [] rs), ok.eight)

  pub blocks_push : (before rs : List (List ℕ)) (r : List ℕ) → blocks f before (rs ++ r ∷ []) ≡ blocks f before rs ++ 1 ∷ record_code f (before ++ rs) r
  blocks_push before [] r =
      ap (λ (l : List ℕ). 1 ∷ l) (append-nil (record_code f before r)) ∙ ap (λ (b : List (List ℕ)). 1 ∷ record_code f b r) (sym (append-nil before))
  blocks_push before (x ∷ rs) r =
      ap (λ (l : List ℕ). 1 ∷ (record_code f before x ++ l))
      (blocks_push (before ++ x ∷ []) rs r ∙ ap (λ (b : List (List ℕ)). blocks f (before ++ x ∷ []) rs ++ 1 ∷ record_code f b r) (append_assoc before (x ∷ []) rs))
      ∙ ap (λ (l : List ℕ). 1 ∷ l) (sym (append_assoc (record_code f before x) (blocks f (before ++ x ∷ []) rs) (1 ∷ record_code f (before ++ x ∷ rs) r)))

  pub front_push : (rs : List (List ℕ)) (r : List ℕ) → front f (rs ++ r ∷ []) ≡ front f rs ++ 1 ∷ record_code f rs r
  unfolding front
  front_push rs r = ap (λ (l : List ℕ). f.magic ++ l) (blocks_push [] rs r) ∙ sym (append_assoc f.magic (blocks f [] rs) (1 ∷ record_code f rs r))

  pub length_front_push : (rs : List (List ℕ)) (r : List ℕ) → length (front f (rs ++ r ∷ [])) ≡ length (front f rs) + (9 + f.width + length r)
  length_front_push rs r = omega (arith, ap length (front_push rs r), length-append (front f rs) (1 ∷ record_code f rs r), length_record rs r)

  -- the records of a short file are short
  pub short_records : (rs : List (List ℕ)) → length (front f rs) < 2 ^ 64 → AreShort rs
  short_records rs short = each [] rs (omega (arith, length_front rs))
    where
      each : (before rs : List (List ℕ)) → length (blocks f before rs) < 2 ^ 64 → AreShort rs
      each before [] short = tt
      each before (r ∷ rs) short =
          let size = length-append (record_code f before r) (blocks f (before ++ r ∷ []) rs) in
          (omega (arith, size, length_record before r), each (before ++ r ∷ []) rs (omega (arith, size, length_record before r)))

  record_back : (before : List (List ℕ)) (a b s t : List ℕ) → length a < 2 ^ 64 → length b < 2 ^ 64 → record_code f before a ++ s ≡ record_code f before b ++ t → (a ≡ b) × (s ≡ t)
  unfolding record_code
  record_back before a b s t fits_a fits_b e =
      let sealed_a = a ++ f.seal before a in
      let sealed_b = b ++ f.seal before b in
      let sizes = size_back (length a) (length b) (sealed_a ++ s) (sealed_b ++ t) fits_a fits_b
      (sym (append_assoc (size_code (length a)) sealed_a s) ∙ (e ∙ append_assoc (size_code (length b)) sealed_b t)) in
      let same : length sealed_a ≡ length sealed_b =
      omega (arith, length-append a (f.seal before a), length-append b (f.seal before b), ok.wide before a, ok.wide before b, sizes.0) in
      let parts = same_length sealed_a sealed_b s t same sizes.1 in
      ((same_length a b (f.seal before a) (f.seal before b) sizes.0 parts.0).0, parts.1)

  -- a record after its gate is read as it was written
  record_at : (before : List (List ℕ)) (r rest : List ℕ) → length r < 2 ^ 64
      → (size_at (1 ∷ (record_code f before r ++ rest)) ≡ length r) × (drop 9 (1 ∷ (record_code f before r ++ rest)) ≡ r ++ (f.seal before r ++ rest))
  unfolding record_code size_at size_code
  record_at before r rest fits = (from_be_bytes-to_be_bytes_8 (length r) fits, append_assoc r (f.seal before r) rest)

  payload_at : (before : List (List ℕ)) (r rest : List ℕ) → length r < 2 ^ 64
      → take (size_at (1 ∷ (record_code f before r ++ rest))) (drop 9 (1 ∷ (record_code f before r ++ rest))) ≡ r
  payload_at before r rest fits =
      let whole : List ℕ = 1 ∷ (record_code f before r ++ rest) in
      let here = record_at before r rest fits in
      ap (λ n. take n (drop 9 whole)) here.0 ∙ (ap (take (length r)) here.1 ∙ take-append_seam r (f.seal before r ++ rest))

  -- an open gate followed by a record and more is whole
  whole_block : (before : List (List ℕ)) (r rest : List ℕ) → length r < 2 ^ 64 → 0 < length rest → IsWhole f before (1 ∷ (record_code f before r ++ rest))
  whole_block before r rest fits more =
      let whole : List ℕ = 1 ∷ (record_code f before r ++ rest) in
      let here = record_at before r rest fits in
      let behind : drop (9 + size_at whole) whole ≡ f.seal before r ++ rest =
      ap (λ n. drop (9 + n) whole) here.0 ∙ (sym (drop-drop (length r) 9 whole) ∙ (ap (drop (length r)) here.1 ∙ drop_at r (f.seal before r ++ rest) (length r) refl)) in
      record {
        opened = refl;
        long = omega (arith, here.0, length-append (record_code f before r) rest, length_record before r);
        sealed = ap (take f.width) behind ∙ (take_at (f.seal before r) rest f.width (ok.wide before r) ∙ ap (f.seal before) (sym (payload_at before r rest fits)));
      }

  -- Records after open gates end where no whole record follows the next gate. So bytes that end
  -- there begin with only one list of them.
  blocks_back : (before xs ys : List (List ℕ)) (s t : List ℕ) → AreShort xs → AreShort ys → 0 < length s → 0 < length t
      → (IsWhole f (before ++ xs) s → ⊥) → (IsWhole f (before ++ ys) t → ⊥) → blocks f before xs ++ s ≡ blocks f before ys ++ t → (xs ≡ ys) × (s ≡ t)
  blocks_back before [] [] s t short_x short_y some_s some_t ends_s ends_t e = (refl, e)
  blocks_back before [] (y ∷ ys) s t short_x short_y some_s some_t ends_s ends_t e =
      let rest = blocks f (before ++ y ∷ []) ys ++ t in
      let regroup : blocks f before (y ∷ ys) ++ t ≡ 1 ∷ (record_code f before y ++ rest) = ap (λ (l : List ℕ). 1 ∷ l) (append_assoc (record_code f before y) (blocks f (before ++ y ∷ []) ys) t) in
      let whole = whole_block before y rest short_y.0 (omega (arith, length-append (blocks f (before ++ y ∷ []) ys) t)) in
      absurd (ends_s (subst (λ (b : List (List ℕ)). IsWhole f b s) (sym (append-nil before)) (subst (IsWhole f before) (sym (e ∙ regroup)) whole)))
  blocks_back before (x ∷ xs) [] s t short_x short_y some_s some_t ends_s ends_t e =
      let rest = blocks f (before ++ x ∷ []) xs ++ s in
      let regroup : blocks f before (x ∷ xs) ++ s ≡ 1 ∷ (record_code f before x ++ rest) = ap (λ (l : List ℕ). 1 ∷ l) (append_assoc (record_code f before x) (blocks f (before ++ x ∷ []) xs) s) in
      let whole = whole_block before x rest short_x.0 (omega (arith, length-append (blocks f (before ++ x ∷ []) xs) s)) in
      absurd (ends_t (subst (λ (b : List (List ℕ)). IsWhole f b t) (sym (append-nil before)) (subst (IsWhole f before) (sym (sym e ∙ regroup)) whole)))
  blocks_back before (x ∷ xs) (y ∷ ys) s t short_x short_y some_s some_t ends_s ends_t e =
      let tails : record_code f before x ++ (blocks f (before ++ x ∷ []) xs ++ s) ≡ record_code f before y ++ (blocks f (before ++ y ∷ []) ys ++ t) =
      sym (append_assoc (record_code f before x) (blocks f (before ++ x ∷ []) xs) s) ∙ ((byte_same _ _ _ _ e).1 ∙ append_assoc (record_code f before y) (blocks f (before ++ y ∷ []) ys) t) in
      let one = record_back before x y _ _ short_x.0 short_y.0 tails in
      let here : blocks f (before ++ x ∷ []) xs ++ s ≡ blocks f (before ++ x ∷ []) ys ++ t =
      one.1 ∙ ap (λ (z : List ℕ). blocks f (before ++ z ∷ []) ys ++ t) (sym one.0) in
      let others = blocks_back (before ++ x ∷ []) xs ys s t short_x.1 short_y.1 some_s some_t
      (λ whole. ends_s (subst (λ (b : List (List ℕ)). IsWhole f b s) (append_assoc before (x ∷ []) xs) whole))
      (λ whole. ends_t (subst (λ (b : List (List ℕ)). IsWhole f b t) (append_assoc before (x ∷ []) ys ∙ ap (λ (z : List ℕ). before ++ z ∷ ys) one.0) whole)) here in
      (ap (λ (z : List ℕ). z ∷ xs) one.0 ∙ ap (λ (zs : List (List ℕ)). y ∷ zs) others.0, others.1)

  -- the same for whole files
  pub fronts_back : (xs ys : List (List ℕ)) (s t : List ℕ) → AreShort xs → AreShort ys → 0 < length s → 0 < length t
      → (IsWhole f xs s → ⊥) → (IsWhole f ys t → ⊥) → front f xs ++ s ≡ front f ys ++ t → (xs ≡ ys) × (s ≡ t)
  unfolding front
  fronts_back xs ys s t short_x short_y some_s some_t ends_s ends_t e =
      blocks_back [] xs ys s t short_x short_y some_s some_t ends_s ends_t
      (append_cancel_left f.magic _ _ (sym (append_assoc f.magic (blocks f [] xs) s) ∙ (e ∙ append_assoc f.magic (blocks f [] ys) t)))

  -- a closed gate is not an open one
  pub closed_ends : (before : List (List ℕ)) (rest : List ℕ) → IsWhole f before (0 ∷ rest) → ⊥
  closed_ends before rest whole = omega (arith, whole.opened)

  pub one_image : (xs ys : List (List ℕ)) (bytes : List ℕ) → IsImage f xs bytes → IsImage f ys bytes → xs ≡ ys
  one_image xs ys bytes image_x image_y =
      (fronts_back xs ys _ _ image_x.short image_y.short (omega arith) (omega arith) (closed_ends xs _) (closed_ends ys _) (sym image_x.spelled ∙ image_y.spelled)).0

  -- ---- reading

  records_back : (before rs : List (List ℕ)) (rest : List ℕ) → AreShort rs → records_at f (length rs) (blocks f before rs ++ rest) ≡ rs
  records_back before [] rest short = refl
  records_back before (r ∷ rs) rest short =
      let behind = blocks f (before ++ r ∷ []) rs ++ rest in
      let whole : List ℕ = 1 ∷ (record_code f before r ++ behind) in
      let here = record_at before r behind short.0 in
      let sealed = f.seal before r in
      let far : 9 + f.width + size_at whole ≡ 9 + (length r + length sealed) = omega (arith, here.0, ok.wide before r) in
      let others : drop (9 + f.width + size_at whole) whole ≡ behind =
      ap (λ n. drop n whole) far ∙ (sym (drop-drop (length r + length sealed) 9 whole)
      ∙ (ap (drop (length r + length sealed)) (here.1 ∙ sym (append_assoc r sealed behind)) ∙ drop_at (r ++ sealed) behind (length r + length sealed) (length-append r sealed))) in
      let regroup : blocks f before (r ∷ rs) ++ rest ≡ whole = ap (λ (l : List ℕ). 1 ∷ l) (append_assoc (record_code f before r) (blocks f (before ++ r ∷ []) rs) rest) in
      ap (records_at f (length (r ∷ rs))) regroup
      ∙ (ap (λ (l : List ℕ). l ∷ records_at f (length rs) (drop (9 + f.width + size_at whole) whole)) (payload_at before r behind short.0)
      ∙ ap (λ (l : List (List ℕ)). r ∷ l) (ap (records_at f (length rs)) others ∙ records_back (before ++ r ∷ []) rs rest short.1))

  pub kept_front : (rs : List (List ℕ)) (rest : List ℕ) → AreShort rs → kept_in f (length rs) (front f rs ++ rest) ≡ rs
  unfolding kept_in front
  kept_front rs rest short =
      ap (λ (l : List ℕ). records_at f (length rs) (drop 8 l)) (append_assoc f.magic (blocks f [] rs) rest)
      ∙ (ap (records_at f (length rs)) (drop_at f.magic (blocks f [] rs ++ rest) 8 ok.eight) ∙ records_back [] rs rest short)

  pub kept_image : (rs : List (List ℕ)) (bytes : List ℕ) → AreShort rs → IsClosedAfter f rs bytes → kept_in f (length rs) bytes ≡ rs
  kept_image rs bytes short closed = ap (kept_in f (length rs)) closed ∙ kept_front rs _ short

  pub length_kept : (n : ℕ) (bytes : List ℕ) → length (kept_in f n bytes) ≡ n
  unfolding kept_in
  length_kept n bytes = each n (drop 8 bytes)
    where
      each : (n : ℕ) (b : List ℕ) → length (records_at f n b) ≡ n
      each zero b = refl
      each (suc n) b = ap (λ (m : ℕ). suc m) (each n _)

  -- ---- steps

  pub closed_intro : (rs : List (List ℕ)) (bytes rest : List ℕ) → bytes ≡ front f rs ++ 0 ∷ rest → IsClosedAfter f rs bytes
  closed_intro rs bytes rest is =
      let behind : drop (length (front f rs) + 1) bytes ≡ rest =
      ap (λ (l : List ℕ). drop (length (front f rs) + 1) l) (is ∙ sym (append_assoc (front f rs) (0 ∷ []) rest))
      ∙ drop_at (front f rs ++ 0 ∷ []) rest (length (front f rs) + 1) (length-append (front f rs) (0 ∷ [])) in
      is ∙ ap (λ (l : List ℕ). front f rs ++ 0 ∷ l) (sym behind)

  -- what follows a gate that is open before one more record
  pub opened_split : (rs : List (List ℕ)) (p bytes : List ℕ) → IsClosedAfter f (rs ++ p ∷ []) bytes
      → bytes ≡ front f rs ++ 1 ∷ (record_code f rs p ++ 0 ∷ drop (length (front f (rs ++ p ∷ [])) + 1) bytes)
  opened_split rs p bytes closed =
      let rest = drop (length (front f (rs ++ p ∷ [])) + 1) bytes in
      closed ∙ (ap (λ (l : List ℕ). l ++ 0 ∷ rest) (front_push rs p) ∙ append_assoc (front f rs) (1 ∷ record_code f rs p) (0 ∷ rest))

  pub spliced_seam : (n : ℕ) (bytes xs ys : List ℕ) → n ≡ length xs → spliced n bytes (xs ++ ys) ≡ xs ++ (bytes ++ drop (length bytes) ys)
  spliced_seam n bytes xs ys is =
      let back : drop (n + length bytes) (xs ++ ys) ≡ drop (length bytes) ys =
      sym (drop-drop (length bytes) n (xs ++ ys)) ∙ ap (drop (length bytes)) (drop_at xs ys n (sym is)) in
      ap (λ (l : List ℕ). l ++ (bytes ++ drop (n + length bytes) (xs ++ ys))) (take_at xs ys n (sym is))
      ∙ ap (λ (l : List ℕ). xs ++ (bytes ++ l)) back

  -- a closed gate stays closed if something after it is torn
  pub torn_behind : (rs : List (List ℕ)) (at : ℕ) (bytes old new : List ℕ) → length (front f rs) + 1 ≤ at → IsTorn at bytes old new → IsClosedAfter f rs old → IsClosedAfter f rs new
  torn_behind rs at bytes old new behind torn closed =
      let n = length (front f rs) + 1 in
      let head : List ℕ = front f rs ++ 0 ∷ [] in
      let size : length head ≡ n = length-append (front f rs) (0 ∷ []) in
      let front_old : take n old ≡ head = ap (take n) (closed ∙ sym (append_assoc (front f rs) (0 ∷ []) (drop n old))) ∙ take_at head (drop n old) n size in
      let same : take n new ≡ take n old = sym (take-take n at new behind) ∙ (ap (take n) torn.front ∙ take-take n at old behind) in
      let whole : new ≡ head ++ drop n new = sym (take-append-drop n new) ∙ ap (λ (l : List ℕ). l ++ drop n new) (same ∙ front_old) in
      whole ∙ append_assoc (front f rs) (0 ∷ []) (drop n new)

  -- a file whose closed gate is followed by a record, and that by a closed gate
  pub IsStaged : List (List ℕ) → List ℕ → List ℕ → Type 0
  IsStaged rs p bytes = (rest : List ℕ) × (bytes ≡ front f rs ++ 0 ∷ (record_code f rs p ++ 0 ∷ rest))

  pub staged : (rs : List (List ℕ)) (p block old : List ℕ) (at : ℕ) → at ≡ length (front f rs) + 1 → block ≡ record_code f rs p ++ 0 ∷ [] → IsClosedAfter f rs old → IsStaged rs p (spliced at block old)
  unfolding IsStaged
  staged rs p block old at is is_block closed =
      let n = length (front f rs) + 1 in
      let head : List ℕ = front f rs ++ 0 ∷ [] in
      let split : old ≡ head ++ drop n old = closed ∙ sym (append_assoc (front f rs) (0 ∷ []) (drop n old)) in
      let done : spliced at block (head ++ drop n old) ≡ head ++ (block ++ drop (length block) (drop n old)) =
      spliced_seam at block head (drop n old) (omega (arith, length-append (front f rs) (0 ∷ []))) in
      let rest = drop (length block) (drop n old) in (
        rest,
        ap (spliced at block) split ∙ (done ∙ (append_assoc (front f rs) (0 ∷ []) (block ++ rest)
            ∙ ap (λ (l : List ℕ). front f rs ++ 0 ∷ l) (ap (λ (l : List ℕ). l ++ rest) is_block ∙ append_assoc (record_code f rs p) (0 ∷ []) rest))),
      )

  pub staged_closed : (rs : List (List ℕ)) (p bytes : List ℕ) → IsStaged rs p bytes → IsClosedAfter f rs bytes
  unfolding IsStaged
  staged_closed rs p bytes is = closed_intro rs bytes _ is.1

  -- its gate is opened
  pub opens : (rs : List (List ℕ)) (p bytes : List ℕ) (gate : ℕ) → gate ≡ length (front f rs) → IsStaged rs p bytes → IsClosedAfter f (rs ++ p ∷ []) (spliced gate (1 ∷ []) bytes)
  unfolding IsStaged
  opens rs p bytes gate is ready =
      let done : spliced gate (1 ∷ []) bytes ≡ front f rs ++ 1 ∷ (record_code f rs p ++ 0 ∷ ready.0) =
      ap (spliced gate (1 ∷ [])) ready.1 ∙ spliced_seam gate (1 ∷ []) (front f rs) (0 ∷ (record_code f rs p ++ 0 ∷ ready.0)) is in
      closed_intro (rs ++ p ∷ []) _ ready.0
      (done ∙ (sym (append_assoc (front f rs) (1 ∷ record_code f rs p) (0 ∷ ready.0)) ∙ ap (λ (l : List ℕ). l ++ 0 ∷ ready.0) (sym (front_push rs p))))

  -- a gate is closed that was closed, or open before one more record
  pub closes : (rs : List (List ℕ)) (bytes : List ℕ) (gate : ℕ) → gate ≡ length (front f rs) → IsClosedAfter f rs bytes → IsClosedAfter f rs (spliced gate (0 ∷ []) bytes)
  closes rs bytes gate is closed =
      closed_intro rs _ _ (ap (spliced gate (0 ∷ [])) closed ∙ spliced_seam gate (0 ∷ []) (front f rs) (0 ∷ drop (length (front f rs) + 1) bytes) is)

  pub closes_again : (rs : List (List ℕ)) (p bytes : List ℕ) (gate : ℕ) → gate ≡ length (front f rs) → IsClosedAfter f (rs ++ p ∷ []) bytes → IsClosedAfter f rs (spliced gate (0 ∷ []) bytes)
  closes_again rs p bytes gate is closed =
      closed_intro rs _ _ (ap (spliced gate (0 ∷ [])) (opened_split rs p bytes closed)
      ∙ spliced_seam gate (0 ∷ []) (front f rs) (1 ∷ (record_code f rs p ++ 0 ∷ drop (length (front f (rs ++ p ∷ [])) + 1) bytes)) is)
