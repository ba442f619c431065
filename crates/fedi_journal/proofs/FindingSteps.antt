-- What a scan of the gates of a disk has found so far.
use Rattle.std.proofs.Common.{◌≡◌, inl, inr, ⊎_elim, true, ℕ, ◌+◌, ◌<◌, ◌≤◌, ◌^◌, List, [], ◌∷◌, ◌++◌, length, take, drop, refl, sym, ◌∙◌, ap, subst, arith, length-drop, take-append-drop, length-take-le}
use Rattle.std.specs.Prelude.{Option, Some, None, option_map}
use Rattle.std.specs.Int.{from_be_bytes, w64}
use Rattle.std.proofs.lemmas.Nat.{from_be_bytes-to_be_bytes_8}
use Rattle.std.proofs.lemmas.List.{drop_more, drop-drop, drop-take, take-take, append-nil}
use Rattle.fedi_outside.specs.Disks.{DiskCrashes, DiskState, Elapses, LeavesOnly}
use Rattle.fedi_outside.specs.Images.{AreShort, Format, IsClosedAfter, IsFormat, front, gates_of, kept_in, record_code, size_at, size_code}
use Rattle.fedi_outside.specs.Known.{IsKnown, are_apart, records_told}
use Rattle.fedi_outside.specs.Opening.{IsDamagedAt, IsFound}
use Rattle.fedi_outside.proofs.ImageLemmas.{closed_intro, front_push, kept_front, kept_image, length_front_push}
use Rattle.fedi_outside.proofs.Gates.{gates_grown, length_gates}
use Rattle.fedi_outside.proofs.ImageSteps.{no_doubt}
use Rattle.fedi_journal.specs.Finding.{IsGate, IsScanned, IsSealed}
use Rattle.fedi_journal.specs.Seals.{IsFollowed}
use Rattle.fedi_journal.specs.declared.finding.Gate.TheVariants.{Closed, Open, Bad}

-- ---- the number after a gate

pub number_behind : (all head number : List ℕ) (gate : ℕ) → head ≡ take 9 (drop gate all) → number ≡ drop 1 head → take 8 (drop 1 (drop gate all)) ≡ number
number_behind all head number gate is_head is_number = sym (is_number ∙ (ap (drop 1) is_head ∙ drop-take 1 8 (drop gate all)))

pub size_spelled : (bytes : List ℕ) (n : ℕ) → n < 2 ^ 64 → take 8 (drop 1 bytes) ≡ size_code n → size_at bytes ≡ n
unfolding size_at size_code
size_spelled bytes n fits spelled = ap (from_be_bytes w64) spelled ∙ from_be_bytes-to_be_bytes_8 n fits

-- ---- records

short_push : (rs : List (List ℕ)) (r : List ℕ) → AreShort rs → length r < 2 ^ 64 → AreShort (rs ++ r ∷ [])
short_push [] r short fits = (fits, tt)
short_push (x ∷ rs) r short fits = (short.0, short_push rs r short.1 fits)

take_sum : (n m : ℕ) (l : List ℕ) → take (n + m) l ≡ take n l ++ take m (drop n l)
take_sum n m l =
    sym (take-append-drop n (take (n + m) l)) ∙ (ap (λ (x : List ℕ). x ++ drop n (take (n + m) l)) (take-take n (n + m) l (omega arith)) ∙ ap (λ (x : List ℕ). take n l ++ x) (drop-take n m l))

-- what follows a gate and a length
pub behind_head : (gate : ℕ) (bytes : List ℕ) → drop 8 (drop 1 (drop gate bytes)) ≡ drop (gate + 9) bytes
behind_head gate bytes = drop-drop 8 1 (drop gate bytes) ∙ drop-drop 9 gate bytes

nine : (size width : ℕ) → 9 + width + size ≡ 1 + (8 + (size + width))
nine size width = omega arith

spelled_record : (f : Format) (before : List (List ℕ)) (r : List ℕ) → size_code (length r) ++ (r ++ f.seal before r) ≡ record_code f before r
unfolding record_code
spelled_record f before r = refl

module _ (f : Format) (ok : IsFormat f) where
  pub scan_starts : {S : Type 0} (after : List (List ℕ) → S) (seal : S) (bytes : List ℕ) → seal ≡ after [] → take 8 bytes ≡ f.magic → IsScanned f after [] 8 seal bytes
  unfolding front
  scan_starts after seal bytes first is = ([], record { short = tt; ends = sym (ap length (append-nil f.magic) ∙ ok.eight); spelled = is ∙ sym (append-nil f.magic) }, refl, first)

  pub scan_ends : {S : Type 0} (after : List (List ℕ) → S) (seal : S) (gates bytes : List ℕ) (gate : ℕ) → IsScanned f after gates gate seal bytes → IsGate f.width (drop gate bytes) Closed → IsFound f gates gate bytes
  scan_ends after seal gates bytes gate scanned closed =
      let rs = scanned.0 in
      let begins = scanned.1 in
      let split : bytes ≡ front f rs ++ drop gate bytes = sym (take-append-drop gate bytes) ∙ ap (λ (l : List ℕ). l ++ drop gate bytes) begins.spelled in
      let here : drop gate bytes ≡ 0 ∷ drop 1 (drop gate bytes) = drop_more (drop gate bytes) 0 0 closed.0 ∙ ap (λ (n : ℕ). n ∷ drop 1 (drop gate bytes)) closed.1 in
      (rs, record { short = begins.short; spelled = closed_intro f ok rs bytes (drop 1 (drop gate bytes)) (split ∙ ap (λ (l : List ℕ). front f rs ++ l) here) }, begins.ends, scanned.2)

  pub scan_damaged : {S : Type 0} (after : List (List ℕ) → S) (seal : S) (gates bytes : List ℕ) (gate : ℕ) → IsScanned f after gates gate seal bytes → IsGate f.width (drop gate bytes) Bad → IsDamagedAt f gate bytes
  scan_damaged after seal gates bytes gate scanned bad =
      (scanned.0, scanned.1, record { some = bad.0; not_closed = bad.1; not_whole = λ whole. omega (arith, whole.long, bad.2 whole.opened) })

  -- the record of this length after the gate, and what follows it, are those of the bytes
  record_there : (bytes : List ℕ) (gate size : ℕ) → size < 2 ^ 64 → IsGate f.width (drop gate bytes) (Open size)
      → (take (size_at (drop gate bytes)) (drop 9 (drop gate bytes)) ≡ take size (drop (gate + 9) bytes)) × (drop (9 + size_at (drop gate bytes)) (drop gate bytes) ≡ drop (gate + 9 + size) bytes)
  record_there bytes gate size fits is_open =
      let number = size_spelled (drop gate bytes) size fits is_open.1 in
      let sum : gate + (9 + size) ≡ gate + 9 + size = omega arith in (
        ap (λ (n : ℕ). take n (drop 9 (drop gate bytes))) number ∙ ap (take size) (drop-drop 9 gate bytes),
        ap (λ (n : ℕ). drop (9 + n) (drop gate bytes)) number ∙ (drop-drop (9 + size) gate bytes ∙ ap (λ (n : ℕ). drop n bytes) sum),
      )

  -- a record that is not followed by its seal
  pub scan_unsealed : {S : Type 0} (after : List (List ℕ) → S) (seal : S) (gates bytes : List ℕ) (gate size : ℕ) → size < 2 ^ 64 → IsScanned f after gates gate seal bytes → IsGate f.width (drop gate bytes) (Open size)
      → ((rs : List (List ℕ)) → seal ≡ after rs → IsFollowed f after rs (take size (drop (gate + 9) bytes)) (drop (gate + 9 + size) bytes) None) → IsDamagedAt f gate bytes
  scan_unsealed after seal gates bytes gate size fits scanned is_open unsealed =
      let rs = scanned.0 in
      let there = record_there bytes gate size fits is_open in (
        rs,
        scanned.1,
        record {
          some = omega (arith, is_open.2);
          not_closed = λ zero. absurd (omega (arith, zero, is_open.0));
          not_whole = λ whole. unsealed rs scanned.3 (ap (take f.width) (sym there.1) ∙ (whole.sealed ∙ ap (f.seal rs) there.0));
        },
      )

  pub scan_goes_on : {S : Type 0} (after : List (List ℕ) → S) (seal next : S) (gates bytes : List ℕ) (gate size : ℕ) → size < 2 ^ 64 → IsScanned f after gates gate seal bytes → IsGate f.width (drop gate bytes) (Open size)
      → ((rs : List (List ℕ)) → seal ≡ after rs → IsFollowed f after rs (take size (drop (gate + 9) bytes)) (drop (gate + 9 + size) bytes) (Some next))
      → IsScanned f after (gates ++ gate ∷ []) (gate + (9 + f.width + size)) next bytes
  scan_goes_on after seal next gates bytes gate size fits scanned is_open sealed =
      let rs = scanned.0 in
      let begins = scanned.1 in
      let here = drop gate bytes in
      let behind = drop 1 here in
      let payload = drop (gate + 9) bytes in
      let r = take size payload in
      let followed = sealed rs scanned.3 in
      let head : drop 8 behind ≡ payload = behind_head gate bytes in
      let long : 9 + f.width + size ≤ length behind = omega (arith, length-drop 1 here, is_open.2) in
      let size_r : length r ≡ size = length-take-le size payload (omega (arith, ap length (sym head), length-drop 8 behind, long)) in
      let sealed_r : take (size + f.width) payload ≡ r ++ f.seal rs r =
      take_sum size f.width payload ∙ ap (λ (l : List ℕ). r ++ l) (ap (take f.width) (drop-drop size (gate + 9) bytes) ∙ followed.1) in
      let inner : take (8 + (size + f.width)) behind ≡ record_code f rs r =
      take_sum 8 (size + f.width) behind ∙ (ap (λ (l : List ℕ). l ++ take (size + f.width) (drop 8 behind)) (is_open.1 ∙ ap size_code (sym size_r))
      ∙ (ap (λ (l : List ℕ). size_code (length r) ++ take (size + f.width) l) head ∙ (ap (λ (l : List ℕ). size_code (length r) ++ l) sealed_r ∙ spelled_record f rs r))) in
      let opened : here ≡ 1 ∷ behind = drop_more here 0 0 (omega (arith, is_open.2)) ∙ ap (λ (n : ℕ). n ∷ behind) is_open.0 in
      let block : take (9 + f.width + size) here ≡ 1 ∷ record_code f rs r =
      ap (λ (n : ℕ). take n here) (nine size f.width) ∙ (take_sum 1 (8 + (size + f.width)) here ∙ (ap (λ (l : List ℕ). take 1 l ++ take (8 + (size + f.width)) behind) opened ∙ ap (λ (l : List ℕ). 1 ∷ l) inner)) in
      let spelled : take (gate + (9 + f.width + size)) bytes ≡ front f (rs ++ r ∷ []) =
      take_sum gate (9 + f.width + size) bytes ∙ (ap (λ (l : List ℕ). l ++ take (9 + f.width + size) here) begins.spelled ∙ (ap (λ (l : List ℕ). front f rs ++ l) block ∙ sym (front_push f ok rs r))) in (
        rs ++ r ∷ [],
        record {
          short = short_push rs r begins.short (omega (arith, size_r, fits));
          ends = omega (arith, begins.ends, length_front_push f ok rs r, size_r);
          spelled = spelled;
        },
        gates_grown f ok rs r gates gate scanned.2 begins.ends,
        followed.0,
      )

  -- what is remembered of the records is so by their count
  pub scan_sealed : {S : Type 0} (after : List (List ℕ) → S) (seal : S) (gates bytes : List ℕ) (gate : ℕ) → IsScanned f after gates gate seal bytes → IsSealed f after (length gates) seal bytes
  scan_sealed after seal gates bytes gate scanned =
      let split : bytes ≡ front f scanned.0 ++ drop gate bytes = sym (take-append-drop gate bytes) ∙ ap (λ (l : List ℕ). l ++ drop gate bytes) scanned.1.spelled in
      let same : kept_in f (length gates) bytes ≡ scanned.0 = ap (λ (n : ℕ). kept_in f n bytes) (ap length scanned.2 ∙ length_gates f ok 8 scanned.0)
      ∙ (ap (kept_in f (length scanned.0)) split ∙ kept_front f ok scanned.0 (drop gate bytes) scanned.1.short) in
      scanned.3 ∙ ap after (sym same)

  -- ---- what is known then

  found_kept : (gates bytes : List ℕ) (end : ℕ) (found : IsFound f gates end bytes) → kept_in f (length gates) bytes ≡ found.0
  found_kept gates bytes end found =
      ap (λ (n : ℕ). kept_in f n bytes) (ap length found.3 ∙ length_gates f ok 8 found.0) ∙ kept_image f ok found.0 bytes found.1.short found.1.spelled

  pub opened_records : (s : DiskState) (gates bytes : List ℕ) (end : ℕ) → s.reads ≡ Some bytes → (found : IsFound f gates end bytes) → records_told f (length gates) s ≡ Some found.0
  opened_records s gates bytes end is found =
      ap (λ (o : Option (List ℕ)). option_map (kept_in f (length gates)) o) is ∙ ap (λ (rs : List (List ℕ)). Some rs) (found_kept gates bytes end found)

  pub found_known : (s : DiskState) (c : DiskCrashes) (end : ℕ) (gates : List ℕ) → ((bytes : List ℕ) → s.reads ≡ Some bytes → IsFound f gates end bytes)
      → ((bytes : List ℕ) → s.reads ≡ Some bytes → LeavesOnly c bytes) → are_apart (9 + f.width) gates end ≡ true → end < s.size → end < 2 ^ 64 → IsKnown f s c end gates None
  found_known s c end gates found only apart inside fits = record {
    inside = inside;
    apart = apart;
    fits = fits;
    fits_doubt = no_doubt f ok end;
    ends = λ bytes is. let here = found bytes is in here.2 ∙ ap (λ (l : List (List ℕ)). length (front f l)) (sym (found_kept gates bytes end here));
    indexed = λ bytes is. let here = found bytes is in here.3 ∙ ap (gates_of f 8) (sym (found_kept gates bytes end here));
    stands = λ bytes image is left.
        let here = found bytes is in
        let closed : IsClosedAfter f (kept_in f (length gates) bytes) image =
        subst (λ (l : List (List ℕ)). IsClosedAfter f l image) (sym (found_kept gates bytes end here)) (subst (IsClosedAfter f here.0) (sym (only bytes is image left)) here.1.spelled) in
        record { closed = λ _. closed; opened = λ _. closed };
  }
