-- What the first and the last byte of a file that is filled make of it.
use Rattle.std.proofs.Common.{◌≡◌, ◌⊎◌, inl, inr, ⊎_elim, ℕ, zero, suc, ◌+◌, ◌<◌, ◌≤◌, ◌^◌, true, List, [], ◌∷◌, ◌++◌, length, take, drop, refl, sym, ◌∙◌, ap, subst, append_assoc, arith, length-append}
use Rattle.std.specs.Prelude.{Option, Some, None, IfSome, option_map, slice_get, Result, Ok, Err, IfOk}
use Rattle.fedi_outside.specs.Disks.{DiskCrashes, DiskState, Elapses, IsTorn, IsUntouched, LeavesOnly, MayTear, after_write, spliced}
use Rattle.fedi_outside.specs.Images.{AreShort, IsClosedAfter, IsImage, blocks, front, gates_of, kept_in, record_code}
use Rattle.fedi_outside.specs.Causes.{next_count}
use Rattle.fedi_outside.specs.Keepers.{KeeperState, MayLeave}
use Rattle.fedi_outside.specs.Known.{IsKnown, are_apart, records_told}
use Rattle.fedi_outside.specs.Opening.{IsFound}
use Rattle.fedi_outside.proofs.ImageLemmas.{closed_intro, kept_image, length_front, length_kept, length_record}
use Rattle.fedi_outside.proofs.ImageSteps.{images_left, of_some}
use Rattle.fedi_outside.proofs.Openings.{begins}
use Rattle.fedi_journal.specs.ChainLaws.{chained_ok, hidden_ok}
use Rattle.fedi_journal.specs.Chains.{IsHidden, chained, hidden}
use Rattle.fedi_journal.specs.Files.{HasRecords}
use Rattle.fedi_journal.specs.Hiding.{IsCopied, IsHiddenOr, IsNotFilled, IsTooLong}
use Rattle.fedi_journal.specs.declared.faults.CopyFault.{CopyFault}
use Rattle.fedi_journal.specs.declared.faults.CopyFault.TheVariants as copies
use Rattle.fedi_journal.specs.declared.faults.CopyFault.TheVariants.{Source, Full}
use Rattle.fedi_journal.proofs.FindingSteps.{found_known}
use Rattle.fedi_journal.proofs.KeeperSteps.{some_back}

-- ---- the two formats differ by one byte

same_record : (before : List (List ℕ)) (r : List ℕ) → record_code hidden before r ≡ record_code chained before r
unfolding record_code
same_record before r = refl

same_blocks : (before rs : List (List ℕ)) → blocks hidden before rs ≡ blocks chained before rs
same_blocks before [] = refl
same_blocks before (r ∷ rs) =
    ap (λ (l : List ℕ). 1 ∷ (l ++ blocks hidden (before ++ r ∷ []) rs)) (same_record before r)
    ∙ ap (λ (l : List ℕ). 1 ∷ (record_code chained before r ++ l)) (same_blocks (before ++ r ∷ []) rs)

pub same_length : (rs : List (List ℕ)) → length (front hidden rs) ≡ length (front chained rs)
same_length rs = omega (arith, length_front hidden hidden_ok rs, length_front chained chained_ok rs, ap length (same_blocks [] rs))

pub same_gates : (at : ℕ) (rs : List (List ℕ)) → gates_of hidden at rs ≡ gates_of chained at rs
same_gates at [] = refl
same_gates at (r ∷ rs) = ap (λ (l : List ℕ). at ∷ l) (same_gates (at + (41 + length r)) rs)

-- a hidden file begins as such
pub image_hidden : (rs : List (List ℕ)) (bytes : List ℕ) → IsImage hidden rs bytes → IsHidden bytes
image_hidden rs bytes image = begins hidden hidden_ok rs bytes _ image.spelled

hidden_split : (rs : List (List ℕ)) (rest : List ℕ) → front hidden rs ++ rest ≡ 70 ∷ 69 ∷ 68 ∷ 73 ∷ 74 ∷ 82 ∷ 78 ∷ 48 ∷ (blocks hidden [] rs ++ rest)
unfolding front
hidden_split rs rest = refl

chained_split : (rs : List (List ℕ)) (rest : List ℕ) → front chained rs ++ rest ≡ 70 ∷ 69 ∷ 68 ∷ 73 ∷ 74 ∷ 82 ∷ 78 ∷ 50 ∷ (blocks chained [] rs ++ rest)
unfolding front
chained_split rs rest = refl

digit_written : (tail : List ℕ) → spliced 7 (50 ∷ []) (70 ∷ 69 ∷ 68 ∷ 73 ∷ 74 ∷ 82 ∷ 78 ∷ 48 ∷ tail) ≡ 70 ∷ 69 ∷ 68 ∷ 73 ∷ 74 ∷ 82 ∷ 78 ∷ 50 ∷ tail
digit_written tail = refl

-- with its last digit it is a journal
pub revealed : (rs : List (List ℕ)) (bytes : List ℕ) → IsClosedAfter hidden rs bytes → IsClosedAfter chained rs (spliced 7 (50 ∷ []) bytes)
revealed rs bytes closed =
    let rest = drop (length (front hidden rs) + 1) bytes in
    let tail = blocks hidden [] rs ++ 0 ∷ rest in
    closed_intro chained chained_ok rs (spliced 7 (50 ∷ []) bytes) rest
    (ap (spliced 7 (50 ∷ [])) (closed ∙ hidden_split rs (0 ∷ rest)) ∙ (digit_written tail
    ∙ (ap (λ (l : List ℕ). 70 ∷ 69 ∷ 68 ∷ 73 ∷ 74 ∷ 82 ∷ 78 ∷ 50 ∷ (l ++ 0 ∷ rest)) (same_blocks [] rs) ∙ sym (chained_split rs (0 ∷ rest)))))

pub image_revealed : (rs : List (List ℕ)) (bytes : List ℕ) → IsImage hidden rs bytes → IsImage chained rs (spliced 7 (50 ∷ []) bytes)
image_revealed rs bytes image = record { short = image.short; spelled = revealed rs bytes image.spelled }

-- while that byte is written, it is hidden or a journal of these records
pub digit_torn : (rs : List (List ℕ)) (old new : List ℕ) → IsImage hidden rs old → 7 < length old → IsTorn 7 (50 ∷ []) old new → IsHiddenOr rs new
digit_torn rs old new image long torn =
    ⊎_elim (λ same. inl (subst IsHidden (sym same) (image_hidden rs old image))) (λ done. inr (subst (IsImage chained rs) (sym done) (image_revealed rs old image)))
    (torn.single refl long)

-- ---- several calls

pub elapses_more : (a b c : DiskCrashes) (P : List ℕ → Type 0) → Elapses a b P → Elapses b c P → Elapses a c P
elapses_more a b c P one two = record {
  clock = omega (arith, one.clock, two.clock);
  now = two.now;
  nothing_else = λ moment image past left. ⊎_elim (λ here. one.nothing_else moment image past here) (λ new_one. inr new_one) (two.nothing_else moment image (omega (arith, past, one.clock)) left);
  keeps = λ moment image past was. two.keeps moment image (omega (arith, past, one.clock)) (one.keeps moment image past was);
}

pub elapses_weak : (a b : DiskCrashes) (P Q : List ℕ → Type 0) → ((image : List ℕ) → P image → Q image) → Elapses a b P → Elapses a b Q
elapses_weak a b P Q weak one = record {
  clock = one.clock;
  now = λ image left. weak image (one.now image left);
  nothing_else = λ moment image past left. ⊎_elim (λ was. inl was) (λ new_one. inr (weak image new_one)) (one.nothing_else moment image past left);
  keeps = one.keeps;
}

-- ---- the last byte

some_of : (o after : Option (List ℕ)) (g : List ℕ → List ℕ) → after ≡ option_map g o → (bytes : List ℕ) → after ≡ Some bytes → (here : List ℕ) × (o ≡ Some here) × (bytes ≡ g here)
some_of None after g is bytes told = absurd (cc (is, told))
some_of (Some here) after g is bytes told = let same : g here ≡ bytes = cc (is, told) in (here, refl, sym same)

-- what reads give of a hidden file
read_image : (s : DiskState) (c : DiskCrashes) (end : ℕ) (gates : List ℕ) → IsKnown hidden s c end gates None → (bytes image : List ℕ) → s.reads ≡ Some bytes → c.may_leave image → IsImage hidden (kept_in hidden (length gates) bytes) image
read_image s c end gates known bytes image is left =
    let told : records_told hidden (length gates) s ≡ Some (kept_in hidden (length gates) bytes) = ap (option_map (kept_in hidden (length gates))) is in
    let found = images_left hidden hidden_ok s c end gates None known (kept_in hidden (length gates) bytes) told image left in
    subst (λ (rs : List (List ℕ)). IsImage hidden rs image) found.2 found.1

pub revealed_found : (old new : DiskState) (before : DiskCrashes) (end : ℕ) (gates : List ℕ) → IsKnown hidden old before end gates None → IfSome old.reads before.may_leave → new ≡ after_write 7 (50 ∷ []) old
    → (bytes : List ℕ) → new.reads ≡ Some bytes → IsFound chained gates end bytes
revealed_found old new before end gates known stay written bytes is =
    let past = some_of old.reads new.reads (spliced 7 (50 ∷ [])) (ap (λ (d : DiskState). d.reads) written) bytes is in
    let rs = kept_in hidden (length gates) past.0 in
    let image = read_image old before end gates known past.0 past.0 past.1 (of_some old.reads before.may_leave stay past.0 past.1) in (
      rs,
      subst (IsImage chained rs) (sym past.2) (image_revealed rs past.0 image),
      known.ends past.0 past.1 ∙ same_length rs,
      known.indexed past.0 past.1 ∙ same_gates 8 rs,
    )

pub revealed_known : (old new : DiskState) (before after : DiskCrashes) (end : ℕ) (gates : List ℕ) → IsKnown hidden old before end gates None → IfSome old.reads before.may_leave → new ≡ after_write 7 (50 ∷ []) old
    → IfSome new.reads (LeavesOnly after) → IsKnown chained new after end gates None
revealed_known old new before after end gates known stay written durable =
    found_known chained chained_ok new after end gates (revealed_found old new before end gates known stay written) (of_some new.reads (LeavesOnly after) durable)
    known.apart (omega (arith, known.inside, ap (λ (d : DiskState). d.size) written)) known.fits

-- the records stay
pub revealed_records : (old new : DiskState) (before : DiskCrashes) (end : ℕ) (gates : List ℕ) → IsKnown hidden old before end gates None → IfSome old.reads before.may_leave → new ≡ after_write 7 (50 ∷ []) old
    → records_told chained (length gates) new ≡ records_told hidden (length gates) old
revealed_records old new before end gates known stay written = each old.reads refl
  where
    reads : new.reads ≡ option_map (spliced 7 (50 ∷ [])) old.reads
    reads = ap (λ (d : DiskState). d.reads) written

    each : (o : Option (List ℕ)) → old.reads ≡ o → option_map (kept_in chained (length gates)) new.reads ≡ option_map (kept_in hidden (length gates)) old.reads
    each None is = ap (option_map (kept_in chained (length gates))) (reads ∙ ap (option_map (spliced 7 (50 ∷ []))) is) ∙ sym (ap (option_map (kept_in hidden (length gates))) is)
    each (Some here) is =
        let rs = kept_in hidden (length gates) here in
        let image = image_revealed rs here (read_image old before end gates known here here is (of_some old.reads before.may_leave stay here is)) in
        let same : kept_in chained (length gates) (spliced 7 (50 ∷ []) here) ≡ rs =
        ap (λ (n : ℕ). kept_in chained n (spliced 7 (50 ∷ []) here)) (sym (length_kept hidden hidden_ok (length gates) here)) ∙ kept_image chained chained_ok rs (spliced 7 (50 ∷ []) here) image.short image.spelled in
        ap (option_map (kept_in chained (length gates))) (reads ∙ ap (option_map (spliced 7 (50 ∷ []))) is) ∙ (ap (λ (l : List (List ℕ)). Some l) same ∙ sym (ap (option_map (kept_in hidden (length gates))) is))

-- what a crash may leave while it is written
pub revealed_passes : (old : DiskState) (before after : DiskCrashes) (end : ℕ) (gates : List ℕ) → IsKnown hidden old before end gates None → (kept : List (List ℕ)) → records_told hidden (length gates) old ≡ Some kept
    → Elapses before after (MayTear 7 (50 ∷ []) before) → Elapses before after (IsHiddenOr kept)
revealed_passes old before after end gates known kept told time =
    elapses_weak before after (MayTear 7 (50 ∷ []) before) (IsHiddenOr kept) (λ image torn.
    let found = images_left hidden hidden_ok old before end gates None known kept told torn.0 torn.1 in
    let here = subst (λ (rs : List (List ℕ)). IsImage hidden rs torn.0) found.2 found.1 in
    digit_torn kept torn.0 image here (long kept torn.0 here) torn.2) time
  where
    long : (rs : List (List ℕ)) (bytes : List ℕ) → IsImage hidden rs bytes → 7 < length bytes
    long rs bytes image = omega (arith, ap length image.spelled, length-append (front hidden rs) (0 ∷ drop (length (front hidden rs) + 1) bytes), length_front hidden hidden_ok rs)

-- an image that an append leaves of a hidden file is hidden
pub added_hidden : (kept : List (List ℕ)) (doubt : Option (List ℕ)) (image : List ℕ) → HasRecords hidden kept doubt image → IsHidden image
added_hidden kept doubt image has = image_hidden has.0 image has.1

-- what a crash leaves of a hidden file that is not in doubt
pub hidden_now : (s : DiskState) (c : DiskCrashes) (end : ℕ) (gates : List ℕ) → IsKnown hidden s c end gates None → (bytes : List ℕ) → s.reads ≡ Some bytes → (image : List ℕ) → c.may_leave image → IsHidden image
hidden_now s c end gates known bytes is image left = image_hidden (kept_in hidden (length gates) bytes) image (read_image s c end gates known bytes image is left)

-- no call
pub hidden_starts : (s : DiskState) (c : DiskCrashes) (end : ℕ) (gates : List ℕ) → IsKnown hidden s c end gates None → (rs : List (List ℕ)) → records_told hidden (length gates) s ≡ Some rs → Elapses c c IsHidden
hidden_starts s c end gates known rs told =
    let here = some_back s.reads (kept_in hidden (length gates)) rs told in
    record { clock = omega arith; now = hidden_now s c end gates known here.0 here.1; nothing_else = λ moment image past left. inl left; keeps = λ moment image past left. left }

-- a call that only reads
pub hidden_read : (s t : DiskState) (c d : DiskCrashes) (end : ℕ) (gates : List ℕ) → IsKnown hidden s c end gates None → IsUntouched s t c d → (rs : List (List ℕ)) → records_told hidden (length gates) s ≡ Some rs → Elapses c d IsHidden
hidden_read s t c d end gates known same rs told =
    let here = some_back s.reads (kept_in hidden (length gates)) rs told in
    elapses_weak c d c.may_leave IsHidden (hidden_now s c end gates known here.0 here.1) (same.crashes here.0 here.1)

-- ---- filling

take_more : (kept : List (List ℕ)) (place : ℕ) (r : List ℕ) → slice_get kept place ≡ Some r → take place kept ++ r ∷ [] ≡ take (suc place) kept
take_more [] place r is = absurd (cc is)
take_more (x ∷ xs) zero r is = let same : x ≡ r = cc is in ap (λ (y : List ℕ). y ∷ []) (sym same)
take_more (x ∷ xs) (suc n) r is = ap (λ (l : List (List ℕ)). x ∷ l) (take_more xs n r is)

pub taken_more : (o : Option (List ℕ)) (kept : List (List ℕ)) (place : ℕ) (r : List ℕ) → slice_get kept place ≡ Some r
    → option_map (λ rs. rs ++ r ∷ []) (option_map (λ _. take place kept) o) ≡ option_map (λ _. take (place + 1) kept) o
taken_more None kept place r is = refl
taken_more (Some bytes) kept place r is =
    let next : suc place ≡ place + 1 = omega arith in
    ap (λ (l : List (List ℕ)). Some l) (take_more kept place r is ∙ ap (λ (n : ℕ). take n kept) next)

pub taken_none : (s : DiskState) (kept : List (List ℕ)) → records_told hidden 0 s ≡ option_map (λ _. take 0 kept) s.reads
unfolding kept_in
taken_none s kept = refl

take_whole : (kept : List (List ℕ)) → take (length kept) kept ≡ kept
take_whole [] = refl
take_whole (x ∷ xs) = ap (λ (l : List (List ℕ)). x ∷ l) (take_whole xs)

pub taken_whole : (kept : List (List ℕ)) (place held : ℕ) → place ≡ held → held ≡ length kept → take place kept ≡ kept
taken_whole kept place held at count = ap (λ (n : ℕ). take n kept) (at ∙ count) ∙ take_whole kept

pub if_some : (o : Option (List ℕ)) (Q : Type 0) → ((bytes : List ℕ) → o ≡ Some bytes → Q) → IfSome o (λ _. Q)
if_some None Q each = tt
if_some (Some bytes) Q each = each bytes refl

pub made_told : (g : List ℕ → List (List ℕ)) (rs : List (List ℕ)) (after before : Option (List ℕ)) → option_map g after ≡ option_map (λ _. rs) before → IfSome after (λ _. option_map g after ≡ Some rs)
made_told g rs None before same = tt
made_told g rs (Some bytes) None same = absurd (cc same)
made_told g rs (Some bytes) (Some here) same = same

pub hidden_is_either : (kept : List (List ℕ)) (image : List ℕ) → IsHidden image → IsHiddenOr kept image
hidden_is_either kept image is = inl is

pub if_ok : {T E : Type 0} {P Q : T → Type 0} (r : Result T E) → ((x : T) → P x → Q x) → IfOk r P → IfOk r Q
if_ok (Ok x) each p = each x p
if_ok (Err e) each p = tt

pub of_told : (o : Option (List (List ℕ))) (P : List (List ℕ) → Type 0) → IfSome o P → (rs : List (List ℕ)) → o ≡ Some rs → P rs
of_told None P told rs is = absurd (cc is)
of_told (Some here) P told rs is = let same : here ≡ rs = cc is in subst P same told

-- the first fault of a copy is the only one
pub unfilled : (fault : CopyFault) (first was from before after : KeeperState) (start : ℕ) → was ≡ first → before.faults ≡ start → IsCopied {T = Unit {0}} (Err fault) was from before after → IsNotFilled fault first.faults from.faults start after.faults
unfilled Source first was from before after start same none copied = (copied.0 ∙ ap (λ (k : KeeperState). next_count k.faults) same, copied.1 ∙ none)
unfilled copies.Failed first was from before after start same none copied = (copied.0 ∙ ap (λ (k : KeeperState). k.faults) same, copied.1 ∙ ap next_count none)
unfilled Full first was from before after start same none copied = (copied.0 ∙ ap (λ (k : KeeperState). k.faults) same, copied.1 ∙ none)
unfilled copies.Memory first was from before after start same none copied = (copied.0 ∙ ap (λ (k : KeeperState). k.faults) same, copied.1 ∙ none)

-- a record that had no room is too long, and so are the records that it is one of
front_from : (before rs : List (List ℕ)) (r : List ℕ) (place : ℕ) → slice_get rs place ≡ Some r → length (blocks chained before (take place rs)) + (41 + length r) ≤ length (blocks chained before rs)
front_from before [] r place is = absurd (cc is)
front_from before (x ∷ xs) r zero is =
    let same : x ≡ r = cc is in
    omega (arith, length-append (record_code chained before x) (blocks chained (before ++ x ∷ []) xs), length_record chained chained_ok before x, ap length same)
front_from before (x ∷ xs) r (suc n) is =
    omega (arith, length-append (record_code chained before x) (blocks chained (before ++ x ∷ []) xs), length-append (record_code chained before x) (blocks chained (before ++ x ∷ []) (take n xs)), front_from (before ++ x ∷ []) xs r n is)

pub too_long : (kept : List (List ℕ)) (place : ℕ) (r : List ℕ) (end : ℕ) → slice_get kept place ≡ Some r → end ≡ length (front hidden (take place kept)) → 2 ^ 62 < end + (42 + length r) → IsTooLong kept
too_long kept place r end is at full =
    omega (arith, full, at, same_length (take place kept), length_front chained chained_ok (take place kept), length_front chained chained_ok kept, front_from [] kept r place is)
