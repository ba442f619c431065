-- A byte that is read and written again.
use Rattle.std.proofs.Common.{◌≡◌, inl, inr, ⊎_elim, ℕ, zero, suc, ◌+◌, ◌<◌, true, List, [], ◌∷◌, ◌++◌, length, get_or, take, drop, refl, sym, ◌∙◌, ap, subst, arith, take-append-drop, length-take-le, length-drop}
use Rattle.std.specs.Prelude.{Option, Some, None, option_map, slice_get, IfSome, Result, Ok, Err, OnOk, OnErr}
use Rattle.std.proofs.lemmas.List.{drop-drop}
use Rattle.fedi_outside.specs.Disks.{DiskCrashes, DiskState, Elapses, HasTorn, IsTorn, IsUntouched, LeavesOnly, MayTear, TearsTold, after_write, spliced}
use Rattle.fedi_outside.specs.Known.{are_apart}
use Rattle.fedi_outside.proofs.Gates.{apart_at}
use Rattle.fedi_outside.proofs.ImageSteps.{of_some}
use Rattle.fedi_outside.proofs.Untouched.{elapses_on, untouched_by, untouched_then}

-- ---- what is untouched

-- what a synced disk has stays synced while the disk is untouched
pub still_synced : (a b : DiskState) (x y : DiskCrashes) → IsUntouched a b x y → IfSome a.reads (LeavesOnly x) → IfSome b.reads (LeavesOnly y)
still_synced a b x y same synced = subst (λ (o : Option (List ℕ)). IfSome o (LeavesOnly y)) (sym same.reads) (each a.reads refl)
  where
    each : (o : Option (List ℕ)) → a.reads ≡ o → IfSome o (LeavesOnly y)
    each None is = tt
    each (Some bytes) is = λ image left. of_some a.reads (LeavesOnly x) synced bytes is image ((same.crashes bytes is).now image left)

-- ---- one byte

one_byte : (at : ℕ) (bytes : List ℕ) → at < length bytes → length (take 1 (drop at bytes)) ≡ 1
one_byte at bytes inside = length-take-le 1 (drop at bytes) (omega (arith, inside, length-drop at bytes))

spliced_same : (at : ℕ) (bytes : List ℕ) → at < length bytes → spliced at (take 1 (drop at bytes)) bytes ≡ bytes
spliced_same at bytes inside =
    ap (λ (n : ℕ). take at bytes ++ (take 1 (drop at bytes) ++ drop (at + n) bytes)) (one_byte at bytes inside)
    ∙ (ap (λ (l : List ℕ). take at bytes ++ (take 1 (drop at bytes) ++ l)) (sym (drop-drop 1 at bytes))
    ∙ (ap (λ (l : List ℕ). take at bytes ++ l) (take-append-drop 1 (drop at bytes)) ∙ take-append-drop at bytes))

torn_same : (at : ℕ) (b bytes after : List ℕ) → at < length bytes → b ≡ take 1 (drop at bytes) → IsTorn at b bytes after → after ≡ bytes
torn_same at b bytes after inside is torn =
    ⊎_elim (λ same. same) (λ written. written ∙ (ap (λ (l : List ℕ). spliced at l bytes) is ∙ spliced_same at bytes inside)) (torn.single (ap length is ∙ one_byte at bytes inside) inside)

reads_same : {T E : Type 0} (r : Result T E) (at : ℕ) (b : List ℕ) (o after : Option (List ℕ)) → ((bytes : List ℕ) → o ≡ Some bytes → (at < length bytes) × (b ≡ take 1 (drop at bytes)))
    → OnOk r (after ≡ option_map (spliced at b) o) → OnErr r (TearsTold at b o after) → after ≡ o
reads_same (Ok x) at b None after is written refused = written
reads_same (Ok x) at b (Some bytes) after is written refused =
    let here = is bytes refl in
    written ∙ ap (λ (l : List ℕ). Some l) (ap (λ (l : List ℕ). spliced at l bytes) here.1 ∙ spliced_same at bytes here.0)
reads_same (Err e) at b None after is written refused = refused
reads_same (Err e) at b (Some bytes) after is written refused =
    let here = is bytes refl in
    refused.1 ∙ ap (λ (l : List ℕ). Some l) (torn_same at b bytes refused.0 here.0 here.1 refused.2)

on_ok : {T E : Type 0} (r : Result T E) (P Q : Type 0) → (P → Q) → OnOk r P → OnOk r Q
on_ok (Ok x) P Q f p = f p
on_ok (Err e) P Q f p = tt

on_err : {T E : Type 0} (r : Result T E) (P Q : Type 0) → (P → Q) → OnErr r P → OnErr r Q
on_err (Ok x) P Q f p = tt
on_err (Err e) P Q f p = f p

-- the byte at this offset was read, and was written again or not
pub rewritten : {T E : Type 0} (r : Result T E) (at : ℕ) (b : List ℕ) (old mid new : DiskState) (before between after : DiskCrashes) → mid ≡ old → Elapses before between before.may_leave
    → IfSome old.reads (LeavesOnly before) → IfSome old.reads (λ all. old.size ≡ length all) → at < old.size → IfSome old.reads (λ all. b ≡ take 1 (drop at all))
    → OnOk r (new ≡ after_write at b mid) → OnErr r (HasTorn at b mid new) → Elapses between after (MayTear at b between) → IsUntouched old new before after
rewritten r at b old mid new before between after same one synced told inside read written refused two = record {
  reads = reads_same r at b old.reads new.reads here
      (on_ok r _ _ (λ (is : new ≡ after_write at b mid). ap (λ (d : DiskState). d.reads) is ∙ ap (λ (d : DiskState). option_map (spliced at b) d.reads) same) written)
      (on_err r _ _ (λ (torn : HasTorn at b mid new). subst (λ (d : DiskState). TearsTold at b d.reads new.reads) same torn.reads) refused);
  clock = omega (arith, one.clock, two.clock);
  crashes = λ bytes is. elapses_on before between after one (still bytes is);
}
  where
    here : (bytes : List ℕ) → old.reads ≡ Some bytes → (at < length bytes) × (b ≡ take 1 (drop at bytes))
    here bytes is = (omega (arith, inside, of_some old.reads (λ all. old.size ≡ length all) told bytes is), of_some old.reads (λ all. b ≡ take 1 (drop at all)) read bytes is)

    only : (bytes image : List ℕ) → old.reads ≡ Some bytes → between.may_leave image → image ≡ bytes
    only bytes image is left = of_some old.reads (LeavesOnly before) synced bytes is image (one.now image left)

    back : (bytes image : List ℕ) → old.reads ≡ Some bytes → MayTear at b between image → between.may_leave image
    back bytes image is torn =
        let was = only bytes torn.0 is torn.1 in
        let now : image ≡ bytes = torn_same at b bytes image (here bytes is).0 (here bytes is).1 (subst (λ (l : List ℕ). IsTorn at b l image) was torn.2) in
        subst between.may_leave (was ∙ sym now) torn.1

    still : (bytes : List ℕ) → old.reads ≡ Some bytes → Elapses between after between.may_leave
    still bytes is = record {
      clock = two.clock;
      now = λ image left. back bytes image is (two.now image left);
      nothing_else = λ moment image past left. ⊎_elim (λ was. inl was) (λ torn. inr (back bytes image is torn)) (two.nothing_else moment image past left);
      keeps = two.keeps;
    }

-- ---- the last gate

got : (xs : List ℕ) (i x d : ℕ) → slice_get xs i ≡ Some x → (i < length xs) × (get_or xs i d ≡ x)
got [] i x d is = absurd (cc is)
got (y ∷ ys) zero x d is = let same : y ≡ x = cc is in (omega arith, same)
got (y ∷ ys) (suc i) x d is = let rest = got ys i x d is in (omega (arith, rest.0), rest.1)

pub last_before : (width : ℕ) (gates : List ℕ) (end i gate : ℕ) → are_apart (9 + width) gates end ≡ true → slice_get gates i ≡ Some gate → gate < end
last_before width gates end i gate apart is =
    let here = got gates i gate end is in
    let next = apart_at (9 + width) gates end i here.0 apart in
    omega (arith, here.1, next.0, next.1)
