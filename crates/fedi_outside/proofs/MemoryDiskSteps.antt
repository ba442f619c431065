-- What a call of a disk in memory adds to the images that a crash may leave.
use Rattle.std.proofs.Common.{◌≡◌, inl, inr, ⊎_elim, ℕ, ◌≤◌, Bool, true, false, List, [], ◌∷◌, ◌++◌, length, take, refl, sym, subst, ap, ◌∙◌, ◌-◌, arith, length-append}
use Rattle.std.specs.Global.{Vec}
use Rattle.std.proofs.lemmas.Bool.{cases_lt}
use Rattle.std.proofs.lemmas.List.{take_all, take_at, take-append-le}
use Rattle.std.proofs.lemmas.List.Sums.{fold-append}
use Rattle.fedi_outside.specs.Disks.{DiskCrashes, Elapses, IsTorn, MayTear}
use Rattle.fedi_outside.specs.MemoryDisks.{Contents, LeftSince, MayBeLeft, contents_after, contents_of}
use Rattle.fedi_outside.specs.declared.memory_disks.Call.{Call}
use Rattle.fedi_outside.specs.declared.memory_disks.Call.TheVariants.{Len, Read, Write, Sync}
use Rattle.fedi_outside.proofs.DiskSteps.{torn_none, torn_whole}

-- what a crash may leave of a disk with these bytes after these calls
abbrev pub crashes_of : List ℕ → List Call → DiskCrashes
crashes_of base calls = record { clock = length calls; may_leave = MayBeLeft (contents_of base calls); left_since = LeftSince base calls }

-- the contents after one more call
one_more : (base : List ℕ) (calls : List Call) (call : Call) → contents_of base (calls ++ call ∷ []) ≡ contents_after (contents_of base calls) call
one_more base calls call = fold-append contents_after (record { reads = base; synced = base; unsynced = [] }) calls (call ∷ [])

-- one more call adds what its contents may leave
elapses : (base : List ℕ) (calls after : List Call) (call : Call) (added : List ℕ → Type 0) → after ≡ calls ++ call ∷ []
    → ((image : List ℕ) → MayBeLeft (contents_after (contents_of base calls) call) image → added image) → Elapses (crashes_of base calls) (crashes_of base after) added
elapses base calls after call added is from =
    let here : (image : List ℕ) → MayBeLeft (contents_of base (calls ++ call ∷ [])) image → added image = λ image left.
    from image (subst (λ (k : Contents). MayBeLeft k image) (one_more base calls call) left) in
    subst (λ (l : List Call). Elapses (crashes_of base calls) (crashes_of base l) added) (sym is) (record {
      clock = omega (arith, length-append calls (call ∷ []));
      now = here;
      nothing_else = λ moment image past since. ⊎_elim
          (λ all. inr (here image (subst (λ (l : List Call). MayBeLeft (contents_of base l) image)
          (take_all since.0 (calls ++ call ∷ []) (omega (arith, length-append calls (call ∷ []), all))) since.3)))
          (λ within. inl (since.0, since.1, within, subst (λ (l : List Call). MayBeLeft (contents_of base l) image) (take-append-le since.0 calls (call ∷ []) within) since.3))
          (cases_lt (length calls) since.0);
      keeps = λ moment image past since. (
        since.0,
        since.1,
        omega (arith, length-append calls (call ∷ []), since.2),
        subst (λ (l : List Call). MayBeLeft (contents_of base l) image) (sym (take-append-le since.0 calls (call ∷ []) since.2)) since.3,
      );
    })

pub len_elapses : (base : List ℕ) (calls after : List Call) → after ≡ calls ++ Len ∷ [] → Elapses (crashes_of base calls) (crashes_of base after) (MayBeLeft (contents_of base calls))
len_elapses base calls after is = elapses base calls after Len _ is (λ image left. left)

pub read_elapses : (base : List ℕ) (calls after : List Call) (at count : ℕ) → after ≡ calls ++ Read at count ∷ [] → Elapses (crashes_of base calls) (crashes_of base after) (MayBeLeft (contents_of base calls))
read_elapses base calls after at count is = elapses base calls after (Read at count) _ is (λ image left. left)

synced_left : (k : Contents) (done : Bool) (image : List ℕ) → MayBeLeft (contents_after k (Sync done)) image → MayBeLeft k image
synced_left k false image left = left
synced_left k true image (inl same) = inl same
synced_left k true image (inr same) = inl same

pub sync_elapses : (base : List ℕ) (calls after : List Call) (done : Bool) → after ≡ calls ++ Sync done ∷ [] → Elapses (crashes_of base calls) (crashes_of base after) (MayBeLeft (contents_of base calls))
sync_elapses base calls after done is = elapses base calls after (Sync done) _ is (synced_left (contents_of base calls) done)

written_left : (base : List ℕ) (calls : List Call) (at : ℕ) (bytes : Vec ℕ) (done : Bool) (image : List ℕ) → at ≤ length (contents_of base calls).reads
    → MayBeLeft (contents_after (contents_of base calls) (Write at bytes done)) image → MayTear at bytes.items (crashes_of base calls) image
written_left base calls at bytes true image inside (inl same) =
    let k = contents_of base calls in (k.reads, inl refl, subst (IsTorn at bytes.items k.reads) (sym same) (torn_whole at bytes.items k.reads inside))
written_left base calls at bytes false image inside (inl same) =
    let k = contents_of base calls in (k.reads, inl refl, subst (IsTorn at bytes.items k.reads) (sym same) (torn_none at bytes.items k.reads))
written_left base calls at bytes done image inside (inr reached) = (reached.0, inr reached.1, reached.2)

pub write_elapses : (base : List ℕ) (calls after : List Call) (at : ℕ) (bytes : Vec ℕ) (done : Bool) (from : List ℕ) → after ≡ calls ++ Write at bytes done ∷ [] → bytes.items ≡ from
    → at ≤ length (contents_of base calls).reads → Elapses (crashes_of base calls) (crashes_of base after) (MayTear at from (crashes_of base calls))
write_elapses base calls after at bytes done from is same inside =
    elapses base calls after (Write at bytes done) _ is
    (λ image left. subst (λ (l : List ℕ). MayTear at l (crashes_of base calls) image) same (written_left base calls at bytes done image inside left))

-- a write that was not recorded
pub unwritten_elapses : (base : List ℕ) (calls after : List Call) (at : ℕ) (from : List ℕ) → after ≡ calls
    → Elapses (crashes_of base calls) (crashes_of base after) (MayTear at from (crashes_of base calls))
unwritten_elapses base calls after at from same =
    subst (λ (l : List Call). Elapses (crashes_of base calls) (crashes_of base l) (MayTear at from (crashes_of base calls))) (sym same) (record {
      clock = omega arith;
      now = λ image left. (image, left, torn_none at from image);
      nothing_else = λ moment image past since. inl since;
      keeps = λ moment image past since. since;
    })

-- the calls without the last of them
pub without_last : (calls after : List Call) (call : Call) (count : ℕ) → after ≡ calls ++ call ∷ [] → count ≡ length after → take (count - 1) after ≡ calls
without_last calls after call count is size =
    ap (take (count - 1)) is ∙ take_at calls (call ∷ []) (count - 1) (omega (arith, size, ap length is, length-append calls (call ∷ [])))
