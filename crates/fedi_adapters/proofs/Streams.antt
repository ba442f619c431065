-- What a stream has and holds after calls that are limited in time, and after several of them.
use Rattle.std.proofs.Common.{◌≡◌, ℕ, ◌+◌, ◌-◌, ◌≤◌, List, ◌++◌, Option, Result, arith, length, take}
use Rattle.std.proofs.Common.{slice_range, ap, ◌∙◌, subst, sym, le_refl, drop_at, length-take-le}
use Rattle.std.proofs.KnownBytes.{Consumes-kept, Consumes-trans, Keeps-refl}
use Rattle.std.proofs.lemmas.Slice.{take-put_mid_below}
use Rattle.std.specs.Io.KnownBytes.{Consumes, Keeps, ReadConsumes, WriteAppends}
use borrow.Rule.Slice.PartMut.{put_mid, post_of}
use lib.Seq.{take-add, take-append-le}

-- what stays the same is kept
pub kept : (old new : Option (List ℕ)) → new ≡ old → Keeps old new
kept old new same = subst (Keeps old) (sym same) (Keeps-refl old)

-- a read takes what was there before the time was limited
pub read_limited : {E : Type 0} (old limited new : Option (List ℕ)) (r : Result ℕ E) (into : List ℕ)
    → limited ≡ old → ReadConsumes limited new r into → ReadConsumes old new r into
read_limited old limited new r into same read =
    subst (λ (o : Option (List ℕ)). ReadConsumes o new r into) same read

-- a write adds to what was there before the time was limited
pub write_limited : {E : Type 0} (old limited new : Option (List ℕ)) (r : Result ℕ E) (from : List ℕ)
    → limited ≡ old → WriteAppends limited new r from → WriteAppends old new r from
write_limited old limited new r from same written =
    subst (λ (o : Option (List ℕ)). WriteAppends o new r from) same written

-- the front of a list, and the part of a changed list after that front
take_split : (a b : ℕ) (old new : List ℕ) → a ≤ b → take a new ≡ take a old
    → take a old ++ slice_range new a b ≡ take b new
take_split a b old new h front =
    let same : a + (b - a) ≡ b = omega arith in
    ap (λ l. l ++ slice_range new a b) (sym front) ∙ sym (take-add a (b - a) new)
    ∙ ap (λ n. take n new) same

-- the first items of what was put into a list
slice_range-put_mid : (a k n : ℕ) (xs ys : List ℕ) → a ≤ length xs → n ≤ length ys
    → slice_range (put_mid a k xs ys) a (a + n) ≡ take n ys
slice_range-put_mid a k n xs ys within fits =
    let same : (a + n) - a ≡ n = omega arith in
    let after = post_of a k xs in
    ap (take ((a + n) - a)) (drop_at (take a xs) (ys ++ after) a (length-take-le a xs within))
    ∙ ap (λ m. take m (ys ++ after)) same ∙ take-append-le n ys after fits

-- what was read before, and what a further read put after it, was taken
pub read_on : (first before now : Option (List ℕ)) (filled count : ℕ) (into part : List ℕ)
    → filled ≤ length into → count ≤ length part → Consumes first before (take filled into)
    → Consumes before now (take count part)
    → Consumes first now (take (filled + count) (put_mid filled (length into - filled) into part))
read_on first before now filled count into part within fits taken more =
    let room = length into - filled in
    let this = slice_range-put_mid filled room count into part within fits in
    let joined = take_split filled (filled + count) into (put_mid filled room into part)
    (omega arith) (take-put_mid_below _ _ _ _ _ (le_refl _) within) in
    subst (Consumes first now) (ap (λ l. take filled into ++ l) (sym this) ∙ joined)
    (Consumes-trans first before now _ _ taken more)

-- what was read before was taken, whatever a failed read put after it
pub read_none : (first before now : Option (List ℕ)) (filled room : ℕ) (into part : List ℕ)
    → filled ≤ length into → Consumes first before (take filled into) → Keeps before now
    → Consumes first now (take filled (put_mid filled room into part))
read_none first before now filled room into part within taken keeps =
    subst (Consumes first now) (sym (take-put_mid_below _ _ _ _ _ (le_refl _) within))
    (Consumes-kept first before now _ taken keeps)
