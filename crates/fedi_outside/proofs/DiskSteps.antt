-- What writes that fail or are not synced make of bytes.
use Rattle.std.proofs.Common.{◌≡◌, inl, inr, ℕ, ◌+◌, ◌≤◌, List, ◌++◌, length, take, drop, refl, sym, ◌∙◌, ap, subst, append_assoc, arith, length-append, length-drop}
use Rattle.std.specs.Prelude.{Option, None, Some, IfSome, Result, Ok, Err, OnErr, option_map}
use Rattle.std.proofs.lemmas.List.{take_at, drop_at, length-take}
use Rattle.fedi_outside.specs.Causes.{next_count}
use Rattle.fedi_outside.specs.Disks.{DiskState, HasTorn, IsTorn, TearsTold, after_reading, after_write, spliced}

-- a write that did nothing
pub torn_none : (at : ℕ) (bytes before : List ℕ) → IsTorn at bytes before before
torn_none at bytes before = record { front = refl; back = refl; no_shorter = omega arith; no_longer = omega arith; single = λ one inside. inl refl }

-- a write that was done
pub torn_whole : (at : ℕ) (bytes before : List ℕ) → at ≤ length before → IsTorn at bytes before (spliced at bytes before)
torn_whole at bytes before inside =
    let size : length (take at before) ≡ at = omega (arith, length-take at before) in
    let rest = drop (at + length bytes) before in
    let grouped : spliced at bytes before ≡ (take at before ++ bytes) ++ rest = sym (append_assoc (take at before) bytes rest) in
    let longer = length-append (take at before ++ bytes) rest in
    let inner = length-append (take at before) bytes in
    record {
      front = take_at (take at before) (bytes ++ rest) at size;
      back = ap (drop (at + length bytes)) grouped ∙ drop_at (take at before ++ bytes) rest (at + length bytes) (omega (arith, inner, size));
      no_shorter = omega (arith, ap length grouped, longer, inner, size, length-drop (at + length bytes) before);
      no_longer = omega (arith, ap length grouped, longer, inner, size, length-drop (at + length bytes) before);
      single = λ one within. inr refl;
    }

tears : (at : ℕ) (bytes : List ℕ) (size : ℕ) (reads : Option (List ℕ)) → IfSome reads (λ all. size ≡ length all) → at ≤ size → TearsTold at bytes reads (option_map (spliced at bytes) reads)
tears at bytes size None told inside = refl
tears at bytes size (Some all) told inside = (spliced at bytes all, refl, torn_whole at bytes all (omega (arith, told)))

-- a write that was done is torn if the call after it fails
pub torn_unsynced : {T E : Type 0} (r : Result T E) (at : ℕ) (bytes : List ℕ) (old mid new : DiskState) → IfSome old.reads (λ all. old.size ≡ length all) → at ≤ old.size
    → mid ≡ after_write at bytes old → new ≡ after_reading r mid → OnErr r (HasTorn at bytes old new)
torn_unsynced (Ok x) at bytes old mid new told inside written same = tt
torn_unsynced (Err e) at bytes old mid new told inside written same =
    subst (λ (d : DiskState). HasTorn at bytes old d) (sym (same ∙ ap (λ (d : DiskState). record d { faults = next_count d.faults }) written)) (record {
      no_shorter = omega arith;
      no_longer = omega arith;
      reads = tears at bytes old.size old.reads told inside;
      faults = refl;
    })
