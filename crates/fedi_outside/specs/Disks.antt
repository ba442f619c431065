-- What a disk shows of itself, what its calls change, and what a crash leaves of its bytes.
use Rattle.std.specs.Prelude.{ℕ, ◌≡◌, ◌⊎◌, ◌+◌, ◌<◌, ◌≤◌, max, List, ◌++◌, length, take, drop}
use Rattle.std.specs.Prelude.{Option, Some, None, option_map, Result, Ok, Err}
use Rattle.fedi_outside.specs.Causes.{next_count}

-- a disk, as its callers see it
pub record DiskState : Type 0 where
  pub size : ℕ  -- how many bytes it has
  pub reads : Option (List ℕ)  -- the bytes that reads give, if it reports them
  pub faults : ℕ  -- how many calls failed; it saturates at 2^64 - 1

-- the moment, and what a crash may leave of the bytes: an image of the disk
pub record DiskCrashes : Type 1 where
  pub clock : ℕ  -- a moment, as a number that never decreases
  pub may_leave : List ℕ → Type 0  -- a crash now may leave this image
  -- a crash at some moment since that one might have left this image
  pub left_since : ℕ → List ℕ → Type 0

-- ---- what a write does to bytes

-- the bytes, with these written over those at this offset, and past the end
abbrev pub spliced : ℕ → List ℕ → List ℕ → List ℕ
spliced at bytes before = take at before ++ (bytes ++ drop (at + length bytes) before)

-- What a write of these bytes at this offset may leave if a crash cuts it short, or if it fails:
-- any bytes in its range and past the old end, and the same bytes elsewhere. A single byte inside
-- the old bytes is not torn: it is as before, or written.
pub record IsTorn (at : ℕ) (bytes before after : List ℕ) : Type 0 where
  pub front : take at after ≡ take at before
  pub back : drop (at + length bytes) after ≡ drop (at + length bytes) before
  pub no_shorter : length before ≤ length after
  pub no_longer : length after ≤ max (length before) (at + length bytes)
  pub single : length bytes ≡ 1 → at < length before
      → (after ≡ before) ⊎ (after ≡ spliced at bytes before)

-- ---- what a call changes

-- after a call that reads or syncs: all is as before, and a fault is counted
abbrev pub after_reading : {T E : Type 0} → Result T E → DiskState → DiskState
after_reading (Ok x) d = d
after_reading (Err e) d = record d { faults = next_count d.faults }

-- after the size was asked for
abbrev pub after_len : {E : Type 0} → Result ℕ E → DiskState → DiskState
after_len (Ok size) d = record d { size = size }
after_len (Err e) d = record d { faults = next_count d.faults }

-- after these bytes were written at this offset
abbrev pub after_write : ℕ → List ℕ → DiskState → DiskState
after_write at bytes d = record d {
  size = max d.size (at + length bytes);
  reads = option_map (spliced at bytes) d.reads;
}

-- the bytes that reads give were torn, if they are reported
abbrev pub TearsTold : ℕ → List ℕ → Option (List ℕ) → Option (List ℕ) → Type 0
TearsTold at bytes None after = after ≡ None
TearsTold at bytes (Some before) after =
    (torn : List ℕ) × (after ≡ Some torn) × IsTorn at bytes before torn

-- a write of these bytes at this offset failed: the fault is counted, and the range holds any bytes
pub record HasTorn (at : ℕ) (bytes : List ℕ) (before after : DiskState) : Type 0 where
  pub no_shorter : before.size ≤ after.size
  pub no_longer : after.size ≤ max before.size (at + length bytes)
  pub reads : TearsTold at bytes before.reads after.reads
  pub faults : after.faults ≡ next_count before.faults

-- ---- crashes

-- a crash leaves this image alone
abbrev pub LeavesOnly : DiskCrashes → List ℕ → Type 0
LeavesOnly crashes bytes = (image : List ℕ) → crashes.may_leave image → image ≡ bytes

-- what a write of these bytes at this offset may leave of the images before it
abbrev pub MayTear : ℕ → List ℕ → DiskCrashes → List ℕ → Type 0
MayTear at bytes before image = (old : List ℕ) × before.may_leave old × IsTorn at bytes old image

-- During a call, only these images are added to those that a crash since an earlier moment might
-- have left, and none is removed. A crash after the call leaves one of these.
pub record Elapses (before after : DiskCrashes) (added : List ℕ → Type 0) : Type 0 where
  pub clock : before.clock ≤ after.clock
  pub now : (image : List ℕ) → after.may_leave image → added image
  pub nothing_else : (moment : ℕ) (image : List ℕ) → moment ≤ before.clock
      → after.left_since moment image → before.left_since moment image ⊎ added image
  pub keeps : (moment : ℕ) (image : List ℕ) → moment ≤ before.clock → before.left_since moment image
      → after.left_since moment image

-- reads give the same bytes as before, and if these are reported, a crash during the call or after
-- it leaves nothing new
pub record IsUntouched (before after : DiskState) (was now : DiskCrashes) : Type 0 where
  pub reads : after.reads ≡ before.reads
  pub clock : was.clock ≤ now.clock
  pub crashes : (bytes : List ℕ) → before.reads ≡ Some bytes → Elapses was now was.may_leave
