-- A disk in memory: the calls made on it, what they make of its bytes, and what a crash leaves.
use Rattle.std.specs.Prelude.{ℕ, ◌≡◌, ◌⊎◌, ◌+◌, ◌≤◌, Bool, true, false, nat_eq, nat_le, ◌||◌, List}
use Rattle.std.specs.Prelude.{[], ◌∷◌, length, take, fold, Option, None, Some, Result, Ok, Err}
use Rattle.std.specs.Prelude.{if◌then◌else◌}
use Rattle.std.specs.List.{list_any}
use Rattle.fedi_outside.specs.Disks.{DiskCrashes, DiskState, IsTorn, spliced}
use Rattle.fedi_outside.specs.declared.memory_disks.Call.{Call}
use Rattle.fedi_outside.specs.declared.memory_disks.Call.TheVariants.{Len, Read, Write, Sync}

-- a disk in memory, as its callers see it
pub record MemoryDiskState : Type 0 where
  pub base : List ℕ  -- the bytes that it was made with, which count as synced
  pub calls : List Call  -- the calls, in order
  pub failing : List ℕ  -- the numbers of the calls that fail, counted from 0
  pub stop : Option ℕ  -- the calls from this number on fail too
  pub faults : ℕ  -- how many calls failed

-- such a disk with these bytes, on which no call was made and no call is to fail
abbrev pub fresh_disk : List ℕ → MemoryDiskState
fresh_disk bytes = record { base = bytes; calls = []; failing = []; stop = None; faults = 0 }

-- whether the call with this number is to fail
abbrev pub is_failing : MemoryDiskState → ℕ → Bool
is_failing d number = list_any (λ n. nat_eq n number) d.failing || reaches d.stop
  where
    reaches : Option ℕ → Bool
    reaches None = false
    reaches (Some stop) = nat_le stop number

-- A call fails if and only if it is to fail, and is recorded. If memory for its record runs out, it
-- fails too, and is not recorded.
abbrev pub FailsByPlan : {T E : Type 0} → MemoryDiskState → MemoryDiskState → Result T E → Type 0
FailsByPlan before after (Ok x) =
    (is_failing before (length before.calls) ≡ false)
    × (length after.calls ≡ length before.calls + 1)
FailsByPlan before after (Err e) =
    (is_failing before (length before.calls) ≡ true) ⊎ (after.calls ≡ before.calls)

-- ---- what calls make of the bytes

-- the bytes that reads give, those of the last sync, and the writes since, each with its offset,
-- the newest first
pub record Contents : Type 0 where
  pub reads : List ℕ
  pub synced : List ℕ
  pub unsynced : List (ℕ × List ℕ)

-- the contents after one more call: a write that fails leaves the bytes, but counts as one since
-- the last sync
abbrev pub contents_after : Contents → Call → Contents
contents_after k Len = k
contents_after k (Read at count) = k
contents_after k (Write at bytes done) = record {
  reads = if done then spliced at bytes.items k.reads else k.reads;
  synced = k.synced;
  unsynced = (at, bytes.items) ∷ k.unsynced;
}
contents_after k (Sync done) =
    if done then record { reads = k.reads; synced = k.reads; unsynced = [] } else k

-- the contents after these calls of a disk with these bytes
abbrev pub contents_of : List ℕ → List Call → Contents
contents_of base calls =
    fold contents_after (record { reads = base; synced = base; unsynced = [] }) calls

-- ---- what a crash leaves

-- these writes, each whole or torn, make this image of these bytes
abbrev pub Reaches : List ℕ → List (ℕ × List ℕ) → List ℕ → Type 0
Reaches synced [] image = image ≡ synced
Reaches synced (write ∷ earlier) image =
    (old : List ℕ) × Reaches synced earlier old × IsTorn write.0 write.1 old image

-- a crash may leave this image: what reads give, or what the writes since the last sync make of
-- what was synced
abbrev pub MayBeLeft : Contents → List ℕ → Type 0
MayBeLeft k image = (image ≡ k.reads) ⊎ Reaches k.synced k.unsynced image

-- a crash after so many of the calls, or after more of them, may leave this image
abbrev pub LeftSince : List ℕ → List Call → ℕ → List ℕ → Type 0
LeftSince base calls moment image =
    (count : ℕ) × (moment ≤ count) × (count ≤ length calls)
    × MayBeLeft (contents_of base (take count calls)) image

-- what such a disk shows
abbrev pub disk_shown : MemoryDiskState → DiskState
disk_shown d =
    let reads = (contents_of d.base d.calls).reads in
    record { size = length reads; reads = Some reads; faults = d.faults }

-- what a crash may leave of it: its moments are the numbers of calls
abbrev pub disk_crashes : MemoryDiskState → DiskCrashes
disk_crashes d = record {
  clock = length d.calls;
  may_leave = MayBeLeft (contents_of d.base d.calls);
  left_since = LeftSince d.base d.calls;
}
