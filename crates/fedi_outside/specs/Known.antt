-- What is known of a disk with a file of records.
use Rattle.std.specs.Prelude.{◌≡◌, ◌<◌, ◌≤◌, ◌^◌, ℕ, ◌+◌, Bool, true, ◌&&◌, nat_le, List, [], ◌∷◌}
use Rattle.std.specs.Prelude.{length, get_or, Option, Some, option_map, is_some}
use Rattle.fedi_outside.specs.Disks.{DiskState, DiskCrashes}
use Rattle.fedi_outside.specs.Keepers.{Crashes}
use Rattle.fedi_outside.specs.Images.{Format, StandsAtGate, StandsFor, front, gates_of, kept_in}
use Rattle.fedi_outside.specs.Images.{with_doubt}

-- each gate is at least this far before the next one, and the last before the end
abbrev pub are_apart : ℕ → List ℕ → ℕ → Bool
are_apart step [] end = true
are_apart step (gate ∷ gates) end =
    nat_le (gate + step) (get_or gates 0 end) && are_apart step gates end

module _ (f : Format) where
  -- the record in doubt, if there is one, had room at this end
  abbrev pub FitsDoubt : ℕ → Option (List ℕ) → Type 0
  FitsDoubt end doubt = (p : List ℕ) → doubt ≡ Some p → end + (10 + f.width + length p) ≤ 2 ^ 62

  -- What is known of a disk with these gates of records, a gate at the end, and a record that may
  -- be in doubt. The gates are apart and before the end. If the bytes are reported, they are those
  -- of the records, and each image that a crash may leave has the records, without the one in doubt
  -- or with it.
  pub record IsKnown (shown : DiskState) (crashes : DiskCrashes) (end : ℕ) (gates : List ℕ)
      (doubt : Option (List ℕ)) : Type 0 where
    pub inside : end < shown.size
    pub apart : are_apart (9 + f.width) gates end ≡ true
    pub fits : end < 2 ^ 64
    pub fits_doubt : FitsDoubt end doubt
    pub ends : (bytes : List ℕ) → shown.reads ≡ Some bytes
        → end ≡ length (front f (kept_in f (length gates) bytes))
    pub indexed : (bytes : List ℕ) → shown.reads ≡ Some bytes
        → gates ≡ gates_of f 8 (kept_in f (length gates) bytes)
    pub stands : (bytes image : List ℕ) → shown.reads ≡ Some bytes → crashes.may_leave image
        → StandsAtGate f (kept_in f (length gates) bytes)
        (with_doubt (kept_in f (length gates) bytes) doubt) image

  -- the records of a disk with this many, if it reports its bytes
  abbrev pub records_told : ℕ → DiskState → Option (List (List ℕ))
  records_told count shown = option_map (kept_in f count) shown.reads

  -- what a crash may leave of the records, if the disk reports its bytes
  abbrev pub record_crashes : DiskState → DiskCrashes → Crashes
  record_crashes shown crashes = record {
    clock = crashes.clock;
    told = is_some shown.reads;
    left_since = λ moment list. (image : List ℕ) × crashes.left_since moment image
        × StandsFor f image list;
  }
