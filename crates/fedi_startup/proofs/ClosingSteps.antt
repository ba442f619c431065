-- What is known of the disk of a machine that is closed.
use Rattle.std.proofs.Common.{◌≡◌, ℕ, List, length, map, Option, Some, None, sym, ap, ◌∙◌}
use Rattle.std.specs.Prelude.{IfSome, option_map}
use Rattle.fedi_entry.specs.Codes.{code_of}
use Rattle.fedi_outside.proofs.ImageSteps.{of_some}
use Rattle.fedi_journal.specs.Chains.{chained}
use Rattle.fedi_outside.specs.Images.{IsImage, kept_in}
use Rattle.fedi_outside.specs.Known.{records_told}
use Rattle.fedi_log.specs.Keeping.{state_of}
use Rattle.fedi_objects.specs.declared.entry.Entry.{Entry}
use Rattle.fedi_outside.specs.Disks.{DiskCrashes, DiskState}
use Rattle.fedi_outside.specs.Keepers.{KeeperState, MayLeave}
use Rattle.fedi_core.specs.Machines.{IsNextCode}
use Rattle.fedi_startup.specs.Stores.{IsClosed, IsSound, LeavesFiles, records_of}
use Rattle.fedi_startup.proofs.Told.{each_some}

-- the records of a keeper on this disk
pub of_history : (disk : DiskState) (k : KeeperState) (history : List Entry) (count : ℕ) → k.records ≡ records_told chained count disk
    → IfSome k.records (λ records. map code_of history ≡ records) → k.records ≡ option_map (λ _. records_of history) disk.reads
of_history disk k history count told kept = each disk.reads k.records told kept
  where
    each : (reads : Option (List ℕ)) (records : Option (List (List ℕ))) → records ≡ option_map (kept_in chained count) reads
        → IfSome records (λ records. map code_of history ≡ records) → records ≡ option_map (λ _. records_of history) reads
    each None records is all = is
    each (Some bytes) None is all = absurd (cc is)
    each (Some bytes) (Some rs) is all = ap (λ (l : List (List ℕ)). Some l) (sym all)

pub is_closed : (disk : DiskState) (crashes : DiskCrashes) (k : KeeperState) (history : List Entry) (count : ℕ) → IsSound history → IfSome k.doubt (IsNextCode history)
    → k.records ≡ records_told chained count disk → k.faults ≡ disk.faults → IfSome k.records (λ records. map code_of history ≡ records) → k.held ≡ length history
    → ((kept : List (List ℕ)) → k.records ≡ Some kept → (image : List ℕ) → crashes.may_leave image → (rs : List (List ℕ)) × IsImage chained rs image × MayLeave kept k.doubt rs)
    → IfSome disk.reads crashes.may_leave → IsClosed disk crashes (state_of history k)
is_closed disk crashes k history count sound doubted told faults kept held images stays = record {
  sound = sound;
  doubted = doubted;
  records = records;
  held = held;
  file = each_some disk.reads (λ bytes is. leaves bytes is bytes (of_some disk.reads crashes.may_leave stays bytes is));
  leaves = each_some disk.reads leaves;
  faults = faults;
}
  where
    records : k.records ≡ option_map (λ _. records_of history) disk.reads
    records = of_history disk k history count told kept

    leaves : (bytes : List ℕ) → disk.reads ≡ Some bytes → LeavesFiles crashes (records_of history) k.doubt
    leaves bytes is = images (records_of history) (records ∙ ap (option_map (λ _. records_of history)) is)
