-- From what a crash leaves as lists of records to what it leaves of a disk.
use Rattle.std.proofs.Common.{◌≡◌, ◌⊎◌, inl, inr, ℕ, ◌+◌, ◌≤◌, List, [], length, map, Option, Some, None, refl, sym, ap, subst, ◌∙◌, append-nil, arith}
use Rattle.std.specs.Prelude.{IfSome, is_some, option_map}
use Rattle.fedi_outside.proofs.Finding.{images_left}
use Rattle.fedi_journal.specs.ChainLaws.{chained_ok}
use Rattle.fedi_entry.specs.Codes.{code_of}
use Rattle.fedi_outside.proofs.ImageSteps.{of_some}
use Rattle.fedi_journal.specs.Chains.{chained}
use Rattle.fedi_outside.specs.Images.{IsImage, kept_in}
use Rattle.fedi_outside.specs.Known.{record_crashes, records_told}
use Rattle.fedi_log.proofs.Leaving.{few_kept, few_left}
use Rattle.fedi_log.specs.Keeping.{Base, State, since}
use Rattle.fedi_log.specs.Leaving.{CrashesAlong, IsLeft}
use Rattle.fedi_log.specs.Log.{Log}
use Rattle.fedi_outside.specs.Disks.{DiskCrashes, DiskState, IsUntouched}
use Rattle.fedi_outside.specs.Keepers.{Adds, MayLeave}
use Rattle.fedi_startup.specs.Stores.{IsOpened, LeavesFiles, records_of}
use Rattle.fedi_startup.specs.Surviving.{LeavesAlong, LeavesFoundFrom, SurvivesOnDisk, opened_base}
use Rattle.fedi_startup.proofs.OpeningSteps.{untouched_files}
use Rattle.fedi_startup.proofs.Told.{each_some, is_told, of_told}

-- nothing was added to it yet
none_left : (b : Base) (log : Log) (kept left : List (List ℕ)) → left ≡ kept → IsLeft b log kept left
none_left b log kept left is = record { past = []; rest = since b log; is = refl; leaves = inl (is ∙ sym (append-nil kept)) }

-- A machine was opened over a disk whose bytes are known, and then its keeper survived: the crashes
-- since the opening.
module _ (found later : DiskState) (middle after : DiskCrashes) (opened : State) (log : Log) (count : ℕ)
    (told : opened.keeper.records ≡ records_told chained count found)
    (held : opened.keeper.records ≡ Some (records_of opened.history))
    (crashes : CrashesAlong (opened_base opened) log (record_crashes chained found middle) (record_crashes chained later after)) where
  adds_since : Adds middle.clock (record_crashes chained found middle).left_since (record_crashes chained later after).left_since
      (IsLeft (opened_base opened) log (records_of opened.history))
  adds_since = of_told (is_some found.reads) opened.keeper.records (records_of opened.history)
      (λ kept. Adds middle.clock (record_crashes chained found middle).left_since (record_crashes chained later after).left_since (IsLeft (opened_base opened) log kept))
      (is_told (kept_in chained count) found.reads (records_of opened.history) (sym told ∙ held)) held crashes.crash

  pub found_since : LeavesFiles middle (records_of opened.history) None → ((image : List ℕ) → middle.left_since middle.clock image → middle.may_leave image)
      → LeavesFoundFrom middle.clock after opened log
  found_since files only image since =
      let records : List (List ℕ) = records_of opened.history in
      let file = images_left chained chained_ok found later middle after (λ left. left ≡ records) (IsLeft (opened_base opened) log records)
      (length records + length log + 1) middle.clock (omega arith) (λ image past. files image (only image past)) adds_since
      (λ left same. omega (arith, ap length same)) (λ left kept. omega (arith, few_left (opened_base opened) log records left kept)) image since in
      (file.0, file.1, either file.0 file.2)
    where
      either : (left : List (List ℕ)) → (left ≡ records_of opened.history) ⊎ IsLeft (opened_base opened) log (records_of opened.history) left
          → IsLeft (opened_base opened) log (records_of opened.history) left
      either left (inl same) = none_left (opened_base opened) log (records_of opened.history) left same
      either left (inr kept) = kept

-- the records of a machine that was opened over a disk whose bytes are known
pub records_held : (start : DiskState) (opened : State) (bytes : List ℕ) → IsOpened start opened → start.reads ≡ Some bytes → opened.keeper.records ≡ Some (records_of opened.history)
records_held start opened bytes opening is = opening.records ∙ ap (option_map (λ _. records_of opened.history)) is

-- What is known of the records that a machine's keeper has on its disk also holds of the disk, if
-- its bytes are known. This was so before the opening, the keeper found it so, and left it so.
pub survives_on_disk : (start found later : DiskState) (before middle after : DiskCrashes) (opened : State) (log : Log) (count : ℕ)
    → IsOpened start opened → opened.keeper.records ≡ records_told chained count found → IsUntouched start found before middle
    → ((image : List ℕ) → before.left_since before.clock image → before.may_leave image)
    → IfSome start.reads (λ _. LeavesFiles middle (records_of opened.history) None) → ((image : List ℕ) → middle.left_since middle.clock image → middle.may_leave image)
    → CrashesAlong (opened_base opened) log (record_crashes chained found middle) (record_crashes chained later after)
    → IfSome start.reads (λ _. SurvivesOnDisk before after opened log)
survives_on_disk start found later before middle after opened log count opening told untouched first leaves only crashes = each_some start.reads at
  where
    at : (bytes : List ℕ) → start.reads ≡ Some bytes → SurvivesOnDisk before after opened log
    at bytes is = record {
      along = along;
      moment = middle.clock;
      during = (untouched.clock, crashes.clock);
      found = found_since found later middle after opened log count told held crashes
          (of_some start.reads (λ _. LeavesFiles middle (records_of opened.history) None) leaves bytes is) only;
    }
      where
        held : opened.keeper.records ≡ Some (records_of opened.history)
        held = records_held start opened bytes opening is

        along : LeavesAlong before after opened log
        along records doubt files image since =
            images_left chained chained_ok found later middle after (MayLeave records doubt) (IsLeft (opened_base opened) log (records_of opened.history))
            (length records + length (records_of opened.history) + length log + 1) before.clock untouched.clock
            (untouched_files start found before middle bytes records doubt untouched is first files)
            (adds_since found later middle after opened log count told held crashes)
            (λ left kept. omega (arith, few_kept records doubt left kept))
            (λ left kept. omega (arith, few_left (opened_base opened) log (records_of opened.history) left kept)) image since
