-- What is known of a disk after a machine was opened over it, or was not.
use Rattle.std.proofs.Common.{◌≡◌, ◌⊎◌, inl, inr, ℕ, ◌+◌, List, [], ◌∷◌, ◌++◌, length, map, take, drop, Option, Some, None, refl, sym, ap, subst, ◌∙◌, append_assoc, arith}
use Rattle.std.specs.Prelude.{◌≢◌, Err, IfSome, is_some, option_map}
use Rattle.std.proofs.lemmas.List.{take_at}
use Rattle.fedi_entry.specs.Codes.{code_of}
use Rattle.fedi_outside.proofs.Finding.{images_left}
use Rattle.fedi_journal.specs.ChainLaws.{chained_ok}
use Rattle.fedi_outside.proofs.ImageLemmas.{one_image}
use Rattle.fedi_outside.proofs.ImageSteps.{of_some, images_left as files_left}
use Rattle.fedi_journal.specs.Chains.{chained}
use Rattle.fedi_outside.specs.Images.{IsImage, blocks, front, kept_in}
use Rattle.fedi_outside.specs.Known.{IsKnown, record_crashes, records_told}
use Rattle.fedi_outside.specs.Opening.{IsDamagedAt, IsNoStore, IsOlder}
use Rattle.fedi_journal.specs.Finding as journals
use Rattle.fedi_journal.specs.Files.{HasRecords}
use Rattle.fedi_journal.specs.declared.faults.JournalFault.{JournalFault}
use Rattle.fedi_journal.specs.declared.faults.JournalFault.TheVariants as journal_faults
use Rattle.fedi_log.proofs.Leaving.{few_kept}
use Rattle.fedi_log.specs.Keeping.{state_of}
use Rattle.fedi_objects.specs.declared.entry.Entry.{Entry}
use Rattle.fedi_opening.proofs.Records.{read_all}
use Rattle.fedi_opening.specs.Opening.{IsDamaged, IsRead, IsStopped, after_open}
use Rattle.fedi_opening.specs.declared.fault.OpenFault.{OpenFault}
use Rattle.fedi_opening.specs.declared.fault.OpenFault.TheVariants.{Failed, Damaged, Empty, Memory}
use Rattle.fedi_outside.specs.Disks.{DiskCrashes, DiskState, IsUntouched}
use Rattle.fedi_outside.specs.Keepers.{Adds, KeeperState, MayLeave, PassesTime}
use Rattle.fedi_startup.specs.Faults.{of_journal, of_opening}
use Rattle.fedi_startup.specs.Stores.{ComesBack, IsNotOpened, IsOpened, IsSound, LeavesFiles, LeftFiles, count_after, records_of}
use Rattle.fedi_startup.proofs.Told.{each_some, of_told, told_bytes, untold_bytes}

-- ---- crashes

-- a disk that left files of some records, and was untouched since, leaves such files
pub untouched_files : (start found : DiskState) (before middle : DiskCrashes) (bytes : List ℕ) (records : List (List ℕ)) (doubt : Option (List ℕ))
    → IsUntouched start found before middle → start.reads ≡ Some bytes → ((image : List ℕ) → before.left_since before.clock image → before.may_leave image)
    → LeavesFiles before records doubt → LeftFiles before.clock middle records doubt
untouched_files start found before middle bytes records doubt same is only files image since =
    left ((same.crashes bytes is).nothing_else before.clock image (omega arith) since)
  where
    left : before.left_since before.clock image ⊎ before.may_leave image → HasRecords chained records doubt image
    left (inl past) = files image (only image past)
    left (inr now) = files image now

-- ---- a machine

-- the history of records that were found
module _ (start found : DiskState) (k : KeeperState) (history : List Entry) (count : ℕ)
    (finds : (bytes : List ℕ) → start.reads ≡ Some bytes → (rs : List (List ℕ)) × IsImage chained rs bytes × (k.records ≡ Some rs) × (k.end ≡ length (front chained rs)))
    (same : found.reads ≡ start.reads)
    (told : k.records ≡ records_told chained count found)
    (counted : IfSome k.records (λ records. k.held ≡ length records))
    (read : IsRead k.records k.held history) where
  spelled : (bytes : List ℕ) (is : start.reads ≡ Some bytes) → (finds bytes is).0 ≡ records_of history
  spelled bytes is = sym (spells k.records (read_all k.records k.held history counted read) (finds bytes is).2)
    where
      spells : (o : Option (List (List ℕ))) {rs : List (List ℕ)} → IfSome o (λ records. map code_of history ≡ records) → o ≡ Some rs → map code_of history ≡ rs
      spells o {rs} all known = subst (λ (r : Option (List (List ℕ))). IfSome r (λ records. map code_of history ≡ records)) known all

  sound : IsSound history
  sound = record { legal = read.legal; formed = read.formed }

  pub is_opened : k.doubt ≡ None → found.faults ≡ start.faults → k.faults ≡ found.faults → (k.held ≡ 0 → ⊥) → IsOpened start (state_of history k)
  is_opened settled faults counts filled = record {
    some = some;
    sound = sound;
    stored = each_some start.reads (λ bytes is. record {
      some = some;
      sound = sound;
      file = subst (λ (rs : List (List ℕ)). IsImage chained rs bytes) (spelled bytes is) (finds bytes is).1;
    });
    records = records start.reads (told ∙ ap (option_map (kept_in chained count)) same) (λ bytes is. (finds bytes is).2 ∙ ap (λ (rs : List (List ℕ)). Some rs) (spelled bytes is));
    held = sym read.counted;
    doubt = settled;
    end = each_some start.reads (λ bytes is. (finds bytes is).3 ∙ ap (λ (rs : List (List ℕ)). length (front chained rs)) (spelled bytes is));
    faults = counts ∙ faults;
  }
    where
      some : history ≢ []
      some none = filled (sym read.counted ∙ ap length none)

      records : (reads : Option (List ℕ)) → k.records ≡ option_map (kept_in chained count) reads → ((bytes : List ℕ) → reads ≡ Some bytes → k.records ≡ Some (records_of history))
          → k.records ≡ option_map (λ _. records_of history) reads
      records None is each = is
      records (Some bytes) is each = each bytes refl

-- and what a crash then leaves
pub leaves_found : (start later : DiskState) (crashes : DiskCrashes) (end : ℕ) (gates : List ℕ) (k : KeeperState) (history : List Entry) → IsOpened start (state_of history k)
    → k.records ≡ records_told chained (length gates) later → IsKnown chained later crashes end gates k.doubt → IfSome start.reads (λ _. LeavesFiles crashes (records_of history) None)
leaves_found start later crashes end gates k history opened told known = each_some start.reads leaves
  where
    leaves : (bytes : List ℕ) → start.reads ≡ Some bytes → LeavesFiles crashes (records_of history) None
    leaves bytes is image left =
        let file = files_left chained chained_ok later crashes end gates k.doubt known (records_of history)
        (sym told ∙ (opened.records ∙ ap (option_map (λ _. records_of history)) is)) image left in
        (file.0, file.1, subst (λ (d : Option (List ℕ)). MayLeave (records_of history) d file.0) opened.doubt file.2)

-- ---- no machine

-- a file of records begins with the magic
pub begins_so : (rs : List (List ℕ)) (bytes : List ℕ) → IsImage chained rs bytes → take 8 bytes ≡ chained.magic
unfolding front
begins_so rs bytes image =
    ap (take 8) (image.spelled ∙ append_assoc chained.magic (blocks chained [] rs) (0 ∷ drop (length (front chained rs) + 1) bytes))
    ∙ take_at chained.magic (blocks chained [] rs ++ 0 ∷ drop (length (front chained rs) + 1) bytes) 8 refl

-- the journal was not opened
pub not_found : (fault : JournalFault) (start after : DiskState)
    → ((place : ℕ) → fault ≡ journal_faults.Damaged place → (bytes : List ℕ) → start.reads ≡ Some bytes → IsDamagedAt chained place bytes)
    → (fault ≡ journal_faults.NotAStore → (bytes : List ℕ) → start.reads ≡ Some bytes → IsNoStore chained bytes)
    → (fault ≡ journal_faults.OldFormat → (bytes : List ℕ) → start.reads ≡ Some bytes → IsOlder chained bytes)
    → (fault ≡ journal_faults.Memory → (bytes : List ℕ) → start.reads ≡ Some bytes → take 8 bytes ≡ chained.magic)
    → after.faults ≡ journals.count_after fault start.faults → ComesBack (of_journal fault) start after
not_found fault start after damaged store older memory faults = record {
  why = why fault damaged store older memory;
  faults = faults ∙ counts fault;
}
  where
    why : (fault : JournalFault) → ((place : ℕ) → fault ≡ journal_faults.Damaged place → (bytes : List ℕ) → start.reads ≡ Some bytes → IsDamagedAt chained place bytes)
        → (fault ≡ journal_faults.NotAStore → (bytes : List ℕ) → start.reads ≡ Some bytes → IsNoStore chained bytes)
        → (fault ≡ journal_faults.OldFormat → (bytes : List ℕ) → start.reads ≡ Some bytes → IsOlder chained bytes)
        → (fault ≡ journal_faults.Memory → (bytes : List ℕ) → start.reads ≡ Some bytes → take 8 bytes ≡ chained.magic) → IsNotOpened (of_journal fault) start
    why journal_faults.NotAStore damaged store older memory = each_some start.reads (λ bytes is. inl (store refl bytes is))
    why journal_faults.OldFormat damaged store older memory = each_some start.reads (λ bytes is. older refl bytes is)
    why (journal_faults.Damaged place) damaged store older memory = each_some start.reads (λ bytes is. damaged place refl bytes is)
    why journal_faults.Failed damaged store older memory = tt
    why journal_faults.Memory damaged store older memory = each_some start.reads (λ bytes is. memory refl bytes is)

    counts : (fault : JournalFault) → journals.count_after fault start.faults ≡ count_after (of_journal fault) start.faults
    counts journal_faults.NotAStore = refl
    counts journal_faults.OldFormat = refl
    counts (journal_faults.Damaged place) = refl
    counts journal_faults.Failed = refl
    counts journal_faults.Memory = refl

-- how many faults a keeper counts after an opening that failed
counts_fault : (fault : OpenFault) (k : KeeperState) → (after_open {T = ℕ} (Err fault) k).faults ≡ count_after (of_opening fault) k.faults
counts_fault Failed k = refl
counts_fault (Damaged place) k = refl
counts_fault Empty k = refl
counts_fault Memory k = refl

none_held : (rs : List (List ℕ)) → 0 ≡ length rs → rs ≡ []
none_held [] is = refl
none_held (r ∷ rs) is = absurd (omega (arith, is))

-- the history was not
pub not_read : (fault : OpenFault) (start found after : DiskState) (k l : KeeperState) (history : List Entry)
    → ((bytes : List ℕ) → start.reads ≡ Some bytes → (rs : List (List ℕ)) × IsImage chained rs bytes × (k.records ≡ Some rs) × (k.end ≡ length (front chained rs)))
    → found.faults ≡ start.faults → k.faults ≡ found.faults → IfSome k.records (λ records. k.held ≡ length records)
    → IsStopped fault k history → l ≡ after_open {T = ℕ} (Err fault) k → l.faults ≡ after.faults
    → ComesBack (of_opening fault) start after
not_read fault start found after k l history finds faults counts counted stopped shown counts_after = record {
  why = why fault stopped;
  faults = sym counts_after ∙ (ap (λ (s : KeeperState). s.faults) shown ∙ (counts_fault fault k ∙ ap (count_after (of_opening fault)) (counts ∙ faults)));
}
  where
    counted_at : (rs : List (List ℕ)) → k.records ≡ Some rs → k.held ≡ length rs
    counted_at rs is = subst (λ (o : Option (List (List ℕ))). IfSome o (λ records. k.held ≡ length records)) is counted

    empty : (rs : List (List ℕ)) (bytes : List ℕ) → k.held ≡ 0 → k.records ≡ Some rs → IsImage chained rs bytes → IsImage chained [] bytes
    empty rs bytes none is image = subst (λ (r : List (List ℕ)). IsImage chained r bytes) (none_held rs (sym none ∙ counted_at rs is)) image

    damaged : (rs : List (List ℕ)) (place : ℕ) → k.records ≡ Some rs → IsDamaged k.records k.held place history → IsDamaged (Some rs) (length rs) place history
    damaged rs place is stops =
        subst (λ (held : ℕ). IsDamaged (Some rs) held place history) (counted_at rs is) (subst (λ (o : Option (List (List ℕ))). IsDamaged o k.held place history) is stops)

    why : (fault : OpenFault) → IsStopped fault k history → IsNotOpened (of_opening fault) start
    why Failed stops = tt
    why (Damaged place) stops = each_some start.reads (λ bytes is. let f = finds bytes is in (f.0, f.1, (history, damaged f.0 place f.2 stops)))
    why Empty stops = each_some start.reads (λ bytes is. let f = finds bytes is in inr (empty f.0 bytes stops f.2 f.1))
    why Memory stops = each_some start.reads (λ bytes is. let f = finds bytes is in begins_so f.0 bytes f.1)
