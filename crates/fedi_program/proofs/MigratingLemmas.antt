-- What moving the records of a store makes of two disks.
use Rattle.std.proofs.Common.{◌≡◌, ⊎_elim, ℕ, List, [], ◌∷◌, length, take, Option, Some, None, arith, inl, inr, refl, sym, ap, subst, ◌∙◌}
use Rattle.std.specs.Prelude.{◌≢◌, IfSome, Err, option_map}
use Rattle.fedi_journal.specs.Chains.{IsHidden, chained, hidden}
use Rattle.fedi_journal.specs.Finding as journals
use Rattle.fedi_journal.specs.Hiding.{IsHiddenOr, IsTooLong}
use Rattle.fedi_journal.specs.Making.{blank}
use Rattle.fedi_journal.specs.declared.faults.JournalFault.{JournalFault}
use Rattle.fedi_journal.specs.declared.faults.JournalFault.TheVariants as journal_faults
use Rattle.fedi_logged.specs.Endings.{Output}
use Rattle.fedi_objects.specs.declared.entry.Entry.{Entry}
use Rattle.fedi_opening.proofs.Records.{read_all}
use Rattle.fedi_opening.specs.Opening.{IsDamaged, IsRead, IsStopped, after_open}
use Rattle.fedi_opening.specs.declared.fault.OpenFault.{OpenFault}
use Rattle.fedi_opening.specs.declared.fault.OpenFault.TheVariants as openings
use Rattle.fedi_outside.specs.Disks.{DiskCrashes, DiskState, Elapses, MayTear}
use Rattle.fedi_outside.specs.Images.{Format, IsImage, front, plain}
use Rattle.fedi_outside.specs.Keepers.{KeeperState, MayLeave}
use Rattle.fedi_outside.specs.Opening.{IsDamagedAt, IsNoStore, IsOlder}
use Rattle.fedi_outside.specs.declared.disks.Disk.{Ghosts as DiskGhosts}
use Rattle.fedi_startup.specs.Faults.{of_journal, of_opening}
use Rattle.fedi_startup.specs.Stores.{IsSound, IsStoreOf, count_after, records_of}
use Rattle.fedi_program.specs.Migrating.{EndsFilling, FillsAtMost, HasBadRecordIn, InEither, IsFilled, IsNotRead, IsStoreIn, Migrates, MovesFrom, MovesTo}
use Rattle.fedi_program.specs.Seen.{Medium, medium}
use Rattle.fedi_program.specs.Stores.{IsSame}

-- ---- what is known

pub if_known : {A : Type 0} (o : Option A) {P : A → Type 0} → ((x : A) → o ≡ Some x → P x) → IfSome o P
if_known None each = tt
if_known (Some x) each = each x refl

pub of_known : {A : Type 0} (o : Option A) (P : A → Type 0) → IfSome o P → (x : A) → o ≡ Some x → P x
of_known None P p x is = absurd (cc is)
of_known (Some y) P p x is = let same : y ≡ x = cc is in subst P same p

-- the bytes of a disk stay known
pub still_known : (o : Option (List ℕ)) (g : List ℕ → List ℕ) (bytes : List ℕ) → o ≡ Some bytes → option_map g o ≡ Some (g bytes)
still_known o g bytes is = ap (option_map g) is

-- ---- the disk that is filled

pub fills_at_most : (kept : List (List ℕ)) (a b c : DiskCrashes) → Elapses a b (MayTear 0 (blank hidden) a) → ((image : List ℕ) → b.may_leave image → IsHidden image)
    → ((image : List ℕ) → b.left_since b.clock image → b.may_leave image) → Elapses b c (IsHiddenOr kept) → FillsAtMost kept a c
fills_at_most kept a b c one hides only two = record {
  along = record {
    clock = omega (arith, one.clock, two.clock);
    now = λ image left. inr (two.now image left);
    nothing_else = λ moment image past left. ⊎_elim (λ here. ⊎_elim (λ was. inl was) (λ torn. inr (inl torn)) (one.nothing_else moment image past here)) (λ new_one. inr (inr new_one))
        (two.nothing_else moment image (omega (arith, past, one.clock)) left);
    keeps = λ moment image past was. two.keeps moment image (omega (arith, past, one.clock)) (one.keeps moment image past was);
  };
  moment = b.clock;
  during = (one.clock, two.clock);
  whole = λ image left. ⊎_elim (λ here. inl (hides image (only image here))) (λ new_one. new_one) (two.nothing_else b.clock image (omega arith) left);
}

-- the records of a keeper are those of the history that was read from them
module _ (was : KeeperState) (history : List Entry) (counted : IfSome was.records (λ records. was.held ≡ length records)) (read : IsRead was.records was.held history) where
  pub read_as : (kept : List (List ℕ)) → was.records ≡ Some kept → kept ≡ records_of history
  read_as kept is = sym (of_known was.records _ (read_all was.records was.held history counted read) kept is)

  pub read_sound : IsSound history
  read_sound = record { legal = read.legal; formed = read.formed }

  pub read_some : was.held ≢ 0 → history ≢ []
  read_some filled none = filled (sym read.counted ∙ ap length none)

  -- the disk that they were copied to is the store of that history
  pub is_filled : (copied : Option (List (List ℕ))) (doubt : Option (List ℕ)) (disk : DiskState) (crashes : DiskCrashes) → was.held ≢ 0
      → ((kept : List (List ℕ)) → was.records ≡ Some kept → IfSome disk.reads (λ _. copied ≡ Some kept)) → doubt ≡ None
      → ((kept : List (List ℕ)) → copied ≡ Some kept → (image : List ℕ) → crashes.may_leave image → (rs : List (List ℕ)) × IsImage chained rs image × MayLeave kept doubt rs)
      → IfSome disk.reads crashes.may_leave → IfSome was.records (λ _. IsFilled history disk crashes)
  is_filled copied doubt disk crashes filled records settled images stay = if_known was.records (λ kept is. record {
    stored = if_known disk.reads (λ bytes told. leaves kept is bytes told bytes (of_known disk.reads _ stay bytes told));
    leaves = if_known disk.reads (λ bytes told. leaves kept is bytes told);
  })
    where
      leaves : (kept : List (List ℕ)) → was.records ≡ Some kept → (bytes : List ℕ) → disk.reads ≡ Some bytes → (image : List ℕ) → crashes.may_leave image → IsStoreOf history image
      leaves kept is bytes told image left =
          let file = images kept (of_known disk.reads _ (records kept is) bytes told) image left in
          let same : file.0 ≡ kept = subst (λ (d : Option (List ℕ)). MayLeave kept d file.0) settled file.2 in
          record {
            some = read_some filled;
            sound = read_sound;
            file = subst (λ (rs : List (List ℕ)). IsImage chained rs image) (same ∙ read_as kept is) file.1;
          }

  -- what a crash left of it
  pub fills_from : (before middle : DiskState) (a b c : DiskCrashes) (g : List ℕ → List ℕ) → middle.reads ≡ option_map g before.reads
      → Elapses a b (MayTear 0 (blank hidden) a) → IfSome middle.reads (λ _. (image : List ℕ) → b.may_leave image → IsHidden image)
      → ((image : List ℕ) → b.left_since b.clock image → b.may_leave image)
      → ((kept : List (List ℕ)) → was.records ≡ Some kept → IfSome middle.reads (λ _. Elapses b c (IsHiddenOr kept)))
      → IfSome was.records (λ _. IfSome before.reads (λ _. FillsAtMost (records_of history) a c))
  fills_from before middle a b c g written one hides only two =
      if_known was.records (λ kept is. if_known before.reads (λ bytes told.
      let here : middle.reads ≡ Some (g bytes) = written ∙ still_known before.reads g bytes told in
      subst (λ (rs : List (List ℕ)). FillsAtMost rs a c) (read_as kept is)
      (fills_at_most kept a b c one (of_known middle.reads _ hides (g bytes) here) only (of_known middle.reads _ (two kept is) (g bytes) here))))

  -- they are too long for it
  pub too_long_from : (before middle : DiskState) (g : List ℕ → List ℕ) → middle.reads ≡ option_map g before.reads
      → ((kept : List (List ℕ)) → was.records ≡ Some kept → IfSome middle.reads (λ _. IsTooLong kept))
      → IfSome was.records (λ _. IfSome before.reads (λ _. IsTooLong (records_of history)))
  too_long_from before middle g written full =
      if_known was.records (λ kept is. if_known before.reads (λ bytes told.
      subst IsTooLong (read_as kept is) (of_known middle.reads _ (full kept is) (g bytes) (written ∙ still_known before.reads g bytes told))))

-- ---- from the records of a keeper to the store of a disk

module _ {A B : Type 0} (a : Option A) (b : Option B) (here : (Q : Type 0) → IfSome a (λ _. Q) → IfSome b (λ _. Q)) where
  ends_known : (history : List Entry) (was is : ℕ) (before after : Medium) (first now : Output) (status : ℕ)
      → EndsFilling a history was is before after first now status → EndsFilling b history was is before after first now status
  ends_known history was is before after first now status (inl (fault, unfilled, full, tells)) =
      inl (fault, unfilled, (λ is_full. here (IfSome before.shown.reads (λ _. IsTooLong (records_of history))) (full is_full)), tells)
  ends_known history was is before after first now status (inr (same, calm, filled, prints)) =
      inr (same, calm, here (IsFilled history after.shown after.crashes) filled, prints)

  moves_known : (history : List Entry) (was is : ℕ) (before after : Medium) (first now : Output) (status : ℕ)
      → MovesTo a history was is before after first now status → MovesTo b history was is before after first now status
  moves_known history was is before after first now status (inl hides) = inl hides
  moves_known history was is before after first now status (inr (free, fills, ends)) =
      inr (
        free,
        here (IfSome before.shown.reads (λ _. FillsAtMost (records_of history) before.crashes after.crashes)) fills,
        ends_known history was is before after first now status ends,
      )

-- the count of faults after an opening
pub counts_open : (fault : OpenFault) (k : KeeperState) → (after_open {T = ℕ} (Err fault) k).faults ≡ count_after (of_opening fault) k.faults
counts_open openings.Failed k = refl
counts_open (openings.Damaged place) k = refl
counts_open openings.Empty k = refl
counts_open openings.Memory k = refl

pub no_records : (rs : List (List ℕ)) → 0 ≡ length rs → rs ≡ []
no_records [] is = refl
no_records (r ∷ rs) is = absurd (omega (arith, is))

module _ (f : Format) (either : (P : Format → Type 0) → P f → InEither P) where
  -- the records of a keeper that was read from a disk are no history
  pub not_stopped : (fault : OpenFault) (read : List Entry) (disk : DiskState) (k : KeeperState)
      → ((bytes : List ℕ) → disk.reads ≡ Some bytes → (rs : List (List ℕ)) × IsImage f rs bytes × (k.records ≡ Some rs) × (k.end ≡ length (front f rs)))
      → IfSome k.records (λ records. k.held ≡ length records) → IsStopped fault k read → IsNotRead (of_opening fault) disk
  not_stopped openings.Failed read disk k finds counted stopped = tt
  not_stopped (openings.Damaged place) read disk k finds counted stopped =
      if_known disk.reads (λ bytes is.
      let file = finds bytes is in
      let held : k.held ≡ length file.0 = of_known k.records _ counted file.0 file.2 in
      let damaged = subst (λ (n : ℕ). IsDamaged (Some file.0) n place read) held (subst (λ (o : Option (List (List ℕ))). IsDamaged o k.held place read) file.2 stopped) in
      either (λ g. HasBadRecordIn g place bytes) (file.0, file.1, (read, damaged)))
  not_stopped openings.Empty read disk k finds counted stopped =
      if_known disk.reads (λ bytes is.
      let file = finds bytes is in
      let none = no_records file.0 (sym stopped ∙ of_known k.records _ counted file.0 file.2) in
      inr (either (λ g. IsImage g [] bytes) (subst (λ (rs : List (List ℕ)). IsImage f rs bytes) none file.1)))
  not_stopped openings.Memory read disk k finds counted stopped = tt

  -- the records of a keeper that was read from a disk were moved
  pub moves_store : {D : Type 0} (disks : DiskGhosts D) (old left : Medium) (k l : KeeperState) (before after : D) (first now : Output) (status : ℕ)
      → ((bytes : List ℕ) → old.shown.reads ≡ Some bytes → (rs : List (List ℕ)) × IsImage f rs bytes × (k.records ≡ Some rs) × (k.end ≡ length (front f rs)))
      → IfSome k.records (λ records. k.held ≡ length records) → k.faults ≡ old.shown.faults → l.faults ≡ left.shown.faults → IsSame old left
      → MovesFrom disks k l before after first now status → Migrates disks old left before after first now status
  moves_store disks old left k l before after first now status finds counted was is same (inl (fault, read, stopped, shown, unasked, tells)) = (
    same,
    inl (
      of_opening fault,
      not_stopped fault read old.shown k finds counted stopped,
      sym is ∙ (ap (λ (s : KeeperState). s.faults) shown ∙ (counts_open fault k ∙ ap (count_after (of_opening fault)) was)),
      unasked,
      tells,
    ),
  )
  moves_store disks old left k l before after first now status finds counted was is same (inr (history, filled, read, moves)) = (
    same,
    inr (
      history,
      if_known old.shown.reads (λ bytes told.
          let file = finds bytes told in
          either (λ g. IsStoreIn g history bytes) (record {
            some = read_some k history counted read filled;
            sound = read_sound k history counted read;
            file = subst (λ (rs : List (List ℕ)). IsImage f rs bytes) (read_as k history counted read file.0 file.2) file.1;
          })),
      moves_known k.records old.shown.reads (λ Q known. if_known old.shown.reads (λ bytes told. of_known k.records _ known (finds bytes told).0 (finds bytes told).2))
          history old.shown.faults left.shown.faults (medium disks before) (medium disks after) first now status
          (subst (λ (n : ℕ). MovesTo k.records history n left.shown.faults (medium disks before) (medium disks after) first now status) was
          (subst (λ (n : ℕ). MovesTo k.records history k.faults n (medium disks before) (medium disks after) first now status) is moves)),
    ),
  )

  -- the disk is no file of records in this format
  pub not_read : (fault : JournalFault) (disk : DiskState) → (fault ≡ journal_faults.OldFormat → ⊥)
      → ((place : ℕ) → fault ≡ journal_faults.Damaged place → (bytes : List ℕ) → disk.reads ≡ Some bytes → IsDamagedAt f place bytes)
      → (fault ≡ journal_faults.NotAStore → (bytes : List ℕ) → disk.reads ≡ Some bytes → IsNoStore chained bytes) → IsNotRead (of_journal fault) disk
  not_read journal_faults.NotAStore disk old damaged store = if_known disk.reads (λ bytes is. inl (store refl bytes is))
  not_read journal_faults.OldFormat disk old damaged store = absurd (old refl)
  not_read (journal_faults.Damaged place) disk old damaged store = if_known disk.reads (λ bytes is. either (λ g. IsDamagedAt g place bytes) (damaged place refl bytes is))
  not_read journal_faults.Failed disk old damaged store = tt
  not_read journal_faults.Memory disk old damaged store = tt

-- the count of faults after it was read
pub counts_read : (fault : JournalFault) (n : ℕ) → journals.count_after fault n ≡ count_after (of_journal fault) n
counts_read journal_faults.NotAStore n = refl
counts_read journal_faults.OldFormat n = refl
counts_read (journal_faults.Damaged place) n = refl
counts_read journal_faults.Failed n = refl
counts_read journal_faults.Memory n = refl

pub in_chained : (P : Format → Type 0) → P chained → InEither P
in_chained P p = inl p

pub in_plain : (P : Format → Type 0) → P plain → InEither P
in_plain P p = inr p

-- a file of the older format has a store of that format
pub older_plain : (bytes : List ℕ) → IsOlder chained bytes → IsNoStore plain bytes → IsNoStore chained bytes
older_plain bytes older (inl short) = inl short
older_plain bytes older (inr others) = let same : plain.magic ≡ take 8 bytes = cc older.1 in absurd (others.0 (sym same))

-- and the format before it has none before it
pub none_older : (bytes : List ℕ) → IsOlder plain bytes → ⊥
none_older bytes older = absurd (cc older.1)
