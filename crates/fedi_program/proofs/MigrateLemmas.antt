-- With which status records are moved, and when they are.
use Rattle.std.proofs.Common.{◌≡◌, ◌⊎◌, ◌+◌, ℕ, true, List, [], ◌∷◌, ◌++◌, length, take, drop, Option, Some, arith, inl, inr, refl, sym, ap, subst, ◌∙◌, length-append, take-append-drop}
use Rattle.std.proofs.lemmas.List.{length-map, take_all}
use Rattle.fedi_entry.specs.Codes.{code_of}
use Rattle.fedi_journal.specs.ChainLaws.{chained_ok}
use Rattle.fedi_journal.specs.Chains.{chained}
use Rattle.fedi_journal.specs.Hiding.{IsTooLong, IsVisible}
use Rattle.fedi_journal.specs.declared.faults.CopyFault.TheVariants as copies
use Rattle.fedi_journal.specs.declared.faults.InitFault.TheVariants as inits
use Rattle.fedi_logged.specs.Endings.{Output, faults_of}
use Rattle.fedi_objects.specs.declared.entry.Entry.{Entry}
use Rattle.fedi_opening.proofs.Answers.{read_once, read_or_damaged}
use Rattle.fedi_opening.specs.Opening.{IsDamaged, IsRead}
use Rattle.fedi_outside.proofs.ImageLemmas.{digits_apart, length_front, one_image, plain_ok}
use Rattle.fedi_outside.proofs.Openings.{begins, image_is_store, not_damaged, older_is_store}
use Rattle.fedi_outside.specs.Disks.{DiskState}
use Rattle.fedi_outside.specs.Images.{Format, IsFormat, IsImage, front, plain}
use Rattle.fedi_outside.specs.Opening.{IsDamagedAt, IsNoStore, IsOlder}
use Rattle.fedi_outside.specs.declared.disks.Disk.{Ghosts as DiskGhosts}
use Rattle.fedi_startup.specs.Stores.{count_after, records_of}
use Rattle.fedi_startup.specs.declared.faults.StoreFault.{StoreFault}
use Rattle.fedi_startup.specs.declared.faults.StoreFault.TheVariants as stores
use Rattle.fedi_program.specs.Commands.{Migrate}
use Rattle.fedi_program.specs.Complete.{HasEitherStore, IsCalm, IsComplete, IsDone, outside_of}
use Rattle.fedi_program.specs.Migrating.{EndsFilling, HasBadRecordIn, InEither, IsEitherStore, IsNotRead, IsStoreIn, Migrates, MovesTo}
use Rattle.fedi_program.specs.Runs.{is_status_of}
use Rattle.fedi_program.specs.Seen.{Chance, Medium, medium}
use Rattle.fedi_program.specs.Stores.{ReportsStore}
use Rattle.fedi_program.proofs.CompleteLemmas.{printed, rises}
use Rattle.fedi_program.proofs.MemberLemmas.{print_status}
use Rattle.fedi_program.proofs.RunLemmas.{known_status}
use Rattle.fedi_program.proofs.MigratingLemmas.{of_known}

-- ---- the two formats exclude each other

magics : plain.magic ≡ chained.magic → ⊥
magics = digits_apart plain.magic chained.magic 7 refl

module _ (f : Format) (ok : IsFormat f) where
  begins_image : (rs : List (List ℕ)) (bytes : List ℕ) → IsImage f rs bytes → take 8 bytes ≡ f.magic
  begins_image rs bytes image = begins f ok rs bytes _ image.spelled

  begins_damaged : (place : ℕ) (bytes : List ℕ) → IsDamagedAt f place bytes → take 8 bytes ≡ f.magic
  begins_damaged place bytes damaged =
      begins f ok damaged.0 bytes (drop place bytes) (sym (take-append-drop place bytes) ∙ ap (λ (l : List ℕ). l ++ drop place bytes) damaged.1.spelled)

  is_read : (history : List Entry) (bytes : List ℕ) → IsStoreIn f history bytes → IsRead (Some (records_of history)) (length (records_of history)) history
  is_read history bytes store = record {
    legal = store.sound.legal;
    formed = store.sound.formed;
    counted = sym (length-map history code_of);
    spelled = sym (take_all (length (records_of history)) (records_of history) (omega arith));
  }

  store_once : (a b : List Entry) (bytes : List ℕ) → IsStoreIn f a bytes → IsStoreIn f b bytes → a ≡ b
  store_once a b bytes one two =
      let same = one_image f ok (records_of b) (records_of a) bytes two.file one.file in
      read_once (records_of a) a b (is_read a bytes one) (subst (λ (rs : List (List ℕ)). IsRead (Some rs) (length rs) b) same (is_read b bytes two))

  store_empty : (history : List Entry) (bytes : List ℕ) → IsStoreIn f history bytes → IsImage f [] bytes → ⊥
  store_empty history bytes store none = store.some (empty history (one_image f ok (records_of history) [] bytes store.file none))
    where
      empty : (history : List Entry) → records_of history ≡ [] → history ≡ []
      empty [] is = refl
      empty (e ∷ history) is = absurd (cc is)

  store_bad : (history : List Entry) (place : ℕ) (bytes : List ℕ) → IsStoreIn f history bytes → HasBadRecordIn f place bytes → ⊥
  store_bad history place bytes store bad =
      let same = one_image f ok bad.0 (records_of history) bytes bad.1 store.file in
      read_or_damaged (records_of history) place history bad.2.0 (is_read history bytes store)
      (subst (λ (rs : List (List ℕ)). IsDamaged (Some rs) (length rs) place bad.2.0) same bad.2.1)

older_image : (rs : List (List ℕ)) (bytes : List ℕ) → IsImage plain rs bytes → IsOlder chained bytes
older_image rs bytes image = (
  omega (arith, ap length image.spelled, length-append (front plain rs) (0 ∷ drop (length (front plain rs) + 1) bytes), length_front plain plain_ok rs),
  ap (λ (l : List ℕ). Some l) (sym (begins_image plain plain_ok rs bytes image)),
)

either_once : (a b : List Entry) (bytes : List ℕ) → IsEitherStore a bytes → IsEitherStore b bytes → a ≡ b
either_once a b bytes (inl one) (inl two) = store_once chained chained_ok a b bytes one two
either_once a b bytes (inl one) (inr two) =
    absurd (magics (sym (begins_image plain plain_ok (records_of b) bytes two.file) ∙ begins_image chained chained_ok (records_of a) bytes one.file))
either_once a b bytes (inr one) (inl two) =
    absurd (magics (sym (begins_image plain plain_ok (records_of a) bytes one.file) ∙ begins_image chained chained_ok (records_of b) bytes two.file))
either_once a b bytes (inr one) (inr two) = store_once plain plain_ok a b bytes one two

either_none : (history : List Entry) (bytes : List ℕ) → IsEitherStore history bytes → IsNoStore chained bytes ⊎ InEither (λ f. IsImage f [] bytes) → ⊥
either_none history bytes (inl store) (inl none) = image_is_store chained chained_ok (records_of history) bytes store.file none
either_none history bytes (inr store) (inl none) = older_is_store chained bytes (older_image (records_of history) bytes store.file) none
either_none history bytes (inl store) (inr (inl none)) = store_empty chained chained_ok history bytes store none
either_none history bytes (inl store) (inr (inr none)) =
    magics (sym (begins_image plain plain_ok [] bytes none) ∙ begins_image chained chained_ok (records_of history) bytes store.file)
either_none history bytes (inr store) (inr (inl none)) =
    magics (sym (begins_image plain plain_ok (records_of history) bytes store.file) ∙ begins_image chained chained_ok [] bytes none)
either_none history bytes (inr store) (inr (inr none)) = store_empty plain plain_ok history bytes store none

either_byte : (history : List Entry) (place : ℕ) (bytes : List ℕ) → IsEitherStore history bytes → InEither (λ f. IsDamagedAt f place bytes) → ⊥
either_byte history place bytes (inl store) (inl damaged) = not_damaged chained chained_ok (records_of history) place bytes store.file damaged
either_byte history place bytes (inl store) (inr damaged) =
    magics (sym (begins_damaged plain plain_ok place bytes damaged) ∙ begins_image chained chained_ok (records_of history) bytes store.file)
either_byte history place bytes (inr store) (inl damaged) =
    magics (sym (begins_image plain plain_ok (records_of history) bytes store.file) ∙ begins_damaged chained chained_ok place bytes damaged)
either_byte history place bytes (inr store) (inr damaged) = not_damaged plain plain_ok (records_of history) place bytes store.file damaged

either_record : (history : List Entry) (place : ℕ) (bytes : List ℕ) → IsEitherStore history bytes → InEither (λ f. HasBadRecordIn f place bytes) → ⊥
either_record history place bytes (inl store) (inl bad) = store_bad chained chained_ok history place bytes store bad
either_record history place bytes (inl store) (inr bad) =
    magics (sym (begins_image plain plain_ok bad.0 bytes bad.1) ∙ begins_image chained chained_ok (records_of history) bytes store.file)
either_record history place bytes (inr store) (inl bad) =
    magics (sym (begins_image plain plain_ok (records_of history) bytes store.file) ∙ begins_image chained chained_ok bad.0 bytes bad.1)
either_record history place bytes (inr store) (inr bad) = store_bad plain plain_ok history place bytes store bad

-- ---- the status

pub migrate_status : {D : Type 0} (disks : DiskGhosts D) (old left : Medium) (before after : D) (first now : Output) (status : ℕ)
    → Migrates disks old left before after first now status → is_status_of (Some Migrate) status ≡ true
migrate_status disks old left before after first now status (_, inl (stores.NotAStore, _, _, _, tells)) = known_status (Some Migrate) status 3 refl tells.0
migrate_status disks old left before after first now status (_, inl (stores.OldFormat, why, _, _, tells)) = absurd why
migrate_status disks old left before after first now status (_, inl (stores.DamagedByte place, _, _, _, tells)) = known_status (Some Migrate) status 4 refl tells.0
migrate_status disks old left before after first now status (_, inl (stores.DamagedRecord place, _, _, _, tells)) = known_status (Some Migrate) status 4 refl tells.0
migrate_status disks old left before after first now status (_, inl (stores.Failed, _, _, _, tells)) = known_status (Some Migrate) status 5 refl tells.0
migrate_status disks old left before after first now status (_, inl (stores.Memory, _, _, _, tells)) = known_status (Some Migrate) status 12 refl tells.0
migrate_status disks old left before after first now status (_, inr (history, _, inl (_, (inits.Exists, _, _, _, tells)))) = known_status (Some Migrate) status 9 refl tells.0
migrate_status disks old left before after first now status (_, inr (history, _, inl (_, (inits.Failed, _, _, _, tells)))) = known_status (Some Migrate) status 5 refl tells.0
migrate_status disks old left before after first now status (_, inr (history, _, inr (_, _, inl (copies.Source, _, _, tells)))) = known_status (Some Migrate) status 5 refl tells.0
migrate_status disks old left before after first now status (_, inr (history, _, inr (_, _, inl (copies.Failed, _, _, tells)))) = known_status (Some Migrate) status 5 refl tells.0
migrate_status disks old left before after first now status (_, inr (history, _, inr (_, _, inl (copies.Full, _, _, tells)))) = known_status (Some Migrate) status 13 refl tells.0
migrate_status disks old left before after first now status (_, inr (history, _, inr (_, _, inl (copies.Memory, _, _, tells)))) = known_status (Some Migrate) status 12 refl tells.0
migrate_status disks old left before after first now status (_, inr (history, _, inr (_, _, inr (_, _, _, prints)))) = print_status (Some Migrate) first now _ status refl refl prints

-- ---- it is done

pub refused_done : (fault : StoreFault) (old left : DiskState) (first now : Output) (status : ℕ) (history : List Entry) → IsNotRead fault old → left.faults ≡ count_after fault old.faults
    → ReportsStore fault first now status → HasEitherStore old history → IsCalm old.faults left.faults → IsDone Migrate status
refused_done stores.NotAStore old left first now status history why faults tells (bytes, told, store) calm =
    absurd (either_none history bytes store (of_known old.reads _ why bytes told))
refused_done stores.OldFormat old left first now status history why faults tells has calm = absurd why
refused_done (stores.DamagedByte place) old left first now status history why faults tells (bytes, told, store) calm =
    absurd (either_byte history place bytes store (of_known old.reads _ why bytes told))
refused_done (stores.DamagedRecord place) old left first now status history why faults tells (bytes, told, store) calm =
    absurd (either_record history place bytes store (of_known old.reads _ why bytes told))
refused_done stores.Failed old left first now status history why faults tells has calm = absurd (calm (rises old.faults left.faults faults))
refused_done stores.Memory old left first now status history why faults tells has calm = inr (inl tells.0)

ends_done : {A : Type 0} (reads : Option A) (history : List Entry) (was is : ℕ) (before after : Medium) (first now : Output) (status : ℕ) (old : A) (bytes : List ℕ)
    → EndsFilling reads history was is before after first now status → reads ≡ Some old → before.shown.reads ≡ Some bytes → (IsTooLong (records_of history) → ⊥)
    → IsCalm was is → IsCalm before.shown.faults after.shown.faults → IsCalm first.faults now.faults → IsDone Migrate status
ends_done reads history was is before after first now status old bytes (inl (copies.Source, unfilled, _, tells)) known told short calm second writes =
    absurd (calm (rises was is unfilled.0))
ends_done reads history was is before after first now status old bytes (inl (copies.Failed, unfilled, _, tells)) known told short calm second writes =
    absurd (second (rises before.shown.faults after.shown.faults unfilled.1))
ends_done reads history was is before after first now status old bytes (inl (copies.Full, unfilled, full, tells)) known told short calm second writes =
    absurd (short (of_known before.shown.reads _ (of_known reads _ (full refl) old known) bytes told))
ends_done reads history was is before after first now status old bytes (inl (copies.Memory, unfilled, _, tells)) known told short calm second writes = inr (inl tells.0)
ends_done reads history was is before after first now status old bytes (inr (_, _, _, prints)) known told short calm second writes =
    printed Migrate first now _ status writes prints

pub moves_done : {A : Type 0} (reads : Option A) (history : List Entry) (was is : ℕ) (before after : Medium) (first now : Output) (status : ℕ) (old : A) (bytes : List ℕ)
    → MovesTo reads history was is before after first now status → reads ≡ Some old → before.shown.reads ≡ Some bytes → (IsVisible bytes → ⊥) → (IsTooLong (records_of history) → ⊥)
    → IsCalm was is → IsCalm before.shown.faults after.shown.faults → IsCalm first.faults now.faults → IsDone Migrate status
moves_done reads history was is before after first now status old bytes (inl (_, (inits.Exists, why, _, _, tells))) known told free short calm second writes =
    absurd (free (why.2 bytes told))
moves_done reads history was is before after first now status old bytes (inl (_, (inits.Failed, why, _, _, tells))) known told free short calm second writes =
    absurd (second (rises before.shown.faults after.shown.faults why.1))
moves_done reads history was is before after first now status old bytes (inr (_, _, ends)) known told free short calm second writes =
    ends_done reads history was is before after first now status old bytes ends known told short calm second writes

migrated_done : {D : Type 0} (disks : DiskGhosts D) (old left : Medium) (before after : D) (first now : Output) (status : ℕ) (bytes : List ℕ) (history : List Entry)
    → Migrates disks old left before after first now status → (disks.shown before).reads ≡ Some bytes → (IsVisible bytes → ⊥) → HasEitherStore old.shown history
    → (IsTooLong (records_of history) → ⊥) → IsCalm old.shown.faults left.shown.faults → IsCalm (disks.shown before).faults (disks.shown after).faults
    → IsCalm first.faults now.faults → IsDone Migrate status
migrated_done disks old left before after first now status bytes history (_, inl (fault, why, faults, _, tells)) told free has short calm second writes =
    refused_done fault old.shown left.shown first now status history why faults tells has calm
migrated_done disks old left before after first now status bytes history (_, inr (other, is, moves)) told free has short calm second writes =
    let same : history ≡ other = either_once history other has.0 has.2 (of_known old.shown.reads _ is has.0 has.1) in
    moves_done old.shown.reads other old.shown.faults left.shown.faults (medium disks before) (medium disks after) first now status has.0 bytes moves has.1 told free
    (subst (λ (h : List Entry). IsTooLong (records_of h) → ⊥) same short) calm second writes

pub migrate_complete : {D : Type 0} (disks : DiskGhosts D) (told : Option ℕ) (old left : Medium) (before after : D) (chance drawn : Chance) (reads later : ℕ)
    (first now : Output) (status : ℕ) → Migrates disks old left before after first now status
    → IsComplete Migrate told (outside_of old.shown (disks.shown before) chance (faults_of reads first.faults))
    (outside_of left.shown (disks.shown after) drawn (faults_of later now.faults)) status
migrate_complete disks told old left before after chance drawn reads later first now status migrates = λ calm possible.
    migrated_done disks old left before after first now status possible.0.0 possible.1.0 migrates possible.0.1 possible.0.2 possible.1.1 possible.1.2 calm.disk calm.second calm.writes
