-- What moving the records of a store between a disk and a vault makes of the two, and with which status.
use Rattle.std.proofs.Common.{◌≡◌, ℕ, Bool, true, false, max, List, [], length, Option, Some, None, Err, arith, inl, inr, refl, sym, ap, subst, ◌∙◌}
use Rattle.std.specs.Prelude.{◌≢◌, IfSome, IsErrOf}
use Rattle.fedi_journal.specs.Hiding.{IsTooLong, IsVisible}
use Rattle.fedi_journal.specs.declared.faults.CopyFault.TheVariants as copies
use Rattle.fedi_journal.specs.declared.faults.InitFault.TheVariants as inits
use Rattle.fedi_logged.specs.Endings.{Output, faults_of}
use Rattle.fedi_objects.specs.declared.entry.Entry.{Entry}
use Rattle.fedi_opening.specs.Opening.{IsDamaged, IsRead, IsStopped, after_open}
use Rattle.fedi_opening.specs.declared.fault.OpenFault.{OpenFault}
use Rattle.fedi_opening.specs.declared.fault.OpenFault.TheVariants as openings
use Rattle.fedi_outside.specs.Disks.{DiskState}
use Rattle.fedi_outside.specs.Images.{Format, IsImage, front}
use Rattle.fedi_outside.specs.Keepers.{KeeperState}
use Rattle.fedi_outside.specs.Vaults.{IsHanded, VaultState, after_fill, counted_fill}
use Rattle.fedi_outside.specs.declared.disks.Disk.{Ghosts as DiskGhosts}
use Rattle.fedi_outside.specs.declared.keepers.Keeper.{Ghosts as KeeperGhosts}
use Rattle.fedi_outside.specs.declared.vaults.FillFault.{FillFault}
use Rattle.fedi_outside.specs.declared.vaults.FillFault.TheVariants as fills
use Rattle.fedi_startup.specs.Faults.{of_opening}
use Rattle.fedi_startup.specs.Stores.{count_after, records_of}
use Rattle.fedi_startup.specs.Vaults.{IsNotOpenedIn}
use Rattle.fedi_startup.specs.declared.faults.StoreFault.{StoreFault}
use Rattle.fedi_startup.specs.declared.faults.StoreFault.TheVariants as stores
use Rattle.fedi_program.specs.Commands.{Fill, Migrate, place_if}
use Rattle.fedi_program.specs.Complete.{CanBeFilled, HasEitherStore, HasStoreIn, IsCalm, IsComplete, IsCompleteIn, IsDone, Outside, outside_of}
use Rattle.fedi_program.specs.Filling.{FillsFrom, FillsTo, IsFilledBy, IsUnfilled, MigratesIn, MigratesOut, MovesOut, ReportsUnfilled, count_filled, count_source}
use Rattle.fedi_program.specs.Migrating.{InEither, IsStoreIn, MovesFrom, MovesTo}
use Rattle.fedi_program.specs.Runs.{asks_disk, asks_vault, is_status_of}
use Rattle.fedi_program.specs.Seen.{Chance, Medium, medium}
use Rattle.fedi_program.specs.Stores.{IsSame}
use Rattle.fedi_program.specs.Working.{may_be_in_vault}
use Rattle.fedi_program.proofs.CompleteInLemmas.{by_told}
use Rattle.fedi_program.proofs.CompleteLemmas.{printed, rises}
use Rattle.fedi_program.proofs.MemberLemmas.{print_status}
use Rattle.fedi_program.proofs.MigrateLemmas.{moves_done, refused_done}
use Rattle.fedi_program.proofs.MigratingLemmas.{counts_open, if_known, no_records, not_stopped, of_known, read_as, read_some, read_sound}
use Rattle.fedi_program.proofs.RunLemmas.{known_status}

-- ---- the status

pub fill_status : (old left : Medium) (before after : VaultState) (first now : Output) (status : ℕ) → MigratesIn old left before after first now status → is_status_of (Some Fill) status ≡ true
fill_status old left before after first now status (_, inl (stores.NotAStore, _, _, _, tells)) = known_status (Some Fill) status 3 refl tells.0
fill_status old left before after first now status (_, inl (stores.OldFormat, why, _, _, tells)) = absurd why
fill_status old left before after first now status (_, inl (stores.DamagedByte place, _, _, _, tells)) = known_status (Some Fill) status 4 refl tells.0
fill_status old left before after first now status (_, inl (stores.DamagedRecord place, _, _, _, tells)) = known_status (Some Fill) status 4 refl tells.0
fill_status old left before after first now status (_, inl (stores.Failed, _, _, _, tells)) = known_status (Some Fill) status 5 refl tells.0
fill_status old left before after first now status (_, inl (stores.Memory, _, _, _, tells)) = known_status (Some Fill) status 12 refl tells.0
fill_status old left before after first now status (_, inr (history, _, inl (fills.Exists, _, tells))) = known_status (Some Fill) status 9 refl tells.0
fill_status old left before after first now status (_, inr (history, _, inl (fills.Source, _, tells))) = known_status (Some Fill) status 5 refl tells.0
fill_status old left before after first now status (_, inr (history, _, inl (fills.Failed, _, tells))) = known_status (Some Fill) status 5 refl tells.0
fill_status old left before after first now status (_, inr (history, _, inl (fills.Memory, _, tells))) = known_status (Some Fill) status 12 refl tells.0
fill_status old left before after first now status (_, inr (history, _, inr (_, _, prints))) = print_status (Some Fill) first now _ status refl refl prints

moves_status : {A : Type 0} (known : Option A) (history : List Entry) (was is : ℕ) (before after : Medium) (first now : Output) (status : ℕ)
    → MovesTo known history was is before after first now status → is_status_of (Some Migrate) status ≡ true
moves_status known history was is before after first now status (inl (_, (inits.Exists, _, _, _, tells))) = known_status (Some Migrate) status 9 refl tells.0
moves_status known history was is before after first now status (inl (_, (inits.Failed, _, _, _, tells))) = known_status (Some Migrate) status 5 refl tells.0
moves_status known history was is before after first now status (inr (_, _, inl (copies.Source, _, _, tells))) = known_status (Some Migrate) status 5 refl tells.0
moves_status known history was is before after first now status (inr (_, _, inl (copies.Failed, _, _, tells))) = known_status (Some Migrate) status 5 refl tells.0
moves_status known history was is before after first now status (inr (_, _, inl (copies.Full, _, _, tells))) = known_status (Some Migrate) status 13 refl tells.0
moves_status known history was is before after first now status (inr (_, _, inl (copies.Memory, _, _, tells))) = known_status (Some Migrate) status 12 refl tells.0
moves_status known history was is before after first now status (inr (_, _, inr (_, _, _, prints))) = print_status (Some Migrate) first now _ status refl refl prints

pub out_status : {D : Type 0} (disks : DiskGhosts D) (old left : VaultState) (before after : D) (first now : Output) (status : ℕ)
    → MigratesOut disks old left before after first now status → is_status_of (Some Migrate) status ≡ true
out_status disks old left before after first now status (inl (stores.NotAStore, _, _, tells)) = known_status (Some Migrate) status 3 refl tells.0
out_status disks old left before after first now status (inl (stores.OldFormat, refused, _, tells)) = absurd refused.why
out_status disks old left before after first now status (inl (stores.DamagedByte place, refused, _, tells)) = absurd refused.why
out_status disks old left before after first now status (inl (stores.DamagedRecord place, _, _, tells)) = known_status (Some Migrate) status 4 refl tells.0
out_status disks old left before after first now status (inl (stores.Failed, _, _, tells)) = known_status (Some Migrate) status 5 refl tells.0
out_status disks old left before after first now status (inl (stores.Memory, _, _, tells)) = known_status (Some Migrate) status 12 refl tells.0
out_status disks old left before after first now status (inr (history, count, _, _, _, _, moves)) =
    moves_status old.kept history old.faults count (medium disks before) (medium disks after) first now status moves

-- ---- it is done

as_fill : (status : ℕ) → IsDone Migrate status → IsDone Fill status
as_fill status (inl done) = inl done
as_fill status (inr (inl memory)) = inr (inl memory)
as_fill status (inr (inr (inl (is, _)))) = absurd (cc is)
as_fill status (inr (inr (inr (is, _)))) = absurd (cc is)

unfilled_done : (fault : FillFault) (was is : ℕ) (before after : VaultState) (first now : Output) (status : ℕ) → IsUnfilled fault was is before after → ReportsUnfilled fault first now status
    → IsCalm was is → CanBeFilled before after → IsDone Fill status
unfilled_done fills.Exists was is before after first now status unfilled tells calm may =
    absurd (of_known before.kept _ (unfilled.exists refl) [] may.0 refl)
unfilled_done fills.Source was is before after first now status unfilled tells calm may = absurd (calm (rises was is unfilled.source))
unfilled_done fills.Failed was is before after first now status unfilled tells calm may = absurd (may.1 (rises before.faults after.faults unfilled.cause))
unfilled_done fills.Memory was is before after first now status unfilled tells calm may = inr (inl tells.0)

fill_done : (old left : Medium) (before after : VaultState) (first now : Output) (status : ℕ) (history : List Entry) → MigratesIn old left before after first now status
    → HasEitherStore old.shown history → CanBeFilled before after → IsCalm old.shown.faults left.shown.faults → IsCalm first.faults now.faults → IsDone Fill status
fill_done old left before after first now status history (_, inl (fault, why, faults, _, tells)) has may calm writes =
    as_fill status (refused_done fault old.shown left.shown first now status history why faults tells has calm)
fill_done old left before after first now status history (_, inr (other, _, inl (fault, unfilled, tells))) has may calm writes =
    unfilled_done fault old.shown.faults left.shown.faults before after first now status unfilled tells calm may
fill_done old left before after first now status history (_, inr (other, _, inr (_, _, prints))) has may calm writes = printed Fill first now _ status writes prints

pub fill_complete : (told : Option ℕ) (old left : Medium) (second filled : DiskState) (chance drawn : Chance) (reads later : ℕ) (before after : VaultState) (first now : Output) (status : ℕ)
    → MigratesIn old left before after first now status → CanBeFilled before after
    → IsComplete Fill told (outside_of old.shown second chance (faults_of reads first.faults)) (outside_of left.shown filled drawn (faults_of later now.faults)) status
fill_complete told old left second filled chance drawn reads later before after first now status migrates may = λ calm possible.
    fill_done old left before after first now status possible.0 migrates possible.1 may calm.disk calm.writes

out_done : {D : Type 0} (disks : DiskGhosts D) (old left : VaultState) (before after : D) (first now : Output) (status : ℕ) (bytes : List ℕ) (history : List Entry)
    → MigratesOut disks old left before after first now status → (disks.shown before).reads ≡ Some bytes → (IsVisible bytes → ⊥) → HasStoreIn old history
    → (IsTooLong (records_of history) → ⊥) → IsCalm old.faults left.faults → IsCalm (disks.shown before).faults (disks.shown after).faults → IsCalm first.faults now.faults
    → IsDone Migrate status
out_done disks old left before after first now status bytes history (inl (fault, refused, _, tells)) told free has short calm second writes =
    by_told Migrate fault old left history first now status has calm refused tells
out_done disks old left before after first now status bytes history (inr (other, count, store, _, _, faults, moves)) told free has short calm second writes =
    let same : records_of history ≡ records_of other = of_known old.kept _ store.stored (records_of history) has.kept in
    moves_done old.kept other old.faults count (medium disks before) (medium disks after) first now status (records_of history) bytes moves has.kept told free
    (subst (λ (rs : List (List ℕ)). IsTooLong rs → ⊥) same short) (λ rose. calm (omega (arith, rose, faults))) second writes

pub out_complete : {D P : Type 0} (disks : DiskGhosts D) (keepers : KeeperGhosts P) (told : Option ℕ) (old left : VaultState) (before after : D) (was is : Outside) (first now : Output) (status : ℕ)
    → was.second ≡ disks.shown before → is.second ≡ disks.shown after → was.stream.writes ≡ first.faults → is.stream.writes ≡ now.faults
    → MigratesOut disks old left before after first now status → IsCompleteIn keepers Migrate told old left was is status
out_complete disks keepers told old left before after was is first now status here there counted counts migrates = λ calm all possible.
    out_done disks old left before after first now status possible.0.0 possible.1.0 migrates (ap (λ (d : DiskState). d.reads) (sym here) ∙ possible.0.1) possible.0.2 possible.1.1 possible.1.2 calm
    (rw (here, there) at all.second) (rw (counted, counts) at all.writes)

-- ---- from a disk to a vault

-- what a run leaves that fills a vault: its store is on a disk
pub fills_from_disk : (is_a_table : Bool) → (is_a_table ≡ true → may_be_in_vault Fill ≡ true)
    → (asks_disk (place_if is_a_table) (Some Fill) ≡ true) × (asks_vault (place_if is_a_table) (Some Fill) ≡ true)
fills_from_disk true may = let clash = may refl in absurd (cc clash)
fills_from_disk false may = (refl, refl)

if_map : {A : Type 0} (o : Option A) {P Q : A → Type 0} → IfSome o P → ((x : A) → P x → Q x) → IfSome o Q
if_map None all f = tt
if_map (Some x) all f = f x all

of_source : (T : Type 0) (fault : FillFault) (k l : KeeperState) → l ≡ after_fill {T = T} (Err fault) k → l.faults ≡ count_source fault k.faults
of_source T fills.Exists k l is = ap (λ (s : KeeperState). s.faults) is
of_source T fills.Source k l is = ap (λ (s : KeeperState). s.faults) is
of_source T fills.Failed k l is = ap (λ (s : KeeperState). s.faults) is
of_source T fills.Memory k l is = ap (λ (s : KeeperState). s.faults) is

of_filled : (T : Type 0) (fault : FillFault) (n : ℕ) → counted_fill {T = T} (Err fault) n ≡ count_filled fault n
of_filled T fills.Exists n = refl
of_filled T fills.Source n = refl
of_filled T fills.Failed n = refl
of_filled T fills.Memory n = refl

-- the vault was not filled
pub not_filled : (T : Type 0) (fault : FillFault) (k l : KeeperState) (was : ℕ) (before after : VaultState) → k.faults ≡ was → IfSome after.kept (λ now. before.kept ≡ Some now)
    → IfSome before.kept (λ records. IsErrOf {T = T} (Err fault) fills.Exists → records ≢ []) → l ≡ after_fill {T = T} (Err fault) k → after.out ≡ false
    → after.faults ≡ counted_fill {T = T} (Err fault) before.faults → IsUnfilled fault was l.faults before after
not_filled T fault k l was before after same kept exists source home cause = record {
  kept = kept;
  exists = λ is. if_map before.kept exists (λ records some. some (rw is refl));
  source = of_source T fault k l source ∙ ap (count_source fault) same;
  cause = cause ∙ of_filled T fault before.faults;
  home = home;
}

-- it was, with the records of this history
pub is_filled_by : (was : KeeperState) (history : List Entry) (counted : IfSome was.records (λ records. was.held ≡ length records)) (read : IsRead was.records was.held history)
    → (before after : VaultState) (from : Option (List (List ℕ))) → from ≡ was.records → IfSome before.kept (λ records. records ≡ [])
    → IfSome after.kept (λ now. IfSome from (λ records. now ≡ records)) → after.out ≡ false → after.faults ≡ before.faults → IsFilledBy was.records history before after
is_filled_by was history counted read before after from same free all home calm = record {
  free = free;
  kept = if_known after.kept (λ now is. if_known was.records (λ records told. of_known from _ (of_known after.kept _ all now is) records (same ∙ told) ∙ read_as was history counted read records told));
  home = home;
  calm = calm;
}

fills_known : {A B : Type 0} (a : Option A) (b : Option B) → ((Q : Type 0) → IfSome a (λ _. Q) → IfSome b (λ _. Q)) → (history : List Entry) (was is : ℕ) (before after : VaultState)
    (first now : Output) (status : ℕ) → FillsTo a history was is before after first now status → FillsTo b history was is before after first now status
fills_known a b here history was is before after first now status (inl unfilled) = inl unfilled
fills_known a b here history was is before after first now status (inr (same, filled, prints)) = inr (
  same,
  record {
    free = filled.free;
    kept = if_map after.kept filled.kept (λ kept known. here (kept ≡ records_of history) known);
    home = filled.home;
    calm = filled.calm;
  },
  prints,
)

module _ (f : Format) (either : (P : Format → Type 0) → P f → InEither P) where
  -- the records of a keeper that was read from a disk were moved
  pub fills_store : (old left : Medium) (k l : KeeperState) (before after : VaultState) (first now : Output) (status : ℕ)
      → ((bytes : List ℕ) → old.shown.reads ≡ Some bytes → (rs : List (List ℕ)) × IsImage f rs bytes × (k.records ≡ Some rs) × (k.end ≡ length (front f rs)))
      → IfSome k.records (λ records. k.held ≡ length records) → k.faults ≡ old.shown.faults → l.faults ≡ left.shown.faults → IsSame old left
      → FillsFrom k l before after first now status → MigratesIn old left before after first now status
  fills_store old left k l before after first now status finds counted was is same (inl (fault, read, stopped, shown, unasked, tells)) = (
    same,
    inl (
      of_opening fault,
      not_stopped f either fault read old.shown k finds counted stopped,
      sym is ∙ (ap (λ (s : KeeperState). s.faults) shown ∙ (counts_open fault k ∙ ap (count_after (of_opening fault)) was)),
      unasked,
      tells,
    ),
  )
  fills_store old left k l before after first now status finds counted was is same (inr (history, filled, read, moves)) = (
    same,
    inr (
      history,
      if_known old.shown.reads (λ bytes told.
          let file = finds bytes told in
          either (λ g. IsStoreIn g history bytes) (record {
            some = read_some k history counted read filled;
            sound = read_sound k history counted read;
            file = subst (λ (rs : List (List ℕ)). IsImage f rs bytes) (read_as k history counted read file.0 file.2) file.1;
          })),
      fills_known k.records old.shown.reads (λ Q known. if_known old.shown.reads (λ bytes told. of_known k.records _ known (finds bytes told).0 (finds bytes told).2))
          history old.shown.faults left.shown.faults before after first now status
          (subst (λ (n : ℕ). FillsTo k.records history n left.shown.faults before after first now status) was
          (subst (λ (n : ℕ). FillsTo k.records history k.faults n before after first now status) is moves)),
    ),
  )

-- ---- from a vault to a disk

-- an opening that was stopped leaves the records
pub opening_keeps : (fault : OpenFault) (k l : KeeperState) → l ≡ after_open {T = ℕ} (Err fault) k → l.records ≡ k.records
opening_keeps openings.Failed k l is = ap (λ (s : KeeperState). s.records) is
opening_keeps (openings.Damaged place) k l is = ap (λ (s : KeeperState). s.records) is
opening_keeps openings.Empty k l is = ap (λ (s : KeeperState). s.records) is
opening_keeps openings.Memory k l is = ap (λ (s : KeeperState). s.records) is

-- the records of a keeper are no history
not_opened_kept : (fault : OpenFault) (read : List Entry) (k : KeeperState) → IfSome k.records (λ records. k.held ≡ length records) → IsStopped fault k read
    → IsNotOpenedIn (of_opening fault) k.records
not_opened_kept openings.Failed read k counted stopped = tt
not_opened_kept (openings.Damaged place) read k counted stopped =
    if_known k.records (λ records is.
    let held : k.held ≡ length records = of_known k.records _ counted records is in
    let damaged = subst (λ (n : ℕ). IsDamaged (Some records) n place read) held (subst (λ (o : Option (List (List ℕ))). IsDamaged o k.held place read) is stopped) in
    (read, damaged))
not_opened_kept openings.Empty read k counted stopped =
    if_known k.records (λ records is. no_records records (sym stopped ∙ of_known k.records _ counted records is))
not_opened_kept openings.Memory read k counted stopped = tt

pub moves_out : {D : Type 0} (disks : DiskGhosts D) (was is : KeeperState) (before after : D) (first now : Output) (status : ℕ) → IfSome was.records (λ records. was.held ≡ length records)
    → MovesFrom disks was is before after first now status → is.records ≡ was.records → MovesOut disks was.records was.faults is before after first now status
moves_out disks was is before after first now status counted (inl (fault, read, stopped, shown, unasked, tells)) keeps = inl (
  of_opening fault,
  not_opened_kept fault read was counted stopped,
  opening_keeps fault was is shown,
  ap (λ (s : KeeperState). s.faults) shown ∙ counts_open fault was,
  unasked,
  tells,
)
moves_out disks was is before after first now status counted (inr (history, filled, read, moves)) keeps = inr (
  history,
  record {
    some = read_some was history counted read filled;
    sound = read_sound was history counted read;
    stored = if_known was.records (λ records told. read_as was history counted read records told);
  },
  keeps,
  moves,
)

max_after : (fault : StoreFault) (n : ℕ) → max n (count_after fault n) ≡ count_after fault n
max_after stores.NotAStore n = omega arith
max_after stores.OldFormat n = omega arith
max_after (stores.DamagedByte place) n = omega arith
max_after (stores.DamagedRecord place) n = omega arith
max_after stores.Failed n = omega arith
max_after stores.Memory n = omega arith

closed_as : {D : Type 0} (disks : DiskGhosts D) (old middle left : VaultState) (is : KeeperState) (before after : D) (first now : Output) (status : ℕ) → middle.faults ≡ old.faults
    → left ≡ record { kept = is.records; out = false; faults = max middle.faults is.faults } → MovesOut disks old.kept old.faults is before after first now status
    → MigratesOut disks old left before after first now status
closed_as disks old middle left is before after first now status still closed (inl (fault, why, kept, count, unasked, tells)) = inl (
  fault,
  record {
    why = why;
    kept = ap (λ (v : VaultState). v.kept) closed ∙ kept;
    home = ap (λ (v : VaultState). v.out) closed;
    faults = ap (λ (v : VaultState). v.faults) closed ∙ (ap (λ (n : ℕ). max n is.faults) still ∙ (ap (max old.faults) count ∙ max_after fault old.faults));
  },
  unasked,
  tells,
)
closed_as disks old middle left is before after first now status still closed (inr (history, store, keeps, moves)) = inr (
  history,
  is.faults,
  store,
  ap (λ (v : VaultState). v.kept) closed ∙ keeps,
  ap (λ (v : VaultState). v.out) closed,
  ap (λ (v : VaultState). v.faults) closed ∙ ap (λ (n : ℕ). max n is.faults) still,
  moves,
)

-- the vault handed out the keeper, and took it back
pub closed_out : {D : Type 0} (disks : DiskGhosts D) (old middle left : VaultState) (k is : KeeperState) (before after : D) (first now : Output) (status : ℕ) → IsHanded old.kept old.faults k
    → middle.faults ≡ old.faults → left ≡ record { kept = is.records; out = false; faults = max middle.faults is.faults } → MovesOut disks k.records k.faults is before after first now status
    → MigratesOut disks old left before after first now status
closed_out disks old middle left k is before after first now status handed still closed moves =
    closed_as disks old middle left is before after first now status still closed
    (subst (λ (n : ℕ). MovesOut disks old.kept n is before after first now status) handed.faults
    (subst (λ (o : Option (List (List ℕ))). MovesOut disks o k.faults is before after first now status) handed.records moves))
