-- With which status activities are reported, and when they are.
use Rattle.std.proofs.Common.{◌≡◌, ◌⊎◌, ℕ, true, false, List, codes, max, Option, Some, None, Ok, Err, inl, inr, refl, sym, subst, ◌∙◌, option_map}
use Rattle.std.specs.Prelude.{IfSome}
use Rattle.fedi_address.specs.Names.{is_name}
use Rattle.fedi_log.specs.Keeping.{State, base_of}
use Rattle.fedi_log.specs.Log.{given}
use Rattle.fedi_logged.specs.Endings.{Output, faults_of}
use Rattle.fedi_logged.specs.Marks.{Survives}
use Rattle.fedi_outside.specs.Causes.{next_count}
use Rattle.fedi_outside.specs.Disks.{DiskState}
use Rattle.fedi_outside.specs.Keepers.{Crashes}
use Rattle.fedi_outside.specs.Vaults.{VaultState}
use Rattle.fedi_outside.specs.declared.keepers.Keeper.{Ghosts as KeeperGhosts}
use Rattle.fedi_report.specs.Selections.{HasLaid, Selects, acts_fields, selection_text, store_count, write_count}
use Rattle.fedi_report.specs.declared.selections.SelectFault.{SelectFault}
use Rattle.fedi_report.specs.declared.selections.SelectFault.TheVariants as selects
use Rattle.fedi_selection.specs.ActRows.{ActFields}
use Rattle.fedi_selection.specs.Selections.{SelectionState}
use Rattle.fedi_startup.specs.Surviving.{opened_base}
use Rattle.fedi_startup.specs.Vaults.{IsClosedIn, IsOpenedIn, IsRefusedIn, IsServedIn}
use Rattle.fedi_startup.specs.declared.faults.StoreFault.{StoreFault}
use Rattle.fedi_town.specs.Histories.{town}
use Rattle.fedi_town.specs.Towns.{Town}
use Rattle.fedi_program.specs.Commands.{Report}
use Rattle.fedi_program.specs.Complete.{IsCalm, IsComplete, IsCompleteIn, IsDone, Outside, outside_of}
use Rattle.fedi_program.specs.Members.{Reports}
use Rattle.fedi_program.specs.Reporting.{EndsPrinting, PrintsSelected, ReportsInVault, ReportsOf, ReportsOnDisk, ReportsOver, is_kind}
use Rattle.fedi_program.specs.Runs.{is_status_of}
use Rattle.fedi_program.specs.Seen.{Chance, Medium}
use Rattle.fedi_program.specs.Stores.{IsRefused, IsSame, IsServed, PrintsTable, ReportsStore}
use Rattle.fedi_program.proofs.CompleteInLemmas.{by_told as told_in}
use Rattle.fedi_program.proofs.CompleteLemmas.{by_told, rises}
use Rattle.fedi_program.proofs.RunLemmas.{known_status, told_status}
use Rattle.fedi_program.proofs.StoreLemmas.{IsOver, left, served_alone}
use Rattle.fedi_program.proofs.WorkLemmas.{ran_in}

-- ---- the status

prints_status : (name kind : List ℕ) (first now : Output) (status : ℕ) → EndsPrinting first now status → is_status_of (Some (Report name kind)) status ≡ true
prints_status name kind first now status (inl (_, inl done)) = known_status (Some (Report name kind)) status 0 refl done
prints_status name kind first now status (inl (_, inr memory)) = known_status (Some (Report name kind)) status 12 refl memory
prints_status name kind first now status (inr (_, broken)) = known_status (Some (Report name kind)) status 7 refl broken

of_status : (name kind : List ℕ) (t : Town) (before after : SelectionState) (first now : Output) (status : ℕ) → ReportsOf name kind t before after first now status
    → is_status_of (Some (Report name kind)) status ≡ true
of_status name kind t before after first now status (inl memory) = known_status (Some (Report name kind)) status 12 refl memory.0
of_status name kind t before after first now status (inr (actor, _, prints)) = ends prints.ends
  where
    ends : ((after.faults ≡ next_count before.faults) × Reports first now 5 (codes "disk fault\n") status)
        ⊎ ((after.faults ≡ before.faults) × EndsPrinting first now status × IfSome after.laid (λ _. PrintsTable first now (selection_text actor kind t) status))
        → is_status_of (Some (Report name kind)) status ≡ true
    ends (inl (_, tells)) = known_status (Some (Report name kind)) status 5 refl tells.0
    ends (inr (_, how, _)) = prints_status name kind first now status how

report_status : (Unasked : Type 0) (Unopened : StoreFault → Type 0) (Read : State → Type 0) (name kind : List ℕ) (before after : SelectionState) (first now : Output) (status : ℕ)
    → ReportsOver Unasked Unopened Read name kind before after first now status → is_status_of (Some (Report name kind)) status ≡ true
report_status Unasked Unopened Read name kind before after first now status (inl (_, _, inl (_, tells))) = known_status (Some (Report name kind)) status 10 refl tells.0
report_status Unasked Unopened Read name kind before after first now status (inl (_, _, inr (_, _, tells))) = known_status (Some (Report name kind)) status 10 refl tells.0
report_status Unasked Unopened Read name kind before after first now status (inr (_, _, inl (fault, _, _, tells))) =
    told_status (Some (Report name kind)) fault first now status refl refl refl refl refl tells
report_status Unasked Unopened Read name kind before after first now status (inr (_, _, inr (opened, _, reports))) =
    of_status name kind (town opened.history) before after first now status reports

pub disk_report_status : {D : Type 0} (disk last : D) (old new : Medium) (name kind : List ℕ) (before after : SelectionState) (first now : Output) (status : ℕ)
    → ReportsOnDisk disk last old new name kind before after first now status → is_status_of (Some (Report name kind)) status ≡ true
disk_report_status disk last old new name kind before after first now status reports =
    report_status (last ≡ disk) (IsRefused old new) (λ opened. IsServed old new opened opened (given opened.history) × IsSame old new) name kind before after first now status reports

pub vault_report_status : {V P : Type 0} (keepers : KeeperGhosts P) (vault last : V) (old new : VaultState) (name kind : List ℕ) (before after : SelectionState) (first now : Output) (status : ℕ)
    → ReportsInVault vault last keepers.growth keepers.room old new name kind before after first now status → is_status_of (Some (Report name kind)) status ≡ true
vault_report_status keepers vault last old new name kind before after first now status reports =
    report_status (last ≡ vault) (λ fault. IsRefusedIn fault old new)
    (λ opened. IsServedIn keepers.growth keepers.room old new opened opened (given opened.history) × (new.kept ≡ old.kept)) name kind before after first now status reports

-- ---- it is done

prints_done : (name kind : List ℕ) (first now : Output) (status : ℕ) → EndsPrinting first now status → IsCalm first.faults now.faults → IsDone (Report name kind) status
prints_done name kind first now status (inl (_, inl done)) writes = inl done
prints_done name kind first now status (inl (_, inr memory)) writes = inr (inl memory)
prints_done name kind first now status (inr (rose, _)) writes = absurd (writes (rises first.faults now.faults rose))

of_done : (name kind : List ℕ) (t : Town) (before after : SelectionState) (first now : Output) (status : ℕ) → ReportsOf name kind t before after first now status
    → IsCalm before.faults after.faults → IsCalm first.faults now.faults → IsDone (Report name kind) status
of_done name kind t before after first now status (inl memory) calm writes = inr (inl memory.0)
of_done name kind t before after first now status (inr (actor, _, prints)) calm writes = ends prints.ends
  where
    ends : ((after.faults ≡ next_count before.faults) × Reports first now 5 (codes "disk fault\n") status)
        ⊎ ((after.faults ≡ before.faults) × EndsPrinting first now status × IfSome after.laid (λ _. PrintsTable first now (selection_text actor kind t) status))
        → IsDone (Report name kind) status
    ends (inl (rose, _)) = absurd (calm (rises before.faults after.faults rose))
    ends (inr (_, how, _)) = prints_done name kind first now status how writes

report_done : (Unasked : Type 0) (Unopened : StoreFault → Type 0) (Read : State → Type 0) (name kind : List ℕ) (before after : SelectionState) (first now : Output) (status : ℕ)
    → ReportsOver Unasked Unopened Read name kind before after first now status → is_name name ≡ true → is_kind kind ≡ true
    → ((fault : StoreFault) → Unopened fault → ReportsStore fault first now status → IsDone (Report name kind) status)
    → IsCalm before.faults after.faults → IsCalm first.faults now.faults → IsDone (Report name kind) status
report_done Unasked Unopened Read name kind before after first now status (inl (_, _, inl (bad, _))) named typed closed calm writes =
    let clash : true ≡ false = sym named ∙ bad in absurd (cc clash)
report_done Unasked Unopened Read name kind before after first now status (inl (_, _, inr (_, bad, _))) named typed closed calm writes =
    let clash : true ≡ false = sym typed ∙ bad in absurd (cc clash)
report_done Unasked Unopened Read name kind before after first now status (inr (_, _, inl (fault, unopened, _, tells))) named typed closed calm writes =
    closed fault unopened tells
report_done Unasked Unopened Read name kind before after first now status (inr (_, _, inr (opened, _, reports))) named typed closed calm writes =
    of_done name kind (town opened.history) before after first now status reports calm writes

pub disk_report_complete : {D : Type 0} (told : Option ℕ) (disk last : D) (old new : Medium) (second filled : DiskState) (chance drawn : Chance) (reads later : ℕ)
    (before after : SelectionState) (first now : Output) (name kind : List ℕ) (status : ℕ) → ReportsOnDisk disk last old new name kind before after first now status
    → IsCalm before.faults after.faults
    → IsComplete (Report name kind) told (outside_of old.shown second chance (faults_of reads first.faults)) (outside_of new.shown filled drawn (faults_of later now.faults)) status
disk_report_complete told disk last old new second filled chance drawn reads later before after first now name kind status reports calm = λ all possible.
    report_done (last ≡ disk) (IsRefused old new) (λ opened. IsServed old new opened opened (given opened.history) × IsSame old new) name kind before after first now status reports
    possible.1 possible.2 (λ fault refused tells. by_told (Report name kind) fault old new possible.0.0 first now status possible.0.1 all.disk refused tells) calm all.writes

pub vault_report_complete : {V P : Type 0} (keepers : KeeperGhosts P) (told : Option ℕ) (vault last : V) (old new : VaultState) (was is : Outside) (before after : SelectionState)
    (first now : Output) (name kind : List ℕ) (status : ℕ) → was.stream.writes ≡ first.faults → is.stream.writes ≡ now.faults
    → ReportsInVault vault last keepers.growth keepers.room old new name kind before after first now status → IsCalm before.faults after.faults
    → IsCompleteIn keepers (Report name kind) told old new was is status
vault_report_complete keepers told vault last old new was is before after first now name kind status counted counts reports calm = λ quiet all possible.
    report_done (last ≡ vault) (λ fault. IsRefusedIn fault old new)
    (λ opened. IsServedIn keepers.growth keepers.room old new opened opened (given opened.history) × (new.kept ≡ old.kept)) name kind before after first now status reports
    possible.1 possible.2 (λ fault refused tells. told_in (Report name kind) fault old new possible.0.0 first now status possible.0.1 quiet refused tells) calm (rw (counted, counts) at all.writes)

-- ---- a machine that was only read

-- over a disk
read_on_disk : (before found : Medium) (opened : State) → IsOver before found found opened opened
    → Survives (opened_base opened) None (given opened.history) (given opened.history) opened (left found) (left found)
    → IsServed before found opened opened (given opened.history) × IsSame before found
read_on_disk before found opened k survives = ((served_alone before found found opened opened (given opened.history) k survives).0, k.untouched)

-- over a vault
read_in_vault : {P : Type 0} (keepers : KeeperGhosts P) (keeper : P) (before middle after : VaultState) (opened : State) (x y : Crashes) → opened.keeper ≡ keepers.shown keeper
    → IsOpenedIn before opened → middle.faults ≡ before.faults → IsClosedIn after opened → after.faults ≡ max middle.faults opened.keeper.faults
    → Survives (base_of keepers.growth keepers.room opened) None (given opened.history) (given opened.history) opened x y
    → IsServedIn keepers.growth keepers.room before after opened opened (given opened.history) × (after.kept ≡ before.kept)
read_in_vault keepers keeper before middle after opened x y shown opens still closes count survives = (
  (ran_in keepers keeper before middle after opened opened (given opened.history) x y shown opens still closes count survives).0,
  closes.kept ∙ opens.records,
)

-- the report that was printed is that of the store
pub reported_on_disk : {D : Type 0} (disk last : D) (old found : Medium) (opened : State) (name kind : List ℕ) (before after : SelectionState) (first now : Output) (status : ℕ)
    → is_name name ≡ true → is_kind kind ≡ true → IsOver old found found opened opened
    → Survives (opened_base opened) None (given opened.history) (given opened.history) opened (left found) (left found)
    → ReportsOf name kind (town opened.history) before after first now status → ReportsOnDisk disk last old found name kind before after first now status
reported_on_disk disk last old found opened name kind before after first now status named typed k survives reports =
    inr (named, typed, inr (opened, read_on_disk old found opened k survives, reports))

pub reported_in_vault : {V P : Type 0} (vault last : V) (keepers : KeeperGhosts P) (keeper : P) (old middle new : VaultState) (opened : State) (x y : Crashes) (name kind : List ℕ)
    (before after : SelectionState) (first now : Output) (status : ℕ) → is_name name ≡ true → is_kind kind ≡ true → opened.keeper ≡ keepers.shown keeper
    → IsOpenedIn old opened → middle.faults ≡ old.faults → IsClosedIn new opened → new.faults ≡ max middle.faults opened.keeper.faults
    → Survives (base_of keepers.growth keepers.room opened) None (given opened.history) (given opened.history) opened x y
    → ReportsOf name kind (town opened.history) before after first now status
    → ReportsInVault vault last keepers.growth keepers.room old new name kind before after first now status
reported_in_vault vault last keepers keeper old middle new opened x y name kind before after first now status named typed shown opens still closes count survives reports =
    inr (named, typed, inr (opened, read_in_vault keepers keeper old middle new opened x y shown opens still closes count survives, reports))

-- ---- the rows were laid and printed

if_then : {A P Q : Type 0} (o : Option A) → IfSome o (λ _. P) → (P → Q) → IfSome o (λ _. Q)
if_then None p f = tt
if_then (Some x) p f = f p

laid_so : (rows acts : List ActFields) (laid was : Option (List ActFields)) → rows ≡ acts → laid ≡ option_map (λ _. rows) was → laid ≡ option_map (λ _. acts) was
laid_so rows acts laid was same is = subst (λ (l : List ActFields). laid ≡ option_map (λ _. l) was) same is

laid_or : (rows acts : List ActFields) (laid was : Option (List ActFields)) → rows ≡ acts → (laid ≡ was) ⊎ (laid ≡ option_map (λ _. rows) was)
    → (laid ≡ was) ⊎ (laid ≡ option_map (λ _. acts) was)
laid_or rows acts laid was same (inl still) = inl still
laid_or rows acts laid was same (inr is) = inr (laid_so rows acts laid was same is)

module _ {T : Type 0} (actor kind : List ℕ) (t : Town) (rows : List ActFields) (same : rows ≡ acts_fields 0 t.acts) (before after : SelectionState) (first now : Output) where
  pub all_printed : (x : T) → IfSome after.laid (λ _. Selects {T = T} first now (selection_text actor kind t) (Ok x)) → HasLaid {T = T} {E = SelectFault} rows before after (Ok x)
      → after.faults ≡ before.faults → now.faults ≡ first.faults → PrintsSelected actor kind t before after first now 0
  all_printed x text laid count writes = record {
    done = λ _. laid_so rows (acts_fields 0 t.acts) after.laid before.laid same laid.laid;
    laid = inr (laid_so rows (acts_fields 0 t.acts) after.laid before.laid same laid.laid);
    ends = inr (count, inl (writes, inl refl), if_then after.laid text (λ w. inl (refl, w)));
  }

  pub broken_off : (fault : SelectFault) → fault ≡ selects.WriteFault → IfSome after.laid (λ _. Selects {T = T} first now (selection_text actor kind t) (Err fault))
      → HasLaid {T = T} rows before after (Err fault) → after.faults ≡ store_count {T = T} (Err fault) before.faults → now.faults ≡ write_count {T = T} (Err fault) first.faults
      → PrintsSelected actor kind t before after first now 7
  broken_off selects.WriteFault is text laid count writes = record {
    done = λ zero. absurd (cc zero);
    laid = laid_or rows (acts_fields 0 t.acts) after.laid before.laid same laid.refused;
    ends = inr (count, inr (writes, refl), if_then after.laid text (λ b. inr (inl (refl, b))));
  }
  broken_off selects.StoreFault is text laid count writes = absurd (cc is)
  broken_off selects.Memory is text laid count writes = absurd (cc is)

  pub short_of : (fault : SelectFault) → fault ≡ selects.Memory → IfSome after.laid (λ _. Selects {T = T} first now (selection_text actor kind t) (Err fault))
      → HasLaid {T = T} rows before after (Err fault) → after.faults ≡ store_count {T = T} (Err fault) before.faults → now.faults ≡ write_count {T = T} (Err fault) first.faults
      → PrintsSelected actor kind t before after first now 12
  short_of selects.Memory is text laid count writes = record {
    done = λ zero. absurd (cc zero);
    laid = laid_or rows (acts_fields 0 t.acts) after.laid before.laid same laid.refused;
    ends = inr (count, inl (writes, inr refl), if_then after.laid text (λ b. inr (inr (refl, b))));
  }
  short_of selects.StoreFault is text laid count writes = absurd (cc is)
  short_of selects.WriteFault is text laid count writes = absurd (cc is)

  pub not_selected : (fault : SelectFault) (status : ℕ) → fault ≡ selects.StoreFault → HasLaid {T = T} rows before after (Err fault)
      → after.faults ≡ store_count {T = T} (Err fault) before.faults → Reports first now 5 (codes "disk fault\n") status → PrintsSelected actor kind t before after first now status
  not_selected selects.StoreFault status is laid count tells = record {
    done = λ zero. let clash : 5 ≡ 0 = sym tells.0 ∙ zero in absurd (cc clash);
    laid = laid_or rows (acts_fields 0 t.acts) after.laid before.laid same laid.refused;
    ends = inl (count, tells);
  }
  not_selected selects.WriteFault status is laid count tells = absurd (cc is)
  not_selected selects.Memory status is laid count tells = absurd (cc is)
