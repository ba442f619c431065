-- How a run reports of the activities of one member and of one type.
use Rattle.std.specs.Prelude.{◌≡◌, ◌⊎◌, ℕ, Bool, true, false, List, [], bytes_eq, codes, Some}
use Rattle.std.specs.Prelude.{IfSome, option_map}
use Rattle.std.specs.List.{list_any}
use Rattle.fedi_address.specs.Names.{is_name}
use Rattle.fedi_log.specs.Keeping.{State}
use Rattle.fedi_log.specs.Log.{given}
use Rattle.fedi_logged.specs.Endings.{Output, Writes}
use Rattle.fedi_objects.specs.Kinds.{kind_name, kinds}
use Rattle.fedi_objects.specs.declared.kind.Kind.{Kind}
use Rattle.fedi_outside.specs.Causes.{next_count}
use Rattle.fedi_outside.specs.Vaults.{VaultState}
use Rattle.fedi_report.specs.Selections.{acts_fields, selection_text}
use Rattle.fedi_selection.specs.Selections.{SelectionState}
use Rattle.fedi_startup.specs.Vaults.{IsRefusedIn, IsServedIn}
use Rattle.fedi_startup.specs.declared.faults.StoreFault.{StoreFault}
use Rattle.fedi_town.specs.Histories.{town}
use Rattle.fedi_town.specs.Ids.{actor_id}
use Rattle.fedi_town.specs.Towns.{Town}
use Rattle.fedi_program.specs.Members.{Reports, refusal_line}
use Rattle.fedi_program.specs.Seen.{Medium}
use Rattle.fedi_program.specs.Stores.{IsRefused, IsSame, IsServed, PrintsTable, ReportsStore}

-- ---- the words

-- the type has this name
unfoldable pub is_named : List ℕ → Kind → Bool
is_named text kind = bytes_eq (kind_name kind) text

-- a type of activity has this name (Activity Vocabulary, section 3.1)
unfoldable pub is_kind : List ℕ → Bool
is_kind text = list_any (is_named text) kinds

-- why words are refused that are to be a member's name and a type: the first is no name, or it is
-- one, and the second is no type (10)
abbrev pub RefusesWords : List ℕ → List ℕ → Output → Output → ℕ → Type 0
RefusesWords name kind first now status =
    ((is_name name ≡ false) × Reports first now 10 (refusal_line (codes "bad name")) status)
    ⊎ ((is_name name ≡ true) × (is_kind kind ≡ false)
    × Reports first now 10 (refusal_line (codes "bad kind")) status)

-- ---- the report

-- this is the id of the member of this name, whether the town has such a member or not
abbrev pub IsActorOf : Town → List ℕ → List ℕ → Type 0
IsActorOf t name actor = option_map (λ host. actor_id host name) t.host ≡ Some actor

-- with which status a table was printed: completely (0), up to a write that failed (7), or until
-- memory ran out (12)
abbrev pub EndsPrinting : Output → Output → ℕ → Type 0
EndsPrinting first now status =
    ((now.faults ≡ first.faults) × ((status ≡ 0) ⊎ (status ≡ 12)))
    ⊎ ((now.faults ≡ next_count first.faults) × (status ≡ 7))

-- The rows of the activities of a town were to be laid in a selection, and those by this author and
-- of this type to be printed. They are laid, or those that were before. The selection failed, which
-- it counted, and that is reported (5); or the rows of the export of activities that are by this
-- author and of this type are printed, below the names of the columns, if the selection reports
-- what is laid in it.
pub record PrintsSelected (actor kind : List ℕ) (t : Town) (before after : SelectionState)
    (first now : Output) (status : ℕ) : Type 0 where
  pub done : status ≡ 0
      → after.laid ≡ option_map (λ _. acts_fields 0 t.acts) before.laid
  pub laid : (after.laid ≡ before.laid)
      ⊎ (after.laid ≡ option_map (λ _. acts_fields 0 t.acts) before.laid)
  pub ends :
      ((after.faults ≡ next_count before.faults)
      × Reports first now 5 (codes "disk fault\n") status)
      ⊎ ((after.faults ≡ before.faults) × EndsPrinting first now status
      × IfSome after.laid (λ _. PrintsTable first now (selection_text actor kind t) status))

-- A report of this member and this type over the activities of a town: there is no memory for the
-- rows (12), or they are laid and printed.
abbrev pub ReportsOf : List ℕ → List ℕ → Town → SelectionState → SelectionState → Output → Output
    → ℕ → Type 0
ReportsOf name kind t before after first now status =
    ((status ≡ 12) × (after ≡ before) × Writes first now [])
    ⊎ ((actor : List ℕ) × IsActorOf t name actor
    × PrintsSelected actor kind t before after first now status)

-- How a run reports over a store, of which these say that nothing was asked of it, that it was not
-- opened, and that it was opened in a state and only read. If the words are refused, nothing is
-- asked. If the store is not opened, that is reported, and the selection is not asked.
abbrev pub ReportsOver : Type 0 → (StoreFault → Type 0) → (State → Type 0) → List ℕ → List ℕ
    → SelectionState → SelectionState → Output → Output → ℕ → Type 0
ReportsOver Unasked Unopened Read name kind before after first now status =
    (Unasked × (after ≡ before) × RefusesWords name kind first now status)
    ⊎ ((is_name name ≡ true) × (is_kind kind ≡ true)
    × (((fault : StoreFault) × Unopened fault × (after ≡ before)
    × ReportsStore fault first now status)
    ⊎ ((opened : State) × Read opened
    × ReportsOf name kind (town opened.history) before after first now status)))

-- over the store of a disk, which is untouched
abbrev pub ReportsOnDisk : {D : Type 0} → D → D → Medium → Medium → List ℕ → List ℕ
    → SelectionState → SelectionState → Output → Output → ℕ → Type 0
ReportsOnDisk disk left old new name kind before after first now status =
    ReportsOver (left ≡ disk) (IsRefused old new)
    (λ opened. IsServed old new opened opened (given opened.history) × IsSame old new)
    name kind before after first now status

-- over the store of a vault, which keeps what it kept
abbrev pub ReportsInVault : {V : Type 0} → V → V → (growth room : ℕ → ℕ) → VaultState → VaultState
    → List ℕ → List ℕ → SelectionState → SelectionState → Output → Output → ℕ → Type 0
ReportsInVault vault left growth room old new name kind before after first now status =
    ReportsOver (left ≡ vault) (λ fault. IsRefusedIn fault old new)
    (λ opened. IsServedIn growth room old new opened opened (given opened.history)
    × (new.kept ≡ old.kept))
    name kind before after first now status
