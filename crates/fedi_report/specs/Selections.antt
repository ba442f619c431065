-- A report by selection: the activities by one author and of one type.
use Rattle.std.specs.Prelude.{◌≡◌, ◌&&◌, ℕ, suc, Bool, List, [], ◌∷◌, bytes_eq, decimal, filter}
use Rattle.std.specs.Prelude.{map, slice_index_or, Option, option_map, Result, Ok, Err, OnOk, OnErr}
use Rattle.std.specs.Prelude.{◌⊎◌, MatchResult}
use Rattle.fedi_logged.specs.Endings.{Output, BreaksOff, Writes}
use Rattle.fedi_objects.specs.Kinds.{kind_name, state_name}
use Rattle.fedi_outside.specs.Causes.{next_count}
use Rattle.fedi_report.specs.Exports.{activity_columns, activity_rows}
use Rattle.fedi_report.specs.Tables.{Begins, rows_text}
use Rattle.fedi_report.specs.declared.selections.SelectFault.{SelectFault}
use Rattle.fedi_report.specs.declared.selections.SelectFault.TheVariants.{StoreFault, WriteFault}
use Rattle.fedi_report.specs.declared.selections.SelectFault.TheVariants.{Memory}
use Rattle.fedi_selection.specs.ActRows.{ActFields, picked}
use Rattle.fedi_selection.specs.Selections.{SelectionState}
use Rattle.fedi_selection.specs.declared.selections.SelectionFault.{SelectionFault}
use Rattle.fedi_selection.specs.declared.selections.SelectionFault.TheVariants as selections
use Rattle.fedi_text.specs.Dates.{moment_text}
use Rattle.fedi_town.specs.declared.act.Act.{Act}
use Rattle.fedi_town.specs.Collections.{text_of}
use Rattle.fedi_town.specs.Towns.{Town}

-- ---- the activities of a town as rows

-- an activity: its position, its id, its author, its type, its state, and when it was accepted
abbrev pub act_fields : ℕ → Act → ActFields
act_fields position x = record {
  place = position;
  id = text_of x.activity.id;
  actor = x.author;
  kind = kind_name x.activity.kind;
  state = state_name x.state;
  moment = x.moment;
}

-- activities, the first of them at this position
abbrev pub acts_fields : ℕ → List Act → List ActFields
acts_fields position [] = []
acts_fields position (x ∷ xs) = act_fields position x ∷ acts_fields (suc position) xs

-- ---- the text

-- such a row as a table has it
abbrev pub selected_row : ActFields → List (List ℕ)
selected_row x =
    decimal x.place ∷ x.id ∷ x.actor ∷ x.kind ∷ x.state ∷ moment_text x.moment ∷ []

-- those of these rows that are by this author and of this type, as a table
unfoldable pub picked_text : List ℕ → List ℕ → List ActFields → List ℕ
picked_text actor kind rows =
    rows_text (activity_columns ∷ map selected_row (picked actor kind rows))

-- a row of the export of activities is by this author and of this type
abbrev pub is_row_by : List ℕ → List ℕ → List (List ℕ) → Bool
is_row_by actor kind row =
    bytes_eq (slice_index_or row 2 []) actor && bytes_eq (slice_index_or row 3 []) kind

-- the export of activities without the rows that are by others or of another type
unfoldable pub selection_text : List ℕ → List ℕ → Town → List ℕ
selection_text actor kind t =
    rows_text (activity_columns ∷ filter (is_row_by actor kind) (activity_rows 0 t.acts))

-- ---- what becomes of it

-- the text was sent in part, for this reason
abbrev pub Breaks : Output → Output → List ℕ → SelectFault → Type 0
Breaks before now text WriteFault = BreaksOff before now [] text
Breaks before now text StoreFault = Begins before now text
Breaks before now text Memory = Begins before now text

-- the text was sent completely, or in part for some reason
abbrev pub Selects : {T : Type 0} → Output → Output → List ℕ → Result T SelectFault → Type 0
Selects before now text result =
    MatchResult result (λ _. Writes before now text) (Breaks before now text)

-- the count of the selection's faults after a report
abbrev pub store_count : {T : Type 0} → Result T SelectFault → ℕ → ℕ
store_count (Ok done) n = n
store_count (Err StoreFault) n = next_count n
store_count (Err WriteFault) n = n
store_count (Err Memory) n = n

-- the count of the sink's faults after it
abbrev pub write_count : {T : Type 0} → Result T SelectFault → ℕ → ℕ
write_count (Ok done) n = n
write_count (Err StoreFault) n = n
write_count (Err WriteFault) n = next_count n
write_count (Err Memory) n = n

-- the rows are laid, or after an error perhaps those that were before
pub record HasLaid {T E : Type 0} (rows : List ActFields) (before after : SelectionState)
    (result : Result T E) : Type 0 where
  pub laid : OnOk result (after.laid ≡ option_map (λ _. rows) before.laid)
  pub refused : OnErr result ((after.laid ≡ before.laid)
      ⊎ (after.laid ≡ option_map (λ _. rows) before.laid))

-- a fault of the selection, as one of the report
abbrev pub fault_of : SelectionFault → SelectFault
fault_of selections.Failed = StoreFault
fault_of selections.Memory = Memory

-- the count of the selection's faults after a call of it
abbrev pub call_count : {T : Type 0} → Result T SelectionFault → ℕ → ℕ
call_count (Ok found) n = n
call_count (Err selections.Failed) n = next_count n
call_count (Err selections.Memory) n = n
