-- Lemmas on reports by selection.
use Rattle.std.proofs.Common.{◌≡◌, ◌⊎◌, inl, inr, ℕ, zero, suc, ◌+◌, ◌<◌, ◌≤◌, ◌++◌, List, [], ◌∷◌, length, map, filter, take, slice_get, Bool, true, false, cond, Option, Some, None, option_map, Result, Ok, Err, Vec, IfOk, IfSome, refl, sym, ap, subst, ◌∙◌, arith}
use Rattle.std.specs.List.{AllByRecursion}
use Rattle.std.proofs.KnownBytes.{Appends-nil}
use Rattle.fedi_logged.specs.Endings.{Output}
use Rattle.fedi_report.specs.Exports.{activity_columns, activity_row, activity_rows}
use Rattle.fedi_report.specs.Selections.{HasLaid, Selects, act_fields, acts_fields, call_count, fault_of, is_row_by, picked_text, selected_row, selection_text, store_count, write_count}
use Rattle.fedi_report.specs.Tables.{rows_text}
use Rattle.fedi_report.specs.declared.selections.SelectFault.{SelectFault}
use Rattle.fedi_report.specs.declared.selections.SelectFault.TheVariants.{StoreFault, WriteFault, Memory}
use Rattle.fedi_selection.specs.ActRows.{ActFields, AreInOrder, is_by, picked}
use Rattle.fedi_outside.specs.Causes.{next_count}
use Rattle.fedi_selection.specs.Selections.{SelectionState, after_pick, after_refusal}
use Rattle.fedi_selection.specs.declared.selections.SelectionFault.{SelectionFault}
use Rattle.fedi_selection.specs.declared.selections.SelectionFault.TheVariants as selections
use Rattle.fedi_town.specs.declared.act.Act.{Act}
use Rattle.fedi_town.specs.Towns.{Town}

-- what is picked is what the export has of this author and this type
picked_is : (actor kind : List ℕ) (acts : List Act) (n : ℕ) → map selected_row (picked actor kind (acts_fields n acts)) ≡ filter (is_row_by actor kind) (activity_rows n acts)
picked_is actor kind [] n = refl
picked_is actor kind (x ∷ acts) n = go (picked_is actor kind acts (suc n)) (is_by actor kind (act_fields n x))
  where
    go : map selected_row (picked actor kind (acts_fields (suc n) acts)) ≡ filter (is_row_by actor kind) (activity_rows (suc n) acts) → (b : Bool)
        → map selected_row (cond b (act_fields n x ∷ picked actor kind (acts_fields (suc n) acts)) (picked actor kind (acts_fields (suc n) acts)))
        ≡ cond b (activity_row n x ∷ filter (is_row_by actor kind) (activity_rows (suc n) acts)) (filter (is_row_by actor kind) (activity_rows (suc n) acts))
    go more true = ap (λ rest. activity_row n x ∷ rest) more
    go more false = more

pub text_is : (actor kind : List ℕ) (t : Town) → picked_text actor kind (acts_fields 0 t.acts) ≡ selection_text actor kind t
unfolding picked_text selection_text
text_is actor kind t = ap (λ rows. rows_text (activity_columns ∷ rows)) (picked_is actor kind t.acts 0)

-- the activities are in the order of their places
later : (m n : ℕ) (acts : List Act) → m < n → AllByRecursion (λ (x : ActFields). m < x.place) (acts_fields n acts)
later m n [] low = tt
later m n (x ∷ acts) low = (low, later m (suc n) acts (omega (arith, low)))

pub in_order : (n : ℕ) (acts : List Act) → AreInOrder (acts_fields n acts)
in_order n [] = tt
in_order n (x ∷ acts) = (later n (suc n) acts (omega arith), in_order (suc n) acts)

-- one more of them
next_fields : (acts : List Act) (n k : ℕ) (x : Act) → slice_get acts k ≡ Some x → acts_fields n (take (suc k) acts) ≡ acts_fields n (take k acts) ++ act_fields (n + k) x ∷ []
next_fields [] n k x is = absurd cc
next_fields (y ∷ acts) n zero x is = let same : y ≡ x = cc in let e : n ≡ n + 0 = omega arith in ap (λ (z : Act). act_fields n z ∷ []) same ∙ ap (λ m. act_fields m x ∷ []) e
next_fields (y ∷ acts) n (suc k) x is =
    let e : suc n + k ≡ n + suc k = omega arith in
    ap (λ rest. act_fields n y ∷ rest) (next_fields acts (suc n) k x is ∙ ap (λ m. acts_fields (suc n) (take k acts) ++ act_fields m x ∷ []) e)

pub next_row : (acts : List Act) (k : ℕ) (x : Act) → slice_get acts k ≡ Some x → acts_fields 0 (take (k + 1) acts) ≡ acts_fields 0 (take k acts) ++ act_fields k x ∷ []
next_row acts k x is =
    let more : k + 1 ≡ suc k = omega arith in
    let e : 0 + k ≡ k = omega arith in
    ap (λ m. acts_fields 0 (take m acts)) more ∙ next_fields acts 0 k x is ∙ ap (λ n. acts_fields 0 (take k acts) ++ act_fields n x ∷ []) e

pub none_past : (acts : List Act) (k : ℕ) → None ≡ slice_get acts k → length acts ≤ k
none_past [] k is = omega arith
none_past (x ∷ acts) zero is = absurd cc
none_past (x ∷ acts) (suc k) is = let more = none_past acts k is in omega (arith, more)

pub ordered_rows : {A E : Type 0} (acts : List Act) (r : Result (Vec ActFields A) E) → IfOk r (λ rows. rows.items ≡ acts_fields 0 acts) → IfOk r (λ rows. AreInOrder rows.items)
ordered_rows acts (Ok rows) is = subst AreInOrder (sym is) (in_order 0 acts)
ordered_rows acts (Err e) is = tt

-- ---- what becomes of the text

-- nothing was sent
pub nothing_sent : (T : Type 0) (out : Output) (text : List ℕ) (fault : SelectFault) → (fault ≡ WriteFault → ⊥) → Selects {T = T} out out text (Err fault)
nothing_sent T out text StoreFault other = record { prefix = 0; within = omega arith; sent = Appends-nil out.sent; calm = refl }
nothing_sent T out text Memory other = record { prefix = 0; within = omega arith; sent = Appends-nil out.sent; calm = refl }
nothing_sent T out text WriteFault other = absurd (other refl)

pub if_some : {A : Type 0} {P : Type 0} (o : Option A) → P → IfSome o (λ _. P)
if_some None p = tt
if_some (Some x) p = p

-- what was written are the rows that were picked, if these are reported
pub picked_written : {A T : Type 0} (o : Option A) (actor kind : List ℕ) (rows found given : List ActFields) (before now : Output) (r : Result T SelectFault) → given ≡ found
    → IfSome o (λ _. found ≡ picked actor kind rows) → Selects before now (rows_text (activity_columns ∷ map selected_row given)) r → IfSome o (λ _. Selects before now (picked_text actor kind rows) r)
unfolding picked_text
picked_written None actor kind rows found given before now r same is written = tt
picked_written (Some x) actor kind rows found given before now r same is written = subst (λ them. Selects before now (rows_text (activity_columns ∷ map selected_row them)) r) (same ∙ is) written

-- and then those of the export
pub export_written : {A T : Type 0} (o : Option A) (actor kind : List ℕ) (rows : List ActFields) (t : Town) (before now : Output) (r : Result T SelectFault) → rows ≡ acts_fields 0 t.acts
    → IfSome o (λ _. Selects before now (picked_text actor kind rows) r) → IfSome o (λ _. Selects before now (selection_text actor kind t) r)
export_written None actor kind rows t before now r is written = tt
export_written (Some x) actor kind rows t before now r is written = subst (λ text. Selects before now text r) (ap (picked_text actor kind) is ∙ text_is actor kind t) written

-- ---- what is laid

pub laid_on : {T U E F : Type 0} (rows : List ActFields) (before after : SelectionState) (x : T) (r : Result U F) → HasLaid {T = T} {E = E} rows before after (Ok x) → HasLaid rows before after r
laid_on rows before after x (Ok done) laid = record { laid = laid.laid; refused = tt }
laid_on rows before after x (Err fault) laid = record { laid = tt; refused = inr laid.laid }

pub laid_still : {E F : Type 0} (T U : Type 0) (rows : List ActFields) (before after : SelectionState) (e : E) (f : F) → HasLaid {T = T} rows before after (Err e) → HasLaid {T = U} rows before after (Err f)
laid_still T U rows before after e f laid = record { laid = tt; refused = laid.refused }

-- the rows were laid, and a pick leaves them
pub laid_after : {T : Type 0} (rows : List ActFields) (before mid after : SelectionState) (r : Result T SelectionFault) → mid ≡ record before { laid = option_map (λ _. rows) before.laid } → after ≡ after_pick r mid → HasLaid rows before after r
laid_after rows before mid after (Ok found) first next = record { laid = ap (λ (s : SelectionState). s.laid) (next ∙ first); refused = tt }
laid_after rows before mid after (Err selections.Failed) first next = record { laid = tt; refused = inr (ap (λ (s : SelectionState). s.laid) next ∙ ap (λ (s : SelectionState). s.laid) first) }
laid_after rows before mid after (Err selections.Memory) first next = record { laid = tt; refused = inr (ap (λ (s : SelectionState). s.laid) (next ∙ first)) }

pub counted_after : {T : Type 0} (rows : List ActFields) (before mid after : SelectionState) (r : Result T SelectionFault) → mid ≡ record before { laid = option_map (λ _. rows) before.laid } → after ≡ after_pick r mid
    → after.faults ≡ call_count r before.faults
counted_after rows before mid after (Ok found) first next = ap (λ (s : SelectionState). s.faults) (next ∙ first)
counted_after rows before mid after (Err selections.Failed) first next = ap (λ (s : SelectionState). s.faults) next ∙ ap (λ (s : SelectionState). next_count s.faults) first
counted_after rows before mid after (Err selections.Memory) first next = ap (λ (s : SelectionState). s.faults) (next ∙ first)

same_laid : {T : Type 0} (mid after : SelectionState) (r : Result T SelectionFault) → after ≡ after_pick r mid → after.laid ≡ mid.laid
same_laid mid after (Ok found) next = ap (λ (s : SelectionState). s.laid) next
same_laid mid after (Err selections.Failed) next = ap (λ (s : SelectionState). s.laid) next
same_laid mid after (Err selections.Memory) next = ap (λ (s : SelectionState). s.laid) next

pub found_after : {A : Type 0} (actor kind : List ℕ) (rows : List ActFields) (before mid after : SelectionState) (r : Result (Vec ActFields A) SelectionFault) → mid ≡ record before { laid = option_map (λ _. rows) before.laid } → after ≡ after_pick r mid
    → IfSome mid.laid (λ laid. IfOk r (λ found. found.items ≡ picked actor kind laid)) → IfSome after.laid (λ _. IfOk r (λ found. found.items ≡ picked actor kind rows))
found_after actor kind rows before mid after r first next found = go before.laid (ap (λ (s : SelectionState). s.laid) first) (same_laid mid after r next)
  where
    go : (o : Option (List ActFields)) → mid.laid ≡ option_map (λ _. rows) o → after.laid ≡ mid.laid → IfSome after.laid (λ _. IfOk r (λ found. found.items ≡ picked actor kind rows))
    go None is same = subst (λ p. IfSome p (λ _. IfOk r (λ found. found.items ≡ picked actor kind rows))) (sym (same ∙ is)) tt
    go (Some x) is same =
        subst (λ p. IfSome p (λ _. IfOk r (λ found. found.items ≡ picked actor kind rows))) (sym (same ∙ is)) (subst (λ p. IfSome p (λ laid. IfOk r (λ found. found.items ≡ picked actor kind laid))) is found)

-- the rows were not laid
pub none_laid : (T : Type 0) (rows : List ActFields) (before after : SelectionState) (fault : SelectionFault) → after ≡ after_refusal fault before → HasLaid {T = T} rows before after (Err fault)
none_laid T rows before after selections.Failed is = record { laid = tt; refused = inl (ap (λ (s : SelectionState). s.laid) is) }
none_laid T rows before after selections.Memory is = record { laid = tt; refused = inl (ap (λ (s : SelectionState). s.laid) is) }

pub none_laid_counted : (T : Type 0) (before after : SelectionState) (fault : SelectionFault) → after ≡ after_refusal fault before → after.faults ≡ call_count {T = T} (Err fault) before.faults
none_laid_counted T before after selections.Failed is = ap (λ (s : SelectionState). s.faults) is
none_laid_counted T before after selections.Memory is = ap (λ (s : SelectionState). s.faults) is

pub not_write : (fault : SelectionFault) → fault_of fault ≡ WriteFault → ⊥
not_write selections.Failed is = absurd cc
not_write selections.Memory is = absurd cc

pub store_counted : (T U : Type 0) (fault : SelectionFault) (n : ℕ) → call_count {T = T} (Err fault) n ≡ store_count {T = U} (Err (fault_of fault)) n
store_counted T U selections.Failed n = refl
store_counted T U selections.Memory n = refl

pub written_counted : {T : Type 0} (r : Result T SelectFault) (n : ℕ) → (r ≡ Err StoreFault → ⊥) → n ≡ store_count r n
written_counted (Ok done) n other = refl
written_counted (Err StoreFault) n other = absurd (other refl)
written_counted (Err WriteFault) n other = refl
written_counted (Err Memory) n other = refl

pub none_counted : (T : Type 0) (fault : SelectionFault) (n : ℕ) → n ≡ write_count {T = T} (Err (fault_of fault)) n
none_counted T selections.Failed n = refl
none_counted T selections.Memory n = refl
