-- Deleting all rows of the table of activities.
use Rattle.std.proofs.Common.{◌≡◌, ◌⊎◌, inl, inr, ℕ, zero, suc, ℤ, pos, List, [], ◌∷◌, map, flat_map, true, false, None, Ok, Err, Result, IsTrue, is_eq, All, Contains, IsPermutation, refl, sym, ap, subst, subst₂, ◌∙◌, arith}
use Rattle.std.proofs.lemmas.Bool.{cases_Bool}
use Rattle.std.proofs.lemmas.Bool.Decides.{nat_tests}
use Rattle.std.proofs.lemmas.List.Sorted.{IsPermutation-map, IsPermutation-sym, All-permutation}
use Rattle.std.proofs.lemmas.List.Elements.{All-contains_itself}
use Rattle.std.specs.List.{AllByRecursion}
use Rattle.sqlite.specs.declared.types.Value.TheVariants.{Null, Int}
use Rattle.sqlite.specs.Order.{Row}
use Rattle.sqlite.specs.Command.TheVariants.{Delete}
use Rattle.sqlite.specs.Edit.{edit_of, edited}
use Rattle.sqlite.specs.Rowids.TheVariants.{Given}
use Rattle.sqlite.specs.Does.{Tally, Does}
use Rattle.sqlite.specs.Rows.{Written}
use Rattle.sqlite.specs.Tree.{Trees}
use Rattle.sqlite.specs.declared.error.Error.{Error}
use Rattle.sqlite.specs.Listing.{understood}
use Rattle.sqlite.specs.Effect.{Database}
use Rattle.sqlite.specs.State.{State, mode_of, ExecutesInside}
use Rattle.sqlite.specs.Query.{Output, output, matches_as, end, IsAnswer}
use Rattle.sqlite.specs.Program.{overlay}
use Rattle.sqlite.specs.Term.{Env}
use Rattle.sqlite.proofs.Callers.{statement_of, runs_as, one_step}
use Rattle.sqlite_rules.specs.Edit.{id_in, without_all}
use Rattle.sqlite_rules.specs.Calls.{ids_of}
use Rattle.sqlite_trees.specs.Tree.{rowid, has_rowid, without_rowid}
use Rattle.sqlite_value.specs.Order.{value_cmp}
use Rattle.sqlite_value.proofs.OrderLemmas.{value_cmp-Int}
use Rattle.fedi_selection.specs.ActRows.{ActFields}
use Rattle.fedi_selection.specs.Acts.{ClearsIn, act_row, act_schema, act_table}
use Rattle.fedi_selection.specs.Databases.{Holds}
use Rattle.fedi_selection.proofs.Steps.{same_value, stopped, undoable, went}
use Rattle.fedi_selection.proofs.Texts.{clear_is, clear_plain, clear_query, clear_text}

-- ---- rows whose numbers are all deleted

abbrev Among : List ℤ → ℤ → Type 0
Among [] n = ⊥
Among (id ∷ ids) n = (id ≡ n) ⊎ Among ids n

abbrev Covered : List ℤ → List ActFields → Type 0
Covered ids acts = AllByRecursion (λ (x : ActFields). Among ids (pos x.place)) acts

own : (n : ℕ) → is_eq (value_cmp (Int (pos n)) (Int (pos n))) ≡ true
own n = ap is_eq (value_cmp-Int (pos n) (pos n)) ∙ grind (arith, nat_tests)

left_in : (id : ℤ) (x : ActFields) (ids : List ℤ) → has_rowid id (act_row x) ≡ false → (id ≡ pos x.place) ⊎ Among ids (pos x.place) → Among ids (pos x.place)
left_in id x ids other (inl same) = absurd (let e : false ≡ true = sym other ∙ ap (λ n. has_rowid n (act_row x)) same ∙ own x.place in cc)
left_in id x ids other (inr more) = more

without_one : (id : ℤ) (acts : List ActFields)
    → (rest : List ActFields) × (without_rowid id (map act_row acts) ≡ map act_row rest) × ((ids : List ℤ) → Covered (id ∷ ids) acts → Covered ids rest)
without_one id [] = ([], refl, λ ids covered. tt)
without_one id (x ∷ acts) =
    let more = without_one id acts in elim (cases_Bool (has_rowid id (act_row x))) [
      | inl is ↦ (more.0, rw is more.1, λ ids covered. more.2 ids covered.1)
      | inr other ↦ (x ∷ more.0, rw other (ap (λ rest. act_row x ∷ rest) more.1), λ ids covered. (left_in id x ids other covered.0, more.2 ids covered.1))
    ]

all_gone : (ids : List ℤ) (acts : List ActFields) → Covered ids acts → without_all (map act_row acts) ids ≡ []
all_gone [] [] covered = refl
all_gone [] (x ∷ acts) covered = absurd covered.0
all_gone (id ∷ ids) acts covered = let one = without_one id acts in ap (λ rows. without_all rows ids) one.1 ∙ all_gone ids one.0 (one.2 ids covered)

-- ---- the numbers that the statement finds

abbrev key_row : ActFields → Row
key_row x = Int (pos x.place) ∷ []

abbrev id_of : Row → ℤ
id_of r = id_in (rowid r)

among : (ids : List ℤ) (n : ℤ) → Contains ids n → Among ids n
among [] n there = absurd (let low = there.1 in omega (arith, low))
among (id ∷ ids) n (zero, low, is) = inl is
among (id ∷ ids) n (suc k, low, is) = inr (among ids n (k, omega (arith, low), is))

covered_by : (ids : List ℤ) (acts : List ActFields) → All (Contains ids) (map id_of (map key_row acts)) → Covered ids acts
covered_by ids [] all = tt
covered_by ids (x ∷ acts) all = (among ids (pos x.place) (all 0 (pos 0) (omega arith)), covered_by ids acts (λ i d low. all (suc i) d (omega (arith, low))))

finds_all : (acts : List ActFields) (rows : List Row) → IsPermutation (map key_row acts) rows → Covered (ids_of rows) acts
finds_all acts rows mixed =
    let ids = IsPermutation-map id_of (map key_row acts) rows mixed in
    covered_by (ids_of rows) acts (All-permutation (Contains (ids_of rows)) (ids_of rows) (map id_of (map key_row acts)) (IsPermutation-sym _ _ ids) (All-contains_itself (ids_of rows)))

abbrev keep_each : Row → List Env
keep_each r = matches_as Null (λ _. []) clear_query.filter end ([] ∷ r ∷ [])

abbrev shown_of : List Row → List Row
shown_of rows = map (λ (p : Output). p.1) (map (output clear_query) (flat_map keep_each rows))

shown_all : (acts : List ActFields) → shown_of (map act_row acts) ≡ map key_row acts
shown_all [] = refl
shown_all (x ∷ acts) = ap (λ rest. key_row x ∷ rest) (shown_all acts)

clears : (old new : State) (count : ℕ) (base : Database) (acts : List ActFields) → Holds act_schema base (map act_row acts) old → ExecutesInside 0 clear_text [] old new (Ok count)
    → Holds act_schema base [] new
clears old new count base acts holds h =
    let has = holds.schema_is in
    let db = old.now.trees in
    let command = Delete 0 (record { lets = []; body = clear_query }) in
    let w = runs_as clear_text [] old new act_schema has command clear_is clear_plain count h.0 in
    let text = statement_of clear_text (understood act_schema clear_text) in
    let done = went (subst (λ s. Does old.step_limit (mode_of old) [] (record old.now { schema = s }) text None command (Ok (w.tally, new.now))) has w.changed) in
    let now = ap (λ (p : Tally × Database). p.1) (same_value (went (went done.2).2).2) in
    let given = went done.1 in
    let written = went given.2 in
    let trees : done.0.trees ≡ written.0 = ap (λ (it : Written). it.trees) (same_value written.2) in
    let all = (one_step act_schema _ db written.0 (edit_of db act_table (ids_of given.0) Given 0 []) refl written.1).rows in
    let a : IsAnswer clear_query (overlay db []) [] given.0 = given.1.answer Null in
    let staged : a.staged ≡ flat_map keep_each (map act_row acts) = a.grouped ∙ ap (flat_map keep_each) holds.rows_are in
    let kept : a.kept ≡ map (output clear_query) (flat_map keep_each (map act_row acts)) = a.distinct ∙ ap (map (output clear_query)) staged in
    let same = IsPermutation-map (λ (p : Output). p.1) a.kept a.ordered a.same in
    let mixed : IsPermutation (map key_row acts) given.0 = subst₂ (λ xs ys. IsPermutation xs ys) (ap (map (λ (p : Output). p.1)) kept ∙ shown_all acts) (sym a.shown) same in
    let edit : edited db (edit_of db act_table (ids_of given.0) Given 0 []) ≡ [] = ap (λ rows. without_all rows (ids_of given.0)) holds.rows_are ∙ all_gone (ids_of given.0) acts (finds_all acts given.0 mixed) in
    record {
      is_open = h.1.is_open;
      inside = h.1.mode;
      committed = h.1.committed_is ∙ holds.committed;
      schema_is = ap (λ (d : Database). d.schema) now;
      rows_are = ap (λ (d : Database). d.trees 0) now ∙ ap (λ (t : Trees). t 0) trees ∙ all ∙ edit;
    }

pub clears_or_not : (old new : State) → (IsTrue old.is_open → IsTrue new.is_open) → (r : Result ℕ Error) → (IsTrue old.in_transaction → ExecutesInside 0 clear_text [] old new r) → ClearsIn old new r
clears_or_not old new stay (Ok count) h base acts holds = clears old new count base acts holds (h holds.inside)
clears_or_not old new stay (Err e) h base acts holds = undoable act_schema base (map act_row acts) old new holds (stay holds.is_open) (stopped clear_text [] old new e (h holds.inside))
