-- What the statements do to a database that keeps records.
use Rattle.std.proofs.Common.{◌≡◌, ◌⊎◌, inl, inr, ℕ, ◌+◌, pos, List, [], ◌∷◌, ◌++◌, length, ◌<◌, zero, suc, slice_get, map, flat_map, option_map, IfOk, true, false, Option, Some, None, Ok, Err, Result, IsTrue, if◌then◌else◌, refl, sym, ap, subst, ◌∙◌, arith}
use Rattle.sqlite.specs.declared.types.Value.TheVariants.{Null, Int, Blob}
use Rattle.sqlite.specs.Order.{Row}
use Rattle.sqlite.specs.Source.TheVariants.{Values}
use Rattle.sqlite.specs.Command.TheVariants.{Insert}
use Rattle.sqlite.specs.Edit.{edit_of, edited}
use Rattle.sqlite.specs.Rowids.TheVariants.{Chosen}
use Rattle.sqlite.specs.Does.{Tally, Does}
use Rattle.sqlite.specs.Rows.{Written}
use Rattle.sqlite.specs.Tree.{Trees}
use Rattle.sqlite.specs.declared.error.Error.{Error}
use Rattle.sqlite.specs.Listing.{understood}
use Rattle.sqlite.specs.Effect.{Database}
use Rattle.sqlite.specs.State.{State, mode_of, Executes, ExecutesIn, ExecutesInside, IsNotRun, IsUnchanged, IsRolledBack, shows_rows, RunsAlone, RunsCommand, FailsToShow, FailsToQuery, ShowsRows, Shown, QueriesRow, Writes, Survives}
use Rattle.sqlite.proofs.Callers.{IsPlain, statement_of, runs_as, first_as, reads_as, one_step, one_permutation}
use Rattle.std.proofs.Common.{is_eq, int_cmp, IsPermutation}
use Rattle.std.proofs.lemmas.Bool.{cases_Bool}
use Rattle.std.proofs.lemmas.Bool.Decides.{nat_tests}
use Rattle.std.proofs.lemmas.List.Sorted.{length_permutation, IsPermutation-map, All-permutation}
use Rattle.std.proofs.lemmas.List.Elements.{All-from_recursion}
use Rattle.std.specs.List.{AllByRecursion}
use Rattle.std.proofs.Common.{◌≤◌, All, IfErr, Vec, subst₂}
use Rattle.sqlite.specs.Query.{Output, output, matches_as, end}
use Rattle.sqlite.specs.Term.{Env, holds, col, op2}
use Rattle.sqlite.specs.Ops.{binary, is_true, from_truth}
use Rattle.sqlite_sql.specs.declared.ops.BinaryOp.TheVariants.{Compare}
use Rattle.sqlite_sql.specs.declared.ops.CompareOp.TheVariants.{Eq}
use Rattle.sqlite.specs.Collation.TheVariants.{Binary}
use Rattle.sqlite_value.proofs.OrderLemmas.{value_cmp-Int}
use Rattle.sqlite.specs.Schema.{Schema}
use Rattle.sqlite.specs.Command.TheVariants.{CreateTable, Nothing}
use Rattle.sqlite.specs.Change.{created, next_tree}
use Rattle.sqlite.specs.Does.{lacks_sequence}
use Rattle.sqlite.specs.Query.{IsAnswer}
use Rattle.sqlite.specs.Program.{overlay}
use Rattle.sqlite_schema.specs.declared.command.Returning.{Returning}
use Rattle.sqlite_resolve.specs.declared.compiled.Compiled.{Compiled}
use Rattle.fedi_sqlite.specs.Kept.{kept_table, kept_schema, no_schema, row_of, rows_from, HasRecords, IsAdding, IsAtRest, IsCalm, Keeps, Appends, AppendsWithin, Makes, Loads, Lists, IsPlaceBelow}
use Rattle.fedi_sqlite.proofs.Texts.{append_text, append_terms, append_is, append_plain, make_text, make_is, make_plain, make_again, make_again_plain, load_text, load_query, load_is, load_plain, places_text, places_query, places_is, places_plain}
use Rattle.fedi_sqlite.proofs.Rows.{put_last, cast_null, cast_int}

-- a part that gave a value did not stop on the way
went : {B E R : Type 0} {b : B} {Stops : E → Type 0} → ((stop : E) × Stops stop × (Ok b ≡ Err stop)) ⊎ R → R
went (inl stopped) = absurd (let e = stopped.2 in cc)
went (inr on) = on

same_value : {B E : Type 0} {a b : B} → ◌≡◌ {A = Result B E} (Ok a) (Ok b) → a ≡ b
same_value e = cc

-- ---- what is refused

ends_command : (old new : State) (sql : List ℕ) (c : Compiled) (params : Row) (e : Error) → RunsCommand old new sql c params (Err e) → IsUnchanged old new ⊎ IsRolledBack old new
ends_command old new sql c params e (inl h) = inl h.1
ends_command old new sql c params e (inr h) = inr h.3

ends_alone : (old new : State) (sql : List ℕ) (c : Compiled) (params : Row) (e : Error) → RunsAlone false old new sql c params (Err e) → IsUnchanged old new ⊎ IsRolledBack old new
ends_alone old new sql c params e h = elim (cases_Bool (shows_rows false c)) [
  | inl shows ↦ inl (rw shows at h).1
  | inr runs ↦ ends_command old new sql c params e (rw runs at h)
]

-- a statement that is refused leaves the database, or rolls back
pub refused : (sql : List ℕ) (params : Row) (old new : State) (e : Error) → Executes sql params old new (Err e) → IsUnchanged old new ⊎ IsRolledBack old new
unfolding ExecutesIn IsNotRun
refused sql params old new e (inl (inl not_run)) = inl not_run.1
refused sql params old new e (inl (inr fails)) = inr fails.3
refused sql params old new e (inr run) = ends_alone old new sql run.0 _ e run.2

fails_to_show : (old new : State) (sql : List ℕ) (c : Compiled) (params : Row) (e : Error) (returning : Option Returning) → FailsToShow old new sql c params e returning → IsUnchanged old new ⊎ IsRolledBack old new
fails_to_show old new sql c params e None h = inl h.3
fails_to_show old new sql c params e (Some what) h = ends_command old new sql c params e h

pub not_read : (sql : List ℕ) (params : Row) (old new : State) (e : Error) → FailsToQuery sql params old new e → IsUnchanged old new ⊎ IsRolledBack old new
unfolding FailsToQuery IsNotRun
not_read sql params old new e (inl (inl not_run)) = inl not_run.1
not_read sql params old new e (inl (inr fails)) = inr fails.3
not_read sql params old new e (inr run) = fails_to_show old new sql run.0 _ e run.0.returning run.2

shows_same : (old new : State) (sql : List ℕ) (c : Compiled) (params : Row) (rows : List Row) (returning : Option Returning) → returning ≡ None → ShowsRows old new sql c params rows returning → IsUnchanged old new
shows_same old new sql c params rows None plain h = h.3
shows_same old new sql c params rows (Some what) plain h = absurd cc

pub reads_only : (sql : List ℕ) (params : Row) (old new : State) (rows : List Row) (schema : Schema) → old.now.schema ≡ schema → IsPlain (understood schema sql) → Shown sql params old new rows → IsUnchanged old new
unfolding Shown
reads_only sql params old new rows schema has plain h =
    let known = sym h.1.is ∙ ap (λ s. understood s sql) has in
    shows_same old new sql h.0 _ rows h.0.returning (subst IsPlain (sym known) plain).0 h.2

pub row_or_not : (sql : List ℕ) (params : Row) (old new : State) (r : Result Row Error) (schema : Schema) → old.now.schema ≡ schema → IsPlain (understood schema sql) → QueriesRow sql params old new r
    → IsUnchanged old new ⊎ IsRolledBack old new
unfolding QueriesRow
row_or_not sql params old new (Ok row) schema has plain (inl h) = inl h.1
row_or_not sql params old new (Ok row) schema has plain (inr h) = inl (reads_only sql params old new h.0 schema has plain h.1)
row_or_not sql params old new (Err e) schema has plain (inl h) = not_read sql params old new e h
row_or_not sql params old new (Err e) schema has plain (inr h) = inl (reads_only sql params old new [] schema has plain h.1)

-- ---- what stays

-- what is open before a calm call is so after it
pub stays_open : (old new : State) (Commits : Trees → Type 0) → IsCalm old new → Survives old new Commits → IsTrue old.is_open → IsTrue new.is_open
stays_open old new Commits calm kept was = elim (kept.closes calm.clean was) [ inl still ↦ still | inr more ↦ absurd (calm.calm more) ]

pub stays : (schema : Schema) (old new : State) → IsAtRest schema old → IsTrue new.is_open → IsUnchanged old new ⊎ IsRolledBack old new → IsAtRest schema new × (new.now ≡ old.now)
stays schema old new rest opened (inl same) =
    let now = same.0.now_is in (
      record {
        is_open = same.0.is_open;
        autocommit = same.0.mode ∙ rest.autocommit;
        settled = same.0.committed_is ∙ rest.settled ∙ sym now;
        schema_is = ap (λ (d : Database). d.schema) now ∙ rest.schema_is;
      },
      now,
    )
stays schema old new rest opened (inr back) =
    let undone = back.undone opened in
    let now = undone.0 ∙ rest.settled in (
      record {
        is_open = opened;
        autocommit = back.autocommit;
        settled = undone.1 ∙ sym undone.0;
        schema_is = ap (λ (d : Database). d.schema) now ∙ rest.schema_is;
      },
      now,
    )

pub keeps_on : (records : List (List ℕ)) (old new : State) → Keeps records old → IsTrue new.is_open → IsUnchanged old new ⊎ IsRolledBack old new → Keeps records new
keeps_on records old new keeps opened h =
    let it = stays kept_schema old new keeps.rest opened h in
    record { rest = it.0; rows = ap (λ (d : Database). d.trees 0) it.1 ∙ keeps.rows }

-- ---- the four statements

-- where the row of a new record is written, at the end of the others
record Inserted (records : List (List ℕ)) (old new : State) : Type 0 where
  now : HasRecords records new.now
  is_open : IsTrue new.is_open
  mode : new.in_transaction ≡ old.in_transaction
  committed_is : new.committed ≡ (if old.in_transaction then old.committed else new.now)

inserted : (old new : State) (records : List (List ℕ)) (payload : List ℕ) (count : ℕ) → HasRecords records old.now
    → Executes append_text (Int (pos (length records)) ∷ Blob payload ∷ []) old new (Ok count) → Inserted (records ++ payload ∷ []) old new
inserted old new records payload count were h =
    let has = were.schema_is in
    let params = Int (pos (length records)) ∷ Blob payload ∷ [] in
    let db = old.now.trees in
    let command = Insert 0 (Values append_terms 3) in
    let w = runs_as append_text params old new kept_schema has command append_is append_plain count h in
    let text = statement_of append_text (understood kept_schema append_text) in
    let done = went (subst (λ s. Does old.step_limit (mode_of old) params (record old.now { schema = s }) text None command (Ok (w.tally, new.now))) has w.changed) in
    let now = ap (λ (p : Tally × Database). p.1) (same_value (went (went done.2).2).2) in
    let given = went done.1 in
    let written = went (went given.2).2 in
    let counted = went written.2 in
    let trees : done.0.trees ≡ written.0 = ap (λ (it : Written). it.trees) (same_value counted.2) ∙ same_value counted.1 in
    let rows = (one_step kept_schema _ db written.0 (edit_of db kept_table [] Chosen 0 given.0) refl written.1).rows in
    let edit : edited db (edit_of db kept_table [] Chosen 0 given.0) ≡ rows_from 0 (records ++ payload ∷ []) =
    ap (λ all. edited db (edit_of db kept_table [] Chosen 0 all)) given.1.1 ∙ rw (were.rows, cast_null, cast_int (length records)) (put_last records 0 (length records) payload (omega arith)) in
    record {
      now = record { schema_is = ap (λ (d : Database). d.schema) now; rows = ap (λ (d : Database). d.trees 0) now ∙ ap (λ (t : Trees). t 0) trees ∙ rows ∙ edit };
      is_open = w.shown.is_open;
      mode = w.shown.mode;
      committed_is = w.shown.committed_is;
    }

has_records : (records : List (List ℕ)) (s : State) → Keeps records s → HasRecords records s.now
has_records records s keeps = record { schema_is = keeps.rest.schema_is; rows = keeps.rows }

pub appends : (old new : State) (records : List (List ℕ)) (payload : List ℕ) (count : ℕ) → Keeps records old
    → Executes append_text (Int (pos (length records)) ∷ Blob payload ∷ []) old new (Ok count) → Keeps (records ++ payload ∷ []) new
appends old new records payload count keeps h =
    let it = inserted old new records payload count (has_records records old keeps) h in
    record {
      rest = record { is_open = it.is_open; autocommit = it.mode ∙ keeps.rest.autocommit; settled = rw keeps.rest.autocommit at it.committed_is; schema_is = it.now.schema_is };
      rows = it.now.rows;
    }

pub appends_or_not : (old new : State) → (IsTrue old.is_open → IsTrue new.is_open) → (place : ℕ) (payload : List ℕ) (r : Result ℕ Error) → Executes append_text (Int (pos place) ∷ Blob payload ∷ []) old new r → Appends old new place payload r
appends_or_not old new stay place payload (Ok count) h records keeps at =
    appends old new records payload count keeps (subst (λ n. Executes append_text (Int (pos n) ∷ Blob payload ∷ []) old new (Ok count)) at h)
appends_or_not old new stay place payload (Err e) h records keeps at = keeps_on records old new keeps (stay keeps.rest.is_open) (refused append_text _ old new e h)

-- ---- in a transaction

-- what is rolled back keeps what was kept before the transaction
pub rolled_back : (kept records : List (List ℕ)) (old new : State) → IsAdding kept records old → IsTrue new.is_open → IsRolledBack old new → Keeps kept new
rolled_back kept records old new adding opened back =
    let undone = back.undone opened in
    record {
      rest = record { is_open = opened; autocommit = back.autocommit; settled = undone.1 ∙ sym undone.0; schema_is = ap (λ (d : Database). d.schema) undone.0 ∙ adding.before.schema_is };
      rows = ap (λ (d : Database). d.trees 0) undone.0 ∙ adding.before.rows;
    }

-- a statement that is refused leaves the transaction, or rolls it back
adding_on : (kept records : List (List ℕ)) (old new : State) → IsAdding kept records old → IsTrue new.is_open → IsUnchanged old new ⊎ IsRolledBack old new → IsAdding kept records new ⊎ Keeps kept new
adding_on kept records old new adding opened (inl same) = inl (record {
  is_open = same.0.is_open;
  within = same.0.mode ∙ adding.within;
  before = subst (HasRecords kept) (sym same.0.committed_is) adding.before;
  now = subst (HasRecords records) (sym same.0.now_is) adding.now;
})
adding_on kept records old new adding opened (inr back) = inr (rolled_back kept records old new adding opened back)

pub appends_within : (old new : State) → (IsTrue old.is_open → IsTrue new.is_open) → (place : ℕ) (payload : List ℕ) (r : Result ℕ Error)
    → (IsTrue old.in_transaction → ExecutesInside 0 append_text (Int (pos place) ∷ Blob payload ∷ []) old new r) → AppendsWithin old new place payload r
appends_within old new stay place payload (Ok count) h kept records adding at =
    let ran = subst (λ n. Executes append_text (Int (pos n) ∷ Blob payload ∷ []) old new (Ok count)) at (h adding.within).0 in
    let it = inserted old new records payload count adding.now ran in
    record { is_open = it.is_open; within = it.mode ∙ adding.within; before = subst (HasRecords kept) (sym (rw adding.within at it.committed_is)) adding.before; now = it.now }
appends_within old new stay place payload (Err e) h kept records adding at = adding_on kept records old new adding (stay adding.is_open) (elim (h adding.within) [ inl ran ↦ ran.1 | inr ends ↦ inl ends.2 ])

pub creates : (old new : State) (count : ℕ) → IsAtRest no_schema old → Executes make_text [] old new (Ok count) → Keeps [] new
creates old new count rest h =
    let has = rest.schema_is in
    let w = subst (λ t. Writes old new None CreateTable t [] count) make_is.1 (runs_as make_text [] old new no_schema has CreateTable make_is.0 make_plain count h) in
    let all = went w.changed in
    let first = went all.1 in
    let made = first.1 in
    let both : Ok made.table ≡ Ok kept_table = sym made.defined ∙ make_is.2 in
    let same : made.table ≡ kept_table = cc in
    let schema : first.0.schema ≡ kept_schema = made.is ∙ ap (λ s. created s made.table) has ∙ ap (created no_schema) same in
    let plain : lacks_sequence first.0.schema ≡ false = ap lacks_sequence schema in
    let now : new.now ≡ first.0 = ap (λ (p : Tally × Database). p.1) (same_value all.2) ∙ same_value (rw plain at first.2) in
    record {
      rest = record {
        is_open = w.shown.is_open;
        autocommit = w.shown.mode ∙ rest.autocommit;
        settled = rw rest.autocommit at w.shown.committed_is;
        schema_is = ap (λ (d : Database). d.schema) now ∙ schema;
      };
      rows = ap (λ (d : Database). d.trees 0) now ∙ subst (λ s. first.0.trees (next_tree s) ≡ []) has made.empty;
    }

pub creates_again : (old new : State) (records : List (List ℕ)) (count : ℕ) → Keeps records old → Executes make_text [] old new (Ok count) → Keeps records new
creates_again old new records count keeps h =
    let ran = runs_as make_text [] old new kept_schema keeps.rest.schema_is Nothing make_again make_again_plain count h in
    keeps_on records old new keeps ran.0.0.is_open (inl ran.0)

pub makes : (old new : State) → (IsTrue old.is_open → IsTrue new.is_open) → (r : Result ℕ Error) → Executes make_text [] old new r → Makes old new r
makes old new stay (Ok count) h = record {
  first = λ rest. creates old new count rest h;
  again = λ records keeps. creates_again old new records count keeps h;
}
makes old new stay (Err e) h = record {
  first = λ rest. (stays no_schema old new rest (stay rest.is_open) (refused make_text [] old new e h)).0;
  again = λ records keeps. keeps_on records old new keeps (stay keeps.rest.is_open) (refused make_text [] old new e h);
}

-- ---- reading one record

-- the environments in which the row of this place was found, if there is one
abbrev found_at : ℕ → Option (List ℕ) → List Env
found_at place None = []
found_at place (Some payload) = ((Int (pos place) ∷ []) ∷ row_of place payload ∷ []) ∷ []

-- a row is kept where its place is the one that is asked for
abbrev keep : ℕ → Row → List Env
keep place r = matches_as Null (λ _. []) load_query.filter end ((Int (pos place) ∷ []) ∷ r ∷ [])

same_place : (i place : ℕ) → i ≡ place → is_eq (int_cmp (pos i) (pos place)) ≡ true
same_place i place same = grind (arith, nat_tests, same)

other_place : (i place : ℕ) → (i ≡ place → ⊥) → is_eq (int_cmp (pos i) (pos place)) ≡ false
other_place i place other = grind (arith, nat_tests, other)

tested : (i place : ℕ) (payload : List ℕ) → holds ((Int (pos place) ∷ []) ∷ row_of i payload ∷ []) (op2 (Compare Eq Binary) (col 1 0) (col 0 0)) ≡ is_true (from_truth (Some (is_eq (int_cmp (pos i) (pos place)))))
unfolding binary
tested i place payload = ap (λ o. is_true (from_truth (Some (is_eq o)))) (value_cmp-Int (pos i) (pos place))

keep_this : (i place : ℕ) (payload : List ℕ) → i ≡ place → keep place (row_of i payload) ≡ found_at place (Some payload)
keep_this i place payload same = rw (tested i place payload, same_place i place same) (ap (λ n. ((Int (pos place) ∷ []) ∷ row_of n payload ∷ []) ∷ []) same)

keep_none : (i place : ℕ) (payload : List ℕ) → (i ≡ place → ⊥) → keep place (row_of i payload) ≡ []
keep_none i place payload other = rw (tested i place payload, other_place i place other) refl

picks_none : (records : List (List ℕ)) (from place : ℕ) → place < from → flat_map (keep place) (rows_from from records) ≡ []
picks_none [] from place below = refl
picks_none (first ∷ more) from place below = rw (keep_none from place first (λ same. omega (arith, below, same))) (picks_none more (from + 1) place (omega (arith, below)))

picks : (records : List (List ℕ)) (from k place : ℕ) → place ≡ from + k → flat_map (keep place) (rows_from from records) ≡ found_at place (slice_get records k)
picks [] from k place is = refl
picks (first ∷ more) from zero place is =
    rw (keep_this from place first (omega (arith, is))) (ap (λ rest. ((Int (pos place) ∷ []) ∷ row_of place first ∷ []) ∷ rest) (picks_none more (from + 1) place (omega (arith, is))))
picks (first ∷ more) from (suc k) place is = rw (keep_none from place first (λ same. omega (arith, is, same))) (picks more (from + 1) k place (omega (arith, is)))

output_found : (place : ℕ) (o : Option (List ℕ)) (row : Row) (rest : List Row) (ordered : List Output)
    → IsPermutation (map (output load_query) (found_at place o)) ordered → row ∷ rest ≡ map (λ (p : Output). p.1) ordered → option_map (λ payload. Blob payload ∷ []) o ≡ Some row
output_found place None row rest [] same shown = absurd cc
output_found place None row rest (o ∷ more) same shown = absurd (let e = length_permutation [] (o ∷ more) same in omega (arith, e))
output_found place (Some payload) row rest ordered same shown =
    let out : Output = ([], Blob payload ∷ []) in
    let one = one_permutation out ordered same in
    let it = shown ∙ ap (map (λ (p : Output). p.1)) one in
    cc

pub loads : (old new : State) (records : List (List ℕ)) (place : ℕ) (row : Row) → Keeps records old → QueriesRow load_text (Int (pos place) ∷ []) old new (Ok row)
    → option_map (λ payload. Blob payload ∷ []) (slice_get records place) ≡ Some row
unfolding QueriesRow
loads old new records place row keeps h =
    let params = Int (pos place) ∷ [] in
    let got = (first_as load_text params old new kept_schema keeps.rest.schema_is _ load_is.0 load_plain load_is.1 row h).1 in
    let a : IsAnswer load_query (overlay old.now.trees []) params (row ∷ got.0) = got.1 Null in
    let staged : a.staged ≡ found_at place (slice_get records place) = a.grouped ∙ rw keeps.rows (picks records 0 place place (omega arith)) in
    let kept : a.kept ≡ map (output load_query) (found_at place (slice_get records place)) = a.distinct ∙ ap (map (output load_query)) staged in
    output_found place (slice_get records place) row got.0 a.ordered (subst (λ k. IsPermutation k a.ordered) kept a.same) a.shown

pub loads_or_not : (old new : State) → (IsTrue old.is_open → IsTrue new.is_open) → (place : ℕ) (r : Result Row Error) → QueriesRow load_text (Int (pos place) ∷ []) old new r → Loads old new place r
loads_or_not old new stay place r h = record {
  stays = λ records keeps. keeps_on records old new keeps (stay keeps.rest.is_open) (row_or_not load_text _ old new r kept_schema keeps.rest.schema_is load_plain h);
  finds = λ records keeps. finds_row records keeps r h;
}
  where
    finds_row : (records : List (List ℕ)) → Keeps records old → (r : Result Row Error) → QueriesRow load_text (Int (pos place) ∷ []) old new r
        → IfOk r (λ row. option_map (λ payload. Blob payload ∷ []) (slice_get records place) ≡ Some row)
    finds_row records keeps (Ok row) h = loads old new records place row keeps h
    finds_row records keeps (Err e) h = tt

-- ---- reading all places

abbrev keep_each : Row → List Env
keep_each r = matches_as Null (λ _. []) places_query.filter end ([] ∷ r ∷ [])

abbrev shown_of : List Row → List Row
shown_of rows = map (λ (p : Output). p.1) (map (output places_query) (flat_map keep_each rows))

each_is_place : (records : List (List ℕ)) (from bound : ℕ) → from + length records ≤ bound → AllByRecursion (IsPlaceBelow bound) (shown_of (rows_from from records))
each_is_place [] from bound fits = tt
each_is_place (first ∷ more) from bound fits = ((from, refl, omega (arith, fits)), each_is_place more (from + 1) bound (omega (arith, fits)))

as_many : (records : List (List ℕ)) (from : ℕ) → length (shown_of (rows_from from records)) ≡ length records
as_many [] from = refl
as_many (first ∷ more) from = ap suc (as_many more (from + 1))

pub lists : (old new : State) (records : List (List ℕ)) (rows : List Row) → Keeps records old → Shown places_text [] old new rows
    → (length rows ≡ length records) × All (IsPlaceBelow (length records)) rows
lists old new records rows keeps h =
    let read = reads_as places_text [] old new kept_schema keeps.rest.schema_is _ places_is.0 places_plain places_is.1 rows h in
    let a : IsAnswer places_query (overlay old.now.trees []) [] rows = read.answer Null in
    let staged : a.staged ≡ flat_map keep_each (rows_from 0 records) = a.grouped ∙ ap (flat_map keep_each) keeps.rows in
    let kept : a.kept ≡ map (output places_query) (flat_map keep_each (rows_from 0 records)) = a.distinct ∙ ap (map (output places_query)) staged in
    let same = IsPermutation-map (λ (p : Output). p.1) a.kept a.ordered a.same in
    let mixed : IsPermutation (shown_of (rows_from 0 records)) rows = subst₂ (λ xs ys. IsPermutation xs ys) (ap (map (λ (p : Output). p.1)) kept) (sym a.shown) same in (
      length_permutation _ _ mixed ∙ as_many records 0,
      All-permutation (IsPlaceBelow (length records)) _ _ mixed (All-from_recursion _ _ (each_is_place records 0 (length records) (omega arith))),
    )

pub lists_or_not : (old new : State) → (IsTrue old.is_open → IsTrue new.is_open) → (T : Type 0) (r : Result (Vec Row T) Error) → (IfOk r (λ rows. Shown places_text [] old new rows.items)) → (IfErr r (FailsToQuery places_text [] old new)) → Lists old new r
lists_or_not old new stay T (Ok rows) shown tt = record {
  stays = λ records keeps. keeps_on records old new keeps (stay keeps.rest.is_open) (inl (reads_only places_text [] old new rows.items kept_schema keeps.rest.schema_is places_plain shown));
  finds = λ records keeps. lists old new records rows.items keeps shown;
}
lists_or_not old new stay T (Err e) tt h = record {
  stays = λ records keeps. keeps_on records old new keeps (stay keeps.rest.is_open) (not_read places_text [] old new e h);
  finds = λ records keeps. tt;
}
