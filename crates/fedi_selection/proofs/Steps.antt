-- What the statements do to a database of one table.
use Rattle.std.proofs.Common.{◌≡◌, ◌⊎◌, inl, inr, ℕ, pos, List, [], ◌∷◌, ◌++◌, Bool, true, false, cond, Option, Some, None, Ok, Err, Result, IsTrue, refl, sym, ap, subst, ◌∙◌}
use Rattle.std.proofs.lemmas.Bool.{cases_Bool}
use Rattle.sqlite.specs.declared.types.Value.{Value}
use Rattle.sqlite.specs.declared.types.Value.TheVariants.{Null, Int, Text}
use Rattle.sqlite.specs.Order.{Row}
use Rattle.sqlite.specs.Source.TheVariants.{Values}
use Rattle.sqlite.specs.Command.TheVariants.{Insert, CreateTable, Nothing}
use Rattle.sqlite.specs.Edit.{edit_of, edited}
use Rattle.sqlite.specs.Rowids.TheVariants.{Chosen}
use Rattle.sqlite.specs.Does.{Tally, Does, lacks_sequence}
use Rattle.sqlite.specs.Rows.{Written}
use Rattle.sqlite.specs.Tree.{Trees}
use Rattle.sqlite.specs.Schema.{Schema}
use Rattle.sqlite.specs.Change.{created, next_tree}
use Rattle.sqlite.specs.declared.error.Error.{Error}
use Rattle.sqlite.specs.Listing.{understood}
use Rattle.sqlite.specs.Effect.{Database}
use Rattle.sqlite.specs.State.{State, mode_of, Executes, ExecutesIn, ExecutesInside, IsNotRun, IsUnchanged, IsRolledBack, shows_rows, RunsAlone, RunsCommand, FailsToShow, FailsToQuery, ShowsRows, Shown, Writes, Survives}
use Rattle.sqlite.proofs.Callers.{IsPlain, statement_of, runs_as, one_step}
use Rattle.sqlite_trees.specs.Tree.{put_row}
use Rattle.sqlite_schema.specs.declared.command.Returning.{Returning}
use Rattle.sqlite_resolve.specs.declared.compiled.Compiled.{Compiled}
use Rattle.sqlite.specs.Kind.TheVariants.{Integer}
use Rattle.sqlite.specs.Cast.{cast}
use Rattle.sqlite.specs.Ops.{unary}
use Rattle.fedi_selection.specs.ActRows.{ActFields}
use Rattle.fedi_selection.specs.Acts.{AddsIn, IsAfter, MakesActs, act_row, act_schema, act_table, no_schema}
use Rattle.fedi_selection.specs.Databases.{Holds, IsAtRest, IsCalm, IsUndoable, Rests}
use Rattle.fedi_selection.proofs.Texts.{insert_is, insert_plain, insert_terms, insert_text, make_again, make_again_plain, make_is, make_plain, make_text}

-- a part that gave a value did not stop on the way
pub went : {B E R : Type 0} {b : B} {Stops : E → Type 0} → ((stop : E) × Stops stop × (Ok b ≡ Err stop)) ⊎ R → R
went (inl stopped) = absurd (let e = stopped.2 in cc)
went (inr on) = on

pub same_value : {B E : Type 0} {a b : B} → ◌≡◌ {A = Result B E} (Ok a) (Ok b) → a ≡ b
same_value e = cc

-- ---- what is refused

ends_command : (old new : State) (sql : List ℕ) (c : Compiled) (params : Row) (e : Error) → RunsCommand old new sql c params (Err e) → IsUnchanged old new ⊎ IsRolledBack old new
ends_command old new sql c params e (inl h) = inl h.1
ends_command old new sql c params e (inr h) = inr h.3

ends_alone : (old new : State) (sql : List ℕ) (c : Compiled) (params : Row) (e : Error) → RunsAlone false old new sql c params (Err e) → IsUnchanged old new ⊎ IsRolledBack old new
ends_alone old new sql c params e h = elim (cases_Bool (shows_rows false c)) [
  | inl shows ↦ inl (rw shows at h).1
  | inr runs ↦ ends_command old new sql c params e (rw runs at h)
]

-- a statement that is refused leaves the database, or rolls back
pub refused : (sql : List ℕ) (params : Row) (old new : State) (e : Error) → Executes sql params old new (Err e) → IsUnchanged old new ⊎ IsRolledBack old new
unfolding ExecutesIn IsNotRun
refused sql params old new e (inl (inl not_run)) = inl not_run.1
refused sql params old new e (inl (inr fails)) = inr fails.3
refused sql params old new e (inr run) = ends_alone old new sql run.0 _ e run.2

fails_to_show : (old new : State) (sql : List ℕ) (c : Compiled) (params : Row) (e : Error) (returning : Option Returning) → FailsToShow old new sql c params e returning → IsUnchanged old new ⊎ IsRolledBack old new
fails_to_show old new sql c params e None h = inl h.3
fails_to_show old new sql c params e (Some what) h = ends_command old new sql c params e h

pub not_read : (sql : List ℕ) (params : Row) (old new : State) (e : Error) → FailsToQuery sql params old new e → IsUnchanged old new ⊎ IsRolledBack old new
unfolding FailsToQuery IsNotRun
not_read sql params old new e (inl (inl not_run)) = inl not_run.1
not_read sql params old new e (inl (inr fails)) = inr fails.3
not_read sql params old new e (inr run) = fails_to_show old new sql run.0 _ e run.0.returning run.2

shows_same : (old new : State) (sql : List ℕ) (c : Compiled) (params : Row) (rows : List Row) (returning : Option Returning) → returning ≡ None → ShowsRows old new sql c params rows returning → IsUnchanged old new
shows_same old new sql c params rows None plain h = h.3
shows_same old new sql c params rows (Some what) plain h = absurd cc

pub reads_only : (sql : List ℕ) (params : Row) (old new : State) (rows : List Row) (schema : Schema) → old.now.schema ≡ schema → IsPlain (understood schema sql) → Shown sql params old new rows → IsUnchanged old new
unfolding Shown
reads_only sql params old new rows schema has plain h =
    let known = sym h.1.is ∙ ap (λ s. understood s sql) has in
    shows_same old new sql h.0 _ rows h.0.returning (subst IsPlain (sym known) plain).0 h.2

-- the same inside a transaction
pub stopped : (sql : List ℕ) (params : Row) (old new : State) (e : Error) → ExecutesInside 0 sql params old new (Err e) → IsUnchanged old new ⊎ IsRolledBack old new
stopped sql params old new e (inl h) = h.1
stopped sql params old new e (inr h) = inl h.2

-- ---- what stays

-- what is open before a calm call is so after it
pub stays_open : (old new : State) (Commits : Trees → Type 0) → IsCalm old new → Survives old new Commits → IsTrue old.is_open → IsTrue new.is_open
stays_open old new Commits calm kept was = elim (kept.closes calm.clean was) [ inl still ↦ still | inr more ↦ absurd (calm.calm more) ]

pub stays : (schema : Schema) (old new : State) → IsAtRest schema old → IsTrue new.is_open → IsUnchanged old new ⊎ IsRolledBack old new → IsAtRest schema new × (new.now ≡ old.now)
stays schema old new rest opened (inl same) =
    let now = same.0.now_is in (
      record {
        is_open = same.0.is_open;
        autocommit = same.0.mode ∙ rest.autocommit;
        settled = same.0.committed_is ∙ rest.settled ∙ sym now;
        schema_is = ap (λ (d : Database). d.schema) now ∙ rest.schema_is;
      },
      now,
    )
stays schema old new rest opened (inr back) =
    let undone = back.undone opened in
    let now = undone.0 ∙ rest.settled in (
      record {
        is_open = opened;
        autocommit = back.autocommit;
        settled = undone.1 ∙ sym undone.0;
        schema_is = ap (λ (d : Database). d.schema) now ∙ rest.schema_is;
      },
      now,
    )

pub rests_on : (schema : Schema) (rows : List Row) (old new : State) → Rests schema rows old → IsTrue new.is_open → IsUnchanged old new ⊎ IsRolledBack old new → Rests schema rows new
rests_on schema rows old new rests opened h =
    let it = stays schema old new rests.rest opened h in
    record { rest = it.0; rows_are = ap (λ (d : Database). d.trees 0) it.1 ∙ rests.rows_are }

-- what is refused in a transaction can be undone with the rest
pub undoable : (schema : Schema) (base : Database) (rows : List Row) (old new : State) → Holds schema base rows old → IsTrue new.is_open → IsUnchanged old new ⊎ IsRolledBack old new → IsUndoable base new
undoable schema base rows old new holds opened (inl same) = record { is_open = opened; committed = same.0.committed_is ∙ holds.committed }
undoable schema base rows old new holds opened (inr back) = record { is_open = opened; committed = (back.undone opened).1 ∙ holds.committed }

-- ---- a transaction

-- it begins over a database at rest
pub begun : (schema : Schema) (rows : List Row) (s : State) → Rests schema rows s → Holds schema s.now rows (record s { in_transaction = true })
begun schema rows s rests = record {
  is_open = rests.rest.is_open;
  inside = refl;
  committed = rests.rest.settled;
  schema_is = rests.rest.schema_is;
  rows_are = rests.rows_are;
}

-- and a rollback goes back to it
pub undone : (schema : Schema) (rows : List Row) (first last end : State) → Rests schema rows first → IsUndoable first.now last → IsTrue end.is_open → IsRolledBack last end → Rests schema rows end
undone schema rows first last end rests can opened back =
    let both = back.undone opened in
    let now : end.now ≡ first.now = both.0 ∙ can.committed in
    record {
      rest = record {
        is_open = opened;
        autocommit = back.autocommit;
        settled = both.1 ∙ sym both.0;
        schema_is = ap (λ (d : Database). d.schema) now ∙ rests.rest.schema_is;
      };
      rows_are = ap (λ (d : Database). d.trees 0) now ∙ rests.rows_are;
    }

-- ---- the table of activities is made

creates : (old new : State) (count : ℕ) → IsAtRest no_schema old → Executes make_text [] old new (Ok count) → Rests act_schema [] new
creates old new count rest h =
    let has = rest.schema_is in
    let w = subst (λ t. Writes old new None CreateTable t [] count) make_is.1 (runs_as make_text [] old new no_schema has CreateTable make_is.0 make_plain count h) in
    let all = went w.changed in
    let first = went all.1 in
    let made = first.1 in
    let both : Ok made.table ≡ Ok act_table = sym made.defined ∙ make_is.2 in
    let same : made.table ≡ act_table = cc in
    let schema : first.0.schema ≡ act_schema = made.is ∙ ap (λ s. created s made.table) has ∙ ap (created no_schema) same in
    let plain : lacks_sequence first.0.schema ≡ false = ap lacks_sequence schema in
    let now : new.now ≡ first.0 = ap (λ (p : Tally × Database). p.1) (same_value all.2) ∙ same_value (rw plain at first.2) in
    record {
      rest = record {
        is_open = w.shown.is_open;
        autocommit = w.shown.mode ∙ rest.autocommit;
        settled = rw rest.autocommit at w.shown.committed_is;
        schema_is = ap (λ (d : Database). d.schema) now ∙ schema;
      };
      rows_are = ap (λ (d : Database). d.trees 0) now ∙ subst (λ s. first.0.trees (next_tree s) ≡ []) has made.empty;
    }

creates_again : (old new : State) (rows : List Row) (count : ℕ) → Rests act_schema rows old → Executes make_text [] old new (Ok count) → Rests act_schema rows new
creates_again old new rows count rests h =
    let ran = runs_as make_text [] old new act_schema rests.rest.schema_is Nothing make_again make_again_plain count h in
    rests_on act_schema rows old new rests ran.0.0.is_open (inl ran.0)

pub makes : (old new : State) → (IsTrue old.is_open → IsTrue new.is_open) → (r : Result ℕ Error) → Executes make_text [] old new r → MakesActs old new r
makes old new stay (Ok count) h = record {
  first = λ rest. creates old new count rest h;
  again = λ rows rests. creates_again old new rows count rests h;
}
makes old new stay (Err e) h = record {
  first = λ rest. tt;
  again = λ rows rests. rests_on act_schema rows old new rests (stay rests.rest.is_open) (refused make_text [] old new e h);
}

-- ---- a row is added

-- a row past all others goes to the end
pub put_last : (rows : List Row) (row : Row) → IsAfter rows row → put_row row rows ≡ rows ++ row ∷ []
put_last [] row after = refl
put_last (first ∷ more) row after = rw after.0 (ap (λ rest. first ∷ rest) (put_last more row after.1))

either : (b : Bool) (x : Value) → cond b x x ≡ x
either true x = refl
either false x = refl

cast_null : cast Integer Null ≡ Null
unfolding unary
cast_null = either _ Null

cast_int : (n : ℕ) → cast Integer (Int (pos n)) ≡ Int (pos n)
unfolding unary
cast_int n = either _ (Int (pos n))

abbrev act_params : ActFields → Row
act_params x = Int (pos x.place) ∷ Text x.id ∷ Text x.actor ∷ Text x.kind ∷ Text x.state ∷ Int (pos x.moment) ∷ []

adds_act : (old new : State) (x : ActFields) (count : ℕ) (base : Database) (rows : List Row) → Holds act_schema base rows old → IsAfter rows (act_row x)
    → ExecutesInside 0 insert_text (act_params x) old new (Ok count) → Holds act_schema base (rows ++ act_row x ∷ []) new
adds_act old new x count base rows holds after h =
    let has = holds.schema_is in
    let params = act_params x in
    let db = old.now.trees in
    let command = Insert 0 (Values insert_terms 7) in
    let w = runs_as insert_text params old new act_schema has command insert_is insert_plain count h.0 in
    let text = statement_of insert_text (understood act_schema insert_text) in
    let done = went (subst (λ s. Does old.step_limit (mode_of old) params (record old.now { schema = s }) text None command (Ok (w.tally, new.now))) has w.changed) in
    let now = ap (λ (p : Tally × Database). p.1) (same_value (went (went done.2).2).2) in
    let given = went done.1 in
    let written = went (went given.2).2 in
    let counted = went written.2 in
    let trees : done.0.trees ≡ written.0 = ap (λ (it : Written). it.trees) (same_value counted.2) ∙ same_value counted.1 in
    let all = (one_step act_schema _ db written.0 (edit_of db act_table [] Chosen 0 given.0) refl written.1).rows in
    let edit : edited db (edit_of db act_table [] Chosen 0 given.0) ≡ rows ++ act_row x ∷ [] =
    ap (λ all. edited db (edit_of db act_table [] Chosen 0 all)) given.1.1 ∙ rw (holds.rows_are, cast_null, cast_int x.place, cast_int x.moment) (put_last rows (act_row x) after) in
    record {
      is_open = h.1.is_open;
      inside = h.1.mode;
      committed = h.1.committed_is ∙ holds.committed;
      schema_is = ap (λ (d : Database). d.schema) now;
      rows_are = ap (λ (d : Database). d.trees 0) now ∙ ap (λ (t : Trees). t 0) trees ∙ all ∙ edit;
    }

pub adds_act_or_not : (old new : State) → (IsTrue old.is_open → IsTrue new.is_open) → (x : ActFields) (r : Result ℕ Error) → (IsTrue old.in_transaction → ExecutesInside 0 insert_text (act_params x) old new r) → AddsIn (act_row x) old new r
adds_act_or_not old new stay x (Ok count) h base rows holds after = adds_act old new x count base rows holds after (h holds.inside)
adds_act_or_not old new stay x (Err e) h base rows holds after = undoable act_schema base rows old new holds (stay holds.is_open) (stopped insert_text _ old new e (h holds.inside))
