-- Arguments that name a table.
use Rattle.std.proofs.Common.{◌≡◌, ℕ, Bool, true, false, List, Option, None, Some, option_map, inl, inr, refl, sym, ap, subst, ◌∙◌, if◌then◌else◌}
use Rattle.std.proofs.lemmas.Bool.{cases_Bool}
use Rattle.std.specs.Option.{option_and_then}
use Rattle.fedi_program.specs.Commands.{InVault, OnDisk, Reading, Task, Demo, Play, Export, Fill, Migrate, Serve, is_table, is_table_if, names_store, names_table, number_of, place_if, read, table_of, task_at, task_by, task_in, word}
use Rattle.fedi_program.specs.Working.{may_be_in_vault}
use Rattle.fedi_program.specs.declared.commands.Table.{Table}
use Rattle.fedi_program.specs.declared.words.Verb.{Verb}
use Rattle.fedi_program.specs.declared.words.Verb.TheVariants as verbs

-- the task may have its store in a vault
abbrev MayBeTable : Option Task → Type 0
MayBeTable None = Unit {0}
MayBeTable (Some task) = may_be_in_vault task ≡ true

-- a task that has its store in this word has it in a table
abbrev IsTableOf : Option Task → List ℕ → Type 0
IsTableOf task store = is_table_if (if names_store task then Some store else None) ≡ true

serve_at : (store address : List ℕ) (b : Bool) → is_table store ≡ b → IsTableOf (if b then None else Some (Serve address)) store → MayBeTable (if b then None else Some (Serve address))
serve_at store address true is named = absurd (cc named)
serve_at store address false is named = let clash : true ≡ false = sym named ∙ is in absurd (cc clash)

-- the first word is the store, and the second is the table that is to be filled
fill_at : (store : List ℕ) (b : Bool) → is_table store ≡ b → IsTableOf (if b then None else Some Fill) store → MayBeTable (if b then None else Some Fill)
fill_at store true is named = absurd (cc named)
fill_at store false is named = let clash : true ≡ false = sym named ∙ is in absurd (cc clash)

migrate_at : (store : List ℕ) (a b : Bool) → is_table store ≡ a → IsTableOf (if b then (if a then None else Some Fill) else Some Migrate) store
    → MayBeTable (if b then (if a then None else Some Fill) else Some Migrate)
migrate_at store a true is named = fill_at store a is named
migrate_at store a false is named = refl

export_at : (o : Option Table) → MayBeTable (option_map Export o)
export_at None = tt
export_at (Some table) = refl

demo_at : (o : Option ℕ) (store : List ℕ) → IsTableOf (option_map Demo o) store → MayBeTable (option_map Demo o)
demo_at None store named = tt
demo_at (Some number) store named = absurd (cc named)

at : (verb : Verb) (positions : List (List ℕ)) (flagged : Bool) → IsTableOf (task_at verb positions flagged) (word positions 0) → MayBeTable (task_at verb positions flagged)
at verbs.Usage positions flagged named = absurd (cc named)
at verbs.Init positions flagged named = refl
at verbs.Inetd positions flagged named = refl
at verbs.Serve positions flagged named = serve_at (word positions 0) (word positions 1) (is_table (word positions 0)) refl named
at verbs.AddActor positions flagged named = refl
at verbs.AddPeer positions flagged named = refl
at verbs.Deliver positions flagged named = refl
at verbs.Export positions flagged named = export_at (table_of (word positions 1))
at verbs.Check positions flagged named = refl
at verbs.Migrate positions flagged named = migrate_at (word positions 0) (is_table (word positions 0)) (is_table (word positions 1)) refl named
at verbs.Report positions flagged named = refl
at verbs.Demo positions flagged named = demo_at (number_of (word positions 0)) (word positions 0) named
at verbs.Play positions flagged named = absurd (cc named)

read_as : (o : Option Reading) → is_table_if (if names_store (option_and_then task_by o) then option_map (λ reading. word reading.positions 0) o else None) ≡ true
    → MayBeTable (option_and_then task_by o)
read_as None named = tt
read_as (Some reading) named = at reading.verb reading.positions reading.flagged named

-- a task whose store is a table may have its store in a vault
pub may_be_table : (arguments : List (List ℕ)) (task : Task) → Some task ≡ task_in arguments → names_table arguments ≡ true → may_be_in_vault task ≡ true
may_be_table arguments task is named = subst MayBeTable (sym is) (read_as (read arguments) named)

-- so `serve` has it on a disk
pub serve_on_disk : (arguments : List (List ℕ)) (address : List ℕ) → Some (Serve address) ≡ task_in arguments → place_if (names_table arguments) ≡ OnDisk
serve_on_disk arguments address is = elim (cases_Bool (names_table arguments)) [
  | inl named ↦ let may = may_be_table arguments (Serve address) is named in absurd (cc may)
  | inr other ↦ ap place_if other
]

-- the vault is the place of tables alone
pub of_place : (is_a_table : Bool) → place_if is_a_table ≡ InVault → is_a_table ≡ true
of_place true is = refl
of_place false is = absurd (cc is)
