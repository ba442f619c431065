-- The arguments that the program takes.
use Rattle.std.specs.Prelude.{ℕ, Bool, true, false, not, ◌&&◌, ◌==◌, nat_eq, nat_le, List, []}
use Rattle.std.specs.Prelude.{◌∷◌, codes, length, map, bytes_eq, Option, Some, None, option_map}
use Rattle.std.specs.Prelude.{slice_index_or, if◌then◌else◌}
use Rattle.std.specs.List.{starts_with, filter, find, list_all, list_any}
use Rattle.std.specs.Option.{option_and_then}
use Rattle.std.specs.Str.Parse.{digits_value}
use Rattle.fedi_text.specs.Decimals.{is_decimal}
use Rattle.fedi_program.specs.declared.commands.Command.{Command}
use Rattle.fedi_program.specs.declared.commands.Command.TheVariants as commands
use Rattle.fedi_program.specs.declared.commands.Table.{Table}
use Rattle.fedi_program.specs.declared.commands.Table.TheVariants.{Actors, Activities, Queue}
use Rattle.fedi_program.specs.declared.words.Reading as readings
use Rattle.fedi_program.specs.declared.words.Row as coded
use Rattle.fedi_program.specs.declared.words.Verb.{Verb}
use Rattle.fedi_program.specs.declared.words.Verb.TheVariants as verbs

-- What the program is asked to do: to print its usage, to begin a store for this host, to serve one
-- connection, to serve those that come to this address, to make a member of this name, who is
-- locked or not, to make this host a peer with this key at this address, which is a relay or not,
-- to try each delivery that is due, to print this table of a store, to count what a store holds, to
-- move the records of a store to another file, or to a table, to report of the activities of the
-- member of this name and of this type, to run the demonstration with this number, or to play the
-- script on the input.
pub data Task : Type 0 where
  Usage : Task
  Init : List ℕ → Task
  Inetd : Task
  Serve : List ℕ → Task
  AddActor : List ℕ → Bool → Task
  AddPeer : List ℕ → List ℕ → List ℕ → Bool → Task
  Deliver : Task
  Export : Table → Task
  Check : Task
  Migrate : Task
  Fill : Task
  Report : List ℕ → List ℕ → Task
  Demo : ℕ → Task
  Play : Task

-- the task of a command, without its references
abbrev pub task_of : Command → Task
task_of commands.Usage = Usage
task_of (commands.Init host) = Init host.now
task_of commands.Inetd = Inetd
task_of (commands.Serve address) = Serve address.now
task_of (commands.AddActor name locked) = AddActor name.now locked
task_of (commands.AddPeer peer) = AddPeer peer.host.now peer.key.now peer.address.now peer.relay
task_of commands.Deliver = Deliver
task_of (commands.Export table) = Export table
task_of commands.Check = Check
task_of commands.Migrate = Migrate
task_of commands.Fill = Fill
task_of (commands.Report name kind) = Report name.now kind.now
task_of (commands.Demo number) = Demo number
task_of commands.Play = Play

-- ---- the table of commands

-- a row of it: a command, its name, how many positional arguments it takes, and its flag, if it has
-- one
pub record Row : Type 0 where
  pub verb : Verb
  pub name : List ℕ
  pub positions : ℕ
  pub flag : Option (List ℕ)

-- the row with these fields
abbrev pub row : Verb → List ℕ → ℕ → Option (List ℕ) → Row
row verb name positions flag =
    record { verb = verb; name = name; positions = positions; flag = flag }

-- the rows: the first positional argument is the store, but `usage`, `demo` and `play` have none;
-- the second of `migrate` is the file, or the table, that its records are moved to
abbrev pub rows : List Row
rows =
    row verbs.Usage (codes "usage") 0 None
    ∷ row verbs.Init (codes "init") 2 None
    ∷ row verbs.Inetd (codes "inetd") 1 None
    ∷ row verbs.Serve (codes "serve") 2 None
    ∷ row verbs.AddActor (codes "add-actor") 2 (Some (codes "--locked"))
    ∷ row verbs.AddPeer (codes "add-peer") 4 (Some (codes "--relay"))
    ∷ row verbs.Deliver (codes "deliver") 1 None
    ∷ row verbs.Export (codes "export") 2 None
    ∷ row verbs.Check (codes "check") 1 None
    ∷ row verbs.Migrate (codes "migrate") 2 None
    ∷ row verbs.Report (codes "report") 3 None
    ∷ row verbs.Demo (codes "demo") 1 None
    ∷ row verbs.Play (codes "play") 0 None
    ∷ []

-- the row of the command of this name
abbrev pub row_of : List ℕ → Option Row
row_of name = find (λ row. bytes_eq name row.name) rows

-- ---- the rule

-- a word that begins with `-` is not a positional argument
abbrev pub is_position : List ℕ → Bool
is_position word = not (starts_with nat_eq word (codes "-"))

-- the word is this flag, if there is one
abbrev pub is_flag : Option (List ℕ) → List ℕ → Bool
is_flag None word = false
is_flag (Some flag) word = bytes_eq word flag

-- the words that are not this flag
abbrev pub positions_of : Option (List ℕ) → List (List ℕ) → List (List ℕ)
positions_of flag words = filter (λ word. not (is_flag flag word)) words

-- The words after a command are accepted exactly if those that are not its flag are its positional
-- arguments, as many as it takes, none beginning with `-`, and its flag is among them at most once,
-- anywhere.
abbrev pub accepts : Row → List (List ℕ) → Bool
accepts row words =
    (length (positions_of row.flag words) == row.positions)
    && list_all is_position (positions_of row.flag words)
    && nat_le (length (filter (is_flag row.flag) words)) 1

-- accepted arguments: the command, its positional arguments in order, and whether its flag is
-- present
pub record Reading : Type 0 where
  pub verb : Verb
  pub positions : List (List ℕ)
  pub flagged : Bool

-- the words after a command as its row reads them
abbrev pub reading_by : Row → List (List ℕ) → Reading
reading_by row words = record {
  verb = row.verb;
  positions = positions_of row.flag words;
  flagged = list_any (is_flag row.flag) words;
}

-- the same, if the row accepts the words
abbrev pub read_by : List (List ℕ) → Row → Option Reading
read_by words row = if accepts row words then Some (reading_by row words) else None

-- the arguments, if they are accepted: a command, and the words after it
abbrev pub read : List (List ℕ) → Option Reading
read [] = None
read (name ∷ words) = option_and_then (read_by words) (row_of name)

-- ---- the task

-- the table of this name
abbrev pub table_of : List ℕ → Option Table
table_of name =
    if bytes_eq name (codes "actors") then Some Actors else (
    if bytes_eq name (codes "activities") then Some Activities else (
    if bytes_eq name (codes "queue") then Some Queue else None))

-- the number that one to four decimal digits write
abbrev pub number_of : List ℕ → Option ℕ
number_of word =
    if nat_le (length word) 4 && is_decimal word then Some (digits_value 10 word) else None

-- the positional argument with this number, counted from 0
abbrev pub word : List (List ℕ) → ℕ → List ℕ
word positions k = slice_index_or positions k []

-- whether the word means a table, which is kept in a vault: it begins with `table:`
abbrev pub is_table : List ℕ → Bool
is_table word = starts_with nat_eq word (codes "table:")

-- what a command with these positional arguments is to do, with its flag or without; `serve` is for
-- files alone, and one of the two stores of `migrate` is a file
abbrev pub task_at : Verb → List (List ℕ) → Bool → Option Task
task_at verbs.Usage positions flagged = Some Usage
task_at verbs.Init positions flagged = Some (Init (word positions 1))
task_at verbs.Inetd positions flagged = Some Inetd
task_at verbs.Serve positions flagged =
    if is_table (word positions 0) then None else Some (Serve (word positions 1))
task_at verbs.AddActor positions flagged = Some (AddActor (word positions 1) flagged)
task_at verbs.AddPeer positions flagged =
    Some (AddPeer (word positions 1) (word positions 2) (word positions 3) flagged)
task_at verbs.Deliver positions flagged = Some Deliver
task_at verbs.Export positions flagged = option_map Export (table_of (word positions 1))
task_at verbs.Check positions flagged = Some Check
task_at verbs.Migrate positions flagged =
    if is_table (word positions 1)
    then (if is_table (word positions 0) then None else Some Fill)
    else Some Migrate
task_at verbs.Report positions flagged = Some (Report (word positions 1) (word positions 2))
task_at verbs.Demo positions flagged = option_map Demo (number_of (word positions 0))
task_at verbs.Play positions flagged = Some Play

-- what accepted arguments ask for
abbrev pub task_by : Reading → Option Task
task_by reading = task_at reading.verb reading.positions reading.flagged

-- what the arguments ask for, if they are accepted
abbrev pub task_in : List (List ℕ) → Option Task
task_in arguments = option_and_then task_by (read arguments)

-- whether arguments that ask for this name a store
abbrev pub names_store : Option Task → Bool
names_store None = false
names_store (Some Usage) = false
names_store (Some (Init host)) = true
names_store (Some Inetd) = true
names_store (Some (Serve address)) = true
names_store (Some (AddActor name locked)) = true
names_store (Some (AddPeer host key address relay)) = true
names_store (Some Deliver) = true
names_store (Some (Export table)) = true
names_store (Some Check) = true
names_store (Some Migrate) = true
names_store (Some Fill) = true
names_store (Some (Report name kind)) = true
names_store (Some (Demo number)) = false
names_store (Some Play) = false

-- the store that the arguments name: the first positional argument, if the arguments are accepted
-- and the task has a store
abbrev pub store_in : List (List ℕ) → Option (List ℕ)
store_in arguments =
    if names_store (task_in arguments)
    then option_map (λ reading. word reading.positions 0) (read arguments)
    else None

-- where a store is: on a disk, or in a vault
pub data Place : Type 0 where
  OnDisk : Place
  InVault : Place

-- whether a store is named, and its word means a table
abbrev pub is_table_if : Option (List ℕ) → Bool
is_table_if None = false
is_table_if (Some store) = is_table store

-- whether the arguments name a table
abbrev pub names_table : List (List ℕ) → Bool
names_table arguments = is_table_if (store_in arguments)

-- the place of a table, and of every other store
abbrev pub place_if : Bool → Place
place_if true = InVault
place_if false = OnDisk

-- where the store is that the arguments name
abbrev pub place_in : List (List ℕ) → Place
place_in arguments = place_if (names_table arguments)

-- whether arguments that ask for this name a second store
abbrev pub names_second : Option Task → Bool
names_second None = false
names_second (Some Usage) = false
names_second (Some (Init host)) = false
names_second (Some Inetd) = false
names_second (Some (Serve address)) = false
names_second (Some (AddActor name locked)) = false
names_second (Some (AddPeer host key address relay)) = false
names_second (Some Deliver) = false
names_second (Some (Export table)) = false
names_second (Some Check) = false
names_second (Some Migrate) = true
names_second (Some Fill) = true
names_second (Some (Report name kind)) = false
names_second (Some (Demo number)) = false
names_second (Some Play) = false

-- that store: the second positional argument, if the arguments are accepted and the task has one
abbrev pub second_in : List (List ℕ) → Option (List ℕ)
second_in arguments =
    if names_second (task_in arguments)
    then option_map (λ reading. word reading.positions 1) (read arguments)
    else None

-- the address at which connections are served, if that is the task
abbrev pub address_of : Option Task → Option (List ℕ)
address_of None = None
address_of (Some Usage) = None
address_of (Some (Init host)) = None
address_of (Some Inetd) = None
address_of (Some (Serve address)) = Some address
address_of (Some (AddActor name locked)) = None
address_of (Some (AddPeer host key address relay)) = None
address_of (Some Deliver) = None
address_of (Some (Export table)) = None
address_of (Some Check) = None
address_of (Some Migrate) = None
address_of (Some Fill) = None
address_of (Some (Report name kind)) = None
address_of (Some (Demo number)) = None
address_of (Some Play) = None

-- ---- as the code has them

-- the row of the command of this name, as the code's table has it
abbrev pub row_by : List ℕ → coded.Row → Row
row_by name r = row r.verb name r.positions (option_map (λ flag. flag.now) r.flag)

-- a reading of the code, without its references
abbrev pub reading_of : readings.Reading → Reading
reading_of r = record {
  verb = r.verb;
  positions = map (λ word. word.now) r.positions.items;
  flagged = r.flagged;
}
