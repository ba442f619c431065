-- What a run may do, depending on what it is asked.
use Rattle.std.specs.Prelude.{ℕ, ◌==◌, ◌||◌, Bool, true, false, List, [], ◌∷◌, Option, None, Some}
use Rattle.std.specs.List.{list_any}
use Rattle.fedi_program.specs.Commands.{Task, Usage, Init, Inetd, Serve, AddActor, AddPeer, Deliver}
use Rattle.fedi_program.specs.Commands.{Export, Check, Migrate, Fill, Report, Demo, Play, InVault}
use Rattle.fedi_program.specs.Commands.{OnDisk}
use Rattle.fedi_program.specs.Commands.{Place}
use Rattle.fedi_program.specs.Commands.{names_store}

-- the statuses with which it may end
abbrev pub statuses_of : Option Task → List ℕ
statuses_of None = 2 ∷ []
statuses_of (Some Usage) = 0 ∷ 7 ∷ []
statuses_of (Some (Init host)) = 0 ∷ 5 ∷ 7 ∷ 9 ∷ 10 ∷ 12 ∷ []
statuses_of (Some Inetd) = 0 ∷ 3 ∷ 4 ∷ 5 ∷ 6 ∷ 7 ∷ 8 ∷ 12 ∷ 14 ∷ []
statuses_of (Some (Serve address)) = 0 ∷ 3 ∷ 4 ∷ 5 ∷ 11 ∷ 12 ∷ 14 ∷ []
statuses_of (Some (AddActor name locked)) = 0 ∷ 3 ∷ 4 ∷ 5 ∷ 6 ∷ 7 ∷ 10 ∷ 12 ∷ 13 ∷ 14 ∷ []
statuses_of (Some (AddPeer host key address relay)) = 0 ∷ 3 ∷ 4 ∷ 5 ∷ 7 ∷ 10 ∷ 12 ∷ 13 ∷ 14 ∷ []
statuses_of (Some Deliver) = 0 ∷ 3 ∷ 4 ∷ 5 ∷ 7 ∷ 12 ∷ 13 ∷ 14 ∷ []
statuses_of (Some (Export table)) = 0 ∷ 3 ∷ 4 ∷ 5 ∷ 7 ∷ 12 ∷ 14 ∷ []
statuses_of (Some Check) = 0 ∷ 3 ∷ 4 ∷ 5 ∷ 7 ∷ 12 ∷ 14 ∷ []
statuses_of (Some Migrate) = 0 ∷ 3 ∷ 4 ∷ 5 ∷ 7 ∷ 9 ∷ 12 ∷ 13 ∷ []
statuses_of (Some Fill) = 0 ∷ 3 ∷ 4 ∷ 5 ∷ 7 ∷ 9 ∷ 12 ∷ []
statuses_of (Some (Report name kind)) = 0 ∷ 3 ∷ 4 ∷ 5 ∷ 7 ∷ 10 ∷ 12 ∷ 14 ∷ []
statuses_of (Some (Demo number)) = 0 ∷ 7 ∷ 12 ∷ []
statuses_of (Some Play) = 0 ∷ 6 ∷ 7 ∷ 10 ∷ 12 ∷ []

-- the status is one of these
abbrev pub is_status_of : Option Task → ℕ → Bool
is_status_of task status = list_any (λ s. s == status) (statuses_of task)

-- whether it opens the store, to add to it or to report of it; `migrate` only reads it, and
-- `report` opens it unless its words are refused
abbrev pub opens_store : Option Task → Bool
opens_store None = false
opens_store (Some Usage) = false
opens_store (Some (Init host)) = false
opens_store (Some Inetd) = true
opens_store (Some (Serve address)) = true
opens_store (Some (AddActor name locked)) = true
opens_store (Some (AddPeer host key address relay)) = true
opens_store (Some Deliver) = true
opens_store (Some (Export table)) = true
opens_store (Some Check) = true
opens_store (Some Migrate) = false
opens_store (Some Fill) = false
opens_store (Some (Report name kind)) = false
opens_store (Some (Demo number)) = false
opens_store (Some Play) = false

-- whether it may draw a key
abbrev pub may_draw : Option Task → Bool
may_draw None = false
may_draw (Some Usage) = false
may_draw (Some (Init host)) = false
may_draw (Some Inetd) = false
may_draw (Some (Serve address)) = false
may_draw (Some (AddActor name locked)) = true
may_draw (Some (AddPeer host key address relay)) = false
may_draw (Some Deliver) = false
may_draw (Some (Export table)) = false
may_draw (Some Check) = false
may_draw (Some Migrate) = false
may_draw (Some Fill) = false
may_draw (Some (Report name kind)) = false
may_draw (Some (Demo number)) = false
may_draw (Some Play) = false

-- whether it lays rows in a selection
abbrev pub lays_rows : Option Task → Bool
lays_rows None = false
lays_rows (Some Usage) = false
lays_rows (Some (Init host)) = false
lays_rows (Some Inetd) = false
lays_rows (Some (Serve address)) = false
lays_rows (Some (AddActor name locked)) = false
lays_rows (Some (AddPeer host key address relay)) = false
lays_rows (Some Deliver) = false
lays_rows (Some (Export table)) = false
lays_rows (Some Check) = false
lays_rows (Some Migrate) = false
lays_rows (Some Fill) = false
lays_rows (Some (Report name kind)) = true
lays_rows (Some (Demo number)) = false
lays_rows (Some Play) = false

-- whether it fills a vault with the records of a disk
abbrev pub fills_vault : Option Task → Bool
fills_vault None = false
fills_vault (Some Usage) = false
fills_vault (Some (Init host)) = false
fills_vault (Some Inetd) = false
fills_vault (Some (Serve address)) = false
fills_vault (Some (AddActor name locked)) = false
fills_vault (Some (AddPeer host key address relay)) = false
fills_vault (Some Deliver) = false
fills_vault (Some (Export table)) = false
fills_vault (Some Check) = false
fills_vault (Some Migrate) = false
fills_vault (Some Fill) = true
fills_vault (Some (Report name kind)) = false
fills_vault (Some (Demo number)) = false
fills_vault (Some Play) = false

-- whether it asks the disk, if its store is at this place
abbrev pub asks_disk : Place → Option Task → Bool
asks_disk OnDisk task = names_store task
asks_disk InVault task = false

-- whether it asks the vault: its store is a table, or it fills one
abbrev pub asks_vault : Place → Option Task → Bool
asks_vault OnDisk task = fills_vault task
asks_vault InVault task = names_store task

-- the status is one with which it may end, if its store is at this place: `init` may also find no
-- room in a vault (13)
abbrev pub is_status_at : Place → Option Task → ℕ → Bool
is_status_at OnDisk task status = is_status_of task status
is_status_at InVault None status = is_status_of None status
is_status_at InVault (Some (Init host)) status =
    is_status_of (Some (Init host)) status || (status == 13)
is_status_at InVault (Some task) status = is_status_of (Some task) status
