-- What a run does with the store of a vault.
use Rattle.std.specs.Prelude.{◌≡◌, ◌⊎◌, ℕ, List, [], ◌∷◌, codes, Option, None}
use Rattle.fedi_address.specs.Hosts.{IsHost}
use Rattle.fedi_entry.specs.Codes.{code_of}
use Rattle.fedi_log.specs.Keeping.{GoesAlone, State}
use Rattle.fedi_log.specs.Log.{Log, given}
use Rattle.fedi_logged.specs.Conversations.{IsNow}
use Rattle.fedi_logged.specs.Endings.{Output, Writes}
use Rattle.fedi_objects.specs.declared.entry.Entry.{Entry}
use Rattle.fedi_objects.specs.declared.entry.Entry.TheVariants.{Hosted}
use Rattle.fedi_outside.specs.Keepers.{KeeperState}
use Rattle.fedi_outside.specs.declared.keepers.Keeper.{Ghosts as KeeperGhosts}
use Rattle.fedi_outside.specs.declared.links.Link.{Ghosts as LinkGhosts}
use Rattle.fedi_outside.specs.Vaults.{VaultState}
use Rattle.fedi_startup.specs.Vaults.{IsMadeIn, IsNotMadeIn, IsRefusedIn, IsServedIn}
use Rattle.fedi_startup.specs.declared.faults.MakeFault.{MakeFault}
use Rattle.fedi_startup.specs.declared.faults.StoreFault.{StoreFault}
use Rattle.fedi_program.specs.Commands.{Task, Usage, Init, Inetd, Serve, AddActor, AddPeer, Deliver}
use Rattle.fedi_program.specs.Commands.{Export, Check, Migrate, Fill, Report, Demo, Play}
use Rattle.fedi_program.specs.Endings.{Prints}
use Rattle.fedi_program.specs.Members.{Reports, refusal_line}
use Rattle.fedi_program.specs.Stores.{ReportsMaking, made_line}
use Rattle.fedi_program.specs.Working.{IsUnasked, ReportsUnopened, Sight, Works}

-- it is what a keeper of this kind shows
abbrev pub IsShown : {P : Type 0} → KeeperGhosts P → KeeperState → Type 0
IsShown {P} keepers k = (keeper : P) × (k ≡ keepers.shown keeper)

-- A machine was opened over the vault, with a keeper of this kind, and closed, and nobody else added
-- to its log. It has no part for what a crash leaves of a vault.
abbrev pub IsRunIn : {P : Type 0} → KeeperGhosts P → VaultState → VaultState → State → State → Log
    → Type 0
IsRunIn keepers before after opened closed log =
    IsServedIn keepers.growth keepers.room before after opened closed log
    × GoesAlone None (given opened.history) log × IsShown keepers opened.keeper

-- no machine was opened over the vault, or one was opened and closed
abbrev pub IsKeptIn : {P : Type 0} → KeeperGhosts P → VaultState → VaultState → Type 0
IsKeptIn keepers before after =
    ((fault : StoreFault) × IsRefusedIn fault before after)
    ⊎ ((opened : State) × (closed : State) × (log : Log)
    × IsServedIn keepers.growth keepers.room before after opened closed log)

-- How a run does this over the store of a vault: the store is not opened, this is reported, and
-- nothing is asked but the output; or it is opened, and the run does what it does over every store.
abbrev pub WorksIn : {W K P : Type 0} → LinkGhosts K → KeeperGhosts P → Task → VaultState
    → VaultState → Sight W K → Sight W K → ℕ → Type 0
WorksIn links keepers task before after a b s =
    ((fault : StoreFault) × IsRefusedIn fault before after × IsUnasked a b
    × ReportsUnopened task fault a.output b.output s)
    ⊎ ((opened : State) × (closed : State) × (log : Log)
    × IsRunIn keepers before after opened closed log
    × Works links keepers.growth keepers.room task opened closed log a b s)

-- ---- making a store

-- how the making of a store with this first entry ends
abbrev pub EndsMakingIn : {P : Type 0} → KeeperGhosts P → VaultState → VaultState → Output → Output
    → List ℕ → Entry → ℕ → Type 0
EndsMakingIn keepers before after first now host e status =
    (IsMadeIn (e ∷ []) before after × Prints first now (made_line host) status)
    ⊎ ((fault : MakeFault) × IsNotMadeIn keepers (code_of e) fault before after
    × ReportsMaking fault first now status)

-- How a run makes the vault a store for this host: it ends without asking the vault, because memory
-- ran out (12) or the text is not a valid host (10); or the first entry says the host and the
-- moment.
abbrev pub MakesIn : {P : Type 0} → KeeperGhosts P → Option ℕ → VaultState → VaultState → Output
    → Output → List ℕ → ℕ → Type 0
MakesIn keepers told before after first now host status =
    ((status ≡ 12) × (after ≡ before) × Writes first now [])
    ⊎ (((IsHost host → ⊥) × (after ≡ before)
    × Reports first now 10 (refusal_line (codes "bad host")) status)
    ⊎ (IsHost host × (moment : ℕ) × IsNow told moment
    × EndsMakingIn keepers before after first now host (Hosted host moment) status))

-- ---- each task

-- what each task does that has a store and may have it in a vault, over this vault
abbrev pub DoesIn : {W K P : Type 0} → LinkGhosts K → KeeperGhosts P → Task → VaultState
    → VaultState → Sight W K → Sight W K → ℕ → Type 0
DoesIn links keepers Usage before after a b s = ⊥
DoesIn links keepers (Init host) before after a b s =
    MakesIn keepers a.time before after a.output b.output host s
DoesIn links keepers Inetd before after a b s =
    WorksIn links keepers Inetd before after a b s
DoesIn links keepers (Serve address) before after a b s = ⊥
DoesIn links keepers (AddActor name locked) before after a b s =
    WorksIn links keepers (AddActor name locked) before after a b s
DoesIn links keepers (AddPeer host key address relay) before after a b s =
    WorksIn links keepers (AddPeer host key address relay) before after a b s
DoesIn links keepers Deliver before after a b s =
    WorksIn links keepers Deliver before after a b s
DoesIn links keepers (Export table) before after a b s =
    WorksIn links keepers (Export table) before after a b s
DoesIn links keepers Check before after a b s =
    WorksIn links keepers Check before after a b s
DoesIn links keepers Migrate before after a b s = ⊥
DoesIn links keepers Fill before after a b s = ⊥
DoesIn links keepers (Report name kind) before after a b s = ⊥
DoesIn links keepers (Demo number) before after a b s = ⊥
DoesIn links keepers Play before after a b s = ⊥
