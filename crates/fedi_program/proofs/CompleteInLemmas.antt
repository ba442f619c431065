-- If no call fails, and what the task asks for is possible, nothing keeps a run over a vault from being done.
use Rattle.std.proofs.Common.{◌≡◌, ℕ, List, [], ◌∷◌, length, Option, Some, None, IfSome, arith, inl, inr, refl, sym, ap, subst, ◌∙◌}
use Rattle.std.proofs.lemmas.List.{length-map, take_all}
use Rattle.fedi_address.specs.Hosts.{IsHost}
use Rattle.fedi_entry.specs.Codes.{code_of}
use Rattle.fedi_log.specs.Keeping.{State}
use Rattle.fedi_log.specs.Log.{Log}
use Rattle.fedi_logged.specs.Endings.{Output}
use Rattle.fedi_logged.specs.Turning.{setting_by}
use Rattle.fedi_objects.specs.declared.entry.Entry.{Entry}
use Rattle.fedi_objects.specs.declared.entry.Entry.TheVariants.{Hosted}
use Rattle.fedi_opening.proofs.Answers.{read_once, read_or_damaged}
use Rattle.fedi_opening.specs.Opening.{IsRead}
use Rattle.fedi_outside.specs.Keepers.{HasRoom, KeeperState}
use Rattle.fedi_outside.specs.declared.keepers.Keeper.{Ghosts as KeeperGhosts}
use Rattle.fedi_outside.specs.declared.doors.Bench.{Bench}
use Rattle.fedi_outside.specs.declared.links.Link.{Ghosts as LinkGhosts}
use Rattle.fedi_queue.specs.Due.{due_in}
use Rattle.fedi_outside.specs.Vaults.{IsHanded, VaultState}
use Rattle.fedi_startup.specs.Stores.{IsSound, records_of}
use Rattle.fedi_startup.specs.Vaults.{HasBadRecordAt, IsNew, IsOpenedIn, IsRefusedIn, IsServedIn}
use Rattle.fedi_startup.specs.declared.faults.MakeFault.TheVariants as makes
use Rattle.fedi_startup.specs.declared.faults.StoreFault.{StoreFault}
use Rattle.fedi_startup.specs.declared.faults.StoreFault.TheVariants as faults
use Rattle.fedi_town.specs.Histories.{town}
use Rattle.fedi_town.specs.Legal.{broken_command}
use Rattle.fedi_logged.specs.Conversations.{IsNow}
use Rattle.fedi_program.specs.Commands.{Task, Usage, Init, Inetd, Serve, AddActor, AddPeer, Deliver, Export, Check, Migrate, Fill, Report, Demo, Play}
use Rattle.fedi_program.specs.Complete.{CanBeKeptIn, HasRoomForEach, HasStoreIn, IsCalm, IsCompleteIn, IsDone, Outside}
use Rattle.fedi_program.specs.Members.{member_entry}
use Rattle.fedi_program.specs.Peers.{peer_entry}
use Rattle.fedi_program.specs.Seen.{tells}
use Rattle.fedi_program.specs.Stores.{PrintsTable, ReportsStore, status_by}
use Rattle.fedi_program.specs.Vaults.{DoesIn, IsShown, MakesIn}
use Rattle.fedi_program.specs.Working.{PrintsLine, Sight, TriesBy, faults_in, scene_in}
use Rattle.fedi_program.proofs.CompleteLemmas.{broke, due_done, member_done, no_room, peer_done, printed, rises, session_done}

-- a store's history is read from its records
pub is_read : (history : List Entry) → IsSound history → IsRead (Some (records_of history)) (length (records_of history)) history
is_read history sound = record {
  legal = sound.legal;
  formed = sound.formed;
  counted = sym (length-map history code_of);
  spelled = sym (take_all (length (records_of history)) (records_of history) (omega arith));
}

-- of records that are known
of_kept : (kept : Option (List (List ℕ))) (P : List (List ℕ) → Type 0) → IfSome kept P → (rs : List (List ℕ)) → kept ≡ Some rs → P rs
of_kept None P all rs is = absurd (cc is)
of_kept (Some some) P all rs is = let same : some ≡ rs = cc is in subst P same all

-- what was opened is this store
pub found_in : (vault : VaultState) (history : List Entry) (s : State) → HasStoreIn vault history → IsOpenedIn vault s → s.history ≡ history
found_in vault history s has opens =
    let same : records_of history ≡ records_of s.history = of_kept vault.kept _ opens.stored (records_of history) has.kept in
    read_once (records_of s.history) s.history history (is_read s.history opens.sound)
    (subst (λ (rs : List (List ℕ)). IsRead (Some rs) (length rs) history) same (is_read history has.sound))

-- the keeper of the machine is one of the records of the vault
is_handed : (vault : VaultState) (s : State) → IsOpenedIn vault s → IsHanded vault.kept vault.faults s.keeper
is_handed vault s opens = record { records = opens.records; settled = opens.doubt; faults = opens.faults }

-- it counted no fault if the vault counts none
calm_in : (growth room : ℕ → ℕ) (before after : VaultState) (opened closed : State) (log : Log) → IsServedIn growth room before after opened closed log
    → IsCalm before.faults after.faults → IsCalm opened.keeper.faults closed.keeper.faults
calm_in growth room before after opened closed log served calm rose =
    let first = served.opens.faults in
    let last = served.faults in
    calm (omega (arith, rose, first, last))

empty : (history : List Entry) → records_of history ≡ [] → history ≡ []
empty [] is = refl
empty (e ∷ history) is = absurd (cc is)

-- a store exists and was not opened: memory ran out
pub not_opened : (fault : StoreFault) (before after : VaultState) (history : List Entry) → HasStoreIn before history → IsCalm before.faults after.faults → IsRefusedIn fault before after
    → fault ≡ faults.Memory
not_opened faults.NotAStore before after history has calm refused =
    absurd (has.some (empty history (of_kept before.kept _ refused.why (records_of history) has.kept)))
not_opened faults.OldFormat before after history has calm refused = absurd refused.why
not_opened (faults.DamagedByte place) before after history has calm refused = absurd refused.why
not_opened (faults.DamagedRecord place) before after history has calm refused =
    let bad : HasBadRecordAt place (records_of history) = of_kept before.kept _ refused.why (records_of history) has.kept in
    absurd (read_or_damaged (records_of history) place history bad.0 (is_read history has.sound) bad.1)
not_opened faults.Failed before after history has calm refused = absurd (calm (rises before.faults after.faults refused.faults))
not_opened faults.Memory before after history has calm refused = refl

-- and this is its status
by_status : (task : Task) (fault : StoreFault) (before after : VaultState) (history : List Entry) (status : ℕ) → HasStoreIn before history → IsCalm before.faults after.faults
    → IsRefusedIn fault before after → status ≡ status_by fault → IsDone task status
by_status task fault before after history status has calm refused is = inr (inl (is ∙ ap status_by (not_opened fault before after history has calm refused)))

pub by_told : (task : Task) (fault : StoreFault) (before after : VaultState) (history : List Entry) (first now : Output) (status : ℕ) → HasStoreIn before history
    → IsCalm before.faults after.faults → IsRefusedIn fault before after → ReportsStore fault first now status → IsDone task status
by_told task fault before after history first now status has calm refused told =
    inr (inl ((subst (λ (f : StoreFault). ReportsStore f first now status) (not_opened fault before after history has calm refused) told).0))

module _ {P : Type 0} (keepers : KeeperGhosts P) where
  -- what every keeper of the records of the vault has, the one of the machine has too
  of_handed : (Has : KeeperState → Type 0) (vault : VaultState) (opened : State) → IsOpenedIn vault opened → IsShown keepers opened.keeper
      → ((keeper : P) → IsHanded vault.kept vault.faults (keepers.shown keeper) → Has (keepers.shown keeper)) → Has opened.keeper
  of_handed Has vault opened opens (keeper, same) all =
      subst Has (sym same) (all keeper (subst (λ (k : KeeperState). IsHanded vault.kept vault.faults k) same (is_handed vault opened opens)))

  -- what may be kept after the history of the vault may be kept after that of the opening
  can_keep : (vault : VaultState) (history : List Entry) (opened : State) (e : Entry) → HasStoreIn vault history → IsOpenedIn vault opened → IsShown keepers opened.keeper
      → CanBeKeptIn keepers vault history e → (broken_command (town opened.history) e ≡ None) × HasRoom keepers.room opened.keeper.end (length (code_of e))
  can_keep vault history opened e has opens shown (unbroken, fits) = (
    subst (λ (h : List Entry). broken_command (town h) e ≡ None) (sym (found_in vault history opened has opens)) unbroken,
    of_handed (λ (k : KeeperState). HasRoom keepers.room k.end (length (code_of e))) vault opened opens shown fits,
  )

  -- and there is room for what is due
  fits_each : (vault : VaultState) (history : List Entry) (opened : State) (moment : ℕ) → HasStoreIn vault history → IsOpenedIn vault opened → IsShown keepers opened.keeper
      → ((keeper : P) → IsHanded vault.kept vault.faults (keepers.shown keeper)
      → HasRoomForEach keepers.growth keepers.room moment (keepers.shown keeper).end (due_in (town history) moment))
      → HasRoomForEach keepers.growth keepers.room moment opened.keeper.end (due_in (town opened.history) moment)
  fits_each vault history opened moment has opens shown fits =
      subst (λ (h : List Entry). HasRoomForEach keepers.growth keepers.room moment opened.keeper.end (due_in (town h) moment)) (sym (found_in vault history opened has opens))
      (of_handed (λ (k : KeeperState). HasRoomForEach keepers.growth keepers.room moment k.end (due_in (town history) moment)) vault opened opens shown fits)

table_done : (task : Task) (first now : Output) (text : List ℕ) (status : ℕ) → IsCalm first.faults now.faults → PrintsTable first now text status → IsDone task status
table_done task first now text status calm (inl done) = inl done.0
table_done task first now text status calm (inr (inl broken)) = absurd (calm (broke first now [] text broken.1))
table_done task first now text status calm (inr (inr memory)) = inr (inl memory.0)

line_done : (task : Task) (first now : Output) (text : List ℕ) (status : ℕ) → IsCalm first.faults now.faults → PrintsLine first now text status → IsDone task status
line_done task first now text status calm (inl prints) = printed task first now text status calm prints
line_done task first now text status calm (inr memory) = inr (inl memory.0)

made_done : {P : Type 0} (keepers : KeeperGhosts P) (told : Option ℕ) (before after : VaultState) (first now : Output) (host : List ℕ) (status : ℕ) → MakesIn keepers told before after first now host status
    → IsCalm before.faults after.faults → IsCalm first.faults now.faults → IsHost host → before.kept ≡ Some []
    → ((keeper : P) (moment : ℕ) → IsNew keepers before keeper → IsNow told moment → HasRoom keepers.room (keepers.shown keeper).end (length (code_of (Hosted host moment))))
    → IsDone (Init host) status
made_done keepers told before after first now host status (inl memory) calm writes host_is free fits = inr (inl memory.0)
made_done keepers told before after first now host status (inr (inl bad)) calm writes host_is free fits = absurd (bad.0 host_is)
made_done keepers told before after first now host status (inr (inr (_, moment, _, inl made))) calm writes host_is free fits = printed (Init host) first now _ status writes made.1
made_done keepers told before after first now host status (inr (inr (_, moment, _, inr (makes.Exists, unmade, _)))) calm writes host_is free fits =
    absurd (of_kept before.kept _ unmade.why [] free refl)
made_done keepers told before after first now host status (inr (inr (_, moment, at, inr (makes.Full, unmade, _)))) calm writes host_is free fits =
    let why = unmade.why in absurd (no_room keepers.room (keepers.shown why.0).end (length (code_of (Hosted host moment))) (fits why.0 moment why.1 at) why.2)
made_done keepers told before after first now host status (inr (inr (_, moment, _, inr (makes.Failed, unmade, _)))) calm writes host_is free fits =
    absurd (calm (rises before.faults after.faults unmade.faults))
made_done keepers told before after first now host status (inr (inr (_, moment, _, inr (makes.Memory, _, tells)))) calm writes host_is free fits = inr (inl tells.0)

module _ {W K P : Type 0} (links : LinkGhosts K) (keepers : KeeperGhosts P) where
  due_by_done : (told : Option ℕ) (opened closed : State) (benches later : List (Bench W K)) (first now : Output) (status : ℕ)
      → TriesBy links keepers.growth keepers.room told opened closed benches later first now status → IsCalm opened.keeper.faults closed.keeper.faults → IsCalm first.faults now.faults
      → ((moment : ℕ) → IsNow told moment → HasRoomForEach keepers.growth keepers.room moment opened.keeper.end (due_in (town opened.history) moment)) → IsDone Deliver status
  due_by_done told opened closed [] later first now status tries calm writes fits = absurd tries
  due_by_done told opened closed (b ∷ benches) later first now status (link, _, tries) calm writes fits =
      due_done keepers.growth keepers.room told opened closed (tells links b.link) (tells links link) first now status tries calm writes fits

  -- each task that may have its store in a vault
  pub in_complete : (task : Task) (vault later : VaultState) (before now : Outside) (a b : Sight W K) (s : ℕ) → before.chance ≡ a.chance → now.chance ≡ b.chance
      → before.stream ≡ faults_in a → now.stream ≡ faults_in b → DoesIn links keepers task vault later a b s → IsCompleteIn keepers task a.time vault later before now s
  in_complete Usage vault later before now a b s was is counted counts does = absurd does
  in_complete (Init host) vault later before now a b s was is counted counts does =
      λ calm all possible. made_done keepers a.time vault later a.output b.output host s does calm (rw (counted, counts) at all.writes) possible.0 possible.1 possible.2
  in_complete Inetd vault later before now a b s was is counted counts (inl (fault, refused, _, reports)) =
      λ calm all possible. by_status Inetd fault vault later possible.0 s possible.1 calm refused reports.0
  in_complete Inetd vault later before now a b s was is counted counts (inr (opened, closed, log, ran, works)) =
      λ calm all possible. session_done (setting_by keepers.growth keepers.room a.time None opened) opened log (scene_in a) (scene_in b) (faults_in a) (faults_in b) s works.0 works.1
      (rw (counted, counts) at all.reads) (rw (counted, counts) at all.writes)
  in_complete (Serve address) vault later before now a b s was is counted counts does = absurd does
  in_complete (AddActor name locked) vault later before now a b s was is counted counts (inl (fault, refused, _, reports)) =
      λ calm all possible. by_told (AddActor name locked) fault vault later possible.0 a.output b.output s possible.1 calm refused reports
  in_complete (AddActor name locked) vault later before now a b s was is counted counts (inr (opened, closed, log, ran, works)) =
      λ calm all possible. member_done keepers.growth keepers.room a.time a.chance b.chance opened closed a.output b.output name locked s works
      (calm_in keepers.growth keepers.room vault later opened closed log ran.0 calm) (rw (was, is) at all.draws) (rw (counted, counts) at all.writes) possible.2
      (λ key moment drawn at. can_keep keepers vault possible.0 opened (member_entry name key locked moment) possible.1 ran.0.opens ran.2 (possible.3 key moment (rw (was, is) drawn) at))
  in_complete (AddPeer host key address relay) vault later before now a b s was is counted counts (inl (fault, refused, _, reports)) =
      λ calm all possible. by_told (AddPeer host key address relay) fault vault later possible.0 a.output b.output s possible.1 calm refused reports
  in_complete (AddPeer host key address relay) vault later before now a b s was is counted counts (inr (opened, closed, log, ran, works)) =
      λ calm all possible. peer_done keepers.growth keepers.room a.time opened closed a.output b.output host key address relay s works
      (calm_in keepers.growth keepers.room vault later opened closed log ran.0 calm) (rw (counted, counts) at all.writes) possible.2 possible.3 possible.4
      (λ moment at. can_keep keepers vault possible.0 opened (peer_entry host possible.3 address relay moment) possible.1 ran.0.opens ran.2 (possible.5 moment at))
  in_complete Deliver vault later before now a b s was is counted counts (inl (fault, refused, _, reports)) =
      λ calm all possible. by_told Deliver fault vault later possible.0 a.output b.output s possible.1 calm refused reports
  in_complete Deliver vault later before now a b s was is counted counts (inr (opened, closed, log, ran, works)) =
      λ calm all possible. due_by_done a.time opened closed a.benches b.benches a.output b.output s works
      (calm_in keepers.growth keepers.room vault later opened closed log ran.0 calm) (rw (counted, counts) at all.writes)
      (λ moment at. fits_each keepers vault possible.0 opened moment possible.1 ran.0.opens ran.2 (λ keeper handed. possible.2 moment keeper at handed))
  in_complete (Export table) vault later before now a b s was is counted counts (inl (fault, refused, _, reports)) =
      λ calm all possible. by_told (Export table) fault vault later possible.0 a.output b.output s possible.1 calm refused reports
  in_complete (Export table) vault later before now a b s was is counted counts (inr (opened, closed, log, ran, works)) =
      λ calm all possible. table_done (Export table) a.output b.output _ s (rw (counted, counts) at all.writes) works.2
  in_complete Check vault later before now a b s was is counted counts (inl (fault, refused, _, reports)) =
      λ calm all possible. by_told Check fault vault later possible.0 a.output b.output s possible.1 calm refused reports
  in_complete Check vault later before now a b s was is counted counts (inr (opened, closed, log, ran, works)) =
      λ calm all possible. line_done Check a.output b.output _ s (rw (counted, counts) at all.writes) works.2
  in_complete Migrate vault later before now a b s was is counted counts does = absurd does
  in_complete Fill vault later before now a b s was is counted counts does = absurd does
  in_complete (Report name kind) vault later before now a b s was is counted counts does = absurd does
  in_complete (Demo number) vault later before now a b s was is counted counts does = absurd does
  in_complete Play vault later before now a b s was is counted counts does = absurd does
