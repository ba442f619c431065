-- The turn that ends an attempt, given what became of its entry.
use Rattle.std.proofs.Common.{◌≡◌, ℕ, ◌+◌, ◌-◌, List, [], ◌∷◌, ◌++◌, length, Option, Some, None, Result, Ok, Err, OnErr, OnOk, refl, sym, ap, subst, ◌∙◌, append-nil}
use Rattle.std.specs.Prelude.{map}
use Rattle.fedi_core.specs.Delivering.{claims_in, keep_fault}
use Rattle.fedi_core.specs.Keeping.{Keeps, fault_by}
use Rattle.fedi_core.specs.Machines.{KeepsClaims, Machine}
use Rattle.fedi_core.specs.declared.delivering.RecordFault.{RecordFault}
use Rattle.fedi_core.specs.declared.keeping.KeepFault.{KeepFault}
use Rattle.fedi_core.specs.declared.delivering.RecordFault.TheVariants.{KeeperFault, Full, Memory}
use Rattle.fedi_entry.specs.Codes.{code_of}
use Rattle.fedi_log.specs.Claims.{HasClaimed}
use Rattle.fedi_log.specs.Keeping.{Base, Holds, State, base_of, end_of}
use Rattle.fedi_log.specs.Log as logs
use Rattle.fedi_log.specs.Log.{Log, made_by}
use Rattle.fedi_log.specs.declared.items.Pair.{Pair}
use Rattle.fedi_log.specs.declared.items.What.TheVariants.{Released}
use Rattle.fedi_objects.specs.declared.entry.Came.{Came}
use Rattle.fedi_objects.specs.declared.entry.Entry.{Entry}
use Rattle.fedi_outside.specs.Keepers.{Crashes}
use Rattle.fedi_outside.specs.declared.keepers.Keeper.{Ghosts}
use Rattle.fedi_queue.specs.declared.rows.Claim.{Claim}
use Rattle.fedi_queue.specs.Claims.{change_first, is_claimed_at, release}
use Rattle.fedi_queue.specs.Rows.{rows_of}
use Rattle.fedi_town.specs.Histories.{town}
use Rattle.fedi_town.specs.Legal.{IsLegal}
use Rattle.fedi_effects.specs.Rosters.{callers_in}
use Rattle.fedi_logged.proofs.Callers.{callers_stay}
use Rattle.fedi_logged.specs.Claiming.{FitsIf, IsClaiming, Records, outcome_of, tried, what_after}
use Rattle.fedi_logged.specs.Logs.{StandsFor}
use Rattle.fedi_logged.specs.Turns.{Standing, Turns, standing_by}
use Rattle.fedi_logged.proofs.Claiming.{claiming_failed, claiming_recorded, claiming_released}
use Rattle.fedi_logged.proofs.Silent.{IsSilent, stands_silent}
use Rattle.fedi_logged.proofs.Standing.{stands_more}
use Rattle.fedi_logged.proofs.Turning.{failed_turn, full_turn, kept_turn, memory_turn}

pub released_silent : (p : Pair) → IsSilent (Released p)
released_silent p = record { entries = refl; marks = refl; doubts = λ ds. refl; may_come = λ h. tt }

-- what holds without an error, whatever the error is called
pub claims_by : {F : Type 0} (T : Type 0) (of : F → KeepFault) (r : Result (Unit {0}) F)
    → OnOk (fault_by of r) T → OnOk r T
claims_by T of (Ok done) t = t
claims_by T of (Err fault) t = tt

-- ---- a machine that keeps the entry of an attempt

module _ {P : Type 0} (k : Ghosts P) (before after : Machine P) (p : Pair) (came : Came) (m : ℕ) where
  abbrev was : Standing
  was = standing_by k.shown k.crashes before

  abbrev now_is : Standing
  now_is = standing_by k.shown k.crashes after

  abbrev e : Entry
  e = tried p came m

  -- its entry was kept, or not, with this result
  abbrev pub KeepsTried : Result (Unit {0}) RecordFault → Type 0
  KeepsTried r = Keeps k before after e (fault_by keep_fault r)

  -- the turn that it was
  pub record_turn : (r : Result (Unit {0}) RecordFault) → KeepsTried r
      → Turns k.growth was now_is (outcome_of e r)
  record_turn (Ok done) y = kept_turn k.growth k.room was now_is e y.kept y.time
  record_turn (Err KeeperFault) y =
      failed_turn k.growth k.room was now_is e y.same (y.next refl) (y.refused, y.time_refused)
  record_turn (Err Full) y =
      full_turn k.growth k.room was now_is e y.same (y.refused, y.time_refused)
  record_turn (Err Memory) y =
      memory_turn k.growth k.room was now_is e y.same (y.refused, y.time_refused)

  -- the same members and peers
  pub record_callers : (r : Result (Unit {0}) RecordFault) → KeepsTried r
      → callers_in (town after.history) ≡ callers_in (town before.history)
  record_callers (Ok done) y = callers_stay before.history after.history e refl y.kept.history
  record_callers (Err f) y = ap (λ (h : List Entry). callers_in (town h)) y.same

  -- the machine still holds its log
  pub record_stands : (opened : State) (first : Crashes) (by : Option ℕ) (log now : Log)
      (r : Result (Unit {0}) RecordFault)
      → StandsFor k.growth k.room opened first was.state was.crashes log → KeepsTried r
      → now ≡ log ++ made_by by (what_after p came m r) ∷ []
      → StandsFor k.growth k.room opened first now_is.state now_is.crashes now
  record_stands opened first by log now (Ok done) s y is =
      stands_more k.growth k.room opened first by was now_is log now (logs.Kept e) s y.legal
      (record_turn (Ok done) y) is
  record_stands opened first by log now (Err KeeperFault) s y is =
      stands_more k.growth k.room opened first by was now_is log now (logs.Failed e) s y.legal
      (record_turn (Err KeeperFault) y) is
  record_stands opened first by log now (Err Full) s y is =
      stands_silent k.growth k.room opened first by (Released p) now_is.state now_is.crashes log now
      (released_silent p) is
      (stands_more k.growth k.room opened first by was now_is log log (logs.Full e) s y.legal
      (record_turn (Err Full) y) (sym (append-nil log)))
  record_stands opened first by log now (Err Memory) s y is =
      stands_silent k.growth k.room opened first by (Released p) now_is.state now_is.crashes log now
      (released_silent p) is
      (stands_more k.growth k.room opened first by was now_is log log logs.NoEntry s y.legal
      (record_turn (Err Memory) y) (sym (append-nil log)))

  -- what became of the rows
  pub record AreRecorded (c : Claim) (r : Result (Unit {0}) RecordFault) : Type 0 where
    pub claims : OnOk r (KeepsClaims (town before.history).acts e before.rows after.rows)
    pub released : OnErr r (after.rows
        ≡ change_first (is_claimed_at c.activity c.recipient) release before.rows)
    pub counted : claims_in before.rows ≡ claims_in after.rows + 1
    pub queue : map release after.rows ≡ rows_of (town after.history)

  -- and its claims are still those of its log
  pub record_claims : (by : Option ℕ) (c : Claim) (log now : Log) (front claimed : ℕ)
      (r : Result (Unit {0}) RecordFault) → IsLegal before.history → KeepsTried r
      → AreRecorded c r → HasClaimed by log p c → now ≡ log ++ made_by by (what_after p came m r) ∷ []
      → IsClaiming (town before.history) before.rows log front claimed
      → IsClaiming (town after.history) after.rows now (front + 1) (claimed - 1)
  record_claims by c log now front claimed (Ok done) legal y a has is held =
      claiming_recorded before.history after.history by p c came m before.rows after.rows log now
      front claimed y.kept.history a.queue has a.claims a.counted is held
  record_claims by c log now front claimed (Err KeeperFault) legal y a has is held =
      claiming_failed before.history after.history by p c came m before.rows after.rows log now
      front claimed legal y.same has a.released a.counted is held
  record_claims by c log now front claimed (Err Full) legal y a has is held =
      claiming_released before.history after.history by p c before.rows after.rows log now
      front claimed legal y.same has a.released a.counted is held
  record_claims by c log now front claimed (Err Memory) legal y a has is held =
      claiming_released before.history after.history by p c before.rows after.rows log now
      front claimed legal y.same has a.released a.counted is held

  -- what its contract says
  pub records : (opened : State) (by : Option ℕ) (log now : Log)
      (r : Result (Unit {0}) RecordFault) → Holds (base_of k.growth k.room opened) was.state log
      → KeepsTried r → now ≡ log ++ made_by by (what_after p came m r) ∷ []
      → Records (base_of k.growth k.room opened) by log now p came m r
  records opened by log now r holds y is = record { fits = fits r y; grown = is }
    where
      b : Base
      b = base_of k.growth k.room opened

      at : (x : Result (Unit {0}) RecordFault)
          → FitsIf k.room was.state.keeper.end (length (code_of e)) x
          → FitsIf k.room (end_of b log) (length (code_of e)) x
      at x fit =
          subst (λ (n : ℕ). FitsIf k.room n (length (code_of e)) x) holds.keeper.end fit

      fits : (x : Result (Unit {0}) RecordFault) → KeepsTried x
          → FitsIf k.room (end_of b log) (length (code_of e)) x
      fits (Ok done) z = at (Ok done) z.kept.fits
      fits (Err KeeperFault) z = at (Err KeeperFault) z.refused.0
      fits (Err Full) z = at (Err Full) z.refused.0
      fits (Err Memory) z = tt
