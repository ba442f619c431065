-- From what each worker did at its station to what is left at the end.
use Rattle.std.proofs.Common.{◌≡◌, ℕ, ◌<◌, ◌-◌, Bool, List, [], ◌∷◌, ◌++◌, All, map, reverse, length, slice_index_or, Option, Some, refl, sym, ap, subst, ◌∙◌, append-nil, arith}
use Rattle.std.specs.Prelude.{Contains}
use Rattle.std.specs.List.{fold}
use Rattle.std.proofs.lemmas.List.Elements.{All-cons, All-nil, Contains-append_right}
use Rattle.fedi_core.specs.Machines.{Machine}
use Rattle.fedi_log.specs.Keeping.{State, state_of}
use Rattle.fedi_log.specs.Log.{Log, given}
use Rattle.fedi_log.specs.declared.items.Item.{Item}
use Rattle.fedi_logged.specs.Logs.{AreSame, StandsFor}
use Rattle.fedi_logged.proofs.Standing.{stands_first}
use Rattle.fedi_delivery.specs.Exchanges.{Told}
use Rattle.fedi_outside.specs.Doors.{Row}
use Rattle.fedi_logged.specs.Conversations.{Setting}
use Rattle.fedi_outside.specs.Keepers.{Crashes, KeeperState, LeavesRecords}
use Rattle.fedi_outside.specs.declared.doors.Bench.{Bench}
use Rattle.fedi_logged.specs.Turning.{setting_by}
use Rattle.fedi_town.specs.Legal.{IsLegal}
use Rattle.fedi_turn.specs.Record.{Continues}
use Rattle.fedi_turn.specs.Turn.{AreNew, ContinuesEach, NamesOneOf, number_of, seen_of, start_of}
use Rattle.fedi_turn.specs.declared.lock.Pass.{Pass}
use Rattle.fedi_turn.specs.declared.lock.TurnLock.{TurnLock}
use Rattle.fedi_hall.specs.Locks.{growth}
use Rattle.fedi_hall.specs.Serving.{EndsServing, NamesWorkers, ServesAll, end_by}
use Rattle.fedi_hall.specs.Stations.{IsLabor, bench_of, end_of, ends_of, pass_of}
use Rattle.fedi_hall.specs.Works.{EndsWork, HasWorked, both}
use Rattle.fedi_hall.specs.declared.stations.Station.{Station}
use Rattle.fedi_hall.specs.declared.workers.WorkerEnd.{WorkerEnd}
use Rattle.fedi_hall.specs.declared.workers.WorkerEnd.TheVariants.{Closed, DoorFault}
use Rattle.fedi_hall.proofs.Seating.{at_turned, length_turned, turned_from}
use Rattle.fedi_hall.proofs.Working.{worked_at_last, worked_first}

-- ---- how all workers ended

stays_failed : (ends : List WorkerEnd) → fold both DoorFault ends ≡ DoorFault
stays_failed [] = refl
stays_failed (e ∷ ends) = stays_failed ends

all_closed : (ends : List WorkerEnd) → ends_of ends ≡ Closed → All (λ (e : WorkerEnd). e ≡ Closed) ends
all_closed [] is = All-nil (λ (e : WorkerEnd). e ≡ Closed)
all_closed (Closed ∷ ends) is = All-cons (λ (e : WorkerEnd). e ≡ Closed) Closed ends refl (all_closed ends is)
all_closed (DoorFault ∷ ends) is = let clash : DoorFault ≡ Closed = sym (stays_failed ends) ∙ is in absurd cc

one_failed : (ends : List WorkerEnd) → ends_of ends ≡ DoorFault → Contains ends DoorFault
one_failed [] is = absurd cc
one_failed (Closed ∷ ends) is = Contains-append_right (Closed ∷ []) ends DoorFault (one_failed ends is)
one_failed (DoorFault ∷ ends) is = (0, omega arith, refl)

-- ---- what the workers did

-- one of them, if there is one
first_of : {X : Type 0} (xs : List X) → 0 < length xs → X
first_of [] below = absurd (omega (arith, below))
first_of (x ∷ xs) below = x

module _ {W K : Type 0} (by room : ℕ → ℕ) (told : Option ℕ) (opened : State) (served : W → Option (List Row)) (tells : K → Told) (closed : W → Bool) (faults : W → ℕ)
    (passes passes' : List (Pass Item)) (benches benches' : List (Bench W K)) (all all' : List (Station W K))
    (seats : map pass_of all ≡ reverse passes) (doors : map bench_of all ≡ reverse benches)
    (seats' : passes' ≡ reverse (map pass_of all')) (doors' : benches' ≡ reverse (map bench_of all')) (same : length all' ≡ length all)
    (each : (k : ℕ) (d : Station W K) → k < length all → IsLabor by room told opened served tells closed faults (slice_index_or all k d) (slice_index_or all' k d)) where
  -- what the worker of a bench did
  abbrev WorkedAt : Setting → Log → Log → Bench W K → Bench W K → Type 0
  WorkedAt w seen now x y = HasWorked w seen now (served x.door) (served y.door) (tells x.link) (tells y.link)

  -- a pass and a bench, as a station
  abbrev station : Pass Item → Bench W K → Station W K
  station p b = record { pass = p; bench = b; end = Closed }

  many_passes : length passes ≡ length all
  many_passes = length_turned pass_of passes all (turned_from pass_of passes all seats)

  many_benches : length benches ≡ length all
  many_benches = length_turned bench_of benches all (turned_from bench_of benches all doors)

  many_after : length passes' ≡ length all
  many_after = length_turned pass_of passes' all' seats' ∙ same

  pub benches_after : length benches' ≡ length benches
  benches_after = length_turned bench_of benches' all' doors' ∙ same ∙ sym many_benches

  -- the index of the station that this pass and this bench are at
  abbrev place : ℕ → ℕ
  place k = length all - 1 - k

  -- what was done there
  labor : (k : ℕ) (p : Pass Item) (b : Bench W K) → k < length all
      → IsLabor by room told opened served tells closed faults (slice_index_or all (place k) (station p b)) (slice_index_or all' (place k) (station p b))
  labor k p b below = each (place k) (station p b) (omega (arith, below))

  pass_at : (k : ℕ) (p : Pass Item) (b : Bench W K) → k < length all → slice_index_or passes k p ≡ (slice_index_or all (place k) (station p b)).pass
  pass_at k p b below = at_turned pass_of passes all (turned_from pass_of passes all seats) k p (station p b) below

  bench_at : (k : ℕ) (p : Pass Item) (b : Bench W K) → k < length all → slice_index_or benches k b ≡ (slice_index_or all (place k) (station p b)).bench
  bench_at k p b below = at_turned bench_of benches all (turned_from bench_of benches all doors) k b (station p b) below

  pass_after : (k : ℕ) (p : Pass Item) (b : Bench W K) → k < length all → slice_index_or passes' k p ≡ (slice_index_or all' (place k) (station p b)).pass
  pass_after k p b below =
      at_turned pass_of passes' all' seats' k p (station p b) (subst (λ (n : ℕ). k < n) (sym same) below)
      ∙ ap (λ (n : ℕ). (slice_index_or all' (n - 1 - k) (station p b)).pass) same

  bench_after : (k : ℕ) (p : Pass Item) (b : Bench W K) → k < length all → slice_index_or benches' k b ≡ (slice_index_or all' (place k) (station p b)).bench
  bench_after k p b below =
      at_turned bench_of benches' all' doors' k b (station p b) (subst (λ (n : ℕ). k < n) (sym same) below)
      ∙ ap (λ (n : ℕ). (slice_index_or all' (n - 1 - k) (station p b)).bench) same

  -- ---- over the log at the end

  module _ {V : Type 0} (list : V → Log) (lock : TurnLock V Item) (log : Log) (new : AreNew (growth list) lock passes) (start : start_of (growth list) lock ≡ given opened.history) where
    number_at : (k : ℕ) (p : Pass Item) → k < length all → number_of (slice_index_or passes k p) ≡ k
    number_at k p below = (new k p (subst (λ (n : ℕ). k < n) (sym many_passes) below)).1

    number_after : (k : ℕ) (p : Pass Item) (b : Bench W K) → k < length all → number_of (slice_index_or passes' k p) ≡ k
    number_after k p b below =
        ap number_of (pass_after k p b below) ∙ (labor k p b below).same ∙ sym (ap number_of (pass_at k p b below)) ∙ number_at k p below

    worked_at : ContinuesEach (growth list) passes' log → (k : ℕ) (p : Pass Item) (b : Bench W K) → k < length all
        → WorkedAt (setting_by by room told (Some k) opened) (given opened.history) log (slice_index_or benches k b) (slice_index_or benches' k b)
    worked_at on k p b below =
        let s : Station W K = slice_index_or all (place k) (station p b) in
        let t : Station W K = slice_index_or all' (place k) (station p b) in
        let number : number_of s.pass ≡ k = sym (ap number_of (pass_at k p b below)) ∙ number_at k p below in
        let seen : seen_of s.pass ≡ given opened.history =
        sym (ap seen_of (pass_at k p b below)) ∙ (new k p (subst (λ (n : ℕ). k < n) (sym many_passes) below)).2 ∙ start in
        let first = subst (λ (n : ℕ). WorkedAt (setting_by by room told (Some n) opened) (seen_of s.pass) (seen_of t.pass) s.bench t.bench) number
        (labor k p b below).worked in
        let second = subst (λ (l : Log). WorkedAt (setting_by by room told (Some k) opened) l (seen_of t.pass) s.bench t.bench) seen first in
        let on_at : Continues (λ (i : Item). i.pass) (number_of (slice_index_or passes' k p)) (seen_of (slice_index_or passes' k p)) log =
        on k p (subst (λ (n : ℕ). k < n) (sym many_after) below) in
        let goes : Continues (λ (i : Item). i.pass) k (seen_of t.pass) log =
        subst (λ (n : ℕ). Continues (λ (i : Item). i.pass) n (seen_of t.pass) log) (number_after k p b below)
        (subst (λ (x : Pass Item). Continues (λ (i : Item). i.pass) (number_of (slice_index_or passes' k p)) (seen_of x) log) (pass_after k p b below) on_at) in
        let last = worked_at_last (setting_by by room told (Some k) opened) k (given opened.history) (seen_of t.pass) log (served s.bench.door) (served t.bench.door)
        (tells s.bench.link) (tells t.bench.link) refl goes second in
        subst (λ (x : Bench W K). WorkedAt (setting_by by room told (Some k) opened) (given opened.history) log x (slice_index_or benches' k b)) (sym (bench_at k p b below))
        (subst (λ (x : Bench W K). WorkedAt (setting_by by room told (Some k) opened) (given opened.history) log s.bench x) (sym (bench_after k p b below)) last)

    -- each item after those of the opening names the worker of a bench
    named : (b : Bench W K) → NamesOneOf (growth list) lock passes' log → NamesWorkers (length benches) (given opened.history) log
    named b names = record {
      past = names.0;
      is = names.1 ∙ ap (λ (l : Log). l ++ names.0) start;
      named = λ k i below.
          let one = names.2 k i below in
          let p : Pass Item = one.0 in
          let at = one.1 in
          let within : at.0 < length all = subst (λ (n : ℕ). at.0 < n) many_after at.1 in (
            at.0,
            subst (λ (n : ℕ). at.0 < n) (sym many_benches) within,
            one.2 ∙ ap Some (sym (ap number_of at.2) ∙ number_after at.0 p b within),
          );
    }

    pub serves_all : (first : Crashes) (now : State) (crashes : Crashes) → 0 < length benches → StandsFor by room opened first now crashes log
        → ContinuesEach (growth list) passes' log → NamesOneOf (growth list) lock passes' log
        → ServesAll by room told opened first now crashes served tells benches benches'
    serves_all first now crashes some stands on names = record {
      log = log;
      stands = stands;
      named = named (first_of benches some) names;
      same = benches_after;
      each = λ k b below.
          worked_at on k (first_of passes (subst (λ (n : ℕ). 0 < n) (many_benches ∙ sym many_passes) some)) b (subst (λ (n : ℕ). k < n) many_benches below);
    }

  -- ---- how the serving ended

  end_at : (ends : List WorkerEnd) → ends ≡ reverse (map end_of all') → (k : ℕ) (p : Pass Item) (b : Bench W K) (e : WorkerEnd) → k < length all
      → slice_index_or ends k e ≡ (slice_index_or all' (place k) (station p b)).end
  end_at ends is k p b e below =
      at_turned end_of ends all' is k e (station p b) (subst (λ (n : ℕ). k < n) (sym same) below)
      ∙ ap (λ (n : ℕ). (slice_index_or all' (n - 1 - k) (station p b)).end) same

  ended_at : (k : ℕ) (p : Pass Item) (b : Bench W K) → k < length all → (e : WorkerEnd) → (slice_index_or all' (place k) (station p b)).end ≡ e
      → EndsWork (closed (slice_index_or benches' k b).door) (faults (slice_index_or benches k b).door) (faults (slice_index_or benches' k b).door) e
  ended_at k p b below e is =
      let s : Station W K = slice_index_or all (place k) (station p b) in
      let t : Station W K = slice_index_or all' (place k) (station p b) in
      subst (λ (x : Bench W K). EndsWork (closed x.door) (faults (slice_index_or benches k b).door) (faults x.door) e) (sym (bench_after k p b below))
      (subst (λ (x : Bench W K). EndsWork (closed t.bench.door) (faults x.door) (faults t.bench.door) e) (sym (bench_at k p b below))
      (subst (λ (x : WorkerEnd). EndsWork (closed t.bench.door) (faults s.bench.door) (faults t.bench.door) x) is (labor k p b below).ends))

  ends_by : (p : Pass Item) (end : WorkerEnd) → end ≡ ends_of (reverse (map end_of all')) → EndsServing closed faults benches benches' (end_by end)
  ends_by p Closed is = λ k b below.
      let within : k < length all = subst (λ (n : ℕ). k < n) (benches_after ∙ many_benches) below in
      let many : length (reverse (map end_of all')) ≡ length all = length_turned end_of (reverse (map end_of all')) all' refl ∙ same in
      let shut = all_closed (reverse (map end_of all')) (sym is) k Closed (subst (λ (n : ℕ). k < n) (sym many) within) in
      (ended_at k p b within Closed (sym (end_at (reverse (map end_of all')) refl k p b Closed within) ∙ shut)).0
  ends_by p DoorFault is =
      let many : length (reverse (map end_of all')) ≡ length all = length_turned end_of (reverse (map end_of all')) all' refl ∙ same in
      let failed = one_failed (reverse (map end_of all')) (sym is) in
      let within : failed.0 < length all = subst (λ (n : ℕ). failed.0 < n) many failed.1 in
      record {
        place = failed.0;
        within = subst (λ (n : ℕ). failed.0 < n) (sym many_benches) within;
        rose = λ b. ended_at failed.0 p b within DoorFault (sym (end_at (reverse (map end_of all')) refl failed.0 p b DoorFault within) ∙ failed.2);
      }

  pub ends_serving : (end : WorkerEnd) → 0 < length benches → end ≡ ends_of (reverse (map end_of all')) → EndsServing closed faults benches benches' (end_by end)
  ends_serving end some is = ends_by (first_of passes (subst (λ (n : ℕ). 0 < n) (many_benches ∙ sym many_passes) some)) end is

-- ---- nothing was served

-- the machine is the one that was opened
pub serves_none : {P W K : Type 0} (by room : ℕ → ℕ) (told : Option ℕ) (opened : State) (first : Crashes) (shown : P → KeeperState) (crashes : P → Crashes)
    (served : W → Option (List Row)) (tells : K → Told) (benches : List (Bench W K)) (core back : Machine P) → opened ≡ state_of core.history (shown core.keeper) → AreSame first (crashes core.keeper)
    → IsLegal core.history → LeavesRecords (shown core.keeper) (crashes core.keeper) → back ≡ core
    → ServesAll by room told opened first (state_of back.history (shown back.keeper)) (crashes back.keeper) served tells benches benches
serves_none {P = P} by room told opened first shown crashes served tells benches core back is same legal leaves then =
    subst (λ (m : Machine P). ServesAll by room told opened first (state_of m.history (shown m.keeper)) (crashes m.keeper) served tells benches benches) (sym then) (record {
      log = given opened.history;
      stands = stands_first by room opened (state_of core.history (shown core.keeper)) first (crashes core.keeper) is same legal leaves;
      named = record { past = []; is = sym (append-nil (given opened.history)); named = All-nil (λ (i : Item). (n : ℕ) × (n < length benches) × (i.pass ≡ Some n)) };
      same = refl;
      each = λ k b below. worked_first (setting_by by room told (Some k) opened) (given opened.history) (served (slice_index_or benches k b).door)
          (tells (slice_index_or benches k b).link);
    })
