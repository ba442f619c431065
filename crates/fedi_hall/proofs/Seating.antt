-- Passes and benches that are put at stations, starting from the last ones, and returned from them.
use Rattle.std.proofs.Common.{◌≡◌, ℕ, ◌<◌, ◌-◌, Bool, List, All, map, reverse, length, slice_index_or, Option, sym, ap, subst, ◌∙◌, arith}
use Rattle.std.proofs.lemmas.List.{get_or-map, get_or-reverse, length-map, length-reverse, reverse-reverse}
use Rattle.std.proofs.lemmas.List.Elements.{All-map}
use Rattle.fedi_log.specs.Log.{Log}
use Rattle.fedi_log.specs.declared.items.Item.{Item}
use Rattle.fedi_outside.specs.Doors.{Coming}
use Rattle.fedi_outside.specs.declared.doors.Bench.{Bench}
use Rattle.fedi_turn.specs.declared.lock.Pass.{Pass}
use Rattle.fedi_turn.specs.declared.lock.TurnLock.{TurnLock}
use Rattle.fedi_hall.specs.Locks.{IsIdleBy}
use Rattle.fedi_hall.specs.Stations.{IsReady, bench_of, pass_of}
use Rattle.fedi_hall.specs.Works.{IsWaiting}
use Rattle.fedi_hall.specs.declared.stations.Station.{Station}

-- ---- reversed lists

all_turned : {X : Type 0} (P : X → Type 0) (xs : List X) → All P xs → All P (reverse xs)
all_turned P xs all = λ k d below.
    let within : k < length xs = subst (λ (n : ℕ). k < n) (length-reverse xs) below in
    subst P (sym (get_or-reverse xs k d within)) (all (length xs - 1 - k) d (omega (arith, within)))

module _ {X Y : Type 0} (f : X → Y) (ys : List Y) (xs : List X) (is : ys ≡ reverse (map f xs)) where
  pub length_turned : length ys ≡ length xs
  length_turned = ap length is ∙ length-reverse (map f xs) ∙ length-map xs f

  pub at_turned : (k : ℕ) (d : Y) (e : X) → k < length xs → slice_index_or ys k d ≡ f (slice_index_or xs (length xs - 1 - k) e)
  at_turned k d e below =
      ap (λ (l : List Y). slice_index_or l k d) is
      ∙ get_or-reverse (map f xs) k d (subst (λ (n : ℕ). k < n) (sym (length-map xs f)) below)
      ∙ ap (λ (n : ℕ). slice_index_or (map f xs) (n - 1 - k) d) (length-map xs f)
      ∙ get_or-map f xs (length xs - 1 - k) e d (omega (arith, below))

  pub all_there : (P : Y → Type 0) → All (λ (x : X). P (f x)) xs → All P ys
  all_there P all = subst (λ (l : List Y). All P l) (sym is) (all_turned P (map f xs) (All-map P f xs all))

  pub all_back : (P : Y → Type 0) → All P ys → All (λ (x : X). P (f x)) xs
  all_back P all = λ k e below.
      let turned : All P (map f xs) = subst (λ (l : List Y). All P l) (ap reverse is ∙ reverse-reverse (map f xs)) (all_turned P ys all) in
      subst P (get_or-map f xs k e (f e) below) (turned k (f e) (subst (λ (n : ℕ). k < n) (sym (length-map xs f)) below))

-- the same, given the list that was reversed
pub turned_from : {X Y : Type 0} (f : X → Y) (ys : List Y) (xs : List X) → map f xs ≡ reverse ys → ys ≡ reverse (map f xs)
turned_from f ys xs is = sym (reverse-reverse ys) ∙ ap reverse (sym is)

-- ---- stations

module _ {V W K : Type 0} (log : V → Log) (out : W → Option Coming) (idle : W → Bool) (lock : TurnLock V Item) where
  -- each pass is idle and each door is ready, so a worker may begin at each station
  pub seated : (passes : List (Pass Item)) (benches : List (Bench W K)) (all : List (Station W K)) → map pass_of all ≡ reverse passes → map bench_of all ≡ reverse benches
      → All (IsIdleBy log lock) passes → All (λ (b : Bench W K). IsWaiting out idle b.door) benches → All (IsReady log out idle lock) all
  seated passes benches all p b are_idle wait = λ k s below. (
    all_back pass_of passes all (turned_from pass_of passes all p) (IsIdleBy log lock) are_idle k s below,
    all_back bench_of benches all (turned_from bench_of benches all b) (λ (x : Bench W K). IsWaiting out idle x.door) wait k s below,
  )

  -- and the passes are still idle when they are returned
  pub idle_after : (passes : List (Pass Item)) (all : List (Station W K)) → passes ≡ reverse (map pass_of all) → All (IsReady log out idle lock) all → All (IsIdleBy log lock) passes
  idle_after passes all is ready = all_there pass_of passes all is (IsIdleBy log lock) (λ k s below. (ready k s below).0)

  pub waiting_after : (benches : List (Bench W K)) (all : List (Station W K)) → benches ≡ reverse (map bench_of all) → All (IsReady log out idle lock) all
      → All (λ (b : Bench W K). IsWaiting out idle b.door) benches
  waiting_after benches all is ready = all_there bench_of benches all is (λ (b : Bench W K). IsWaiting out idle b.door) (λ k s below. (ready k s below).1)
