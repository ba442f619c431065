-- A world begins.
use Rattle.std.proofs.Common.{⊎_elim, ◌≡◌, ℕ, zero, suc, ◌+◌, ◌≤◌, ◌<◌, true, false, List, [], ◌∷◌, ◌++◌, length, Option, Some, None, arith, refl, sym, ap, ◌∙◌, subst}
use Rattle.std.specs.Prelude.{◌⊎◌, map, slice_get, is_some, IsTrue}
use Rattle.std.specs.List.{list_any}
use Rattle.fedi_core.specs.Machines.{Machine}
use Rattle.fedi_log.specs.Log.{Log, given, history_of}
use Rattle.fedi_log.proofs.Claiming.{given_free}
use Rattle.fedi_log.proofs.Growing.{given_history}
use Rattle.fedi_logged.specs.Logs.{MachineLog}
use Rattle.fedi_objects.specs.declared.entry.Entry.{Entry}
use Rattle.fedi_outside.specs.Keepers.{KeeperState}
use Rattle.fedi_town.specs.Collections.{text_of}
use Rattle.fedi_town.specs.Histories.{town}
use Rattle.fedi_worlds.specs.Promises.{IsNewServer}
use Rattle.fedi_worlds.specs.Steps.{IsFit}
use Rattle.fedi_worlds.specs.Worlds.{Attempt, Server, World}
use Rattle.fedi_worlds.proofs.Places.{old_or_new, some_is}
use Rattle.fedi_world.specs.declared.parts.Pending.{Pending}
use Rattle.fedi_world.specs.Scenes.{Scene, ends_of, scene_of, server_of, world_of}
use Rattle.fedi_world.specs.Standing.{IsSeated, IsTied, IsWhole}
use Rattle.fedi_world.specs.Starting.{AreNew, IsNew}
use Rattle.fedi_world.proofs.Spots.{map_from}
use Rattle.fedi_world.proofs.Whole.{seen_at}

-- a machine as it was opened
abbrev pub opened : {P : Type 0} → Machine P → MachineLog P
opened m = record { core = m; log = given m.history }

-- it may be a server of a new world
pub record IsFresh {P : Type 0} (m : MachineLog P) : Type 0 where
  pub fit : IsFit m.core.history
  pub new : IsNewServer (server_of m.core)

-- the servers so far are these machines, as they were opened
pub record AreOpened {P : Type 0} (seats : List (MachineLog P)) (machines : List (Machine P)) : Type 0 where
  pub are : seats ≡ map (opened {P = P}) machines
  pub fresh : (n : ℕ) (m : MachineLog P) → slice_get seats n ≡ Some m → IsFresh m

pub none_opened : {P : Type 0} (seats : List (MachineLog P)) → seats ≡ [] → AreOpened seats []
none_opened {P} seats none = record {
  are = none;
  fresh = λ n m at. absurd (nothing n m (ap (λ (xs : List (MachineLog P)). slice_get xs n) (sym none) ∙ at));
}
  where
    nothing : (n : ℕ) (m : MachineLog P) → slice_get [] n ≡ Some m → ⊥
    nothing n m at = cc

pub one_opened : {P : Type 0} (seats now : List (MachineLog P)) (machines : List (Machine P)) (m : Machine P) (s : MachineLog P) → AreOpened seats machines → s.core ≡ m → s.log ≡ given m.history
    → IsFit s.core.history → IsNewServer (server_of s.core) → now ≡ seats ++ s ∷ [] → AreOpened now (machines ++ m ∷ [])
one_opened {P} seats now machines m s o core log fit new is = record {
  are = is ∙ (ap (λ (x : MachineLog P). seats ++ x ∷ []) same ∙ (ap (λ (xs : List (MachineLog P)). xs ++ opened m ∷ []) o.are ∙ sym (more machines)));
  fresh = λ n x at. ⊎_elim (λ (old : slice_get seats n ≡ Some x). o.fresh n x old)
      (λ (last : (n ≡ length seats) × (s ≡ x)). subst (λ (y : MachineLog P). IsFresh y) last.1 (record { fit = fit; new = new }))
      (old_or_new seats s x n (ap (λ (xs : List (MachineLog P)). slice_get xs n) (sym is) ∙ at));
}
  where
    same : s ≡ opened m
    same = parts s.core s.log core log
      where
        parts : (c : Machine P) (l : Log) → c ≡ m → l ≡ given m.history → ◌≡◌ {A = MachineLog P} (record { core = c; log = l }) (opened m)
        parts c l a b = rw (a, b) refl

    more : (ms : List (Machine P)) → map (opened {P = P}) (ms ++ m ∷ []) ≡ map (opened {P = P}) ms ++ opened m ∷ []
    more [] = refl
    more (y ∷ ms) = ap (λ (xs : List (MachineLog P)). opened y ∷ xs) (more ms)

pub map_id : {A : Type 0} (xs : List A) → map (λ y. y) xs ≡ xs
map_id [] = refl
map_id (x ∷ xs) = ap (λ ys. x ∷ ys) (map_id xs)

-- ---- the world

tied_fresh : (n : ℕ) (h : List Entry) → IsTied [] [] n (given h)
tied_fresh n h = record {
  held = λ k a there open_yet. absurd (nothing k a there);
  taken = λ p. given_free h p;
}
  where
    nothing : (k : ℕ) (a : Attempt) → slice_get [] k ≡ Some a → ⊥
    nothing k a there = cc

pub whole_started : {P : Type 0} (moment : ℕ) (seats : List (MachineLog P)) (machines : List (Machine P)) → moment < 253402300800 → AreNew machines → AreOpened seats machines
    → IsWhole moment seats [] [] []
whole_started {P} moment seats machines bound new o = record {
  reached = record {
    first = world_of moment seats [] [] [];
    events = [];
    start = record {
      now = omega (arith, bound);
      servers = λ n s at.
          let from = map_from (seen_at {P = P}) seats n s at in
          subst (λ (x : Server). IsNewServer x) from.2 (o.fresh n from.0 from.1).new;
      hosts = λ j k s t at at' same.
          let a = map_from (seen_at {P = P}) seats j s at in
          let b = map_from (seen_at {P = P}) seats k t at' in
          let m = machine j a.0 a.1 in
          let x = machine k b.0 b.1 in
          new.hosts j k a.0.core b.0.core m x (one_host a.0 b.0 (new.each j a.0.core m).hosted (new.each k b.0.core x).hosted
          (ap (λ (r : Server). r.host) a.2 ∙ same ∙ sym (ap (λ (r : Server). r.host) b.2)));
      requests = refl;
      replies = refl;
      attempts = refl;
    };
    runs = refl;
  };
  tied = λ n m at.
      let from = opened_at n m at in
      subst (λ (x : MachineLog P). IsTied [] [] n x.log) from.2 (tied_fresh n from.0.history);
  seated = λ n m at.
      let from = opened_at n m at in
      subst (λ (x : MachineLog P). IsSeated x) from.2 (record {
        logged = sym (given_history from.0.history);
        hosted = (new.each n from.0 from.1).hosted;
        fit = subst (λ (x : MachineLog P). IsFit x.core.history) (sym from.2) (o.fresh n m at).fit;
      });
  ready = λ k a there open_yet. absurd (nothing k a there);
}
  where
    opened_at : (n : ℕ) (m : MachineLog P) → slice_get seats n ≡ Some m → (x : Machine P) × (slice_get machines n ≡ Some x) × (opened x ≡ m)
    opened_at n m at = map_from (opened {P = P}) machines n m (ap (λ (xs : List (MachineLog P)). slice_get xs n) (sym o.are) ∙ at)

    machine : (n : ℕ) (m : MachineLog P) → slice_get seats n ≡ Some m → slice_get machines n ≡ Some m.core
    machine n m at = let from = opened_at n m at in from.1 ∙ ap (λ (x : MachineLog P). Some x.core) from.2

    one_host : (m x : MachineLog P) → IsTrue (is_some (town m.core.history).host) → IsTrue (is_some (town x.core.history).host) → (seen_at m).host ≡ (seen_at x).host
        → (town m.core.history).host ≡ (town x.core.history).host
    one_host m x a b same = by (town m.core.history).host (town x.core.history).host a b same
      where
        by : (g h : Option (List ℕ)) → IsTrue (is_some g) → IsTrue (is_some h) → text_of g ≡ text_of h → g ≡ h
        by None h a b same = absurd (cc a)
        by (Some g) None a b same = absurd (cc b)
        by (Some g) (Some h) a b same = ap (λ (t : List ℕ). Some t) same

    nothing : (k : ℕ) (a : Pending) → slice_get [] k ≡ Some a → ⊥
    nothing k a there = cc

pub started_servers : {P : Type 0} (seats : List (MachineLog P)) (machines : List (Machine P)) → AreOpened seats machines → map (seen_at {P = P}) seats ≡ map (server_of {P = P}) machines
started_servers {P} seats machines o = ap (λ (xs : List (MachineLog P)). map (seen_at {P = P}) xs) o.are ∙ all machines
  where
    all : (ms : List (Machine P)) → map (seen_at {P = P}) (map (opened {P = P}) ms) ≡ map (server_of {P = P}) ms
    all [] = refl
    all (m ∷ ms) = ap (λ (ss : List Server). server_of m ∷ ss) (all ms)

pub started_ends : {P : Type 0} (shown : P → KeeperState) (seats : List (MachineLog P)) (machines : List (Machine P)) → AreOpened seats machines
    → ends_of shown seats ≡ map (λ (m : Machine P). (shown m.keeper).end) machines
started_ends {P} shown seats machines o = ap (λ (xs : List (MachineLog P)). ends_of shown xs) o.are ∙ all machines
  where
    all : (ms : List (Machine P)) → ends_of shown (map (opened {P = P}) ms) ≡ map (λ (m : Machine P). (shown m.keeper).end) ms
    all [] = refl
    all (m ∷ ms) = ap (λ (es : List ℕ). (shown m.keeper).end ∷ es) (all ms)

-- the host of a server that was set up
pub new_server : {P : Type 0} (m : Machine P) (host : List ℕ) → (town m.history).host ≡ Some host → text_of (town m.history).host ≡ host
new_server m host is = ap text_of is
