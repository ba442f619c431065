-- A world between two events, when a server or an attempt of it changes.
use Rattle.std.proofs.Common.{◌≡◌, ◌≢◌, ℕ, zero, suc, ◌+◌, ◌≤◌, true, false, List, [], ◌∷◌, ◌++◌, length, Option, Some, None, arith, refl, sym, ap, ◌∙◌, subst, inl, inr, ⊎_elim, append_assoc, append-nil}
use Rattle.std.specs.Prelude.{◌⊎◌, map, slice_get, slice_set, is_some, IsTrue}
use Rattle.fedi_delivery.specs.Deliveries.{lookup_to}
use Rattle.fedi_log.specs.Log.{Log, history_of}
use Rattle.fedi_logged.specs.Logs.{MachineLog}
use Rattle.fedi_objects.specs.declared.entry.Entry.{Entry}
use Rattle.fedi_outside.specs.Keepers.{KeeperState}
use Rattle.fedi_queue.specs.declared.rows.Claim.{Claim}
use Rattle.fedi_town.specs.Collections.{text_of}
use Rattle.fedi_town.specs.Histories.{town}
use Rattle.fedi_worlds.specs.Events.{Event}
use Rattle.fedi_worlds.specs.Steps.{IsFit, Runs, Steps}
use Rattle.fedi_worlds.specs.Worlds.{Attempt, Server, World, ended, keeping, is_open, replaced}
use Rattle.fedi_world.specs.declared.parts.Answer.{Answer}
use Rattle.fedi_world.specs.declared.parts.Packet.{Packet}
use Rattle.fedi_world.specs.declared.parts.Pending.{Pending}
use Rattle.fedi_world.specs.Scenes.{attempt_of, claim_in, ends_of, server_of, stage_of, world_of}
use Rattle.fedi_world.specs.Standing.{IsReached, IsReady, IsSeated, IsTied, IsWhole}
use Rattle.fedi_world.proofs.Spots.{keeping_set, map_at, map_from, map_kept, map_set, replaced_set, set_beside, set_from, set_here}

-- ---- events

runs_more : (es : List Event) (w u v : World) (e : Event) → Runs w es u → Steps u e v → Runs w (es ++ e ∷ []) v
runs_more [] w u v e r s = (v, subst (λ (x : World). Steps x e v) r s, refl)
runs_more (x ∷ es) w u v e r s = (r.0, r.1, runs_more es r.0 u v e r.2 s)

-- an event leads on
pub reached_on : (w v : World) (e : Event) → IsReached w → Steps w e v → IsReached v
reached_on w v e r s = record {
  first = r.first;
  events = r.events ++ e ∷ [];
  start = r.start;
  runs = runs_more r.events r.first w v e r.runs s;
}

-- ---- servers

abbrev pub seen_at : {P : Type 0} → MachineLog P → Server
seen_at m = server_of m.core

-- the server that keeps these entries
pub servers_kept : {P : Type 0} (seats : List (MachineLog P)) (n : ℕ) (m now : MachineLog P) (more : List Entry) → slice_get seats n ≡ Some m
    → now.core.history ≡ m.core.history ++ more → (town now.core.history).host ≡ (town m.core.history).host
    → map seen_at (slice_set seats n now) ≡ keeping n more (map seen_at seats)
servers_kept {P} seats n m now more at grown host =
    map_set (seen_at {P = P}) seats n now
    ∙ ap (λ (s : Server). slice_set (map seen_at seats) n s) same
    ∙ keeping_set (map seen_at seats) n (seen_at m) more (map_at (seen_at {P = P}) seats n m at)
  where
    same : seen_at now ≡ record (seen_at m) { history = m.core.history ++ more }
    same = rw (host, grown) refl

-- a server whose history stays
pub servers_same : {P : Type 0} (seats : List (MachineLog P)) (n : ℕ) (m now : MachineLog P) → slice_get seats n ≡ Some m → now.core.history ≡ m.core.history
    → map seen_at (slice_set seats n now) ≡ map seen_at seats
servers_same {P} seats n m now at same = map_kept (seen_at {P = P}) seats n m now at (ap (λ (h : List Entry). record { host = text_of (town h).host; history = h }) same)

-- where the records end, when no end moves
pub ends_stay : {P : Type 0} (shown : P → KeeperState) (seats : List (MachineLog P)) (n : ℕ) (m now : MachineLog P) → slice_get seats n ≡ Some m → (shown now.core.keeper).end ≡ (shown m.core.keeper).end
    → ends_of shown (slice_set seats n now) ≡ ends_of shown seats
ends_stay {P} shown seats n m now at same = map_kept (λ (x : MachineLog P). (shown x.core.keeper).end) seats n m now at same

-- every seat, when one changes
pub seated_set : {P : Type 0} (seats : List (MachineLog P)) (n : ℕ) (now : MachineLog P) → IsSeated now
    → ((j : ℕ) (m : MachineLog P) → slice_get seats j ≡ Some m → IsSeated m)
    → (j : ℕ) (m : MachineLog P) → slice_get (slice_set seats n now) j ≡ Some m → IsSeated m
seated_set {P} seats n now own others j m at =
    ⊎_elim (λ (new : (j ≡ n) × (now ≡ m)). subst (λ (x : MachineLog P). IsSeated x) new.1 own)
    (λ (old : (j ≢ n) × (slice_get seats j ≡ Some m)). others j m old.1)
    (set_from seats n now j m at)

-- every server of the world may have its history
pub fit_servers : {P : Type 0} (seats : List (MachineLog P)) → ((j : ℕ) (m : MachineLog P) → slice_get seats j ≡ Some m → IsSeated m)
    → (j : ℕ) (s : Server) → slice_get (map seen_at seats) j ≡ Some s → IsFit s.history
fit_servers {P} seats seated j s at =
    let was = map_from (seen_at {P = P}) seats j s at in
    subst (λ (r : Server). IsFit r.history) was.2 (seated j was.0 was.1).fit

-- ---- attempts

-- what is claimed at every seat, when one changes
pub tied_set : {P : Type 0} (seats : List (MachineLog P)) (n : ℕ) (now : MachineLog P) (attempts later : List Attempt) (claims after : List Claim)
    → IsTied later after n now.log
    → ((j : ℕ) (log : Log) → j ≢ n → IsTied attempts claims j log → IsTied later after j log)
    → ((j : ℕ) (m : MachineLog P) → slice_get seats j ≡ Some m → IsTied attempts claims j m.log)
    → (j : ℕ) (m : MachineLog P) → slice_get (slice_set seats n now) j ≡ Some m → IsTied later after j m.log
tied_set {P} seats n now attempts later claims after own beside tied j m at =
    ⊎_elim
    (λ (new : (j ≡ n) × (now ≡ m)). subst (λ (i : ℕ). IsTied later after i m.log) (sym new.0) (subst (λ (x : MachineLog P). IsTied later after n x.log) new.1 own))
    (λ (old : (j ≢ n) × (slice_get seats j ≡ Some m)). beside j m.log old.0 (tied j m old.1))
    (set_from seats n now j m at)

-- where an item is, when another one or itself changes
set_where : {A : Type 0} (xs : List A) (n : ℕ) (y : A) (j : ℕ) (z : A) → slice_get xs j ≡ Some z
    → ((j ≡ n) × (slice_get (slice_set xs n y) j ≡ Some y)) ⊎ ((j ≢ n) × (slice_get (slice_set xs n y) j ≡ Some z))
set_where [] n y j z e = absurd cc
set_where (x ∷ xs) zero y zero z e = inl (refl, refl)
set_where (x ∷ xs) zero y (suc j) z e = inr ((λ same. cc), e)
set_where (x ∷ xs) (suc n) y zero z e = inr ((λ same. cc), e)
set_where (x ∷ xs) (suc n) y (suc j) z e =
    ⊎_elim (λ (l : (j ≡ n) × (slice_get (slice_set xs n y) j ≡ Some y)). inl (ap suc l.0, l.1))
    (λ (r : (j ≢ n) × (slice_get (slice_set xs n y) j ≡ Some z)). inr ((λ same. r.0 (fewer same)), r.1))
    (set_where xs n y j z e)
  where
    fewer : {a b : ℕ} → suc a ≡ suc b → a ≡ b
    fewer {a} {b} h = omega (arith, h)

-- An attempt can go on while the log of its server grows.
pub ready_set : {P : Type 0} (before after : ℕ) (seats : List (MachineLog P)) (n : ℕ) (m now : MachineLog P) (rest : Log) (a : Pending) → before ≤ after → slice_get seats n ≡ Some m
    → now.log ≡ m.log ++ rest → IsReady before seats a → IsReady after (slice_set seats n now) a
ready_set {P} before after seats n m now rest a passed at grown r =
    ⊎_elim
    (λ (own : (a.server ≡ n) × (slice_get (slice_set seats n now) a.server ≡ Some now)).
    let one : r.seat ≡ m = one_of (sym r.there ∙ ap (λ (j : ℕ). slice_get seats j) own.0 ∙ at) in
    record {
      seat = now;
      there = own.1;
      earlier = let e = r.earlier in omega (arith, e, passed);
      seen = r.seen;
      more = r.more ++ rest;
      is = grown ∙ (ap (λ (x : MachineLog P). x.log ++ rest) (sym one) ∙ (ap (λ (l : Log). l ++ rest) r.is ∙ append_assoc r.seen r.more rest));
      since = r.since;
      known = r.known;
      place = r.place;
      act = r.act;
      kept = r.kept;
      named = r.named;
      body = r.body;
    })
    (λ (other : (a.server ≢ n) × (slice_get (slice_set seats n now) a.server ≡ Some r.seat)). record {
      seat = r.seat;
      there = other.1;
      earlier = let e = r.earlier in omega (arith, e, passed);
      seen = r.seen;
      more = r.more;
      is = r.is;
      since = r.since;
      known = r.known;
      place = r.place;
      act = r.act;
      kept = r.kept;
      named = r.named;
      body = r.body;
    })
    (set_where seats n now a.server r.seat r.there)
  where
    one_of : {A : Type 0} {x y : A} → Some x ≡ Some y → x ≡ y
    one_of e = cc

-- An attempt can go on at a later moment.
pub ready_later : {P : Type 0} (before after : ℕ) (seats : List (MachineLog P)) (a : Pending) → before ≤ after → IsReady before seats a → IsReady after seats a
ready_later before after seats a passed r = record {
  seat = r.seat;
  there = r.there;
  earlier = let e = r.earlier in omega (arith, e, passed);
  seen = r.seen;
  more = r.more;
  is = r.is;
  since = r.since;
  known = r.known;
  place = r.place;
  act = r.act;
  kept = r.kept;
  named = r.named;
  body = r.body;
}

-- the attempts, when one of them is now this one
pub attempts_set : (attempts : List Pending) (k : ℕ) (now : Pending) → map attempt_of (slice_set attempts k now) ≡ replaced k (attempt_of now) (map attempt_of attempts)
attempts_set attempts k now = map_set attempt_of attempts k now ∙ replaced_set (map attempt_of attempts) k (attempt_of now)

pub claims_set : (attempts : List Pending) (k : ℕ) (a now : Pending) → slice_get attempts k ≡ Some a → claim_in now ≡ claim_in a → map claim_in (slice_set attempts k now) ≡ map claim_in attempts
claims_set attempts k a now at same = map_kept claim_in attempts k a now at same
