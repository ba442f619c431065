-- A server of a world stops, and starts again.
use Rattle.std.proofs.Common.{◌≡◌, ◌≢◌, ℕ, zero, suc, ◌+◌, ◌<◌, ◌≤◌, Bool, true, false, List, [], ◌∷◌, ◌++◌, length, Option, Some, None, arith, refl, sym, ap, ◌∙◌, subst, ⊎_elim, eq-eqb, ne_eqb, nat_eq, append-nil, add-one, take, drop}
use Rattle.std.specs.Prelude.{◌⊎◌, ◌&&◌, map, slice_get, slice_set, is_some, IsTrue, if◌then◌else◌}
use Rattle.std.proofs.lemmas.Bool.{and_parts, eqb-true}
use Rattle.fedi_log.specs.Claims.{HasClaimed}
use Rattle.fedi_log.specs.Log.{Log, given, history_of, made_by}
use Rattle.fedi_log.specs.declared.items.What.TheVariants.{Released}
use Rattle.fedi_log.proofs.Growing.{given_history, history_append}
use Rattle.fedi_logged.specs.Claiming.{ChangesClaims}
use Rattle.fedi_logged.specs.Logs.{MachineLog}
use Rattle.fedi_objects.specs.declared.entry.Entry.{Entry}
use Rattle.fedi_outside.specs.Keepers.{KeeperState}
use Rattle.fedi_queue.specs.declared.rows.Claim.{Claim}
use Rattle.fedi_queue.specs.declared.rows.QueueRow.{QueueRow}
use Rattle.fedi_seat.specs.Seats.{IsSeat}
use Rattle.fedi_town.specs.Histories.{town}
use Rattle.fedi_worlds.specs.Events as events
use Rattle.fedi_worlds.specs.Steps.{Crashes, IsFit, Steps}
use Rattle.fedi_worlds.specs.Worlds as worlds
use Rattle.fedi_worlds.specs.Worlds.{Attempt, Reply, Request, Server, World, crashed_at, ended, is_open, is_open_at, replaced, stage_after}
use Rattle.fedi_world.specs.declared.event.Event.TheVariants.{Crash}
use Rattle.fedi_world.specs.declared.event.Happened.TheVariants.{Crashed}
use Rattle.fedi_world.specs.declared.event.WorldFault.TheVariants.{Memory}
use Rattle.fedi_world.specs.declared.parts.Answer.{Answer}
use Rattle.fedi_world.specs.declared.parts.Packet.{Packet}
use Rattle.fedi_world.specs.declared.parts.Pending.{Pending}
use Rattle.fedi_world.specs.declared.parts.Stage.{Stage}
use Rattle.fedi_world.specs.declared.parts.Stage.TheVariants.{Looking, Posting, Over}
use Rattle.fedi_world.specs.Ending.{GivesBack, over, over_at}
use Rattle.fedi_world.specs.Happenings.{Happens, Leaves, Limits}
use Rattle.fedi_world.specs.Scenes.{Scene, attempt_of, claim_in, ends_of, reply_of, request_of, scene_of, stage_of, world_of}
use Rattle.fedi_world.specs.Standing.{IsReady, IsSeated, IsTied, IsWhole, pair_at}
use Rattle.fedi_world.proofs.Causes.{IsThere, among, crash_there}
use Rattle.fedi_world.proofs.Ended.{open_here}
use Rattle.fedi_world.proofs.Spots.{map_at, map_from, map_length, set_beside}
use Rattle.fedi_world.proofs.Taking.{seated_same}
use Rattle.fedi_world.proofs.Ties.{tied_crashed_beside, tied_ended, tied_opened}
use Rattle.fedi_world.proofs.Whole.{attempts_set, claims_set, ends_stay, fit_servers, reached_on, seated_set, seen_at, servers_same, tied_set}

-- ---- attempts that end one after the other

-- the attempts, the first of which have ended if they are this server's
abbrev pub over_first : ℕ → ℕ → List Pending → List Pending
over_first server zero xs = xs
over_first server (suc i) [] = []
over_first server (suc i) (x ∷ xs) = over_at server x ∷ over_first server i xs

pub first_at : (server i : ℕ) (xs : List Pending) → slice_get (over_first server i xs) i ≡ slice_get xs i
first_at server zero xs = refl
first_at server (suc i) [] = refl
first_at server (suc i) (x ∷ xs) = first_at server i xs

pub first_set : (server i : ℕ) (xs : List Pending) (x : Pending) → slice_get xs i ≡ Some x → slice_set (over_first server i xs) i (over_at server x) ≡ over_first server (i + 1) xs
first_set server i xs x at = one server i xs x at ∙ ap (λ (j : ℕ). over_first server j xs) (sym (add-one i))
  where
    some_is : (x y : Pending) → Some x ≡ Some y → x ≡ y
    some_is x y e = cc

    one : (server i : ℕ) (xs : List Pending) (x : Pending) → slice_get xs i ≡ Some x → slice_set (over_first server i xs) i (over_at server x) ≡ over_first server (suc i) xs
    one server zero [] x at = absurd cc
    one server zero (y ∷ xs) x at = ap (λ (z : Pending). over_at server z ∷ xs) (sym (some_is y x at))
    one server (suc i) [] x at = absurd cc
    one server (suc i) (y ∷ xs) x at = ap (λ (zs : List Pending). over_at server y ∷ zs) (one server i xs x at)

-- an attempt that is not changed
pub first_kept : (server i : ℕ) (xs : List Pending) (x : Pending) → slice_get xs i ≡ Some x → over_at server x ≡ x → over_first server i xs ≡ over_first server (i + 1) xs
first_kept server i xs x at same = one server i xs x at same ∙ ap (λ (j : ℕ). over_first server j xs) (sym (add-one i))
  where
    some_is : (x y : Pending) → Some x ≡ Some y → x ≡ y
    some_is x y e = cc

    one : (server i : ℕ) (xs : List Pending) (x : Pending) → slice_get xs i ≡ Some x → over_at server x ≡ x → over_first server i xs ≡ over_first server (suc i) xs
    one server zero [] x at same = absurd cc
    one server zero (y ∷ xs) x at same = ap (λ (z : Pending). z ∷ xs) (subst (λ (z : Pending). z ≡ over_at server z) (sym (some_is y x at)) (sym same))
    one server (suc i) [] x at same = absurd cc
    one server (suc i) (y ∷ xs) x at same = ap (λ (zs : List Pending). over_at server y ∷ zs) (one server i xs x at same)

pub first_all : (server : ℕ) (xs : List Pending) → over_first server (length xs) xs ≡ map (over_at server) xs
first_all server [] = refl
first_all server (x ∷ xs) = ap (λ (ys : List Pending). over_at server x ∷ ys) (first_all server xs)

pub over_yes : (server : ℕ) (x : Pending) → x.server ≡ server → is_open (stage_of x.stage) ≡ true → over_at server x ≡ over x
unfolding over_at
over_yes server x own open_yet = rw (eq-eqb x.server server own, open_yet) refl

pub over_no : (server : ℕ) (x : Pending) → x.server ≢ server → over_at server x ≡ x
unfolding over_at
over_no server x other = rw (ne_eqb x.server server other) refl

pub over_shut : (server : ℕ) (x : Pending) → is_open (stage_of x.stage) ≡ false → over_at server x ≡ x
unfolding over_at
over_shut server x shut = rw shut (elim (nat_eq x.server server) as (λ b. (if b && false then over x else x) ≡ x) [ true ↦ refl | false ↦ refl ])

-- one of them ends, and its claim is given back
pub tied_over : (attempts : List Pending) (server k : ℕ) (log now : Log) (a : Pending) (h : List Entry) (rows : List QueueRow) → slice_get attempts k ≡ Some a → a.server ≡ server
    → is_open (stage_of a.stage) ≡ true → IsSeat h rows log → now ≡ log ++ made_by (Some k) (Released (pair_at (attempt_of a))) ∷ []
    → IsTied (map attempt_of attempts) (map claim_in attempts) server log
    → IsTied (map attempt_of (slice_set attempts k (over a))) (map claim_in (slice_set attempts k (over a))) server now
tied_over attempts server k log now a h rows there own open_yet stand is t =
    let xs = map attempt_of attempts in
    let cs = map claim_in attempts in
    let open_at = ap (λ (n : ℕ). is_open_at n (attempt_of a)) (sym own) ∙ open_here a open_yet in
    rw (attempts_set attempts k (over a), claims_set attempts k a (over a) there refl, is)
    (tied_ended xs cs server k log (attempt_of a) (town h).acts rows (Released (pair_at (attempt_of a))) (map_at attempt_of attempts k a there) open_at (λ q held. refl) stand.stand t)

-- its claim
pub claim_held : (attempts : List Pending) (server k : ℕ) (log : Log) (a : Pending) → slice_get attempts k ≡ Some a → a.server ≡ server → is_open (stage_of a.stage) ≡ true
    → IsTied (map attempt_of attempts) (map claim_in attempts) server log → HasClaimed (Some k) log (pair_at (attempt_of a)) (claim_in a)
claim_held attempts server k log a there own open_yet t =
    let open_at = ap (λ (n : ℕ). is_open_at n (attempt_of a)) (sym own) ∙ open_here a open_yet in
    let held = t.held k (attempt_of a) (map_at attempt_of attempts k a there) open_at in
    let same : held.0 ≡ claim_in a = the_same held.0 (claim_in a) (sym held.1 ∙ map_at claim_in attempts k a there) in
    subst (λ (c : Claim). HasClaimed (Some k) log (pair_at (attempt_of a)) c) same held.2
  where
    the_same : (x y : Claim) → Some x ≡ Some y → x ≡ y
    the_same x y e = cc

-- the history of a log stays
pub released_history : (log now : Log) (k : ℕ) (a : Pending) → now ≡ log ++ made_by (Some k) (Released (pair_at (attempt_of a))) ∷ [] → history_of now ≡ history_of log
released_history log now k a is = ap history_of is ∙ history_append log (made_by (Some k) (Released (pair_at (attempt_of a))) ∷ []) ∙ append-nil (history_of log)

-- what was given back so far
pub gives_none : {P : Type 0} (m : MachineLog P) → GivesBack m m
gives_none m = record { changes = record { history = refl; keeper = refl }; history = refl }

pub gives_more : {P : Type 0} (m mid now : MachineLog P) → GivesBack m mid → ChangesClaims mid.core now.core → history_of now.log ≡ history_of mid.log → GivesBack m now
gives_more m mid now g changes history = record {
  changes = record { history = changes.history ∙ g.changes.history; keeper = changes.keeper ∙ g.changes.keeper };
  history = history ∙ g.history;
}

-- ---- where they are written

fewer : {a b : ℕ} → suc a ≡ suc b → a ≡ b
fewer {a} {b} e = omega (arith, e)

written : (xs ys : List Pending) → length ys ≡ length xs → take (length xs) (ys ++ drop (length ys) xs) ≡ ys
written [] [] same = refl
written [] (y ∷ ys) same = absurd (omega (arith, same))
written (x ∷ xs) [] same = absurd (omega (arith, same))
written (x ∷ xs) (y ∷ ys) same = ap (λ (zs : List Pending). y ∷ zs) (written xs ys (fewer same))

pub later_over : (xs given ys : List Pending) (len server : ℕ) → len ≡ length xs → given ≡ xs → ys ≡ map (over_at server) given → take len (ys ++ drop (length ys) xs) ≡ map (over_at server) xs
later_over xs given ys len server is same over_all =
    let e : ys ≡ map (over_at server) xs = over_all ∙ ap (λ (zs : List Pending). map (over_at server) zs) same in
    ap (λ (n : ℕ). take n (ys ++ drop (length ys) xs)) is ∙ (written xs ys (ap (λ (zs : List Pending). length zs) e ∙ map_length (over_at server) xs) ∙ e)

-- ---- what the definitions say of it

closed_is_over : (s : worlds.Stage) → is_open s ≡ false → s ≡ worlds.Over
closed_is_over worlds.Looking shut = absurd cc
closed_is_over worlds.Posting shut = absurd cc
closed_is_over worlds.Over shut = refl

crashed_one : (n : ℕ) (a : Pending) → attempt_of (over_at n a) ≡ crashed_at n (attempt_of a)
unfolding over_at crashed_at
crashed_one n a = by (nat_eq a.server n) (is_open (stage_of a.stage)) refl
  where
    by : (b o : Bool) → is_open (stage_of a.stage) ≡ o → attempt_of (if b && o then over a else a) ≡ record (attempt_of a) { stage = stage_after b (stage_of a.stage) }
    by true true is = refl
    by true false is = ap (λ (s : worlds.Stage). record (attempt_of a) { stage = s }) (closed_is_over (stage_of a.stage) is)
    by false true is = refl
    by false false is = refl

pub crashed_all : (n : ℕ) (xs : List Pending) → map attempt_of (map (over_at n) xs) ≡ map (crashed_at n) (map attempt_of xs)
crashed_all n [] = refl
crashed_all n (x ∷ xs) = rw (crashed_one n x, crashed_all n xs) refl

claim_stays : (n : ℕ) (a : Pending) → claim_in (over_at n a) ≡ claim_in a
unfolding over_at
claim_stays n a = by (nat_eq a.server n && is_open (stage_of a.stage))
  where
    by : (b : Bool) → claim_in (if b then over a else a) ≡ claim_in a
    by true = refl
    by false = refl

pub claims_stay : (n : ℕ) (xs : List Pending) → map claim_in (map (over_at n) xs) ≡ map claim_in xs
claims_stay n [] = refl
claims_stay n (x ∷ xs) = rw (claim_stays n x, claims_stay n xs) refl

-- an attempt that is open after the crash is another server's, and as it was
still_open : (n : ℕ) (a b : Pending) → over_at n a ≡ b → is_open (stage_of b.stage) ≡ true → (a ≡ b) × (a.server ≢ n)
unfolding over_at
still_open n a b is open_yet = by (nat_eq a.server n) refl is
  where
    not_over : over a ≡ b → ⊥
    not_over same = let no : false ≡ true = ap (λ (x : Pending). is_open (stage_of x.stage)) same ∙ open_yet in cc

    by : (e : Bool) → nat_eq a.server n ≡ e → (if e && is_open (stage_of a.stage) then over a else a) ≡ b → (a ≡ b) × (a.server ≢ n)
    by true own it = absurd (shut (is_open (stage_of a.stage)) refl it)
      where
        shut : (o : Bool) → is_open (stage_of a.stage) ≡ o → (if o then over a else a) ≡ b → ⊥
        shut true yet same = not_over same
        shut false done same = let no : false ≡ true = sym done ∙ ap (λ (x : Pending). is_open (stage_of x.stage)) same ∙ open_yet in cc
    by false other it = (it, λ same. let no : true ≡ false = sym (eq-eqb a.server n same) ∙ other in cc)

ready_beside : {P : Type 0} (moment : ℕ) (seats : List (MachineLog P)) (n : ℕ) (now : MachineLog P) (a : Pending) → a.server ≢ n → IsReady moment seats a → IsReady moment (slice_set seats n now) a
ready_beside {P} moment seats n now a apart r = record {
  seat = r.seat;
  there = set_beside seats n now a.server apart ∙ r.there;
  earlier = r.earlier;
  seen = r.seen;
  more = r.more;
  is = r.is;
  since = r.since;
  known = r.known;
  place = r.place;
  act = r.act;
  kept = r.kept;
  named = r.named;
  body = r.body;
}

-- ---- the event

-- the server after its crash: nothing is claimed any more
pub record IsCrash {P : Type 0} (shown : P → KeeperState) (seats : List (MachineLog P)) (attempts later : List Pending) (n : ℕ) (m now : MachineLog P) : Type 0 where
  pub at : slice_get seats n ≡ Some m
  pub later_is : later ≡ map (over_at n) attempts
  pub history : now.core.history ≡ m.core.history
  pub log : history_of now.log ≡ history_of m.log
  pub end : (shown now.core.keeper).end ≡ (shown m.core.keeper).end
  pub tied : IsTied (map (crashed_at n) (map attempt_of attempts)) (map claim_in attempts) n now.log

same_crashed : (moment : ℕ) (servers servers' : List Server) (requests : List Request) (replies : List Reply) (attempts attempts' : List Attempt) → servers' ≡ servers → attempts' ≡ attempts
    → ◌≡◌ {A = World} (record { moment = moment; servers = servers'; requests = requests; replies = replies; attempts = attempts' })
    (record { moment = moment; servers = servers; requests = requests; replies = replies; attempts = attempts })
same_crashed moment servers servers' requests replies attempts attempts' a b = rw (a, b) refl

crash_event : {P : Type 0} (shown : P → KeeperState) (moment : ℕ) (seats : List (MachineLog P)) (requests : List Packet) (replies : List Answer) (attempts later : List Pending) (n : ℕ)
    (m now : MachineLog P) → IsCrash shown seats attempts later n m now
    → Crashes (world_of moment seats requests replies attempts) n (world_of moment (slice_set seats n now) requests replies later)
crash_event {P} shown moment seats requests replies attempts later n m now c = record {
  server = seen_at m;
  there = map_at (seen_at {P = P}) seats n m c.at;
  after = same_crashed moment _ _ (map request_of requests) (map reply_of replies) _ _ (servers_same {P = P} seats n m now c.at c.history)
      (ap (λ (xs : List Pending). map attempt_of xs) c.later_is ∙ crashed_all n attempts);
}

crash_seated : {P : Type 0} (shown : P → KeeperState) (moment : ℕ) (seats : List (MachineLog P)) (requests : List Packet) (replies : List Answer) (attempts later : List Pending) (n : ℕ)
    (m now : MachineLog P) → IsWhole moment seats requests replies attempts → IsCrash shown seats attempts later n m now
    → (j : ℕ) (x : MachineLog P) → slice_get (slice_set seats n now) j ≡ Some x → IsSeated x
crash_seated {P} shown moment seats requests replies attempts later n m now i c =
    seated_set {P = P} seats n now (seated_same {P = P} m now c.history c.log (i.seated n m c.at)) i.seated

crash_steps : {P : Type 0} (shown : P → KeeperState) (moment : ℕ) (seats : List (MachineLog P)) (requests : List Packet) (replies : List Answer) (attempts later : List Pending) (n : ℕ)
    (m now : MachineLog P) → IsWhole moment seats requests replies attempts → IsCrash shown seats attempts later n m now
    → Steps (world_of moment seats requests replies attempts) (events.Crash n) (world_of moment (slice_set seats n now) requests replies later)
crash_steps {P} shown moment seats requests replies attempts later n m now i c = record {
  happens = crash_event {P = P} shown moment seats requests replies attempts later n m now c;
  fit = fit_servers {P = P} (slice_set seats n now) (crash_seated {P = P} shown moment seats requests replies attempts later n m now i c);
}

pub whole_crashed : {P : Type 0} (shown : P → KeeperState) (moment : ℕ) (seats : List (MachineLog P)) (requests : List Packet) (replies : List Answer) (attempts later : List Pending) (n : ℕ)
    (m now : MachineLog P) → IsWhole moment seats requests replies attempts → IsCrash shown seats attempts later n m now → IsWhole moment (slice_set seats n now) requests replies later
whole_crashed {P} shown moment seats requests replies attempts later n m now i c =
    let xs = map attempt_of attempts in
    let cs = map claim_in attempts in
    let ys = map (crashed_at n) xs in
    let all = tied_set {P = P} seats n now xs ys cs cs c.tied (λ j log apart tied. tied_crashed_beside xs cs j n log apart tied) i.tied in
    record {
      reached = reached_on _ _ (events.Crash n) i.reached (crash_steps {P = P} shown moment seats requests replies attempts later n m now i c);
      tied = λ j x there. rw (c.later_is, crashed_all n attempts, claims_stay n attempts) (all j x there);
      seated = crash_seated {P = P} shown moment seats requests replies attempts later n m now i c;
      ready = λ k b there open_yet.
          let was = map_from (over_at n) attempts k b (ap (λ (ps : List Pending). slice_get ps k) (sym c.later_is) ∙ there) in
          let same = still_open n was.0 b was.2 open_yet in
          ready_beside {P = P} moment seats n now b (λ own. same.1 (ap (λ (x : Pending). x.server) same.0 ∙ own))
          (i.ready k b (was.1 ∙ ap (λ (x : Pending). Some x) same.0) open_yet);
    }

pub happens_crashed : {P : Type 0} (l : Limits) (shown : P → KeeperState) (moment : ℕ) (seats : List (MachineLog P)) (requests : List Packet) (replies : List Answer)
    (attempts later : List Pending) (n : ℕ) (m now : MachineLog P) (old : Scene) → scene_of shown moment seats requests replies attempts ≡ old → IsWhole moment seats requests replies attempts
    → IsCrash shown seats attempts later n m now → Happens l old (Crash n) Crashed (scene_of shown moment (slice_set seats n now) requests replies later)
happens_crashed {P} l shown moment seats requests replies attempts later n m now old same i c =
    rw (sym same) record {
      kind = events.Crash n;
      means = refl;
      steps = crash_steps {P = P} shown moment seats requests replies attempts later n m now i c;
      tells = (crash_event {P = P} shown moment seats requests replies attempts later n m now c, ends_stay {P = P} shown seats n m now c.at c.end);
    }

pub leaves_crashed : {P : Type 0} (l : Limits) (shown : P → KeeperState) (moment : ℕ) (seats : List (MachineLog P)) (requests : List Packet) (replies : List Answer)
    (attempts later : List Pending) (n : ℕ) (m now : MachineLog P) (old : Scene) → scene_of shown moment seats requests replies attempts ≡ old
    → IsCrash shown seats attempts later n m now → Leaves l Memory old (Crash n) (scene_of shown moment (slice_set seats n now) requests replies later)
leaves_crashed {P} l shown moment seats requests replies attempts later n m now old same c =
    rw (sym same) (crash_event {P = P} shown moment seats requests replies attempts later n m now c, ends_stay {P = P} shown seats n m now c.at c.end)

-- ---- why it comes

pub crashed_causes : {P : Type 0} (moment : ℕ) (seats : List (MachineLog P)) (requests : List Packet) (replies : List Answer) (attempts : List Pending) (n : ℕ) (old : World)
    → world_of moment seats requests replies attempts ≡ old → n < length seats → IsThere old (Crash n)
crashed_causes {P} moment seats requests replies attempts n old same below = crash_there old n (among {P = P} moment seats requests replies attempts n old same below)

-- ---- the server

-- it was opened anew
pub opened_crash : {P : Type 0} (shown : P → KeeperState) (seats : List (MachineLog P)) (attempts later : List Pending) (n : ℕ) (m mid now : MachineLog P) → slice_get seats n ≡ Some m
    → later ≡ map (over_at n) attempts → mid.core.history ≡ m.core.history → m.core.history ≡ history_of m.log → (shown mid.core.keeper).end ≡ (shown m.core.keeper).end
    → now.core.history ≡ mid.core.history → (shown now.core.keeper).end ≡ (shown mid.core.keeper).end → now.log ≡ given mid.core.history → IsCrash shown seats attempts later n m now
opened_crash {P} shown seats attempts later n m mid now at later_is first logged end second end' log = record {
  at = at;
  later_is = later_is;
  history = second ∙ first;
  log = ap history_of log ∙ (given_history mid.core.history ∙ (first ∙ logged));
  end = end' ∙ end;
  tied = subst (λ (l : Log). IsTied (map (crashed_at n) (map attempt_of attempts)) (map claim_in attempts) n l) (sym log)
      (tied_opened (map attempt_of attempts) (map claim_in attempts) n mid.core.history);
}

-- there was no memory to open it anew
pub unopened_crash : {P : Type 0} (shown : P → KeeperState) (seats : List (MachineLog P)) (attempts later : List Pending) (n : ℕ) (m mid now : MachineLog P) → slice_get seats n ≡ Some m
    → later ≡ map (over_at n) attempts → mid.core.history ≡ m.core.history → (shown mid.core.keeper).end ≡ (shown m.core.keeper).end → history_of mid.log ≡ history_of m.log
    → (ys : List Pending) → ys ≡ map (over_at n) attempts → IsTied (map attempt_of ys) (map claim_in ys) n mid.log
    → now.core.history ≡ mid.core.history → (shown now.core.keeper).end ≡ (shown mid.core.keeper).end → now.log ≡ mid.log → IsCrash shown seats attempts later n m now
unopened_crash {P} shown seats attempts later n m mid now at later_is first end kept ys over_all tied second end' log = record {
  at = at;
  later_is = later_is;
  history = second ∙ first;
  log = ap history_of log ∙ kept;
  end = end' ∙ end;
  tied =
      let own = subst (λ (ps : List Pending). IsTied (map attempt_of ps) (map claim_in ps) n mid.log) over_all tied in
      subst (λ (l : Log). IsTied (map (crashed_at n) (map attempt_of attempts)) (map claim_in attempts) n l) (sym log)
      (rw (crashed_all n attempts, claims_stay n attempts) at own);
}
