-- An attempt ends.
use Rattle.std.proofs.Common.{◌≡◌, ◌≢◌, ℕ, zero, suc, ◌+◌, ◌≤◌, Bool, true, false, List, [], ◌∷◌, ◌++◌, length, Option, Some, None, Result, Ok, Err, arith, refl, sym, ap, ◌∙◌, subst, inl, inr, ⊎_elim, eq-eqb, ne_eqb, nat_eq, append-nil, zero-add}
use Rattle.std.proofs.lemmas.Option.{slice_get_within}
use Rattle.std.specs.Prelude.{◌⊎◌, ◌<◌, ◌&&◌, map, slice_get, slice_set, is_some, IsTrue}
use Rattle.fedi_core.specs.Machines.{Machine}
use Rattle.fedi_entry.specs.Codes.{code_of}
use Rattle.fedi_entry.specs.Fields.{MayCome}
use Rattle.fedi_log.specs.Claims.{HasClaimed}
use Rattle.fedi_log.specs.Keeping.{growth_of}
use Rattle.fedi_log.specs.Log.{Log, entry_in, history_of, made_by}
use Rattle.fedi_log.specs.declared.items.What.{What}
use Rattle.fedi_log.specs.declared.items.What.TheVariants.{Entered, Released}
use Rattle.fedi_log.proofs.Growing.{history_append}
use Rattle.fedi_logged.specs.Claiming.{tried}
use Rattle.fedi_logged.specs.Logs.{MachineLog}
use Rattle.fedi_logged.proofs.Hosts.{host_stays}
use Rattle.fedi_objects.specs.declared.entry.Came.{Came}
use Rattle.fedi_objects.specs.declared.entry.Entry.{Entry}
use Rattle.fedi_objects.specs.declared.entry.Sent.{Sent}
use Rattle.fedi_objects.specs.declared.entry.Sent.TheVariants.{Lookup, Post}
use Rattle.fedi_objects.specs.declared.entry.What.TheVariants.{Failed}
use Rattle.fedi_objects.specs.declared.entry.Entry.TheVariants.{Tried}
use Rattle.fedi_outside.specs.Keepers.{HasRoom, IsFull, KeeperState}
use Rattle.fedi_queue.specs.declared.rows.Claim.{Claim}
use Rattle.fedi_town.specs.Histories.{town}
use Rattle.fedi_town.specs.Legal.{IsLegal}
use Rattle.fedi_worlds.specs.Events as events
use Rattle.fedi_worlds.specs.Steps.{IsFit, Loses, Records, Steps, step_of}
use Rattle.fedi_worlds.specs.Worlds.{Attempt, Request, Reply, Server, Stage, World, ended, is_open, is_open_at, keeping, replaced}
use Rattle.fedi_world.specs.declared.event.Event.TheVariants.{Lose}
use Rattle.fedi_world.specs.declared.event.Happened.{Happened}
use Rattle.fedi_world.specs.declared.event.Happened.TheVariants.{Recorded}
use Rattle.fedi_world.specs.declared.event.WorldFault.{WorldFault}
use Rattle.fedi_world.specs.declared.event.WorldFault.TheVariants.{NoServer, NoRequest, NoReply, NoAttempt, NoName, Full, Memory}
use Rattle.fedi_world.specs.declared.parts.Answer.{Answer}
use Rattle.fedi_world.specs.declared.parts.Packet.{Packet}
use Rattle.fedi_world.specs.declared.parts.Pending.{Pending}
use Rattle.fedi_world.specs.declared.parts.Stage.TheVariants.{Over}
use Rattle.fedi_world.specs.Ending.{EndsAt, HasNoOpenAt, failed_at, over}
use Rattle.fedi_world.specs.Happenings.{AreCaused, EndsIn, Ends, Fits, Forgets, Happens, IsForgotten, LacksRoom, Leaves, Limits}
use Rattle.fedi_world.specs.Scenes.{Scene, attempt_of, claim_in, ends_of, reply_of, request_of, scene_of, stage_of, world_of}
use Rattle.fedi_seat.specs.Seats.{IsSeat}
use Rattle.fedi_world.specs.Standing.{IsReady, IsSeated, IsTied, IsWhole, pair_at}
use Rattle.fedi_world.proofs.Causes.{caused_full, caused_memory, caused_ok, lose_nobody, lose_there}
use Rattle.fedi_world.proofs.Spots.{map_at, map_from, map_set, set_from}
use Rattle.fedi_world.proofs.Ties as ties
use Rattle.fedi_world.proofs.Ties.{tied_ended, tied_ended_beside}
use Rattle.fedi_world.proofs.Whole.{attempts_set, claims_set, ends_stay, fit_servers, reached_on, ready_set, seated_set, seen_at, servers_kept, tied_set}

-- ---- an open attempt

same_number : (n : ℕ) → nat_eq n n ≡ true
same_number n = eq-eqb n n refl

pub open_here : (a : Pending) → is_open (stage_of a.stage) ≡ true → is_open_at a.server (attempt_of a) ≡ true
unfolding is_open_at
open_here a open_yet = rw (open_yet, same_number a.server) refl

shut_there : (a : Pending) (j : ℕ) → j ≢ a.server → is_open_at j (attempt_of a) ≡ false
unfolding is_open_at
shut_there a j apart = ap (λ (b : Bool). is_open (stage_of a.stage) && b) (ne_eqb a.server j (λ same. apart (sym same))) ∙ none (is_open (stage_of a.stage))
  where
    none : (b : Bool) → (b && false) ≡ false
    none true = refl
    none false = refl

the_same : {A : Type 0} (x y : A) → Some x ≡ Some y → x ≡ y
the_same x y e = cc

-- what an open attempt has claimed
pub record IsHeldBy {P : Type 0} (moment : ℕ) (seats : List (MachineLog P)) (k : ℕ) (a : Pending) : Type 0 where
  pub seat : MachineLog P
  pub at : slice_get seats a.server ≡ Some seat
  pub held : HasClaimed (Some k) seat.log (pair_at (attempt_of a)) (claim_in a)
  pub earlier : a.claimed ≤ moment

pub held_by : {P : Type 0} (moment : ℕ) (seats : List (MachineLog P)) (requests : List Packet) (replies : List Answer) (attempts : List Pending) (k : ℕ) (a : Pending)
    → IsWhole moment seats requests replies attempts → slice_get attempts k ≡ Some a → is_open (stage_of a.stage) ≡ true → IsHeldBy moment seats k a
held_by {P} moment seats requests replies attempts k a i there open_yet =
    let r = i.ready k a there open_yet in
    let held = (i.tied a.server r.seat r.there).held k (attempt_of a) (map_at attempt_of attempts k a there) (open_here a open_yet) in
    let own : held.0 ≡ claim_in a = the_same held.0 (claim_in a) (sym held.1 ∙ map_at claim_in attempts k a there) in
    record {
      seat = r.seat;
      at = r.there;
      held = subst (λ (c : Claim). HasClaimed (Some k) r.seat.log (pair_at (attempt_of a)) c) own held.2;
      earlier = r.earlier;
    }

-- the server is there, and has claimed the delivery
pub server_there : {P : Type 0} (moment : ℕ) (seats : List (MachineLog P)) (requests : List Packet) (replies : List Answer) (attempts : List Pending) (k : ℕ) (a : Pending)
    → IsWhole moment seats requests replies attempts → slice_get attempts k ≡ Some a → is_open (stage_of a.stage) ≡ true → a.server < length seats
server_there {P} moment seats requests replies attempts k a i there open_yet =
    let h = held_by {P = P} moment seats requests replies attempts k a i there open_yet in slice_get_within seats a.server h.seat h.at

pub claimed_at : {P : Type 0} (moment : ℕ) (seats : List (MachineLog P)) (requests : List Packet) (replies : List Answer) (attempts : List Pending) (k : ℕ) (a : Pending) (m : MachineLog P)
    → IsWhole moment seats requests replies attempts → slice_get attempts k ≡ Some a → is_open (stage_of a.stage) ≡ true → slice_get seats a.server ≡ Some m
    → HasClaimed (Some k) m.log (pair_at (attempt_of a)) (claim_in a)
claimed_at {P} moment seats requests replies attempts k a m i there open_yet at =
    let h = held_by {P = P} moment seats requests replies attempts k a i there open_yet in
    let same : h.seat ≡ m = the_same h.seat m (sym h.at ∙ at) in
    subst (λ (x : MachineLog P). HasClaimed (Some k) x.log (pair_at (attempt_of a)) (claim_in a)) same h.held

-- an attempt that gets no reply has failed
pub failed_may : (s : Stage) (came : Came) → came ≡ failed_at s → MayCome came.step came.what
failed_may s came is = subst (λ (x : Came). MayCome x.step x.what) (sym is) (by (step_of s))
  where
    by : (step : Sent) → MayCome step Failed
    by Lookup = tt
    by Post = tt

-- ---- what its end changes

-- what becomes of the server and of its log
pub record IsEnd {P : Type 0} (k : ℕ) (a : Pending) (came : Came) (moment : ℕ) (m now : MachineLog P) : Type 0 where
  pub more : List Entry
  pub what : What
  pub closes : ties.EndsAt (pair_at (attempt_of a)) what
  pub kept : (more ≡ Tried a.activity.value a.recipient came moment ∷ []) ⊎ (more ≡ [])
  pub history : now.core.history ≡ m.core.history ++ more
  pub log : now.log ≡ m.log ++ made_by (Some k) what ∷ []
  pub entry : entry_in what ≡ more
  pub fit : IsFit now.core.history
  pub stand : IsSeat m.core.history m.core.rows m.log

abbrev pub end_of : {P : Type 0} (l : Limits) (shown : P → KeeperState) (k : ℕ) (a : Pending) (came : Came) (moment : ℕ) (m now : MachineLog P) (r : Result (Unit {0}) WorldFault)
    → EndsAt l shown k (pair_at (attempt_of a)) came moment m now r → IsFit now.core.history → IsSeat m.core.history m.core.rows m.log → IsEnd k a came moment m now
end_of {P} l shown k a came moment m now (Ok done) e fit stand = record {
  more = Tried a.activity.value a.recipient came moment ∷ [];
  what = Entered (Tried a.activity.value a.recipient came moment);
  closes = λ q held. refl;
  kept = inl refl;
  history = e.0;
  log = e.1;
  entry = refl;
  fit = fit;
  stand = stand;
}
end_of {P} l shown k a came moment m now (Err Full) e fit stand = record {
  more = [];
  what = Released (pair_at (attempt_of a));
  closes = λ q held. refl;
  kept = inr refl;
  history = e.0 ∙ sym (append-nil m.core.history);
  log = e.1;
  entry = refl;
  fit = fit;
  stand = stand;
}
end_of {P} l shown k a came moment m now (Err Memory) e fit stand = record {
  more = [];
  what = Released (pair_at (attempt_of a));
  closes = λ q held. refl;
  kept = inr refl;
  history = e.0 ∙ sym (append-nil m.core.history);
  log = e.1;
  entry = refl;
  fit = fit;
  stand = stand;
}
end_of {P} l shown k a came moment m now (Err NoServer) e fit stand = absurd e
end_of {P} l shown k a came moment m now (Err NoRequest) e fit stand = absurd e
end_of {P} l shown k a came moment m now (Err NoReply) e fit stand = absurd e
end_of {P} l shown k a came moment m now (Err NoAttempt) e fit stand = absurd e
end_of {P} l shown k a came moment m now (Err NoName) e fit stand = absurd e

-- the host stays
end_host : {P : Type 0} (k : ℕ) (a : Pending) (came : Came) (moment : ℕ) (m now : MachineLog P) → IsSeated m → IsEnd k a came moment m now
    → (town now.core.history).host ≡ (town m.core.history).host
end_host {P} k a came moment m now s e =
    ap (λ (h : List Entry). (town h).host) e.history ∙ host_stays m.core.history e.more (subst IsLegal e.history e.fit.legal) s.hosted

end_seated : {P : Type 0} (k : ℕ) (a : Pending) (came : Came) (moment : ℕ) (m now : MachineLog P) → IsSeated m → IsEnd k a came moment m now → IsSeated now
end_seated {P} k a came moment m now s e = record {
  logged = e.history ∙ (ap (λ (h : List Entry). h ++ e.more) s.logged ∙ sym (ap history_of e.log ∙ history_append m.log (made_by (Some k) e.what ∷ [])
      ∙ ap (λ (es : List Entry). history_of m.log ++ es) (append-nil (entry_in e.what) ∙ e.entry)));
  hosted = subst (λ (h : Option (List ℕ)). IsTrue (is_some h)) (sym (end_host {P = P} k a came moment m now s e)) s.hosted;
  fit = e.fit;
}

pub record IsOver {P : Type 0} (moment : ℕ) (seats : List (MachineLog P)) (attempts : List Pending) (k : ℕ) (a : Pending) (came : Came) (m now : MachineLog P) : Type 0 where
  pub there : slice_get attempts k ≡ Some a
  pub open_yet : is_open (stage_of a.stage) ≡ true
  pub at : slice_get seats a.server ≡ Some m
  pub end : IsEnd k a came moment m now

same_ended : (moment : ℕ) (servers servers' : List Server) (requests : List Request) (replies : List Reply) (attempts attempts' : List Attempt) → servers' ≡ servers → attempts' ≡ attempts
    → ◌≡◌ {A = World} (record { moment = moment; servers = servers'; requests = requests; replies = replies; attempts = attempts' })
    (record { moment = moment; servers = servers; requests = requests; replies = replies; attempts = attempts })
same_ended moment servers servers' requests replies attempts attempts' a b = rw (a, b) refl

pub after_end : {P : Type 0} (moment : ℕ) (seats : List (MachineLog P)) (requests : List Packet) (replies : List Answer) (attempts : List Pending) (k : ℕ) (a : Pending) (came : Came) (m now : MachineLog P)
    → IsWhole moment seats requests replies attempts → (o : IsOver moment seats attempts k a came m now)
    → world_of moment (slice_set seats a.server now) requests replies (slice_set attempts k (over a))
    ≡ record (world_of moment seats requests replies attempts) {
      servers = keeping a.server o.end.more (map (seen_at {P = P}) seats);
      attempts = replaced k (ended (attempt_of a)) (map attempt_of attempts);
    }
after_end {P} moment seats requests replies attempts k a came m now i o =
    same_ended moment _ _ (map request_of requests) (map reply_of replies) _ _
    (servers_kept {P = P} seats a.server m now o.end.more o.at o.end.history (end_host {P = P} k a came moment m now (i.seated a.server m o.at) o.end))
    (attempts_set attempts k (over a))

pub end_records : {P : Type 0} (moment : ℕ) (seats : List (MachineLog P)) (requests : List Packet) (replies : List Answer) (attempts : List Pending) (k : ℕ) (a : Pending) (came : Came) (m now : MachineLog P)
    → IsWhole moment seats requests replies attempts → IsOver moment seats attempts k a came m now
    → Records (world_of moment seats requests replies attempts) k (attempt_of a) came (world_of moment (slice_set seats a.server now) requests replies (slice_set attempts k (over a)))
end_records {P} moment seats requests replies attempts k a came m now i o = record {
  more = o.end.more;
  kept = o.end.kept;
  after = after_end {P = P} moment seats requests replies attempts k a came m now i o;
}

pub over_seated : {P : Type 0} (moment : ℕ) (seats : List (MachineLog P)) (requests : List Packet) (replies : List Answer) (attempts : List Pending) (k : ℕ) (a : Pending) (came : Came) (m now : MachineLog P)
    → IsWhole moment seats requests replies attempts → IsOver moment seats attempts k a came m now
    → (j : ℕ) (x : MachineLog P) → slice_get (slice_set seats a.server now) j ≡ Some x → IsSeated x
over_seated {P} moment seats requests replies attempts k a came m now i o =
    seated_set {P = P} seats a.server now (end_seated {P = P} k a came moment m now (i.seated a.server m o.at) o.end) i.seated

over_tied : {P : Type 0} (moment : ℕ) (seats : List (MachineLog P)) (requests : List Packet) (replies : List Answer) (attempts : List Pending) (k : ℕ) (a : Pending) (came : Came) (m now : MachineLog P)
    → IsWhole moment seats requests replies attempts → IsOver moment seats attempts k a came m now
    → (j : ℕ) (x : MachineLog P) → slice_get (slice_set seats a.server now) j ≡ Some x
    → IsTied (map attempt_of (slice_set attempts k (over a))) (map claim_in (slice_set attempts k (over a))) j x.log
over_tied {P} moment seats requests replies attempts k a came m now i o =
    let xs = map attempt_of attempts in
    let cs = map claim_in attempts in
    let e = o.end in
    let at = map_at attempt_of attempts k a o.there in
    let own : IsTied (replaced k (ended (attempt_of a)) xs) cs a.server now.log =
    subst (λ (l : Log). IsTied (replaced k (ended (attempt_of a)) xs) cs a.server l) (sym e.log)
    (tied_ended xs cs a.server k m.log (attempt_of a) (town m.core.history).acts m.core.rows e.what at (open_here a o.open_yet) e.closes e.stand.stand (i.tied a.server m o.at)) in
    let all = tied_set {P = P} seats a.server now xs (replaced k (ended (attempt_of a)) xs) cs cs own
    (λ j log apart tied. tied_ended_beside xs cs j k log (attempt_of a) at (shut_there a j apart) tied) i.tied in
    λ j x there. rw (attempts_set attempts k (over a), claims_set attempts k a (over a) o.there refl) (all j x there)

-- the world without the attempt, given its event
pub whole_over : {P : Type 0} (moment : ℕ) (seats : List (MachineLog P)) (requests : List Packet) (replies : List Answer) (attempts : List Pending) (k : ℕ) (a : Pending) (came : Came) (m now : MachineLog P)
    (e : events.Event) → IsWhole moment seats requests replies attempts → IsOver moment seats attempts k a came m now
    → Steps (world_of moment seats requests replies attempts) e (world_of moment (slice_set seats a.server now) requests replies (slice_set attempts k (over a)))
    → IsWhole moment (slice_set seats a.server now) requests replies (slice_set attempts k (over a))
whole_over {P} moment seats requests replies attempts k a came m now e i o steps = record {
  reached = reached_on _ _ e i.reached steps;
  tied = over_tied {P = P} moment seats requests replies attempts k a came m now i o;
  seated = over_seated {P = P} moment seats requests replies attempts k a came m now i o;
  ready = λ j b there open_yet.
      ⊎_elim
      (λ (new : (j ≡ k) × (over a ≡ b)). absurd (closed b new.1 open_yet))
      (λ (old : (j ≢ k) × (slice_get attempts j ≡ Some b)). ready_set moment moment seats a.server m now _ b (omega arith) o.at o.end.log (i.ready j b old.1 open_yet))
      (set_from attempts k (over a) j b there);
}
  where
    closed : (b : Pending) → over a ≡ b → is_open (stage_of b.stage) ≡ true → ⊥
    closed b is open_yet = let no : false ≡ true = ap (λ (x : Pending). is_open (stage_of x.stage)) is ∙ open_yet in cc

-- ---- no reply comes

pub lost : {P : Type 0} (moment : ℕ) (seats : List (MachineLog P)) (requests : List Packet) (replies : List Answer) (attempts : List Pending) (k : ℕ) (a : Pending) (m now : MachineLog P)
    → IsWhole moment seats requests replies attempts → IsOver moment seats attempts k a (failed_at (stage_of a.stage)) m now
    → Loses (world_of moment seats requests replies attempts) k (world_of moment (slice_set seats a.server now) requests replies (slice_set attempts k (over a)))
lost {P} moment seats requests replies attempts k a m now i o = record {
  attempt = attempt_of a;
  known = map_at attempt_of attempts k a o.there;
  open_yet = o.open_yet;
  records = end_records {P = P} moment seats requests replies attempts k a (failed_at (stage_of a.stage)) m now i o;
}

pub lost_steps : {P : Type 0} (moment : ℕ) (seats : List (MachineLog P)) (requests : List Packet) (replies : List Answer) (attempts : List Pending) (k : ℕ) (a : Pending) (m now : MachineLog P)
    → IsWhole moment seats requests replies attempts → IsOver moment seats attempts k a (failed_at (stage_of a.stage)) m now
    → Steps (world_of moment seats requests replies attempts) (events.Lose k) (world_of moment (slice_set seats a.server now) requests replies (slice_set attempts k (over a)))
lost_steps {P} moment seats requests replies attempts k a m now i o = record {
  happens = lost {P = P} moment seats requests replies attempts k a m now i o;
  fit = fit_servers {P = P} (slice_set seats a.server now) (over_seated {P = P} moment seats requests replies attempts k a (failed_at (stage_of a.stage)) m now i o);
}

-- ---- what is said of it

-- the result was kept
pub ends_kept : {P : Type 0} (l : Limits) (shown : P → KeeperState) (moment : ℕ) (seats : List (MachineLog P)) (requests : List Packet) (replies : List Answer) (attempts : List Pending) (k : ℕ) (a : Pending) (came : Came)
    (m now : MachineLog P) → IsWhole moment seats requests replies attempts → slice_get attempts k ≡ Some a → is_open (stage_of a.stage) ≡ true → slice_get seats a.server ≡ Some m
    → IsFit now.core.history → IsSeat m.core.history m.core.rows m.log → EndsAt l shown k (pair_at (attempt_of a)) came moment m now (Ok tt)
    → EndsIn l (scene_of shown moment seats requests replies attempts) k came (scene_of shown moment (slice_set seats a.server now) requests replies (slice_set attempts k (over a)))
ends_kept {P} l shown moment seats requests replies attempts k a came m now i there open_yet at fit stand e = (
  attempt_of a,
  record {
    known = map_at attempt_of attempts k a there;
    open_yet = open_yet;
    after = after_end {P = P} moment seats requests replies attempts k a came m now i
        (record { there = there; open_yet = open_yet; at = at; end = end_of l shown k a came moment m now (Ok tt) e fit stand });
  },
  record {
    end = (shown m.core.keeper).end;
    there = map_at (λ (x : MachineLog P). (shown x.core.keeper).end) seats a.server m at;
    fits = (e.2, refl);
    moved = map_set (λ (x : MachineLog P). (shown x.core.keeper).end) seats a.server now
        ∙ ap (λ (n : ℕ). slice_set (ends_of shown seats) a.server n) (e.3 ∙ ap (λ (g : ℕ). (shown m.core.keeper).end + g) (sym (zero-add _)));
  },
)

-- it was not
pub forgotten : {P : Type 0} (moment : ℕ) (seats : List (MachineLog P)) (requests : List Packet) (replies : List Answer) (attempts : List Pending) (k : ℕ) (a : Pending) (came : Came) (m now : MachineLog P)
    → IsWhole moment seats requests replies attempts → (o : IsOver moment seats attempts k a came m now) → o.end.more ≡ []
    → Forgets (world_of moment seats requests replies attempts) k (world_of moment (slice_set seats a.server now) requests replies (slice_set attempts k (over a)))
forgotten {P} moment seats requests replies attempts k a came m now i o none = record {
  attempt = attempt_of a;
  known = map_at attempt_of attempts k a o.there;
  after = after_end {P = P} moment seats requests replies attempts k a came m now i o
      ∙ same_ended moment _ _ (map request_of requests) (map reply_of replies) _ _ (ap (λ (es : List Entry). keeping a.server es (map (seen_at {P = P}) seats)) none ∙ kept_nothing a.server (map (seen_at {P = P}) seats)) refl;
}
  where
    kept_nothing : (n : ℕ) (servers : List Server) → keeping n [] servers ≡ servers
    kept_nothing n [] = refl
    kept_nothing zero (s ∷ servers) = ap (λ (h : List Entry). record s { history = h } ∷ servers) (append-nil s.history)
    kept_nothing (suc n) (s ∷ servers) = ap (λ (ss : List Server). s ∷ ss) (kept_nothing n servers)

-- ---- what a call tells

pub record IsOverBy {P : Type 0} (l : Limits) (shown : P → KeeperState) (moment : ℕ) (seats now : List (MachineLog P)) (attempts later : List Pending) (k : ℕ) (a : Pending) (came : Came)
    (r : Result (Unit {0}) WorldFault) : Type 0 where
  pub m : MachineLog P
  pub after : MachineLog P
  pub at : slice_get seats a.server ≡ Some m
  pub seats_are : now ≡ slice_set seats a.server after
  pub attempts_are : later ≡ slice_set attempts k (over a)
  pub fit : IsFit after.core.history
  pub stand : IsSeat m.core.history m.core.rows m.log
  pub ends : EndsAt l shown k (pair_at (attempt_of a)) came moment m after r

abbrev pub is_over : {P : Type 0} (l : Limits) (shown : P → KeeperState) (moment : ℕ) (seats now : List (MachineLog P)) (attempts later : List Pending) (k : ℕ) (a : Pending) (came : Came)
    (r : Result (Unit {0}) WorldFault) → slice_get attempts k ≡ Some a → is_open (stage_of a.stage) ≡ true → (o : IsOverBy l shown moment seats now attempts later k a came r)
    → IsOver moment seats attempts k a came o.m o.after
is_over {P} l shown moment seats now attempts later k a came r there open_yet o = record {
  there = there;
  open_yet = open_yet;
  at = o.at;
  end = end_of l shown k a came moment o.m o.after r o.ends o.fit o.stand;
}

pub over_by : {P : Type 0} (l : Limits) (shown : P → KeeperState) (moment : ℕ) (seats : List (MachineLog P)) (attempts : List Pending) (k : ℕ) (a b : Pending) (came same : Came) (m after : MachineLog P)
    (r : Result (Unit {0}) WorldFault) → came ≡ same → slice_get seats a.server ≡ Some m → b ≡ over a → IsFit after.core.history → IsSeat m.core.history m.core.rows m.log
    → EndsAt l shown k (pair_at (attempt_of a)) came moment m after r
    → IsOverBy l shown moment seats (slice_set seats a.server after) attempts (slice_set attempts k b) k a same r
over_by {P} l shown moment seats attempts k a b came same m after r is at ended_is fit stand ends = record {
  m = m;
  after = after;
  at = at;
  seats_are = refl;
  attempts_are = ap (λ (x : Pending). slice_set attempts k x) ended_is;
  fit = fit;
  stand = stand;
  ends = subst (λ (x : Came). EndsAt l shown k (pair_at (attempt_of a)) x moment m after r) is ends;
}

-- ---- the answers of a lost attempt

pub whole_lost : {P : Type 0} (l : Limits) (shown : P → KeeperState) (moment : ℕ) (seats now : List (MachineLog P)) (requests : List Packet) (replies : List Answer) (attempts later : List Pending) (k : ℕ) (a : Pending)
    (r : Result (Unit {0}) WorldFault) → IsWhole moment seats requests replies attempts → slice_get attempts k ≡ Some a → is_open (stage_of a.stage) ≡ true
    → IsOverBy l shown moment seats now attempts later k a (failed_at (stage_of a.stage)) r → IsWhole moment now requests replies later
whole_lost {P} l shown moment seats now requests replies attempts later k a r i there open_yet o =
    let x = is_over {P = P} l shown moment seats now attempts later k a (failed_at (stage_of a.stage)) r there open_yet o in
    rw (o.seats_are, o.attempts_are) (whole_over {P = P} moment seats requests replies attempts k a (failed_at (stage_of a.stage)) o.m o.after (events.Lose k) i x
    (lost_steps {P = P} moment seats requests replies attempts k a o.m o.after i x))

pub happens_lost : {P : Type 0} (l : Limits) (shown : P → KeeperState) (moment : ℕ) (seats now : List (MachineLog P)) (requests : List Packet) (replies : List Answer) (attempts later : List Pending) (k : ℕ) (a : Pending)
    (old : Scene) → scene_of shown moment seats requests replies attempts ≡ old → IsWhole moment seats requests replies attempts → slice_get attempts k ≡ Some a → is_open (stage_of a.stage) ≡ true
    → IsOverBy l shown moment seats now attempts later k a (failed_at (stage_of a.stage)) (Ok tt)
    → Happens l old (Lose k) (Recorded (failed_at (stage_of a.stage))) (scene_of shown moment now requests replies later)
happens_lost {P} l shown moment seats now requests replies attempts later k a old same i there open_yet o =
    let x = is_over {P = P} l shown moment seats now attempts later k a (failed_at (stage_of a.stage)) (Ok tt) there open_yet o in
    rw (sym same, o.seats_are, o.attempts_are) record {
      kind = events.Lose k;
      means = refl;
      steps = lost_steps {P = P} moment seats requests replies attempts k a o.m o.after i x;
      tells = (
        lost {P = P} moment seats requests replies attempts k a o.m o.after i x,
        ends_kept {P = P} l shown moment seats requests replies attempts k a (failed_at (stage_of a.stage)) o.m o.after i there open_yet o.at o.fit o.stand o.ends,
        refl,
      );
    }

pub leaves_lost : {P : Type 0} (l : Limits) (shown : P → KeeperState) (moment : ℕ) (seats now : List (MachineLog P)) (requests : List Packet) (replies : List Answer) (attempts later : List Pending) (k : ℕ) (a : Pending)
    (fault : WorldFault) (old : Scene) → scene_of shown moment seats requests replies attempts ≡ old → IsWhole moment seats requests replies attempts → slice_get attempts k ≡ Some a
    → is_open (stage_of a.stage) ≡ true → IsOverBy l shown moment seats now attempts later k a (failed_at (stage_of a.stage)) (Err fault)
    → Leaves l fault old (Lose k) (scene_of shown moment now requests replies later)
leaves_lost {P} l shown moment seats now requests replies attempts later k a fault old same i there open_yet o =
    let x = is_over {P = P} l shown moment seats now attempts later k a (failed_at (stage_of a.stage)) (Err fault) there open_yet o in
    rw (sym same, o.seats_are, o.attempts_are) (by fault o x)
  where
    by : (f : WorldFault) → (o : IsOverBy l shown moment seats now attempts later k a (failed_at (stage_of a.stage)) (Err f)) → IsOver moment seats attempts k a (failed_at (stage_of a.stage)) o.m o.after
        → Leaves l f (scene_of shown moment seats requests replies attempts) (Lose k) (scene_of shown moment (slice_set seats a.server o.after) requests replies (slice_set attempts k (over a)))
    by NoServer o x = absurd o.ends
    by NoRequest o x = absurd o.ends
    by NoReply o x = absurd o.ends
    by NoAttempt o x = absurd o.ends
    by NoName o x = absurd o.ends
    by Full o x =
        let y = is_over {P = P} l shown moment seats now attempts later k a (failed_at (stage_of a.stage)) (Err Full) there open_yet o in (
          (
            attempt_of a,
            map_at attempt_of attempts k a there,
            open_yet,
            record {
              end = (shown o.m.core.keeper).end;
              there = map_at (λ (z : MachineLog P). (shown z.core.keeper).end) seats a.server o.m o.at;
              full = o.ends.2;
            },
          ),
          (lost {P = P} moment seats requests replies attempts k a o.m o.after i y, forgotten {P = P} moment seats requests replies attempts k a (failed_at (stage_of a.stage)) o.m o.after i y refl),
          ends_stay {P = P} shown seats a.server o.m o.after o.at o.ends.3,
        )
    by Memory o x =
        let y = is_over {P = P} l shown moment seats now attempts later k a (failed_at (stage_of a.stage)) (Err Memory) there open_yet o in (
          (lost {P = P} moment seats requests replies attempts k a o.m o.after i y, forgotten {P = P} moment seats requests replies attempts k a (failed_at (stage_of a.stage)) o.m o.after i y refl),
          ends_stay {P = P} shown seats a.server o.m o.after o.at o.ends.2,
        )

-- ---- why it comes

pub lost_causes : {P : Type 0} (moment : ℕ) (seats : List (MachineLog P)) (requests : List Packet) (replies : List Answer) (attempts : List Pending) (k : ℕ) (a : Pending) (what : Happened) (old : World)
    → world_of moment seats requests replies attempts ≡ old → slice_get attempts k ≡ Some a → is_open (stage_of a.stage) ≡ true → AreCaused old (Lose k) (Ok what)
lost_causes {P} moment seats requests replies attempts k a what old same there open_yet =
    rw (sym same) (caused_ok (world_of moment seats requests replies attempts) (Lose k) what
    (lose_there (world_of moment seats requests replies attempts) k (attempt_of a) (map_at attempt_of attempts k a there) open_yet))

pub forgotten_causes : {P : Type 0} (l : Limits) (shown : P → KeeperState) (moment : ℕ) (seats now : List (MachineLog P)) (requests : List Packet) (replies : List Answer) (attempts later : List Pending)
    (k : ℕ) (a : Pending) (came : Came) (fault : WorldFault) (old : World) → world_of moment seats requests replies attempts ≡ old → slice_get attempts k ≡ Some a
    → is_open (stage_of a.stage) ≡ true → IsOverBy l shown moment seats now attempts later k a came (Err fault) → AreCaused old (Lose k) (Err fault)
forgotten_causes {P} l shown moment seats now requests replies attempts later k a came fault old same there open_yet o = rw (sym same) (by fault o)
  where
    by : (f : WorldFault) → IsOverBy l shown moment seats now attempts later k a came (Err f) → AreCaused (world_of moment seats requests replies attempts) (Lose k) (Err f)
    by NoServer o = absurd o.ends
    by NoRequest o = absurd o.ends
    by NoReply o = absurd o.ends
    by NoAttempt o = absurd o.ends
    by NoName o = absurd o.ends
    by Full o = caused_full (world_of moment seats requests replies attempts) (Lose k)
        (lose_there (world_of moment seats requests replies attempts) k (attempt_of a) (map_at attempt_of attempts k a there) open_yet)
    by Memory o = caused_memory (world_of moment seats requests replies attempts) (Lose k)
        (lose_there (world_of moment seats requests replies attempts) k (attempt_of a) (map_at attempt_of attempts k a there) open_yet)

-- there is no open attempt of this number
pub closed_causes : {P : Type 0} (moment : ℕ) (seats : List (MachineLog P)) (requests : List Packet) (replies : List Answer) (attempts : List Pending) (k : ℕ) (old : World)
    → world_of moment seats requests replies attempts ≡ old → HasNoOpenAt attempts k → AreCaused old (Lose k) (Err NoAttempt)
closed_causes {P} moment seats requests replies attempts k old same none =
    rw (sym same) (lose_nobody (world_of moment seats requests replies attempts) k (λ a at.
    let from = map_from attempt_of attempts k a at in
    ap (λ (x : Attempt). is_open x.stage) (sym from.2) ∙ none from.0 from.1))
