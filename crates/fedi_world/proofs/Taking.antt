-- A server claims a delivery, and looks its recipient up.
use Rattle.std.proofs.Common.{◌≡◌, ◌≢◌, ℕ, ◌+◌, ◌≤◌, Bool, true, false, List, [], ◌∷◌, ◌++◌, length, Option, Some, None, arith, refl, sym, ap, ◌∙◌, subst, inl, inr, ⊎_elim, eq-eqb, ne_eqb, nat_eq, append-nil, append_assoc}
use Rattle.std.specs.Prelude.{◌⊎◌, ◌&&◌, ◌||◌, not, map, filter, slice_get, slice_set, is_some, IsTrue, if◌then◌else◌}
use Rattle.std.specs.List.{list_any}
use Rattle.fedi_address.specs.Iris.{host_of}
use Rattle.fedi_delivery.specs.declared.sending.Outgoing.{Outgoing}
use Rattle.fedi_delivery.specs.Deliveries.{IsOutgoing, body_of, lookup_to}
use Rattle.fedi_log.specs.Claims.{HasClaimed, IsFirst, claimed_by, free_in, is_claimed_in, is_same_pair, is_taken_in}
use Rattle.fedi_log.specs.Log.{Log, entry_in, history_of, made_by}
use Rattle.fedi_log.specs.declared.items.Pair.{Pair}
use Rattle.fedi_log.specs.declared.items.What.{What}
use Rattle.fedi_log.specs.declared.items.What.TheVariants.{Released}
use Rattle.fedi_log.proofs.Claiming.{claimed_more, own_pair, same_pair, still_claimed}
use Rattle.fedi_log.proofs.Growing.{history_append}
use Rattle.fedi_logged.specs.Claiming.{ChangesClaims, IsSending}
use Rattle.fedi_logged.specs.Logs.{MachineLog}
use Rattle.fedi_outside.specs.Keepers.{KeeperState}
use Rattle.fedi_objects.specs.declared.entry.Entry.{Entry}
use Rattle.fedi_queue.specs.Due.{IsTo, due_in}
use Rattle.fedi_queue.specs.declared.rows.Claim.{Claim}
use Rattle.fedi_town.specs.declared.act.Act.{Act}
use Rattle.fedi_town.specs.Histories.{town}
use Rattle.fedi_town.specs.Queues.{Delivery}
use Rattle.fedi_worlds.specs.Events as events
use Rattle.fedi_worlds.specs.Steps.{Claims, Idles, IsFit, Steps, free_at}
use Rattle.fedi_worlds.specs.Worlds.{Attempt, Request, Reply, Server, World, Looking as AtLookup, is_open, is_open_at}
use Rattle.fedi_world.specs.declared.event.Event.TheVariants.{Claim as Claiming}
use Rattle.fedi_world.specs.declared.event.Happened.TheVariants.{Idle, Sent}
use Rattle.fedi_world.specs.declared.parts.Answer.{Answer}
use Rattle.fedi_world.specs.declared.parts.Packet.{Packet}
use Rattle.fedi_world.specs.declared.parts.Pending.{Pending}
use Rattle.fedi_world.specs.declared.parts.Stage.TheVariants.{Looking}
use Rattle.fedi_world.specs.declared.event.WorldFault.TheVariants.{Memory}
use Rattle.fedi_world.specs.Happenings.{Happens, Leaves, Limits}
use Rattle.fedi_world.specs.Scenes.{Scene, attempt_of, claim_in, ends_of, reply_of, request_of, scene_of, server_of, stage_of, world_of}
use Rattle.fedi_world.specs.Standing.{IsReached, IsReady, IsSeated, IsTied, IsWhole, pair_at}
use Rattle.fedi_world.specs.Taking.{IsIdle, IsMade, IsReleased, IsTaken}
use Rattle.fedi_world.proofs.Spots.{map_at, map_kept, map_length, map_more, set_here}
use Rattle.fedi_world.proofs.Ties.{before_end, by_other, tied_beside, tied_claimed, tied_free}
use Rattle.fedi_world.proofs.Whole.{fit_servers, reached_on, ready_set, seated_set, seen_at, servers_same, tied_set}
use Rattle.fedi_worlds.proofs.Places.{old_or_new}

-- ---- the server

-- the history of a log with one more item
history_item : (by : Option ℕ) (what : What) (log : Log) → history_of (log ++ made_by by what ∷ []) ≡ history_of log ++ entry_in what
history_item by what log = history_append log (made_by by what ∷ []) ∙ ap (λ (es : List Entry). history_of log ++ es) (append-nil (entry_in what))

-- the server is the same apart from its claims
pub seated_same : {P : Type 0} (m now : MachineLog P) → now.core.history ≡ m.core.history → history_of now.log ≡ history_of m.log → IsSeated m → IsSeated now
seated_same {P} m now same log s = record {
  logged = same ∙ s.logged ∙ sym log;
  hosted = subst (λ (h : List Entry). IsTrue (is_some (town h).host)) (sym same) s.hosted;
  fit = subst IsFit (sym same) s.fit;
}

-- where the records end stays
pub ends_same : {P : Type 0} (shown : P → KeeperState) (seats : List (MachineLog P)) (n : ℕ) (m now : MachineLog P) → slice_get seats n ≡ Some m → now.core.keeper ≡ m.core.keeper
    → ends_of shown (slice_set seats n now) ≡ ends_of shown seats
ends_same {P} shown seats n m now at same =
    map_kept (λ (x : MachineLog P). (shown x.core.keeper).end) seats n m now at (ap (λ (k : P). (shown k).end) same)

-- ---- the world afterwards

same_world : (moment : ℕ) (servers servers' : List Server) (requests requests' : List Request) (replies : List Reply) (attempts attempts' : List Attempt)
    → servers' ≡ servers → requests' ≡ requests → attempts' ≡ attempts
    → ◌≡◌ {A = World} (record { moment = moment; servers = servers'; requests = requests'; replies = replies; attempts = attempts' })
    (record { moment = moment; servers = servers; requests = requests; replies = replies; attempts = attempts })
same_world moment servers servers' requests requests' replies attempts attempts' a b c = rw (a, b, c) refl

attempt_is : (server : ℕ) (since : List Entry) (request : ℕ) (a : Pending) → a.server ≡ server → a.since.value.history ≡ since → a.request ≡ request → a.stage ≡ Looking
    → attempt_of a ≡ record { task = record { server = server; since = since; activity = a.activity.value; recipient = a.recipient }; request = request; stage = AtLookup }
attempt_is server since request a of is number stage = rw (of, is, number, ap stage_of stage) refl

request_is : (attempt : ℕ) (a : Pending) (q : Packet) → q.attempt ≡ attempt → q.to ≡ a.recipient
    → request_of q ≡ record { attempt = attempt; host = host_of a.recipient; text = q.text.items }
request_is attempt a q mine to = rw (mine, to) refl

pub record IsClaim {P : Type 0} (moment : ℕ) (seats : List (MachineLog P)) (requests : List Packet) (attempts : List Pending) (n : ℕ) (m now : MachineLog P) (a : Pending) (q : Packet)
    : Type 0 where
  pub at : slice_get seats n ≡ Some m
  pub taken : IsTaken n (length attempts) (length requests) moment m now a q

claim_event : {P : Type 0} (moment : ℕ) (seats : List (MachineLog P)) (requests : List Packet) (replies : List Answer) (attempts : List Pending) (n : ℕ) (m now : MachineLog P) (a : Pending) (q : Packet)
    → IsWhole moment seats requests replies attempts → IsClaim moment seats requests attempts n m now a q
    → Claims (world_of moment seats requests replies attempts) n (world_of moment (slice_set seats n now) (requests ++ q ∷ []) replies (attempts ++ a ∷ []))
claim_event {P} moment seats requests replies attempts n m now a q i c =
    let t = c.taken in
    let same = t.changes.history in
    record {
      server = seen_at m;
      there = map_at (seen_at {P = P}) seats n m c.at;
      id = a.activity.value;
      recipient = a.recipient;
      first = subst (λ (ds : List Delivery). IsFirst a.activity.value a.recipient ds)
          (tied_free (map attempt_of attempts) (map claim_in attempts) n moment m.core.history m.log (i.seated n m c.at).logged (i.tied n m c.at)) t.first;
      text = q.text.items;
      sent = subst (λ (h : List Entry). lookup_to (town h) a.recipient ≡ Some q.text.items) same t.made.lookup;
      after = same_world moment _ _ _ _ (map reply_of replies) _ _
          (servers_same {P = P} seats n m now c.at same)
          (map_more request_of requests (q ∷ []) ∙ ap (λ (r : Request). map request_of requests ++ r ∷ []) (request_is (length (map attempt_of attempts)) a q (t.made.mine ∙ sym (map_length attempt_of attempts)) t.made.addressed))
          (map_more attempt_of attempts (a ∷ []) ∙ ap (λ (r : Attempt). map attempt_of attempts ++ r ∷ [])
          (attempt_is n m.core.history (length (map request_of requests)) a t.made.of (t.made.since ∙ same) (t.made.number ∙ sym (map_length request_of requests)) t.made.stage));
    }

claim_seated : {P : Type 0} (moment : ℕ) (seats : List (MachineLog P)) (requests : List Packet) (replies : List Answer) (attempts : List Pending) (n : ℕ) (m now : MachineLog P) (a : Pending) (q : Packet)
    → IsWhole moment seats requests replies attempts → IsClaim moment seats requests attempts n m now a q
    → (j : ℕ) (x : MachineLog P) → slice_get (slice_set seats n now) j ≡ Some x → IsSeated x
claim_seated {P} moment seats requests replies attempts n m now a q i c =
    seated_set {P = P} seats n now
    (seated_same {P = P} m now c.taken.changes.history
    (ap history_of c.taken.log ∙ history_item (Some (length attempts)) (claimed_by (pair_at (attempt_of a)) (claim_in a)) m.log ∙ append-nil (history_of m.log)) (i.seated n m c.at)) i.seated

claim_steps : {P : Type 0} (moment : ℕ) (seats : List (MachineLog P)) (requests : List Packet) (replies : List Answer) (attempts : List Pending) (n : ℕ) (m now : MachineLog P) (a : Pending) (q : Packet)
    → IsWhole moment seats requests replies attempts → IsClaim moment seats requests attempts n m now a q
    → Steps (world_of moment seats requests replies attempts) (events.Claim n) (world_of moment (slice_set seats n now) (requests ++ q ∷ []) replies (attempts ++ a ∷ []))
claim_steps {P} moment seats requests replies attempts n m now a q i c = record {
  happens = inl (claim_event {P = P} moment seats requests replies attempts n m now a q i c);
  fit = fit_servers {P = P} (slice_set seats n now) (claim_seated {P = P} moment seats requests replies attempts n m now a q i c);
}

-- ---- what is claimed

open_own : (a : Pending) (n : ℕ) → a.server ≡ n → a.stage ≡ Looking → is_open_at n (attempt_of a) ≡ true
unfolding is_open_at
open_own a n of stage = rw (ap stage_of stage, of) (same n)
  where
    same : (n : ℕ) → nat_eq n n ≡ true
    same n = eq-eqb n n refl

shut_beside : (a : Pending) (n j : ℕ) → a.server ≡ n → j ≢ n → is_open_at j (attempt_of a) ≡ false
unfolding is_open_at
shut_beside a n j of apart = ap (λ (b : Bool). is_open (stage_of a.stage) && b) (ne_eqb a.server j (λ same. apart (sym same ∙ of))) ∙ none (is_open (stage_of a.stage))
  where
    none : (b : Bool) → (b && false) ≡ false
    none true = refl
    none false = refl

-- what is claimed at every server, after the new attempt
claim_tied : {P : Type 0} (moment : ℕ) (seats : List (MachineLog P)) (requests : List Packet) (replies : List Answer) (attempts : List Pending) (n : ℕ) (m now : MachineLog P) (a : Pending) (q : Packet)
    → IsWhole moment seats requests replies attempts → IsClaim moment seats requests attempts n m now a q
    → (j : ℕ) (x : MachineLog P) → slice_get (slice_set seats n now) j ≡ Some x → IsTied (map attempt_of (attempts ++ a ∷ [])) (map claim_in (attempts ++ a ∷ [])) j x.log
claim_tied {P} moment seats requests replies attempts n m now a q i c =
    let t = c.taken in
    let xs = map attempt_of attempts in
    let cs = map claim_in attempts in
    let x = attempt_of a in
    let d = claim_in a in
    let even : length cs ≡ length xs = map_length claim_in attempts ∙ sym (map_length attempt_of attempts) in
    let own : IsTied (xs ++ x ∷ []) (cs ++ d ∷ []) n now.log =
    subst (λ (l : Log). IsTied (xs ++ x ∷ []) (cs ++ d ∷ []) n l)
    (ap (λ (k : ℕ). m.log ++ made_by (Some k) (claimed_by (pair_at x) d) ∷ []) (map_length attempt_of attempts) ∙ sym t.log)
    (tied_claimed xs cs n m.log x d even (open_own a n t.made.of t.made.stage) (i.tied n m c.at)) in
    let later = map_more attempt_of attempts (a ∷ []) in
    let after = map_more claim_in attempts (a ∷ []) in
    let all = tied_set {P = P} seats n now xs (xs ++ x ∷ []) cs (cs ++ d ∷ []) own (λ j log apart tied. tied_beside xs cs j log x d (shut_beside a n j t.made.of apart) tied) i.tied in
    λ j y at. rw (later, after) (all j y at)

-- the new attempt can go on
claim_ready : {P : Type 0} (moment : ℕ) (seats : List (MachineLog P)) (requests : List Packet) (attempts : List Pending) (n : ℕ) (m now : MachineLog P) (a : Pending) (q : Packet)
    → m.core.history ≡ history_of m.log → IsClaim moment seats requests attempts n m now a q → IsReady moment (slice_set seats n now) a
claim_ready {P} moment seats requests attempts n m now a q logged c =
    let t = c.taken in
    let k = t.made in
    let is : now.core.history ≡ history_of m.log = t.changes.history ∙ logged in
    record {
      seat = now;
      there = ap (λ (j : ℕ). slice_get (slice_set seats n now) j) k.of ∙ set_here seats n m now c.at;
      earlier = let e = t.claimed in omega (arith, e);
      seen = m.log;
      more = made_by (Some (length attempts)) (claimed_by (pair_at (attempt_of a)) (claim_in a)) ∷ [];
      is = t.log;
      since = k.since ∙ is;
      known = subst (λ (h : List Entry). IsTrue (is_some (lookup_to (town h) a.recipient))) is (rw k.lookup refl);
      place = (claim_in a).activity;
      act = k.act;
      kept = subst (λ (h : List Entry). slice_get (town h).acts (claim_in a).activity ≡ Some k.act) is k.kept;
      named = k.named;
      body = subst (λ (h : List Entry). a.body.items ≡ body_of (town h) k.act) is k.body;
    }

claim_is : {P : Type 0} (moment : ℕ) (seats : List (MachineLog P)) (requests : List Packet) (attempts : List Pending) (n : ℕ) (m now : MachineLog P) (a : Pending) (q : Packet) (attempt request : ℕ)
    → attempt ≡ length attempts → request ≡ length requests → slice_get seats n ≡ Some m → IsTaken n attempt request moment m now a q → IsClaim moment seats requests attempts n m now a q
claim_is {P} moment seats requests attempts n m now a q attempt request first second at taken = record {
  at = at;
  taken = subst (λ (k : ℕ). IsTaken n k (length requests) moment m now a q) first (subst (λ (k : ℕ). IsTaken n attempt k moment m now a q) second taken);
}

-- the world has one more attempt
pub whole_claimed : {P : Type 0} (moment : ℕ) (seats : List (MachineLog P)) (requests requests' : List Packet) (replies : List Answer) (attempts attempts' : List Pending) (n : ℕ) (m now : MachineLog P)
    (a : Pending) (q : Packet) (attempt request : ℕ) → attempt ≡ length attempts → request ≡ length requests → IsWhole moment seats requests replies attempts → slice_get seats n ≡ Some m
    → IsTaken n attempt request moment m now a q → requests' ≡ requests ++ q ∷ [] → attempts' ≡ attempts ++ a ∷ []
    → IsWhole moment (slice_set seats n now) requests' replies attempts'
whole_claimed {P} moment seats requests requests' replies attempts attempts' n m now a q attempt request first second i at taken more later =
    let c = claim_is {P = P} moment seats requests attempts n m now a q attempt request first second at taken in rw (more, later) record {
      reached = reached_on _ _ (events.Claim n) i.reached (claim_steps {P = P} moment seats requests replies attempts n m now a q i c);
      tied = claim_tied {P = P} moment seats requests replies attempts n m now a q i c;
      seated = claim_seated {P = P} moment seats requests replies attempts n m now a q i c;
      ready = λ k b at open_yet.
          ⊎_elim
          (λ (old : slice_get attempts k ≡ Some b). ready_set moment moment seats n m now _ b (omega arith) c.at c.taken.log (i.ready k b old open_yet))
          (λ (new : (k ≡ length attempts) × (a ≡ b)). subst (λ (x : Pending). IsReady moment (slice_set seats n now) x) new.1 (claim_ready {P = P} moment seats requests attempts n m now a q (i.seated n m c.at).logged c))
          (old_or_new attempts a b k at);
    }

pub happens_claimed : {P : Type 0} (l : Limits) (shown : P → KeeperState) (moment : ℕ) (seats : List (MachineLog P)) (requests requests' : List Packet) (replies : List Answer)
    (attempts attempts' : List Pending) (n attempt request : ℕ) (m now : MachineLog P) (a : Pending) (q : Packet) (old : Scene) → scene_of shown moment seats requests replies attempts ≡ old
    → attempt ≡ length attempts → request ≡ length requests
    → IsWhole moment seats requests replies attempts → slice_get seats n ≡ Some m → IsTaken n attempt request moment m now a q → requests' ≡ requests ++ q ∷ [] → attempts' ≡ attempts ++ a ∷ []
    → Happens l old (Claiming n) (Sent attempt request) (scene_of shown moment (slice_set seats n now) requests' replies attempts')
happens_claimed {P} l shown moment seats requests requests' replies attempts attempts' n attempt request m now a q old same first second i at taken more later =
    let c = claim_is {P = P} moment seats requests attempts n m now a q attempt request first second at taken in
    rw (sym same, more, later) record {
      kind = events.Claim n;
      means = refl;
      steps = claim_steps {P = P} moment seats requests replies attempts n m now a q i c;
      tells = (
        claim_event {P = P} moment seats requests replies attempts n m now a q i c,
        first ∙ sym (map_length attempt_of attempts),
        second ∙ sym (map_length request_of requests),
        ends_same {P = P} shown seats n m now c.at c.taken.changes.keeper,
      );
    }

-- ---- nothing is claimed

pub record IsNoClaim {P : Type 0} (moment : ℕ) (seats : List (MachineLog P)) (n : ℕ) (m now : MachineLog P) : Type 0 where
  pub at : slice_get seats n ≡ Some m
  pub idle : IsIdle moment m now

idle_seated : {P : Type 0} (moment : ℕ) (seats : List (MachineLog P)) (requests : List Packet) (replies : List Answer) (attempts : List Pending) (n : ℕ) (m now : MachineLog P)
    → IsWhole moment seats requests replies attempts → IsNoClaim moment seats n m now → (j : ℕ) (x : MachineLog P) → slice_get (slice_set seats n now) j ≡ Some x → IsSeated x
idle_seated {P} moment seats requests replies attempts n m now i c =
    seated_set {P = P} seats n now (seated_same {P = P} m now c.idle.changes.history (ap history_of c.idle.log) (i.seated n m c.at)) i.seated

idle_event : {P : Type 0} (moment : ℕ) (seats : List (MachineLog P)) (requests : List Packet) (replies : List Answer) (attempts : List Pending) (n : ℕ) (m now : MachineLog P)
    → IsWhole moment seats requests replies attempts → IsNoClaim moment seats n m now
    → Idles (world_of moment seats requests replies attempts) n (world_of moment (slice_set seats n now) requests replies attempts)
idle_event {P} moment seats requests replies attempts n m now i c = record {
  server = seen_at m;
  there = map_at (seen_at {P = P}) seats n m c.at;
  none = sym (tied_free (map attempt_of attempts) (map claim_in attempts) n moment m.core.history m.log (i.seated n m c.at).logged (i.tied n m c.at)) ∙ c.idle.free;
  after = same_world moment _ _ _ _ (map reply_of replies) _ _ (servers_same {P = P} seats n m now c.at c.idle.changes.history) refl refl;
}

idle_steps : {P : Type 0} (moment : ℕ) (seats : List (MachineLog P)) (requests : List Packet) (replies : List Answer) (attempts : List Pending) (n : ℕ) (m now : MachineLog P)
    → IsWhole moment seats requests replies attempts → IsNoClaim moment seats n m now
    → Steps (world_of moment seats requests replies attempts) (events.Claim n) (world_of moment (slice_set seats n now) requests replies attempts)
idle_steps {P} moment seats requests replies attempts n m now i c = record {
  happens = inr (idle_event {P = P} moment seats requests replies attempts n m now i c);
  fit = fit_servers {P = P} (slice_set seats n now) (idle_seated {P = P} moment seats requests replies attempts n m now i c);
}

-- a server changes nothing that is seen of it
pub whole_same : {P : Type 0} (moment : ℕ) (seats : List (MachineLog P)) (requests requests' : List Packet) (replies : List Answer) (attempts attempts' : List Pending) (n : ℕ) (m now : MachineLog P) (rest : Log)
    → slice_get seats n ≡ Some m → now.core.history ≡ m.core.history → now.log ≡ m.log ++ rest → history_of rest ≡ []
    → IsTied (map attempt_of attempts) (map claim_in attempts) n now.log → requests' ≡ requests → attempts' ≡ attempts
    → IsWhole moment seats requests replies attempts → IsWhole moment (slice_set seats n now) requests' replies attempts'
whole_same {P} moment seats requests requests' replies attempts attempts' n m now rest at same log silent own more later i = rw (more, later) record {
  reached = subst (λ (w : World). IsReached w) (sym (same_world moment _ _ _ _ (map reply_of replies) _ _ (servers_same {P = P} seats n m now at same) refl refl)) i.reached;
  tied = tied_set {P = P} seats n now (map attempt_of attempts) (map attempt_of attempts) (map claim_in attempts) (map claim_in attempts) own (λ j l apart tied. tied) i.tied;
  seated = seated_set {P = P} seats n now (seated_same {P = P} m now same
      (ap history_of log ∙ history_append m.log rest ∙ ap (λ (es : List Entry). history_of m.log ++ es) silent ∙ append-nil (history_of m.log)) (i.seated n m at)) i.seated;
  ready = λ k b there open_yet. ready_set moment moment seats n m now rest b (omega arith) at log (i.ready k b there open_yet);
}

pub whole_idle : {P : Type 0} (moment : ℕ) (seats : List (MachineLog P)) (requests requests' : List Packet) (replies : List Answer) (attempts attempts' : List Pending) (n : ℕ) (m now : MachineLog P)
    → IsWhole moment seats requests replies attempts → IsNoClaim moment seats n m now → requests' ≡ requests → attempts' ≡ attempts
    → IsWhole moment (slice_set seats n now) requests' replies attempts'
whole_idle {P} moment seats requests requests' replies attempts attempts' n m now i c more later =
    whole_same {P = P} moment seats requests requests' replies attempts attempts' n m now [] c.at c.idle.changes.history (c.idle.log ∙ sym (append-nil m.log)) refl
    (subst (λ (l : Log). IsTied (map attempt_of attempts) (map claim_in attempts) n l) (sym c.idle.log) (i.tied n m c.at)) more later i

pub happens_idle : {P : Type 0} (l : Limits) (shown : P → KeeperState) (moment : ℕ) (seats : List (MachineLog P)) (requests requests' : List Packet) (replies : List Answer) (attempts attempts' : List Pending)
    (n : ℕ) (m now : MachineLog P) (old : Scene) → scene_of shown moment seats requests replies attempts ≡ old
    → IsWhole moment seats requests replies attempts → IsNoClaim moment seats n m now → requests' ≡ requests → attempts' ≡ attempts
    → Happens l old (Claiming n) Idle (scene_of shown moment (slice_set seats n now) requests' replies attempts')
happens_idle {P} l shown moment seats requests requests' replies attempts attempts' n m now old same i c more later =
    rw (sym same, more, later) record {
      kind = events.Claim n;
      means = refl;
      steps = idle_steps {P = P} moment seats requests replies attempts n m now i c;
      tells = (idle_event {P = P} moment seats requests replies attempts n m now i c, ends_same {P = P} shown seats n m now c.at c.idle.changes.keeper);
    }

-- ---- what was claimed is released again

-- the delivery that is free first was not claimed
first_unclaimed : (id recipient : List ℕ) (log : Log) (ds : List Delivery) → IsFirst id recipient (filter (λ (d : Delivery). not (is_taken_in log d.activity d.recipient)) ds)
    → is_claimed_in log (record { activity = id; recipient = recipient }) ≡ false
first_unclaimed id recipient log [] first = absurd first
first_unclaimed id recipient log (d ∷ ds) first = by (is_taken_in log d.activity d.recipient) refl (first_unclaimed id recipient log ds) first
  where
    rest : List Delivery
    rest = filter (λ (x : Delivery). not (is_taken_in log x.activity x.recipient)) ds

    by : (b : Bool) → is_taken_in log d.activity d.recipient ≡ b
        → (IsFirst id recipient rest → is_claimed_in log (record { activity = id; recipient = recipient }) ≡ false)
        → IsFirst id recipient (if not b then d ∷ rest else rest)
        → is_claimed_in log (record { activity = id; recipient = recipient }) ≡ false
    by true is on f = on f
    by false is on f = subst (λ (r : List ℕ). is_claimed_in log (record { activity = id; recipient = r }) ≡ false) f.1
        (subst (λ (o : Option (List ℕ)). is_taken_in log o d.recipient ≡ false) f.0 is)

-- nothing else is claimed or released by it
tied_back : (attempts : List Attempt) (claims : List Claim) (n : ℕ) (log : Log) (p : Pair) (c : Claim) → is_claimed_in log p ≡ false → IsTied attempts claims n log
    → IsTied attempts claims n ((log ++ made_by (Some (length attempts)) (claimed_by p c) ∷ []) ++ made_by (Some (length attempts)) (Released p) ∷ [])
tied_back attempts claims n log p c free t =
    let by = Some (length attempts) in
    let mid = log ++ made_by by (claimed_by p c) ∷ [] in
    record {
      held = λ k a there open_yet.
          let was = t.held k a there open_yet in
          let apart = before_end attempts a k there in (
            was.0,
            was.1,
            still_claimed (Some k) mid _ (pair_at a) was.0 (by_other k (length attempts) mid (Released p) apart)
                (still_claimed (Some k) log mid (pair_at a) was.0 (by_other k (length attempts) log (claimed_by p c) apart) was.2),
          );
      taken = λ q.
          claimed_more by mid (Released p) q
          ∙ (ap (λ (b : Bool). b && not (is_same_pair q p)) (claimed_more by log (claimed_by p c) q) ∙ (cancels (is_claimed_in log q) (is_same_pair q p) (λ same. ap (is_claimed_in log) (same_pair q p same) ∙ free) ∙ t.taken q));
    }
  where
    cancels : (b s : Bool) → (s ≡ true → b ≡ false) → ((b || s) && not s) ≡ b
    cancels true true h = sym (h refl)
    cancels false true h = refl
    cancels true false h = refl
    cancels false false h = refl

pub whole_released : {P : Type 0} (moment : ℕ) (seats : List (MachineLog P)) (requests requests' : List Packet) (replies : List Answer) (attempts attempts' : List Pending) (n : ℕ) (m now : MachineLog P)
    → IsWhole moment seats requests replies attempts → slice_get seats n ≡ Some m → (number : ℕ) → number ≡ length attempts → IsReleased number moment m now → requests' ≡ requests → attempts' ≡ attempts
    → IsWhole moment (slice_set seats n now) requests' replies attempts'
whole_released {P} moment seats requests requests' replies attempts attempts' n m now i at number is_number released more later =
    let r = subst (λ (k : ℕ). IsReleased k moment m now) is_number released in
    let xs = map attempt_of attempts in
    let cs = map claim_in attempts in
    let items = made_by (Some (length attempts)) (claimed_by r.pair r.claim) ∷ made_by (Some (length attempts)) (Released r.pair) ∷ [] in
    let log : now.log ≡ m.log ++ items = r.log ∙ append_assoc m.log _ _ in
    let free = first_unclaimed r.pair.activity r.pair.recipient m.log (due_in (town (history_of m.log)) moment) r.first in
    let own : IsTied xs cs n now.log =
    subst (λ (l : Log). IsTied xs cs n l)
    (ap (λ (k : ℕ). (m.log ++ made_by (Some k) (claimed_by r.pair r.claim) ∷ []) ++ made_by (Some k) (Released r.pair) ∷ []) (map_length attempt_of attempts) ∙ sym r.log)
    (tied_back xs cs n m.log r.pair r.claim free (i.tied n m at)) in
    whole_same {P = P} moment seats requests requests' replies attempts attempts' n m now items at r.changes.history log refl own more later i

-- the world is as before
pub same_scene : {P : Type 0} (shown : P → KeeperState) (moment : ℕ) (seats : List (MachineLog P)) (requests requests' : List Packet) (replies : List Answer) (attempts attempts' : List Pending) (n : ℕ)
    (m now : MachineLog P) (old : Scene) → scene_of shown moment seats requests replies attempts ≡ old → slice_get seats n ≡ Some m → ChangesClaims m.core now.core → requests' ≡ requests → attempts' ≡ attempts
    → scene_of shown moment (slice_set seats n now) requests' replies attempts' ≡ old
same_scene {P} shown moment seats requests requests' replies attempts attempts' n m now old same at changes more later =
    rw (more, later, servers_same {P = P} seats n m now at changes.history, ends_same {P = P} shown seats n m now at changes.keeper) same

pub leaves_released : {P : Type 0} (l : Limits) (shown : P → KeeperState) (moment : ℕ) (seats : List (MachineLog P)) (requests requests' : List Packet) (replies : List Answer) (attempts attempts' : List Pending) (n : ℕ)
    (m now : MachineLog P) (old : Scene) → scene_of shown moment seats requests replies attempts ≡ old → slice_get seats n ≡ Some m → ChangesClaims m.core now.core → requests' ≡ requests → attempts' ≡ attempts
    → Leaves l Memory old (Claiming n) (scene_of shown moment (slice_set seats n now) requests' replies attempts')
leaves_released {P} l shown moment seats requests requests' replies attempts attempts' n m now old same at changes more later =
    let was = same_scene {P = P} shown moment seats requests requests' replies attempts attempts' n m now old same at changes more later in
    (ap (λ (s : Scene). s.world) was, ap (λ (s : Scene). s.ends) was)

-- ---- what is made for a claim

same_pair_of : (a : Pending) (p : Pair) → a.activity.value ≡ p.activity → a.recipient ≡ p.recipient → p ≡ pair_at (attempt_of a)
same_pair_of a p activity recipient = rw (activity, recipient) refl

pub made_of : {P : Type 0} (server attempt request : ℕ) (seat : MachineLog P) (c : Claim) (a : Pending) (q : Packet) (p : Pair) (o : Outgoing) → seat.core.history ≡ history_of seat.log
    → HasClaimed (Some attempt) seat.log p c → IsSending (town (history_of seat.log)) p c a.recipient o → a.server ≡ server → claim_in a ≡ c → a.since.value.history ≡ seat.core.history
    → a.activity.value ≡ p.activity → a.request ≡ request → a.stage ≡ Looking → a.body ≡ o.body → q.attempt ≡ attempt → q.to ≡ a.recipient → q.text ≡ o.lookup
    → IsMade server attempt request seat c a q
made_of {P} server attempt request seat c a q p o logged has s of claim since activity number stage body mine to text =
    let h = seat.core.history in
    let sent : IsOutgoing (town h) s.act p.recipient o = subst (λ (g : List Entry). IsOutgoing (town g) s.act p.recipient o) (sym logged) s.sent in
    record {
      of = of;
      claim = claim;
      held = subst (λ (x : Pair). HasClaimed (Some attempt) seat.log x c) (same_pair_of a p activity s.recipient_is) has;
      since = since;
      number = number;
      stage = stage;
      act = s.act;
      kept = subst (λ (g : List Entry). slice_get (town g).acts c.activity ≡ Some s.act) (sym logged) s.there;
      named = s.named ∙ ap (λ (x : List ℕ). Some x) (sym activity);
      body = rw body sent.body;
      mine = mine;
      addressed = to;
      lookup = rw (text, s.recipient_is) sent.lookup;
    }
