-- A reply reaches an attempt.
use Rattle.std.proofs.Common.{Vec, Global, ◌≡◌, ◌≢◌, ℕ, ◌+◌, ◌^◌, ◌<◌, ◌≤◌, true, false, List, [], ◌∷◌, ◌++◌, length, Option, Some, None, Result, Ok, Err, arith, refl, sym, ap, ◌∙◌, subst, inl, inr, ⊎_elim}
use Rattle.std.proofs.lemmas.Option.{slice_get_within}
use Rattle.std.specs.Prelude.{◌⊎◌, IfOk, map, slice_get, slice_set, is_some, IsTrue}
use Rattle.fedi_address.specs.Iris.{host_of}
use Rattle.fedi_delivery.specs.Deliveries.{body_of, lookup_to, post_to}
use Rattle.fedi_delivery.specs.Replies.{IsCameOfPost, IsFoundIn}
use Rattle.fedi_delivery.specs.declared.replies.Found.{Found}
use Rattle.fedi_delivery.specs.declared.replies.Found.TheVariants.{Inbox, Ended}
use Rattle.fedi_entry.specs.Fields.{MayCome}
use Rattle.fedi_log.specs.Claims.{HasClaimed}
use Rattle.fedi_log.specs.Log.{Log, history_of}
use Rattle.fedi_logged.specs.Claiming.{IsPostSince}
use Rattle.fedi_logged.specs.Logs.{MachineLog}
use Rattle.fedi_logged.proofs.Attempts.{lookup_may, post_may}
use Rattle.fedi_objects.specs.declared.entry.Came.{Came}
use Rattle.fedi_objects.specs.declared.entry.Entry.{Entry}
use Rattle.fedi_outside.specs.Keepers.{KeeperState}
use Rattle.fedi_queue.specs.declared.rows.Claim.{Claim}
use Rattle.fedi_town.specs.Histories.{town}
use Rattle.fedi_worlds.specs.Events as events
use Rattle.fedi_worlds.specs.Steps.{Continues, Hears, Posts, Reaches, Records, Steps}
use Rattle.fedi_worlds.specs.Worlds as worlds
use Rattle.fedi_worlds.specs.Worlds.{Attempt, Reply, Request, Server, World, is_open, replaced}
use Rattle.fedi_world.specs.declared.event.Event.TheVariants.{Reach}
use Rattle.fedi_world.specs.declared.event.Happened.{Happened}
use Rattle.fedi_world.specs.declared.event.Happened.TheVariants.{Moved, Recorded}
use Rattle.fedi_world.specs.declared.event.WorldFault.{WorldFault}
use Rattle.fedi_world.specs.declared.event.WorldFault.TheVariants.{NoServer, NoRequest, NoReply, NoAttempt, NoName, Full, Memory}
use Rattle.fedi_world.specs.declared.parts.Answer.{Answer}
use Rattle.fedi_world.specs.declared.parts.Packet.{Packet}
use Rattle.fedi_world.specs.declared.parts.Pending.{Pending}
use Rattle.fedi_world.specs.declared.parts.Stage.{Stage}
use Rattle.fedi_world.specs.declared.parts.Stage.TheVariants.{Looking, Posting, Over}
use Rattle.fedi_world.specs.Ending.{HasClaim, HasNoOpen, IsHeard, IsOpenOf, IsPost, over}
use Rattle.fedi_world.specs.Happenings.{AreCaused, EndsIn, EndsWith, Forgets, Happens, IsEndedBy, IsForgotten, IsNoRoomFor, LacksRoom, Leaves, Limits}
use Rattle.fedi_world.specs.Scenes.{Scene, attempt_of, claim_in, reply_of, request_of, scene_of, stage_of, world_of}
use Rattle.fedi_world.specs.Standing.{IsReady, IsTied, IsWhole, pair_at}
use Rattle.fedi_world.proofs.Causes.{IsThere, caused_full, caused_memory, caused_ok, reach_nobody, reach_there, reach_unsent}
use Rattle.fedi_world.proofs.Ended.{IsOver, IsOverBy, end_records, ends_kept, forgotten, held_by, is_over, over_seated, whole_over}
use Rattle.fedi_world.proofs.Spots.{map_at, map_from, map_length, map_more, set_from}
use Rattle.fedi_world.proofs.Ties.{tied_moved}
use Rattle.fedi_world.proofs.Whole.{attempts_set, claims_set, ends_stay, fit_servers, reached_on}

-- ---- the attempt

-- the reply, the request that it answers, and the open attempt whose last request that is
pub record IsBack (requests : List Packet) (replies : List Answer) (attempts : List Pending) (j k : ℕ) (b : Answer) (q : Packet) (a : Pending) : Type 0 where
  pub sent : slice_get replies j ≡ Some b
  pub asked : slice_get requests b.request ≡ Some q
  pub of : q.attempt ≡ k
  pub there : slice_get attempts k ≡ Some a
  pub open_yet : is_open (stage_of a.stage) ≡ true
  pub last : a.request ≡ b.request

known_at : (requests : List Packet) (replies : List Answer) (attempts : List Pending) (j k : ℕ) (b : Answer) (q : Packet) (a : Pending) → IsBack requests replies attempts j k b q a
    → slice_get (map attempt_of attempts) (request_of q).attempt ≡ Some (attempt_of a)
known_at requests replies attempts j k b q a r = ap (λ (n : ℕ). slice_get (map attempt_of attempts) n) r.of ∙ map_at attempt_of attempts k a r.there

-- what the reply does is the event
reaches_by : {P : Type 0} (moment : ℕ) (seats : List (MachineLog P)) (requests : List Packet) (replies : List Answer) (attempts : List Pending) (j k : ℕ) (b : Answer) (q : Packet) (a : Pending)
    (v : World) → IsBack requests replies attempts j k b q a → Hears (stage_of a.stage) (world_of moment seats requests replies attempts) k (attempt_of a) b.text.items v
    → Reaches (world_of moment seats requests replies attempts) j v
reaches_by {P} moment seats requests replies attempts j k b q a v r hears = record {
  back = reply_of b;
  sent = map_at reply_of replies j b r.sent;
  request = request_of q;
  asked = map_at request_of requests b.request q r.asked;
  attempt = attempt_of a;
  known = known_at requests replies attempts j k b q a r;
  last = r.last;
  hears = subst (λ (n : ℕ). Hears (stage_of a.stage) (world_of moment seats requests replies attempts) n (attempt_of a) b.text.items v) (sym r.of) hears;
}

pub back_of : (requests : List Packet) (replies : List Answer) (attempts : List Pending) (j k : ℕ) (b : Answer) → slice_get replies j ≡ Some b → (o : IsOpenOf requests attempts b.request k)
    → (a : Pending) → slice_get attempts k ≡ Some a → IsBack requests replies attempts j k b o.packet a
back_of requests replies attempts j k b sent o a there =
    let same : o.attempt ≡ a = the_one o.attempt a (sym o.there ∙ there) in
    record {
      sent = sent;
      asked = o.sent;
      of = o.of;
      there = there;
      open_yet = subst (λ (x : Pending). is_open (stage_of x.stage) ≡ true) same o.open_yet;
      last = subst (λ (x : Pending). x.request ≡ b.request) same o.last;
    }
  where
    the_one : (x y : Pending) → Some x ≡ Some y → x ≡ y
    the_one x y e = cc

pub heard_by : (x a : Pending) (t text : List ℕ) (f shown : Found) → x ≡ a → t ≡ text → f ≡ shown → IsHeard (stage_of x.stage) x.recipient t f → IsHeard (stage_of a.stage) a.recipient text shown
heard_by x a t text f shown same is found heard =
    subst (λ (y : Pending). IsHeard (stage_of y.stage) y.recipient text shown) same
    (subst (λ (s : List ℕ). IsHeard (stage_of x.stage) x.recipient s shown) is (subst (λ (g : Found). IsHeard (stage_of x.stage) x.recipient t g) found heard))

-- the claim of the attempt
pub has_claim : {P : Type 0} (moment : ℕ) (seats : List (MachineLog P)) (requests : List Packet) (replies : List Answer) (attempts : List Pending) (k : ℕ) (a : Pending)
    → IsWhole moment seats requests replies attempts → slice_get attempts k ≡ Some a → is_open (stage_of a.stage) ≡ true → HasClaim seats attempts k
has_claim {P} moment seats requests replies attempts k a i there open_yet =
    let h = held_by {P = P} moment seats requests replies attempts k a i there open_yet in
    record { attempt = a; there = there; seat = h.seat; at = h.at; held = h.held }

pub claim_here : {P : Type 0} (seats : List (MachineLog P)) (attempts : List Pending) (k : ℕ) (a : Pending) (m : MachineLog P) → HasClaim seats attempts k → slice_get attempts k ≡ Some a
    → slice_get seats a.server ≡ Some m → HasClaimed (Some k) m.log (pair_at (attempt_of a)) (claim_in a)
claim_here {P} seats attempts k a m h there at =
    let same : h.attempt ≡ a = the_one h.attempt a (sym h.there ∙ there) in
    let own : h.seat ≡ m = the_seat h.seat m (sym h.at ∙ (ap (λ (x : Pending). slice_get seats x.server) same ∙ at)) in
    subst (λ (x : MachineLog P). HasClaimed (Some k) x.log (pair_at (attempt_of a)) (claim_in a)) own
    (subst (λ (x : Pending). HasClaimed (Some k) h.seat.log (pair_at (attempt_of x)) (claim_in x)) same h.held)
  where
    the_one : (x y : Pending) → Some x ≡ Some y → x ≡ y
    the_one x y e = cc

    the_seat : (x y : MachineLog P) → Some x ≡ Some y → x ≡ y
    the_seat x y e = cc

pub seat_here : {P : Type 0} (seats : List (MachineLog P)) (attempts : List Pending) (k : ℕ) (a : Pending) → HasClaim seats attempts k → slice_get attempts k ≡ Some a → a.server < length seats
seat_here {P} seats attempts k a h there =
    slice_get_within seats a.server h.seat (subst (λ (x : Pending). slice_get seats x.server ≡ Some h.seat) (the_one h.attempt a (sym h.there ∙ there)) h.at)
  where
    the_one : (x y : Pending) → Some x ≡ Some y → x ≡ y
    the_one x y e = cc

-- its post
pub post_told : {P E : Type 0} (seats : List (MachineLog P)) (attempts : List Pending) (k : ℕ) (inbox body : List ℕ) (a : Pending) (m : MachineLog P) (r : Result (Vec ℕ Global) E)
    → slice_get attempts k ≡ Some a → slice_get seats a.server ≡ Some m → body ≡ a.body.items → length body < 2 ^ 64
    → IfOk r (λ text. IsPostSince m.log (pair_at (attempt_of a)) inbox body text.items) → IfOk r (λ text. IsPost seats attempts k inbox text.items)
post_told {P} seats attempts k inbox body a m (Err e) there at is short since = tt
post_told {P} seats attempts k inbox body a m (Ok text) there at is short since = λ b x there' at'.
    let same : a ≡ b = the_one a b (sym there ∙ there') in
    let own : m ≡ x = the_seat m x (sym at ∙ (ap (λ (y : Pending). slice_get seats y.server) same ∙ at')) in
    subst (λ (y : Pending). IsPostSince x.log (pair_at (attempt_of y)) inbox y.body.items text.items × (length y.body.items < 2 ^ 64)) same
    (subst (λ (z : MachineLog P). IsPostSince z.log (pair_at (attempt_of a)) inbox a.body.items text.items × (length a.body.items < 2 ^ 64)) own
    (subst (λ (bs : List ℕ). IsPostSince m.log (pair_at (attempt_of a)) inbox bs text.items × (length bs < 2 ^ 64)) is (since, short)))
  where
    the_one : (x y : Pending) → Some x ≡ Some y → x ≡ y
    the_one x y e = cc

    the_seat : (x y : MachineLog P) → Some x ≡ Some y → x ≡ y
    the_seat x y e = cc

-- ---- the inbox was found

-- only a lookup finds one
looked : (stage : Stage) (recipient text inbox : List ℕ) → IsHeard (stage_of stage) recipient text (Inbox inbox) → (stage ≡ Looking) × IsFoundIn recipient (Some text) (Inbox inbox)
looked Looking recipient text inbox heard = (refl, heard)
looked Posting recipient text inbox heard = absurd (cc heard.1)
looked Over recipient text inbox heard = absurd (cc heard.1)

-- the attempt after its post was sent
abbrev pub posting : Pending → ℕ → Pending
posting a request = record a { request = request; stage = Posting }

-- the post is sent
pub record IsMoved {P : Type 0} (seats : List (MachineLog P)) (requests : List Packet) (replies : List Answer) (attempts : List Pending) (j k : ℕ) (b : Answer) (q : Packet) (a : Pending)
    (inbox : List ℕ) (post : Packet) : Type 0 where
  pub back : IsBack requests replies attempts j k b q a
  pub heard : IsHeard (stage_of a.stage) a.recipient b.text.items (Inbox inbox)
  pub is : IsPost seats attempts k inbox post.text.items
  pub mine : post.attempt ≡ k
  pub to : post.to ≡ inbox

same_moved : (moment : ℕ) (servers : List Server) (requests requests' : List Request) (replies : List Reply) (attempts attempts' : List Attempt) → requests' ≡ requests → attempts' ≡ attempts
    → ◌≡◌ {A = World} (record { moment = moment; servers = servers; requests = requests'; replies = replies; attempts = attempts' })
    (record { moment = moment; servers = servers; requests = requests; replies = replies; attempts = attempts })
same_moved moment servers requests requests' replies attempts attempts' a b = rw (a, b) refl

post_is : (k : ℕ) (post : Packet) (inbox : List ℕ) → post.attempt ≡ k → post.to ≡ inbox → request_of post ≡ record { attempt = k; host = host_of inbox; text = post.text.items }
post_is k post inbox mine to = rw (mine, to) refl

posted : {P : Type 0} (moment : ℕ) (seats : List (MachineLog P)) (requests : List Packet) (replies : List Answer) (attempts : List Pending) (j k : ℕ) (b : Answer) (q : Packet) (a : Pending)
    (inbox : List ℕ) (post : Packet) → IsWhole moment seats requests replies attempts → IsMoved seats requests replies attempts j k b q a inbox post
    → Posts (world_of moment seats requests replies attempts) k (attempt_of a) inbox
    (world_of moment seats (requests ++ post ∷ []) replies (slice_set attempts k (posting a (length requests))))
posted {P} moment seats requests replies attempts j k b q a inbox post i m =
    let r = i.ready k a m.back.there m.back.open_yet in
    let p = m.is a r.seat m.back.there r.there in
    let since : a.since.value.history ≡ history_of r.seen = r.since in
    let body : a.body.items ≡ body_of (town a.since.value.history) r.act = r.body ∙ ap (λ (h : List Entry). body_of (town h) r.act) (sym since) in
    record {
      place = r.place;
      act = r.act;
      there = ap (λ (h : List Entry). slice_get (town h).acts r.place) since ∙ r.kept;
      named = r.named;
      text = post.text.items;
      short = subst (λ (x : List ℕ). length x < 2 ^ 64) body p.1;
      sent = ap (λ (x : List ℕ). post_to (town a.since.value.history) a.recipient inbox x) (sym body)
          ∙ (ap (λ (h : List Entry). post_to (town h) a.recipient inbox a.body.items) since ∙ sym (p.0 r.seen r.more r.is r.known));
      after = same_moved moment _ _ _ (map reply_of replies) _ _
          (map_more request_of requests (post ∷ []) ∙ ap (λ (x : Request). map request_of requests ++ x ∷ []) (post_is k post inbox m.mine m.to))
          (attempts_set attempts k (posting a (length requests)) ∙ ap (λ (n : ℕ). replaced k (record (attempt_of a) { request = n; stage = worlds.Posting }) (map attempt_of attempts)) (sym (map_length request_of requests)));
    }

moved_event : {P : Type 0} (moment : ℕ) (seats : List (MachineLog P)) (requests : List Packet) (replies : List Answer) (attempts : List Pending) (j k : ℕ) (b : Answer) (q : Packet) (a : Pending)
    (inbox : List ℕ) (post : Packet) → IsWhole moment seats requests replies attempts → IsMoved seats requests replies attempts j k b q a inbox post
    → Reaches (world_of moment seats requests replies attempts) j (world_of moment seats (requests ++ post ∷ []) replies (slice_set attempts k (posting a (length requests))))
moved_event {P} moment seats requests replies attempts j k b q a inbox post i m =
    let found = looked a.stage a.recipient b.text.items inbox m.heard in
    let v = world_of moment seats (requests ++ post ∷ []) replies (slice_set attempts k (posting a (length requests))) in
    let hears : Hears (stage_of Looking) (world_of moment seats requests replies attempts) k (attempt_of a) b.text.items v =
    inl (inbox, found.1, posted {P = P} moment seats requests replies attempts j k b q a inbox post i m) in
    reaches_by {P = P} moment seats requests replies attempts j k b q a v m.back
    (subst (λ (s : Stage). Hears (stage_of s) (world_of moment seats requests replies attempts) k (attempt_of a) b.text.items v) (sym found.0) hears)

moved_steps : {P : Type 0} (moment : ℕ) (seats : List (MachineLog P)) (requests : List Packet) (replies : List Answer) (attempts : List Pending) (j k : ℕ) (b : Answer) (q : Packet) (a : Pending)
    (inbox : List ℕ) (post : Packet) → IsWhole moment seats requests replies attempts → IsMoved seats requests replies attempts j k b q a inbox post
    → Steps (world_of moment seats requests replies attempts) (events.Reach j) (world_of moment seats (requests ++ post ∷ []) replies (slice_set attempts k (posting a (length requests))))
moved_steps {P} moment seats requests replies attempts j k b q a inbox post i m = record {
  happens = moved_event {P = P} moment seats requests replies attempts j k b q a inbox post i m;
  fit = fit_servers {P = P} seats i.seated;
}

-- the attempt can go on as before
moved_ready : {P : Type 0} (moment : ℕ) (seats : List (MachineLog P)) (a : Pending) (n : ℕ) → IsReady moment seats a → IsReady moment seats (posting a n)
moved_ready {P} moment seats a n r = record {
  seat = r.seat;
  there = r.there;
  earlier = r.earlier;
  seen = r.seen;
  more = r.more;
  is = r.is;
  since = r.since;
  known = r.known;
  place = r.place;
  act = r.act;
  kept = r.kept;
  named = r.named;
  body = r.body;
}

pub whole_moved : {P : Type 0} (moment : ℕ) (seats : List (MachineLog P)) (requests requests' : List Packet) (replies : List Answer) (attempts attempts' : List Pending) (j k : ℕ) (b : Answer)
    (q : Packet) (a : Pending) (inbox : List ℕ) (post : Packet) → IsWhole moment seats requests replies attempts → IsMoved seats requests replies attempts j k b q a inbox post
    → requests' ≡ requests ++ post ∷ [] → attempts' ≡ slice_set attempts k (posting a (length requests)) → IsWhole moment seats requests' replies attempts'
whole_moved {P} moment seats requests requests' replies attempts attempts' j k b q a inbox post i m more later =
    let now = posting a (length requests) in
    let xs = map attempt_of attempts in
    let cs = map claim_in attempts in
    let at = map_at attempt_of attempts k a m.back.there in
    rw (more, later) record {
      reached = reached_on _ _ (events.Reach j) i.reached (moved_steps {P = P} moment seats requests replies attempts j k b q a inbox post i m);
      tied = λ n x there.
          rw (attempts_set attempts k now, claims_set attempts k a now m.back.there refl)
          (tied_moved xs cs n k x.log (attempt_of a) (attempt_of now) at refl (sym m.back.open_yet) (i.tied n x there));
      seated = i.seated;
      ready = λ l c there open_yet.
          ⊎_elim
          (λ (new : (l ≡ k) × (now ≡ c)). subst (λ (x : Pending). IsReady moment seats x) new.1 (moved_ready {P = P} moment seats a (length requests) (i.ready k a m.back.there m.back.open_yet)))
          (λ (old : (l ≢ k) × (slice_get attempts l ≡ Some c)). i.ready l c old.1 open_yet)
          (set_from attempts k now l c there);
    }

pub happens_moved : {P : Type 0} (l : Limits) (shown : P → KeeperState) (moment : ℕ) (seats : List (MachineLog P)) (requests requests' : List Packet) (replies : List Answer)
    (attempts attempts' : List Pending) (j k request : ℕ) (b : Answer) (q : Packet) (a : Pending) (inbox : List ℕ) (post : Packet) (old : Scene)
    → scene_of shown moment seats requests replies attempts ≡ old → request ≡ length requests → IsWhole moment seats requests replies attempts
    → IsMoved seats requests replies attempts j k b q a inbox post → requests' ≡ requests ++ post ∷ [] → attempts' ≡ slice_set attempts k (posting a (length requests))
    → Happens l old (Reach j) (Moved request) (scene_of shown moment seats requests' replies attempts')
happens_moved {P} l shown moment seats requests requests' replies attempts attempts' j k request b q a inbox post old same is i m more later =
    rw (sym same, more, later) record {
      kind = events.Reach j;
      means = refl;
      steps = moved_steps {P = P} moment seats requests replies attempts j k b q a inbox post i m;
      tells = (
        moved_event {P = P} moment seats requests replies attempts j k b q a inbox post i m,
        is ∙ sym (map_length request_of requests),
        map_length request_of (requests ++ post ∷ []) ∙ (one_more requests post ∙ ap (λ (n : ℕ). n + 1) (sym is)),
        refl,
      );
    }
  where
    one_more : (xs : List Packet) (x : Packet) → length (xs ++ x ∷ []) ≡ length xs + 1
    one_more [] x = refl
    one_more (y ∷ xs) x = let e = one_more xs x in omega (arith, e)

-- ---- the attempt ends

-- the result may be recorded
pub may_be : (stage : Stage) (recipient text : List ℕ) (came : Came) → IsHeard (stage_of stage) recipient text (Ended came) → MayCome came.step came.what
may_be Looking recipient text came heard = lookup_may recipient (Some text) came heard
may_be Posting recipient text came heard = let same : heard.0 ≡ came = cc (heard.1) in subst (λ (x : Came). MayCome x.step x.what) same (post_may (Some text) heard.0 heard.2)
may_be Over recipient text came heard = let same : heard.0 ≡ came = cc (heard.1) in subst (λ (x : Came). MayCome x.step x.what) same (post_may (Some text) heard.0 heard.2)

-- the result is what the reply shows
shows : (stage : Stage) (recipient text : List ℕ) (came : Came) → is_open (stage_of stage) ≡ true → IsHeard (stage_of stage) recipient text (Ended came) → EndsWith (stage_of stage) recipient text came
shows Looking recipient text came open_yet heard = heard
shows Posting recipient text came open_yet heard = let same : heard.0 ≡ came = cc (heard.1) in subst (λ (x : Came). IsCameOfPost (Some text) x) same heard.2
shows Over recipient text came open_yet heard = absurd (cc open_yet)

hears_end : (stage : worlds.Stage) (w : World) (k : ℕ) (a : Attempt) (text : List ℕ) (came : Came) (v : World) → EndsWith stage a.task.recipient text came → Records w k a came v
    → Hears stage w k a text v
hears_end worlds.Looking w k a text came v ends records = inr (came, ends, records)
hears_end worlds.Posting w k a text came v ends records = (came, ends, records)
hears_end worlds.Over w k a text came v ends records = absurd ends

-- the attempt ends with what the reply shows
pub record IsShut {P : Type 0} (l : Limits) (shown : P → KeeperState) (moment : ℕ) (seats now : List (MachineLog P)) (requests : List Packet) (replies : List Answer)
    (attempts later : List Pending) (j k : ℕ) (b : Answer) (q : Packet) (a : Pending) (came : Came) (r : Result (Unit {0}) WorldFault) : Type 0 where
  pub back : IsBack requests replies attempts j k b q a
  pub heard : IsHeard (stage_of a.stage) a.recipient b.text.items (Ended came)
  pub is : IsOverBy l shown moment seats now attempts later k a came r

abbrev over_of : {P : Type 0} (l : Limits) (shown : P → KeeperState) (moment : ℕ) (seats now : List (MachineLog P)) (requests : List Packet) (replies : List Answer)
    (attempts later : List Pending) (j k : ℕ) (b : Answer) (q : Packet) (a : Pending) (came : Came) (r : Result (Unit {0}) WorldFault)
    → (s : IsShut l shown moment seats now requests replies attempts later j k b q a came r) → IsOver moment seats attempts k a came s.is.m s.is.after
over_of {P} l shown moment seats now requests replies attempts later j k b q a came r s = is_over {P = P} l shown moment seats now attempts later k a came r s.back.there s.back.open_yet s.is

shut_event : {P : Type 0} (l : Limits) (shown : P → KeeperState) (moment : ℕ) (seats now : List (MachineLog P)) (requests : List Packet) (replies : List Answer)
    (attempts later : List Pending) (j k : ℕ) (b : Answer) (q : Packet) (a : Pending) (came : Came) (r : Result (Unit {0}) WorldFault) → IsWhole moment seats requests replies attempts
    → (s : IsShut l shown moment seats now requests replies attempts later j k b q a came r)
    → Reaches (world_of moment seats requests replies attempts) j (world_of moment (slice_set seats a.server s.is.after) requests replies (slice_set attempts k (over a)))
shut_event {P} l shown moment seats now requests replies attempts later j k b q a came r i s =
    let x = over_of {P = P} l shown moment seats now requests replies attempts later j k b q a came r s in
    let v = world_of moment (slice_set seats a.server s.is.after) requests replies (slice_set attempts k (over a)) in
    reaches_by {P = P} moment seats requests replies attempts j k b q a v s.back
    (hears_end (stage_of a.stage) (world_of moment seats requests replies attempts) k (attempt_of a) b.text.items came v (shows a.stage a.recipient b.text.items came s.back.open_yet s.heard)
    (end_records {P = P} moment seats requests replies attempts k a came s.is.m s.is.after i x))

shut_steps : {P : Type 0} (l : Limits) (shown : P → KeeperState) (moment : ℕ) (seats now : List (MachineLog P)) (requests : List Packet) (replies : List Answer)
    (attempts later : List Pending) (j k : ℕ) (b : Answer) (q : Packet) (a : Pending) (came : Came) (r : Result (Unit {0}) WorldFault) → IsWhole moment seats requests replies attempts
    → (s : IsShut l shown moment seats now requests replies attempts later j k b q a came r)
    → Steps (world_of moment seats requests replies attempts) (events.Reach j) (world_of moment (slice_set seats a.server s.is.after) requests replies (slice_set attempts k (over a)))
shut_steps {P} l shown moment seats now requests replies attempts later j k b q a came r i s = record {
  happens = shut_event {P = P} l shown moment seats now requests replies attempts later j k b q a came r i s;
  fit = fit_servers {P = P} (slice_set seats a.server s.is.after)
      (over_seated {P = P} moment seats requests replies attempts k a came s.is.m s.is.after i (over_of {P = P} l shown moment seats now requests replies attempts later j k b q a came r s));
}

pub whole_shut : {P : Type 0} (l : Limits) (shown : P → KeeperState) (moment : ℕ) (seats now : List (MachineLog P)) (requests : List Packet) (replies : List Answer)
    (attempts later : List Pending) (j k : ℕ) (b : Answer) (q : Packet) (a : Pending) (came : Came) (r : Result (Unit {0}) WorldFault) → IsWhole moment seats requests replies attempts
    → IsShut l shown moment seats now requests replies attempts later j k b q a came r → IsWhole moment now requests replies later
whole_shut {P} l shown moment seats now requests replies attempts later j k b q a came r i s =
    rw (s.is.seats_are, s.is.attempts_are) (whole_over {P = P} moment seats requests replies attempts k a came s.is.m s.is.after (events.Reach j) i
    (over_of {P = P} l shown moment seats now requests replies attempts later j k b q a came r s)
    (shut_steps {P = P} l shown moment seats now requests replies attempts later j k b q a came r i s))

pub happens_shut : {P : Type 0} (l : Limits) (shown : P → KeeperState) (moment : ℕ) (seats now : List (MachineLog P)) (requests : List Packet) (replies : List Answer)
    (attempts later : List Pending) (j k : ℕ) (b : Answer) (q : Packet) (a : Pending) (came : Came) (old : Scene) → scene_of shown moment seats requests replies attempts ≡ old
    → IsWhole moment seats requests replies attempts → IsShut l shown moment seats now requests replies attempts later j k b q a came (Ok tt)
    → Happens l old (Reach j) (Recorded came) (scene_of shown moment now requests replies later)
happens_shut {P} l shown moment seats now requests replies attempts later j k b q a came old same i s =
    rw (sym same, s.is.seats_are, s.is.attempts_are) record {
      kind = events.Reach j;
      means = refl;
      steps = shut_steps {P = P} l shown moment seats now requests replies attempts later j k b q a came (Ok tt) i s;
      tells = (
        shut_event {P = P} l shown moment seats now requests replies attempts later j k b q a came (Ok tt) i s,
        (k, ends_kept {P = P} l shown moment seats requests replies attempts k a came s.is.m s.is.after i s.back.there s.back.open_yet s.is.at s.is.fit s.is.stand s.is.ends),
      );
    }

ended_by : {P : Type 0} (moment : ℕ) (seats : List (MachineLog P)) (requests : List Packet) (replies : List Answer) (attempts : List Pending) (j k : ℕ) (b : Answer) (q : Packet) (a : Pending)
    (came : Came) → IsBack requests replies attempts j k b q a → IsHeard (stage_of a.stage) a.recipient b.text.items (Ended came)
    → IsEndedBy (world_of moment seats requests replies attempts) j (attempt_of a) came
ended_by {P} moment seats requests replies attempts j k b q a came r heard = record {
  back = reply_of b;
  sent = map_at reply_of replies j b r.sent;
  request = request_of q;
  asked = map_at request_of requests b.request q r.asked;
  known = known_at requests replies attempts j k b q a r;
  last = r.last;
  ends = shows a.stage a.recipient b.text.items came r.open_yet heard;
}

pub leaves_shut : {P : Type 0} (l : Limits) (shown : P → KeeperState) (moment : ℕ) (seats now : List (MachineLog P)) (requests : List Packet) (replies : List Answer)
    (attempts later : List Pending) (j k : ℕ) (b : Answer) (q : Packet) (a : Pending) (came : Came) (fault : WorldFault) (old : Scene)
    → scene_of shown moment seats requests replies attempts ≡ old → IsWhole moment seats requests replies attempts
    → IsShut l shown moment seats now requests replies attempts later j k b q a came (Err fault) → Leaves l fault old (Reach j) (scene_of shown moment now requests replies later)
leaves_shut {P} l shown moment seats now requests replies attempts later j k b q a came fault old same i s =
    rw (sym same, s.is.seats_are, s.is.attempts_are) (by fault s)
  where
    by : (f : WorldFault) → (s : IsShut l shown moment seats now requests replies attempts later j k b q a came (Err f))
        → Leaves l f (scene_of shown moment seats requests replies attempts) (Reach j) (scene_of shown moment (slice_set seats a.server s.is.after) requests replies (slice_set attempts k (over a)))
    by NoServer s = absurd s.is.ends
    by NoRequest s = absurd s.is.ends
    by NoReply s = absurd s.is.ends
    by NoAttempt s = absurd s.is.ends
    by NoName s = absurd s.is.ends
    by Full s = (
      (
        attempt_of a,
        came,
        ended_by {P = P} moment seats requests replies attempts j k b q a came s.back s.heard,
        record {
          end = (shown s.is.m.core.keeper).end;
          there = map_at (λ (z : MachineLog P). (shown z.core.keeper).end) seats a.server s.is.m s.is.at;
          full = s.is.ends.2;
        },
      ),
      (
        shut_event {P = P} l shown moment seats now requests replies attempts later j k b q a came (Err Full) i s,
        (k, forgotten {P = P} moment seats requests replies attempts k a came s.is.m s.is.after i (over_of {P = P} l shown moment seats now requests replies attempts later j k b q a came (Err Full) s) refl),
      ),
      ends_stay {P = P} shown seats a.server s.is.m s.is.after s.is.at s.is.ends.3,
    )
    by Memory s = (
      inr (
        shut_event {P = P} l shown moment seats now requests replies attempts later j k b q a came (Err Memory) i s,
        (k, forgotten {P = P} moment seats requests replies attempts k a came s.is.m s.is.after i (over_of {P = P} l shown moment seats now requests replies attempts later j k b q a came (Err Memory) s) refl),
      ),
      ends_stay {P = P} shown seats a.server s.is.m s.is.after s.is.at s.is.ends.2,
    )

-- ---- why it does not

back_there : {P : Type 0} (moment : ℕ) (seats : List (MachineLog P)) (requests : List Packet) (replies : List Answer) (attempts : List Pending) (j k : ℕ) (b : Answer) (q : Packet) (a : Pending)
    → IsBack requests replies attempts j k b q a → IsThere (world_of moment seats requests replies attempts) (Reach j)
back_there {P} moment seats requests replies attempts j k b q a r =
    reach_there (world_of moment seats requests replies attempts) j (reply_of b) (request_of q) (attempt_of a) (map_at reply_of replies j b r.sent)
    (map_at request_of requests b.request q r.asked) (known_at requests replies attempts j k b q a r) r.open_yet r.last

pub reached_causes : {P : Type 0} (moment : ℕ) (seats : List (MachineLog P)) (requests : List Packet) (replies : List Answer) (attempts : List Pending) (j k : ℕ) (b : Answer) (q : Packet)
    (a : Pending) (what : Happened) (old : World) → world_of moment seats requests replies attempts ≡ old → IsBack requests replies attempts j k b q a → AreCaused old (Reach j) (Ok what)
reached_causes {P} moment seats requests replies attempts j k b q a what old same r =
    rw (sym same) (caused_ok (world_of moment seats requests replies attempts) (Reach j) what (back_there {P = P} moment seats requests replies attempts j k b q a r))

pub unread_causes : {P : Type 0} (moment : ℕ) (seats : List (MachineLog P)) (requests : List Packet) (replies : List Answer) (attempts : List Pending) (j k : ℕ) (b : Answer) (q : Packet)
    (a : Pending) (old : World) → world_of moment seats requests replies attempts ≡ old → IsBack requests replies attempts j k b q a → AreCaused old (Reach j) (Err Memory)
unread_causes {P} moment seats requests replies attempts j k b q a old same r =
    rw (sym same) (caused_memory (world_of moment seats requests replies attempts) (Reach j) (back_there {P = P} moment seats requests replies attempts j k b q a r))

pub shut_causes : {P : Type 0} (l : Limits) (shown : P → KeeperState) (moment : ℕ) (seats now : List (MachineLog P)) (requests : List Packet) (replies : List Answer)
    (attempts later : List Pending) (j k : ℕ) (b : Answer) (q : Packet) (a : Pending) (came : Came) (fault : WorldFault) (old : World)
    → world_of moment seats requests replies attempts ≡ old → IsShut l shown moment seats now requests replies attempts later j k b q a came (Err fault) → AreCaused old (Reach j) (Err fault)
shut_causes {P} l shown moment seats now requests replies attempts later j k b q a came fault old same s = rw (sym same) (by fault s)
  where
    by : (f : WorldFault) → IsShut l shown moment seats now requests replies attempts later j k b q a came (Err f) → AreCaused (world_of moment seats requests replies attempts) (Reach j) (Err f)
    by NoServer s = absurd s.is.ends
    by NoRequest s = absurd s.is.ends
    by NoReply s = absurd s.is.ends
    by NoAttempt s = absurd s.is.ends
    by NoName s = absurd s.is.ends
    by Full s = caused_full (world_of moment seats requests replies attempts) (Reach j) (back_there {P = P} moment seats requests replies attempts j k b q a s.back)
    by Memory s = caused_memory (world_of moment seats requests replies attempts) (Reach j) (back_there {P = P} moment seats requests replies attempts j k b q a s.back)

pub unsent_reply_causes : {P : Type 0} (moment : ℕ) (seats : List (MachineLog P)) (requests : List Packet) (replies : List Answer) (attempts : List Pending) (j : ℕ) (old : World)
    → world_of moment seats requests replies attempts ≡ old → length replies ≤ j → AreCaused old (Reach j) (Err NoReply)
unsent_reply_causes {P} moment seats requests replies attempts j old same past =
    rw (sym same) (reach_unsent (world_of moment seats requests replies attempts) j
    (let e : length (map reply_of replies) ≡ length replies = map_length reply_of replies in omega (arith, e, past)))

-- the reply answers the last request of no open attempt
pub unheard_causes : {P : Type 0} (moment : ℕ) (seats : List (MachineLog P)) (requests : List Packet) (replies : List Answer) (attempts : List Pending) (j : ℕ) (b : Answer)
    (old : World) → world_of moment seats requests replies attempts ≡ old → slice_get replies j ≡ Some b → HasNoOpen requests attempts b.request → AreCaused old (Reach j) (Err NoAttempt)
unheard_causes {P} moment seats requests replies attempts j b old same sent nobody =
    rw (sym same) (reach_nobody (world_of moment seats requests replies attempts) j (reply_of b) (map_at reply_of replies j b sent) (λ q a asked known open_yet last.
    let from = map_from request_of requests b.request q asked in
    let whose = map_from attempt_of attempts q.attempt a known in
    nobody from.0 whose.0 from.1 (ap (λ (x : Request). slice_get attempts x.attempt) from.2 ∙ whose.1)
    (ap (λ (x : Attempt). is_open x.stage) whose.2 ∙ open_yet) (ap (λ (x : Attempt). x.request) whose.2 ∙ last)))
