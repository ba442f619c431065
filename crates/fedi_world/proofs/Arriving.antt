-- A request arrives at a server.
use Rattle.std.proofs.Common.{Vec, Global, ◌≡◌, ◌≢◌, ℕ, ◌+◌, ◌^◌, ◌<◌, ◌≤◌, true, false, List, [], ◌∷◌, ◌++◌, length, Option, Some, None, Result, Ok, Err, arith, refl, sym, ap, ◌∙◌, subst, append-nil}
use Rattle.std.specs.Prelude.{◌⊎◌, map, slice_get, slice_set, is_some, IsTrue}
use Rattle.fedi_address.specs.Iris.{host_of}
use Rattle.fedi_log.specs.Log.{given}
use Rattle.fedi_logged.specs.Logs.{MachineLog}
use Rattle.fedi_model.specs.Answers.{caller_of}
use Rattle.fedi_model.specs.ReplyText.{reply_text}
use Rattle.fedi_model.specs.declared.reply.Reply as answers
use Rattle.fedi_model.specs.declared.request.Request as asked
use Rattle.fedi_objects.specs.declared.entry.Entry.{Entry}
use Rattle.fedi_outside.specs.declared.keepers.Keeper.{Ghosts}
use Rattle.fedi_seat.specs.Serving.{Gives, Serves, Stays}
use Rattle.fedi_seat.specs.declared.seat.Served.{Served}
use Rattle.fedi_town.specs.Collections.{text_of}
use Rattle.fedi_town.specs.Histories.{town}
use Rattle.fedi_town.specs.declared.refusal.Refusal.{Refusal}
use Rattle.fedi_worlds.specs.Events as events
use Rattle.fedi_worlds.specs.Steps.{Arrives, Comes, IsAnswered, IsFit, Steps, ends_by, is_head_only}
use Rattle.fedi_worlds.proofs.Places.{some_is}
use Rattle.fedi_worlds.specs.Worlds.{Attempt, Reply, Request, Server, World, keeping}
use Rattle.fedi_world.specs.declared.event.Event.TheVariants.{Arrive}
use Rattle.fedi_world.specs.declared.event.Happened.TheVariants.{Answered}
use Rattle.fedi_world.specs.declared.event.WorldFault.TheVariants.{NoRequest, NoServer, Memory}
use Rattle.fedi_world.specs.declared.parts.Answer.{Answer}
use Rattle.fedi_world.specs.declared.parts.Packet.{Packet}
use Rattle.fedi_world.specs.declared.parts.Pending.{Pending}
use Rattle.fedi_world.specs.Happenings.{AnswersAt, AreCaused, Happens, Leaves, limits}
use Rattle.fedi_world.specs.Reading.{IsAt, IsNowhere}
use Rattle.fedi_world.specs.Scenes.{Scene, attempt_of, ends_of, reply_of, request_of, scene_of, world_of}
use Rattle.fedi_world.specs.Standing.{IsSeated, IsWhole}
use Rattle.fedi_world.proofs.Causes.{arrive_nowhere, arrive_there, arrive_unsent, caused_memory, caused_ok}
use Rattle.fedi_world.proofs.Kept.{AreUntried, IsGrown, fits_grown, grown_servers, is_grown, seated_grown, stays_scene, untried_answer, untried_settled, whole_grown, whole_stays}
use Rattle.fedi_world.proofs.Spots.{map_at, map_from, map_length, map_more}
use Rattle.fedi_world.proofs.Whole.{ends_stay, fit_servers, seen_at}

-- ---- where it arrives

-- the request, and the server that has its host
pub record IsCome {P : Type 0} (seats : List (MachineLog P)) (requests : List Packet) (k n : ℕ) (p : Packet) (m : MachineLog P) : Type 0 where
  pub sent : slice_get requests k ≡ Some p
  pub at : slice_get seats n ≡ Some m
  pub host : (town m.core.history).host ≡ Some (host_of p.to)

same_host : (h : Option (List ℕ)) (host : List ℕ) → h ≡ Some host → text_of h ≡ host
same_host h host is = ap text_of is

come_there : {P : Type 0} (moment : ℕ) (seats : List (MachineLog P)) (requests : List Packet) (replies : List Answer) (attempts : List Pending) (k n : ℕ) (p : Packet) (m : MachineLog P)
    → IsCome seats requests k n p m → (seen_at m).host ≡ (request_of p).host
come_there {P} moment seats requests replies attempts k n p m c = same_host (town m.core.history).host (host_of p.to) c.host

pub come_of : {P : Type 0} (seats : List (MachineLog P)) (requests : List Packet) (k n : ℕ) (p : Packet) (m : MachineLog P) (host : List ℕ) → slice_get requests k ≡ Some p → IsAt seats host n
    → host ≡ host_of p.to → slice_get seats n ≡ Some m → IsCome seats requests k n p m
come_of {P} seats requests k n p m host sent is same at = record {
  sent = sent;
  at = at;
  host = subst (λ (x : MachineLog P). (town x.core.history).host ≡ Some (host_of p.to)) (some_is is.0 m (sym is.1 ∙ at)) (is.2 ∙ ap (λ (h : List ℕ). Some h) same);
}

-- ---- what is answered

-- the reply, and what the server keeps
pub record IsAnswer {P : Type 0} (k : Ghosts P) (seats : List (MachineLog P)) (n : ℕ) (text : List ℕ) (moment : ℕ) (m now : MachineLog P) (served : Served) : Type 0 where
  pub came : Result asked.Request Refusal
  pub body : List ℕ
  pub comes : Comes text came body
  pub given : answers.Reply
  pub more : List Entry
  pub answered : IsAnswered m.core.history moment came body given more
  pub fits : AnswersAt (limits k.growth k.room) n m.core.history moment came body given more (ends_of k.shown seats) (ends_of k.shown (slice_set seats n now))
  pub short : length given.body < 2 ^ 64
  pub status : served.status ≡ given.status
  pub text_is : served.text.items ≡ reply_text moment (is_head_only came) (ends_by came) given
  pub grown : IsGrown seats n m now more

is_answer : {P : Type 0} (k : Ghosts P) (seats : List (MachineLog P)) (n : ℕ) (text : List ℕ) (moment : ℕ) (m now : MachineLog P) (served : Served) → slice_get seats n ≡ Some m
    → Serves k text moment served m now → IsFit now.core.history → IsAnswer k seats n text moment m now served
is_answer {P} k seats n text moment m now served at s fit = by s.0 s.2 s.3.gives s.3.short s.3.status s.3.text_is
  where
    by : (came : Result asked.Request Refusal) → Comes text came s.1 → Gives k moment came s.1 s.3.given m now → length s.3.given.body < 2 ^ 64 → served.status ≡ s.3.given.status
        → served.text.items ≡ reply_text moment (is_head_only came) (ends_by came) s.3.given → IsAnswer k seats n text moment m now served
    by (Ok q) comes g short status text_is = record {
      came = Ok q;
      body = s.1;
      comes = comes;
      given = s.3.given;
      more = g.3.more;
      answered = (g.0, g.1, g.2, g.3.settles);
      fits = (g.0, g.1, g.2, g.3.settles, fits_grown {P = P} k seats n m now g.1 g.3.more at g.3.keeps);
      short = short;
      status = status;
      text_is = text_is;
      grown = is_grown k seats n m now g.1 g.3.more at g.3.keeps fit
          (untried_settled g.0 g.1 s.3.given g.3.more g.3.settles (untried_answer (town m.core.history) moment (caller_of (town m.core.history) q s.1) q s.1 g.0 g.1 g.2));
    }
    by (Err e) comes g short status text_is = record {
      came = Err e;
      body = s.1;
      comes = comes;
      given = s.3.given;
      more = [];
      answered = (g.0, refl);
      fits = ends_stay {P = P} k.shown seats n m now at g.1.end;
      short = short;
      status = status;
      text_is = text_is;
      grown = record {
        at = at;
        history = g.1.history ∙ sym (append-nil m.core.history);
        log = g.1.log ∙ sym (append-nil m.log);
        fit = fit;
        untried = tt;
      };
    }

-- ---- the event

same_arrived : (moment : ℕ) (servers servers' : List Server) (requests : List Request) (replies replies' : List Reply) (attempts : List Attempt) → servers' ≡ servers → replies' ≡ replies
    → ◌≡◌ {A = World} (record { moment = moment; servers = servers'; requests = requests; replies = replies'; attempts = attempts })
    (record { moment = moment; servers = servers; requests = requests; replies = replies; attempts = attempts })
same_arrived moment servers servers' requests replies replies' attempts a b = rw (a, b) refl

reply_is : (k : ℕ) (b : Answer) (text : List ℕ) → b.request ≡ k → b.text.items ≡ text → reply_of b ≡ record { request = k; text = text }
reply_is k b text of is = rw (of, is) refl

arrived_event : {P : Type 0} (k : Ghosts P) (moment : ℕ) (seats : List (MachineLog P)) (requests : List Packet) (replies : List Answer) (attempts : List Pending) (number n : ℕ) (p : Packet)
    (m now : MachineLog P) (served : Served) (b : Answer) → IsWhole moment seats requests replies attempts → IsCome seats requests number n p m
    → b.request ≡ number → b.text ≡ served.text → (a : IsAnswer k seats n p.text.items moment m now served)
    → Arrives (world_of moment seats requests replies attempts) number a.given (world_of moment (slice_set seats n now) requests (replies ++ b ∷ []) attempts)
arrived_event {P} k moment seats requests replies attempts number n p m now served b i c of text a = record {
  request = request_of p;
  sent = map_at request_of requests number p c.sent;
  number = n;
  server = seen_at m;
  there = map_at (seen_at {P = P}) seats n m c.at;
  host = come_there {P = P} moment seats requests replies attempts number n p m c;
  came = a.came;
  body = a.body;
  comes = a.comes;
  more = a.more;
  answered = a.answered;
  short = a.short;
  after = same_arrived moment _ _ (map request_of requests) _ _ (map attempt_of attempts)
      (grown_servers {P = P} seats n m now a.more (i.seated n m c.at) a.grown)
      (map_more reply_of replies (b ∷ []) ∙ ap (λ (r : Reply). map reply_of replies ++ r ∷ []) (reply_is number b _ of (ap (λ (v : Vec ℕ Global). v.items) text ∙ a.text_is)));
}

arrived_steps : {P : Type 0} (k : Ghosts P) (moment : ℕ) (seats : List (MachineLog P)) (requests : List Packet) (replies : List Answer) (attempts : List Pending) (number n : ℕ) (p : Packet)
    (m now : MachineLog P) (served : Served) (b : Answer) → IsWhole moment seats requests replies attempts → IsCome seats requests number n p m
    → b.request ≡ number → b.text ≡ served.text → IsAnswer k seats n p.text.items moment m now served
    → Steps (world_of moment seats requests replies attempts) (events.Arrive number) (world_of moment (slice_set seats n now) requests (replies ++ b ∷ []) attempts)
arrived_steps {P} k moment seats requests replies attempts number n p m now served b i c of text a = record {
  happens = (a.given, arrived_event {P = P} k moment seats requests replies attempts number n p m now served b i c of text a);
  fit = fit_servers {P = P} (slice_set seats n now) (seated_grown {P = P} moment seats requests replies attempts n m now a.more i a.grown);
}

pub whole_arrived : {P : Type 0} (k : Ghosts P) (moment : ℕ) (seats : List (MachineLog P)) (requests : List Packet) (replies replies' : List Answer) (attempts : List Pending) (number n : ℕ) (p : Packet)
    (m now : MachineLog P) (served : Served) (b : Answer) → IsWhole moment seats requests replies attempts → IsCome seats requests number n p m
    → b.request ≡ number → b.text ≡ served.text → Serves k p.text.items moment served m now → IsFit now.core.history → replies' ≡ replies ++ b ∷ []
    → IsWhole moment (slice_set seats n now) requests replies' attempts
whole_arrived {P} k moment seats requests replies replies' attempts number n p m now served b i c of text s fit more =
    let a = is_answer {P = P} k seats n p.text.items moment m now served c.at s fit in
    rw more (whole_grown {P = P} moment seats requests replies (replies ++ b ∷ []) attempts n m now a.more (events.Arrive number) i a.grown
    (arrived_steps {P = P} k moment seats requests replies attempts number n p m now served b i c of text a))

pub happens_arrived : {P : Type 0} (k : Ghosts P) (moment : ℕ) (seats : List (MachineLog P)) (requests : List Packet) (replies replies' : List Answer) (attempts : List Pending) (number n reply : ℕ)
    (p : Packet) (m now : MachineLog P) (served : Served) (b : Answer) (old : Scene) → scene_of k.shown moment seats requests replies attempts ≡ old → reply ≡ length replies
    → IsWhole moment seats requests replies attempts → IsCome seats requests number n p m → b.request ≡ number → b.text ≡ served.text → Serves k p.text.items moment served m now
    → IsFit now.core.history → replies' ≡ replies ++ b ∷ []
    → Happens (limits k.growth k.room) old (Arrive number) (Answered reply served.status) (scene_of k.shown moment (slice_set seats n now) requests replies' attempts)
unfolding arrived_event is_answer
happens_arrived {P} k moment seats requests replies replies' attempts number n reply p m now served b old same is i c of text s fit more =
    let a = is_answer {P = P} k seats n p.text.items moment m now served c.at s fit in
    rw (sym same, more) record {
      kind = events.Arrive number;
      means = refl;
      steps = arrived_steps {P = P} k moment seats requests replies attempts number n p m now served b i c of text a;
      tells = (
        a.given,
        arrived_event {P = P} k moment seats requests replies attempts number n p m now served b i c of text a,
        is ∙ sym (map_length reply_of replies),
        a.status,
        a.fits,
      );
    }

-- ---- why it does not

pub arrived_causes : {P : Type 0} (moment : ℕ) (seats : List (MachineLog P)) (requests : List Packet) (replies : List Answer) (attempts : List Pending) (number n reply status : ℕ)
    (p : Packet) (m : MachineLog P) (old : World) → world_of moment seats requests replies attempts ≡ old → IsCome seats requests number n p m
    → AreCaused old (Arrive number) (Ok (Answered reply status))
arrived_causes {P} moment seats requests replies attempts number n reply status p m old same c =
    rw (sym same) (caused_ok (world_of moment seats requests replies attempts) (Arrive number) (Answered reply status)
    (arrive_there (world_of moment seats requests replies attempts) number (request_of p) n (seen_at m) (map_at request_of requests number p c.sent) (map_at (seen_at {P = P}) seats n m c.at)
    (come_there {P = P} moment seats requests replies attempts number n p m c)))

pub unarrived_causes : {P : Type 0} (moment : ℕ) (seats : List (MachineLog P)) (requests : List Packet) (replies : List Answer) (attempts : List Pending) (number n : ℕ)
    (p : Packet) (m : MachineLog P) (old : World) → world_of moment seats requests replies attempts ≡ old → IsCome seats requests number n p m
    → AreCaused old (Arrive number) (Err Memory)
unarrived_causes {P} moment seats requests replies attempts number n p m old same c =
    rw (sym same) (caused_memory (world_of moment seats requests replies attempts) (Arrive number)
    (arrive_there (world_of moment seats requests replies attempts) number (request_of p) n (seen_at m) (map_at request_of requests number p c.sent) (map_at (seen_at {P = P}) seats n m c.at)
    (come_there {P = P} moment seats requests replies attempts number n p m c)))

pub unsent_causes : {P : Type 0} (moment : ℕ) (seats : List (MachineLog P)) (requests : List Packet) (replies : List Answer) (attempts : List Pending) (k : ℕ) (old : World)
    → world_of moment seats requests replies attempts ≡ old → length requests ≤ k → AreCaused old (Arrive k) (Err NoRequest)
unsent_causes {P} moment seats requests replies attempts k old same past =
    rw (sym same) (arrive_unsent (world_of moment seats requests replies attempts) k
    (let e : length (map request_of requests) ≡ length requests = map_length request_of requests in omega (arith, e, past)))

-- no server has the host of the request
pub homeless_causes : {P : Type 0} (moment : ℕ) (seats : List (MachineLog P)) (requests : List Packet) (replies : List Answer) (attempts : List Pending) (number : ℕ)
    (p : Packet) (old : World) → world_of moment seats requests replies attempts ≡ old → IsWhole moment seats requests replies attempts → slice_get requests number ≡ Some p
    → IsNowhere seats (host_of p.to) → AreCaused old (Arrive number) (Err NoServer)
homeless_causes {P} moment seats requests replies attempts number p old same i sent nowhere =
    rw (sym same) (arrive_nowhere (world_of moment seats requests replies attempts) number (request_of p) (map_at request_of requests number p sent) (λ n s at host.
    let from = map_from (seen_at {P = P}) seats n s at in
    let m = from.0 in
    nowhere n m from.1 (whole_host (town m.core.history).host (i.seated n m from.1).hosted (ap (λ (x : Server). x.host) from.2 ∙ host))))
  where
    whole_host : (h : Option (List ℕ)) → IsTrue (is_some h) → text_of h ≡ host_of p.to → h ≡ Some (host_of p.to)
    whole_host None there is = absurd (cc there)
    whole_host (Some x) there is = ap (λ (y : List ℕ). Some y) is

pub leaves_unarrived : {P : Type 0} (k : Ghosts P) (moment : ℕ) (seats : List (MachineLog P)) (requests : List Packet) (replies : List Answer) (attempts : List Pending) (number n : ℕ)
    (m now : MachineLog P) (old : Scene) → scene_of k.shown moment seats requests replies attempts ≡ old → slice_get seats n ≡ Some m → Stays k m now
    → Leaves (limits k.growth k.room) Memory old (Arrive number) (scene_of k.shown moment (slice_set seats n now) requests replies attempts)
leaves_unarrived {P} k moment seats requests replies attempts number n m now old same at s =
    let is = stays_scene {P = P} k moment seats requests replies attempts n m now at s ∙ same in (ap (λ (s : Scene). s.world) is, ap (λ (s : Scene). s.ends) is)
