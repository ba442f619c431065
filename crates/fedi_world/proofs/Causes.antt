-- Each fault that says that something is not there comes exactly if it is not.
use Rattle.std.proofs.Common.{Vec, Global, ◌≡◌, ◌≢◌, ℕ, zero, suc, ◌<◌, ◌≤◌, true, false, List, [], ◌∷◌, length, Option, Some, None, Result, Ok, Err, arith, refl, sym, ap, ◌∙◌, subst}
use Rattle.std.specs.Prelude.{map, slice_get, IsErr, IsErrAnd}
use Rattle.fedi_town.specs.Histories.{town}
use Rattle.fedi_town.specs.Towns.{id_of}
use Rattle.fedi_worlds.specs.Worlds.{Attempt, Reply, Request, Server, World, is_open}
use Rattle.fedi_worlds.proofs.Places.{some_is}
use Rattle.fedi_world.specs.declared.event.Event.{Event}
use Rattle.fedi_world.specs.declared.event.Event.TheVariants.{Say, Claim, Arrive, Reach, Lose, Crash, Wait}
use Rattle.fedi_world.specs.declared.event.Happened.{Happened}
use Rattle.fedi_world.specs.declared.event.WorldFault.{WorldFault}
use Rattle.fedi_world.specs.declared.event.WorldFault.TheVariants.{NoServer, NoRequest, NoReply, NoAttempt, NoName, Full, Memory}
use Rattle.fedi_world.specs.declared.parts.Answer.{Answer}
use Rattle.fedi_world.specs.declared.parts.Packet.{Packet}
use Rattle.fedi_world.specs.declared.parts.Pending.{Pending}
use Rattle.fedi_world.specs.Scenes.{world_of}
use Rattle.fedi_world.proofs.Spots.{map_length}
use Rattle.fedi_world.proofs.Whole.{seen_at}
use Rattle.fedi_logged.specs.Logs.{MachineLog}
use Rattle.fedi_world.specs.Happenings.{AreCaused, LacksAttempt, LacksName, LacksReply, LacksRequest, LacksServer}

-- ---- something is there, or is not

pub at_below : {A : Type 0} (xs : List A) (n : ℕ) (x : A) → slice_get xs n ≡ Some x → length xs ≤ n → ⊥
at_below [] n x at past = absurd cc
at_below (y ∷ xs) zero x at past = omega (arith, past)
at_below (y ∷ xs) (suc n) x at past = at_below xs n x at (omega (arith, past))

pub none_past : {A : Type 0} (xs : List A) (n : ℕ) → slice_get xs n ≡ None → length xs ≤ n
none_past [] n none = omega arith
none_past (y ∷ xs) zero none = absurd cc
none_past (y ∷ xs) (suc n) none = let past = none_past xs n none in omega (arith, past)

-- a server of the world, by its number
pub among : {P : Type 0} (moment : ℕ) (seats : List (MachineLog P)) (requests : List Packet) (replies : List Answer) (attempts : List Pending) (n : ℕ) (old : World)
    → world_of moment seats requests replies attempts ≡ old → n < length seats → n < length old.servers
among {P} moment seats requests replies attempts n old same below =
    subst (λ (w : World). n < length w.servers) same (let e : length (map (seen_at {P = P}) seats) ≡ length seats = map_length (seen_at {P = P}) seats in omega (arith, e, below))

pub beyond : {P : Type 0} (moment : ℕ) (seats : List (MachineLog P)) (requests : List Packet) (replies : List Answer) (attempts : List Pending) (n : ℕ) (old : World)
    → world_of moment seats requests replies attempts ≡ old → length seats ≤ n → length old.servers ≤ n
beyond {P} moment seats requests replies attempts n old same past =
    subst (λ (w : World). length w.servers ≤ n) same (let e : length (map (seen_at {P = P}) seats) ≡ length seats = map_length (seen_at {P = P}) seats in omega (arith, e, past))

-- the error of a call that takes memory
pub err_memory : {T : Type 0} (r : Result T WorldFault) → IsErr r → IsErrAnd r (λ fault. fault ≡ Memory) → r ≡ Err Memory
err_memory (Ok x) is and = absurd and
err_memory (Err f) is and = ap (λ (x : WorldFault). Err x) and

-- ---- what is not missing

pub record IsThere (w : World) (event : Event) : Type 0 where
  pub server : LacksServer w event → ⊥
  pub request : LacksRequest w event → ⊥
  pub reply : LacksReply w event → ⊥
  pub attempt : LacksAttempt w event → ⊥
  pub name : LacksName w event → ⊥

pub caused_ok : (w : World) (event : Event) (what : Happened) → IsThere w event → AreCaused w event (Ok what)
caused_ok w event what t = record {
  no_server = ((λ is. absurd (cc is)), (λ lacks. absurd (t.server lacks)));
  no_request = ((λ is. absurd (cc is)), (λ lacks. absurd (t.request lacks)));
  no_reply = ((λ is. absurd (cc is)), (λ lacks. absurd (t.reply lacks)));
  no_attempt = ((λ is. absurd (cc is)), (λ lacks. absurd (t.attempt lacks)));
  no_name = ((λ is. absurd (cc is)), (λ lacks. absurd (t.name lacks)));
}

pub caused_full : (w : World) (event : Event) → IsThere w event → AreCaused w event (Err Full)
caused_full w event t = record {
  no_server = ((λ is. absurd (cc is)), (λ lacks. absurd (t.server lacks)));
  no_request = ((λ is. absurd (cc is)), (λ lacks. absurd (t.request lacks)));
  no_reply = ((λ is. absurd (cc is)), (λ lacks. absurd (t.reply lacks)));
  no_attempt = ((λ is. absurd (cc is)), (λ lacks. absurd (t.attempt lacks)));
  no_name = ((λ is. absurd (cc is)), (λ lacks. absurd (t.name lacks)));
}

pub caused_memory : (w : World) (event : Event) → IsThere w event → AreCaused w event (Err Memory)
caused_memory w event t = record {
  no_server = ((λ is. absurd (cc is)), (λ lacks. absurd (t.server lacks)));
  no_request = ((λ is. absurd (cc is)), (λ lacks. absurd (t.request lacks)));
  no_reply = ((λ is. absurd (cc is)), (λ lacks. absurd (t.reply lacks)));
  no_attempt = ((λ is. absurd (cc is)), (λ lacks. absurd (t.attempt lacks)));
  no_name = ((λ is. absurd (cc is)), (λ lacks. absurd (t.name lacks)));
}

-- ---- one thing is missing

server_missing : (w : World) (event : Event) → LacksServer w event → (LacksRequest w event → ⊥) → (LacksReply w event → ⊥) → (LacksAttempt w event → ⊥) → (LacksName w event → ⊥)
    → AreCaused w event (Err NoServer)
server_missing w event lacks request reply attempt name = record {
  no_server = ((λ is. lacks), (λ it. refl));
  no_request = ((λ is. absurd (cc is)), (λ it. absurd (request it)));
  no_reply = ((λ is. absurd (cc is)), (λ it. absurd (reply it)));
  no_attempt = ((λ is. absurd (cc is)), (λ it. absurd (attempt it)));
  no_name = ((λ is. absurd (cc is)), (λ it. absurd (name it)));
}

-- ---- a server, by its number

pub claim_there : (w : World) (n : ℕ) → n < length w.servers → IsThere w (Claim n)
claim_there w n below = record {
  server = λ past. omega (arith, below, past);
  request = λ it. it;
  reply = λ it. it;
  attempt = λ it. it;
  name = λ it. it;
}

pub claim_nowhere : (w : World) (n : ℕ) → length w.servers ≤ n → AreCaused w (Claim n) (Err NoServer)
claim_nowhere w n past = server_missing w (Claim n) past (λ it. it) (λ it. it) (λ it. it) (λ it. it)

pub crash_there : (w : World) (n : ℕ) → n < length w.servers → IsThere w (Crash n)
crash_there w n below = record {
  server = λ past. omega (arith, below, past);
  request = λ it. it;
  reply = λ it. it;
  attempt = λ it. it;
  name = λ it. it;
}

pub crash_nowhere : (w : World) (n : ℕ) → length w.servers ≤ n → AreCaused w (Crash n) (Err NoServer)
crash_nowhere w n past = server_missing w (Crash n) past (λ it. it) (λ it. it) (λ it. it) (λ it. it)

pub wait_there : (w : World) (seconds : ℕ) → IsThere w (Wait seconds)
wait_there w seconds = record {
  server = λ it. it;
  request = λ it. it;
  reply = λ it. it;
  attempt = λ it. it;
  name = λ it. it;
}

-- ---- a post

-- an id and none are not the same
some_none : {A : Type 0} (o : Option A) (x : A) → o ≡ Some x → o ≡ None → ⊥
some_none o x is none = cc

pub say_there : (w : World) (n : ℕ) (name : List ℕ) (body : Vec ℕ Global) (s : Server) (author : List ℕ) → slice_get w.servers n ≡ Some s → id_of (town s.history) name ≡ Some author
    → IsThere w (Say n name body)
say_there w n name body s author at known = record {
  server = λ past. at_below w.servers n s at past;
  request = λ it. it;
  reply = λ it. it;
  attempt = λ it. it;
  name = λ lacks.
      let same : lacks.0 ≡ s = some_is lacks.0 s (sym lacks.1 ∙ at) in
      some_none (id_of (town s.history) name) author known (subst (λ (x : Server). id_of (town x.history) name ≡ None) same lacks.2);
}

pub say_nowhere : (w : World) (n : ℕ) (name : List ℕ) (body : Vec ℕ Global) → length w.servers ≤ n → AreCaused w (Say n name body) (Err NoServer)
say_nowhere w n name body past =
    server_missing w (Say n name body) past (λ it. it) (λ it. it) (λ it. it) (λ lacks. at_below w.servers n lacks.0 lacks.1 past)

pub say_nobody : (w : World) (n : ℕ) (name : List ℕ) (body : Vec ℕ Global) (s : Server) → slice_get w.servers n ≡ Some s → id_of (town s.history) name ≡ None
    → AreCaused w (Say n name body) (Err NoName)
say_nobody w n name body s at none = record {
  no_server = ((λ is. absurd (cc is)), (λ past. absurd (at_below w.servers n s at past)));
  no_request = ((λ is. absurd (cc is)), (λ it. absurd it));
  no_reply = ((λ is. absurd (cc is)), (λ it. absurd it));
  no_attempt = ((λ is. absurd (cc is)), (λ it. absurd it));
  no_name = ((λ is. (s, at, none)), (λ it. refl));
}

-- ---- a request

pub arrive_there : (w : World) (k : ℕ) (q : Request) (n : ℕ) (s : Server) → slice_get w.requests k ≡ Some q → slice_get w.servers n ≡ Some s → s.host ≡ q.host
    → IsThere w (Arrive k)
arrive_there w k q n s sent at host = record {
  server = λ lacks.
      let same : lacks.0 ≡ q = some_is lacks.0 q (sym lacks.1 ∙ sent) in
      lacks.2 n s at (host ∙ ap (λ (x : Request). x.host) (sym same));
  request = λ past. at_below w.requests k q sent past;
  reply = λ it. it;
  attempt = λ it. it;
  name = λ it. it;
}

pub arrive_unsent : (w : World) (k : ℕ) → length w.requests ≤ k → AreCaused w (Arrive k) (Err NoRequest)
arrive_unsent w k past = record {
  no_server = ((λ is. absurd (cc is)), (λ lacks. absurd (at_below w.requests k lacks.0 lacks.1 past)));
  no_request = ((λ is. past), (λ it. refl));
  no_reply = ((λ is. absurd (cc is)), (λ it. absurd it));
  no_attempt = ((λ is. absurd (cc is)), (λ it. absurd it));
  no_name = ((λ is. absurd (cc is)), (λ it. absurd it));
}

pub arrive_nowhere : (w : World) (k : ℕ) (q : Request) → slice_get w.requests k ≡ Some q → ((n : ℕ) (s : Server) → slice_get w.servers n ≡ Some s → s.host ≢ q.host)
    → AreCaused w (Arrive k) (Err NoServer)
arrive_nowhere w k q sent nowhere =
    server_missing w (Arrive k) (q, sent, nowhere) (λ past. at_below w.requests k q sent past) (λ it. it) (λ it. it) (λ it. it)

-- ---- a reply

pub reach_there : (w : World) (j : ℕ) (back : Reply) (q : Request) (a : Attempt) → slice_get w.replies j ≡ Some back → slice_get w.requests back.request ≡ Some q
    → slice_get w.attempts q.attempt ≡ Some a → is_open a.stage ≡ true → a.request ≡ back.request → IsThere w (Reach j)
reach_there w j back q a sent asked known open_yet last = record {
  server = λ it. it;
  request = λ it. it;
  reply = λ past. at_below w.replies j back sent past;
  attempt = λ lacks.
      let same : lacks.0 ≡ back = some_is lacks.0 back (sym lacks.1 ∙ sent) in
      lacks.2 q a (ap (λ (x : Reply). slice_get w.requests x.request) same ∙ asked) known open_yet (last ∙ ap (λ (x : Reply). x.request) (sym same));
  name = λ it. it;
}

pub reach_unsent : (w : World) (j : ℕ) → length w.replies ≤ j → AreCaused w (Reach j) (Err NoReply)
reach_unsent w j past = record {
  no_server = ((λ is. absurd (cc is)), (λ it. absurd it));
  no_request = ((λ is. absurd (cc is)), (λ it. absurd it));
  no_reply = ((λ is. past), (λ it. refl));
  no_attempt = ((λ is. absurd (cc is)), (λ lacks. absurd (at_below w.replies j lacks.0 lacks.1 past)));
  no_name = ((λ is. absurd (cc is)), (λ it. absurd it));
}

pub reach_nobody : (w : World) (j : ℕ) (back : Reply) → slice_get w.replies j ≡ Some back
    → ((q : Request) (a : Attempt) → slice_get w.requests back.request ≡ Some q → slice_get w.attempts q.attempt ≡ Some a → is_open a.stage ≡ true → a.request ≢ back.request)
    → AreCaused w (Reach j) (Err NoAttempt)
reach_nobody w j back sent nobody = record {
  no_server = ((λ is. absurd (cc is)), (λ it. absurd it));
  no_request = ((λ is. absurd (cc is)), (λ it. absurd it));
  no_reply = ((λ is. absurd (cc is)), (λ past. absurd (at_below w.replies j back sent past)));
  no_attempt = ((λ is. (back, sent, nobody)), (λ it. refl));
  no_name = ((λ is. absurd (cc is)), (λ it. absurd it));
}

-- ---- an attempt

not_both : (w : Attempt) → is_open w.stage ≡ true → is_open w.stage ≡ false → ⊥
not_both w yet done = cc

pub lose_there : (w : World) (number : ℕ) (a : Attempt) → slice_get w.attempts number ≡ Some a → is_open a.stage ≡ true → IsThere w (Lose number)
lose_there w number a known open_yet = record {
  server = λ it. it;
  request = λ it. it;
  reply = λ it. it;
  attempt = λ lacks. not_both a open_yet (lacks a known);
  name = λ it. it;
}

pub lose_nobody : (w : World) (number : ℕ) → ((a : Attempt) → slice_get w.attempts number ≡ Some a → is_open a.stage ≡ false) → AreCaused w (Lose number) (Err NoAttempt)
lose_nobody w number nobody = record {
  no_server = ((λ is. absurd (cc is)), (λ it. absurd it));
  no_request = ((λ is. absurd (cc is)), (λ it. absurd it));
  no_reply = ((λ is. absurd (cc is)), (λ it. absurd it));
  no_attempt = ((λ is. nobody), (λ it. refl));
  no_name = ((λ is. absurd (cc is)), (λ it. absurd it));
}
