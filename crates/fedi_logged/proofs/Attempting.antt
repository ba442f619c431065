-- The turns of an attempt, and the attempt that they make.
use Rattle.std.proofs.Common.{◌≡◌, ◌⊎◌, ℕ, ◌≤◌, List, [], ◌∷◌, ◌++◌, length, Option, Some, None}
use Rattle.std.proofs.Common.{Result, Ok, Err, inl, inr, refl, sym, ap, subst, ◌∙◌, append_assoc}
use Rattle.std.specs.Prelude.{IsTrue, is_some}
use Rattle.std.specs.declared.alloc.AllocError.{AllocError}
use Rattle.fedi_core.specs.Machines.{Machine}
use Rattle.fedi_core.specs.declared.delivering.RecordFault.{RecordFault}
use Rattle.fedi_core.specs.declared.delivering.RecordFault.TheVariants as records
use Rattle.fedi_delivery.specs.declared.sending.Outgoing.{Outgoing}
use Rattle.fedi_delivery.specs.Deliveries.{IsOutgoing, post_to}
use Rattle.fedi_delivery.specs.Exchanges.{Told}
use Rattle.fedi_log.specs.Claims.{HasClaimed, IsFirst, free_in}
use Rattle.fedi_log.specs.Keeping.{GoesAlone}
use Rattle.fedi_log.specs.Log.{Goes, Log, history_of, made_by}
use Rattle.fedi_log.specs.declared.items.Pair.{Pair}
use Rattle.fedi_log.specs.declared.items.What.TheVariants.{Released}
use Rattle.fedi_log.proofs.Claiming.{has_claimed_now, still_claimed}
use Rattle.fedi_log.proofs.Growing.{goes_here, goes_on}
use Rattle.fedi_objects.specs.declared.entry.Came.{Came}
use Rattle.fedi_objects.specs.declared.entry.Entry.{Entry}
use Rattle.fedi_town.specs.declared.act.Act.{Act}
use Rattle.fedi_town.specs.Histories.{town}
use Rattle.fedi_logged.specs.Attempts.{EndsAttempt, Exchange, HasExchanged}
use Rattle.fedi_logged.specs.Claiming.{ChangesClaims, IsClaimed, IsCrowded, IsPostSince, IsSending}
use Rattle.fedi_logged.specs.Claiming.{TakesUp, claim_item}
use Rattle.fedi_logged.specs.Conversations.{IsNow, Setting}
use Rattle.fedi_logged.specs.Delivering.{Attempt, IsAttempt, IsGivenUp, IsOut, IsTried}
use Rattle.fedi_logged.specs.Delivering.{RecordsInTurn, ReleasesInTurn, Steps, TakesUpInTurn, Tries}
use Rattle.fedi_logged.specs.Delivering.{TriesNext, step_after}
use Rattle.fedi_logged.specs.declared.claims.Sending.{Sending}
use Rattle.fedi_logged.specs.declared.delivering.Step.TheVariants.{Memory, Nothing}
use Rattle.fedi_logged.specs.declared.delivering.Tried.{Tried}
use Rattle.fedi_logged.proofs.Attempts.{exchanged_none, shown_begun}
use Rattle.fedi_logged.proofs.Own.{alone_item}

-- ---- a delivery that is taken up

-- the post at a later log is that at the log of the claim
pub posted_at : (by : Option ℕ) (p : Pair) (act : Act) (o : Outgoing) (log more seen now : Log)
    (inbox body text : List ℕ) → seen ≡ log ++ more → Goes by seen now
    → IsOutgoing (town (history_of log)) act p.recipient o → IsPostSince now p inbox body text
    → Some text ≡ post_to (town (history_of log)) p.recipient inbox body
posted_at by p act o log more seen now inbox body text begins on out since =
    since log (more ++ on.rest)
    (on.is ∙ ap (λ (l : Log). l ++ on.rest) begins ∙ append_assoc log more on.rest)
    (subst (λ (x : Option (List ℕ)). IsTrue (is_some x)) (sym out.lookup) refl)

up-has : (by : Option ℕ) (m : ℕ) (seen mid : Log) (front : ℕ) (s : Sending)
    → (t : TakesUpInTurn by m seen mid front (Ok (Some s))) → HasClaimed by mid t.3.0 s.claim
up-has by m seen mid front s t =
    subst (λ (l : Log). HasClaimed by l t.3.0 s.claim) (sym t.3.4)
    (has_claimed_now by t.0 t.3.0 s.claim)

-- it is claimed by the pass, whose number is the same
pub up_claimed : (by k : Option ℕ) (m : ℕ) (seen mid : Log) (front : ℕ) (s : Sending) → k ≡ by
    → TakesUpInTurn by m seen mid front (Ok (Some s)) → IsClaimed k mid s.claim
up_claimed by k m seen mid front s same t = (
  t.3.0,
  subst (λ (j : Option ℕ). HasClaimed j mid t.3.0 s.claim) (sym same)
      (up-has by m seen mid front s t),
)

-- there was none
pub taken_none : (by : Option ℕ) (m : ℕ) (seen now : Log) (link : Told) (front : ℕ)
    → TakesUpInTurn by m seen now front (Ok None) → TriesNext by m seen now link link front (Ok None)
taken_none by m seen now link front t = (
  exchanged_none link,
  subst (λ (l : Log). Goes by seen l) (sym t.3.1) t.1,
  t.2 ∙ ap (λ (l : Log). length l) (sym t.3.1),
  subst (λ (l : Log). free_in l m ≡ []) (sym t.3.1) t.3.0,
)

-- there was no memory for what is sent, or the log is crowded
pub taken_lacking : (by : Option ℕ) (m : ℕ) (seen now : Log) (link : Told) (front : ℕ)
    (e : AllocError) → TakesUpInTurn by m seen now front (Err e)
    → TriesNext by m seen now link link front (Err e)
taken_lacking by m seen now link front e t = of t.3
  where
    of : TakesUp by m t.0 now (Err e) → TriesNext by m seen now link link front (Err e)
    of (inl (same, crowded)) = inl (
      exchanged_none link,
      subst (λ (l : Log). Goes by seen l) (sym same) t.1,
      subst IsCrowded (sym same) crowded,
    )
    of (inr (p, c, at, first, is)) = inr (record {
      attempt = record { log = t.0; pair = p; claim = c; back = t.0 ++ claim_item by p c ∷ [] };
      out = record {
        later = t.1;
        at = at;
        first = first;
        back = goes_here by (t.0 ++ claim_item by p c ∷ []);
      };
      exchanges = [];
      begun = tt;
      exchanged = exchanged_none link;
      released = is;
    })

-- ---- a delivery that was attempted

-- an attempt that is out, of a delivery that was taken up
pub record IsAttempted (by : Option ℕ) (m : ℕ) (seen later : Log) (front : ℕ) (s : Sending)
    (asked heard : Told) (r : Result Came AllocError) : Type 0 where
  pub pair : Pair
  pub log : Log
  pub out : IsOut by m seen (record { log = log; pair = pair; claim = s.claim; back = later })
  pub counts : front ≡ length log
  pub ends : EndsAttempt (town (history_of log)) pair.activity pair.recipient asked heard r
  pub has : HasClaimed by later pair s.claim

pub attempted : (by k : Option ℕ) (m : ℕ) (seen mid later : Log) (front : ℕ) (s : Sending)
    (asked heard : Told) (r : Result Came AllocError) → k ≡ by
    → TakesUpInTurn by m seen mid front (Ok (Some s)) → Goes k mid later
    → ((p : Pair) (log more : Log) → HasClaimed k mid p s.claim → mid ≡ log ++ more
    → IsSending (town (history_of log)) p s.claim s.recipient s.outgoing
    → EndsAttempt (town (history_of log)) p.activity p.recipient asked heard r)
    → IsAttempted by m seen later front s asked heard r
attempted by k m seen mid later front s asked heard r same t goes came =
    let has = up-has by m seen mid front s t in
    let on : Goes by mid later = subst (λ (j : Option ℕ). Goes j mid later) same goes in
    record {
      pair = t.3.0;
      log = t.0;
      out = record {
        later = t.1;
        at = t.3.1;
        first = t.3.2;
        back = subst (λ (l : Log). Goes by l later) t.3.4 on;
      };
      counts = t.2;
      ends = came t.3.0 t.0 (claim_item by t.3.0 s.claim ∷ [])
          (subst (λ (j : Option ℕ). HasClaimed j mid t.3.0 s.claim) (sym same) has) t.3.4 t.3.3;
      has = still_claimed by mid later t.3.0 s.claim on has;
    }

pub attempted_claimed : (by k : Option ℕ) (m : ℕ) (seen later : Log) (front : ℕ) (s : Sending)
    (asked heard : Told) (r : Result Came AllocError) → k ≡ by
    → IsAttempted by m seen later front s asked heard r → IsClaimed k later s.claim
attempted_claimed by k m seen later front s asked heard r same o =
    (o.pair, subst (λ (j : Option ℕ). HasClaimed j later o.pair s.claim) (sym same) o.has)

pub tried_next : (by : Option ℕ) (m : ℕ) (seen later : Log) (front : ℕ) (s : Sending)
    (asked heard : Told) (came : Came) → IsAttempted by m seen later front s asked heard (Ok came)
    → IsTried by m seen later asked heard front (record { claim = s.claim; came = came })
tried_next by m seen later front s asked heard came o = record {
  log = o.log;
  pair = o.pair;
  out = o.out;
  counts = o.counts;
  exchanges = o.ends.0;
  shows = o.ends.1;
  exchanged = o.ends.2;
}

-- memory ran out before it was finished, and the delivery was released
pub given_up : (by k : Option ℕ) (m : ℕ) (seen later now : Log) (front : ℕ) (s : Sending)
    (asked heard : Told) (e : AllocError) → k ≡ by
    → IsAttempted by m seen later front s asked heard (Err e)
    → ((p : Pair) → HasClaimed k later p s.claim → ReleasesInTurn k later now p)
    → IsGivenUp by m seen now asked heard
given_up by k m seen later now front s asked heard e same o released =
    let r : ReleasesInTurn by later now o.pair =
    subst (λ (j : Option ℕ). ReleasesInTurn j later now o.pair) same
    (released o.pair (subst (λ (j : Option ℕ). HasClaimed j later o.pair s.claim) (sym same) o.has))
    in record {
      attempt = record { log = o.log; pair = o.pair; claim = s.claim; back = r.0 };
      out = record {
        later = o.out.later;
        at = o.out.at;
        first = o.out.first;
        back = goes_on by (o.log ++ claim_item by o.pair s.claim ∷ []) later r.0 o.out.back r.1;
      };
      exchanges = o.ends.0;
      begun = o.ends.1;
      exchanged = o.ends.2;
      released = r.2;
    }

-- what was attempted is still claimed
pub tried_has : (by : Option ℕ) (m : ℕ) (seen now : Log) (asked heard : Told) (front : ℕ) (t : Tried)
    → (i : IsTried by m seen now asked heard front t) → HasClaimed by now i.pair t.claim
tried_has by m seen now asked heard front t i =
    still_claimed by (i.log ++ claim_item by i.pair t.claim ∷ []) now i.pair t.claim i.out.back
    (has_claimed_now by i.log i.pair t.claim)

pub tried_claimed : (by k : Option ℕ) (m : ℕ) (seen now : Log) (asked heard : Told) (front : ℕ)
    (t : Tried) → k ≡ by → IsTried by m seen now asked heard front t → IsClaimed k now t.claim
tried_claimed by k m seen now asked heard front t same i = (
  i.pair,
  subst (λ (j : Option ℕ). HasClaimed j now i.pair t.claim) (sym same)
      (tried_has by m seen now asked heard front t i),
)

-- ---- one step

is-attempt : (w : Setting) (m : ℕ) (seen : Log) (a : Attempt) → IsNow w.told m
    → IsOut w.by m seen a → IsAttempt w seen a
is-attempt w m seen a is_now o = record {
  later = o.later;
  first = subst (λ (n : ℕ). IsFirst a.pair.activity a.pair.recipient (free_in a.log n)) (sym o.at)
      o.first;
  now = subst (λ (n : ℕ). IsNow w.told n) (sym o.at) is_now;
  back = o.back;
}

pub none_step : (w : Setting) (m : ℕ) (seen now : Log) (asked heard : Told) (front : ℕ)
    → IsNow w.told m → TriesNext w.by m seen now asked heard front (Ok None)
    → Steps w seen now asked heard (Nothing front m)
none_step w m seen now asked heard front is_now t =
    record { exchanges = []; exchanged = t.0; is = (refl, t.1, t.2, is_now, t.3) }

pub memory_step : (w : Setting) (m : ℕ) (seen now : Log) (asked heard : Told) (front : ℕ)
    (e : AllocError) → IsNow w.told m → TriesNext w.by m seen now asked heard front (Err e)
    → Steps w seen now asked heard Memory
memory_step w m seen now asked heard front e is_now (inl (exchanged, goes, crowded)) =
    record { exchanges = []; exchanged = exchanged; is = inl (refl, goes, crowded) }
memory_step w m seen now asked heard front e is_now (inr g) = record {
  exchanges = g.exchanges;
  exchanged = g.exchanged;
  is = inr (record {
    attempt = g.attempt;
    is = is-attempt w m seen g.attempt is_now g.out;
    begun = g.begun;
    released = g.released;
  });
}

later-now : (told : Option ℕ) (a b r : ℕ) → IsNow told a → IsNow told b → (r ≡ a) ⊎ (r ≡ b)
    → IsNow told r
later-now told a b r first second (inl is) = subst (λ (n : ℕ). IsNow told n) (sym is) first
later-now told a b r first second (inr is) = subst (λ (n : ℕ). IsNow told n) (sym is) second

-- an attempt whose outcome was recorded, or not
pub record IsEnded (w : Setting) (seen now : Log) (asked heard : Told) (claimed front : ℕ)
    (came : Came) (r : Result (Unit {0}) RecordFault) : Type 0 where
  pub exchanges : List Exchange
  pub exchanged : HasExchanged asked heard exchanges
  pub tries : Tries w seen now exchanges claimed front came r

pub ended : (w : Setting) (k : Option ℕ) (m other moment : ℕ) (seen mid now : Log)
    (asked heard : Told) (claimed front : ℕ) (t : Tried) (r : Result (Unit {0}) RecordFault)
    → k ≡ w.by → IsNow w.told m → IsNow w.told other → m ≤ moment
    → (moment ≡ m) ⊎ (moment ≡ other) → IsTried w.by m seen mid asked heard claimed t
    → ((p : Pair) → HasClaimed k mid p t.claim
    → RecordsInTurn w.base k mid now p t.came moment front r)
    → IsEnded w seen now asked heard claimed front t.came r
ended w k m other moment seen mid now asked heard claimed front t r same first second after one i
    recorded =
    let has = tried_has w.by m seen mid asked heard claimed t i in
    let turn : RecordsInTurn w.base w.by mid now i.pair t.came moment front r =
    subst (λ (j : Option ℕ). RecordsInTurn w.base j mid now i.pair t.came moment front r) same
    (recorded i.pair (subst (λ (j : Option ℕ). HasClaimed j mid i.pair t.claim) (sym same) has)) in
    let a : Attempt = record { log = i.log; pair = i.pair; claim = t.claim; back = turn.0 } in
    let out : IsOut w.by m seen a = record {
      later = i.out.later;
      at = i.out.at;
      first = i.out.first;
      back = goes_on w.by (i.log ++ claim_item w.by i.pair t.claim ∷ []) mid turn.0 i.out.back turn.1;
    } in
    record {
      exchanges = i.exchanges;
      exchanged = i.exchanged;
      tries = record {
        attempt = a;
        is = is-attempt w m seen a first out;
        claimed_at = i.counts;
        ended_at = turn.2;
        moment = moment;
        ends = record {
          shows = i.shows;
          now_is = later-now w.told m other moment first second one;
          later = subst (λ (n : ℕ). n ≤ moment) (sym i.out.at) after;
          records = turn.3;
        };
      };
    }

-- the step, given what became of the entry
pub ended_step : (w : Setting) (seen now : Log) (asked heard : Told) (claimed front : ℕ)
    (came : Came) (r : Result (Unit {0}) RecordFault)
    → IsEnded w seen now asked heard claimed front came r
    → Steps w seen now asked heard (step_after claimed came front r)
ended_step w seen now asked heard claimed front came (Ok done) k =
    record { exchanges = k.exchanges; exchanged = k.exchanged; is = k.tries }
ended_step w seen now asked heard claimed front came (Err records.KeeperFault) k =
    record { exchanges = k.exchanges; exchanged = k.exchanged; is = (came, k.tries) }
ended_step w seen now asked heard claimed front came (Err records.Full) k =
    record { exchanges = k.exchanges; exchanged = k.exchanged; is = (came, k.tries) }
ended_step w seen now asked heard claimed front came (Err records.Memory) k = record {
  exchanges = k.exchanges;
  exchanged = k.exchanged;
  is = inr (record {
    attempt = k.tries.attempt;
    is = k.tries.is;
    begun = shown_begun (town (history_of k.tries.attempt.log)) k.tries.attempt.pair.activity
        k.tries.attempt.pair.recipient k.exchanges came k.tries.ends.shows;
    released = k.tries.ends.records.grown;
  });
}

-- ---- a machine that nobody else uses

-- it is still alone after it took up a delivery
pub alone_taken : (by : Option ℕ) (m : ℕ) (first log now : Log)
    (r : Result (Option Sending) AllocError) → GoesAlone by first log → TakesUp by m log now r
    → GoesAlone by first now
alone_taken by m first log now (Ok None) g t = subst (λ (l : Log). GoesAlone by first l) (sym t.1) g
alone_taken by m first log now (Ok (Some s)) g t = alone_item by first log now _ g t.4
alone_taken by m first log now (Err e) g (inl same) =
    subst (λ (l : Log). GoesAlone by first l) (sym same.0) g
alone_taken by m first log now (Err e) g (inr (p, c, at, due, is)) =
    alone_item by first (log ++ claim_item by p c ∷ []) now (Released p)
    (alone_item by first log (log ++ claim_item by p c ∷ []) _ g refl) is

abbrev machine-of : {P : Type 0} → List Entry → P → Machine P
machine-of history keeper = record { history = history; keeper = keeper; rows = [] }

-- and what it holds is the same, apart from what is claimed
pub own_stays : {P : Type 0} (before after : Machine P) → ChangesClaims before after
    → (record after { rows = [] }) ≡ (record before { rows = [] })
own_stays {P} before after turn =
    ap (λ (h : List Entry). machine-of h after.keeper) turn.history
    ∙ ap (λ (k : P). machine-of before.history k) turn.keeper
