-- The delivery that is tried next by a machine that nobody else uses.
use Rattle.std.proofs.Common.{◌≡◌, ℕ, Bool, true, false, cond, List, [], ◌∷◌, ◌++◌, All}
use Rattle.std.proofs.Common.{Option, None, Some, Result, Ok, Err, inl, inr, refl, sym, ap, subst}
use Rattle.std.proofs.Common.{◌∙◌, IfOk, Vec, append_assoc, append-nil}
use Rattle.std.proofs.lemmas.List.{append_cancel_left}
use Rattle.std.proofs.lemmas.List.Elements.{All-head, All-nil, All-tail}
use Rattle.std.specs.Prelude.{◌&&◌, ◌||◌, filter, not}
use Rattle.std.specs.declared.alloc.AllocError.{AllocError}
use Rattle.fedi_core.specs.Keeping.{IsKept}
use Rattle.fedi_core.specs.Machines.{Machine}
use Rattle.fedi_core.specs.declared.delivering.RecordFault.{RecordFault}
use Rattle.fedi_core.specs.declared.delivering.RecordFault.TheVariants as records
use Rattle.fedi_delivery.specs.Exchanges.{Told}
use Rattle.fedi_log.proofs.Claiming.{claimed_more, given_free}
use Rattle.fedi_log.proofs.Growing.{given_history, history_append}
use Rattle.fedi_log.specs.Claims.{HasClaimed, IsFirst, claimed_after, claimed_by, free_in, is_claimed_in}
use Rattle.fedi_log.specs.Claims.{is_same_pair, is_taken_in}
use Rattle.fedi_log.specs.Keeping.{GoesAlone, State}
use Rattle.fedi_log.specs.Log.{Goes, IsOthers, Log, given, history_of, made_by}
use Rattle.fedi_log.specs.declared.items.Item.{Item}
use Rattle.fedi_log.specs.declared.items.Pair.{Pair}
use Rattle.fedi_log.specs.declared.items.What.TheVariants.{Entered, Released}
use Rattle.fedi_logged.proofs.Attempting.{tried_has}
use Rattle.fedi_logged.proofs.Attempts.{shown_begun}
use Rattle.fedi_logged.proofs.Own.{alone_item}
use Rattle.fedi_logged.proofs.Recording.{KeepsTried}
use Rattle.fedi_logged.specs.Attempts.{Exchange, HasExchanged, IsBegun, ShowsCame}
use Rattle.fedi_logged.specs.Claiming.{claim_item, tried}
use Rattle.fedi_logged.specs.Delivering.{Attempt, IsOut, IsTried, TriesNext}
use Rattle.fedi_logged.specs.Endings.{BreaksOff, Output, Writes}
use Rattle.fedi_logged.specs.Turns.{Standing, standing_by}
use Rattle.fedi_logged.specs.declared.delivering.Tried.{Tried}
use Rattle.fedi_objects.specs.declared.entry.Came.{Came}
use Rattle.fedi_objects.specs.declared.entry.Entry.{Entry}
use Rattle.fedi_outside.specs.Keepers.{OnlyRoomChanged}
use Rattle.fedi_outside.specs.declared.keepers.Keeper.{Ghosts}
use Rattle.fedi_queue.specs.Due.{IsTo, due_in}
use Rattle.fedi_queue.specs.declared.rows.Claim.{Claim}
use Rattle.fedi_town.specs.Histories.{town}
use Rattle.fedi_town.specs.Legal.{IsLegal}
use Rattle.fedi_town.specs.Queues.{Delivery}
use Rattle.fedi_town.specs.Towns.{Town}
use Rattle.fedi_program.specs.Delivering.{EndsNext, EndsTrial, IsAtRest, TriesFirst, attempt_line}
use Rattle.fedi_program.specs.Delivering.{stop_of}
use Rattle.fedi_program.specs.declared.delivering.Stop.{Stop}
use Rattle.fedi_program.specs.declared.delivering.Stop.TheVariants as stops

-- ---- nobody else adds to the log

none-others : (rest more : Log) → All (IsOthers None) rest
    → All (λ (i : Item). i.pass ≡ None) (rest ++ more) → rest ≡ []
none-others [] more others own = refl
none-others (i ∷ rest) more others own =
    absurd (All-head (IsOthers None) i rest others
    (All-head (λ (j : Item). j.pass ≡ None) i (rest ++ more) own))

all-rest : {A : Type 0} (P : A → Type 0) (xs ys : List A) → All P (xs ++ ys) → All P ys
all-rest P [] ys all = all
all-rest P (x ∷ xs) ys all = all-rest P xs ys (All-tail P x (xs ++ ys) all)

-- so what others added before a log of one's own is nothing
goes-nowhere : (base seen log now more : Log) → GoesAlone None base seen → GoesAlone None base now
    → Goes None seen log → now ≡ log ++ more → log ≡ seen
goes-nowhere base seen log now more was alone g is =
    let whole : base ++ alone.past ≡ base ++ (was.past ++ (g.rest ++ more)) =
    sym alone.is ∙ is ∙ ap (λ (l : Log). l ++ more) (g.is ∙ ap (λ (l : Log). l ++ g.rest) was.is)
    ∙ append_assoc (base ++ was.past) g.rest more
    ∙ append_assoc base was.past (g.rest ++ more) in
    let past = append_cancel_left base alone.past (was.past ++ (g.rest ++ more)) whole in
    let own = all-rest (λ (i : Item). i.pass ≡ None) was.past (g.rest ++ more)
    (subst (λ (l : Log). All (λ (i : Item). i.pass ≡ None) l) past alone.own) in
    g.is ∙ ap (λ (l : Log). seen ++ l) (none-others g.rest more g.others own) ∙ append-nil seen

-- ---- nothing is claimed

filter-all : {A : Type 0} (p : A → Bool) (xs : List A) → ((x : A) → p x ≡ true) → filter p xs ≡ xs
filter-all p [] all = refl
filter-all {A} p (x ∷ xs) all =
    ap (λ (b : Bool). cond b (x ∷ filter p xs) (filter p xs)) (all x)
    ∙ ap (λ (l : List A). x ∷ l) (filter-all p xs all)

not-taken : (log : Log) → ((p : Pair) → is_claimed_in log p ≡ false) → (id : Option (List ℕ))
    (recipient : List ℕ) → is_taken_in log id recipient ≡ false
not-taken log free None recipient = refl
not-taken log free (Some id) recipient = free (record { activity = id; recipient = recipient })

-- so what is due may be claimed
free-due : (log : Log) (m : ℕ) → ((p : Pair) → is_claimed_in log p ≡ false)
    → free_in log m ≡ due_in (town (history_of log)) m
free-due log m free =
    filter-all (λ (d : Delivery). not (is_taken_in log d.activity d.recipient))
    (due_in (town (history_of log)) m)
    (λ d. ap (λ (b : Bool). not b) (not-taken log free d.activity d.recipient))

pub none_due : (opened history : List Entry) (m : ℕ) (seen now : Log)
    → IsAtRest opened history seen → GoesAlone None (given opened) now → Goes None seen now
    → free_in now m ≡ [] → due_in (town history) m ≡ []
none_due opened history m seen now rest alone goes none =
    let here = goes-nowhere (given opened) seen now now [] rest.alone alone goes
    (sym (append-nil now)) in
    ap (λ (h : List Entry). due_in (town h) m) rest.held ∙ sym (free-due seen m rest.free)
    ∙ ap (λ (l : Log). free_in l m) (sym here) ∙ none

-- ---- the delivery that is out

-- it is the first that was due
pub record IsFirstDue (history : List Entry) (m : ℕ) (id recipient : List ℕ) : Type 0 where
  pub delivery : Delivery
  pub rest : List Delivery
  pub due : due_in (town history) m ≡ delivery ∷ rest
  pub to : IsTo id recipient delivery

first-due : (history : List Entry) (m : ℕ) (id recipient : List ℕ) (ds : List Delivery)
    → IsFirst id recipient ds → ds ≡ due_in (town history) m → IsFirstDue history m id recipient
first-due history m id recipient [] first is = absurd first
first-due history m id recipient (d ∷ ds) first is =
    record { delivery = d; rest = ds; due = sym is; to = first }

-- it was claimed at the log that was seen, and nothing was added since
pub record IsKnown (history : List Entry) (m : ℕ) (seen : Log) (a : Attempt) : Type 0 where
  pub here : a.log ≡ seen
  pub back : a.back ≡ seen ++ claim_item None a.pair a.claim ∷ []
  pub first : IsFirstDue history m a.pair.activity a.pair.recipient

pub known : (opened history : List Entry) (m : ℕ) (seen now more : Log) (a : Attempt)
    → IsAtRest opened history seen → GoesAlone None (given opened) now → now ≡ a.back ++ more
    → IsOut None m seen a → IsKnown history m seen a
known opened history m seen now more a rest alone is out = record {
  here = here;
  back = back;
  first = first-due history m a.pair.activity a.pair.recipient (free_in a.log m) out.first
      (ap (λ (l : Log). free_in l m) here ∙ free-due seen m rest.free
      ∙ ap (λ (h : List Entry). due_in (town h) m) (sym rest.held));
}
  where
    item : Item
    item = claim_item None a.pair a.claim

    whole : now ≡ a.log ++ ((item ∷ []) ++ (out.back.rest ++ more))
    whole = is ∙ ap (λ (l : Log). l ++ more) out.back.is
        ∙ append_assoc (a.log ++ item ∷ []) out.back.rest more
        ∙ append_assoc a.log (item ∷ []) (out.back.rest ++ more)

    here : a.log ≡ seen
    here = goes-nowhere (given opened) seen a.log now ((item ∷ []) ++ (out.back.rest ++ more))
        rest.alone alone out.later whole

    added : a.log ++ item ∷ [] ≡ seen ++ item ∷ []
    added = ap (λ (l : Log). l ++ item ∷ []) here

    back : a.back ≡ seen ++ item ∷ []
    back = goes-nowhere (given opened) (a.log ++ item ∷ []) a.back now more
        (alone_item None (given opened) seen (a.log ++ item ∷ []) (claimed_by a.pair a.claim)
        rest.alone added)
        alone out.back is ∙ added

-- the town at its claim
pub town_there : (opened history : List Entry) (seen log : Log) → IsAtRest opened history seen
    → log ≡ seen → town (history_of log) ≡ town history
town_there opened history seen log rest here =
    ap (λ (l : Log). town (history_of l)) here ∙ ap (λ (h : List Entry). town h) (sym rest.held)

-- a delivery that was attempted
pub record IsTriedFirst (history : List Entry) (m : ℕ) (seen now : Log) (asked heard : Told)
    (t : Tried) : Type 0 where
  pub pair : Pair
  pub at : t.claim.moment ≡ m
  pub first : IsFirstDue history m pair.activity pair.recipient
  pub back : now ≡ seen ++ claim_item None pair t.claim ∷ []
  pub exchanges : List Exchange
  pub shows : ShowsCame (town history) pair.activity pair.recipient exchanges t.came
  pub exchanged : HasExchanged asked heard exchanges
  pub has : HasClaimed None now pair t.claim

pub tried_first : (opened history : List Entry) (m : ℕ) (seen now : Log) (asked heard : Told)
    (front : ℕ) (t : Tried) → IsAtRest opened history seen → GoesAlone None (given opened) now
    → IsTried None m seen now asked heard front t → IsTriedFirst history m seen now asked heard t
tried_first opened history m seen now asked heard front t rest alone i =
    let a : Attempt = record { log = i.log; pair = i.pair; claim = t.claim; back = now } in
    let k = known opened history m seen now [] a rest alone (sym (append-nil now)) i.out in
    record {
      pair = i.pair;
      at = i.out.at;
      first = k.first;
      back = k.back;
      exchanges = i.exchanges;
      shows = subst (λ (w : Town). ShowsCame w i.pair.activity i.pair.recipient i.exchanges t.came)
          (town_there opened history seen i.log rest k.here) i.shows;
      exchanged = i.exchanged;
      has = tried_has None m seen now asked heard front t i;
    }

-- ---- after its entry was kept

once : (b : Bool) → ((false || b) && not b) ≡ false
once true = refl
once false = refl

pub rest_after : (opened history after : List Entry) (m : ℕ) (seen now end : Log) (p : Pair)
    (c : Claim) (came : Came) → IsAtRest opened history seen → now ≡ seen ++ claim_item None p c ∷ []
    → end ≡ now ++ made_by None (Entered (tried p came m)) ∷ []
    → after ≡ history ++ tried p came m ∷ [] → IsLegal after → IsAtRest opened after end
rest_after opened history after m seen now end p c came rest claimed ended grown legal = record {
  alone = alone_item None (given opened) now end (Entered e)
      (alone_item None (given opened) seen now (claimed_by p c) rest.alone claimed) ended;
  held = grown ∙ ap (λ (h : List Entry). h ++ e ∷ []) (rest.held ∙ sym still)
      ∙ sym (history_append now (made_by None (Entered e) ∷ []))
      ∙ ap (λ (l : Log). history_of l) (sym ended);
  free = λ q.
      ap (λ (l : Log). is_claimed_in l q) ended ∙ claimed_more None now (Entered e) q
      ∙ ap (λ (b : Bool). claimed_after q b (Entered e)) (out q) ∙ once (is_same_pair q p);
  legal = legal;
}
  where
    e : Entry
    e = tried p came m

    still : history_of now ≡ history_of seen
    still = ap (λ (l : Log). history_of l) claimed ∙ history_append seen (claim_item None p c ∷ [])
        ∙ append-nil (history_of seen)

    out : (q : Pair) → is_claimed_in now q ≡ (false || is_same_pair q p)
    out q = ap (λ (l : Log). is_claimed_in l q) claimed ∙ claimed_more None seen (claimed_by p c) q
        ∙ ap (λ (b : Bool). claimed_after q b (claimed_by p c)) (rest.free q)

-- a machine that was opened
pub rest_first : (history : List Entry) → IsLegal history → IsAtRest history history (given history)
rest_first history legal = record {
  alone = record {
    past = [];
    is = sym (append-nil (given history));
    own = All-nil (λ (i : Item). i.pass ≡ None);
  };
  held = sym (given_history history);
  free = given_free history;
  legal = legal;
}

pub rest_opened : (opened history now : List Entry) (log : Log) → opened ≡ history → now ≡ history
    → log ≡ given history → IsLegal history → IsAtRest opened now log
rest_opened opened history now log same here is legal =
    subst (λ (h : List Entry). IsAtRest h now log) (sym same)
    (subst (λ (h : List Entry). IsAtRest history h log) (sym here)
    (subst (λ (l : Log). IsAtRest history history l) (sym is) (rest_first history legal)))

-- ---- how it ends

-- the machine that was claimed from is the one before, apart from what is claimed
pub standing_from : {P : Type 0} (k : Ghosts P) (before mid : Machine P)
    → (record mid { rows = [] }) ≡ (record before { rows = [] })
    → standing_by k.shown k.crashes mid ≡ standing_by k.shown k.crashes before
standing_from {P} k before mid same =
    ap (λ (x : Machine P). standing_by k.shown k.crashes x) same

-- the first that was due was tried, with this result
first-tried : (growth room : ℕ → ℕ) (m : ℕ) (before after : State) (seen now : Log)
    (asked heard : Told) (t : Tried) (first out : Output) (r : Result (Unit {0}) Stop)
    → (i : IsTriedFirst before.history m seen now asked heard t)
    → EndsTrial growth room m i.pair.activity i.pair.recipient before after asked heard first out r
    → TriesFirst growth room m before after asked heard first out r
first-tried growth room m before after seen now asked heard t first out r i ends = record {
  id = i.pair.activity;
  recipient = i.pair.recipient;
  delivery = i.first.delivery;
  rest = i.first.rest;
  due = i.first.due;
  to = i.first.to;
  ends = ends;
}

same-room : (before after : Standing) → after ≡ before
    → OnlyRoomChanged before.state.keeper after.state.keeper
same-room before after same = record {
  records = ap (λ (s : Standing). s.state.keeper.records) same;
  held = ap (λ (s : Standing). s.state.keeper.held) same;
  doubt = ap (λ (s : Standing). s.state.keeper.doubt) same;
  end = ap (λ (s : Standing). s.state.keeper.end) same;
  faults = ap (λ (s : Standing). s.state.keeper.faults) same;
}

-- a delivery that is claimed of the machine in the middle
module _ {P : Type 0} (k : Ghosts P) (m : ℕ) (before mid : Machine P) where
  abbrev was : Standing
  was = standing_by k.shown k.crashes before

  abbrev out-is : Standing
  out-is = standing_by k.shown k.crashes mid

  -- there was no memory for its line
  pub lineless_first : (seen now : Log) (asked heard : Told) (t : Tried) (out : Output)
      → IsTriedFirst before.history m seen now asked heard t → out-is ≡ was
      → TriesFirst k.growth k.room m was.state out-is.state asked heard out out (Err stops.Memory)
  lineless_first seen now asked heard t out i same =
      first-tried k.growth k.room m was.state out-is.state seen now asked heard t out out
      (Err stops.Memory) i (
        i.exchanges,
        shown_begun (town before.history) i.pair.activity i.pair.recipient i.exchanges t.came i.shows,
        i.exchanged,
        ap (λ (s : Standing). s.state.history) same,
        same-room was out-is same,
        refl,
      )

  -- ---- and whose outcome was to be recorded

  module _ (after : Machine P) where
    abbrev now-is : Standing
    now-is = standing_by k.shown k.crashes after

    kept-from : (p : Pair) (came : Came) → out-is ≡ was
        → KeepsTried k mid after p came m (Ok tt)
        → IsKept k.growth k.room before.history (tried p came m) was.state.keeper now-is.state.keeper
        after.history
    kept-from p came same y =
        subst (λ (s : Standing). IsKept k.growth k.room s.state.history (tried p came m)
        s.state.keeper now-is.state.keeper now-is.state.history) same y.kept

    -- its line was printed
    pub sent_first : (seen now : Log) (asked heard : Told) (t : Tried) (first out : Output)
        → (i : IsTriedFirst before.history m seen now asked heard t) → out-is ≡ was
        → KeepsTried k mid after i.pair t.came m (Ok tt)
        → Writes first out (attempt_line i.pair.activity i.pair.recipient t.came)
        → TriesFirst k.growth k.room m was.state now-is.state asked heard first out (Ok tt)
    sent_first seen now asked heard t first out i same y line =
        first-tried k.growth k.room m was.state now-is.state seen now asked heard t first out (Ok tt)
        i (i.exchanges, t.came, i.shows, i.exchanged, kept-from i.pair t.came same y, line)

    -- that write failed
    pub broken_first : (seen now : Log) (asked heard : Told) (t : Tried) (first out : Output)
        → (i : IsTriedFirst before.history m seen now asked heard t) → out-is ≡ was
        → KeepsTried k mid after i.pair t.came m (Ok tt)
        → BreaksOff first out [] (attempt_line i.pair.activity i.pair.recipient t.came)
        → TriesFirst k.growth k.room m was.state now-is.state asked heard first out
        (Err stops.WriteFault)
    broken_first seen now asked heard t first out i same y broken =
        first-tried k.growth k.room m was.state now-is.state seen now asked heard t first out
        (Err stops.WriteFault) i
        (i.exchanges, t.came, i.shows, i.exchanged, kept-from i.pair t.came same y, broken)

    unkept-trial : (p : Pair) (exchanges : List Exchange) (came : Came) (asked heard : Told)
        (out : Output) (f : RecordFault)
        → ShowsCame (town mid.history) p.activity p.recipient exchanges came
        → HasExchanged asked heard exchanges → KeepsTried k mid after p came m (Err f)
        → EndsTrial k.growth k.room m p.activity p.recipient out-is.state now-is.state asked heard
        out out (Err (stop_of f))
    unkept-trial p exchanges came asked heard out records.KeeperFault shows exchanged y =
        (exchanges, came, shows, exchanged, y.same, y.refused, y.next refl, refl)
    unkept-trial p exchanges came asked heard out records.Full shows exchanged y =
        (exchanges, came, shows, exchanged, y.same, y.refused, refl)
    unkept-trial p exchanges came asked heard out records.Memory shows exchanged y = (
      exchanges,
      shown_begun (town mid.history) p.activity p.recipient exchanges came shows,
      exchanged,
      y.same,
      y.refused,
      refl,
    )

    -- its entry was not kept
    pub unkept_first : (seen now : Log) (asked heard : Told) (t : Tried) (out : Output)
        (f : RecordFault) → (i : IsTriedFirst before.history m seen now asked heard t)
        → out-is ≡ was → KeepsTried k mid after i.pair t.came m (Err f)
        → TriesFirst k.growth k.room m was.state now-is.state asked heard out out (Err (stop_of f))
    unkept_first seen now asked heard t out f i same y =
        first-tried k.growth k.room m was.state now-is.state seen now asked heard t out out
        (Err (stop_of f)) i
        (subst (λ (s : Standing). EndsTrial k.growth k.room m i.pair.activity i.pair.recipient
        s.state now-is.state asked heard out out (Err (stop_of f))) same
        (unkept-trial i.pair i.exchanges t.came asked heard out f
        (subst (λ (s : Standing). ShowsCame (town s.state.history) i.pair.activity i.pair.recipient
        i.exchanges t.came) (sym same) i.shows)
        i.exchanged y))

-- ---- it was not finished, or there was none

-- there was no memory to attempt it, or to claim any
pub lacking_next : (growth room : ℕ → ℕ) (m : ℕ) (opened : List Entry) (before after : Standing)
    (seen now : Log) (asked heard : Told) (front : ℕ) (out : Output) (e : AllocError)
    → IsAtRest opened before.state.history seen → GoesAlone None (given opened) now
    → after ≡ before → TriesNext None m seen now asked heard front (Err e)
    → EndsNext growth room m before.state after.state asked heard out out (Err stops.Memory)
lacking_next growth room m opened before after seen now asked heard front out e rest alone same
    (inl (exchanged, goes, crowded)) = inr (
      refl,
      record {
        same = ap (λ (s : Standing). s.state) same;
        silent = exchanged;
        unwritten = refl;
      },
    )
lacking_next growth room m opened before after seen now asked heard front out e rest alone same
    (inr g) =
    let k = known opened before.state.history m seen now
    (made_by None (Released g.attempt.pair) ∷ []) g.attempt rest alone g.released g.out in
    inl (record {
      id = g.attempt.pair.activity;
      recipient = g.attempt.pair.recipient;
      delivery = k.first.delivery;
      rest = k.first.rest;
      due = k.first.due;
      to = k.first.to;
      ends = (
        g.exchanges,
        subst (λ (w : Town). IsBegun w g.attempt.pair.activity g.attempt.pair.recipient g.exchanges)
            (town_there opened before.state.history seen g.attempt.log rest k.here) g.begun,
        g.exchanged,
        ap (λ (s : Standing). s.state.history) same,
        same-room before after same,
        refl,
      );
    })

-- there was none
pub nothing_next : (growth room : ℕ → ℕ) (m : ℕ) (opened : List Entry) (before after : Standing)
    (seen now : Log) (asked heard : Told) (front : ℕ) (out : Output)
    → IsAtRest opened before.state.history seen → GoesAlone None (given opened) now
    → after ≡ before → TriesNext None m seen now asked heard front (Ok None)
    → EndsNext growth room m before.state after.state asked heard out out (Ok false)
    × IsAtRest opened after.state.history now
nothing_next growth room m opened before after seen now asked heard front out rest alone same t =
    let here = goes-nowhere (given opened) seen now now [] rest.alone alone t.1
    (sym (append-nil now)) in
    let still = ap (λ (s : Standing). s.state.history) same in (
      (
        none_due opened before.state.history m seen now rest alone t.1 t.3,
        record { same = ap (λ (s : Standing). s.state) same; silent = t.0; unwritten = refl },
      ),
      record {
        alone = alone;
        held = still ∙ rest.held ∙ ap (λ (l : Log). history_of l) (sym here);
        free = λ p. ap (λ (l : Log). is_claimed_in l p) here ∙ rest.free p;
        legal = subst IsLegal (sym still) rest.legal;
      },
    )

-- ---- its line

pub line_for : {A E : Type 0} (id recipient activity to : List ℕ) (came : Came)
    (r : Result (Vec ℕ A) E) → id ≡ activity → recipient ≡ to
    → IfOk r (λ line. line.items ≡ attempt_line id recipient came)
    → IfOk r (λ line. line.items ≡ attempt_line activity to came)
line_for id recipient activity to came (Ok line) same other is =
    is ∙ ap (λ (t : List ℕ). attempt_line t recipient came) same
    ∙ ap (λ (t : List ℕ). attempt_line activity t came) other
line_for id recipient activity to came (Err e) same other is = tt
