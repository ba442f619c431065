-- How trials follow one another, and how their trying ends.
use Rattle.std.proofs.Common.{◌≡◌, ℕ, ◌+◌, ◌-◌, ◌≤◌, false, true, List, [], ◌∷◌, ◌++◌, length, Option, None, Some, Ok, Err, arith, inl, inr, refl, sym, ap, subst, ◌∙◌, append-nil, codes}
use Rattle.std.proofs.lemmas.Grind.{flat_map-append}
use Rattle.std.proofs.lemmas.List.{length-append}
use Rattle.fedi_core.specs.Keeping.{IsKept, Refuses}
use Rattle.fedi_core.specs.declared.keeping.KeepFault.TheVariants as keeps
use Rattle.fedi_delivery.specs.Exchanges.{Told}
use Rattle.fedi_queue.proofs.Due.{attempts_leave}
use Rattle.fedi_queue.specs.Due.{IsTo, due_in}
use Rattle.fedi_entry.specs.Codes.{code_of}
use Rattle.fedi_log.proofs.Keeping.{unchanged}
use Rattle.fedi_log.specs.Keeping.{Base, Keeps, State}
use Rattle.fedi_log.specs.Log.{Failed, Log, NoEntry, items_of}
use Rattle.fedi_logged.proofs.Crashing.{survives_more}
use Rattle.fedi_logged.specs.Marks.{Survives, SurvivesMarked}
use Rattle.fedi_logged.specs.Turns.{Standing, Turns}
use Rattle.fedi_objects.specs.declared.entry.Entry.{Entry}
use Rattle.fedi_objects.specs.declared.entry.Entry.TheVariants.{Tried}
use Rattle.fedi_opening.specs.Opening.{IsNext}
use Rattle.fedi_outside.specs.Keepers.{Crashes, KeeperState, OnlyRoomChanged, PassesTime}
use Rattle.fedi_startup.specs.Surviving.{growth, room}
use Rattle.fedi_logged.specs.Conversations.{IsNow}
use Rattle.fedi_logged.specs.Endings.{BreaksOff, Output, Writes, WritesUnlessFailed}
use Rattle.fedi_town.specs.Histories.{town}
use Rattle.fedi_town.specs.Legal.{IsLegal}
use Rattle.fedi_town.specs.Queues.{Delivery}
use Rattle.fedi_program.specs.Commands.{Deliver}
use Rattle.fedi_logged.specs.Attempts.{Exchange, HasExchanged}
use Rattle.fedi_logged.proofs.Attempts.{exchanged_more, exchanged_none}
use Rattle.fedi_logged.proofs.SessionLemmas.{writes_on, breaks_on, unless_failed_on}
use Rattle.fedi_program.specs.Members.{IsSettled}
use Rattle.fedi_program.specs.Delivering.{AreFirst, DoesNothing, EndsNext, EndsTrial, EndsTrying, IsAttempt, IsStopped, TellsDone, Trial, TriesDue, TriesEach, TriesFirst, done_line, entry_of, exchanges_of, line_of, lines_of}
use Rattle.fedi_program.specs.declared.delivering.Stop.{Stop}
use Rattle.fedi_program.specs.declared.delivering.Stop.TheVariants.{WriteFault, KeeperFault, Full, Memory}
use Rattle.fedi_program.specs.Endings.{Prints}
use Rattle.fedi_program.specs.Runs.{is_status_of}
use Rattle.fedi_program.proofs.MemberLemmas.{failed_again}
use Rattle.fedi_program.proofs.RunLemmas.{known_status}

-- ---- one trial more

-- the machine before and after it
abbrev Tries : (growth room : ℕ → ℕ) → ℕ → Trial → State → State → Type 0
Tries growth room moment x before after =
    IsAttempt (town before.history) x × IsKept growth room before.history (entry_of moment x) before.keeper after.keeper after.history

each-more : (growth room : ℕ → ℕ) (moment : ℕ) (opened : State) (tried : List Trial) (before after : State) (x : Trial) → TriesEach growth room moment opened tried before
    → Tries growth room moment x before after → TriesEach growth room moment opened (tried ++ x ∷ []) after
each-more growth room moment opened [] before after x each more =
    let same = subst (λ (s : State). Tries growth room moment x s after) each more in (after, same.0, same.1, refl)
each-more growth room moment opened (y ∷ ys) before after x each more = (each.0, each.1, each.2, each-more growth room moment each.0 ys before after x each.3 more)

first-more : (due : List Delivery) (tried : List Trial) (left rest : List Delivery) (d : Delivery) (x : Trial) → AreFirst due tried left → left ≡ d ∷ rest
    → IsTo x.activity x.recipient d → AreFirst due (tried ++ x ∷ []) rest
first-more due [] left rest d x first is to = subst (λ (ds : List Delivery). AreFirst ds (x ∷ []) rest) (sym (first ∙ is)) (to, refl)
first-more [] (y ∷ ys) left rest d x first is to = absurd first
first-more (e ∷ due) (y ∷ ys) left rest d x first is to = (first.0, first-more due ys left rest d x first.1 is to)

lines-more : (tried : List Trial) (x : Trial) → lines_of (tried ++ x ∷ []) ≡ lines_of tried ++ line_of x
lines-more tried x = flat_map-append line_of tried (x ∷ []) ∙ ap (λ (l : List ℕ). lines_of tried ++ l) (append-nil (line_of x))

exchanges-more : (tried : List Trial) (x : Trial) → exchanges_of (tried ++ x ∷ []) ≡ exchanges_of tried ++ x.exchanges
exchanges-more tried x =
    flat_map-append (λ (y : Trial). y.exchanges) tried (x ∷ []) ∙ ap (λ (l : List Exchange). exchanges_of tried ++ l) (append-nil x.exchanges)

-- ---- while there is more to try

-- the first of the deliveries that were due were tried, those that are due now are left, and the
-- line of each trial is printed
pub record IsTrying (growth room : ℕ → ℕ) (moment : ℕ) (opened now : State) (asked heard : Told) (first out : Output) : Type 0 where
  pub tried : List Trial
  pub each : TriesEach growth room moment opened tried now
  pub due : AreFirst (due_in (town opened.history) moment) tried (due_in (town now.history) moment)
  pub exchanged : HasExchanged asked heard (exchanges_of tried)
  pub written : Writes first out (lines_of tried)

pub trying_first : (growth room : ℕ → ℕ) (moment : ℕ) (opened : State) (link : Told) (out : Output) → Writes out out [] → IsTrying growth room moment opened opened link link out out
trying_first growth room moment opened link out nothing = record { tried = []; each = refl; due = refl; exchanged = exchanged_none link; written = nothing }

-- what one trial leaves, except for its line
record TriedOn (growth room : ℕ → ℕ) (moment : ℕ) (opened next : State) (asked later : Told) (tried : List Trial) (rest : List Delivery) (x : Trial) : Type 0 where
  each : TriesEach growth room moment opened (tried ++ x ∷ []) next
  due : AreFirst (due_in (town opened.history) moment) (tried ++ x ∷ []) rest
  exchanged : HasExchanged asked later (exchanges_of (tried ++ x ∷ []))

tried-on : (growth room : ℕ → ℕ) (moment : ℕ) (opened now next : State) (asked heard later : Told) (first out : Output) (d : Delivery) (rest : List Delivery) (x : Trial)
    → (t : IsTrying growth room moment opened now asked heard first out) → due_in (town now.history) moment ≡ d ∷ rest → IsTo x.activity x.recipient d
    → IsAttempt (town now.history) x → IsKept growth room now.history (entry_of moment x) now.keeper next.keeper next.history → HasExchanged heard later x.exchanges
    → TriedOn growth room moment opened next asked later t.tried rest x
tried-on growth room moment opened now next asked heard later first out d rest x t is to attempt kept exchanged = record {
  each = each-more growth room moment opened t.tried now next x t.each (attempt, kept);
  due = first-more (due_in (town opened.history) moment) t.tried (due_in (town now.history) moment) rest d x t.due is to;
  exchanged = subst (HasExchanged asked later) (sym (exchanges-more t.tried x)) (exchanged_more asked heard later (exchanges_of t.tried) x.exchanges t.exchanged exchanged);
}

pub trying_more : (growth room : ℕ → ℕ) (moment : ℕ) (opened now next : State) (asked heard later : Told) (first out after : Output) (d : Delivery) (rest : List Delivery) (x : Trial)
    → IsTrying growth room moment opened now asked heard first out → due_in (town now.history) moment ≡ d ∷ rest → IsTo x.activity x.recipient d
    → due_in (town next.history) moment ≡ rest → IsAttempt (town now.history) x
    → IsKept growth room now.history (entry_of moment x) now.keeper next.keeper next.history → HasExchanged heard later x.exchanges → Writes out after (line_of x)
    → IsTrying growth room moment opened next asked later first after
trying_more growth room moment opened now next asked heard later first out after d rest x t is to left attempt kept exchanged line =
    let on = tried-on growth room moment opened now next asked heard later first out d rest x t is to attempt kept exchanged in
    record {
      tried = t.tried ++ x ∷ [];
      each = on.each;
      due = subst (AreFirst (due_in (town opened.history) moment) (t.tried ++ x ∷ [])) (sym left) on.due;
      exchanged = on.exchanged;
      written = subst (Writes first after) (sym (lines-more t.tried x)) (writes_on first out after (lines_of t.tried) (line_of x) t.written line);
    }

-- each entry that was kept is one more
each-grown : (growth room : ℕ → ℕ) (moment : ℕ) (opened now : State) (tried : List Trial) → TriesEach growth room moment opened tried now
    → length now.history ≡ length opened.history + length tried
each-grown growth room moment opened now [] each = let same : length now.history ≡ length opened.history = ap (λ (s : State). length s.history) each in omega (arith, same)
each-grown growth room moment opened now (x ∷ xs) each =
    let rest = each-grown growth room moment each.0 now xs each.3 in
    let one : length each.0.history ≡ length opened.history + 1 = ap length each.2.history ∙ length-append opened.history (entry_of moment x ∷ []) in
    omega (arith, rest, one)

-- one claimed delivery was tried, and the others are left
pub trial_more : (growth room : ℕ → ℕ) (moment : ℕ) (opened now next : State) (asked heard later : Told) (first out after : Output) (id recipient : List ℕ) (d : Delivery) (rest : List Delivery)
    (done : Unit {0}) → IsTrying growth room moment opened now asked heard first out → due_in (town now.history) moment ≡ d ∷ rest → IsTo id recipient d → IsLegal next.history
    → EndsTrial growth room moment id recipient now next heard later out after (Ok done)
    → IsTrying growth room moment opened next asked later first after × (due_in (town next.history) moment ≡ rest)
trial_more growth room moment opened now next asked heard later first out after id recipient d rest done t is to legal (exchanges, came, shows, exchanged, kept, line) =
    let x : Trial = record { activity = id; recipient = recipient; exchanges = exchanges; came = came } in
    let left : due_in (town next.history) moment ≡ rest =
    ap (λ (h : List Entry). due_in (town h) moment) kept.history
    ∙ attempts_leave now.history id recipient came moment d rest (subst IsLegal kept.history legal) is to in
    (trying_more growth room moment opened now next asked heard later first out after d rest x t is to left shows kept exchanged line, left)

-- the history grew
pub trying_grown : (growth room : ℕ → ℕ) (moment : ℕ) (opened now : State) (asked heard : Told) (first out : Output) → IsTrying growth room moment opened now asked heard first out
    → length opened.history ≤ length now.history
trying_grown growth room moment opened now asked heard first out t = let grown = each-grown growth room moment opened now t.tried t.each in omega (arith, grown)

-- ---- how it ends

-- there is no exchange beyond those of the trials
none-beyond : (asked heard : Told) (tried : List Trial) → HasExchanged asked heard (exchanges_of tried) → HasExchanged asked heard (exchanges_of tried ++ [])
none-beyond asked heard tried e = subst (HasExchanged asked heard) (sym (append-nil (exchanges_of tried))) e

-- nothing that is due is left, and the last line was printed, or that write failed
pub trying_done : (growth room : ℕ → ℕ) (told : Option ℕ) (moment count : ℕ) (opened now : State) (asked heard : Told) (first out last : Output) (status : ℕ) → IsNow told moment
    → IsTrying growth room moment opened now asked heard first out → due_in (town now.history) moment ≡ [] → count ≡ length now.history - length opened.history
    → Prints out last (done_line count) status → TriesDue growth room told opened now asked heard first last status
trying_done growth room told moment count opened now asked heard first out last status is_now t none counted prints = record {
  moment = moment;
  is_now = is_now;
  tried = t.tried;
  left = [];
  last = now;
  beyond = [];
  each = t.each;
  due = subst (AreFirst (due_in (town opened.history) moment) t.tried) none t.due;
  exchanged = none-beyond asked heard t.tried t.exchanged;
  ends = inl (refl, refl, refl, of (subst (λ (n : ℕ). Prints out last (done_line n) status) all prints));
}
  where
    all : count ≡ length t.tried
    all = let grown = each-grown growth room moment opened now t.tried t.each in omega (arith, grown, counted)

    of : Prints out last (done_line (length t.tried)) status → TellsDone t.tried first last status
    of (inl p) = inl (p.0, writes_on first out last (lines_of t.tried) (done_line (length t.tried)) t.written p.1)
    of (inr p) = inr (p.0, breaks_on first out last (lines_of t.tried) (done_line (length t.tried)) t.written p.1)

-- nothing was done
pub trying_still : (growth room : ℕ → ℕ) (moment : ℕ) (opened now next : State)
    (asked heard later : Told) (first out after : Output)
    → IsTrying growth room moment opened now asked heard first out
    → DoesNothing now next heard later out after
    → IsTrying growth room moment opened next asked later first after
trying_still growth room moment opened now next asked heard later first out after t d = record {
  tried = t.tried;
  each = subst (TriesEach growth room moment opened t.tried) (sym d.same) t.each;
  due = subst (λ (s : State). AreFirst (due_in (town opened.history) moment) t.tried
      (due_in (town s.history) moment)) (sym d.same) t.due;
  exchanged = subst (HasExchanged asked later) (append-nil (exchanges_of t.tried))
      (exchanged_more asked heard later (exchanges_of t.tried) [] t.exchanged d.silent);
  written = subst (λ (o : Output). Writes first o (lines_of t.tried)) (sym d.unwritten) t.written;
}

-- there was none to try, and the last line was printed, or that write failed
pub done_due : (growth room : ℕ → ℕ) (told : Option ℕ) (moment count : ℕ) (opened now next : State)
    (asked heard later : Told) (first out mid last : Output) (status : ℕ) → IsNow told moment
    → IsTrying growth room moment opened now asked heard first out
    → EndsNext growth room moment now next heard later out mid (Ok false)
    → count ≡ length next.history - length opened.history
    → Prints mid last (done_line count) status
    → TriesDue growth room told opened next asked later first last status
done_due growth room told moment count opened now next asked heard later first out mid last status
    is_now t (none, d) counted prints =
    trying_done growth room told moment count opened next asked later first mid last status is_now
    (trying_still growth room moment opened now next asked heard later first out mid t d)
    (ap (λ (s : State). due_in (town s.history) moment) d.same ∙ none) counted prints

-- there was no memory to begin the next
pub trying_lacked : (growth room : ℕ → ℕ) (told : Option ℕ) (moment : ℕ) (opened now after : State)
    (asked heard : Told) (first out last : Output) (status : ℕ) → IsNow told moment
    → IsTrying growth room moment opened now asked heard first out
    → IsStopped Memory now after out last status
    → TriesDue growth room told opened after asked heard first last status
trying_lacked growth room told moment opened now after asked heard first out last status is_now t
    (is_twelve, same, quiet) = record {
      moment = moment;
      is_now = is_now;
      tried = t.tried;
      left = due_in (town now.history) moment;
      last = now;
      beyond = [];
      each = t.each;
      due = t.due;
      exchanged = none-beyond asked heard t.tried t.exchanged;
      ends = inr (inr (inr (
        is_twelve,
        ap (λ (s : State). s.history) same,
        record {
          records = ap (λ (s : State). s.keeper.records) same;
          held = ap (λ (s : State). s.keeper.held) same;
          doubt = ap (λ (s : State). s.keeper.doubt) same;
          end = ap (λ (s : State). s.keeper.end) same;
          faults = ap (λ (s : State). s.keeper.faults) same;
        },
        subst (λ (o : Output). Writes first o (lines_of t.tried)) (sym quiet) t.written,
        inl refl,
      )));
    }

-- the result of one more attempt was not kept, or not reported
pub trying_stopped : (growth room : ℕ → ℕ) (told : Option ℕ) (moment : ℕ) (opened now refused after : State) (asked heard later : Told) (first out mid last : Output)
    (id recipient : List ℕ) (d : Delivery) (rest : List Delivery) (stop : Stop) (status : ℕ) → IsNow told moment
    → IsTrying growth room moment opened now asked heard first out → due_in (town now.history) moment ≡ d ∷ rest → IsTo id recipient d
    → EndsTrial growth room moment id recipient now refused heard later out mid (Err stop) → IsStopped stop refused after mid last status
    → TriesDue growth room told opened after asked later first last status
trying_stopped growth room told moment opened now refused after asked heard later first out mid last id recipient d rest WriteFault status is_now t is to
    (exchanges, came, shows, exchanged, kept, broken) (is_seven, same, silent) =
    let x : Trial = record { activity = id; recipient = recipient; exchanges = exchanges; came = came } in
    let on = tried-on growth room moment opened now refused asked heard later first out d rest x t is to shows kept exchanged in
    record {
      moment = moment;
      is_now = is_now;
      tried = t.tried ++ x ∷ [];
      left = rest;
      last = refused;
      beyond = [];
      each = on.each;
      due = on.due;
      exchanged = none-beyond asked later (t.tried ++ x ∷ []) on.exchanged;
      ends = inr (inl (
        refl,
        same,
        (
          is_seven,
          t.tried,
          x,
          refl,
          breaks_on first out last (lines_of t.tried) (line_of x) t.written
              (subst (λ (o : Output). BreaksOff out o [] (line_of x)) (sym silent) broken),
        ),
      ));
    }
trying_stopped growth room told moment opened now refused after asked heard later first out mid last id recipient d rest KeeperFault status is_now t is to
    (exchanges, came, shows, exchanged, still, refuses, next, silent) (is_five, settled, tells) =
    let x : Trial = record { activity = id; recipient = recipient; exchanges = exchanges; came = came } in
    record {
      moment = moment;
      is_now = is_now;
      tried = t.tried;
      left = d ∷ rest;
      last = now;
      beyond = exchanges;
      each = t.each;
      due = subst (AreFirst (due_in (town opened.history) moment) t.tried) is t.due;
      exchanged = exchanged_more asked heard later (exchanges_of t.tried) exchanges t.exchanged exchanged;
      ends = inr (inr (inl (
        x,
        to,
        shows,
        refl,
        inr (
          is_five,
          refused,
          still,
          refuses,
          settled,
          unless_failed_on first out last (lines_of t.tried) (codes "disk fault\n") t.written
              (subst (λ (o : Output). WritesUnlessFailed o last [] (codes "disk fault\n")) silent tells),
        ),
      )));
    }
trying_stopped growth room told moment opened now refused after asked heard later first out mid last id recipient d rest Full status is_now t is to
    (exchanges, came, shows, exchanged, still, refuses, silent) (is_full, same, tells) =
    let x : Trial = record { activity = id; recipient = recipient; exchanges = exchanges; came = came } in
    record {
      moment = moment;
      is_now = is_now;
      tried = t.tried;
      left = d ∷ rest;
      last = now;
      beyond = exchanges;
      each = t.each;
      due = subst (AreFirst (due_in (town opened.history) moment) t.tried) is t.due;
      exchanged = exchanged_more asked heard later (exchanges_of t.tried) exchanges t.exchanged exchanged;
      ends = inr (inr (inl (
        x,
        to,
        shows,
        refl,
        inl (
          is_full,
          ap (λ (s : State). s.history) same ∙ still,
          subst (λ (s : State). Refuses room (code_of (entry_of moment x)) keeps.Full now.keeper s.keeper) (sym same) refuses,
          unless_failed_on first out last (lines_of t.tried) (codes "full\n") t.written
              (subst (λ (o : Output). WritesUnlessFailed o last [] (codes "full\n")) silent tells),
        ),
      )));
    }
trying_stopped growth room told moment opened now refused after asked heard later first out mid last id recipient d rest Memory status is_now t is to
    (exchanges, begun, exchanged, still, only, silent) (is_twelve, same, quiet) = record {
      moment = moment;
      is_now = is_now;
      tried = t.tried;
      left = d ∷ rest;
      last = now;
      beyond = exchanges;
      each = t.each;
      due = subst (AreFirst (due_in (town opened.history) moment) t.tried) is t.due;
      exchanged = exchanged_more asked heard later (exchanges_of t.tried) exchanges t.exchanged exchanged;
      ends = inr (inr (inr (
        is_twelve,
        ap (λ (s : State). s.history) same ∙ still,
        subst (λ (s : State). OnlyRoomChanged now.keeper s.keeper) (sym same) only,
        subst (λ (o : Output). Writes first o (lines_of t.tried)) (sym (quiet ∙ silent)) t.written,
        inr (id, recipient, to, begun),
      )));
    }

-- the first of what was due was tried
pub sent_more : (growth room : ℕ → ℕ) (moment : ℕ) (opened now next : State)
    (asked heard later : Told) (first out after : Output)
    → IsTrying growth room moment opened now asked heard first out → IsLegal next.history
    → (f : TriesFirst growth room moment now next heard later out after (Ok tt))
    → IsTrying growth room moment opened next asked later first after
    × (due_in (town next.history) moment ≡ f.rest)
sent_more growth room moment opened now next asked heard later first out after t legal f =
    trial_more growth room moment opened now next asked heard later first out after f.id f.recipient
    f.delivery f.rest tt t f.due f.to legal f.ends

-- no more is tried
pub ended_due : (growth room : ℕ → ℕ) (told : Option ℕ) (moment : ℕ)
    (opened now refused after : State) (asked heard later : Told) (first out mid last : Output)
    (stop : Stop) (status : ℕ) → IsNow told moment
    → IsTrying growth room moment opened now asked heard first out
    → EndsNext growth room moment now refused heard later out mid (Err stop)
    → IsStopped stop refused after mid last status
    → TriesDue growth room told opened after asked later first last status
ended_due growth room told moment opened now refused after asked heard later first out mid last stop
    status is_now t (inl f) is =
    trying_stopped growth room told moment opened now refused after asked heard later first out mid
    last f.id f.recipient f.delivery f.rest stop status is_now t f.due f.to f.ends is
ended_due growth room told moment opened now refused after asked heard later first out mid last stop
    status is_now t (inr (none, d)) is =
    trying_lacked growth room told moment opened refused after asked later first mid last status
    is_now (trying_still growth room moment opened now refused asked heard later first out mid t d)
    (subst (λ (s : Stop). IsStopped s refused after mid last status) none is)

-- ---- the status

ends-status : (room : ℕ → ℕ) (moment : ℕ) (last after : State) (tried : List Trial) (left : List Delivery) (beyond : List Exchange) (first now : Output) (status : ℕ)
    → EndsTrying room moment last after tried left beyond first now status → is_status_of (Some Deliver) status ≡ true
ends-status room moment last after tried left beyond first now status (inl (_, _, _, inl done)) = known_status (Some Deliver) status 0 refl done.0
ends-status room moment last after tried left beyond first now status (inl (_, _, _, inr broken)) = known_status (Some Deliver) status 7 refl broken.0
ends-status room moment last after tried left beyond first now status (inr (inl (_, _, loses))) = known_status (Some Deliver) status 7 refl loses.0
ends-status room moment last after tried left beyond first now status (inr (inr (inl (x, _, _, _, inl full)))) = known_status (Some Deliver) status 13 refl full.0
ends-status room moment last after tried left beyond first now status (inr (inr (inl (x, _, _, _, inr failed)))) = known_status (Some Deliver) status 5 refl failed.0
ends-status room moment last after tried left beyond first now status (inr (inr (inr (is, _, _, _, _)))) = known_status (Some Deliver) status 12 refl is

-- ---- what a crash may leave

-- a turn in which nothing was kept
still-turn : (growth : ℕ → ℕ) (before after : Standing) → after.state ≡ before.state
    → PassesTime before.state.keeper.records before.state.keeper.doubt before.crashes after.crashes → Turns growth before after NoEntry
still-turn growth before after same time = record {
  follows = unchanged growth before.state after.state (ap (λ (s : State). s.history) same) (ap (λ (s : State). s.keeper.records) same)
      (ap (λ (s : State). s.keeper.end) same) (ap (λ (s : State). s.keeper.doubt) same) (ap (λ (s : State). s.keeper.faults) same);
  passes = time;
  may_fail = tt;
}

-- what was in doubt is settled
undoubted : (b : Base) (seen log : Log) (x y : Crashes) (refused after : State)
    → after.history ≡ refused.history → after.keeper ≡ record refused.keeper { doubt = None }
    → Survives b None seen log refused x y → Survives b None seen log after x y
undoubted b seen log x y refused after still settled s =
    let k = s.holds.holds.keeper in
    let kept : Keeps b (record refused.keeper { doubt = None }) log = record {
      opened = k.opened;
      records = k.records;
      end = k.end;
      doubt = tt;
      faults = k.faults;
    } in
    record {
      holds = record {
        grown = s.holds.grown;
        holds = record {
          history = still ∙ s.holds.holds.history;
          keeper = subst (λ (q : KeeperState). Keeps b q log) (sym settled) kept;
        };
      };
      crashes = s.crashes;
      marks = s.marks;
    }

-- whatever stopped it, the machine represents a log: a failure to settle is marked once more
pub stopped_survives : (growth room : ℕ → ℕ) (b : Base) (m : ℕ) (before : State) (seen log : Log)
    (x : Crashes) (refused after : Standing) (asked heard : Told) (first mid last : Output)
    (stop : Stop) (status : ℕ)
    → Survives b None seen log refused.state x refused.crashes
    → EndsNext growth room m before refused.state asked heard first mid (Err stop)
    → IsStopped stop refused.state after.state mid last status
    → PassesTime refused.state.keeper.records refused.state.keeper.doubt refused.crashes after.crashes
    → SurvivesMarked b None seen after.state x after.crashes
stopped_survives growth room b m before seen log x refused after asked heard first mid last stop
    status was ends is time = of stop ends is
  where
    still : (s : State) → s ≡ refused.state
        → Survives b None seen (log ++ items_of None NoEntry) s x after.crashes
    still s same = survives_more b None seen log x refused (record { state = s; crashes = after.crashes })
        NoEntry was (still-turn b.growth refused (record { state = s; crashes = after.crashes }) same
        time)

    settled : (e : Entry) → IsNext (town refused.state.history) e
        → IsSettled refused.state after.state
        → SurvivesMarked b None seen after.state x after.crashes
    settled e next (same, inl done) = (
      log ++ items_of None NoEntry,
      undoubted b seen (log ++ items_of None NoEntry) x after.crashes refused.state after.state same
          done (still refused.state refl),
    )
    settled e next (same, inr failed) = (
      log ++ items_of None (Failed e),
      survives_more b None seen log x refused after (Failed e) was
          (failed_again b.growth refused after e next same failed time),
    )

    of : (s : Stop) → EndsNext growth room m before refused.state asked heard first mid (Err s)
        → IsStopped s refused.state after.state mid last status
        → SurvivesMarked b None seen after.state x after.crashes
    of WriteFault ends is = (log ++ items_of None NoEntry, still after.state is.1)
    of Full ends is = (log ++ items_of None NoEntry, still after.state is.1)
    of Memory ends is = (log ++ items_of None NoEntry, still after.state is.1)
    of KeeperFault (inr (never, same)) is = absurd (cc never)
    of KeeperFault (inl f) is =
        let e = Tried f.id f.recipient f.ends.1 m in
        let same : refused.state.history ≡ before.history = f.ends.4 in
        settled e (subst (λ (h : List Entry). IsNext (town h) e) (sym same) f.ends.6) is.1
