-- Over one input, at one moment and from one beginning, there is only one conversation with a
-- keeper that never fails.
use Rattle.std.proofs.Common.{◌≡◌, ℕ, Bool, true, false, List, [], ◌∷◌, Option, Some, None, Result, Ok, Err, inl, inr, refl, sym, ap, subst, ◌∙◌, arith, lit<}
use Rattle.fedi_town.specs.declared.refusal.Refusal.{Refusal}
use Rattle.fedi_http.proofs.ArrivalLemmas.{one_arrival}
use Rattle.fedi_http.specs.Arrivals.{IsArrival, OnRequest, TellsOfStream}
use Rattle.fedi_http.specs.declared.arrivals.Arrived.{Arrived}
use Rattle.fedi_http.specs.declared.arrivals.Arrived.TheVariants as arrivals
use Rattle.fedi_http.specs.declared.heads.TheConstants.{HEAD_LIMIT}
use Rattle.fedi_http.specs.declared.requests.TheConstants.{MOST_FIELDS}
use Rattle.fedi_objects.specs.declared.entry.Entry.{Entry}
use Rattle.fedi_model.specs.declared.ask.Ask.{Ask}
use Rattle.fedi_town.specs.declared.caller.Caller.{Caller}
use Rattle.fedi_model.specs.declared.reply.Reply.{Reply}
use Rattle.fedi_model.specs.declared.request.Request.{Request}
use Rattle.fedi_model.specs.Answers.{AnswersTo, caller_of}
use Rattle.fedi_town.specs.Histories.{town}
use Rattle.fedi_model.specs.Asks.{entry_of}
use Rattle.fedi_model.specs.Replies.{reply}
use Rattle.fedi_town.specs.Towns.{Town}
use Rattle.fedi_routes.proofs.AskLemmas.{asked_once}
use Rattle.fedi_log.specs.Log.{Log, Outcome, NoEntry, Kept, Full, Failed, history_of}
use Rattle.fedi_logged.specs.Conversations.{Setting, Exchange, Progress, Arrives, AreCalm, Converses, IsAnswered, IsAtEnd, IsCalm, IsExchange, IsNow, IsReply, NoGaps, Settles, StandsAtFront, after, progress}
use Rattle.fedi_log.specs.Keeping.{Base, end_of}

-- ---- one answer

same_to : (t : Town) (moment : ℕ) (caller : Result Caller Refusal) (q : Request) (body : List ℕ) (r s : Reply) (made other : Option Entry)
    → AnswersTo t moment caller q body r made → AnswersTo t moment caller q body s other → (r ≡ s) × (made ≡ other)
same_to t moment (Err e) q body r s made other x y = (x.0 ∙ sym y.0, x.1 ∙ sym y.1)
same_to t moment (Ok c) q body r s made other x y =
    let same : x.0 ≡ y.0 = asked_once t.host c q body x.0 y.0 x.1 y.1 in (
      x.2 ∙ ap (λ (ask : Ask). reply t c ask) same ∙ sym y.2,
      x.3 ∙ ap (λ (ask : Ask). entry_of t c ask moment) same ∙ sym y.3,
    )

-- ---- one outcome

-- an outcome and the reply that is given with it
abbrev IsSame : Outcome → Outcome → Reply → Reply → Type 0
IsSame a b r s = (a ≡ b) × (r ≡ s)

same_settling : (room : ℕ → ℕ) (end : ℕ) (r : Reply) (made : Option Entry) (a b : Outcome) (s t : Reply)
    → Settles room end r made a s → Settles room end r made b t → IsCalm a → IsCalm b → IsSame a b s t
same_settling room end r None NoEntry NoEntry s t x y ca cb = (refl, x ∙ sym y)
same_settling room end r None NoEntry (Kept e) s t x y ca cb = absurd y
same_settling room end r None NoEntry (Full e) s t x y ca cb = absurd y
same_settling room end r None NoEntry (Failed e) s t x y ca cb = absurd y
same_settling room end r None (Kept e) b s t x y ca cb = absurd x
same_settling room end r None (Full e) b s t x y ca cb = absurd x
same_settling room end r None (Failed e) b s t x y ca cb = absurd x
same_settling room end r (Some made) NoEntry b s t x y ca cb = absurd x
same_settling room end r (Some made) (Failed e) b s t x y ca cb = absurd ca
same_settling room end r (Some made) (Kept e) NoEntry s t x y ca cb = absurd y
same_settling room end r (Some made) (Kept e) (Failed f) s t x y ca cb = absurd cb
same_settling room end r (Some made) (Kept e) (Kept f) s t x y ca cb = (ap Kept (x.0 ∙ sym y.0), x.2 ∙ sym y.2)
same_settling room end r (Some made) (Kept e) (Full f) s t x y ca cb = absurd (omega (arith, x.1, y.1))
same_settling room end r (Some made) (Full e) NoEntry s t x y ca cb = absurd y
same_settling room end r (Some made) (Full e) (Failed f) s t x y ca cb = absurd cb
same_settling room end r (Some made) (Full e) (Kept f) s t x y ca cb = absurd (omega (arith, x.1, y.1))
same_settling room end r (Some made) (Full e) (Full f) s t x y ca cb = (ap Full (x.0 ∙ sym y.0), x.2 ∙ sym y.2)

same_reply : (room : ℕ → ℕ) (h : List Entry) (end moment : ℕ) (q : Request) (body : List ℕ) (a b : Outcome) (s t : Reply)
    → IsReply room h end moment q body a s → IsReply room h end moment q body b t → IsCalm a → IsCalm b → IsSame a b s t
same_reply room h end moment q body a b s t x y ca cb =
    let f = x.answer in
    let g = y.answer in
    let same = same_to (town h) moment (caller_of (town h) q body) q body f.0 g.0 f.1 g.1 f.2 g.2 in
    let first : Settles room end g.0 f.1 a s = subst (λ (r : Reply). Settles room end r f.1 a s) same.0 f.3 in
    same_settling room end g.0 g.1 a b s t (subst (λ (made : Option Entry). Settles room end g.0 made a s) same.1 first) g.3 ca cb

same_answer : (k : Base) (log : Log) (moment : ℕ) (arrived : Result Request Refusal) (body : List ℕ) (a b : Outcome) (s t : Reply)
    → IsAnswered k log moment arrived body a s → IsAnswered k log moment arrived body b t → IsCalm a → IsCalm b → IsSame a b s t
same_answer k log moment (Ok q) body a b s t x y ca cb = same_reply k.room (history_of log) (end_of k log) moment q body a b s t x y ca cb
same_answer k log moment (Err e) body a b s t x y ca cb = (x.0 ∙ sym y.0, x.1 ∙ sym y.1)

-- ---- one arrival

abbrev IsSameArrival : Result Request Refusal → Result Request Refusal → List ℕ → List ℕ → List ℕ → List ℕ → Type 0
IsSameArrival a b body text rest more = (a ≡ b) × (body ≡ text) × (rest ≡ more)

-- at most one answer holds of what is left
one_at_front : (left : List ℕ) (a b : Arrived) (body text rest more : List ℕ) → IsArrival HEAD_LIMIT MOST_FIELDS left a body rest → IsArrival HEAD_LIMIT MOST_FIELDS left b text more
    → TellsOfStream a → TellsOfStream b → (a ≡ b) × OnRequest a ((body ≡ text) × (rest ≡ more))
one_at_front left a b body text rest more x y ta tb = one_arrival HEAD_LIMIT MOST_FIELDS left a b body text rest more (lit< tt) x y ta tb

-- the request or the refusal in an arrival
abbrev request_in : Arrived → Request → Request
request_in (arrivals.Request q) d = q
request_in (arrivals.Refused e) d = d
request_in arrivals.End d = d
request_in arrivals.CutShort d = d
request_in arrivals.ReadFault d = d
request_in arrivals.Memory d = d

abbrev refusal_in : Arrived → Refusal → Refusal
refusal_in (arrivals.Request q) d = d
refusal_in (arrivals.Refused e) d = e
refusal_in arrivals.End d = d
refusal_in arrivals.CutShort d = d
refusal_in arrivals.ReadFault d = d
refusal_in arrivals.Memory d = d

abbrev is_request : Arrived → Bool
is_request (arrivals.Request q) = true
is_request (arrivals.Refused e) = false
is_request arrivals.End = false
is_request arrivals.CutShort = false
is_request arrivals.ReadFault = false
is_request arrivals.Memory = false

-- only one thing arrives
same_arrival : (left : List ℕ) (a b : Result Request Refusal) (body text rest more : List ℕ) → Arrives left a body rest → Arrives left b text more
    → IsSameArrival a b body text rest more
same_arrival left (Ok q) (Ok r) body text rest more x y =
    let same = one_at_front left (arrivals.Request q) (arrivals.Request r) body text rest more x y tt tt in
    (ap (λ (z : Arrived). Ok (request_in z q)) same.0, same.1.0, same.1.1)
same_arrival left (Ok q) (Err f) body text rest more x y =
    let same : arrivals.Request q ≡ arrivals.Refused f = (one_at_front left (arrivals.Request q) (arrivals.Refused f) body [] rest [] x y.0 tt tt).0 in
    let clash : true ≡ false = ap is_request same in absurd cc
same_arrival left (Err e) (Ok r) body text rest more x y =
    let same : arrivals.Refused e ≡ arrivals.Request r = (one_at_front left (arrivals.Refused e) (arrivals.Request r) [] text [] more x.0 y tt tt).0 in
    let clash : false ≡ true = ap is_request same in absurd cc
same_arrival left (Err e) (Err f) body text rest more x y =
    let same : arrivals.Refused e ≡ arrivals.Refused f = (one_at_front left (arrivals.Refused e) (arrivals.Refused f) [] [] [] [] x.0 y.0 tt tt).0 in
    (ap (λ (z : Arrived). Err (refusal_in z e)) same, x.1 ∙ sym y.1, x.2 ∙ sym y.2)

abbrev IsNoRefusal : Arrived → Type 0
IsNoRefusal (arrivals.Request q) = Unit {0}
IsNoRefusal (arrivals.Refused e) = ⊥
IsNoRefusal arrivals.End = Unit {0}
IsNoRefusal arrivals.CutShort = Unit {0}
IsNoRefusal arrivals.ReadFault = Unit {0}
IsNoRefusal arrivals.Memory = Unit {0}

-- if nothing more is answered, nothing arrives
none_arrives : (left : List ℕ) (a : Result Request Refusal) (body rest : List ℕ) (b : Arrived) → is_request b ≡ false → IsNoRefusal b → TellsOfStream b
    → Arrives left a body rest → StandsAtFront left b → ⊥
none_arrives left (Ok q) body rest b other none tells x y =
    let same = (one_at_front left (arrivals.Request q) b body [] rest [] x y tt tells).0 in
    let clash : true ≡ false = ap is_request same ∙ other in cc
none_arrives left (Err e) body rest b other none tells x y =
    let same : b ≡ arrivals.Refused e = sym (one_at_front left (arrivals.Refused e) b [] [] [] [] x.0 y tt tells).0 in
    subst (λ (z : Arrived). IsNoRefusal z) same none

-- ---- one exchange

now_same : (told : Option ℕ) (seconds m n : ℕ) → told ≡ Some seconds → IsNow told m → IsNow told n → m ≡ n
now_same None seconds m n is x y = absurd cc
now_same (Some s) seconds m n is x y = x ∙ sym y

same_exchange : (w : Setting) (seconds : ℕ) (p : Progress) (x y : Exchange) → w.told ≡ Some seconds → IsExchange w p x → IsExchange w p y
    → x.log ≡ p.log → y.log ≡ p.log → IsCalm x.outcome → IsCalm y.outcome → x ≡ y
same_exchange w seconds p x y told a b la lb ca cb =
    let came = same_arrival p.left x.arrived y.arrived x.body y.body x.rest y.rest a.arrival b.arrival in
    let log : x.log ≡ y.log = la ∙ sym lb in
    let moment : x.moment ≡ y.moment = now_same w.told seconds x.moment y.moment told a.now b.now in
    let one = subst (λ (r : Result Request Refusal). IsAnswered w.base x.log x.moment r x.body x.outcome x.reply) came.0 a.reply in
    let two = subst (λ (t : List ℕ). IsAnswered w.base x.log x.moment y.arrived t x.outcome x.reply) came.1 one in
    let three = subst (λ (l : Log). IsAnswered w.base l x.moment y.arrived y.body x.outcome x.reply) log two in
    let four = subst (λ (m : ℕ). IsAnswered w.base y.log m y.arrived y.body x.outcome x.reply) moment three in
    let same = same_answer w.base y.log y.moment y.arrived y.body x.outcome y.outcome x.reply y.reply four b.reply ca cb in
    λ i. record { arrived = came.0 i; body = came.1 i; rest = came.2 i; log = log i; moment = moment i; outcome = same.0 i; reply = same.1 i }

-- ---- one conversation

-- if nothing more is answered, there is no further exchange
ended : (w : Setting) (p : Progress) (x : Exchange) → IsAtEnd p → IsExchange w p x → ⊥
ended w p x (inl (inl closed)) a = let clash : true ≡ false = sym closed ∙ a.open_yet in cc
ended w p x (inl (inr over)) a = none_arrives p.left x.arrived x.body x.rest arrivals.End refl tt tt a.arrival over.1
ended w p x (inr cut) a = none_arrives p.left x.arrived x.body x.rest arrivals.CutShort refl tt tt a.arrival cut.1

pub one_conversation : (w : Setting) (seconds : ℕ) (p : Progress) (xs ys : List Exchange) → w.told ≡ Some seconds
    → Converses w p xs → Converses w p ys → NoGaps w p xs → NoGaps w p ys → AreCalm xs → AreCalm ys
    → IsAtEnd (progress w p xs) → IsAtEnd (progress w p ys) → xs ≡ ys
one_conversation w seconds p [] [] told a b ga gb ca cb ea eb = refl
one_conversation w seconds p [] (y ∷ ys) told a b ga gb ca cb ea eb = absurd (ended w p y ea b.0)
one_conversation w seconds p (x ∷ xs) [] told a b ga gb ca cb ea eb = absurd (ended w p x eb a.0)
one_conversation w seconds p (x ∷ xs) (y ∷ ys) told a b ga gb ca cb ea eb =
    let first : x ≡ y = same_exchange w seconds p x y told a.0 b.0 ga.0 gb.0 ca.0 cb.0 in
    let held : Converses w (after w p y) xs = subst (λ (z : Exchange). Converses w (after w p z) xs) first a.1 in
    let gaps : NoGaps w (after w p y) xs = subst (λ (z : Exchange). NoGaps w (after w p z) xs) first ga.1 in
    let at_end : IsAtEnd (progress w (after w p y) xs) = subst (λ (z : Exchange). IsAtEnd (progress w (after w p z) xs)) first ea in
    ap (λ (z : Exchange). z ∷ xs) first
    ∙ ap (λ (zs : List Exchange). y ∷ zs) (one_conversation w seconds (after w p y) xs ys told held b.1 gaps gb.1 ca.1 cb.1 at_end eb)
