-- A number has at most one demonstration.
use Rattle.std.proofs.Common.{
  ◌≡◌,
  ℕ,
  ◌+◌,
  List,
  [],
  ◌∷◌,
  ◌++◌,
  length,
  None,
  Some,
  Result,
  Ok,
  Err,
  inl,
  inr,
  refl,
  sym,
  ap,
  subst,
  ◌∙◌,
}
use Rattle.std.specs.Prelude.{drop}
use Rattle.fedi_demo.specs.Requests.{first_half, second_half}
use Rattle.fedi_demo.specs.Summary.{summary_text}
use Rattle.fedi_log.specs.Keeping.{State, end_of, growth_of}
use Rattle.fedi_log.specs.Log.{Log, Outcome, given, history_of}
use Rattle.fedi_model.specs.declared.reply.Reply.{Reply}
use Rattle.fedi_model.specs.declared.request.Request.{Request}
use Rattle.fedi_objects.specs.declared.entry.Entry.{Entry}
use Rattle.fedi_startup.specs.Stores as stores
use Rattle.fedi_startup.specs.Surviving.{growth, opened_base, room}
use Rattle.fedi_logged.proofs.Determined.{one_conversation}
use Rattle.fedi_logged.specs.Conversations.{
  Converses,
  Exchange,
  IsAnswered,
  IsReply,
  IsOver,
  NoGaps,
  Progress,
  after,
  beginning,
  progress,
}
use Rattle.fedi_town.specs.declared.refusal.Refusal.{Refusal}
use Rattle.fedi_demo.specs.Demonstrating.{IsDemo, IsVisit, founding, held_of, moment, setting}

-- ---- two machines that were opened on one store: a conversation with one is one with the other

same_end : (a b : State) → a.history ≡ b.history → a.keeper.end ≡ b.keeper.end → (log : Log)
    → end_of (opened_base a) log ≡ end_of (opened_base b) log
same_end a b histories ends log =
    ap (λ (e : ℕ). e + growth_of growth (history_of (drop (length a.history) log))) ends
    ∙ ap (λ (h : List Entry). b.keeper.end + growth_of growth (history_of (drop (length h) log))) histories

same_answer : (a b : State) → a.history ≡ b.history → a.keeper.end ≡ b.keeper.end → (log : Log)
    (at : ℕ) (arrived : Result Request Refusal) (body : List ℕ) (outcome : Outcome) (given : Reply)
    → IsAnswered (opened_base a) log at arrived body outcome given
    → IsAnswered (opened_base b) log at arrived body outcome given
same_answer a b histories ends log at (Ok q) body outcome given is =
    subst (λ (e : ℕ). IsReply room (history_of log) e at q body outcome given) (same_end a b histories ends log) is
same_answer a b histories ends log at (Err e) body outcome given is = is

moved : (a b : State) → a.history ≡ b.history → a.keeper.end ≡ b.keeper.end
    → (p : Progress) (xs : List Exchange) → Converses (setting a) p xs → Converses (setting b) p xs
moved a b histories ends p [] held = tt
moved a b histories ends p (x ∷ xs) held = (
  record {
    open_yet = held.0.open_yet;
    arrival = held.0.arrival;
    now = held.0.now;
    later = held.0.later;
    reply = same_answer a b histories ends x.log x.moment x.arrived x.body x.outcome x.reply held.0.reply;
  },
  moved a b histories ends (after (setting a) p x) xs held.1,
)

moved_gaps : (a b : State) (p : Progress) (xs : List Exchange) → NoGaps (setting a) p xs
    → NoGaps (setting b) p xs
moved_gaps a b p [] gaps = tt
moved_gaps a b p (x ∷ xs) gaps = (gaps.0, moved_gaps a b (after (setting a) p x) xs gaps.1)

moved_progress : (a b : State) (p : Progress) (xs : List Exchange)
    → progress (setting a) p xs ≡ progress (setting b) p xs
moved_progress a b p [] = refl
moved_progress a b p (x ∷ xs) = moved_progress a b (after (setting a) p x) xs

-- ---- one visit

one_progress : (before : List Entry) (input : List ℕ) (first : List Entry) (text : List ℕ)
    (second : List Entry) (other : List ℕ) (v : IsVisit before input first text)
    (w : IsVisit before input second other)
    → progress (setting v.opened) (beginning input (given v.opened.history)) v.exchanges
    ≡ progress (setting w.opened) (beginning input (given w.opened.history)) w.exchanges
one_progress before input first text second other v w =
    let a = v.opened in
    let b = w.opened in
    let histories : a.history ≡ b.history = v.history ∙ sym w.history in
    let ends : a.keeper.end ≡ b.keeper.end = v.end ∙ sym w.end in
    let start : beginning input (given a.history) ≡ beginning input (given b.history) =
    ap (λ (h : List Entry). beginning input (given h)) histories in
    let p = beginning input (given b.history) in
    let over = subst (λ (q : Progress). progress (setting a) (beginning input (given a.history)) v.exchanges
    ≡ progress (setting b) q v.exchanges) start (moved_progress a b (beginning input (given a.history)) v.exchanges) in
    let held = subst (λ (q : Progress). Converses (setting b) q v.exchanges) start
    (moved a b histories ends (beginning input (given a.history)) v.exchanges v.each) in
    let gaps = subst (λ (q : Progress). NoGaps (setting b) q v.exchanges) start
    (moved_gaps a b (beginning input (given a.history)) v.exchanges v.alone) in
    let same : v.exchanges ≡ w.exchanges = one_conversation (setting b) moment p v.exchanges w.exchanges refl
    held w.each gaps w.alone v.calm w.calm (inl (subst IsOver over v.over)) (inl w.over) in
    over ∙ ap (λ (xs : List Exchange). progress (setting b) p xs) same

one_after : (before : List Entry) (input : List ℕ) (first : List Entry) (text : List ℕ)
    (second : List Entry) (other : List ℕ) → IsVisit before input first text
    → IsVisit before input second other → first ≡ second
one_after before input first text second other v w =
    v.after_is
    ∙ ap (λ (p : Progress). history_of p.log) (one_progress before input first text second other v w)
    ∙ sym w.after_is

one_text : (before : List Entry) (input : List ℕ) (first : List Entry) (text : List ℕ)
    (second : List Entry) (other : List ℕ) → IsVisit before input first text
    → IsVisit before input second other → text ≡ other
one_text before input first text second other v w =
    v.text_is
    ∙ ap (λ (p : Progress). p.written) (one_progress before input first text second other v w)
    ∙ sym w.text_is

-- ---- one demonstration

pub one_demo : (number : ℕ) (a b : List ℕ) → IsDemo number a → IsDemo number b → a ≡ b
one_demo number a b d e =
    let middle : d.middle ≡ e.middle =
    one_after founding (first_half number) d.middle d.first_text e.middle e.first_text d.first e.first in
    let early : d.first_text ≡ e.first_text =
    one_text founding (first_half number) d.middle d.first_text e.middle e.first_text d.first e.first in
    let second : IsVisit e.middle (second_half number) d.last d.second_text =
    subst (λ (h : List Entry). IsVisit h (second_half number) d.last d.second_text) middle d.second in
    let last : d.last ≡ e.last =
    one_after e.middle (second_half number) d.last d.second_text e.last e.second_text second e.second in
    let late : d.second_text ≡ e.second_text =
    one_text e.middle (second_half number) d.last d.second_text e.last e.second_text second e.second in
    d.text_is
    ∙ ap (λ (h : List Entry). summary_text number (held_of h) (d.first_text ++ d.second_text)) last
    ∙ ap (λ (t : List ℕ). summary_text number (held_of e.last) (t ++ d.second_text)) early
    ∙ ap (λ (t : List ℕ). summary_text number (held_of e.last) (e.first_text ++ t)) late
    ∙ sym e.text_is
