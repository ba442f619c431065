-- From the answer to one request to a step of a session, over a log that others may add to.
use Rattle.std.proofs.Common.{◌≡◌, ℕ, min, Bool, true, false, List, [], ◌++◌, take, Option, Some, None, IfSome, IfOk, OnErr, MatchResult, Result, Ok, Err, Vec, inl, inr, refl, sym, ap, subst, ◌∙◌, append_assoc, append-nil, arith}
use Rattle.std.specs.Io.KnownBytes.{Consumes, prepend_known}
use Rattle.std.proofs.KnownBytes.{Appends-trans, Appends-nil}
use Rattle.fedi_outside.specs.Causes.{next_count}
use Rattle.fedi_town.specs.declared.refusal.Refusal.{Refusal}
use Rattle.fedi_http.specs.Arrivals.{LacksRequest}
use Rattle.fedi_http.specs.declared.arrivals.Arrived.{Arrived}
use Rattle.fedi_http.specs.declared.arrivals.Arrived.TheVariants as arrivals
use Rattle.fedi_http.specs.declared.heads.TheConstants.{HEAD_LIMIT}
use Rattle.fedi_http.specs.declared.requests.TheConstants.{MOST_FIELDS}
use Rattle.fedi_log.specs.Log.{Goes, Log, NoEntry, Outcome}
use Rattle.fedi_log.proofs.Growing.{goes_here}
use Rattle.fedi_model.specs.declared.reply.Reply.{Reply}
use Rattle.fedi_model.specs.declared.request.Request.{Request}
use Rattle.fedi_model.specs.Refusing.{refused}
use Rattle.fedi_model.specs.ReplyText.{memory_text, reply_text}
use Rattle.fedi_logged.specs.declared.sessions.SessionEnd.{SessionEnd}
use Rattle.fedi_logged.specs.declared.sessions.SessionEnd.TheVariants as ends
use Rattle.fedi_logged.specs.Conversations.{Setting, Exchange, Progress, IsNow, IsExchange, after, closes, is_head_only, text_of}
use Rattle.fedi_logged.specs.Endings.{BreaksOff, Faults, GivesUp, IsAt, IsCounted, Output, Replies, Scene, Steps, StepsOn, Writes, WritesUnlessFailed, faults_of}
use Rattle.fedi_logged.specs.Channels.{StandsIn, TellsIfTold, TellsStream}
use Rattle.fedi_logged.specs.Turning.{TurnTells}

-- ---- the bytes of the input

told_of : (P : List ℕ → Type 0) (known : Option (List ℕ)) (left : List ℕ) → known ≡ Some left → IfSome known P → P left
told_of P known left is h = subst (λ (k : Option (List ℕ)). IfSome k P) is h

-- the bytes that were taken since then precede what is left now
taken_since : (old more : List ℕ) (before now : Option (List ℕ)) (left : List ℕ) → Consumes before now more → StandsIn old before left → StandsIn (old ++ more) now left
taken_since old more None now left taken stands = cc
taken_since old more (Some x) None left taken stands = absurd taken
taken_since old more (Some x) (Some y) left taken stands =
    ap Some (append_assoc old more y ∙ ap (λ (l : List ℕ). old ++ l) (sym taken)) ∙ stands

-- ---- the output

pub writes_none : (out : Output) → Writes out out []
writes_none out = record { sent = Appends-nil out.sent; calm = refl }

pub writes_on : (first before now : Output) (written text : List ℕ) → Writes first before written → Writes before now text → Writes first now (written ++ text)
writes_on first before now written text was more = record {
  sent = Appends-trans first.sent before.sent now.sent written text was.sent more.sent;
  calm = more.calm ∙ was.calm;
}

writes_still : (first before now : Output) (written : List ℕ) → Writes first before written → now ≡ before → Writes first now written
writes_still first before now written was same = subst (λ (o : Output). Writes first o written) (sym same) was

pub breaks_on : (first before now : Output) (written text : List ℕ) → Writes first before written → BreaksOff before now [] text → BreaksOff first now written text
breaks_on first before now written text was b = record {
  prefix = b.prefix;
  short = b.short;
  sent = Appends-trans first.sent before.sent now.sent written (take b.prefix text) was.sent b.sent;
  cause = b.cause ∙ ap next_count was.calm;
}

pub unless_failed_on : (first before now : Output) (written text : List ℕ) → Writes first before written
    → WritesUnlessFailed before now [] text → WritesUnlessFailed first now written text
unless_failed_on first before now written text was (inl sent) = inl (writes_on first before now written text was sent)
unless_failed_on first before now written text was (inr broken) = inr (breaks_on first before now written text was broken)

-- ---- one step

goes_to : (by : Option ℕ) (seen log : Log) → seen ≡ log → Goes by seen log
goes_to by seen log same = subst (λ (l : Log). Goes by seen l) same (goes_here by seen)

-- this exchange was made, and its text was sent in this way
replied : (w : Setting) (first : Output) (before now : Scene) (log : Log) (old pending : List ℕ) (p : Progress) (x : Exchange) (closing : Bool) (ending : Option SessionEnd)
    → closing ≡ closes p.count x.arrived → IsExchange w p x → (after w p x).log ≡ log → IsAt first before old p
    → (closing ≡ false → StandsIn pending now.input x.rest) → Replies before.output now.output (reply_text x.moment (is_head_only x.arrived) closing x.reply) closing ending
    → Steps w first now log pending p ending
replied w first before now log old pending p x true ending is next same at stands (inl sent) =
    let text : Writes before.output now.output (text_of p.count x) = rw (← is) sent.1 in
    subst (λ (e : Option SessionEnd). Steps w first now log pending p e) (sym sent.0) (
      x,
      next,
      (
        sym is,
        record {
          written = writes_on first before.output now.output p.written (text_of p.count x) at.written text;
          later = goes_to w.by (after w p x).log log same;
        },
      ),
    )
replied w first before now log old pending p x false ending is next same at stands (inl sent) =
    let text : Writes before.output now.output (text_of p.count x) = rw (← is) sent.1 in
    subst (λ (e : Option SessionEnd). Steps w first now log pending p e) (sym sent.0) (
      x,
      next,
      same,
      record {
        open_yet = sym is;
        input = stands refl;
        written = writes_on first before.output now.output p.written (text_of p.count x) at.written text;
      },
    )
replied w first before now log old pending p x closing ending is next same at stands (inr sent) =
    let broken : BreaksOff before.output now.output [] (text_of p.count x) = rw (← is) sent.1 in
    subst (λ (e : Option SessionEnd). Steps w first now log pending p e) (sym sent.0)
    (record {
      exchange = x;
      next = next;
      later = goes_to w.by (after w p x).log log same;
      broken = breaks_on first before.output now.output p.written (text_of p.count x) at.written broken;
    })

-- ---- a request

abbrev asked : Request → List ℕ → List ℕ → Log → ℕ → Outcome → Reply → Exchange
asked q body rest log moment outcome r = record { arrived = Ok q; body = body; rest = rest; log = log; moment = moment; outcome = outcome; reply = r }

-- from an equal log
goes_from : (by : Option ℕ) (a b log : Log) → b ≡ a → Goes by a log → Goes by b log
goes_from by a b log same goes = subst (λ (l : Log). Goes by l log) (sym same) goes

-- it was answered in one turn
answered : (w : Setting) (seen next : Log) (before now : Scene) (count : ℕ) (old pending : List ℕ) (q : Request) (body : List ℕ) (moment : ℕ) (closing : Bool) (text : List ℕ) (ending : Option SessionEnd)
    → TellsIfTold old before.input (arrivals.Request q) body pending now.input
    → closing ≡ closes count (Ok q) → IsNow w.told moment → TurnTells w.base w.by seen next moment q body closing text
    → Replies before.output now.output text closing ending
    → StepsOn w seen count before old now pending next ending
answered w seen next before now count old pending q body moment closing text ending told last is_now t sent =
    λ first p same counted at.
    let came = told_of (TellsStream (arrivals.Request q) body pending now.input) (prepend_known old before.input) p.left at.input told tt in
    replied w first before now next old pending p (asked q body came.0 t.0 moment t.2.outcome t.2.reply) closing ending
    (last ∙ ap (λ (n : ℕ). closes n (Ok q)) (sym counted))
    (record { open_yet = at.open_yet; arrival = came.1; now = is_now; later = goes_from w.by seen p.log t.0 same t.1; reply = t.2.replies })
    (sym t.2.grown) at (λ _. came.2) (subst (λ (x : List ℕ). Replies before.output now.output x closing ending) t.2.text_is sent)

-- memory ran out: the other side was informed, and only others added to the log
given_up : (w : Setting) (seen next : Log) (before now : Scene) (count : ℕ) (old pending : List ℕ) (ending : Option SessionEnd)
    → Goes w.by seen next → GivesUp before.output now.output ending → StepsOn w seen count before old now pending next ending
given_up w seen next before now count old pending ending goes gives =
    λ first p same counted at. subst (λ (e : Option SessionEnd). Steps w first now next pending p e) (sym gives.0)
    (record {
      open_yet = at.open_yet;
      later = goes_from w.by seen p.log next same goes;
      told = unless_failed_on first before.output now.output p.written memory_text at.written gives.1;
    })

-- the line was read before it was written to: the output did not change until then, and the input
-- to come did not change after it
told_since : (a : Arrived) (body old pending : List ℕ) (before mid now : Option (List ℕ)) → now ≡ mid
    → TellsIfTold old before a body pending mid → TellsIfTold old before a body pending now
told_since a body old pending before mid now same told =
    subst (λ (i : Option (List ℕ)). TellsIfTold old before a body pending i) (sym same) told

sent_since : {A E : Type 0} (text : Result (Vec ℕ A) E) (before mid now : Output) (closing : Bool) (ending : Option SessionEnd) → mid ≡ before
    → MatchResult text (λ t. Replies mid now t.items closing ending) (λ _. GivesUp mid now ending)
    → MatchResult text (λ t. Replies before now t.items closing ending) (λ _. GivesUp before now ending)
sent_since text before mid now closing ending same sent =
    subst (λ (o : Output). MatchResult text (λ t. Replies o now t.items closing ending) (λ _. GivesUp o now ending)) same sent

answers_so : {A E : Type 0} (w : Setting) (seen next : Log) (before now : Scene) (count : ℕ) (old pending : List ℕ) (q : Request) (body : List ℕ) (moment : ℕ) (closing : Bool)
    (text : Result (Vec ℕ A) E) (ending : Option SessionEnd)
    → TellsIfTold old before.input (arrivals.Request q) body pending now.input → closing ≡ closes count (Ok q) → IsNow w.told moment
    → IfOk text (λ t. TurnTells w.base w.by seen next moment q body closing t.items) → OnErr text (Goes w.by seen next)
    → MatchResult text (λ t. Replies before.output now.output t.items closing ending) (λ _. GivesUp before.output now.output ending)
    → StepsOn w seen count before old now pending next ending
answers_so w seen next before now count old pending q body moment closing (Ok t) ending told last is_now a u sent =
    answered w seen next before now count old pending q body moment closing t.items ending told last is_now a sent
answers_so w seen next before now count old pending q body moment closing (Err e) ending told last is_now a u gives =
    given_up w seen next before now count old pending ending u gives

pub request_steps : {A E : Type 0} (w : Setting) (seen next : Log) (before mid now : Scene) (count : ℕ) (old pending : List ℕ) (q : Request) (body : List ℕ) (moment : ℕ) (closing : Bool)
    (text : Result (Vec ℕ A) E) (ending : Option SessionEnd) → mid.output ≡ before.output → now.input ≡ mid.input
    → TellsIfTold old before.input (arrivals.Request q) body pending mid.input → closing ≡ closes count (Ok q) → IsNow w.told moment
    → IfOk text (λ t. TurnTells w.base w.by seen next moment q body closing t.items) → OnErr text (Goes w.by seen next)
    → MatchResult text (λ t. Replies mid.output now.output t.items closing ending) (λ _. GivesUp mid.output now.output ending)
    → StepsOn w seen count before old now pending next ending
request_steps w seen next before mid now count old pending q body moment closing text ending quiet unread told last is_now a u sent =
    answers_so w seen next before now count old pending q body moment closing text ending
    (told_since (arrivals.Request q) body old pending before.input mid.input now.input unread told) last is_now a u
    (sent_since text before.output mid.output now.output closing ending quiet sent)

-- ---- what is refused

abbrev turned_away : Refusal → List ℕ → Log → ℕ → Exchange
turned_away e rest log moment = record { arrived = Err e; body = []; rest = rest; log = log; moment = moment; outcome = NoEntry; reply = refused e }

refusal_steps : (w : Setting) (seen : Log) (before now : Scene) (count : ℕ) (old body pending : List ℕ) (e : Refusal) (moment : ℕ) (text : List ℕ) (ending : Option SessionEnd)
    → TellsIfTold old before.input (arrivals.Refused e) body pending now.input → IsNow w.told moment
    → text ≡ reply_text moment false true (refused e) → Replies before.output now.output text true ending
    → StepsOn w seen count before old now pending seen ending
refusal_steps w seen before now count old body pending e moment text ending told is_now is sent =
    let reply = subst (λ (t : List ℕ). Replies before.output now.output t true ending) is sent in
    λ first p same counted at.
    replied w first before now seen old pending p (turned_away e p.left seen moment) true ending refl
    (record {
      open_yet = at.open_yet;
      arrival = ((told_of (TellsStream (arrivals.Refused e) body pending now.input) (prepend_known old before.input) p.left at.input told tt).1, refl, refl);
      now = is_now;
      later = goes_to w.by p.log seen same;
      reply = (refl, refl);
    })
    (append-nil seen) at (λ open_yet. let clash : true ≡ false = open_yet in absurd cc) reply

refused_so : {A E : Type 0} (w : Setting) (seen : Log) (before now : Scene) (count : ℕ) (old body pending : List ℕ) (e : Refusal) (moment : ℕ)
    (text : Result (Vec ℕ A) E) (ending : Option SessionEnd)
    → TellsIfTold old before.input (arrivals.Refused e) body pending now.input → IsNow w.told moment
    → IfOk text (λ t. t.items ≡ reply_text moment false true (refused e))
    → MatchResult text (λ t. Replies before.output now.output t.items true ending) (λ _. GivesUp before.output now.output ending)
    → StepsOn w seen count before old now pending seen ending
refused_so w seen before now count old body pending e moment (Ok t) ending told is_now is sent =
    refusal_steps w seen before now count old body pending e moment t.items ending told is_now is sent
refused_so w seen before now count old body pending e moment (Err x) ending told is_now is gives =
    given_up w seen seen before now count old pending ending (goes_here w.by seen) gives

pub refused_steps : {A E : Type 0} (w : Setting) (seen : Log) (before mid now : Scene) (count : ℕ) (old body pending : List ℕ) (e : Refusal) (moment : ℕ)
    (text : Result (Vec ℕ A) E) (ending : Option SessionEnd) → mid.output ≡ before.output → now.input ≡ mid.input
    → TellsIfTold old before.input (arrivals.Refused e) body pending mid.input → IsNow w.told moment
    → IfOk text (λ t. t.items ≡ reply_text moment false true (refused e))
    → MatchResult text (λ t. Replies mid.output now.output t.items true ending) (λ _. GivesUp mid.output now.output ending)
    → StepsOn w seen count before old now pending seen ending
refused_steps w seen before mid now count old body pending e moment text ending quiet unread told is_now is sent =
    refused_so w seen before now count old body pending e moment text ending
    (told_since (arrivals.Refused e) body old pending before.input mid.input now.input unread told) is_now is
    (sent_since text before.output mid.output now.output true ending quiet sent)

pub no_memory_steps : (w : Setting) (seen : Log) (before mid now : Scene) (count : ℕ) (old pending : List ℕ) (ending : Option SessionEnd) → mid.output ≡ before.output
    → GivesUp mid.output now.output ending → StepsOn w seen count before old now pending seen ending
no_memory_steps w seen before mid now count old pending ending quiet gives =
    given_up w seen seen before now count old pending ending (goes_here w.by seen) (subst (λ (o : Output). GivesUp o now.output ending) quiet gives)

-- ---- nothing more is to be answered, and nothing was sent

pub end_steps : (w : Setting) (seen : Log) (before now : Scene) (count : ℕ) (old body pending : List ℕ)
    → TellsIfTold old before.input arrivals.End body pending now.input → now.output ≡ before.output
    → StepsOn w seen count before old now pending seen (Some ends.End)
end_steps w seen before now count old body pending told still =
    λ first p same counted at. (
      at.open_yet,
      (told_of (TellsStream arrivals.End body pending now.input) (prepend_known old before.input) p.left at.input told tt).1,
      record { written = writes_still first before.output now.output p.written at.written still; later = goes_to w.by p.log seen same },
    )

pub cut_steps : (w : Setting) (seen : Log) (before now : Scene) (count : ℕ) (old body pending : List ℕ)
    → TellsIfTold old before.input arrivals.CutShort body pending now.input → now.output ≡ before.output
    → StepsOn w seen count before old now pending seen (Some ends.CutShort)
cut_steps w seen before now count old body pending told still =
    λ first p same counted at. (
      (at.open_yet, (told_of (TellsStream arrivals.CutShort body pending now.input) (prepend_known old before.input) p.left at.input told tt).1),
      record { written = writes_still first before.output now.output p.written at.written still; later = goes_to w.by p.log seen same },
    )

pub fault_steps : (w : Setting) (seen : Log) (before now : Scene) (count : ℕ) (old more pending : List ℕ)
    → Consumes before.input now.input more → LacksRequest HEAD_LIMIT MOST_FIELDS (old ++ more) → now.output ≡ before.output
    → StepsOn w seen count before old now pending seen (Some ends.ReadFault)
fault_steps w seen before now count old more pending taken lacks still =
    λ first p same counted at. record {
      taken = old ++ more;
      at = record {
        open_yet = at.open_yet;
        input = taken_since old more before.input now.input p.left taken at.input;
        written = writes_still first before.output now.output p.written at.written still;
      };
      lacks = lacks;
      later = goes_to w.by p.log seen same;
    }

-- the moment that a clock gives
pub now_of : (told : Option ℕ) (now moment : ℕ) → IfSome told (λ (m : ℕ). now ≡ m) → moment ≡ min now 253402300799 → IsNow told moment
now_of None now moment same is = omega (arith, is)
now_of (Some told) now moment same is = is ∙ ap (λ (n : ℕ). min n 253402300799) same

-- ---- counts of faults

-- these are counted after a read
pub counts_are : (reads more : ℕ) (before now : Output) → reads ≡ more → now ≡ before → faults_of reads now.faults ≡ faults_of more before.faults
counts_are reads more before now same quiet =
    ap (λ (r : ℕ). faults_of r now.faults) same ∙ ap (λ (o : Output). faults_of more o.faults) quiet

-- no fault was counted until then
pub counted_on : (first before now : Faults) (e : Option SessionEnd) → before ≡ first → IsCounted before now e → IsCounted first now e
counted_on first before now e same x = subst (λ (f : Faults). IsCounted f now e) same x
