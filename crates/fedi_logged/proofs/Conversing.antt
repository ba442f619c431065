-- The state of a session after some exchanges, and how it ends.
use Rattle.std.proofs.Common.{◌≡◌, ℕ, ◌+◌, ◌<◌, ◌≤◌, false, List, [], ◌∷◌, ◌++◌, Option, Some, None, Result, IfSome, refl, sym, ap, subst, ◌∙◌, arith, lit<}
use Rattle.std.specs.Prelude.{nat_le}
use Rattle.std.proofs.KnownBytes.{Appends-nil, prepend_known-nil}
use Rattle.std.proofs.lemmas.Bool.{leb-false}
use Rattle.fedi_log.specs.Keeping.{Base}
use Rattle.fedi_log.specs.Log.{Log}
use Rattle.fedi_model.specs.declared.request.Request.{Request}
use Rattle.fedi_town.specs.declared.refusal.Refusal.{Refusal}
use Rattle.fedi_town.proofs.Lists.{other_none}
use Rattle.fedi_logged.specs.declared.sessions.SessionEnd.{SessionEnd}
use Rattle.fedi_logged.specs.declared.sessions.SessionEnd.TheVariants.{End, CutShort, Closed, ReadFault, WriteFault, Memory}
use Rattle.fedi_logged.specs.Conversations.{Setting, Exchange, Progress, Converses, after, beginning, closes, ends_by, progress}
use Rattle.fedi_logged.specs.Endings.{Faults, Finishes, IsAt, IsCaused, Output, Scene, Serves, StepsOn}
use Rattle.fedi_logged.specs.Turning.{setting_at}
use Rattle.fedi_logged.proofs.Talks.{converses-more, progress-more}

-- the state of a session after some exchanges, with the connection open for another
pub record Stands (w : Setting) (seen : Log) (first : Output) (now : Scene) (log : Log) (pending : List ℕ) (count : ℕ) (input : List ℕ) : Type 0 where
  pub exchanges : List Exchange
  pub each : Converses w (beginning input seen) exchanges
  pub log_is : (progress w (beginning input seen) exchanges).log ≡ log
  pub count_is : (progress w (beginning input seen) exchanges).count ≡ count
  pub at : IsAt first now pending (progress w (beginning input seen) exchanges)
  pub below : count < 1000

-- a session begins
begins : (w : Setting) (seen : Log) (first : Scene) (known : Option (List ℕ)) → first.input ≡ known → IfSome known (Stands w seen first.output first seen [] 0)
begins w seen first None is = tt
begins w seen first (Some input) is = record {
  exchanges = [];
  each = tt;
  log_is = refl;
  count_is = refl;
  at = record {
    open_yet = refl;
    input = prepend_known-nil first.input ∙ is;
    written = record { sent = Appends-nil first.output.sent; calm = refl };
  };
  below = lit< tt;
}

pub stands_first : (w : Setting) (seen : Log) (first : Scene) → IfSome first.input (Stands w seen first.output first seen [] 0)
stands_first w seen first = begins w seen first first.input refl

-- ---- one more exchange

open_below : (count : ℕ) (arrived : Result Request Refusal) → closes count arrived ≡ false → count + 1 < 1000
open_below count arrived opened = let fewer : nat_le 999 count ≡ false = other_none (ends_by arrived) (nat_le 999 count) opened in omega (arith, leb-false 999 count fewer)

stands_on : (w : Setting) (seen : Log) (first : Output) (before now : Scene) (log next : Log) (old pending : List ℕ) (count : ℕ) (input : List ℕ)
    → Stands w seen first before log old count input → StepsOn w log count before old now pending next None → Stands w seen first now next pending (count + 1) input
stands_on w seen first before now log next old pending count input held steps =
    let start : Progress = beginning input seen in
    let p : Progress = progress w start held.exchanges in
    let step = steps first p held.log_is held.count_is held.at in
    let more : progress w start (held.exchanges ++ step.0 ∷ []) ≡ after w p step.0 = progress-more w start held.exchanges step.0 in
    let below : p.count + 1 < 1000 = open_below p.count step.0.arrived step.3.open_yet in
    record {
      exchanges = held.exchanges ++ step.0 ∷ [];
      each = converses-more w start held.exchanges step.0 held.each step.1;
      log_is = ap (λ (q : Progress). q.log) more ∙ step.2;
      count_is = ap (λ (q : Progress). q.count) more ∙ ap (λ (n : ℕ). n + 1) held.count_is;
      at = subst (λ (q : Progress). IsAt first now pending q) (sym more) step.3;
      below = rw (← held.count_is) below;
    }

pub on_told : (w : Setting) (seen : Log) (first : Output) (before now : Scene) (log next : Log) (old pending : List ℕ) (count : ℕ) (known : Option (List ℕ))
    → IfSome known (Stands w seen first before log old count) → StepsOn w log count before old now pending next None
    → IfSome known (Stands w seen first now next pending (count + 1))
on_told w seen first before now log next old pending count None held steps = tt
on_told w seen first before now log next old pending count (Some input) held steps = stands_on w seen first before now log next old pending count input held steps

-- ---- the end

ends_so : (w : Setting) (seen : Log) (first : Output) (before now : Scene) (log next : Log) (old pending : List ℕ) (count : ℕ) (e : SessionEnd) (input : List ℕ)
    → Stands w seen first before log old count input → StepsOn w log count before old now pending next (Some e) → Serves w seen first now next e input
ends_so w seen first before now log next old pending count Closed input held steps =
    let start : Progress = beginning input seen in
    let p : Progress = progress w start held.exchanges in
    let step = steps first p held.log_is held.count_is held.at in
    let more : progress w start (held.exchanges ++ step.0 ∷ []) ≡ after w p step.0 = progress-more w start held.exchanges step.0 in
    record {
      exchanges = held.exchanges ++ step.0 ∷ [];
      each = converses-more w start held.exchanges step.0 held.each step.1;
      ends = subst (λ (q : Progress). Finishes w first now next q Closed) (sym more) step.2;
    }
ends_so w seen first before now log next old pending count End input held steps = record {
  exchanges = held.exchanges;
  each = held.each;
  ends = steps first (progress w (beginning input seen) held.exchanges) held.log_is held.count_is held.at;
}
ends_so w seen first before now log next old pending count CutShort input held steps = record {
  exchanges = held.exchanges;
  each = held.each;
  ends = steps first (progress w (beginning input seen) held.exchanges) held.log_is held.count_is held.at;
}
ends_so w seen first before now log next old pending count ReadFault input held steps = record {
  exchanges = held.exchanges;
  each = held.each;
  ends = steps first (progress w (beginning input seen) held.exchanges) held.log_is held.count_is held.at;
}
ends_so w seen first before now log next old pending count WriteFault input held steps = record {
  exchanges = held.exchanges;
  each = held.each;
  ends = steps first (progress w (beginning input seen) held.exchanges) held.log_is held.count_is held.at;
}
ends_so w seen first before now log next old pending count Memory input held steps = record {
  exchanges = held.exchanges;
  each = held.each;
  ends = steps first (progress w (beginning input seen) held.exchanges) held.log_is held.count_is held.at;
}

pub ends_told : (w : Setting) (seen : Log) (first : Output) (before now : Scene) (log next : Log) (old pending : List ℕ) (count : ℕ) (e : SessionEnd) (known : Option (List ℕ))
    → IfSome known (Stands w seen first before log old count) → StepsOn w log count before old now pending next (Some e)
    → IfSome known (Serves w seen first now next e)
ends_told w seen first before now log next old pending count e None held steps = tt
ends_told w seen first before now log next old pending count e (Some input) held steps = ends_so w seen first before now log next old pending count e input held steps

-- the last request closes the connection, so no session has an open one after it
none_open : (w : Setting) (seen : Log) (first : Output) (now : Scene) (log : Log) (pending : List ℕ) (count : ℕ) (known : Option (List ℕ)) → 1000 ≤ count
    → IfSome known (Stands w seen first now log pending count) → IfSome known (Serves w seen first now log Closed)
none_open w seen first now log pending count None many held = tt
none_open w seen first now log pending count (Some input) many held = let below = held.below in absurd (omega (arith, many, below))

-- what no turn changes stays the same, and the pass is part of it
pub steps_by : (by same : Option ℕ) (told : Option ℕ) (base : Base) (seen : Log) (count : ℕ) (before : Scene) (old : List ℕ) (now : Scene) (pending : List ℕ) (next : Log) (e : Option SessionEnd)
    → by ≡ same → StepsOn (setting_at by told base) seen count before old now pending next e → StepsOn (setting_at same told base) seen count before old now pending next e
steps_by by same told base seen count before old now pending next e is steps =
    subst (λ (b : Option ℕ). StepsOn (setting_at b told base) seen count before old now pending next e) is steps

-- and so do the counts of faults, up to the last step
pub caused_on : (first before now : Faults) (e : SessionEnd) → before ≡ first → IsCaused before now e → IsCaused first now e
caused_on first before now e same x = subst (λ (f : Faults). IsCaused f now e) same x
