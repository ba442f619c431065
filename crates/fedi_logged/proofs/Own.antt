-- A log that nobody else adds to.
use Rattle.std.proofs.Common.{◌≡◌, ℕ, Bool, List, ◌∷◌, [], ◌++◌, All, Option, Result, Ok, Err, IfOk, OnErr, Vec, refl, sym, ap, subst, ◌∙◌, append_assoc}
use Rattle.std.proofs.lemmas.List.Elements.{All-append, All-cons, All-nil}
use Rattle.fedi_log.specs.Keeping.{Base, GoesAlone}
use Rattle.fedi_model.specs.declared.request.Request.{Request}
use Rattle.fedi_log.specs.Log.{Goes, Log, items_of, made_by}
use Rattle.fedi_log.specs.declared.items.Item.{Item}
use Rattle.fedi_log.specs.declared.items.What.{What}
use Rattle.fedi_log.proofs.Growing.{goes_here}
use Rattle.fedi_log.proofs.Keeping.{alone_outcome}
use Rattle.fedi_logged.specs.Logs.{TurnsOn}
use Rattle.fedi_logged.specs.Turning.{Tells, TurnTells}
use Rattle.fedi_logged.specs.Turns.{Standing}

-- ---- its items are one's own

pub own_one : (by : Option ℕ) (what : What) → All (λ (i : Item). i.pass ≡ by) (made_by by what ∷ [])
own_one by what = All-cons (λ (i : Item). i.pass ≡ by) (made_by by what) [] refl (All-nil (λ (i : Item). i.pass ≡ by))

pub alone_more : (growth : ℕ → ℕ) (by : Option ℕ) (before after : Standing) (seen log now : Log) → GoesAlone by seen log → TurnsOn growth by before after log now
    → GoesAlone by seen now
alone_more growth by before after seen log now g turn = record {
  past = g.past ++ items_of by turn.0;
  is = turn.2 ∙ ap (λ (l : Log). l ++ items_of by turn.0) g.is ∙ append_assoc seen g.past (items_of by turn.0);
  own = All-append (λ (i : Item). i.pass ≡ by) g.past (items_of by turn.0) g.own (alone_outcome by turn.0);
}

pub alone_item : (by : Option ℕ) (seen log now : Log) (what : What) → GoesAlone by seen log
    → now ≡ log ++ made_by by what ∷ [] → GoesAlone by seen now
alone_item by seen log now what g is = record {
  past = g.past ++ made_by by what ∷ [];
  is = is ∙ ap (λ (l : Log). l ++ made_by by what ∷ []) g.is
      ∙ append_assoc seen g.past (made_by by what ∷ []);
  own = All-append (λ (i : Item). i.pass ≡ by) g.past (made_by by what ∷ []) g.own
      (own_one by what);
}

-- ---- what a turn leaves

pub alone_lacks : {T E : Type 0} (by : Option ℕ) (log now : Log) (r : Result T E) → OnErr r (now ≡ log) → OnErr r (Goes by log now)
alone_lacks by log now (Ok t) same = tt
alone_lacks by log now (Err e) same = subst (λ (l : Log). Goes by log l) (sym same) (goes_here by log)

pub tells_here : {A E : Type 0} (b : Base) (by : Option ℕ) (log now : Log) (moment : ℕ) (q : Request)
    (body : List ℕ) (closing : Bool) (r : Result (Vec ℕ A) E)
    → IfOk r (λ t. Tells b by log now moment q body closing t.items)
    → IfOk r (λ t. TurnTells b by log now moment q body closing t.items)
tells_here b by log now moment q body closing (Ok t) tells = (log, goes_here by log, tells)
tells_here b by log now moment q body closing (Err e) tells = tt

pub lacks_here : {T E : Type 0} (by : Option ℕ) (log : Log) (r : Result T E) → OnErr r (Goes by log log)
lacks_here by log (Ok t) = tt
lacks_here by log (Err e) = goes_here by log
