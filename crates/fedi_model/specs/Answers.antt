-- The answer to a request: the refusal of its caller, or the reply to the caller for what it asks.
-- A body is the body of the request, and is empty if there is none.
use Rattle.std.specs.Prelude.{◌≡◌, ℕ, List, Option, None, Result, Ok, Err}
use Rattle.fedi_town.specs.declared.refusal.Refusal.{Refusal}
use Rattle.fedi_objects.specs.declared.entry.Entry.{Entry}
use Rattle.fedi_model.specs.declared.ask.Ask.{Ask}
use Rattle.fedi_town.specs.declared.caller.Caller.{Caller}
use Rattle.fedi_model.specs.declared.reply.Reply.{Reply}
use Rattle.fedi_model.specs.declared.request.Request.{Request}
use Rattle.fedi_model.specs.Asks.{entry_of}
use Rattle.fedi_town.specs.Agreement.{Agree}
use Rattle.fedi_town.specs.Histories.{town}
use Rattle.fedi_town.specs.Legal.{IsLegal}
use Rattle.fedi_town.specs.Towns.{Town}
use Rattle.fedi_model.specs.Callers.{caller_by}
use Rattle.fedi_model.specs.Credentials.{credentials_of}
use Rattle.fedi_model.specs.Refusing.{refused}
use Rattle.fedi_model.specs.Replies.{reply}
use Rattle.fedi_model.specs.Routes.{Asks}

-- who makes the request, or why nobody may be taken for its caller
abbrev pub caller_of : Town → Request → List ℕ → Result Caller Refusal
caller_of t q body = caller_by t (credentials_of q body)

-- the reply to this caller for what the request asks, and the entry that it makes at this moment
abbrev pub AnswersTo : Town → ℕ → Result Caller Refusal → Request → List ℕ → Reply
    → Option Entry → Type 0
AnswersTo t moment (Ok c) q body r made =
    (ask : Ask) × Asks t.host c q body ask × (r ≡ reply t c ask) × (made ≡ entry_of t c ask moment)
AnswersTo t moment (Err e) q body r made = (r ≡ refused e) × (made ≡ None)

-- the answer to the request, and the entry that it makes
abbrev pub Answers : Town → ℕ → Request → List ℕ → Reply → Option Entry → Type 0
Answers t moment q body r made = AnswersTo t moment (caller_of t q body) q body r made

-- ---- what the answer may depend on

-- the histories agree for the caller, if there is one
abbrev pub AgreeFor : Town → Town → Result Caller Refusal → Type 0
AgreeFor g h (Ok c) = Agree g h c
AgreeFor g h (Err e) = Unit {0}

-- the histories give the request the same caller, and agree for that caller
pub record AgreeOn (g h : Town) (q : Request) (body : List ℕ) : Type 0 where
  pub caller : caller_of g q body ≡ caller_of h q body
  pub known : AgreeFor g h (caller_of h q body)

-- the reply is the answer in each legal history that agrees with this one for the caller of the
-- request
abbrev pub IsPrivateAnswer : List Entry → ℕ → Request → List ℕ → Reply → Type 0
IsPrivateAnswer history moment q body r =
    (g : List Entry) → IsLegal g → AgreeOn (town g) (town history) q body
    → (made : Option Entry) × Answers (town g) moment q body r made
