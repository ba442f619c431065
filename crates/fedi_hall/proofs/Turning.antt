-- A turn of the lock is one of a worker.
use Rattle.std.proofs.Common.{◌≡◌, ℕ, List, ◌++◌, Bool, Some, Result, Ok, Err, IfOk, OnErr, sym, subst, ◌∙◌, append-nil}
use Rattle.std.proofs.lemmas.Result.{on_err_weaker}
use Rattle.fedi_log.specs.Keeping.{Base}
use Rattle.fedi_log.specs.Log.{Goes, Log, NoEntry, Outcome, items_of}
use Rattle.fedi_log.specs.declared.items.Item.{Item}
use Rattle.fedi_log.proofs.Keeping.{alone_outcome}
use Rattle.fedi_model.specs.declared.request.Request.{Request}
use Rattle.fedi_logged.specs.Turning.{Tells, TurnTells}
use Rattle.fedi_turn.specs.Record.{Continues, GrowsBy}

-- ---- what was added names the pass

grows : (n : ℕ) (log now : Log) (o : Outcome) → now ≡ log ++ items_of (Some n) o → GrowsBy (λ (i : Item). i.pass) n log now
grows n log now o is = (items_of (Some n) o, is, alone_outcome (Some n) o)

grown : {T E : Type 0} (text : T → List ℕ) (b : Base) (n : ℕ) (log now : Log) (moment : ℕ) (q : Request) (body : List ℕ) (closing : Bool) (r : Result T E)
    → IfOk r (λ t. Tells b (Some n) log now moment q body closing (text t)) → OnErr r (now ≡ log) → GrowsBy (λ (i : Item). i.pass) n log now
grown text b n log now moment q body closing (Ok t) tells same = grows n log now tells.outcome tells.grown
grown text b n log now moment q body closing (Err e) tells same = grows n log now NoEntry (same ∙ sym (append-nil log))

-- by the number of the pass, from the log that the turn began with
pub grown_by : {T E : Type 0} (text : T → List ℕ) (b : Base) (k n : ℕ) (taken log now : Log) (moment : ℕ) (q : Request) (body : List ℕ) (closing : Bool) (r : Result T E)
    → k ≡ n → log ≡ taken → IfOk r (λ t. Tells b (Some k) log now moment q body closing (text t)) → OnErr r (now ≡ log) → GrowsBy (λ (i : Item). i.pass) n taken now
grown_by text b k n taken log now moment q body closing r same at tells lacks =
    subst (λ (l : Log). GrowsBy (λ (i : Item). i.pass) n l now) at
    (subst (λ (j : ℕ). GrowsBy (λ (i : Item). i.pass) j log now) same (grown text b k log now moment q body closing r tells lacks))

-- ---- a turn

pub goes_by : (n : ℕ) (seen log : Log) → Continues (λ (i : Item). i.pass) n seen log → Goes (Some n) seen log
goes_by n seen log on = record { rest = on.0; is = on.1; others = on.2 }

pub turn_tells : {T E : Type 0} (text : T → List ℕ) (b : Base) (k n : ℕ) (seen taken log now after : Log) (moment : ℕ) (q : Request) (body : List ℕ) (closing : Bool) (r : Result T E)
    → k ≡ n → log ≡ taken → after ≡ now → Continues (λ (i : Item). i.pass) n seen taken → IfOk r (λ t. Tells b (Some k) log now moment q body closing (text t))
    → IfOk r (λ t. TurnTells b (Some n) seen after moment q body closing (text t))
turn_tells text b k n seen taken log now after moment q body closing (Ok t) same at is goes tells = (
  log,
  goes_by n seen log (subst (λ (l : Log). Continues (λ (i : Item). i.pass) n seen l) (sym at) goes),
  subst (λ (l : Log). Tells b (Some n) log l moment q body closing (text t)) (sym is)
      (subst (λ (j : ℕ). Tells b (Some j) log now moment q body closing (text t)) same tells),
)
turn_tells text b k n seen taken log now after moment q body closing (Err e) same at is goes tells = tt

pub turn_lacks : {T E : Type 0} (n : ℕ) (seen taken log now after : Log) (r : Result T E) → log ≡ taken → after ≡ now → Continues (λ (i : Item). i.pass) n seen taken
    → OnErr r (now ≡ log) → OnErr r (Goes (Some n) seen after)
turn_lacks n seen taken log now after (Ok t) at is goes same = tt
turn_lacks n seen taken log now after (Err e) at is goes same =
    subst (λ (l : Log). Goes (Some n) seen l) (sym (is ∙ same ∙ at)) (goes_by n seen taken goes)

-- a turn after which something is left to be written added nothing
pub turn_left : {T E : Type 0} (left : Type 0) (n : ℕ) (seen taken log now after : Log) (r : Result T E) → log ≡ taken → after ≡ now
    → Continues (λ (i : Item). i.pass) n seen taken → (left → now ≡ log) → OnErr r left → OnErr r (Goes (Some n) seen after)
turn_left left n seen taken log now after r at is goes same lacks =
    turn_lacks n seen taken log now after r at is goes (on_err_weaker r same lacks)

-- a turn that added nothing
pub turn_same : {T E : Type 0} (n : ℕ) (seen taken log after : Log) (r : Result T E) → log ≡ taken
    → after ≡ log → Continues (λ (i : Item). i.pass) n seen taken → OnErr r (Goes (Some n) seen after)
turn_same n seen taken log after (Ok t) at is goes = tt
turn_same n seen taken log after (Err e) at is goes =
    subst (λ (l : Log). Goes (Some n) seen l) (sym (is ∙ at)) (goes_by n seen taken goes)
