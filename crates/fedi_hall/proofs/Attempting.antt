-- The turns of an attempt.
use Rattle.std.proofs.Common.{◌≡◌, ℕ, List, [], ◌∷◌, ◌++◌, length, Option, Some, None, Result, Ok, Err, IfOk, Vec, inl, inr, refl, sym, ap, subst, ◌∙◌, append_assoc, append-nil}
use Rattle.std.proofs.lemmas.List.Elements.{All-append, All-nil}
use Rattle.std.specs.declared.alloc.AllocError.{AllocError}
use Rattle.fedi_core.specs.declared.delivering.RecordFault.{RecordFault}
use Rattle.fedi_log.specs.Claims.{HasClaimed}
use Rattle.fedi_log.specs.Keeping.{Base}
use Rattle.fedi_log.specs.Log.{Goes, Log, made_by}
use Rattle.fedi_log.specs.declared.items.Item.{Item}
use Rattle.fedi_log.specs.declared.items.Pair.{Pair}
use Rattle.fedi_log.specs.declared.items.What.{What}
use Rattle.fedi_log.specs.declared.items.What.TheVariants.{Released}
use Rattle.fedi_log.proofs.Claiming.{still_claimed}
use Rattle.fedi_logged.specs.Claiming.{IsClaimed, IsPostSince, Records, TakesUp, claim_item}
use Rattle.fedi_logged.specs.declared.claims.Sending.{Sending}
use Rattle.fedi_logged.proofs.Own.{own_one}
use Rattle.fedi_objects.specs.declared.entry.Came.{Came}
use Rattle.fedi_queue.specs.declared.rows.Claim.{Claim}
use Rattle.fedi_turn.specs.Record.{Continues, GrowsBy}
use Rattle.fedi_logged.specs.Delivering.{RecordsInTurn, ReleasesInTurn, TakesUpInTurn}
use Rattle.fedi_hall.proofs.Turning.{goes_by}

-- ---- what a turn adds names its pass

grows_one : (n : ℕ) (log now : Log) (what : What) → now ≡ log ++ made_by (Some n) what ∷ [] → GrowsBy (λ (i : Item). i.pass) n log now
grows_one n log now what is = (made_by (Some n) what ∷ [], is, own_one (Some n) what)

pub grows_none : (n : ℕ) (log now : Log) → now ≡ log → GrowsBy (λ (i : Item). i.pass) n log now
grows_none n log now is = ([], is ∙ sym (append-nil log), All-nil (λ (i : Item). i.pass ≡ Some n))

-- by the number of the pass, from the log that the turn began with
grows_as : (k n : ℕ) (taken log now : Log) → k ≡ n → log ≡ taken → GrowsBy (λ (i : Item). i.pass) k log now → GrowsBy (λ (i : Item). i.pass) n taken now
grows_as k n taken log now same at g =
    subst (λ (l : Log). GrowsBy (λ (i : Item). i.pass) n l now) at (subst (λ (j : ℕ). GrowsBy (λ (i : Item). i.pass) j log now) same g)

take_grows : (n m : ℕ) (log now : Log) (r : Result (Option Sending) AllocError) → TakesUp (Some n) m log now r → GrowsBy (λ (i : Item). i.pass) n log now
take_grows n m log now (Ok None) t = grows_none n log now t.1
take_grows n m log now (Ok (Some s)) t = grows_one n log now _ t.4
take_grows n m log now (Err e) (inl same) = grows_none n log now same.0
take_grows n m log now (Err e) (inr t) = (
  claim_item (Some n) t.0 t.1 ∷ (made_by (Some n) (Released t.0) ∷ []),
  t.4 ∙ append_assoc log (claim_item (Some n) t.0 t.1 ∷ []) (made_by (Some n) (Released t.0) ∷ []),
  All-append (λ (i : Item). i.pass ≡ Some n) (claim_item (Some n) t.0 t.1 ∷ []) (made_by (Some n) (Released t.0) ∷ []) (own_one (Some n) _) (own_one (Some n) (Released t.0)),
)

pub take_grown : (k n m : ℕ) (taken log now : Log) (r : Result (Option Sending) AllocError) → k ≡ n → log ≡ taken → TakesUp (Some k) m log now r → GrowsBy (λ (i : Item). i.pass) n taken now
take_grown k n m taken log now r same at t = grows_as k n taken log now same at (take_grows k m log now r t)

-- ---- who has claimed

pub goes_at : (n : ℕ) (seen taken log : Log) → log ≡ taken → Continues (λ (i : Item). i.pass) n seen taken → Goes (Some n) seen log
goes_at n seen taken log at on = goes_by n seen log (subst (λ (l : Log). Continues (λ (i : Item). i.pass) n seen l) (sym at) on)

-- what the pass had claimed when it saw the log is claimed at its turn
pub claimed_at : (k n : ℕ) (seen taken log : Log) (p : Pair) (c : Claim) → k ≡ n → log ≡ taken → Continues (λ (i : Item). i.pass) n seen taken → HasClaimed (Some n) seen p c
    → HasClaimed (Some k) log p c
claimed_at k n seen taken log p c same at on has =
    subst (λ (j : ℕ). HasClaimed (Some j) log p c) (sym same) (still_claimed (Some n) seen log p c (goes_at n seen taken log at on) has)

pub is_claimed_at : (k n : ℕ) (seen taken log : Log) (c : Claim) → k ≡ n → log ≡ taken → Continues (λ (i : Item). i.pass) n seen taken → IsClaimed (Some n) seen c
    → IsClaimed (Some k) log c
is_claimed_at k n seen taken log c same at on claimed = (claimed.0, claimed_at k n seen taken log claimed.0 c same at on claimed.1)

-- ---- turns

pub take_turn : (k n m : ℕ) (seen taken log now after : Log) (front : ℕ) (r : Result (Option Sending) AllocError) → k ≡ n → log ≡ taken → after ≡ now
    → Continues (λ (i : Item). i.pass) n seen taken → front ≡ length log → TakesUp (Some k) m log now r → TakesUpInTurn (Some n) m seen after front r
take_turn k n m seen taken log now after front r same at is on counts t = (
  log,
  goes_at n seen taken log at on,
  counts,
  subst (λ (l : Log). TakesUp (Some n) m log l r) (sym is) (subst (λ (j : ℕ). TakesUp (Some j) m log now r) same t),
)

pub release_grown : (k n own : ℕ) (seen taken log now : Log) (c : Claim) → k ≡ n → k ≡ own → log ≡ taken → Continues (λ (i : Item). i.pass) own seen taken
    → IsClaimed (Some own) seen c → ((p : Pair) → HasClaimed (Some k) log p c → now ≡ log ++ made_by (Some k) (Released p) ∷ []) → GrowsBy (λ (i : Item). i.pass) n taken now
release_grown k n own seen taken log now c same mine at on claimed released =
    let here = is_claimed_at k own seen taken log c mine at on claimed in
    grows_as k n taken log now same at (grows_one k log now (Released here.0) (released here.0 here.1))

pub release_turn : (k n : ℕ) (seen taken log now after : Log) (c : Claim) → k ≡ n → log ≡ taken → after ≡ now → Continues (λ (i : Item). i.pass) n seen taken
    → ((p : Pair) → HasClaimed (Some k) log p c → now ≡ log ++ made_by (Some k) (Released p) ∷ []) → (p : Pair) → HasClaimed (Some n) seen p c → ReleasesInTurn (Some n) seen after p
release_turn k n seen taken log now after c same at is on released p has = (
  log,
  goes_at n seen taken log at on,
  is ∙ released p (claimed_at k n seen taken log p c same at on has) ∙ ap (λ (j : ℕ). log ++ made_by (Some j) (Released p) ∷ []) same,
)

pub record_grown : (b : Base) (k n own : ℕ) (seen taken log now : Log) (c : Claim) (came : Came) (m : ℕ) (r : Result (Unit {0}) RecordFault) → k ≡ n → k ≡ own → log ≡ taken
    → Continues (λ (i : Item). i.pass) own seen taken → IsClaimed (Some own) seen c → ((p : Pair) → HasClaimed (Some k) log p c → Records b (Some k) log now p came m r)
    → GrowsBy (λ (i : Item). i.pass) n taken now
record_grown b k n own seen taken log now c came m r same mine at on claimed recorded =
    let here = is_claimed_at k own seen taken log c mine at on claimed in
    grows_as k n taken log now same at (grows_one k log now _ (recorded here.0 here.1).grown)

pub record_turn : (b : Base) (k n : ℕ) (seen taken log now after : Log) (c : Claim) (came : Came) (m front : ℕ) (r : Result (Unit {0}) RecordFault) → k ≡ n → log ≡ taken → after ≡ now
    → Continues (λ (i : Item). i.pass) n seen taken → front ≡ length log → ((p : Pair) → HasClaimed (Some k) log p c → Records b (Some k) log now p came m r)
    → (p : Pair) → HasClaimed (Some n) seen p c → RecordsInTurn b (Some n) seen after p came m front r
record_turn b k n seen taken log now after c came m front r same at is on counts recorded p has = (
  log,
  goes_at n seen taken log at on,
  counts,
  subst (λ (l : Log). Records b (Some n) log l p came m r) (sym is)
      (subst (λ (j : ℕ). Records b (Some j) log now p came m r) same (recorded p (claimed_at k n seen taken log p c same at on has))),
)

-- the log after a turn that added nothing
pub goes_after : (n : ℕ) (seen taken log after : Log) → log ≡ taken → after ≡ log → Continues (λ (i : Item). i.pass) n seen taken → Goes (Some n) seen after
goes_after n seen taken log after at is on = subst (λ (l : Log). Goes (Some n) seen l) (sym is) (goes_at n seen taken log at on)

pub post_turn : {A E : Type 0} (n : ℕ) (seen taken log after : Log) (c : Claim) (inbox body : List ℕ) (r : Result (Vec ℕ A) E) → log ≡ taken → after ≡ log
    → Continues (λ (i : Item). i.pass) n seen taken
    → ((by : Option ℕ) (p : Pair) → HasClaimed by log p c → IfOk r (λ text. IsPostSince log p inbox body text.items))
    → (p : Pair) → HasClaimed (Some n) seen p c → IfOk r (λ text. IsPostSince after p inbox body text.items)
post_turn {A} n seen taken log after c inbox body r at is on posts p has =
    subst (λ (l : Log). IfOk r (λ (text : Vec ℕ A). IsPostSince l p inbox body text.items)) (sym is) (posts (Some n) p (claimed_at n n seen taken log p c refl at on has))
