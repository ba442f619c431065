-- The claims of a machine remain those of its log.
use Rattle.std.proofs.Common.{◌≡◌, ℕ, ◌≤◌, ◌+◌, ◌-◌, ◌^◌, List, [], ◌∷◌, ◌++◌, length, map, Option, Some, None, Result, Ok, Err, IfOk, Vec, refl, sym, ap, subst, ◌∙◌, append-nil, arith}
use Rattle.std.specs.Prelude.{filter, option_and_then, option_map, slice_get}
use Rattle.std.specs.List.{find}
use Rattle.fedi_core.specs.Delivering.{IsClaimOf, IsPostFor, IsSentFor, claimed_id, claimed_recipient, claimed_row, claims_in}
use Rattle.fedi_core.specs.Machines.{KeepsClaims, Machine}
use Rattle.fedi_core.proofs.Claims.{fewer_released, town_unclaimed}
use Rattle.fedi_log.specs.Claims.{ClaimsStand, HasClaimed, IsClaimFor, IsFirst, claimed_by, free_in}
use Rattle.fedi_delivery.specs.declared.sending.Outgoing.{Outgoing}
use Rattle.fedi_delivery.specs.Deliveries.{IsOutgoing, post_to}
use Rattle.fedi_log.specs.Log.{Log, given, history_of, made_by}
use Rattle.fedi_log.specs.declared.items.Pair.{Pair}
use Rattle.fedi_log.specs.declared.items.What.TheVariants.{Entered, Marked, Claimed, Released}
use Rattle.fedi_log.proofs.ClaimChanges.{claims_claimed, claims_failed, claims_released}
use Rattle.fedi_log.proofs.Claiming.{claims_marked}
use Rattle.fedi_log.proofs.ClaimsHeld.{claims_kept, claims_opened, claims_recorded, stays_all}
use Rattle.fedi_log.proofs.Freeing.{first_free, none_free}
use Rattle.fedi_log.proofs.Growing.{history_append}
use Rattle.fedi_objects.specs.declared.entry.Came.{Came}
use Rattle.fedi_objects.specs.declared.entry.Entry.{Entry}
use Rattle.fedi_queue.specs.declared.rows.Claim.{Claim}
use Rattle.fedi_queue.specs.declared.rows.QueueRow.{QueueRow}
use Rattle.fedi_queue.specs.Claims.{change_first, claim, claim_of, is_claimed_at, is_free_at, release}
use Rattle.fedi_queue.specs.Queues.{is_claimed}
use Rattle.fedi_queue.specs.Rows.{id_at, rows_of}
use Rattle.fedi_queue.proofs.Due.{rows_fresh}
use Rattle.fedi_queue.proofs.Held.{rows_stay}
use Rattle.fedi_queue.proofs.Listed.{none_changed}
use Rattle.fedi_town.specs.declared.act.Act.{Act}
use Rattle.fedi_town.specs.Collections.{text_of}
use Rattle.fedi_town.specs.Histories.{town}
use Rattle.fedi_town.specs.Legal.{IsLegal}
use Rattle.fedi_town.specs.Towns.{Town}
use Rattle.fedi_logged.specs.Claiming.{Claims, IsClaiming, IsPostSince, IsSending, claim_item, tried}
use Rattle.fedi_logged.specs.Logs.{log_of, pair_of}
use Rattle.fedi_logged.specs.declared.noted.Delivery.{Delivery}
use Rattle.fedi_logged.specs.declared.noted.Noted.{Noted}
use Rattle.fedi_logged.proofs.Peers.{post_since}
use Rattle.fedi_logged.proofs.Silent.{IsSilent}
use Rattle.fedi_logged.proofs.Untried.{IsUntried}

-- ---- at the opening

pub claiming_first : (h opened : List Entry) (rows : List QueueRow) (noted : List Noted) (front : ℕ) → noted ≡ [] → opened ≡ h → rows ≡ rows_of (town h) → front ≤ 2 ^ 64 - 1
    → IsClaiming (town h) rows (log_of opened noted) front 0
claiming_first h opened rows noted front none is unclaimed within =
    let log : log_of opened noted ≡ given h = ap (λ (ns : List Noted). log_of opened ns) none ∙ append-nil (given opened) ∙ ap given is in
    record {
      queue = ap (λ (ys : List QueueRow). map release ys) unclaimed ∙ (rows_fresh (town h)).0;
      stand = subst (λ (l : Log). ClaimsStand (town h).acts rows l) (sym log)
          (subst (λ (ys : List QueueRow). ClaimsStand (town h).acts ys (given h)) (sym unclaimed) (claims_opened h));
      counted = sym (ap claims_in unclaimed ∙ town_unclaimed (town h));
      few = omega arith;
      room = omega (arith, within);
    }

-- ---- a request's turn

-- nothing was kept, and nothing is noted
pub claiming_same : (h h' : List Entry) (rows new : List QueueRow) (log : Log) (front claimed : ℕ) → h' ≡ h → new ≡ rows → IsClaiming (town h) rows log front claimed
    → IsClaiming (town h') new log front claimed
claiming_same h h' rows new log front claimed same still c =
    subst (λ (x : List Entry). IsClaiming (town x) new log front claimed) (sym same)
    (subst (λ (ys : List QueueRow). IsClaiming (town h) ys log front claimed) (sym still) c)

pub claiming_kept : (h h' : List Entry) (e : Entry) (by : Option ℕ) (rows new : List QueueRow) (log now : Log) (front claimed : ℕ) → h' ≡ h ++ e ∷ []
    → map release new ≡ rows_of (town h') → IsUntried e → KeepsClaims (town h).acts e rows new → now ≡ log ++ made_by by (Entered e) ∷ [] → front + 1 + claimed ≤ 2 ^ 64 - 1
    → IsClaiming (town h) rows log front claimed → IsClaiming (town h') new now (front + 1) claimed
claiming_kept h h' e by rows new log now front claimed grown queue untried keeps is room c = record {
  queue = queue;
  stand = subst (λ (x : List Entry). ClaimsStand (town x).acts new now) (sym grown)
      (subst (λ (l : Log). ClaimsStand (town (h ++ e ∷ [])).acts new l) (sym is)
      (claims_kept h e by rows new log c.queue untried keeps c.stand));
  counted = c.counted ∙ sym (ap length keeps ∙ ap length (stays_all (town h).acts e rows untried));
  few = let few = c.few in omega (arith, few);
  room = room;
}

pub claiming_marked : (h h' : List Entry) (e : Entry) (by : Option ℕ) (rows new : List QueueRow) (log now : Log) (front claimed : ℕ) → h' ≡ h → new ≡ rows → IsUntried e
    → now ≡ log ++ made_by by (Marked e) ∷ [] → front + 1 + claimed ≤ 2 ^ 64 - 1
    → IsClaiming (town h) rows log front claimed → IsClaiming (town h') new now (front + 1) claimed
claiming_marked h h' e by rows new log now front claimed same still untried is room c =
    let marked : IsClaiming (town h) rows (log ++ made_by by (Marked e) ∷ []) (front + 1) claimed = record {
      queue = c.queue;
      stand = claims_marked e by (town h).acts rows log untried c.stand;
      counted = c.counted;
      few = let few = c.few in omega (arith, few);
      room = room;
    } in
    subst (λ (l : Log). IsClaiming (town h') new l (front + 1) claimed) (sym is)
    (claiming_same h h' rows new (log ++ made_by by (Marked e) ∷ []) (front + 1) claimed same still marked)

-- ---- a claim

-- the row that was claimed
pub record IsRowOf (t : Town) (rows new : List QueueRow) (m : ℕ) (c : Claim) : Type 0 where
  pub row : QueueRow
  pub found : find (is_free_at m) rows ≡ Some row
  pub is : c ≡ claim_of m row
  pub named : id_at t.acts row.activity ≡ Some (claimed_id t.acts c)
  pub sent_to : row.recipient ≡ claimed_recipient new c

pub mapped : {A B : Type 0} (f : A → B) (o : Option A) (y : B) → Some y ≡ option_map f o → (x : A) × (o ≡ Some x) × (f x ≡ y)
mapped f None y is = absurd cc
mapped f (Some x) y is = let same : y ≡ f x = cc in (x, refl, sym same)

pub mapped_none : {A B : Type 0} (f : A → B) (o : Option A) → None ≡ option_map f o → o ≡ None
mapped_none f None is = refl
mapped_none f (Some x) is = absurd cc

pub row_claimed : (t : Town) (rows new : List QueueRow) (m : ℕ) (c : Claim) → Some c ≡ option_map (claim_of m) (find (is_free_at m) rows)
    → claimed_row new c ≡ option_map claim (find (is_free_at m) rows) → IsClaimOf t c (claimed_id t.acts c) (claimed_recipient new c) → IsRowOf t rows new m c
row_claimed t rows new m c is row_is of =
    let row = mapped (claim_of m) (find (is_free_at m) rows) c is in
    let own : row.0.activity ≡ of.row.activity = ap (λ (x : Claim). x.activity) row.2 ∙ sym (ap (λ (x : Claim). x.activity) of.claim) in
    let found : claimed_row new c ≡ Some (claim row.0) = row_is ∙ ap (λ (o : Option QueueRow). option_map claim o) row.1 in
    record {
      row = row.0;
      found = row.1;
      is = sym row.2;
      named = ap (λ (n : ℕ). id_at t.acts n) own ∙ of.named;
      sent_to = sym (ap (λ (o : Option QueueRow). text_of (option_map (λ (x : QueueRow). x.recipient) o)) found);
    }

-- the delivery of a claim
abbrev pub pair_for : List Act → List QueueRow → Claim → Pair
pair_for acts rows c = record { activity = claimed_id acts c; recipient = claimed_recipient rows c }

pub claiming_claimed : (h h' : List Entry) (by : Option ℕ) (m : ℕ) (rows new : List QueueRow) (c : Claim) (log now : Log) (front claimed : ℕ) → IsLegal h → h' ≡ h
    → new ≡ change_first (is_free_at m) claim rows → claims_in new ≡ claims_in rows + 1 → IsRowOf (town h) rows new m c
    → now ≡ log ++ claim_item by (pair_for (town h).acts new c) c ∷ [] → front + 1 + (claimed + 1) ≤ 2 ^ 64 - 1
    → IsClaiming (town h) rows log front claimed → IsClaiming (town h') new now (front + 1) (claimed + 1)
claiming_claimed h h' by m rows new c log now front claimed legal same made more r is room k =
    subst (λ (x : List Entry). IsClaiming (town x) new now (front + 1) (claimed + 1)) (sym same) (record {
      queue = ap (λ (ys : List QueueRow). map release ys) made ∙ rows_stay (is_free_at m) claim rows (λ row. refl) ∙ k.queue;
      stand = subst (λ (l : Log). ClaimsStand (town h).acts new l) (sym is)
          (claims_claimed h by rows new log m r.row (pair_for (town h).acts new c) c legal k.queue r.found r.is made r.named r.sent_to k.stand);
      counted = let counted = k.counted in omega (arith, counted, more);
      few = let few = k.few in omega (arith, few);
      room = room;
    })

-- what was claimed is the first free delivery, or there was none
pub claims_one : (h : List Entry) (by : Option ℕ) (m : ℕ) (rows new : List QueueRow) (c : Claim) (log now : Log) (front claimed : ℕ) → IsLegal h → h ≡ history_of log
    → IsRowOf (town h) rows new m c → now ≡ log ++ claim_item by (pair_for (town h).acts new c) c ∷ [] → IsClaiming (town h) rows log front claimed → Claims by m log now (Some c)
claims_one h by m rows new c log now front claimed legal held r is k = (
  pair_for (town h).acts new c,
  ap (λ (x : Claim). x.moment) r.is,
  first_free h rows log m r.row (claimed_id (town h).acts c) (claimed_recipient new c) legal k.queue k.stand held r.found r.named r.sent_to,
  is,
)

pub claims_none : (h : List Entry) (by : Option ℕ) (m : ℕ) (rows : List QueueRow) (log now : Log) (front claimed : ℕ) → IsLegal h → h ≡ history_of log
    → None ≡ option_map (claim_of m) (find (is_free_at m) rows) → now ≡ log → IsClaiming (town h) rows log front claimed → Claims by m log now None
claims_none h by m rows log now front claimed legal held is same k =
    (none_free h rows log m legal k.queue k.stand held (mapped_none (claim_of m) (find (is_free_at m) rows) is), same)

-- ---- the end of a claim

pub claiming_released : (h h' : List Entry) (by : Option ℕ) (p : Pair) (c : Claim) (rows new : List QueueRow) (log now : Log) (front claimed : ℕ) → IsLegal h → h' ≡ h
    → HasClaimed by log p c → new ≡ change_first (is_claimed_at c.activity c.recipient) release rows → claims_in rows ≡ claims_in new + 1
    → now ≡ log ++ made_by by (Released p) ∷ [] → IsClaiming (town h) rows log front claimed → IsClaiming (town h') new now (front + 1) (claimed - 1)
claiming_released h h' by p c rows new log now front claimed legal same has made fewer is k =
    subst (λ (x : List Entry). IsClaiming (town x) new now (front + 1) (claimed - 1)) (sym same) (record {
      queue = ap (λ (ys : List QueueRow). map release ys) made ∙ rows_stay (is_claimed_at c.activity c.recipient) release rows (λ row. refl) ∙ k.queue;
      stand = subst (λ (l : Log). ClaimsStand (town h).acts new l) (sym is) (claims_released h by rows new log p c legal k.queue has made k.stand);
      counted = let counted = k.counted in omega (arith, counted, fewer);
      few = let few = k.few in omega (arith, few);
      room = let room = k.room in let counted = k.counted in omega (arith, room, counted, fewer);
    })

pub claiming_failed : (h h' : List Entry) (by : Option ℕ) (p : Pair) (c : Claim) (came : Came) (m : ℕ) (rows new : List QueueRow) (log now : Log) (front claimed : ℕ) → IsLegal h → h' ≡ h
    → HasClaimed by log p c → new ≡ change_first (is_claimed_at c.activity c.recipient) release rows → claims_in rows ≡ claims_in new + 1
    → now ≡ log ++ made_by by (Marked (tried p came m)) ∷ [] → IsClaiming (town h) rows log front claimed → IsClaiming (town h') new now (front + 1) (claimed - 1)
claiming_failed h h' by p c came m rows new log now front claimed legal same has made fewer is k =
    subst (λ (x : List Entry). IsClaiming (town x) new now (front + 1) (claimed - 1)) (sym same) (record {
      queue = ap (λ (ys : List QueueRow). map release ys) made ∙ rows_stay (is_claimed_at c.activity c.recipient) release rows (λ row. refl) ∙ k.queue;
      stand = subst (λ (l : Log). ClaimsStand (town h).acts new l) (sym is) (claims_failed h by rows new log p c came m legal k.queue has made k.stand);
      counted = let counted = k.counted in omega (arith, counted, fewer);
      few = let few = k.few in omega (arith, few);
      room = let room = k.room in let counted = k.counted in omega (arith, room, counted, fewer);
    })

pub claiming_recorded : (h h' : List Entry) (by : Option ℕ) (p : Pair) (c : Claim) (came : Came) (m : ℕ) (rows new : List QueueRow) (log now : Log) (front claimed : ℕ)
    → h' ≡ h ++ tried p came m ∷ [] → map release new ≡ rows_of (town h') → HasClaimed by log p c → KeepsClaims (town h).acts (tried p came m) rows new
    → claims_in rows ≡ claims_in new + 1 → now ≡ log ++ made_by by (Entered (tried p came m)) ∷ []
    → IsClaiming (town h) rows log front claimed → IsClaiming (town h') new now (front + 1) (claimed - 1)
claiming_recorded h h' by p c came m rows new log now front claimed grown queue has keeps fewer is k = record {
  queue = queue;
  stand = subst (λ (x : List Entry). ClaimsStand (town x).acts new now) (sym grown)
      (subst (λ (l : Log). ClaimsStand (town (h ++ tried p came m ∷ [])).acts new l) (sym is)
      (claims_recorded h by rows new log p c came m k.queue has keeps k.stand));
  counted = let counted = k.counted in omega (arith, counted, fewer);
  few = let few = k.few in omega (arith, few);
  room = let room = k.room in let counted = k.counted in omega (arith, room, counted, fewer);
}

-- ---- what a claim is held for

-- the delivery of a claim, by what the log says of it
pub pair_is : (t : Town) (rows : List QueueRow) (log : Log) (front claimed : ℕ) (by : Option ℕ) (p : Pair) (c : Claim) → IsClaiming t rows log front claimed → HasClaimed by log p c
    → pair_for t.acts rows c ≡ p
pair_is t rows log front claimed by p c k has =
    let is = k.stand.held by p c has in
    λ i. record {
      activity = ap (λ (o : Option (List ℕ)). text_of o) is.named i;
      recipient = ap (λ (o : Option (List ℕ)). text_of o) is.sent_to i;
    }

-- ---- what is noted about a claim

pub pair_noted : (acts : List Act) (rows : List QueueRow) (c : Claim) (d : Delivery) → d.activity.value ≡ claimed_id acts c → d.recipient.value ≡ claimed_recipient rows c
    → pair_of d ≡ pair_for acts rows c
pair_noted acts rows c d activity recipient = λ i. record { activity = activity i; recipient = recipient i }

pub claim_noted : (p : Pair) (c : Claim) (d : Delivery) (m : ℕ) → pair_of d ≡ p → m ≡ c.moment
    → Claimed (pair_of d) (record { activity = c.activity; recipient = c.recipient }) m ≡ claimed_by p c
claim_noted p c d m pair moment = λ i. Claimed (pair i) (record { activity = c.activity; recipient = c.recipient }) (moment i)

pub claimed_silent : (p : Pair) (c : Claim) → IsSilent (claimed_by p c)
claimed_silent p c = record { entries = refl; marks = refl; doubts = λ ds. refl; may_come = λ h. tt }

-- a claim adds no entry
pub claim_history : (by : Option ℕ) (p : Pair) (c : Claim) (log now : Log) → now ≡ log ++ claim_item by p c ∷ [] → history_of now ≡ history_of log
claim_history by p c log now is = ap history_of is ∙ history_append log (claim_item by p c ∷ []) ∙ append-nil (history_of log)

-- nothing was free, so the machine is unchanged
pub unclaimed_same : {P : Type 0} (m : ℕ) (before after : Machine P) → after ≡ record before { rows = change_first (is_free_at m) claim before.rows }
    → None ≡ option_map (claim_of m) (find (is_free_at m) before.rows) → after ≡ before
unclaimed_same {P} m before after made none =
    made ∙ ap (λ (rows : List QueueRow). record before { rows = rows }) (none_changed (is_free_at m) claim before.rows (mapped_none (claim_of m) (find (is_free_at m) before.rows) none))

-- ---- what is sent for a claim

pub sending : (h : List Entry) (rows : List QueueRow) (log : Log) (front claimed : ℕ) (by : Option ℕ) (p : Pair) (c : Claim) (recipient : List ℕ) (o : Outgoing)
    → IsClaiming (town h) rows log front claimed → HasClaimed by log p c → IsSentFor (town h) rows c o → recipient ≡ claimed_recipient rows c → h ≡ history_of log
    → IsSending (town (history_of log)) p c recipient o
sending h rows log front claimed by p c recipient o k has sent is held =
    let pair = pair_is (town h) rows log front claimed by p c k has in
    let to : claimed_recipient rows c ≡ p.recipient = ap (λ (q : Pair). q.recipient) pair in
    subst (λ (x : List Entry). IsSending (town x) p c recipient o) held (record {
      act = sent.act;
      there = sent.there;
      named = ap (λ (x : Option Act). option_and_then (λ (a : Act). a.activity.id) x) (sym sent.there) ∙ (k.stand.held by p c has).named;
      recipient_is = is ∙ to;
      sent = subst (λ (r : List ℕ). IsOutgoing (town h) sent.act r o) to sent.sent;
    })

-- the post, in every case with memory for it
pub posts_since : {A E : Type 0} (h : List Entry) (rows : List QueueRow) (log : Log) (front claimed : ℕ) (by : Option ℕ) (p : Pair) (c : Claim) (inbox body : List ℕ) (r : Result (Vec ℕ A) E)
    → IsClaiming (town h) rows log front claimed → HasClaimed by log p c → h ≡ history_of log → IsLegal h
    → IfOk r (λ text. IsPostFor (town h) rows c inbox body text.items) → IfOk r (λ text. IsPostSince log p inbox body text.items)
posts_since h rows log front claimed by p c inbox body (Err e) k has held legal posts = tt
posts_since h rows log front claimed by p c inbox body (Ok text) k has held legal posts =
    let pair = pair_is (town h) rows log front claimed by p c k has in
    post_since h log p inbox body text.items held legal (posts ∙ ap (λ (q : Pair). post_to (town h) q.recipient inbox body) pair)
