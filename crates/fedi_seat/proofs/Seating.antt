-- The claims of a server remain those of its log.
use Rattle.std.proofs.Common.{◌≡◌, ◌∙◌, ℕ, true, List, [], ◌∷◌, ◌++◌, Option, Some, None, Result, Ok, Err}
use Rattle.std.proofs.Common.{IfOk, Vec, refl, sym, ap, subst, append-nil}
use Rattle.std.specs.Prelude.{IsTrue, is_some, map, option_and_then, option_map}
use Rattle.std.specs.List.{find}
use Rattle.fedi_core.specs.Delivering.{IsPostFor, IsSentFor, claimed_id, claimed_recipient}
use Rattle.fedi_core.specs.declared.delivering.RecordFault.{RecordFault}
use Rattle.fedi_core.specs.declared.delivering.RecordFault.TheVariants.{KeeperFault, Full, Memory}
use Rattle.fedi_core.specs.Machines.{KeepsClaims, Machine}
use Rattle.fedi_delivery.specs.declared.sending.Outgoing.{Outgoing}
use Rattle.fedi_delivery.specs.Deliveries.{IsOutgoing, post_to}
use Rattle.fedi_log.specs.Claims.{ClaimsStand, HasClaimed}
use Rattle.fedi_log.specs.Log.{Log, entry_in, given, history_of, made_by}
use Rattle.fedi_log.specs.declared.items.Pair.{Pair}
use Rattle.fedi_log.specs.declared.items.What.{What}
use Rattle.fedi_log.specs.declared.items.What.TheVariants.{Entered, Marked, Released}
use Rattle.fedi_log.proofs.ClaimChanges.{claims_claimed, claims_failed, claims_released}
use Rattle.fedi_log.proofs.ClaimsHeld.{claims_kept, claims_opened, claims_recorded}
use Rattle.fedi_log.proofs.Freeing.{first_free, none_free}
use Rattle.fedi_log.proofs.Growing.{given_history, history_append}
use Rattle.fedi_logged.specs.Claiming.{Claims, IsPostSince, IsSending, claim_item, tried, what_after}
use Rattle.fedi_logged.specs.Logs.{log_of}
use Rattle.fedi_logged.specs.declared.noted.Noted.{Noted}
use Rattle.fedi_logged.proofs.Claiming.{IsRowOf, claim_history, mapped_none, pair_for}
use Rattle.fedi_logged.proofs.Hosts.{host_stays}
use Rattle.fedi_logged.proofs.Peers.{post_since}
use Rattle.fedi_logged.proofs.Recording.{AreRecorded, KeepsTried}
use Rattle.fedi_objects.specs.declared.entry.Came.{Came}
use Rattle.fedi_objects.specs.declared.entry.Entry.{Entry}
use Rattle.fedi_outside.specs.declared.keepers.Keeper.{Ghosts}
use Rattle.fedi_queue.specs.declared.rows.Claim.{Claim}
use Rattle.fedi_queue.specs.declared.rows.QueueRow.{QueueRow}
use Rattle.fedi_queue.specs.Claims.{change_first, claim, claim_of, is_claimed_at, is_free_at, release}
use Rattle.fedi_queue.specs.Rows.{rows_of}
use Rattle.fedi_queue.proofs.Due.{rows_fresh}
use Rattle.fedi_queue.proofs.Held.{rows_stay}
use Rattle.fedi_town.specs.declared.act.Act.{Act}
use Rattle.fedi_town.specs.Collections.{text_of}
use Rattle.fedi_town.specs.Histories.{town}
use Rattle.fedi_town.specs.Legal.{IsLegal}
use Rattle.fedi_town.specs.Towns.{Town}
use Rattle.fedi_seat.specs.Seats.{IsSeat, IsUntried}

-- ---- the host

-- one more entry leaves the server set up
hosted_more : (h h' : List Entry) (e : Entry) → h' ≡ h ++ e ∷ [] → IsLegal h'
    → IsTrue (is_some (town h).host) → IsTrue (is_some (town h').host)
hosted_more h h' e grown legal hosted =
    subst (λ (x : List Entry). is_some (town x).host ≡ true) (sym grown)
    (ap is_some (host_stays h (e ∷ []) (subst IsLegal grown legal) hosted) ∙ hosted)

-- ---- an opening

pub seat_opened : (h opened : List Entry) (rows : List QueueRow) (noted : List Noted) → noted ≡ []
    → opened ≡ h → rows ≡ rows_of (town h) → IsLegal h → IsTrue (is_some (town h).host)
    → IsSeat h rows (log_of opened noted)
seat_opened h opened rows noted none is unclaimed legal hosted =
    let log : log_of opened noted ≡ given h =
    ap (λ (ns : List Noted). log_of opened ns) none ∙ append-nil (given opened) ∙ ap given is in
    subst (λ (l : Log). IsSeat h rows l) (sym log)
    (subst (λ (ys : List QueueRow). IsSeat h ys (given h)) (sym unclaimed) (record {
      of = sym (given_history h);
      legal = legal;
      hosted = hosted;
      queue = (rows_fresh (town h)).0;
      stand = claims_opened h;
    }))

-- the log of an opening is that of the history
pub log_opened : (h opened : List Entry) (noted : List Noted) → noted ≡ [] → opened ≡ h
    → log_of opened noted ≡ given h
log_opened h opened noted none is =
    ap (λ (ns : List Noted). log_of opened ns) none ∙ append-nil (given opened) ∙ ap given is

pub seat_same : (h h' : List Entry) (rows new : List QueueRow) (log : Log) → h' ≡ h → new ≡ rows
    → IsSeat h rows log → IsSeat h' new log
seat_same h h' rows new log same still s =
    subst (λ (x : List Entry). IsSeat x new log) (sym same)
    (subst (λ (ys : List QueueRow). IsSeat h ys log) (sym still) s)

-- ---- a claim

pub seat_claimed : (h h' : List Entry) (by : Option ℕ) (m : ℕ) (rows new : List QueueRow)
    (c : Claim) (log now : Log) → h' ≡ h → new ≡ change_first (is_free_at m) claim rows
    → IsRowOf (town h) rows new m c
    → now ≡ log ++ claim_item by (pair_for (town h).acts new c) c ∷ [] → IsSeat h rows log
    → IsSeat h' new now
seat_claimed h h' by m rows new c log now same made r is s =
    subst (λ (x : List Entry). IsSeat x new now) (sym same) (record {
      of = s.of ∙ sym (claim_history by (pair_for (town h).acts new c) c log now is);
      legal = s.legal;
      hosted = s.hosted;
      queue = ap (λ (ys : List QueueRow). map release ys) made
          ∙ rows_stay (is_free_at m) claim rows (λ row. refl) ∙ s.queue;
      stand = subst (λ (l : Log). ClaimsStand (town h).acts new l) (sym is)
          (claims_claimed h by rows new log m r.row (pair_for (town h).acts new c) c s.legal
          s.queue r.found r.is made r.named r.sent_to s.stand);
    })

pub seat_first : (h : List Entry) (by : Option ℕ) (m : ℕ) (rows new : List QueueRow) (c : Claim)
    (log now : Log) → IsRowOf (town h) rows new m c
    → now ≡ log ++ claim_item by (pair_for (town h).acts new c) c ∷ [] → IsSeat h rows log
    → Claims by m log now (Some c)
seat_first h by m rows new c log now r is s = (
  pair_for (town h).acts new c,
  ap (λ (x : Claim). x.moment) r.is,
  first_free h rows log m r.row (claimed_id (town h).acts c) (claimed_recipient new c) s.legal
      s.queue s.stand s.of r.found r.named r.sent_to,
  is,
)

pub seat_idle : (h : List Entry) (by : Option ℕ) (m : ℕ) (rows : List QueueRow) (log now : Log)
    → None ≡ option_map (claim_of m) (find (is_free_at m) rows) → now ≡ log → IsSeat h rows log
    → Claims by m log now None
seat_idle h by m rows log now is same s = (
  none_free h rows log m s.legal s.queue s.stand s.of
      (mapped_none (claim_of m) (find (is_free_at m) rows) is),
  same,
)

-- ---- the end of a claim

-- the delivery of a claim, by what the log says of it
pub pair_held : (t : Town) (rows : List QueueRow) (log : Log) (by : Option ℕ) (p : Pair)
    (c : Claim) → ClaimsStand t.acts rows log → HasClaimed by log p c → pair_for t.acts rows c ≡ p
pair_held t rows log by p c stand has =
    let is = stand.held by p c has in
    λ i. record {
      activity = ap (λ (o : Option (List ℕ)). text_of o) is.named i;
      recipient = ap (λ (o : Option (List ℕ)). text_of o) is.sent_to i;
    }

history_more : (by : Option ℕ) (w : What) (log now : Log) → now ≡ log ++ made_by by w ∷ []
    → history_of now ≡ history_of log ++ (entry_in w ++ [])
history_more by w log now is = ap history_of is ∙ history_append log (made_by by w ∷ [])

-- what ends the claim adds no entry
seat_silent : (h h' : List Entry) (by : Option ℕ) (w : What) (c : Claim)
    (rows new : List QueueRow) (log now : Log) → entry_in w ≡ [] → h' ≡ h
    → new ≡ change_first (is_claimed_at c.activity c.recipient) release rows
    → now ≡ log ++ made_by by w ∷ []
    → ClaimsStand (town h).acts new (log ++ made_by by w ∷ []) → IsSeat h rows log
    → IsSeat h' new now
seat_silent h h' by w c rows new log now silent same made is stand s =
    subst (λ (x : List Entry). IsSeat x new now) (sym same) (record {
      of = s.of
          ∙ sym (history_more by w log now is
          ∙ (ap (λ (es : List Entry). history_of log ++ (es ++ [])) silent
          ∙ append-nil (history_of log)));
      legal = s.legal;
      hosted = s.hosted;
      queue = ap (λ (ys : List QueueRow). map release ys) made
          ∙ rows_stay (is_claimed_at c.activity c.recipient) release rows (λ row. refl) ∙ s.queue;
      stand = subst (λ (l : Log). ClaimsStand (town h).acts new l) (sym is) stand;
    })

-- the claim is released
pub seat_released : (h h' : List Entry) (by : Option ℕ) (p : Pair) (c : Claim)
    (rows new : List QueueRow) (log now : Log) → h' ≡ h → HasClaimed by log p c
    → new ≡ change_first (is_claimed_at c.activity c.recipient) release rows
    → now ≡ log ++ made_by by (Released p) ∷ [] → IsSeat h rows log → IsSeat h' new now
seat_released h h' by p c rows new log now same has made is s =
    seat_silent h h' by (Released p) c rows new log now refl same made is
    (claims_released h by rows new log p c s.legal s.queue has made s.stand) s

-- the outcome of the attempt is recorded, or not
pub seat_recorded : {P : Type 0} (k : Ghosts P) (before after : Machine P) (by : Option ℕ)
    (p : Pair) (c : Claim) (came : Came) (m : ℕ) (log now : Log)
    (r : Result (Unit {0}) RecordFault) → KeepsTried k before after p came m r
    → AreRecorded k before after p came m c r → HasClaimed by log p c
    → now ≡ log ++ made_by by (what_after p came m r) ∷ []
    → IsSeat before.history before.rows log → IsSeat after.history after.rows now
seat_recorded k before after by p c came m log now (Ok done) y a has is s =
    let h = before.history in
    let e = tried p came m in record {
      of = y.kept.history
          ∙ (ap (λ (es : List Entry). es ++ e ∷ []) s.of
          ∙ sym (history_more by (Entered e) log now is));
      legal = y.legal;
      hosted = hosted_more h after.history e y.kept.history y.legal s.hosted;
      queue = a.queue;
      stand = subst (λ (x : List Entry). ClaimsStand (town x).acts after.rows now)
          (sym y.kept.history)
          (subst (λ (l : Log). ClaimsStand (town (h ++ e ∷ [])).acts after.rows l) (sym is)
          (claims_recorded h by before.rows after.rows log p c came m s.queue has a.claims
          s.stand));
    }
seat_recorded k before after by p c came m log now (Err KeeperFault) y a has is s =
    seat_silent before.history after.history by (Marked (tried p came m)) c before.rows after.rows
    log now refl y.same a.released is
    (claims_failed before.history by before.rows after.rows log p c came m s.legal s.queue has
    a.released s.stand) s
seat_recorded k before after by p c came m log now (Err Full) y a has is s =
    seat_released before.history after.history by p c before.rows after.rows log now y.same has
    a.released is s
seat_recorded k before after by p c came m log now (Err Memory) y a has is s =
    seat_released before.history after.history by p c before.rows after.rows log now y.same has
    a.released is s

-- ---- the entry of a request

pub seat_kept : (h h' : List Entry) (e : Entry) (by : Option ℕ) (rows new : List QueueRow)
    (log now : Log) → h' ≡ h ++ e ∷ [] → map release new ≡ rows_of (town h') → IsUntried e
    → KeepsClaims (town h).acts e rows new → IsLegal h'
    → now ≡ log ++ made_by by (Entered e) ∷ [] → IsSeat h rows log → IsSeat h' new now
seat_kept h h' e by rows new log now grown queue untried keeps legal is s = record {
  of = grown
      ∙ (ap (λ (es : List Entry). es ++ e ∷ []) s.of
      ∙ sym (history_more by (Entered e) log now is));
  legal = legal;
  hosted = hosted_more h h' e grown legal s.hosted;
  queue = queue;
  stand = subst (λ (x : List Entry). ClaimsStand (town x).acts new now) (sym grown)
      (subst (λ (l : Log). ClaimsStand (town (h ++ e ∷ [])).acts new l) (sym is)
      (claims_kept h e by rows new log s.queue untried keeps s.stand));
}

-- ---- what is sent for a claim

pub seat_sending : (h : List Entry) (rows : List QueueRow) (log : Log) (by : Option ℕ) (p : Pair)
    (c : Claim) (recipient : List ℕ) (o : Outgoing) → IsSeat h rows log → HasClaimed by log p c
    → IsSentFor (town h) rows c o → recipient ≡ claimed_recipient rows c
    → IsSending (town (history_of log)) p c recipient o
seat_sending h rows log by p c recipient o s has sent is =
    let pair = pair_held (town h) rows log by p c s.stand has in
    let to : claimed_recipient rows c ≡ p.recipient = ap (λ (q : Pair). q.recipient) pair in
    subst (λ (x : List Entry). IsSending (town x) p c recipient o) s.of (record {
      act = sent.act;
      there = sent.there;
      named = ap (λ (x : Option Act). option_and_then (λ (a : Act). a.activity.id) x)
          (sym sent.there) ∙ (s.stand.held by p c has).named;
      recipient_is = is ∙ to;
      sent = subst (λ (r : List ℕ). IsOutgoing (town h) sent.act r o) to sent.sent;
    })

pub seat_posts : {A E : Type 0} (h : List Entry) (rows : List QueueRow) (log : Log)
    (by : Option ℕ) (p : Pair) (c : Claim) (inbox body : List ℕ) (r : Result (Vec ℕ A) E)
    → IsSeat h rows log → HasClaimed by log p c
    → IfOk r (λ text. IsPostFor (town h) rows c inbox body text.items)
    → IfOk r (λ text. IsPostSince log p inbox body text.items)
seat_posts h rows log by p c inbox body (Err e) s has posts = tt
seat_posts h rows log by p c inbox body (Ok text) s has posts =
    let pair = pair_held (town h) rows log by p c s.stand has in
    post_since h log p inbox body text.items s.of s.legal
    (posts ∙ ap (λ (q : Pair). post_to (town h) q.recipient inbox body) pair)
