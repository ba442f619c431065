-- The reply to a request, given what the machine decides for its caller and what its keeper does.
use Rattle.std.proofs.Common.{◌≡◌, ℕ, List, Option, Some, None, Result, Ok, Err, inl, inr, refl, sym, subst, ◌∙◌}
use Rattle.fedi_core.specs.Keeping.{IsKept, Refuses}
use Rattle.fedi_core.specs.declared.keeping.KeepFault.{KeepFault}
use Rattle.fedi_core.specs.declared.keeping.KeepFault.TheVariants as faults
use Rattle.fedi_entry.specs.Codes.{code_of}
use Rattle.fedi_log.specs.Keeping.{State}
use Rattle.fedi_log.specs.Log.{Failed, Full, Kept, NoEntry, Outcome}
use Rattle.fedi_objects.specs.declared.entry.Entry.{Entry}
use Rattle.fedi_outside.specs.Keepers.{KeeperState}
use Rattle.fedi_laws.proofs.CleanReplies.{refused_is_clean, reply_is_clean}
use Rattle.fedi_model.specs.declared.ask.Ask.{Ask}
use Rattle.fedi_town.specs.declared.caller.Caller.{Caller}
use Rattle.fedi_town.specs.declared.refusal.Refusal.{Refusal}
use Rattle.fedi_town.specs.declared.refusal.Refusal.TheVariants.{JournalFull, KeeperFault}
use Rattle.fedi_model.specs.declared.reply.Reply.{Reply}
use Rattle.fedi_model.specs.declared.request.Request.{Request}
use Rattle.fedi_town.specs.Agreement.{Agree}
use Rattle.fedi_model.specs.Answers.{AgreeFor, AgreeOn, Answers, AnswersTo, caller_of}
use Rattle.fedi_model.specs.Cleanness.{IsCleanBody}
use Rattle.fedi_town.specs.Histories.{town}
use Rattle.fedi_model.specs.Refusing.{refused}
use Rattle.fedi_model.specs.Asks.{entry_of}
use Rattle.fedi_model.specs.Replies.{IsPrivate, reply}
use Rattle.fedi_model.specs.Routes.{Asks}
use Rattle.fedi_town.specs.Towns.{Town}
use Rattle.fedi_logged.specs.Conversations.{IsPrivateReply, IsReply, Settles}

-- ---- a request without a valid caller

-- the refusal of a caller is the answer, and nothing is kept
refused_answer : (t : Town) (moment : ℕ) (q : Request) (body : List ℕ) (e : Refusal) → caller_of t q body ≡ Err e → Answers t moment q body (refused e) None
refused_answer t moment q body e caller = subst (λ (c : Result Caller Refusal). AnswersTo t moment c q body (refused e) None) (sym caller) (refl, refl)

-- ---- the decision for a caller

-- the reply to a caller for what the request asks
asked_answer : (t : Town) (moment : ℕ) (q : Request) (body : List ℕ) (c : Caller) (ask : Ask) (r : Reply) → caller_of t q body ≡ Ok c → Asks t.host c q body ask → r ≡ reply t c ask
    → Answers t moment q body r (entry_of t c ask moment)
asked_answer t moment q body c ask r caller asks is =
    subst (λ (x : Result Caller Refusal). AnswersTo t moment x q body r (entry_of t c ask moment)) (sym caller) (ask, asks, is, refl)

private_answer : (h g : List Entry) (moment : ℕ) (q : Request) (body : List ℕ) (c : Caller) (ask : Ask) (r : Reply) → caller_of (town h) q body ≡ Ok c → Asks (town h).host c q body ask
    → (Agree (town g) (town h) c → reply (town g) c ask ≡ r) → AgreeOn (town g) (town h) q body → (made : Option Entry) × Answers (town g) moment q body r made
private_answer h g moment q body c ask r caller asks same agree =
    let known : Agree (town g) (town h) c = subst (λ (x : Result Caller Refusal). AgreeFor (town g) (town h) x) caller agree.known in
    let asked = subst (λ (x : Option (List ℕ)). Asks x c q body ask) (sym known.host) asks in
    (entry_of (town g) c ask moment, asked_answer (town g) moment q body c ask r (agree.caller ∙ caller) asked (sym (same known)))

-- what was decided for the caller of a request
pub record IsDecided (state : State) (moment : ℕ) (q : Request) (body : List ℕ) (c : Caller) (ask : Ask) (r : Reply) (made : Option Entry) : Type 0 where
  pub caller : caller_of (town state.history) q body ≡ Ok c
  pub asks : Asks (town state.history).host c q body ask
  pub reply_is : r ≡ reply (town state.history) c ask
  pub made_is : made ≡ entry_of (town state.history) c ask moment
  pub private : IsPrivate state.history c ask r

-- the reply that is then given, given what became of the entry
settled_reply : (room : ℕ → ℕ) (state : State) (moment : ℕ) (q : Request) (body : List ℕ) (c : Caller) (ask : Ask) (r : Reply) (made : Option Entry) (outcome : Outcome) (given : Reply)
    → IsDecided state moment q body c ask r made → Settles room state.keeper.end r made outcome given
    → IsPrivateReply state.history moment q body given → IsCleanBody given.body → IsReply room state.history state.keeper.end moment q body outcome given
settled_reply room state moment q body c ask r made outcome given d settles private clean =
    let answer = subst (λ (m : Option Entry). Answers (town state.history) moment q body r m) (sym d.made_is)
    (asked_answer (town state.history) moment q body c ask r d.caller d.asks d.reply_is) in
    record { answer = (r, made, answer, settles); private = private; clean = clean }

decided_private : (state : State) (moment : ℕ) (q : Request) (body : List ℕ) (c : Caller) (ask : Ask) (r : Reply) (made : Option Entry)
    → IsDecided state moment q body c ask r made → IsPrivateReply state.history moment q body r
decided_private state moment q body c ask r made d =
    inl (λ g legal agree. private_answer state.history g moment q body c ask r d.caller d.asks (d.private g legal) agree)

decided_clean : (state : State) (moment : ℕ) (q : Request) (body : List ℕ) (c : Caller) (ask : Ask) (r : Reply) (made : Option Entry)
    → IsDecided state moment q body c ask r made → IsCleanBody r.body
decided_clean state moment q body c ask r made d = subst (λ (x : Reply). IsCleanBody x.body) (sym d.reply_is) (reply_is_clean (town state.history) c ask)

-- the decision, by its parts
pub decided : (state : State) (moment : ℕ) (q : Request) (body : List ℕ) (c : Caller) (ask : Ask) (r : Reply) (made other : Option Entry) (host : Option (List ℕ))
    → caller_of (town state.history) q body ≡ Ok c → host ≡ (town state.history).host → Asks host c q body ask → r ≡ reply (town state.history) c ask → made ≡ entry_of (town state.history) c ask moment
    → IsPrivate state.history c ask r → made ≡ other → IsDecided state moment q body c ask r other
decided state moment q body c ask r made other host is at asks reply_is made_is private so = record {
  caller = is;
  asks = subst (λ (x : Option (List ℕ)). Asks x c q body ask) at asks;
  reply_is = reply_is;
  made_is = sym so ∙ made_is;
  private = private;
}

-- ---- the reply, given what became of the entry

pub refused_reply : (room : ℕ → ℕ) (state : State) (moment : ℕ) (q : Request) (body : List ℕ) (e : Refusal) → caller_of (town state.history) q body ≡ Err e
    → IsReply room state.history state.keeper.end moment q body NoEntry (refused e)
refused_reply room state moment q body e caller = record {
  answer = (refused e, None, refused_answer (town state.history) moment q body e caller, refl);
  private = inl (λ g legal agree. (None, refused_answer (town g) moment q body e (agree.caller ∙ caller)));
  clean = refused_is_clean e;
}

pub read_reply : (room : ℕ → ℕ) (state : State) (moment : ℕ) (q : Request) (body : List ℕ) (c : Caller) (ask : Ask) (r : Reply) → IsDecided state moment q body c ask r None
    → IsReply room state.history state.keeper.end moment q body NoEntry r
read_reply room state moment q body c ask r d =
    settled_reply room state moment q body c ask r None NoEntry r d refl (decided_private state moment q body c ask r None d) (decided_clean state moment q body c ask r None d)

pub kept_reply : (growth room : ℕ → ℕ) (before after : State) (moment : ℕ) (q : Request) (body : List ℕ) (c : Caller) (ask : Ask) (r : Reply) (e : Entry)
    → IsDecided before moment q body c ask r (Some e) → IsKept growth room before.history e before.keeper after.keeper after.history
    → IsReply room before.history before.keeper.end moment q body (Kept e) r
kept_reply growth room before after moment q body c ask r e d k =
    settled_reply room before moment q body c ask r (Some e) (Kept e) r d (refl, k.fits, refl)
    (decided_private before moment q body c ask r (Some e) d) (decided_clean before moment q body c ask r (Some e) d)

pub full_reply : (room : ℕ → ℕ) (before after : State) (moment : ℕ) (q : Request) (body : List ℕ) (c : Caller) (ask : Ask) (r : Reply) (e : Entry)
    → IsDecided before moment q body c ask r (Some e) → Refuses room (code_of e) faults.Full before.keeper after.keeper
    → IsReply room before.history before.keeper.end moment q body (Full e) (refused JournalFull)
full_reply room before after moment q body c ask r e d k =
    settled_reply room before moment q body c ask r (Some e) (Full e) (refused JournalFull) d (refl, k.0, refl) (inr (inl refl)) (refused_is_clean JournalFull)

pub failed_reply : (room : ℕ → ℕ) (before : State) (moment : ℕ) (q : Request) (body : List ℕ) (c : Caller) (ask : Ask) (r : Reply) (e : Entry) (after : State)
    → IsDecided before moment q body c ask r (Some e) → Refuses room (code_of e) faults.Failed before.keeper after.keeper
    → IsReply room before.history before.keeper.end moment q body (Failed e) (refused KeeperFault)
failed_reply room before moment q body c ask r e after d k =
    settled_reply room before moment q body c ask r (Some e) (Failed e) (refused KeeperFault) d (refl, k.0, refl) (inr (inr refl)) (refused_is_clean KeeperFault)

-- ---- why an entry was not kept

-- the reason is this one
pub refuses_by : (room : ℕ → ℕ) (code : List ℕ) (f fault : KeepFault) (before after : KeeperState) → f ≡ fault → Refuses room code f before after → Refuses room code fault before after
refuses_by room code f fault before after is k = subst (λ (x : KeepFault). Refuses room code x before after) is k
