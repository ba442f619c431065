-- What a server answers, by what its machine decides and what its keeper does.
use Rattle.std.proofs.Common.{◌≡◌, ◌∙◌, arith, ℕ, ◌+◌, true, false, List, [], ◌∷◌, ◌++◌, Option, Some}
use Rattle.std.proofs.Common.{None}
use Rattle.std.proofs.Common.{Result, Ok, Err, IfSome, inl, inr, refl, sym, ap, subst, append-nil}
use Rattle.std.proofs.Common.{◌<◌, ◌^◌, length, is_some}
use Rattle.std.specs.Prelude.{◌≢◌, ◌⊎◌, IfErr, IfOk, OnErr, not, option_to_list}
use Rattle.std.specs.Io.KnownBytes.{prepend_known}
use Rattle.fedi_core.specs.Delivering.{keep_fault}
use Rattle.fedi_core.specs.Keeping.{HasFailedOnce, IsKept, Refuses, fault_by}
use Rattle.fedi_core.specs.declared.delivering.RecordFault.{RecordFault}
use Rattle.fedi_core.specs.declared.delivering.RecordFault.TheVariants.{KeeperFault, Full, Memory}
use Rattle.fedi_core.specs.declared.keeping.KeepFault.{KeepFault}
use Rattle.fedi_core.specs.declared.keeping.KeepFault.TheVariants as faults
use Rattle.fedi_entry.specs.Codes.{code_of}
use Rattle.fedi_http.specs.Arrivals.{IsArrival, OnRequest, TellsOfStream}
use Rattle.fedi_http.specs.declared.arrivals.Arrived.{Arrived}
use Rattle.fedi_http.specs.declared.arrivals.Arrived.TheVariants as arrivals
use Rattle.fedi_http.specs.declared.heads.TheConstants.{HEAD_LIMIT}
use Rattle.fedi_http.specs.declared.requests.TheConstants.{MOST_FIELDS}
use Rattle.fedi_http.specs.Moves.{Held}
use Rattle.fedi_log.specs.Keeping.{growth_of}
use Rattle.fedi_log.specs.Log.{given, made_by}
use Rattle.fedi_log.specs.declared.items.What.TheVariants.{Entered}
use Rattle.fedi_logged.specs.Logs.{MachineLog}
use Rattle.fedi_logged.proofs.Untried.{untried}
use Rattle.fedi_model.specs.declared.ask.Ask.{Ask}
use Rattle.fedi_model.specs.declared.reply.Reply.{Reply}
use Rattle.fedi_model.specs.declared.request.Request.{Request}
use Rattle.fedi_model.specs.Answers.{Answers, AnswersTo, caller_of}
use Rattle.fedi_model.specs.Asks.{entry_of}
use Rattle.fedi_model.specs.Callers.{caller_by}
use Rattle.fedi_model.specs.Credentials.{Shows, credentials_of}
use Rattle.fedi_model.specs.Refusing.{refused}
use Rattle.fedi_model.specs.Replies.{reply}
use Rattle.fedi_model.specs.ReplyText.{reply_text}
use Rattle.fedi_model.specs.Routes.{Asks}
use Rattle.fedi_objects.specs.declared.entry.Entry.{Entry}
use Rattle.fedi_outside.specs.Causes.{next_count}
use Rattle.fedi_outside.specs.Keepers.{KeeperState, OnlyRoomChanged}
use Rattle.fedi_outside.specs.declared.keepers.Keeper.{Ghosts}
use Rattle.fedi_town.specs.declared.caller.Caller.{Caller}
use Rattle.fedi_town.specs.declared.refusal.Refusal.{Refusal}
use Rattle.fedi_town.specs.declared.refusal.Refusal.TheVariants.{JournalFull}
use Rattle.fedi_town.specs.Histories.{town}
use Rattle.fedi_town.specs.Towns.{Town}
use Rattle.fedi_seat.specs.Seats.{IsUntried}
use Rattle.fedi_seat.specs.Serving.{Became, IsCutShort, IsGiven, Keeps, Replies, Serves, Stays}
use Rattle.fedi_seat.specs.declared.seat.Served.{Served}

-- ---- the keeper

pub none_is_one : ◌≡◌ {A = ℕ} 0 1 → ⊥
none_is_one one = absurd cc

-- a keeper that never fails has not failed
pub never_fails : (code : List ℕ) (before after : KeeperState) → before.faults ≡ 0
    → after.faults ≡ 0 → HasFailedOnce code before after → ⊥
never_fails code before after none still failed =
    none_is_one (sym still ∙ failed.faults ∙ ap next_count none)

-- so it does not fail to keep the outcome of an attempt
pub record_is_calm : (room : ℕ → ℕ) (code : List ℕ) (before after : KeeperState)
    (r : Result (Unit {0}) RecordFault) → before.faults ≡ 0 → after.faults ≡ 0
    → IfErr (fault_by keep_fault r) (λ fault. Refuses room code fault before after)
    → r ≢ Err KeeperFault
record_is_calm room code before after (Ok done) none still refused is = absurd (cc is)
record_is_calm room code before after (Err KeeperFault) none still refused is =
    never_fails code before after none still refused.1
record_is_calm room code before after (Err Full) none still refused is = absurd (cc is)
record_is_calm room code before after (Err Memory) none still refused is = absurd (cc is)

zero_more : (n : ℕ) → n ≡ 0 + n
zero_more n = omega arith

-- an entry was kept
pub one_kept : {P : Type 0} (k : Ghosts P) (e : Entry) (before after : MachineLog P)
    → IsKept k.growth k.room before.core.history e (k.shown before.core.keeper)
    (k.shown after.core.keeper) after.core.history
    → after.log ≡ before.log ++ made_by None (Entered e) ∷ []
    → Keeps k (Some e) (e ∷ []) before after
one_kept k e before after kept log = record {
  fits = (kept.fits, refl);
  history = kept.history;
  log = log;
  end = kept.keeper.end
      ∙ ap (λ (n : ℕ). (k.shown before.core.keeper).end + n)
      (zero_more (k.growth (length (code_of e))));
}

-- there was no room for it
pub none_kept : {P : Type 0} (k : Ghosts P) (e : Entry) (before after : MachineLog P)
    → Refuses k.room (code_of e) faults.Full (k.shown before.core.keeper) (k.shown after.core.keeper)
    → after.core.history ≡ before.core.history → after.log ≡ before.log
    → Keeps k (Some e) [] before after
none_kept k e before after refused same log = record {
  fits = refused.0;
  history = same ∙ sym (append-nil before.core.history);
  log = log ∙ sym (append-nil before.log);
  end = let end = refused.1.end in omega (arith, end);
}

-- there was no entry
nothing_made : {P : Type 0} (k : Ghosts P) (m : MachineLog P) → Keeps k None [] m m
nothing_made k m = record {
  fits = refl;
  history = sym (append-nil m.core.history);
  log = sym (append-nil m.log);
  end = omega arith;
}

-- the reason for which an entry was not kept is this one
pub kept_by : (room : ℕ → ℕ) (code : List ℕ) (f fault : KeepFault) (before after : KeeperState)
    → f ≡ fault → Refuses room code f before after → Refuses room code fault before after
kept_by room code f fault before after is refused =
    subst (λ (x : KeepFault). Refuses room code x before after) is refused

-- there was no memory for it
pub stays_by : {P : Type 0} (k : Ghosts P) (before after : MachineLog P)
    → OnlyRoomChanged (k.shown before.core.keeper) (k.shown after.core.keeper)
    → after.core.history ≡ before.core.history → after.log ≡ before.log → Stays k before after
stays_by k before after room same log = record { history = same; log = log; end = room.end }

-- ---- what became of the entry that was made

pub became_kept : {P : Type 0} (k : Ghosts P) (made : Option Entry) (e : Entry)
    (before after : MachineLog P) → made ≡ Some e → Keeps k (Some e) (e ∷ []) before after
    → Became k true made before after
became_kept k made e before after is keeps =
    subst (λ (o : Option Entry). Became k true o before after) (sym is) (e ∷ [], refl, keeps)

pub became_full : {P : Type 0} (k : Ghosts P) (made : Option Entry) (e : Entry)
    (before after : MachineLog P) → made ≡ Some e → Keeps k (Some e) [] before after
    → Became k false made before after
became_full k made e before after is keeps =
    subst (λ (o : Option Entry). Became k false o before after) (sym is) ([], (refl, refl), keeps)

pub became_nothing : {P : Type 0} (k : Ghosts P) (made : Option Entry) (m : MachineLog P)
    → made ≡ None → Became k true made m m
became_nothing k made m is =
    subst (λ (o : Option Entry). Became k true o m m) (sym is) ([], refl, nothing_made k m)

pub unchanged : {P : Type 0} (k : Ghosts P) (m : MachineLog P) → Stays k m m
unchanged k m = record { history = refl; log = refl; end = refl }

-- ---- the entry of an ask

-- it is no attempt
pub untried_made : (t : Town) (c : Caller) (ask : Ask) (moment : ℕ) (made : Option Entry)
    → made ≡ entry_of t c ask moment → IfSome made IsUntried
untried_made t c ask moment None is = tt
untried_made t c ask moment (Some e) is = untried t c ask moment e (sym is)

-- an entry that there was no room for has changed nothing
pub stays_full : {P : Type 0} (k : Ghosts P) (made : Option Entry) (before after : MachineLog P)
    → Became k false made before after → Stays k before after
stays_full k made before after became =
    let none = became.1.1 in
    let end : (k.shown after.core.keeper).end ≡ (k.shown before.core.keeper).end + 0 =
    became.2.end
    ∙ ap (λ (es : List Entry). (k.shown before.core.keeper).end + growth_of k.growth es) none in
    record {
      history = became.2.history ∙ ap (λ (es : List Entry). before.core.history ++ es) none
          ∙ append-nil before.core.history;
      log = became.2.log ∙ ap (λ (es : List Entry). before.log ++ given es) none
          ∙ append-nil before.log;
      end = omega (arith, end);
    }

pub lacks_full : {P T E : Type 0} (k : Ghosts P) (made : Option Entry)
    (before after : MachineLog P) (r : Result T E) → Became k false made before after
    → OnErr r (Stays k before after)
lacks_full k made before after (Ok done) became = tt
lacks_full k made before after (Err e) became = stays_full k made before after became

-- ---- the reply

-- the entry was kept, or there was none
pub given_kept : {P : Type 0} (k : Ghosts P) (r given : Reply) (made entry : Option Entry)
    (before after : MachineLog P) → given ≡ r → entry ≡ made → Became k true entry before after
    → IsGiven k r made given before after
given_kept k r given made entry before after is same became = record {
  more = became.0;
  settles = inl (is, became.1 ∙ ap option_to_list same);
  keeps = subst (λ (o : Option Entry). Keeps k o became.0 before after) same became.2;
}

-- there was no room for it
pub given_full : {P : Type 0} (k : Ghosts P) (r given : Reply) (made entry : Option Entry)
    (before after : MachineLog P) → given ≡ refused JournalFull → entry ≡ made
    → Became k false entry before after → IsGiven k r made given before after
given_full k r given made entry before after is same became = record {
  more = became.0;
  settles = inr (
    subst (λ (o : Option Entry). is_some o ≡ true) same became.1.0,
    is,
    became.1.1,
  );
  keeps = subst (λ (o : Option Entry). Keeps k o became.0 before after) same became.2;
}

-- nothing was made
pub given_nothing : {P : Type 0} (k : Ghosts P) (r given : Reply) (m : MachineLog P) → given ≡ r
    → IsGiven k r None given m m
given_nothing k r given m is =
    given_kept k r given None None m m is refl (became_nothing k None m refl)

-- the caller is refused
pub refused_caller : (t : Town) (moment : ℕ) (q : Request) (body : List ℕ) (e : Refusal)
    → caller_of t q body ≡ Err e → Answers t moment q body (refused e) None
refused_caller t moment q body e caller =
    subst (λ (c : Result Caller Refusal). AnswersTo t moment c q body (refused e) None)
    (sym caller) (refl, refl)

-- the caller's ask is answered
pub asked : (t : Town) (moment : ℕ) (q : Request) (body : List ℕ) (c : Caller) (ask : Ask)
    (host : Option (List ℕ)) (r : Reply) (made : Option Entry) → caller_of t q body ≡ Ok c
    → host ≡ t.host → Asks host c q body ask → r ≡ reply t c ask
    → made ≡ entry_of t c ask moment → Answers t moment q body r made
asked t moment q body c ask host r made caller at asks is entry =
    subst (λ (x : Result Caller Refusal). AnswersTo t moment x q body r made) (sym caller)
    (ask, subst (λ (x : Option (List ℕ)). Asks x c q body ask) at asks, is, entry)

-- the reply to a request, as it is sent
pub replied : {P : Type 0} (k : Ghosts P) (moment : ℕ) (q : Request) (body : List ℕ)
    (served : Served) (given r : Reply) (made : Option Entry) (before after : MachineLog P)
    → Answers (town before.core.history) moment q body r made
    → IsGiven k r made given before after → length given.body < 2 ^ 64
    → served.status ≡ given.status
    → served.text.items ≡ reply_text moment q.head_only (not q.keep_alive) given
    → Replies k moment (Ok q) body served before after
replied k moment q body served given r made before after answers is short status text = record {
  given = given;
  gives = (r, made, answers, is);
  short = short;
  status = status;
  text_is = text;
}

-- the same, in every case with memory for it
pub replied_if : {P E : Type 0} (k : Ghosts P) (moment : ℕ) (q : Request) (body : List ℕ)
    (given r : Reply) (made : Option Entry) (sent : Result Served E) (before after : MachineLog P)
    → Answers (town before.core.history) moment q body r made
    → IsGiven k r made given before after → length given.body < 2 ^ 64
    → IfOk sent (λ served. served.status ≡ given.status)
    → IfOk sent (λ served.
    served.text.items ≡ reply_text moment q.head_only (not q.keep_alive) given)
    → IfOk sent (λ served. Replies k moment (Ok q) body served before after)
replied_if k moment q body given r made (Ok served) before after answers is short status text =
    replied k moment q body served given r made before after answers is short status text
replied_if k moment q body given r made (Err e) before after answers is short status text = tt

-- who asks, by the credentials that are shown
pub caller_is : (t : Town) (shown : Shows) (q : Request) (body : List ℕ)
    (found other : Result Caller Refusal) → found ≡ caller_by t shown
    → shown ≡ credentials_of q body → found ≡ other → caller_of t q body ≡ other
caller_is t shown q body found other is same so =
    sym (is ∙ ap (caller_by t) same) ∙ so

-- the refusal of what is no request
pub refusal_sent : {P : Type 0} (k : Ghosts P) (moment : ℕ) (text : List ℕ) (e : Refusal)
    (served : Served) (given : Reply) (m : MachineLog P)
    → IsArrival HEAD_LIMIT MOST_FIELDS text (arrivals.Refused e) [] [] → given ≡ refused e
    → length given.body < 2 ^ 64 → served.status ≡ given.status
    → served.text.items ≡ reply_text moment false true given → Serves k text moment served m m
refusal_sent k moment text e served given m here is short status sent = (
  Err e,
  [],
  here,
  record {
    given = given;
    gives = (is, unchanged k m);
    short = short;
    status = status;
    text_is = sent;
  },
)

-- ---- what arrives

-- what is read of bytes in memory
pub arrived : (held : Held) (left after : Option (List ℕ)) (text pending body : List ℕ)
    (a : Arrived) → held ≡ record { body = []; pending = [] } → left ≡ Some text
    → IfSome (prepend_known held.pending left) (λ stream. TellsOfStream a → (rest : List ℕ)
    × IsArrival HEAD_LIMIT MOST_FIELDS stream a body rest
    × OnRequest a (prepend_known pending after ≡ Some rest))
    → TellsOfStream a → (rest : List ℕ) × IsArrival HEAD_LIMIT MOST_FIELDS text a body rest
arrived held left after text pending body a none known told tells =
    let Front : List ℕ → Type 0 = λ (stream : List ℕ). TellsOfStream a → (rest : List ℕ)
    × IsArrival HEAD_LIMIT MOST_FIELDS stream a body rest
    × OnRequest a (prepend_known pending after ≡ Some rest) in
    let front : Front text = subst (λ (o : Option (List ℕ)). IfSome o Front)
    (ap (λ (h : Held). prepend_known h.pending left) none ∙ ap (prepend_known []) known) told in
    ((front tells).0, (front tells).1)

-- they end before a request or in the middle of one
pub cut_short : (text body : List ℕ) (a : Arrived) → (a ≡ arrivals.End) ⊎ (a ≡ arrivals.CutShort)
    → (TellsOfStream a → (rest : List ℕ) × IsArrival HEAD_LIMIT MOST_FIELDS text a body rest)
    → IsCutShort text
cut_short text body a (inl is) here =
    inl (subst (λ (x : Arrived). TellsOfStream x
    → (rest : List ℕ) × IsArrival HEAD_LIMIT MOST_FIELDS text x body rest) is here tt).1
cut_short text body a (inr is) here =
    inr (subst (λ (x : Arrived). TellsOfStream x
    → (rest : List ℕ) × IsArrival HEAD_LIMIT MOST_FIELDS text x body rest) is here tt).1.1

-- ---- an opening after a crash

-- what holds of records that are reported
pub of_reported : {T : Type 0} (records : Option (List (List ℕ))) → is_some records ≡ true
    → IfSome records (λ _. T) → T
of_reported None there is = absurd (cc there)
of_reported (Some records) there is = is
