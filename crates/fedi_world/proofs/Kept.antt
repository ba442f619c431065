-- A server keeps what a request makes.
use Rattle.std.proofs.Common.{◌≡◌, ℕ, ◌+◌, false, List, [], ◌∷◌, ◌++◌, Option, Some, None, arith, refl, sym, ap, ◌∙◌, subst, ⊎_elim, append-nil, append_assoc}
use Rattle.std.specs.Prelude.{◌⊎◌, map, slice_get, slice_set, option_to_list, is_some, IsTrue}
use Rattle.fedi_entry.specs.Codes.{code_of}
use Rattle.fedi_log.specs.Claims.{tries}
use Rattle.fedi_log.specs.Keeping.{growth_of}
use Rattle.fedi_log.specs.Log.{Log, given, history_of, made_by}
use Rattle.fedi_log.specs.declared.items.Pair.{Pair}
use Rattle.fedi_log.specs.declared.items.What.TheVariants.{Entered}
use Rattle.fedi_log.proofs.Growing.{given_history, history_append}
use Rattle.fedi_logged.specs.Logs.{MachineLog}
use Rattle.fedi_logged.proofs.Hosts.{host_stays}
use Rattle.fedi_logged.proofs.Untried.{untried}
use Rattle.fedi_model.specs.declared.ask.Ask.{Ask}
use Rattle.fedi_model.specs.declared.reply.Reply as replies
use Rattle.fedi_model.specs.declared.request.Request as requests
use Rattle.fedi_model.specs.Answers.{AnswersTo}
use Rattle.fedi_model.specs.Asks.{entry_of}
use Rattle.fedi_objects.specs.declared.entry.Entry.{Entry}
use Rattle.fedi_outside.specs.declared.keepers.Keeper.{Ghosts}
use Rattle.fedi_queue.specs.declared.rows.Claim.{Claim}
use Rattle.fedi_seat.specs.Serving.{Keeps, Stays}
use Rattle.fedi_town.specs.declared.caller.Caller.{Caller}
use Rattle.fedi_town.specs.declared.refusal.Refusal.{Refusal}
use Rattle.fedi_town.specs.Histories.{town}
use Rattle.fedi_town.specs.Legal.{IsLegal}
use Rattle.fedi_town.specs.Towns.{Town}
use Rattle.std.proofs.Common.{Result, Ok, Err}
use Rattle.fedi_worlds.specs.Events as events
use Rattle.fedi_worlds.specs.Steps.{IsFit, Settles, Steps}
use Rattle.fedi_worlds.specs.Worlds.{Attempt, Server, World, keeping}
use Rattle.fedi_world.specs.declared.parts.Answer.{Answer}
use Rattle.fedi_world.specs.declared.parts.Packet.{Packet}
use Rattle.fedi_world.specs.declared.parts.Pending.{Pending}
use Rattle.fedi_world.specs.Happenings.{Fits, limits}
use Rattle.fedi_world.specs.Scenes.{Scene, attempt_of, claim_in, ends_of, scene_of, world_of}
use Rattle.fedi_world.specs.Standing.{IsSeated, IsTied, IsWhole}
use Rattle.fedi_world.proofs.Spots.{map_at, map_set}
use Rattle.fedi_world.proofs.Ties.{tied_kept}
use Rattle.fedi_world.proofs.Taking.{whole_same}
use Rattle.fedi_world.proofs.Whole.{ends_stay, reached_on, ready_set, seated_set, seen_at, servers_kept, servers_same, tied_set}

-- ---- what is kept is no attempt

abbrev pub IsUntriedIf : Option Entry → Type 0
IsUntriedIf None = Unit {0}
IsUntriedIf (Some e) = (p : Pair) → tries p e ≡ false

abbrev pub AreUntried : List Entry → Type 0
AreUntried [] = Unit {0}
AreUntried (e ∷ es) = ((p : Pair) → tries p e ≡ false) × AreUntried es

pub untried_made : (t : Town) (c : Caller) (ask : Ask) (moment : ℕ) (made : Option Entry) → entry_of t c ask moment ≡ made → IsUntriedIf made
untried_made t c ask moment None is = tt
untried_made t c ask moment (Some e) is = untried t c ask moment e is

pub untried_answer : (t : Town) (moment : ℕ) (caller : Result Caller Refusal) (q : requests.Request) (body : List ℕ) (r : replies.Reply) (made : Option Entry)
    → AnswersTo t moment caller q body r made → IsUntriedIf made
untried_answer t moment (Ok c) q body r made answers = untried_made t c answers.0 moment made (sym answers.3)
untried_answer t moment (Err e) q body r made answers = subst IsUntriedIf (sym answers.1) tt

pub untried_settled : (r : replies.Reply) (made : Option Entry) (given : replies.Reply) (more : List Entry) → Settles r made given more → IsUntriedIf made → AreUntried more
untried_settled r made given more settles none =
    ⊎_elim (λ (kept : (given ≡ r) × (more ≡ option_to_list made)). subst AreUntried (sym kept.1) (by made none)) (λ full. subst AreUntried (sym full.2) tt) settles
  where
    by : (made : Option Entry) → IsUntriedIf made → AreUntried (option_to_list made)
    by None none = tt
    by (Some e) none = (none, tt)

-- ---- what the entries change

-- what becomes of a server that keeps these entries of a request
pub record IsGrown {P : Type 0} (seats : List (MachineLog P)) (n : ℕ) (m now : MachineLog P) (more : List Entry) : Type 0 where
  pub at : slice_get seats n ≡ Some m
  pub history : now.core.history ≡ m.core.history ++ more
  pub log : now.log ≡ m.log ++ given more
  pub fit : IsFit now.core.history
  pub untried : AreUntried more

pub is_grown : {P : Type 0} (k : Ghosts P) (seats : List (MachineLog P)) (n : ℕ) (m now : MachineLog P) (made : Option Entry) (more : List Entry) → slice_get seats n ≡ Some m
    → Keeps k made more m now → IsFit now.core.history → AreUntried more → IsGrown seats n m now more
is_grown {P} k seats n m now made more at keeps fit none = record {
  at = at;
  history = keeps.history;
  log = keeps.log;
  fit = fit;
  untried = none;
}

tied_given : (attempts : List Attempt) (claims : List Claim) (n : ℕ) (log : Log) (more : List Entry) → AreUntried more → IsTied attempts claims n log
    → IsTied attempts claims n (log ++ given more)
tied_given attempts claims n log [] none t = subst (λ (l : Log). IsTied attempts claims n l) (sym (append-nil log)) t
tied_given attempts claims n log (e ∷ es) none t =
    subst (λ (l : Log). IsTied attempts claims n l) (append_assoc log (made_by None (Entered e) ∷ []) (given es))
    (tied_given attempts claims n (log ++ made_by None (Entered e) ∷ []) es none.1 (tied_kept attempts claims n log e none.0 t))

-- the host stays
pub grown_host : {P : Type 0} (seats : List (MachineLog P)) (n : ℕ) (m now : MachineLog P) (more : List Entry) → IsSeated m → IsGrown seats n m now more
    → (town now.core.history).host ≡ (town m.core.history).host
grown_host {P} seats n m now more s g = ap (λ (h : List Entry). (town h).host) g.history ∙ host_stays m.core.history more (subst IsLegal g.history g.fit.legal) s.hosted

grown_seated : {P : Type 0} (seats : List (MachineLog P)) (n : ℕ) (m now : MachineLog P) (more : List Entry) → IsSeated m → IsGrown seats n m now more → IsSeated now
grown_seated {P} seats n m now more s g = record {
  logged = g.history ∙ (ap (λ (h : List Entry). h ++ more) s.logged ∙ sym (ap history_of g.log ∙ history_append m.log (given more) ∙ ap (λ (es : List Entry). history_of m.log ++ es) (given_history more)));
  hosted = subst (λ (h : Option (List ℕ)). IsTrue (is_some h)) (sym (grown_host {P = P} seats n m now more s g)) s.hosted;
  fit = g.fit;
}

pub grown_servers : {P : Type 0} (seats : List (MachineLog P)) (n : ℕ) (m now : MachineLog P) (more : List Entry) → IsSeated m → IsGrown seats n m now more
    → map (seen_at {P = P}) (slice_set seats n now) ≡ keeping n more (map (seen_at {P = P}) seats)
grown_servers {P} seats n m now more s g = servers_kept {P = P} seats n m now more g.at g.history (grown_host {P = P} seats n m now more s g)

pub seated_grown : {P : Type 0} (moment : ℕ) (seats : List (MachineLog P)) (requests : List Packet) (replies : List Answer) (attempts : List Pending) (n : ℕ) (m now : MachineLog P) (more : List Entry)
    → IsWhole moment seats requests replies attempts → IsGrown seats n m now more → (j : ℕ) (x : MachineLog P) → slice_get (slice_set seats n now) j ≡ Some x → IsSeated x
seated_grown {P} moment seats requests replies attempts n m now more i g =
    seated_set {P = P} seats n now (grown_seated {P = P} seats n m now more (i.seated n m g.at) g) i.seated

pub whole_grown : {P : Type 0} (moment : ℕ) (seats : List (MachineLog P)) (requests : List Packet) (replies replies' : List Answer) (attempts : List Pending) (n : ℕ) (m now : MachineLog P)
    (more : List Entry) (e : events.Event) → IsWhole moment seats requests replies attempts → IsGrown seats n m now more
    → Steps (world_of moment seats requests replies attempts) e (world_of moment (slice_set seats n now) requests replies' attempts)
    → IsWhole moment (slice_set seats n now) requests replies' attempts
whole_grown {P} moment seats requests replies replies' attempts n m now more e i g steps =
    let xs = map attempt_of attempts in
    let cs = map claim_in attempts in
    let own : IsTied xs cs n now.log = subst (λ (l : Log). IsTied xs cs n l) (sym g.log) (tied_given xs cs n m.log more g.untried (i.tied n m g.at)) in
    record {
      reached = reached_on _ _ e i.reached steps;
      tied = tied_set {P = P} seats n now xs xs cs cs own (λ j log apart tied. tied) i.tied;
      seated = seated_grown {P = P} moment seats requests replies attempts n m now more i g;
      ready = λ k b there open_yet. ready_set moment moment seats n m now (given more) b (omega arith) g.at g.log (i.ready k b there open_yet);
    }

-- ---- where the records end

pub fits_grown : {P : Type 0} (k : Ghosts P) (seats : List (MachineLog P)) (n : ℕ) (m now : MachineLog P) (made : Option Entry) (more : List Entry) → slice_get seats n ≡ Some m
    → Keeps k made more m now → Fits (limits k.growth k.room) n made more (ends_of k.shown seats) (ends_of k.shown (slice_set seats n now))
fits_grown {P} k seats n m now made more at keeps = record {
  end = (k.shown m.core.keeper).end;
  there = map_at (λ (x : MachineLog P). (k.shown x.core.keeper).end) seats n m at;
  fits = keeps.fits;
  moved = map_set (λ (x : MachineLog P). (k.shown x.core.keeper).end) seats n now ∙ ap (λ (e : ℕ). slice_set (ends_of k.shown seats) n e) keeps.end;
}

-- ---- nothing has changed

pub stays_scene : {P : Type 0} (k : Ghosts P) (moment : ℕ) (seats : List (MachineLog P)) (requests : List Packet) (replies : List Answer) (attempts : List Pending) (n : ℕ) (m now : MachineLog P)
    → slice_get seats n ≡ Some m → Stays k m now → scene_of k.shown moment (slice_set seats n now) requests replies attempts ≡ scene_of k.shown moment seats requests replies attempts
stays_scene {P} k moment seats requests replies attempts n m now at s =
    rw (servers_same {P = P} seats n m now at s.history, ends_stay {P = P} k.shown seats n m now at s.end) refl

pub whole_stays : {P : Type 0} (k : Ghosts P) (moment : ℕ) (seats : List (MachineLog P)) (requests : List Packet) (replies : List Answer) (attempts : List Pending) (n : ℕ) (m now : MachineLog P)
    → IsWhole moment seats requests replies attempts → slice_get seats n ≡ Some m → Stays k m now → IsWhole moment (slice_set seats n now) requests replies attempts
whole_stays {P} k moment seats requests replies attempts n m now i at s =
    whole_same {P = P} moment seats requests requests replies attempts attempts n m now [] at s.history (s.log ∙ sym (append-nil m.log)) refl
    (subst (λ (l : Log). IsTied (map attempt_of attempts) (map claim_in attempts) n l) (sym s.log) (i.tied n m at)) refl refl i
