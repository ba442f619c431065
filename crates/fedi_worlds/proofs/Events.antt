-- Each event keeps what is true of a world.
use Rattle.std.proofs.Common.{◌≡◌, ℕ, ◌≤◌, zero, suc, Bool, true, false, List, [], ◌∷◌, ◌++◌}
use Rattle.std.proofs.Common.{length, Option, Some, None, refl, sym, ap, ◌∙◌, subst, inl, inr}
use Rattle.std.proofs.Common.{⊎_elim, append-nil}
use Rattle.std.specs.Prelude.{◌⊎◌, slice_get, map, option_to_list, nat_eq, ◌==◌, ◌||◌}
use Rattle.std.specs.Prelude.{if◌then◌else◌}
use Rattle.fedi_address.specs.Iris.{host_of}
use Rattle.fedi_delivery.specs.Replies.{IsCameOfPost, IsFoundIn}
use Rattle.fedi_delivery.specs.declared.replies.Found.TheVariants.{Inbox, Ended}
use Rattle.fedi_model.specs.declared.ask.Ask.{Ask}
use Rattle.fedi_model.specs.declared.reply.Reply as replies
use Rattle.fedi_model.specs.Asks.{entry_of}
use Rattle.fedi_objects.specs.declared.activity.Activity.{Activity}
use Rattle.fedi_objects.specs.declared.entry.Came.{Came}
use Rattle.fedi_objects.specs.declared.entry.Entry.{Entry}
use Rattle.fedi_objects.specs.declared.entry.Entry.TheVariants.{Remote, Tried}
use Rattle.fedi_objects.specs.declared.entry.Sent.{Sent}
use Rattle.fedi_objects.specs.declared.entry.Sent.TheVariants as sent
use Rattle.fedi_objects.specs.declared.entry.What.{What}
use Rattle.fedi_objects.specs.declared.entry.What.TheVariants.{Failed, NoHead, BadActor, Status}
use Rattle.fedi_town.specs.declared.caller.Caller.{Caller}
use Rattle.fedi_town.specs.declared.outcome.Outcome.TheVariants.{Delivered, Again, GivenUp}
use Rattle.fedi_town.specs.Histories.{town}
use Rattle.fedi_town.specs.Queues.{outcome}
use Rattle.fedi_worlds.specs.Promises.{Somewhere}
use Rattle.fedi_worlds.specs.Steps.{Asks, Claims, Reaches, Loses, Crashes, Records, Posts, Hears}
use Rattle.fedi_worlds.specs.Steps.{step_of}
use Rattle.fedi_worlds.specs.Worlds.{Server, Request, Reply, Attempt, Task, World, Stage, Looking}
use Rattle.fedi_worlds.specs.Worlds.{Posting, Over, keeping, replaced, ended, crashed_at}
use Rattle.fedi_worlds.specs.Worlds.{stage_after}
use Rattle.fedi_worlds.proofs.Invariant.{IsTask, IsInboxOf, IsPosted, IsSent, IsPosting, IsWorld}
use Rattle.fedi_worlds.proofs.Invariant.{Shows}
use Rattle.fedi_worlds.proofs.Local.{Locals, IsLocalEntry}
use Rattle.fedi_worlds.proofs.Places.{IsGrown, unchanged, kept_on, kept_from, stays, at_end}
use Rattle.fedi_worlds.proofs.Places.{old_or_new, replaced_on, replaced_from, mapped_at}
use Rattle.fedi_worlds.proofs.Places.{mapped_from, some_is}
use Rattle.fedi_worlds.proofs.Carried.{Evolves, AreLegal, AreFine, none_fine, IsNew, carried}
use Rattle.fedi_worlds.proofs.Carried.{somewhere_on, shows_on, task_on}

-- ---- what stays where servers keep entries

keeping_servers : (w : World) (n : ℕ) (more : List Entry) (k : ℕ) (s : Server)
    → slice_get w.servers k ≡ Some s
    → (t : Server) × (slice_get (keeping n more w.servers) k ≡ Some t) × IsGrown s t
keeping_servers w n more k s e = kept_on n more w.servers k s e

-- each server is as it was, or has kept the entries, which are fine
pub new_servers : (w : World) (n : ℕ) (more : List Entry) (s : Server)
    → slice_get w.servers n ≡ Some s
    → AreFine (keeping n more w.servers) (record s { history = s.history ++ more }) more
    → (k : ℕ) (t : Server) → slice_get (keeping n more w.servers) k ≡ Some t
    → (r : Server) × (slice_get w.servers k ≡ Some r)
    × ((g : IsGrown r t) × AreFine (keeping n more w.servers) t g.more)
new_servers w n more s there fine k t at =
    let f = kept_from n more w.servers k t at in
    ⊎_elim
    (λ (same : t ≡ f.0). (
      f.0,
      f.1,
      subst (λ (u : Server). (g : IsGrown f.0 u) × AreFine (keeping n more w.servers) u g.more)
          (sym same) (unchanged f.0, none_fine (keeping n more w.servers) f.0),
    ))
    (λ (b : (k ≡ n) × (t ≡ record f.0 { history = f.0.history ++ more })).
    let one : f.0 ≡ s = some_is f.0 s (sym f.1 ∙ (ap (slice_get w.servers) b.0 ∙ there)) in
    let is : t ≡ record s { history = s.history ++ more } =
    b.1 ∙ ap (λ (r : Server). record r { history = r.history ++ more }) one in (
      s,
      ap (slice_get w.servers) b.0 ∙ there,
      subst (λ (u : Server). (g : IsGrown s u) × AreFine (keeping n more w.servers) u g.more)
          (sym is) (record { host = refl; more = more; is = refl }, fine),
    ))
    f.2

same_servers : (w : World) (servers : List Server) → servers ≡ w.servers → (k : ℕ) (t : Server)
    → slice_get servers k ≡ Some t
    → (r : Server) × (slice_get w.servers k ≡ Some r)
    × ((g : IsGrown r t) × AreFine servers t g.more)
same_servers w servers same k t at = (
  t,
  ap (λ (ss : List Server). slice_get ss k) (sym same) ∙ at,
  (unchanged t, none_fine servers t),
)

pub same_tasks : (w : World) (servers : List Server) (k : ℕ) (b : Attempt)
    → slice_get w.attempts k ≡ Some b
    → ((a : Attempt) × (slice_get w.attempts k ≡ Some a) × (b.task ≡ a.task))
    ⊎ IsTask servers b.task
same_tasks w servers k b at = inl (b, at, refl)

-- ---- somebody asks

local_only : (e d : Entry) (made : Option Entry) (j : ℕ)
    → slice_get (option_to_list made) j ≡ Some e → ((x : Entry) → made ≡ Some x → IsLocalEntry x)
    → IsLocalEntry e
local_only e d None j at h = absurd cc
local_only e d (Some x) zero at h = subst IsLocalEntry (some_is x e at) (h x refl)
local_only e d (Some x) (suc j) at h = absurd cc

pub asked : (l : Locals) (w v : World) (n : ℕ) (c : Caller) (ask : Ask) (given : replies.Reply)
    → IsWorld w → Asks w n c ask given v → AreLegal v → IsWorld v
asked l w v n c ask given i x legal =
    let made : Option Entry = entry_of (town x.server.history) c ask w.moment in
    let u : World = record w { servers = keeping n x.more w.servers } in
    let locals : (e : Entry) (j : ℕ) → slice_get x.more j ≡ Some e → IsLocalEntry e = λ e j at.
    ⊎_elim
    (λ (kept : (given ≡ _) × (x.more ≡ option_to_list made)).
    local_only e e made j (subst (λ (es : List Entry). slice_get es j ≡ Some e) kept.1 at)
    (λ y is. l.asks (town x.server.history) c ask w.moment y x.no_peer is))
    (λ full. let none : slice_get [] j ≡ Some e =
    subst (λ (es : List Entry). slice_get es j ≡ Some e) full.2 at in absurd cc)
    x.settles in
    let fine : AreFine u.servers (record x.server { history = x.server.history ++ x.more }) x.more =
    record {
      remote = λ j peer inbox a moment at. absurd (locals (Remote peer inbox a moment) j at);
      tried = λ j id r came moment at done. absurd (locals (Tried id r came moment) j at);
    } in
    let e : Evolves w u =
    record {
      servers = kept_on n x.more w.servers;
      requests = λ k q at. at;
      attempts = λ k a at. (a, at, refl);
    } in
    let new : IsNew w u =
    record {
      now = i.now;
      servers = new_servers w n x.more x.server x.there fine;
      tasks = same_tasks w u.servers;
      posting = i.posting;
      sent = λ k q at. inl at;
      heard = λ k r at. inl at;
    } in
    subst (λ (z : World). AreLegal z → IsWorld z) (sym x.after) (carried l w u i e new) legal

-- ---- claims

posting_on : (rs : List Request) (more : List Request) (a : Attempt) → IsPosting rs a
    → IsPosting (rs ++ more) a
posting_on rs more a h posted = let q = h posted in (q.0, stays rs more a.request q.0 q.1, q.2)

not_posting : Looking ≡ Posting → ⊥
not_posting e = cc

pub claimed : (l : Locals) (w v : World) (n : ℕ) → IsWorld w → Claims w n v → AreLegal v → IsWorld v
claimed l w v n i x legal =
    let c : Task =
    record { server = n; since = x.server.history; activity = x.id; recipient = x.recipient } in
    let a : Attempt = record { task = c; request = length w.requests; stage = Looking } in
    let q : Request =
    record { attempt = length w.attempts; host = host_of x.recipient; text = x.text } in
    let u : World = record w { requests = w.requests ++ q ∷ []; attempts = w.attempts ++ a ∷ [] } in
    let due = l.free w.attempts n w.moment x.server.history x.id x.recipient x.first in
    let task : IsTask w.servers c =
    record {
      server = x.server;
      there = x.there;
      later = [];
      is = sym (append-nil x.server.history);
      place = due.place;
      act = due.act;
      holds = due.holds;
      named = due.named;
      reached = due.reached;
    } in
    let e : Evolves w u =
    record {
      servers = λ k s at. (s, at, unchanged s);
      requests = λ k r at. stays w.requests (q ∷ []) k r at;
      attempts = λ k b at. (b, stays w.attempts (a ∷ []) k b at, refl);
    } in
    let new : IsNew w u =
    record {
      now = i.now;
      servers = same_servers w w.servers refl;
      tasks = λ k b at.
          ⊎_elim (λ (old : slice_get w.attempts k ≡ Some b). inl (b, old, refl))
          (λ (one : (k ≡ length w.attempts) × (a ≡ b)).
          inr (subst (λ (z : Attempt). IsTask w.servers z.task) one.1 task))
          (old_or_new w.attempts a b k at);
      posting = λ k b at.
          ⊎_elim
          (λ (old : slice_get w.attempts k ≡ Some b).
          posting_on w.requests (q ∷ []) b (i.posting k b old))
          (λ (one : (k ≡ length w.attempts) × (a ≡ b)).
          subst (IsPosting u.requests) one.1 (λ posted. absurd (not_posting posted)))
          (old_or_new w.attempts a b k at);
      sent = λ k r at.
          ⊎_elim (λ (old : slice_get w.requests k ≡ Some r). inl old)
          (λ (one : (k ≡ length w.requests) × (q ≡ r)).
          inr (subst (IsSent u.attempts) one.1
          (record { attempt = a; there = at_end w.attempts a; host = refl; kind = inl x.sent })))
          (old_or_new w.requests q r k at);
      heard = λ k r at. inl at;
    } in
    subst (λ (z : World). AreLegal z → IsWorld z) (sym x.after) (carried l w u i e new) legal

-- ---- results

-- the result of a lookup is never that the activity was delivered
lookup_fails : (what : What) → outcome (record { step = sent.Lookup; what = what }) ≡ Delivered → ⊥
lookup_fails Failed e = cc
lookup_fails NoHead e = cc
lookup_fails BadActor e = cc
lookup_fails (Status s) e =
    elim (s == 404 || s == 410) as (λ b. (if b then GivenUp else Again) ≡ Delivered → ⊥) [
      | true ↦ λ h. cc
      | false ↦ λ h. cc
    ] e

tried_only : (e f : Entry) (more : List Entry) (j : ℕ) → slice_get more j ≡ Some e
    → (more ≡ f ∷ []) ⊎ (more ≡ []) → e ≡ f
tried_only e f more j at h =
    ⊎_elim
    (λ (one : more ≡ f ∷ []).
    only_one e f j (subst (λ (es : List Entry). slice_get es j ≡ Some e) one at))
    (λ (none : more ≡ []). let no : slice_get [] j ≡ Some e =
    subst (λ (es : List Entry). slice_get es j ≡ Some e) none at in absurd cc)
    h
  where
    only_one : (e f : Entry) (j : ℕ) → slice_get (f ∷ []) j ≡ Some e → e ≡ f
    only_one e f zero at = sym (some_is f e at)
    only_one e f (suc j) at = absurd cc

ended_posting : (rs : List Request) (a : Attempt) → IsPosting rs (ended a)
ended_posting rs a posted = absurd (over_posts posted)
  where
    over_posts : Over ≡ Posting → ⊥
    over_posts e = cc

-- an attempt ends with a result
pub recorded : (l : Locals) (w v : World) (number : ℕ) (a : Attempt) (came : Came) → IsWorld w
    → slice_get w.attempts number ≡ Some a
    → (outcome came ≡ Delivered
    → Somewhere w.servers (host_of a.task.recipient) (Shows a.task.activity a.task.recipient))
    → Records w number a came v → AreLegal v → IsWorld v
recorded l w v number a came i at done x legal =
    let u : World =
    record w {
      servers = keeping a.task.server x.more w.servers;
      attempts = replaced number (ended a) w.attempts;
    } in
    let task = i.tasks number a at in
    let e : Evolves w u =
    record {
      servers = kept_on a.task.server x.more w.servers;
      requests = λ k q here. here;
      attempts = replaced_on number (ended a) a w.attempts at refl;
    } in
    let entry : Entry = Tried a.task.activity a.task.recipient came w.moment in
    let fine : AreFine u.servers (record task.server { history = task.server.history ++ x.more })
    x.more =
    record {
      remote = λ j peer inbox b moment here.
          absurd (no_delivery (tried_only (Remote peer inbox b moment) entry x.more j here x.kept));
      tried = λ j id r got moment here ok.
          let same : Tried id r got moment ≡ entry =
          tried_only (Tried id r got moment) entry x.more j here x.kept in
          let ids : id ≡ a.task.activity = cc in
          let rs : r ≡ a.task.recipient = cc in
          let cs : got ≡ came = cc in
          subst (λ (z : List ℕ). Somewhere u.servers (host_of z) (Shows id z)) (sym rs)
          (subst
          (λ (z : List ℕ).
          Somewhere u.servers (host_of a.task.recipient) (Shows z a.task.recipient)) (sym ids)
          (somewhere_on w u e (host_of a.task.recipient) (Shows a.task.activity a.task.recipient)
          (shows_on l a.task.activity a.task.recipient)
          (done (ap outcome (sym cs) ∙ ok))));
    } in
    let new : IsNew w u =
    record {
      now = i.now;
      servers = new_servers w a.task.server x.more task.server task.there fine;
      tasks = λ k b here.
          ⊎_elim (λ (old : slice_get w.attempts k ≡ Some b). inl (b, old, refl))
          (λ (one : ended a ≡ b).
          inr (subst (λ (z : Attempt). IsTask u.servers z.task) one (task_on w u e a.task task)))
          (replaced_from number (ended a) w.attempts k b here);
      posting = λ k b here.
          ⊎_elim (λ (old : slice_get w.attempts k ≡ Some b). i.posting k b old)
          (λ (one : ended a ≡ b). subst (IsPosting w.requests) one (ended_posting w.requests a))
          (replaced_from number (ended a) w.attempts k b here);
      sent = λ k q here. inl here;
      heard = λ k r here. inl here;
    } in
    subst (λ (z : World). AreLegal z → IsWorld z) (sym x.after) (carried l w u i e new) legal
  where
    no_delivery : {peer inbox id r : List ℕ} {b : Activity} {m n : ℕ} {c : Came}
        → Remote peer inbox b m ≡ Tried id r c n → ⊥
    no_delivery same = cc

-- ---- the post

pub posted : (l : Locals) (w v : World) (number : ℕ) (a : Attempt) (inbox : List ℕ) → IsWorld w
    → slice_get w.attempts number ≡ Some a
    → IsInboxOf a.task.recipient inbox → Posts w number a inbox v → AreLegal v → IsWorld v
posted l w v number a inbox i at found x legal =
    let now : Attempt = record a { request = length w.requests; stage = Posting } in
    let q : Request = record { attempt = number; host = host_of inbox; text = x.text } in
    let u : World =
    record w { requests = w.requests ++ q ∷ []; attempts = replaced number now w.attempts } in
    let task = i.tasks number a at in
    let post : IsPosted a.task x.text =
    record {
      inbox = inbox;
      found = found;
      place = x.place;
      act = x.act;
      holds = x.there;
      named = x.named;
      short = x.short;
      sent = x.sent;
    } in
    let e : Evolves w u =
    record {
      servers = λ k s here. (s, here, unchanged s);
      requests = λ k r here. stays w.requests (q ∷ []) k r here;
      attempts = replaced_on number now a w.attempts at refl;
    } in
    let there = e.attempts number a at in
    let new : IsNew w u =
    record {
      now = i.now;
      servers = same_servers w w.servers refl;
      tasks = λ k b here.
          ⊎_elim (λ (old : slice_get w.attempts k ≡ Some b). inl (b, old, refl))
          (λ (one : now ≡ b). inr (subst (λ (z : Attempt). IsTask w.servers z.task) one task))
          (replaced_from number now w.attempts k b here);
      posting = λ k b here.
          ⊎_elim
          (λ (old : slice_get w.attempts k ≡ Some b).
          posting_on w.requests (q ∷ []) b (i.posting k b old))
          (λ (one : now ≡ b).
          subst (IsPosting u.requests) one (λ is. (q, at_end w.requests q, post)))
          (replaced_from number now w.attempts k b here);
      sent = λ k r here.
          ⊎_elim (λ (old : slice_get w.requests k ≡ Some r). inl old)
          (λ (one : (k ≡ length w.requests) × (q ≡ r)).
          inr (subst (IsSent u.attempts) one.1 (record {
            attempt = there.0;
            there = there.1;
            host =
                l.inboxes a.task.recipient inbox found
                ∙ ap (λ (c : Task). host_of c.recipient) (sym there.2);
            kind = inr (subst (λ (c : Task). IsPosted c x.text) (sym there.2) post);
          })))
          (old_or_new w.requests q r k here);
      heard = λ k r here. inl here;
    } in
    subst (λ (z : World). AreLegal z → IsWorld z) (sym x.after) (carried l w u i e new) legal

-- ---- a reply reaches its attempt

-- the result of a lookup
ended_fails : (recipient text : List ℕ) (came : Came) → IsFoundIn recipient (Some text) (Ended came)
    → outcome came ≡ Delivered → ⊥
ended_fails recipient text came f e =
    lookup_fails came.what
    (subst (λ (s : Sent). outcome (record { step = s; what = came.what }) ≡ Delivered) f.0 e)

heard_by : (l : Locals) (w v : World) (number : ℕ) (a : Attempt) (back : Reply) (q : Request)
    (stage : Stage) → IsWorld w → slice_get w.attempts number ≡ Some a
    → slice_get w.requests back.request ≡ Some q → a.request ≡ back.request → a.stage ≡ stage
    → ((inbox : List ℕ) → IsFoundIn a.task.recipient (Some back.text) (Inbox inbox)
    → IsInboxOf a.task.recipient inbox)
    → (IsPosted a.task q.text → (came : Came) → IsCameOfPost (Some back.text) came
    → outcome came ≡ Delivered
    → Somewhere w.servers (host_of a.task.recipient) (Shows a.task.activity a.task.recipient))
    → Hears stage w number a back.text v → AreLegal v → IsWorld v
heard_by l w v number a back q Looking i at asks last is shows delivered h legal =
    ⊎_elim
    (λ (go : (inbox : List ℕ) × IsFoundIn a.task.recipient (Some back.text) (Inbox inbox)
    × Posts w number a inbox v).
    posted l w v number a go.0 i at (shows go.0 go.1) go.2 legal)
    (λ (end : (came : Came) × IsFoundIn a.task.recipient (Some back.text) (Ended came)
    × Records w number a came v).
    recorded l w v number a end.0 i at
    (λ ok. absurd (ended_fails a.task.recipient back.text end.0 end.1 ok)) end.2 legal)
    h
heard_by l w v number a back q Posting i at asks last is shows delivered h legal =
    let sent = i.posting number a at is in
    let same : sent.0 ≡ q =
    some_is sent.0 q (sym sent.1 ∙ (ap (slice_get w.requests) last ∙ asks)) in
    recorded l w v number a h.0 i at
    (λ ok. delivered (subst (λ (r : Request). IsPosted a.task r.text) same sent.2) h.0 h.1 ok) h.2
    legal
heard_by l w v number a back q Over i at asks last is shows delivered h legal = absurd h

pub reached : (l : Locals) (w v : World) (j : ℕ) → IsWorld w → Reaches w j v → AreLegal v
    → IsWorld v
reached l w v j i x legal =
    let r = i.heard j x.back x.sent in
    let one : r.request ≡ x.request = some_is r.request x.request (sym r.asked ∙ x.asked) in
    let two : r.attempt ≡ x.attempt =
    some_is r.attempt x.attempt
    (sym r.there ∙ (ap (λ (q : Request). slice_get w.attempts q.attempt) one ∙ x.known)) in
    let shows : (inbox : List ℕ)
    → IsFoundIn x.attempt.task.recipient (Some x.back.text) (Inbox inbox)
    → IsInboxOf x.attempt.task.recipient inbox =
    subst (λ (a : Attempt). (inbox : List ℕ)
    → IsFoundIn a.task.recipient (Some x.back.text) (Inbox inbox)
    → IsInboxOf a.task.recipient inbox) two r.shows in
    let P : Attempt → Request → Type 0 =
    λ a q. IsPosted a.task q.text → (came : Came) → IsCameOfPost (Some x.back.text) came
    → outcome came ≡ Delivered
    → Somewhere w.servers (host_of a.task.recipient) (Shows a.task.activity a.task.recipient) in
    let delivered : P x.attempt x.request =
    subst (P x.attempt) one (subst (λ (a : Attempt). P a r.request) two r.delivered) in
    heard_by l w v x.request.attempt x.attempt x.back x.request x.attempt.stage i x.known x.asked
    x.last refl shows delivered x.hears legal

-- ---- losses, crashes, and time

failed_is : (s : Sent) → outcome (record { step = s; what = Failed }) ≡ Delivered → ⊥
failed_is s e = cc

pub lost : (l : Locals) (w v : World) (number : ℕ) → IsWorld w → Loses w number v → AreLegal v
    → IsWorld v
lost l w v number i x legal =
    recorded l w v number x.attempt _ i x.known
    (λ ok. absurd (failed_is (step_of x.attempt.stage) ok)) x.records legal

crashed_task : (n : ℕ) (a : Attempt) → (crashed_at n a).task ≡ a.task
unfolding crashed_at
crashed_task n a = refl

crashed_posting : (n : ℕ) (rs : List Request) (a : Attempt) → IsPosting rs a
    → IsPosting rs (crashed_at n a)
unfolding crashed_at
crashed_posting n rs a h is = h (stage_was (nat_eq a.task.server n) a.stage is)
  where
    stage_was : (b : Bool) (s : Stage) → stage_after b s ≡ Posting → s ≡ Posting
    stage_was true s e = absurd cc
    stage_was false s e = e

pub crashed : (l : Locals) (w v : World) (n : ℕ) → IsWorld w → Crashes w n v → AreLegal v
    → IsWorld v
crashed l w v n i x legal =
    let u : World = record w { attempts = map (crashed_at n) w.attempts } in
    let e : Evolves w u =
    record {
      servers = λ k s here. (s, here, unchanged s);
      requests = λ k r here. here;
      attempts = λ k a here.
          (crashed_at n a, mapped_at (crashed_at n) w.attempts k a here, crashed_task n a);
    } in
    let new : IsNew w u =
    record {
      now = i.now;
      servers = same_servers w w.servers refl;
      tasks = λ k b here.
          let was = mapped_from (crashed_at n) w.attempts k b here in
          inl (was.0, was.1, ap (λ (z : Attempt). z.task) (sym was.2) ∙ crashed_task n was.0);
      posting = λ k b here.
          let was = mapped_from (crashed_at n) w.attempts k b here in
          subst (IsPosting w.requests) was.2
          (crashed_posting n w.requests was.0 (i.posting k was.0 was.1));
      sent = λ k q here. inl here;
      heard = λ k r here. inl here;
    } in
    subst (λ (z : World). AreLegal z → IsWorld z) (sym x.after) (carried l w u i e new) legal

pub waited : (w v : World) (moment : ℕ) → IsWorld w → moment ≤ 253402300799
    → v ≡ record w { moment = moment } → IsWorld v
waited w v moment i now after =
    subst IsWorld (sym after)
    (record {
      now = now;
      servers = i.servers;
      origins = i.origins;
      shown = i.shown;
      tasks = i.tasks;
      posting = i.posting;
      sent = i.sent;
      heard = i.heard;
    })
