-- What is true of a world stays true of a later one, apart from what is new there.
use Rattle.std.proofs.Common.{◌≡◌, ℕ, ◌≤◌, Bool, true, false, List, [], ◌++◌, Option, Some, sym, ap}
use Rattle.std.proofs.Common.{◌∙◌, subst, ⊎_elim, append_assoc}
use Rattle.std.specs.Prelude.{◌⊎◌, slice_get, MatchBool}
use Rattle.std.specs.Str.{bytes_eq}
use Rattle.fedi_address.specs.Iris.{host_of}
use Rattle.fedi_delivery.specs.Deliveries.{lookup_to}
use Rattle.fedi_delivery.specs.declared.replies.Found.TheVariants.{Inbox}
use Rattle.fedi_delivery.specs.Replies.{IsCameOfPost, IsFoundIn}
use Rattle.fedi_objects.specs.declared.activity.Activity.{Activity}
use Rattle.fedi_objects.specs.declared.entry.Came.{Came}
use Rattle.fedi_objects.specs.declared.entry.Entry.{Entry}
use Rattle.fedi_objects.specs.declared.entry.Entry.TheVariants.{Remote, Tried}
use Rattle.fedi_objects.specs.declared.kind.Kind.{Kind}
use Rattle.fedi_town.specs.declared.outcome.Outcome.TheVariants.{Delivered}
use Rattle.fedi_town.specs.Histories.{town}
use Rattle.fedi_town.specs.Legal.{IsLegal}
use Rattle.fedi_town.specs.Queues.{outcome}
use Rattle.fedi_town.specs.Towns.{id_of}
use Rattle.fedi_worlds.specs.Promises.{Somewhere, HasOrigin, IsReadingOf, IsAccepted, IsRelay}
use Rattle.fedi_worlds.specs.Steps.{IsFit}
use Rattle.fedi_worlds.specs.Worlds.{Server, Request, Reply, Attempt, Task, World}
use Rattle.fedi_worlds.proofs.Sites.{IsSite}
use Rattle.fedi_worlds.proofs.Invariant.{IsTask, IsInboxOf, IsPosted, IsSent, IsHeard, IsPosting}
use Rattle.fedi_worlds.proofs.Invariant.{IsWorld, Shows}
use Rattle.fedi_worlds.proofs.Local.{Locals}
use Rattle.fedi_worlds.proofs.Places.{IsGrown, slice_split}

-- the later world has all that was there
pub record Evolves (w v : World) : Type 0 where
  pub servers : (k : ℕ) (s : Server) → slice_get w.servers k ≡ Some s
      → (t : Server) × (slice_get v.servers k ≡ Some t) × IsGrown s t
  pub requests : (k : ℕ) (q : Request) → slice_get w.requests k ≡ Some q
      → slice_get v.requests k ≡ Some q
  pub attempts : (k : ℕ) (a : Attempt) → slice_get w.attempts k ≡ Some a
      → (b : Attempt) × (slice_get v.attempts k ≡ Some b) × (b.task ≡ a.task)

abbrev pub AreLegal : World → Type 0
AreLegal w = (n : ℕ) (s : Server) → slice_get w.servers n ≡ Some s → IsFit s.history

-- the text is the lookup or the post of the task
abbrev IsKind : Task → List ℕ → Type 0
IsKind c text = (lookup_to (town c.since) c.recipient ≡ Some text) ⊎ IsPosted c text

-- what the reply to a request of the task tells
record Tells (servers : List Server) (c : Task) (request reply : List ℕ) : Type 0 where
  shows : (inbox : List ℕ) → IsFoundIn c.recipient (Some reply) (Inbox inbox)
      → IsInboxOf c.recipient inbox
  delivered : IsPosted c request → (came : Came) → IsCameOfPost (Some reply) came
      → outcome came ≡ Delivered
      → Somewhere servers (host_of c.recipient) (Shows c.activity c.recipient)

-- ---- facts that stay

pub somewhere_on : (w v : World) → Evolves w v → (host : List ℕ) (F : List Entry → Type 0)
    → ((h more : List Entry) → F h → F (h ++ more))
    → Somewhere w.servers host F → Somewhere v.servers host F
somewhere_on w v e host F mono x =
    let g = e.servers x.number x.server x.there in
    record {
      number = x.number;
      server = g.0;
      there = g.1;
      host_is = g.2.host ∙ x.host_is;
      fact = subst F (sym g.2.is) (mono x.server.history g.2.more x.fact);
    }

pub reading_on : (owner : List ℕ) (a : Activity) (h more : List Entry) → IsReadingOf h owner a
    → IsReadingOf (h ++ more) owner a
reading_on owner a h more r = record {
  seen = r.seen;
  later = r.later ++ more;
  is = ap (λ (g : List Entry). g ++ more) r.is ∙ append_assoc r.seen r.later more;
  place = r.place;
  act = r.act;
  there = r.there;
  own = r.own;
  document = r.document;
  shown = r.shown;
  reads = r.reads;
  reached = r.reached;
}

pub accepted_on : (id : Option (List ℕ)) (author : List ℕ) (kind : Kind) (h more : List Entry)
    → IsAccepted h id author kind → IsAccepted (h ++ more) id author kind
accepted_on id author kind h more r = record {
  seen = r.seen;
  later = r.later ++ more;
  is = ap (λ (g : List Entry). g ++ more) r.is ∙ append_assoc r.seen r.later more;
  place = r.place;
  act = r.act;
  there = r.there;
  own = r.own;
  id_is = r.id_is;
  author_is = r.author_is;
  kind_is = r.kind_is;
}

match_on : (b : Bool) (P Q R S : Type 0) → (P → R) → (Q → S) → MatchBool b P Q → MatchBool b R S
match_on true P Q R S f g h = f h
match_on false P Q R S f g h = g h

pub origin_on : (l : Locals) (w v : World) → Evolves w v → (s t : Server) → IsGrown s t
    → IsLegal t.history → (peer inbox : List ℕ) (a : Activity)
    → HasOrigin w.servers s.history peer inbox a → HasOrigin v.servers t.history peer inbox a
origin_on l w v e s t g legal peer inbox a o =
    let now : IsLegal (s.history ++ g.more) = subst IsLegal g.is legal in
    record {
      owner = o.owner;
      owned =
          subst (λ (h : List Entry). id_of (town h) inbox ≡ Some o.owner) (sym g.is)
          (l.members s.history g.more inbox o.owner now o.owned);
      actor = o.actor;
      by = o.by;
      from = match_on (bytes_eq peer (host_of o.actor)) _ _ _ _
          (somewhere_on w v e peer (λ h. IsReadingOf h o.owner a) (reading_on o.owner a))
          (λ r. (
            subst (λ (h : List Entry). IsRelay (town h) peer) (sym g.is)
                (l.relays s.history g.more peer r.0),
            somewhere_on w v e (host_of o.actor) (λ h. IsAccepted h a.id o.actor a.kind)
                (accepted_on a.id o.actor a.kind) r.1,
          ))
          o.from;
    }

pub shows_on : (l : Locals) (id r : List ℕ) (h more : List Entry) → Shows id r h
    → Shows id r (h ++ more)
shows_on l id r h more x = l.keep h more id r x

pub task_on : (w v : World) → Evolves w v → (c : Task) → IsTask w.servers c → IsTask v.servers c
task_on w v e c k =
    let g = e.servers c.server k.server k.there in
    record {
      server = g.0;
      there = g.1;
      later = k.later ++ g.2.more;
      is = g.2.is
          ∙ (ap (λ (h : List Entry). h ++ g.2.more) k.is ∙ append_assoc c.since k.later g.2.more);
      place = k.place;
      act = k.act;
      holds = k.holds;
      named = k.named;
      reached = k.reached;
    }

pub sent_on : (w v : World) → Evolves w v → (q : Request) → IsSent w.attempts q
    → IsSent v.attempts q
sent_on w v e q k =
    let b = e.attempts q.attempt k.attempt k.there in
    record {
      attempt = b.0;
      there = b.1;
      host = k.host ∙ ap (λ (c : Task). host_of c.recipient) (sym b.2);
      kind = subst (λ (c : Task). IsKind c q.text) (sym b.2) k.kind;
    }

pub heard_on : (l : Locals) (w v : World) → Evolves w v → (r : Reply)
    → IsHeard w.servers w.requests w.attempts r → IsHeard v.servers v.requests v.attempts r
heard_on l w v e r k =
    let b = e.attempts k.request.attempt k.attempt k.there in
    let P : Task → Type 0 = λ c. Tells v.servers c k.request.text r.text in
    let told : Tells v.servers k.attempt.task k.request.text r.text =
    record {
      shows = k.shows;
      delivered = λ post came shown done.
          somewhere_on w v e (host_of k.attempt.task.recipient)
          (Shows k.attempt.task.activity k.attempt.task.recipient)
          (shows_on l k.attempt.task.activity k.attempt.task.recipient)
          (k.delivered post came shown done);
    } in
    let now : Tells v.servers b.0.task k.request.text r.text = subst P (sym b.2) told in
    record {
      request = k.request;
      asked = e.requests r.request k.request k.asked;
      attempt = b.0;
      there = b.1;
      shows = now.shows;
      delivered = now.delivered;
    }

-- ---- the whole world

-- the new entries of a server have their origins, and what was delivered has arrived
pub record AreFine (servers : List Server) (t : Server) (more : List Entry) : Type 0 where
  pub remote : (j : ℕ) (peer inbox : List ℕ) (a : Activity) (moment : ℕ)
      → slice_get more j ≡ Some (Remote peer inbox a moment)
      → HasOrigin servers t.history peer inbox a
  pub tried : (j : ℕ) (id r : List ℕ) (came : Came) (moment : ℕ)
      → slice_get more j ≡ Some (Tried id r came moment) → outcome came ≡ Delivered
      → Somewhere servers (host_of r) (Shows id r)

-- nothing is new
pub none_fine : (servers : List Server) (t : Server) → AreFine servers t []
none_fine servers t =
    record {
      remote = λ j peer inbox a moment e. absurd cc;
      tried = λ j id r came moment e d. absurd cc;
    }

-- what is new in a world
pub record IsNew (w v : World) : Type 0 where
  pub now : v.moment ≤ 253402300799
  pub servers : (k : ℕ) (t : Server) → slice_get v.servers k ≡ Some t
      → (s : Server) × (slice_get w.servers k ≡ Some s)
      × ((g : IsGrown s t) × AreFine v.servers t g.more)
  pub tasks : (k : ℕ) (b : Attempt) → slice_get v.attempts k ≡ Some b
      → ((a : Attempt) × (slice_get w.attempts k ≡ Some a) × (b.task ≡ a.task))
      ⊎ IsTask v.servers b.task
  pub posting : (k : ℕ) (b : Attempt) → slice_get v.attempts k ≡ Some b → IsPosting v.requests b
  pub sent : (k : ℕ) (q : Request) → slice_get v.requests k ≡ Some q
      → (slice_get w.requests k ≡ Some q) ⊎ IsSent v.attempts q
  pub heard : (k : ℕ) (r : Reply) → slice_get v.replies k ≡ Some r
      → (slice_get w.replies k ≡ Some r) ⊎ IsHeard v.servers v.requests v.attempts r

pub carried : (l : Locals) (w v : World) → IsWorld w → Evolves w v → IsNew w v → AreLegal v
    → IsWorld v
carried l w v i e n legal = record {
  now = n.now;
  servers = λ k t at.
      let f = n.servers k t at in
      let old = i.servers k f.0 f.1 in
      let now : IsLegal (f.0.history ++ f.2.0.more) = subst IsLegal f.2.0.is (legal k t at).legal in
      record {
        host = subst (λ (h : List Entry). (town h).host ≡ Some t.host) (sym f.2.0.is)
            (l.hosts f.0.history f.2.0.more t.host now
            (old.host ∙ ap (λ (x : List ℕ). Some x) (sym f.2.0.host)));
        legal = (legal k t at).legal;
        few = (legal k t at).few;
        shape = subst IsSite (sym f.2.0.host) old.shape;
      };
  origins = λ k j t peer inbox a moment at here.
      let f = n.servers k t at in
      ⊎_elim
      (λ (old : slice_get f.0.history j ≡ Some (Remote peer inbox a moment)).
      origin_on l w v e f.0 t f.2.0 (legal k t at).legal peer inbox a
      (i.origins k j f.0 peer inbox a moment f.1 old))
      (λ (new : (m : ℕ) × (slice_get f.2.0.more m ≡ Some (Remote peer inbox a moment))).
      f.2.1.remote new.0 peer inbox a moment new.1)
      (slice_split f.0.history f.2.0.more j (Remote peer inbox a moment)
      (subst (λ (h : List Entry). slice_get h j ≡ Some (Remote peer inbox a moment)) f.2.0.is
      here));
  shown = λ k j t id r came moment at here done.
      let f = n.servers k t at in
      ⊎_elim
      (λ (old : slice_get f.0.history j ≡ Some (Tried id r came moment)).
      somewhere_on w v e (host_of r) (Shows id r) (shows_on l id r)
      (i.shown k j f.0 id r came moment f.1 old done))
      (λ (new : (m : ℕ) × (slice_get f.2.0.more m ≡ Some (Tried id r came moment))).
      f.2.1.tried new.0 id r came moment new.1 done)
      (slice_split f.0.history f.2.0.more j (Tried id r came moment)
      (subst (λ (h : List Entry). slice_get h j ≡ Some (Tried id r came moment)) f.2.0.is here));
  tasks = λ k b at.
      ⊎_elim
      (λ (old : (a : Attempt) × (slice_get w.attempts k ≡ Some a) × (b.task ≡ a.task)).
      subst (IsTask v.servers) (sym old.2) (task_on w v e old.0.task (i.tasks k old.0 old.1)))
      (λ new. new) (n.tasks k b at);
  posting = n.posting;
  sent = λ k q at.
      ⊎_elim (λ (old : slice_get w.requests k ≡ Some q). sent_on w v e q (i.sent k q old))
      (λ new. new) (n.sent k q at);
  heard = λ k r at.
      ⊎_elim (λ (old : slice_get w.replies k ≡ Some r). heard_on l w v e r (i.heard k r old))
      (λ new. new) (n.heard k r at);
}
