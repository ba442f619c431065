-- A request that arrives keeps what is true of a world.
use Rattle.std.proofs.Common.{◌≡◌, ℕ, zero, suc, Bool, true, false, List, [], ◌∷◌, ◌++◌, length}
use Rattle.std.proofs.Common.{Option, Some, None, refl, sym, ap, ◌∙◌, subst, inl, inr, ⊎_elim}
use Rattle.std.proofs.Common.{append_assoc}
use Rattle.std.specs.Prelude.{slice_get, MatchBool, Ok}
use Rattle.std.specs.Str.{bytes_eq}
use Rattle.fedi_address.specs.Iris.{host_of}
use Rattle.fedi_address.specs.Recipients.{is_among}
use Rattle.fedi_delivery.specs.Deliveries.{body_of, lookup_to, post_by, peer_for}
use Rattle.fedi_model.specs.declared.reply.Reply as replies
use Rattle.fedi_model.specs.ReplyText.{reply_text}
use Rattle.fedi_objects.specs.declared.activity.Activity.{Activity}
use Rattle.fedi_objects.specs.declared.entry.Came.{Came}
use Rattle.fedi_objects.specs.declared.entry.Entry.{Entry}
use Rattle.fedi_objects.specs.declared.entry.Entry.TheVariants.{Remote, Tried}
use Rattle.fedi_objects.specs.declared.kind.Kind.{Kind}
use Rattle.fedi_reading.specs.Deliveries.{reads_delivered}
use Rattle.fedi_town.specs.declared.act.Act.{Act}
use Rattle.fedi_town.specs.declared.act.Peer.{Peer}
use Rattle.fedi_town.specs.Addressing.{is_of_town}
use Rattle.fedi_town.specs.Histories.{town}
use Rattle.fedi_town.specs.Legal.{IsLegal}
use Rattle.fedi_town.specs.Queues.{sends}
use Rattle.fedi_town.specs.Towns.{Town, id_of}
use Rattle.fedi_town.proofs.Texts.{bytes_eq-is}
use Rattle.fedi_worlds.specs.Promises.{Somewhere, HasOrigin, IsReadingOf, IsAccepted, IsRelay}
use Rattle.fedi_worlds.specs.Steps.{Arrives, is_head_only, ends_by}
use Rattle.fedi_worlds.specs.Worlds.{Server, Reply, Task, World, keeping}
use Rattle.fedi_worlds.proofs.Sites.{IsServer}
use Rattle.fedi_worlds.proofs.Shown.{document_of, shown_as}
use Rattle.fedi_worlds.proofs.Invariant.{IsTask, IsPosted, IsHeard, IsWorld, IsOwn}
use Rattle.fedi_worlds.proofs.Local.{Locals, IsDelivered}
use Rattle.fedi_worlds.proofs.Places.{kept_on, kept_here, old_or_new, some_is}
use Rattle.fedi_worlds.proofs.Carried.{Evolves, AreLegal, AreFine, IsNew, carried, somewhere_on}
use Rattle.fedi_worlds.proofs.Carried.{accepted_on}
use Rattle.fedi_worlds.proofs.Roots.{root_of, own_near, one_act}
use Rattle.fedi_worlds.proofs.Events.{new_servers, same_tasks}

-- ---- who sends a post

-- a post is sent by a server that was set up
has_host : (host : Option (List ℕ)) (p : Option Peer) (inbox body text : List ℕ)
    → post_by host p inbox body ≡ Some text → (own : List ℕ) × (host ≡ Some own)
has_host None p inbox body text e = absurd cc
has_host (Some own) p inbox body text e = (own, refl)

-- what is known of the sender of a post
record IsSender (w : World) (c : Task) (text : List ℕ) : Type 0 where
  post : IsPosted c text
  task : IsTask w.servers c
  server : IsServer task.server
  legal : IsLegal c.since
  hosted : (town c.since).host ≡ Some task.server.host

sender : (l : Locals) (w : World) → IsWorld w → (c : Task) (text : List ℕ) → IsTask w.servers c
    → IsPosted c text → IsSender w c text
sender l w i c text task post =
    let server = i.servers c.server task.server task.there in
    let whole : IsLegal (c.since ++ task.later) = subst IsLegal task.is server.legal in
    let own =
    has_host (town c.since).host (peer_for (town c.since) c.recipient) post.inbox
    (body_of (town c.since) post.act) text post.sent in
    let later : (town (c.since ++ task.later)).host ≡ Some own.0 =
    l.hosts c.since task.later own.0 whole own.1 in
    let both : Some own.0 ≡ Some task.server.host =
    sym later
    ∙ subst (λ (h : List Entry). (town h).host ≡ Some task.server.host) task.is server.host in
    record {
      post = post;
      task = task;
      server = server;
      legal = l.fronts c.since task.later whole;
      hosted = own.1 ∙ both;
    }

-- ---- what the post brings

is_same : (k : Option (List ℕ)) (b : Bool) → b ≡ true → b ≡ false → ⊥
is_same k b p q = cc

-- a member's own activity goes to its recipients
own_sends : (t : Town) (host : List ℕ) (x : Act) (r : List ℕ) → t.host ≡ Some host
    → is_of_town (Some host) x.author ≡ true → is_among r (sends t x) ≡ true
    → is_among r x.recipients ≡ true
unfolding sends
own_sends t host x r hosted own e = rw (hosted, own) at e

-- the delivery has its origin
delivery_fine : (l : Locals) (w u : World) → IsWorld w → Evolves w u
    → (c : Task) (text : List ℕ) (k : IsSender w c text) (t : Server) (h : List Entry)
    (name : List ℕ) (a : Activity) (moment : ℕ)
    → IsLegal h → (town h).host ≡ Some t.host
    → t.history ≡ h ++ Remote k.task.server.host name a moment ∷ [] → IsLegal t.history
    → reads_delivered (document_of (town c.since) k.post.act) ≡ Ok a
    → id_of (town h) name ≡ Some c.recipient
    → HasOrigin u.servers t.history k.task.server.host name a
delivery_fine l w u i e c text k t h name a moment legal hosted is now read owned =
    let own : List ℕ = k.task.server.host in
    let grown : IsLegal (h ++ Remote own name a moment ∷ []) = subst IsLegal is now in
    let may = l.may_come h t.host own name a moment hosted grown in
    let x : Act = k.post.act in
    let root =
    root_of l w i c.server k.task.server k.task.there c.since k.task.later k.task.is k.hosted
    k.post.place x k.post.holds in
    let same = l.reads (town c.since) root.host x a root.shape root.own read in
    let author : x.author ≡ may.actor =
    let both : Some x.author ≡ Some may.actor = sym same.actor ∙ may.by in cc in
    let from : MatchBool (bytes_eq own (host_of may.actor))
    (Somewhere u.servers own (λ g. IsReadingOf g c.recipient a))
    (IsRelay (town t.history) own
    × Somewhere u.servers (host_of may.actor) (λ g. IsAccepted g a.id may.actor a.kind)) =
    elim (bytes_eq own (host_of may.actor)) as
    (λ b. bytes_eq own (host_of may.actor) ≡ b → MatchBool b
    (Somewhere u.servers own (λ g. IsReadingOf g c.recipient a))
    (IsRelay (town t.history) own
    × Somewhere u.servers (host_of may.actor) (λ g. IsAccepted g a.id may.actor a.kind))) [
      | true ↦ λ s.
          let g = e.servers c.server k.task.server k.task.there in
          let at : root.host ≡ own =
          sym root.at ∙ (ap host_of author ∙ sym (bytes_eq-is own (host_of may.actor) s)) in
          let mine : IsOwn own x = subst (λ (b : List ℕ). IsOwn b x) at root.own in
          let near = own_near l own x k.server.shape mine in
          let one : k.task.act ≡ x =
          one_act c.since c.activity k.task.place k.post.place k.task.act x k.legal k.task.holds
          k.post.holds k.task.named k.post.named in
          let goes : is_among c.recipient (sends (town c.since) x) ≡ true =
          subst (λ (y : Act). is_among c.recipient (sends (town c.since) y) ≡ true) one
          k.task.reached in
          record {
            number = c.server;
            server = g.0;
            there = g.1;
            host_is = g.2.host;
            fact = record {
              seen = c.since;
              later = k.task.later ++ g.2.more;
              is = g.2.is
                  ∙ (ap (λ (z : List Entry). z ++ g.2.more) k.task.is
                  ∙ append_assoc c.since k.task.later g.2.more);
              place = k.post.place;
              act = x;
              there = k.post.holds;
              own = subst (λ (o : Option (List ℕ)). is_of_town o x.author ≡ true) (sym k.hosted)
                  near.1;
              document = document_of (town c.since) x;
              shown = shown_as (town c.since) x;
              reads = read;
              reached = own_sends (town c.since) own x c.recipient k.hosted near.1 goes;
            };
          }
      | false ↦ λ s. (
        subst (λ (z : List Entry). IsRelay (town z) own) (sym is)
            (l.relays h (Remote own name a moment ∷ []) own (may.relayed s)),
        somewhere_on w u e (host_of may.actor) (λ g. IsAccepted g a.id may.actor a.kind)
            (accepted_on a.id may.actor a.kind)
            (subst
            (λ (b : List ℕ). Somewhere w.servers (host_of b) (λ g. IsAccepted g a.id b a.kind))
            author
            (subst (λ (b : List ℕ). Somewhere w.servers b (λ g. IsAccepted g a.id x.author a.kind))
            (sym root.at)
            (subst (λ (d : Kind). Somewhere w.servers root.host (λ g. IsAccepted g a.id x.author d))
            (sym same.kind)
            (subst
            (λ (d : Option (List ℕ)).
            Somewhere w.servers root.host (λ g. IsAccepted g d x.author x.activity.kind))
            (sym same.id) root.somewhere)))),
      )
    ] refl in
    record {
      owner = c.recipient;
      owned =
          subst (λ (z : List Entry). id_of (town z) name ≡ Some c.recipient) (sym is)
          (l.members h (Remote own name a moment ∷ []) name c.recipient grown owned);
      actor = may.actor;
      by = may.by;
      from = from;
    }

-- ---- the arrival

no_entry : (more : List Entry) (e : Entry) (j : ℕ) → more ≡ [] → slice_get more j ≡ Some e → ⊥
no_entry more e j none at =
    let no : slice_get [] j ≡ Some e =
    subst (λ (es : List Entry). slice_get es j ≡ Some e) none at in cc

nothing_fine : (servers : List Server) (t : Server) (more : List Entry) → more ≡ []
    → AreFine servers t more
nothing_fine servers t more none =
    record {
      remote = λ j p n a m at. absurd (no_entry more _ j none at);
      tried = λ j id r c m at d. absurd (no_entry more _ j none at);
    }

one_there : (more : List Entry) (d e : Entry) (j : ℕ) → more ≡ d ∷ [] → slice_get more j ≡ Some e
    → d ≡ e
one_there more d e j one at =
    pick d e j (subst (λ (es : List Entry). slice_get es j ≡ Some e) one at)
  where
    pick : (d e : Entry) (j : ℕ) → slice_get (d ∷ []) j ≡ Some e → d ≡ e
    pick d e zero at = some_is d e at
    pick d e (suc j) at = absurd cc

remote_fine : (servers : List Server) (t : Server) (more : List Entry) (peer name : List ℕ)
    (a : Activity) (moment : ℕ) → more ≡ Remote peer name a moment ∷ []
    → HasOrigin servers t.history peer name a → AreFine servers t more
remote_fine servers t more peer name a moment one o = record {
  remote = λ j p n b m at.
      let same : Remote peer name a moment ≡ Remote p n b m = one_there more _ _ j one at in
      let ps : peer ≡ p = cc in let ns : name ≡ n = cc in let bs : a ≡ b = cc in
      subst (λ (z : List ℕ). HasOrigin servers t.history z n b) ps
      (subst (λ (z : List ℕ). HasOrigin servers t.history peer z b) ns
      (subst (HasOrigin servers t.history peer name) bs o));
  tried = λ j id r c m at d.
      absurd
      (let same : Remote peer name a moment ≡ Tried id r c m =
      one_there more _ _ j one at in apart same);
}
  where
    apart : {p n id r : List ℕ} {b : Activity} {m k : ℕ} {c : Came}
        → Remote p n b m ≡ Tried id r c k → ⊥
    apart same = cc

pub arrived : (l : Locals) (w v : World) (k : ℕ) (given : replies.Reply) → IsWorld w
    → Arrives w k given v → AreLegal v → IsWorld v
unfolding sender
arrived l w v k given i x legal =
    let text : List ℕ = reply_text w.moment (is_head_only x.came) (ends_by x.came) given in
    let back : Reply = record { request = k; text = text } in
    let u : World =
    record w { servers = keeping x.number x.more w.servers; replies = w.replies ++ back ∷ [] } in
    let t : Server = record x.server { history = x.server.history ++ x.more } in
    let here : slice_get u.servers x.number ≡ Some t =
    kept_here x.number x.more w.servers x.server x.there in
    let server = i.servers x.number x.server x.there in
    let e : Evolves w u =
    record {
      servers = kept_on x.number x.more w.servers;
      requests = λ j q at. at;
      attempts = λ j a at. (a, at, refl);
    } in
    let q = i.sent k x.request x.sent in
    let c : Task = q.attempt.task in
    let at : x.server.host ≡ host_of c.recipient = x.host ∙ q.host in
    let grown : AreLegal u → IsLegal (x.server.history ++ x.more) =
    λ good. (good x.number t here).legal in
    let delivered : AreLegal u → (p : IsPosted c x.request.text)
    → IsDelivered c.since
    (sender l w i c x.request.text (i.tasks x.request.attempt q.attempt q.there) p).task.server.host
    c.activity c.recipient p.act x.server w.moment given (is_head_only x.came) (ends_by x.came)
    x.more = λ good p.
    let s = sender l w i c x.request.text (i.tasks x.request.attempt q.attempt q.there) p in
    let root =
    root_of l w i c.server s.task.server s.task.there c.since s.task.later s.task.is s.hosted
    p.place p.act p.holds in
    l.posts c.since s.task.server.host c.activity c.recipient p.inbox x.request.text p.place p.act
    x.server w.moment x.came x.body given (is_head_only x.came) (ends_by x.came) x.more
    s.legal s.hosted s.server.shape p.holds p.named root.host root.shape root.own p.short p.found
    p.sent server at x.comes x.answered (grown good) in
    let fine : AreLegal u → AreFine u.servers t x.more = λ good.
    ⊎_elim
    (λ (look : lookup_to (town c.since) c.recipient ≡ Some x.request.text).
    nothing_fine u.servers t x.more
    (l.lookups (town c.since) c.recipient x.request.text x.server.history w.moment x.came x.body
    given x.more look x.comes x.answered))
    (λ (p : IsPosted c x.request.text).
    let s = sender l w i c x.request.text (i.tasks x.request.attempt q.attempt q.there) p in
    let d = delivered good p in
    ⊎_elim
    (λ (none : x.more ≡ []). nothing_fine u.servers t x.more none)
    (λ (one : (name : List ℕ) × (a : Activity)
    × (x.more ≡ Remote s.task.server.host name a w.moment ∷ [])
    × (reads_delivered (document_of (town c.since) p.act) ≡ Ok a)
    × (id_of (town x.server.history) name ≡ Some c.recipient)).
    remote_fine u.servers t x.more s.task.server.host one.0 one.1 w.moment one.2
    (delivery_fine l w u i e c x.request.text s t x.server.history one.0 one.1 w.moment server.legal
    server.host
    (ap (λ (m : List Entry). x.server.history ++ m) one.2) (grown good) one.3 one.4))
    d.adds)
    q.kind in
    let new : AreLegal u → IsNew w u = λ good.
    record {
      now = i.now;
      servers = new_servers w x.number x.more x.server x.there (fine good);
      tasks = same_tasks w u.servers;
      posting = i.posting;
      sent = λ j r there. inl there;
      heard = λ j r there.
          ⊎_elim (λ (old : slice_get w.replies j ≡ Some r). inl old)
          (λ (one : (j ≡ length w.replies) × (back ≡ r)).
          inr (subst (IsHeard u.servers u.requests u.attempts) one.1 (record {
            request = x.request;
            asked = x.sent;
            attempt = q.attempt;
            there = q.there;
            shows = λ inbox found.
                l.documents x.server w.moment w.moment x.came x.body given x.more
                (is_head_only x.came) (ends_by x.came) c.recipient inbox server i.now x.short
                x.answered found;
            delivered = λ p came shown ok. record {
              number = x.number;
              server = t;
              there = here;
              host_is = at;
              fact = (delivered good p).there came shown ok;
            };
          })))
          (old_or_new w.replies back r j there);
    } in
    subst (λ (z : World). AreLegal z → IsWorld z) (sym x.after)
    (λ good. carried l w u i e (new good) good) legal
