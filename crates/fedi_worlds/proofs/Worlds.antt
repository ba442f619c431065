-- Every world that a schedule reaches keeps the promises.
use Rattle.std.proofs.Common.{arith, ◌≡◌, ℕ, zero, suc, List, [], ◌∷◌, Some, refl, sym, ◌∙◌, subst}
use Rattle.std.proofs.Common.{⊎_elim, length, ◌<◌, ◌^◌, lit<}
use Rattle.std.specs.Prelude.{slice_get}
use Rattle.std.specs.List.{fold}
use Rattle.fedi_objects.specs.declared.activity.Activity.{Activity}
use Rattle.fedi_objects.specs.declared.entry.Came.{Came}
use Rattle.fedi_objects.specs.declared.entry.Entry.{Entry}
use Rattle.fedi_objects.specs.declared.entry.Entry.TheVariants.{Hosted, Made, PeerSet, Local}
use Rattle.fedi_objects.specs.declared.entry.Entry.TheVariants.{Remote, Tried}
use Rattle.fedi_town.specs.declared.act.Act.{Act}
use Rattle.fedi_town.specs.Histories.{town, step}
use Rattle.fedi_town.specs.Towns.{Town, empty_town}
use Rattle.fedi_town.proofs.IdsTown.{town_ids}
use Rattle.fedi_worlds.specs.Events.{Event, Asking, Claim, Arrive, Reach, Lose, Crash, Wait}
use Rattle.fedi_worlds.specs.Promises.{IsNewServer, IsStart, IsSetUp, DeliveriesHaveOrigins}
use Rattle.fedi_worlds.specs.Promises.{DeliveriesArrive}
use Rattle.fedi_worlds.specs.Steps.{Claims, Idles, Happens, Runs}
use Rattle.fedi_worlds.specs.Worlds.{Server, World}
use Rattle.fedi_worlds.proofs.Sites.{IsServer}
use Rattle.fedi_worlds.proofs.Invariant.{IsWorld}
use Rattle.fedi_worlds.proofs.Local.{Locals}
use Rattle.fedi_worlds.proofs.Carried.{AreLegal}
use Rattle.fedi_worlds.proofs.Events.{asked, claimed, reached, lost, crashed, waited}
use Rattle.fedi_worlds.proofs.Arriving.{arrived}
use Rattle.fedi_queue.proofs.Addressed.{made-acts}

happened : (l : Locals) (w v : World) (e : Event) → IsWorld w → Happens w e v → AreLegal v
    → IsWorld v
happened l w v (Asking n c ask) i h legal = asked l w v n c ask h.0 i h.1 legal
happened l w v (Claim n) i h legal =
    ⊎_elim (λ (x : Claims w n v). claimed l w v n i x legal)
    (λ (x : Idles w n v). subst IsWorld (sym x.after) i) h
happened l w v (Arrive k) i h legal = arrived l w v k h.0 i h.1 legal
happened l w v (Reach j) i h legal = reached l w v j i h legal
happened l w v (Lose number) i h legal = lost l w v number i h legal
happened l w v (Crash n) i h legal = crashed l w v n i h legal
happened l w v (Wait seconds) i h legal = waited w v _ i (omega arith) h

pub runs : (l : Locals) (w v : World) (es : List Event) → IsWorld w → Runs w es v → IsWorld v
runs l w v [] i r = subst IsWorld (sym r) i
runs l w v (e ∷ es) i r = runs l r.0 v es (happened l w r.0 e i r.1.happens r.1.fit) r.2

-- ---- the beginning

set_up_adds : (h : List Entry) (t : Town) → IsSetUp h → (fold step t h).acts ≡ t.acts
set_up_adds [] t s = refl
set_up_adds (Hosted host m ∷ h) t s = set_up_adds h (step t (Hosted host m)) s
set_up_adds (Made name digest locked m ∷ h) t s =
    set_up_adds h (step t (Made name digest locked m)) s
    ∙ made-acts t t.host name digest locked
set_up_adds (PeerSet host key address relay m ∷ h) t s =
    set_up_adds h (step t (PeerSet host key address relay m)) s
set_up_adds (Local name repeat a m ∷ h) t s = absurd s
set_up_adds (Remote peer inbox a m ∷ h) t s = absurd s
set_up_adds (Tried id recipient came m ∷ h) t s = absurd s

-- a server that was set up has no activities yet
no_activities : (h : List Entry) → IsSetUp h → length (town h).acts < 2 ^ 64
no_activities h s =
    subst (λ (acts : List Act). length acts < 2 ^ 64) (sym (set_up_adds h empty_town s)) (lit< tt)

new_server : (s : Server) → IsNewServer s → IsServer s
new_server s n = record {
  host = n.hosted;
  legal = n.legal;
  few = no_activities s.history n.set_up;
  shape = record { shape = n.host.shape; root = n.root };
}

no_remote : (h : List Entry) (k : ℕ) (peer inbox : List ℕ) (a : Activity) (moment : ℕ) → IsSetUp h
    → slice_get h k ≡ Some (Remote peer inbox a moment) → ⊥
no_remote [] k peer inbox a moment s at = cc
no_remote (Hosted host n ∷ h) zero peer inbox a moment s at = cc
no_remote (Hosted host n ∷ h) (suc k) peer inbox a moment s at =
    no_remote h k peer inbox a moment s at
no_remote (Made name digest locked n ∷ h) zero peer inbox a moment s at = cc
no_remote (Made name digest locked n ∷ h) (suc k) peer inbox a moment s at =
    no_remote h k peer inbox a moment s at
no_remote (PeerSet host key address relay n ∷ h) zero peer inbox a moment s at = cc
no_remote (PeerSet host key address relay n ∷ h) (suc k) peer inbox a moment s at =
    no_remote h k peer inbox a moment s at
no_remote (Local name repeat b n ∷ h) k peer inbox a moment s at = s
no_remote (Remote p i b n ∷ h) k peer inbox a moment s at = s
no_remote (Tried id r c n ∷ h) k peer inbox a moment s at = s

no_attempt : (h : List Entry) (k : ℕ) (id r : List ℕ) (came : Came) (moment : ℕ) → IsSetUp h
    → slice_get h k ≡ Some (Tried id r came moment) → ⊥
no_attempt [] k id r came moment s at = cc
no_attempt (Hosted host n ∷ h) zero id r came moment s at = cc
no_attempt (Hosted host n ∷ h) (suc k) id r came moment s at = no_attempt h k id r came moment s at
no_attempt (Made name digest locked n ∷ h) zero id r came moment s at = cc
no_attempt (Made name digest locked n ∷ h) (suc k) id r came moment s at =
    no_attempt h k id r came moment s at
no_attempt (PeerSet host key address relay n ∷ h) zero id r came moment s at = cc
no_attempt (PeerSet host key address relay n ∷ h) (suc k) id r came moment s at =
    no_attempt h k id r came moment s at
no_attempt (Local name repeat b n ∷ h) k id r came moment s at = s
no_attempt (Remote p i b n ∷ h) k id r came moment s at = s
no_attempt (Tried i q c n ∷ h) k id r came moment s at = s

none_at : {A : Type 0} (xs : List A) (k : ℕ) (x : A) → xs ≡ [] → slice_get xs k ≡ Some x → ⊥
none_at xs k x none at =
    let no : slice_get [] k ≡ Some x = subst (λ ys. slice_get ys k ≡ Some x) none at in cc

started : (w : World) → IsStart w → IsWorld w
started w s = record {
  now = s.now;
  servers = λ n t at. new_server t (s.servers n t at);
  origins = λ n k t peer inbox a moment at here.
      absurd (no_remote t.history k peer inbox a moment (s.servers n t at).set_up here);
  shown = λ n k t id r came moment at here done.
      absurd (no_attempt t.history k id r came moment (s.servers n t at).set_up here);
  tasks = λ k a at. absurd (none_at w.attempts k a s.attempts at);
  posting = λ k a at. absurd (none_at w.attempts k a s.attempts at);
  sent = λ k q at. absurd (none_at w.requests k q s.requests at);
  heard = λ k r at. absurd (none_at w.replies k r s.replies at);
}

-- ---- the promises

pub have_origins : Locals → DeliveriesHaveOrigins
have_origins l w v es s r = (runs l w v es (started w s) r).origins

pub have_arrived : Locals → DeliveriesArrive
have_arrived l w v es s r n k t id recipient came moment at here done =
    let i = runs l w v es (started w s) r in
    let x = i.shown n k t id recipient came moment at here done in
    record {
      number = x.number;
      server = x.server;
      there = x.there;
      host_is = x.host_is;
      fact = (x.fact, town_ids x.server.history (i.servers x.number x.server x.there).legal id);
    }
