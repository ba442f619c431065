-- What one more entry leaves of a town.
use Rattle.std.proofs.Common.{◌≡◌, ℕ, Bool, true, false, List, [], ◌∷◌, ◌++◌, Option, Some, None}
use Rattle.std.proofs.Common.{refl, sym, ap, ◌∙◌, subst, append_assoc, append-nil}
use Rattle.std.specs.Prelude.{◌&&◌, ◌||◌, map, is_none, option_map, option_to_list, if◌then◌else◌}
use Rattle.std.specs.List.{list_any, fold, find}
use Rattle.std.proofs.lemmas.Bool.{and_parts}
use Rattle.std.proofs.lemmas.List.Sums.{fold-append}
use Rattle.fedi_address.specs.Hosts.{is_host_text}
use Rattle.fedi_address.specs.Recipients.{is_among}
use Rattle.fedi_objects.specs.declared.activity.Activity.{Activity}
use Rattle.fedi_objects.specs.declared.entry.Entry.{Entry}
use Rattle.fedi_objects.specs.declared.entry.Entry.TheVariants.{Hosted, Made, PeerSet, Local}
use Rattle.fedi_objects.specs.declared.entry.Entry.TheVariants.{Remote, Tried}
use Rattle.fedi_objects.specs.declared.kind.State.{State}
use Rattle.fedi_objects.specs.declared.kind.State.TheVariants.{Accepted, Undone}
use Rattle.fedi_town.proofs.Lists.{find-stays}
use Rattle.fedi_town.proofs.IdsTown.{found_any}
use Rattle.fedi_town.proofs.Reached.{is_among-push}
use Rattle.fedi_town.specs.Activities.{local_act, remote_act}
use Rattle.fedi_town.specs.Effects.{acceptance, where_passes, in_state, end_follow}
use Rattle.fedi_town.specs.Effects.{is_pending_follow, is_standing_activity, affect, effect_of}
use Rattle.fedi_town.specs.Effects.{answer_to}
use Rattle.fedi_town.specs.Histories.{with_addition, member_addition, post_addition, inbox_addition}
use Rattle.fedi_town.specs.Histories.{delivery_addition, step, town, is_known, with_recipient}
use Rattle.fedi_town.specs.Legal.{is_legal_from, is_admissible, broken_command}
use Rattle.fedi_town.specs.Objects.{makes, rewrite_act, update_object, tombstone_of}
use Rattle.fedi_town.specs.Origins.{has_inbox}
use Rattle.fedi_town.specs.Relations.{has_activity_id, is_id, is_open_follow}
use Rattle.fedi_town.specs.Towns.{Town, empty_town, has_host, has_name, id_of}
use Rattle.fedi_town.specs.declared.act.Act.{Act}
use Rattle.fedi_town.specs.declared.act.Actor.{Actor}
use Rattle.fedi_town.specs.declared.act.Peer.{Peer}
use Rattle.fedi_town.specs.declared.addition.Addition.TheVariants as additions
use Rattle.fedi_town.specs.declared.command_fault.CommandFault.TheVariants.{HostTaken}
use Rattle.fedi_town.specs.declared.effect.Effect.{Effect}
use Rattle.fedi_town.specs.declared.effect.Effect.TheVariants as effects
use Rattle.fedi_queue.proofs.Addressed.{made_host, posted_host, delivered_host}
use Rattle.fedi_worlds.proofs.Local.{FrontsAreLegal, HostsStay, MembersStay, RelaysStay}
use Rattle.fedi_worlds.proofs.Local.{InboxesKeep}
use Rattle.fedi_town.proofs.Due.{any_on, any_more}

-- ---- an activity keeps its name

-- Its id, author, actor and kind, and who has it. The lemmas are those of `GoesOn` in fedi_town
-- (proofs/Due), which keeps other fields.
pub record Keeps (y z : Act) : Type 0 where
  pub id : z.activity.id ≡ y.activity.id
  pub author : z.author ≡ y.author
  pub actor : z.activity.actor ≡ y.activity.actor
  pub kind : z.activity.kind ≡ y.activity.kind
  pub to : (r : List ℕ) → is_among r y.recipients ≡ true → is_among r z.recipients ≡ true

pub same : (y : Act) → Keeps y y
same y = record { id = refl; author = refl; actor = refl; kind = refl; to = λ r h. h }

then_on : (x y z : Act) → Keeps x y → Keeps y z → Keeps x z
then_on x y z a b = record {
  id = b.id ∙ a.id;
  author = b.author ∙ a.author;
  actor = b.actor ∙ a.actor;
  kind = b.kind ∙ a.kind;
  to = λ r h. b.to r (a.to r h);
}

passing : (p : Act → Bool) (f : Act → Act) (y : Act) → Keeps y (f y) → Keeps y (where_passes p f y)
passing p f y h = elim (p y) as (λ b. Keeps y (if b then f y else y)) [ true ↦ h | false ↦ same y ]

ended_on : (a b : List ℕ) (s : State) (y : Act) → Keeps y (end_follow a b s y)
unfolding end_follow
ended_on a b s y =
    passing (is_open_follow a b) (in_state s) y
    (record { id = refl; author = refl; actor = refl; kind = refl; to = λ r h. h })

pub affected_on : (e : Effect) (y : Act) → Keeps y (affect e y)
unfolding rewrite_act
affected_on effects.Nothing y = same y
affected_on (effects.Update id by stamp) y =
    passing (makes id) (rewrite_act (update_object by stamp)) y
    (record { id = refl; author = refl; actor = refl; kind = refl; to = λ r h. h })
affected_on (effects.Delete id kind stamp) y =
    passing (makes id) (rewrite_act (tombstone_of kind stamp)) y
    (record { id = refl; author = refl; actor = refl; kind = refl; to = λ r h. h })
affected_on (effects.Accept id) y =
    passing (is_pending_follow id) (in_state Accepted) y
    (record { id = refl; author = refl; actor = refl; kind = refl; to = λ r h. h })
affected_on (effects.EndFollows a b s) y = ended_on a b s y
affected_on (effects.EndBoth a b) y =
    then_on y _ _ (ended_on b a Undone y) (ended_on a b Undone (end_follow b a Undone y))
affected_on (effects.Undo id) y =
    passing (is_standing_activity id) (in_state Undone) y
    (record { id = refl; author = refl; actor = refl; kind = refl; to = λ r h. h })

pub also_on : (id owner : List ℕ) (y : Act) → Keeps y (with_recipient id owner y)
also_on id owner y =
    elim (has_activity_id id y) as (λ b.
    Keeps y (if b then record y { recipients = y.recipients ++ owner ∷ [] } else y)) [
      | true ↦
          record {
            id = refl;
            author = refl;
            actor = refl;
            kind = refl;
            to = λ r h. is_among-push r y.recipients owner h;
          }
      | false ↦ same y
    ]

-- ---- the activities after an entry

-- those before it, and more
pub record AddsActs (acts now : List Act) : Type 0 where
  pub f : Act → Act
  pub keeps : (y : Act) → Keeps y (f y)
  pub more : List Act
  pub is : now ≡ map f acts ++ more

map-same : {A : Type 0} (xs : List A) → map (λ x. x) xs ≡ xs
map-same [] = refl
map-same (x ∷ xs) = ap (λ ys. x ∷ ys) (map-same xs)

as_before : (acts now : List Act) → now ≡ acts → AddsActs acts now
as_before acts now e =
    record {
      f = λ y. y;
      keeps = same;
      more = [];
      is = e ∙ sym (append-nil (map (λ y. y) acts) ∙ map-same acts);
    }

posted_acts : (own : Option (List ℕ)) (t : Town) (name : List ℕ) (repeat : Option (List ℕ × List ℕ))
    (a : Activity) (moment : ℕ)
    → AddsActs t.acts (with_addition t (post_addition own t name repeat a moment)).acts
posted_acts None t name repeat a moment = as_before t.acts t.acts refl
posted_acts (Some host) t name repeat a moment =
    let x : Act = local_act t host name repeat a moment in
    record {
      f = affect (effect_of t x);
      keeps = affected_on (effect_of t x);
      more = x ∷ option_to_list (answer_to t x);
      is = refl;
    }

taken_acts : (t : Town) (owner author id : List ℕ) (a : Activity) (moment : ℕ)
    → AddsActs t.acts (with_addition t (inbox_addition t owner author id a moment)).acts
taken_acts t owner author id a moment =
    elim (is_known t id) as (λ b.
    AddsActs t.acts
    (with_addition t
    (if b then additions.Inbox id owner else additions.Activity
    (acceptance t (remote_act t owner author a moment)))).acts) [
      | true ↦
          record {
            f = with_recipient id owner;
            keeps = also_on id owner;
            more = [];
            is = sym (append-nil (map (with_recipient id owner) t.acts));
          }
      | false ↦
          let x : Act = remote_act t owner author a moment in
          record {
            f = affect (effect_of t x);
            keeps = affected_on (effect_of t x);
            more = x ∷ option_to_list (answer_to t x);
            is = refl;
          }
    ]

delivered_acts : (t : Town) (owner author id : Option (List ℕ)) (a : Activity) (moment : ℕ)
    → AddsActs t.acts (with_addition t (delivery_addition t owner author id a moment)).acts
delivered_acts t None author id a moment = as_before t.acts t.acts refl
delivered_acts t (Some owner) None id a moment = as_before t.acts t.acts refl
delivered_acts t (Some owner) (Some author) None a moment = as_before t.acts t.acts refl
delivered_acts t (Some owner) (Some author) (Some id) a moment =
    taken_acts t owner author id a moment

made_acts : (own : Option (List ℕ)) (t : Town) (name digest : List ℕ) (locked : Bool)
    → AddsActs t.acts (with_addition t (member_addition own name digest locked)).acts
made_acts None t name digest locked = as_before t.acts t.acts refl
made_acts (Some host) t name digest locked = as_before t.acts t.acts refl

pub step_acts : (t : Town) (e : Entry) → AddsActs t.acts (step t e).acts
step_acts t (Hosted host moment) = as_before t.acts t.acts refl
step_acts t (Made name digest locked moment) = made_acts t.host t name digest locked
step_acts t (PeerSet host key address relay moment) = as_before t.acts t.acts refl
step_acts t (Local name repeat a moment) = posted_acts t.host t name repeat a moment
step_acts t (Remote peer inbox a moment) = delivered_acts t (id_of t inbox) a.actor a.id a moment
step_acts t (Tried activity recipient came moment) = as_before t.acts t.acts refl

-- ---- inboxes

still_here : (id owner : List ℕ) (y z : Act) → Keeps y z
    → (has_activity_id id y && is_among owner y.recipients) ≡ true
    → (has_activity_id id z && is_among owner z.recipients) ≡ true
unfolding has_activity_id
still_here id owner y z k e =
    let parts = and_parts (is_id id y.activity.id) (is_among owner y.recipients) e in
    rw (k.id, parts.0, k.to owner parts.1) refl

keep_step : (t : Town) (e : Entry) (id owner : List ℕ) → has_inbox t (Some id) owner ≡ true
    → has_inbox (step t e) (Some id) owner ≡ true
keep_step t e id owner h =
    let g = step_acts t e in
    let p : Act → Bool = λ x. has_activity_id id x && is_among owner x.recipients in
    subst (λ (xs : List Act). list_any p xs ≡ true) (sym g.is)
    (any_more p (map g.f t.acts) g.more
    (any_on p p g.f (λ x k. still_here id owner x (g.f x) (g.keeps x) k) t.acts h))

keep_from : (t : Town) (more : List Entry) (id owner : List ℕ) → has_inbox t (Some id) owner ≡ true
    → has_inbox (fold step t more) (Some id) owner ≡ true
keep_from t [] id owner h = h
keep_from t (e ∷ more) id owner h = keep_from (step t e) more id owner (keep_step t e id owner h)

pub town-more : (h more : List Entry) → town (h ++ more) ≡ fold step (town h) more
town-more h more = fold-append step empty_town h more

pub keep : InboxesKeep
keep h more id owner x =
    subst (λ (t : Town). has_inbox t (Some id) owner ≡ true) (sym (town-more h more))
    (keep_from (town h) more id owner x)

-- ---- hosts, members and peers

front_from : (t : Town) (h more : List Entry) → is_legal_from t (h ++ more) ≡ true
    → is_legal_from t h ≡ true
front_from t [] more e = refl
front_from t (d ∷ h) more e =
    let parts = and_parts (is_admissible t d) (is_legal_from (step t d) (h ++ more)) e in
    rw (parts.0, front_from (step t d) h more parts.1) refl

pub fronts : FrontsAreLegal
fronts h more legal = record { admissible = front_from empty_town h more legal.admissible }

pub rest_from : (t : Town) (h more : List Entry) → is_legal_from t (h ++ more) ≡ true
    → is_legal_from (fold step t h) more ≡ true
rest_from t [] more e = e
rest_from t (d ∷ h) more e =
    rest_from (step t d) h more
    (and_parts (is_admissible t d) (is_legal_from (step t d) (h ++ more)) e).1

-- members and peers are only added
pub record Widens (t u : Town) : Type 0 where
  pub actors : List Actor
  pub actors_is : u.actors ≡ t.actors ++ actors
  pub peers : List Peer
  pub peers_is : u.peers ≡ t.peers ++ peers

narrow : (t u : Town) → u.actors ≡ t.actors → u.peers ≡ t.peers → Widens t u
narrow t u a p =
    record {
      actors = [];
      actors_is = a ∙ sym (append-nil t.actors);
      peers = [];
      peers_is = p ∙ sym (append-nil t.peers);
    }

wide_made : (own : Option (List ℕ)) (t : Town) (name digest : List ℕ) (locked : Bool)
    → Widens t (with_addition t (member_addition own name digest locked))
wide_made None t name digest locked = narrow t t refl refl
wide_made (Some host) t name digest locked =
    record { actors = _; actors_is = refl; peers = []; peers_is = sym (append-nil t.peers) }

wide_posted : (own : Option (List ℕ)) (t : Town) (name : List ℕ) (repeat : Option (List ℕ × List ℕ))
    (a : Activity) (moment : ℕ)
    → Widens t (with_addition t (post_addition own t name repeat a moment))
wide_posted None t name repeat a moment = narrow t t refl refl
wide_posted (Some host) t name repeat a moment = narrow t _ refl refl

wide_taken : (t : Town) (owner author id : List ℕ) (a : Activity) (moment : ℕ)
    → Widens t (with_addition t (inbox_addition t owner author id a moment))
wide_taken t owner author id a moment =
    elim (is_known t id) as (λ b.
    Widens t
    (with_addition t
    (if b then additions.Inbox id owner else additions.Activity
    (acceptance t (remote_act t owner author a moment))))) [
      | true ↦ narrow t _ refl refl
      | false ↦ narrow t _ refl refl
    ]

wide_delivered : (t : Town) (owner author id : Option (List ℕ)) (a : Activity) (moment : ℕ)
    → Widens t (with_addition t (delivery_addition t owner author id a moment))
wide_delivered t None author id a moment = narrow t t refl refl
wide_delivered t (Some owner) None id a moment = narrow t t refl refl
wide_delivered t (Some owner) (Some author) None a moment = narrow t t refl refl
wide_delivered t (Some owner) (Some author) (Some id) a moment =
    wide_taken t owner author id a moment

wide_step : (t : Town) (e : Entry) → Widens t (step t e)
wide_step t (Hosted host moment) = narrow t _ refl refl
wide_step t (Made name digest locked moment) = wide_made t.host t name digest locked
wide_step t (PeerSet host key address relay moment) =
    record { actors = []; actors_is = sym (append-nil t.actors); peers = _; peers_is = refl }
wide_step t (Local name repeat a moment) = wide_posted t.host t name repeat a moment
wide_step t (Remote peer inbox a moment) = wide_delivered t (id_of t inbox) a.actor a.id a moment
wide_step t (Tried activity recipient came moment) = narrow t _ refl refl

wide_from : (t : Town) (more : List Entry) → Widens t (fold step t more)
wide_from t [] = narrow t t refl refl
wide_from t (e ∷ more) =
    let a = wide_step t e in
    let b = wide_from (step t e) more in
    record {
      actors = a.actors ++ b.actors;
      actors_is =
          b.actors_is
          ∙ (ap (λ (xs : List Actor). xs ++ b.actors) a.actors_is
          ∙ append_assoc t.actors a.actors b.actors);
      peers = a.peers ++ b.peers;
      peers_is =
          b.peers_is
          ∙ (ap (λ (xs : List Peer). xs ++ b.peers) a.peers_is
          ∙ append_assoc t.peers a.peers b.peers);
    }

pub members : MembersStay
members h more name id legal is =
    let w = wide_from (town h) more in
    let found : find (has_name name) ((town h).actors ++ w.actors)
    ≡ find (has_name name) (town h).actors =
    find-stays (has_name name) (town h).actors w.actors
    (found_any (has_name name) (town h).actors id is) in
    ap (λ (t : Town). id_of t name) (town-more h more)
    ∙ (ap (λ (xs : List Actor). option_map (λ (a : Actor). a.id) (find (has_name name) xs))
    w.actors_is
    ∙ (ap (λ (o : Option Actor). option_map (λ (a : Actor). a.id) o) found ∙ is))

find_any : {A : Type 0} (p : A → Bool) (xs : List A) (x : A) → find p xs ≡ Some x
    → list_any p xs ≡ true
find_any p [] x e = absurd cc
find_any {A} p (y ∷ xs) x e =
    elim (p y) as (λ b. (if b then Some y else find p xs) ≡ Some x
    → (b || list_any p xs) ≡ true) [ true ↦ λ h. refl | false ↦ λ h. find_any p xs x h ] e

pub relays : RelaysStay
relays h more host r =
    let w = wide_from (town h) more in (
      r.0,
      ap (λ (t : Town). find (has_host host) t.peers) (town-more h more)
          ∙ (ap (find (has_host host)) w.peers_is
          ∙ (find-stays (has_host host) (town h).peers w.peers
          (find_any (has_host host) (town h).peers r.0 r.1) ∙ r.1)),
      r.2,
    )

-- the host is set once
set_up : (o : Option (List ℕ)) (host : List ℕ) → o ≡ Some host → is_none o ≡ true → ⊥
set_up None host e n = cc
set_up (Some own) host e n = cc

unset : (b : Bool) → is_none (if b then None else Some HostTaken) ≡ true → b ≡ true
unset true e = refl
unset false e = absurd cc

pub host_step : (t : Town) (e : Entry) (host : List ℕ) → t.host ≡ Some host
    → is_admissible t e ≡ true → (step t e).host ≡ Some host
host_step t (Hosted own moment) host h ok =
    absurd
    (set_up t.host host h
    (unset (is_none t.host)
    (and_parts (is_none (broken_command t (Hosted own moment))) (is_host_text own) ok).0))
host_step t (Made name digest locked moment) host h ok = made_host t t.host name digest locked ∙ h
host_step t (PeerSet own key address relay moment) host h ok = h
host_step t (Local name repeat a moment) host h ok = posted_host t t.host name repeat a moment ∙ h
host_step t (Remote peer inbox a moment) host h ok =
    delivered_host t (id_of t inbox) a.actor a.id a moment ∙ h
host_step t (Tried activity recipient came moment) host h ok = h

host_from : (t : Town) (more : List Entry) (host : List ℕ) → t.host ≡ Some host
    → is_legal_from t more ≡ true → (fold step t more).host ≡ Some host
host_from t [] host h ok = h
host_from t (e ∷ more) host h ok =
    let parts = and_parts (is_admissible t e) (is_legal_from (step t e) more) ok in
    host_from (step t e) more host (host_step t e host h parts.0) parts.1

pub hosts : HostsStay
hosts h more host legal at =
    ap (λ (t : Town). t.host) (town-more h more)
    ∙ host_from (town h) more host at (rest_from empty_town h more legal.admissible)
