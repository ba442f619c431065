-- The entry that an ask makes is admissible, so a legal history stays legal.
use Rattle.std.proofs.Common.{◌≡◌, ℕ, Bool, true, false, List, [], ◌∷◌, Option, Some, None, refl, ap, subst}
use Rattle.std.specs.Prelude.{filter, if◌then◌else◌, option_map}
use Rattle.std.specs.List.{list_any, find, filter_map, cons_option}
use Rattle.std.specs.Str.{bytes_eq}
use Rattle.fedi_town.specs.declared.refusal.Refusal.{Refusal}
use Rattle.fedi_town.specs.declared.refusal.Refusal.TheVariants.{NotOrigin}
use Rattle.fedi_objects.specs.declared.activity.Activity as activities
use Rattle.fedi_objects.specs.declared.entry.Entry.{Entry}
use Rattle.fedi_objects.specs.declared.entry.Entry.TheVariants.{Local, Remote}
use Rattle.fedi_model.specs.AnswerKinds.{Refuse}
use Rattle.fedi_model.specs.Asks.{IsRead, IsReadFor, IsPostable, entry_of}
use Rattle.fedi_model.specs.Posting.{Judgement, Stop, Repeat, Keep, by_steps, judge_read, unless_repeat, judge_activity, unless_broken, judge_post, repeat_under, is_bad_key, is_there, judge_delivery, judge_inbox, repeat_by, post_entry, inbox_entry, entry_at, inbox_entry_at, delivery_of}
use Rattle.fedi_model.specs.Reading.{is_nobody, is_self}
use Rattle.fedi_model.specs.declared.ask.Ask.{Ask}
use Rattle.fedi_model.specs.declared.ask.Ask.TheVariants.{Nowhere, WrongMethod, Webfinger, Actor, Collection, Activity, Object, Outbox, Inbox, Board}
use Rattle.fedi_model.specs.declared.post.KeyAsk.{KeyAsk}
use Rattle.fedi_model.specs.declared.post.KeyAsk.TheVariants.{Absent, Malformed, Given}
use Rattle.fedi_model.specs.declared.post.Post.{Post}
use Rattle.fedi_model.specs.declared.post.Read.{Read}
use Rattle.fedi_model.specs.declared.post.Read.TheVariants.{NotJson, Bad, Ready}
use Rattle.fedi_laws.proofs.Knowledge.{self_is}
use Rattle.fedi_town.specs.Agreement.{repeats_of}
use Rattle.fedi_town.specs.Origins.{is_foreign, has_inbox}
use Rattle.fedi_town.specs.Legal.{is_admissible, may_deliver, is_new_key, has_key}
use Rattle.fedi_town.specs.Rules.{broken_post}
use Rattle.fedi_town.specs.Shapes.{is_posted, is_delivered}
use Rattle.fedi_town.specs.Towns.{Town, is_by, has_host, id_of}
use Rattle.fedi_town.specs.declared.act.Act.{Act}
use Rattle.fedi_town.specs.declared.act.Peer.{Peer}
use Rattle.fedi_town.specs.declared.caller.Caller.{Caller}
use Rattle.fedi_town.specs.declared.caller.Caller.TheVariants as callers

steps_kept : (k n s ty : Bool) (v : Judgement) (a : activities.Activity) → by_steps k n s ty v ≡ Keep a → (s ≡ true) × (v ≡ Keep a)
steps_kept true n s ty v a e = absurd cc
steps_kept false true s ty v a e = absurd cc
steps_kept false false false ty v a e = absurd cc
steps_kept false false true false v a e = absurd cc
steps_kept false false true true v a e = (refl, e)

-- ---- a post

record IsJudged (t : Town) (c : Caller) (author : List ℕ) (key : KeyAsk) (a : activities.Activity) : Type 0 where
  unbroken : broken_post t c author a ≡ None
  new : repeat_under (repeats_of t author) key ≡ None

rule_kept : (r : Option Refusal) (a b : activities.Activity) → unless_broken r (Keep a) ≡ Keep b → (r ≡ None) × (a ≡ b)
rule_kept None a b e = (refl, let same : a ≡ b = cc in same)
rule_kept (Some x) a b e = absurd cc

choice_kept : (s : Bool) (l : Option (List ℕ)) (w : Judgement) (b : activities.Activity) (x : _) → (if s then Repeat l else Stop x) ≡ Keep b → ⊥
choice_kept true l w b x e = absurd cc
choice_kept false l w b x e = absurd cc

new_kept : (digest : List ℕ) (k : Option ((List ℕ × List ℕ) × Option (List ℕ))) (v : Judgement) (b : activities.Activity) → unless_repeat digest k v ≡ Keep b → (k ≡ None) × (v ≡ Keep b)
new_kept digest None v b e = (refl, e)
new_kept digest (Some k) v b e = absurd (choice_kept (bytes_eq k.0.1 digest) k.1 v b _ e)

read_kept : (t : Town) (c : Caller) (author : List ℕ) (post : Post) (read : Read) (b : activities.Activity) → IsRead (is_posted author) read
    → judge_read t c author post read ≡ Keep b → (is_posted author b ≡ true) × IsJudged t c author post.key b
read_kept t c author post NotJson b is e = absurd cc
read_kept t c author post (Bad fault) b is e = absurd cc
read_kept t c author post (Ready a) b is e =
    let first = new_kept post.digest (repeat_under (repeats_of t author) post.key) (judge_activity t c author a) b e in
    let second = rule_kept (broken_post t c author a) a b first.1 in
    subst (λ (x : activities.Activity). (is_posted author x ≡ true) × IsJudged t c author post.key x) second.1
    (is, record { unbroken = second.0; new = first.0 })

-- a key that nothing was posted under
abbrev Kept : Type 0
Kept = (List ℕ × List ℕ) × Option (List ℕ)

abbrev under : List ℕ → Kept → Bool
under key r = bytes_eq r.0.0 key

abbrev kept_of : Act → Option Kept
kept_of x = option_map (λ r. (r, x.activity.id)) x.repeat

unused_by : (key : List ℕ) (r : Option (List ℕ × List ℕ)) (id : Option (List ℕ)) (rest : List Kept) → find (under key) (cons_option (option_map (λ q. (q, id)) r) rest) ≡ None
    → (has_key key r ≡ false) × (find (under key) rest ≡ None)
unused_by key None id rest e = (refl, e)
unused_by key (Some r) id rest e =
    elim (bytes_eq r.0 key) as (λ b. (if b then Some (r, id) else find (under key) rest) ≡ None → (b ≡ false) × (find (under key) rest ≡ None)) [
      | true ↦ λ h. absurd cc
      | false ↦ λ h. (refl, h)
    ] e

unused : (key : List ℕ) (xs : List Act) → find (under key) (filter_map kept_of xs) ≡ None → list_any (λ x. has_key key x.repeat) xs ≡ false
unused key [] e = refl
unused key (x ∷ xs) e =
    let h = unused_by key x.repeat x.activity.id (filter_map kept_of xs) e in
    rw (h.0, unused key xs h.1) refl

is_new : (acts : List Act) (digest : List ℕ) (key : KeyAsk) → repeat_under (filter_map kept_of acts) key ≡ None
    → is_new_key acts (repeat_by digest key) ≡ true
is_new acts digest Absent e = refl
is_new acts digest Malformed e = refl
is_new acts digest (Given key) e = rw (unused key acts e) refl

post_admissible : (t : Town) (c : Caller) (name author : List ℕ) (post : Post) (moment : ℕ) (v : Judgement) (e : Entry) → IsRead (is_posted author) post.read
    → id_of t name ≡ Some author → judge_post t c name author post ≡ v → post_entry name post moment v ≡ Some e → is_admissible t e ≡ true
post_admissible t c name author post moment (Stop r) e read id verdict made = absurd cc
post_admissible t c name author post moment (Repeat l) e read id verdict made = absurd cc
post_admissible t c name author post moment (Keep a) e read id verdict made =
    let steps = steps_kept (is_bad_key post.key) (is_nobody c) (is_self c name) post.is_typed (judge_read t c author post post.read) a verdict in
    let kept = read_kept t c author post post.read a read steps.1 in
    let j : IsJudged t (callers.Actor name) author post.key a = subst (λ (d : Caller). IsJudged t d author post.key a) (self_is c name steps.0) kept.1 in
    let same : Local name (repeat_by post.digest post.key) a moment ≡ e = cc in
    subst (λ (x : Entry). is_admissible t x ≡ true) same
    (rw (id, kept.0, is_new (filter (is_by author) t.acts) post.digest post.key j.new, j.unbroken) refl)

-- ---- a delivery

known_kept : (t : Town) (p : Peer) (known : Bool) (a b : activities.Activity) → is_delivered a ≡ true → is_foreign t.host p a.actor a.id a.object ≡ false
    → (if known then Repeat None else Keep a) ≡ Keep b → (is_delivered b ≡ true) × (may_deliver t (Some p) b ≡ true) × (known ≡ false) × (Ready a ≡ Ready b)
known_kept t p true a b is o h = absurd cc
known_kept t p false a b is o h =
    let same : a ≡ b = cc in
    subst (λ (x : activities.Activity). (is_delivered x ≡ true) × (may_deliver t (Some p) x ≡ true) × (false ≡ false) × (Ready a ≡ Ready x)) same (is, rw o refl, refl, refl)

delivery_kept : (t : Town) (p : Option Peer) (known : Bool) (read : Read) (b : activities.Activity) → IsRead is_delivered read
    → judge_delivery t.host p known read ≡ Keep b → (is_delivered b ≡ true) × (may_deliver t p b ≡ true) × (known ≡ false) × (read ≡ Ready b)
delivery_kept t None known read b is e = absurd cc
delivery_kept t (Some p) known NotJson b is e = absurd cc
delivery_kept t (Some p) known (Bad fault) b is e = absurd cc
delivery_kept t (Some p) known (Ready a) b is e =
    elim (is_foreign t.host p a.actor a.id a.object) as (λ f. is_foreign t.host p a.actor a.id a.object ≡ f
    → (if f then Stop (Refuse NotOrigin) else (if known then Repeat None else Keep a)) ≡ Keep b → (is_delivered b ≡ true) × (may_deliver t (Some p) b ≡ true) × (known ≡ false) × (Ready a ≡ Ready b)) [
      | true ↦ λ o h. absurd cc
      | false ↦ λ o h. known_kept t p known a b is o h
    ] refl e

inbox_admissible_by : (t : Town) (host name owner : List ℕ) (post : Post) (moment : ℕ) (a : activities.Activity) (e : Entry) → IsRead is_delivered post.read
    → id_of t name ≡ Some owner → judge_delivery t.host (find (has_host host) t.peers) (is_there t owner post.read) post.read ≡ Keep a
    → delivery_of (callers.Peer host) name a moment ≡ Some e → is_admissible t e ≡ true
inbox_admissible_by t host name owner post moment a e read id verdict made =
    let k = delivery_kept t (find (has_host host) t.peers) (is_there t owner post.read) post.read a read verdict in
    let lacks_it : has_inbox t a.id owner ≡ false = subst (λ (r : Read). is_there t owner r ≡ false) k.3 k.2 in
    let same : Remote host name a moment ≡ e = cc in
    subst (λ (x : Entry). is_admissible t x ≡ true) same (rw (k.0, k.1, id, lacks_it) refl)

inbox_admissible : (t : Town) (c : Caller) (name owner : List ℕ) (post : Post) (moment : ℕ) (v : Judgement) (e : Entry) → IsRead is_delivered post.read
    → id_of t name ≡ Some owner → judge_inbox t c owner post ≡ v → inbox_entry c name moment v ≡ Some e → is_admissible t e ≡ true
inbox_admissible t c name owner post moment (Stop r) e read id verdict made = absurd cc
inbox_admissible t c name owner post moment (Repeat l) e read id verdict made = absurd cc
inbox_admissible t callers.Nobody name owner post moment (Keep a) e read id verdict made = absurd cc
inbox_admissible t (callers.Actor own) name owner post moment (Keep a) e read id verdict made = absurd cc
inbox_admissible t (callers.Peer host) name owner post moment (Keep a) e read id verdict made =
    let steps = steps_kept false false true post.is_typed (judge_delivery t.host (find (has_host host) t.peers) (is_there t owner post.read) post.read) a verdict in
    inbox_admissible_by t host name owner post moment a e read id steps.1 made

-- ---- each ask

posted_by : (t : Town) (c : Caller) (name : List ℕ) (post : Post) (moment : ℕ) (a : Option (List ℕ)) (e : Entry) → IsReadFor a post.read
    → id_of t name ≡ a → entry_at t c name post moment a ≡ Some e → is_admissible t e ≡ true
posted_by t c name post moment None e read id made = absurd cc
posted_by t c name post moment (Some author) e read id made =
    post_admissible t c name author post moment (judge_post t c name author post) e read id refl made

delivered_by : (t : Town) (c : Caller) (name : List ℕ) (post : Post) (moment : ℕ) (a : Option (List ℕ)) (e : Entry) → IsRead is_delivered post.read
    → id_of t name ≡ a → inbox_entry_at t c name post moment a ≡ Some e → is_admissible t e ≡ true
delivered_by t c name post moment None e read id made = absurd cc
delivered_by t c name post moment (Some owner) e read id made =
    inbox_admissible t c name owner post moment (judge_inbox t c owner post) e read id refl made

-- The entry that an ask makes is admissible.
pub entry_admissible : (t : Town) (c : Caller) (ask : Ask) (moment : ℕ) (e : Entry) → IsPostable t ask → entry_of t c ask moment ≡ Some e → is_admissible t e ≡ true
entry_admissible t c Nowhere moment e p made = absurd cc
entry_admissible t c (WrongMethod allow) moment e p made = absurd cc
entry_admissible t c (Webfinger resource) moment e p made = absurd cc
entry_admissible t c (Actor name) moment e p made = absurd cc
entry_admissible t c (Collection which ask) moment e p made = absurd cc
entry_admissible t c (Board name slug ask) moment e p made = absurd cc
entry_admissible t c (Activity name number) moment e p made = absurd cc
entry_admissible t c (Object name number) moment e p made = absurd cc
entry_admissible t c (Outbox name post) moment e p made = posted_by t c name post moment (id_of t name) e p refl made
entry_admissible t c (Inbox name post) moment e p made = delivered_by t c name post moment (id_of t name) e p refl made
