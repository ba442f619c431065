-- In a legal history each activity has an id, a member's activity has an id of this host, and no
-- activity is sent to anybody twice.
use Rattle.std.proofs.Common.{◌≡◌, ℕ, suc, ◌+◌, Bool, true, false, List, [], ◌∷◌, ◌++◌, Option, Some, None, refl, sym, ap, subst, ◌∙◌, arith}
use Rattle.std.specs.Prelude.{◌&&◌, not, codes, decimal, is_none, nat_eq, map, option_to_list, if◌then◌else◌}
use Rattle.std.specs.List.{before_first, find, fold, list_all, flat_map, list_any, position_or_len, starts_with}
use Rattle.std.specs.Str.{bytes_eq}
use Rattle.std.proofs.lemmas.Bool.{and_parts, or_parts, not-true, not-false}
use Rattle.std.proofs.lemmas.List.Folds.{list_all-append}
use Rattle.fedi_address.proofs.Parts.{host_of-address}
use Rattle.fedi_address.specs.Hosts.{is_host_text, address}
use Rattle.fedi_address.specs.Iris.{host_of, is_at, is_slash}
use Rattle.fedi_address.specs.Pieces.{after_any}
use Rattle.fedi_address.specs.Recipients.{distinct}
use Rattle.fedi_town.proofs.IdsTown.{HasIds, step_by}
use Rattle.fedi_town.proofs.Sound.{IsHosted, is_set, not_hosted, step_sound}
use Rattle.fedi_objects.specs.declared.activity.Activity.{Activity}
use Rattle.fedi_objects.specs.declared.activity.ObjectRef.{ObjectRef}
use Rattle.fedi_objects.specs.declared.entry.Entry.{Entry}
use Rattle.fedi_objects.specs.declared.entry.Entry.TheVariants.{Hosted, Made, PeerSet, Local, Remote, Tried}
use Rattle.fedi_objects.specs.declared.kind.State.{State}
use Rattle.fedi_objects.specs.declared.kind.State.TheVariants.{Accepted, Undone}
use Rattle.fedi_town.proofs.Once.{distinct_once}
use Rattle.fedi_town.proofs.Texts.{bytes_eq-is, bytes_eq-same, not_both}
use Rattle.fedi_town.specs.Activities.{local_act, remote_act}
use Rattle.fedi_town.specs.declared.act.Act.{Act}
use Rattle.fedi_town.specs.declared.act.Actor.{Actor}
use Rattle.fedi_town.specs.declared.act.Peer.{Peer}
use Rattle.fedi_town.specs.declared.addition.Addition.TheVariants as additions
use Rattle.fedi_town.specs.declared.effect.Effect.{Effect}
use Rattle.fedi_town.specs.declared.effect.Effect.TheVariants as effects
use Rattle.fedi_town.specs.Effects.{acceptance, accept_by, accept_for, affect, answer_to, effect_of, end_follow, followee, in_state, is_pending_follow, is_standing_activity, where_passes, with_acceptance}
use Rattle.fedi_town.specs.Deeds.{is_accepted, is_follow}
use Rattle.fedi_town.specs.Forwarding.{forwards_at, forwards_of, is_ours, mentions}
use Rattle.fedi_town.specs.Histories.{delivery_addition, inbox_addition, is_known, member_addition, post_addition, step, town, with_addition, with_recipient}
use Rattle.fedi_town.specs.Ids.{activity_id, is_of_host}
use Rattle.fedi_town.specs.Legal.{IsLegal, broken_command, is_admissible, is_legal_from, may_deliver}
use Rattle.fedi_town.specs.Objects.{makes, rewrite_act, tombstone_of, update_object}
use Rattle.fedi_town.specs.Origins.{is_foreign, is_of_another}
use Rattle.fedi_town.specs.Relations.{has_activity_id, is_id, is_open_follow, ref_id}
use Rattle.fedi_town.specs.Shapes.{is_delivered, is_each_once}
use Rattle.fedi_town.specs.Towns.{Town, deed, empty_town, has_host, id_of}

-- ---- later changes of an activity leave who it is sent to

pub record IsUnmoved (y z : Act) : Type 0 where
  pub own : z.activity.id ≡ y.activity.id
  pub author : z.author ≡ y.author
  pub moment : z.moment ≡ y.moment
  pub recipients : z.recipients ≡ y.recipients
  pub forwards : z.forwards ≡ y.forwards

pub unmoved : (y : Act) → IsUnmoved y y
unmoved y = record { own = refl; author = refl; moment = refl; recipients = refl; forwards = refl }

where-unmoved : (p : Act → Bool) (f : Act → Act) (y : Act) → IsUnmoved y (f y) → IsUnmoved y (where_passes p f y)
where-unmoved p f y h = elim (p y) as (λ b. IsUnmoved y (if b then f y else y)) [ true ↦ h | false ↦ unmoved y ]

end-unmoved : (a b : List ℕ) (s : State) (y : Act) → IsUnmoved y (end_follow a b s y)
unfolding end_follow
end-unmoved a b s y = where-unmoved (is_open_follow a b) (in_state s) y (record { own = refl; author = refl; moment = refl; recipients = refl; forwards = refl })

then-unmoved : (x y z : Act) → IsUnmoved x y → IsUnmoved y z → IsUnmoved x z
then-unmoved x y z a b = record {
  own = b.own ∙ a.own;
  author = b.author ∙ a.author;
  moment = b.moment ∙ a.moment;
  recipients = b.recipients ∙ a.recipients;
  forwards = b.forwards ∙ a.forwards;
}

pub affected_unmoved : (e : Effect) (y : Act) → IsUnmoved y (affect e y)
unfolding rewrite_act
affected_unmoved effects.Nothing y = unmoved y
affected_unmoved (effects.Update id by stamp) y =
    where-unmoved (makes id) (rewrite_act (update_object by stamp)) y (record { own = refl; author = refl; moment = refl; recipients = refl; forwards = refl })
affected_unmoved (effects.Delete id kind stamp) y =
    where-unmoved (makes id) (rewrite_act (tombstone_of kind stamp)) y (record { own = refl; author = refl; moment = refl; recipients = refl; forwards = refl })
affected_unmoved (effects.Accept id) y =
    where-unmoved (is_pending_follow id) (in_state Accepted) y (record { own = refl; author = refl; moment = refl; recipients = refl; forwards = refl })
affected_unmoved (effects.EndFollows a b s) y = end-unmoved a b s y
affected_unmoved (effects.EndBoth a b) y =
    then-unmoved y (end_follow b a Undone y) (end_follow a b Undone (end_follow b a Undone y)) (end-unmoved b a Undone y) (end-unmoved a b Undone (end_follow b a Undone y))
affected_unmoved (effects.Undo id) y =
    where-unmoved (is_standing_activity id) (in_state Undone) y (record { own = refl; author = refl; moment = refl; recipients = refl; forwards = refl })

-- ---- activities that are sent well

-- there is an id, and that of a member's activity is of this host
abbrev pub is_own : List ℕ → Bool → Option (List ℕ) → Bool
is_own host local None = false
is_own host true (Some id) = bytes_eq (host_of id) host
is_own host false (Some id) = true

-- who it is sent to
abbrev pub sent_to : List ℕ → Act → List (List ℕ)
sent_to host x = if is_of_host host x.author then x.recipients else x.forwards

-- the same, and it is sent to nobody twice
unfoldable pub is_well : List ℕ → Act → Bool
is_well host x = is_own host (is_of_host host x.author) x.activity.id && is_each_once (sent_to host x)

pub record AreWell (t : Town) : Type 0 where
  pub well : (host : List ℕ) → t.host ≡ Some host → list_all (is_well host) t.acts ≡ true

-- ---- new activities

-- what is before the first slash depends on nothing after it
before-same : (xs ys : List ℕ) → before_first is_slash (xs ++ 47 ∷ ys) ≡ before_first is_slash (xs ++ 47 ∷ [])
before-same [] ys = refl
before-same (x ∷ xs) ys =
    elim (is_slash x) as (λ b. is_slash x ≡ b → before_first is_slash (x ∷ (xs ++ 47 ∷ ys)) ≡ before_first is_slash (x ∷ (xs ++ 47 ∷ []))) [
      | true ↦ λ e. rw e refl
      | false ↦ λ e.
          let more : 1 + position_or_len is_slash (xs ++ 47 ∷ ys) ≡ suc (position_or_len is_slash (xs ++ 47 ∷ ys)) = omega arith in
          let less : 1 + position_or_len is_slash (xs ++ 47 ∷ []) ≡ suc (position_or_len is_slash (xs ++ 47 ∷ [])) = omega arith in
          rw (e, more, less) (ap (λ (zs : List ℕ). x ∷ zs) (before-same xs ys))
    ] refl

-- an address at a host belongs to the host, whatever follows
host_of-any : (host rest : List ℕ) → is_host_text host ≡ true → host_of (codes "https://" ++ (host ++ 47 ∷ rest)) ≡ host
unfolding host_of
host_of-any host rest shape = ap (after_any is_at) (before-same host rest) ∙ host_of-address host (codes "/") shape refl

id_here : (host name : List ℕ) (number : ℕ) → is_host_text host ≡ true → host_of (activity_id host name number) ≡ host
unfolding activity_id
id_here host name number shape = host_of-any host (codes "users/" ++ (name ++ (codes "/a/" ++ decimal number))) shape

own_here : (host id : List ℕ) (local : Bool) → host_of id ≡ host → is_own host local (Some id) ≡ true
own_here host id true at = rw at (bytes_eq-same host)
own_here host id false at = refl

-- a member's activity, with an id of this host
record IsMade (host : List ℕ) (x : Act) : Type 0 where
  id : List ℕ
  own : x.activity.id ≡ Some id
  here : host_of id ≡ host
  once : is_each_once x.recipients ≡ true
  unsent : x.forwards ≡ []

made_once : (local : Bool) (rs fs : List (List ℕ)) → is_each_once rs ≡ true → fs ≡ [] → is_each_once (if local then rs else fs) ≡ true
made_once true rs fs once none = once
made_once false rs fs once none = rw none refl

made_well : (host : List ℕ) (x : Act) → IsMade host x → is_well host x ≡ true
unfolding is_well
made_well host x m =
    rw (m.own, own_here host m.id (is_of_host host x.author) m.here, made_once (is_of_host host x.author) x.recipients x.forwards m.once m.unsent) refl

local_made : (t : Town) (host name : List ℕ) (repeat : Option (List ℕ × List ℕ)) (a : Activity) (moment : ℕ) → is_host_text host ≡ true → IsMade host (local_act t host name repeat a moment)
local_made t host name repeat a moment shape = record { id = _; own = refl; here = id_here host name _ shape; once = distinct_once _; unsent = refl }

accept_made : (t : Town) (host : List ℕ) (x : Act) (member : Actor) → is_host_text host ≡ true → IsMade host (accept_by t host x member)
unfolding accept_by
accept_made t host x member shape = record { id = _; own = refl; here = id_here host member.name _ shape; once = distinct_once _; unsent = refl }

-- an activity of a remote author, which is forwarded to nobody twice
elsewhere : (host author : List ℕ) → bytes_eq (host_of author) host ≡ false → is_of_host host author ≡ false
unfolding is_of_host
elsewhere host author other = rw other (none (starts_with nat_eq author (codes "https://")))
  where
    none : (b : Bool) → (b && false) ≡ false
    none true = refl
    none false = refl

forwards-once : (t : Town) (author : List ℕ) (a : Activity) → is_each_once (forwards_of t author a) ≡ true
unfolding forwards_of
forwards-once t author a =
    elim (list_any (is_ours t) (mentions t a)) as
    (λ b. is_each_once (if b then distinct (flat_map (forwards_at t author) (a.recipients.to ++ (a.recipients.cc ++ a.recipients.audience))) else []) ≡ true) [
      | true ↦ distinct_once _
      | false ↦ refl
    ]

away_well : (host : List ℕ) (x : Act) (id : List ℕ) → is_of_host host x.author ≡ false → x.activity.id ≡ Some id → is_each_once x.forwards ≡ true → is_well host x ≡ true
unfolding is_well
away_well host x id far own once = rw (far, own, once) refl

remote_well : (t : Town) (host owner author id : List ℕ) (a : Activity) (moment : ℕ) → bytes_eq (host_of author) host ≡ false → a.id ≡ Some id
    → is_well host (remote_act t owner author a moment) ≡ true
remote_well t host owner author id a moment other own =
    away_well host (remote_act t owner author a moment) id (elsewhere host author other) own (forwards-once t author a)

-- ---- one more activity

well-mapped : (host : List ℕ) (f : Act → Act) (acts : List Act) → ((y : Act) → IsUnmoved y (f y)) → list_all (is_well host) acts ≡ true → list_all (is_well host) (map f acts) ≡ true
unfolding is_well
well-mapped host f [] same all = refl
well-mapped host f (y ∷ acts) same all =
    let parts = and_parts (is_well host y) (list_all (is_well host) acts) all in
    let u = same y in
    let own : is_well host (f y) ≡ true = rw (u.own, u.author, u.recipients, u.forwards) parts.0 in
    rw own (well-mapped host f acts same parts.1)

answer_well : (t : Town) (host : List ℕ) (x : Act) (member : Option Actor) → is_host_text host ≡ true → list_all (is_well host) (option_to_list (accept_for (Some host) t x member)) ≡ true
answer_well t host x None shape = refl
answer_well t host x (Some member) shape = rw (made_well host (accept_by t host x member) (accept_made t host x member shape)) refl

answers_well : (t : Town) (host : List ℕ) (x : Act) → t.host ≡ Some host → is_host_text host ≡ true → list_all (is_well host) (option_to_list (answer_to t x)) ≡ true
answers_well t host x hosted shape =
    elim (is_follow (deed x) && is_accepted x.state) as
    (λ b. list_all (is_well host) (option_to_list (if b then accept_for t.host t x (followee t (ref_id x.activity.object)) else None)) ≡ true) [
      | true ↦ subst (λ (k : Option (List ℕ)). list_all (is_well host) (option_to_list (accept_for k t x (followee t (ref_id x.activity.object)))) ≡ true) (sym hosted)
          (answer_well t host x (followee t (ref_id x.activity.object)) shape)
      | false ↦ refl
    ]

accepted_well : (t : Town) (host : List ℕ) (x : Act) → t.host ≡ Some host → is_host_text host ≡ true → list_all (is_well host) t.acts ≡ true → is_well host x ≡ true
    → list_all (is_well host) (with_acceptance t (acceptance t x)).acts ≡ true
accepted_well t host x hosted shape all own =
    let f : Act → Act = affect (effect_of t x) in
    list_all-append (is_well host) (map f t.acts) (x ∷ option_to_list (answer_to t x))
    ∙ rw (well-mapped host f t.acts (affected_unmoved (effect_of t x)) all, own, answers_well t host x hosted shape) refl

-- ---- one more inbox

-- the activities with this id are not by a member
pub is_away : (host : List ℕ) (id : List ℕ) (y : Act) → bytes_eq (host_of id) host ≡ false → is_well host y ≡ true → has_activity_id id y ≡ true → is_of_host host y.author ≡ false
unfolding is_well has_activity_id
is_away host id y other well has = by (is_of_host host y.author) refl y.activity.id has (and_parts (is_own host (is_of_host host y.author) y.activity.id) _ well).0
  where
    by : (local : Bool) → is_of_host host y.author ≡ local → (own : Option (List ℕ)) → is_id id own ≡ true → is_own host local own ≡ true → is_of_host host y.author ≡ false
    by true e None has well = absurd cc
    by true e (Some i) has well = absurd (not_both (bytes_eq (host_of id) host) (subst (λ (j : List ℕ). bytes_eq (host_of j) host ≡ true) (bytes_eq-is i id has) well) other)
    by false e own has well = e

inbox-one : (host id owner : List ℕ) (y : Act) → bytes_eq (host_of id) host ≡ false → is_well host y ≡ true → is_well host (with_recipient id owner y) ≡ true
unfolding is_well
inbox-one host id owner y other well =
    elim (has_activity_id id y) as (λ b. has_activity_id id y ≡ b → is_well host (if b then record y { recipients = y.recipients ++ owner ∷ [] } else y) ≡ true) [
      | true ↦ λ has. let far = is_away host id y other well has in rw far (rw far at well)
      | false ↦ λ none. well
    ] refl

inbox_well : (host id owner : List ℕ) (acts : List Act) → bytes_eq (host_of id) host ≡ false → list_all (is_well host) acts ≡ true → list_all (is_well host) (map (with_recipient id owner) acts) ≡ true
inbox_well host id owner [] other all = refl
inbox_well host id owner (y ∷ acts) other all =
    let parts = and_parts (is_well host y) (list_all (is_well host) acts) all in
    rw (inbox-one host id owner y other parts.0) (inbox_well host id owner acts other parts.1)

-- ---- what a peer may deliver

-- neither its author nor its id belongs to this host
pub record IsAway (host author id : List ℕ) : Type 0 where
  pub of_author : bytes_eq (host_of author) host ≡ false
  pub of_id : bytes_eq (host_of id) host ≡ false

away_by : (host : List ℕ) (p : Peer) (author id : List ℕ) (r : ObjectRef) → is_foreign (Some host) p (Some author) (Some id) r ≡ false → IsAway host author id
away_by host p author id r e =
    let a = or_parts (bytes_eq (host_of author) host) _ e in
    let b = or_parts (not (bytes_eq (host_of author) p.host) && not p.relay) _ a.1 in
    let c = or_parts (not (bytes_eq (host_of id) (host_of author))) (is_of_another author r) b.1 in
    let same : host_of id ≡ host_of author = bytes_eq-is (host_of id) (host_of author) (not-false (bytes_eq (host_of id) (host_of author)) c.0) in
    record { of_author = a.0; of_id = rw same a.0 }

pub away : (host : List ℕ) (p : Option Peer) (t : Town) (a : Activity) (author id : List ℕ) → t.host ≡ Some host → a.actor ≡ Some author → a.id ≡ Some id → may_deliver t p a ≡ true → IsAway host author id
away host None t a author id hosted by own ok = absurd cc
away host (Some p) t a author id hosted by own ok =
    away_by host p author id a.object (rw (hosted, by, own) at (not-true (is_foreign t.host p a.actor a.id a.object) ok))

-- ---- entries

posted_well : (t : Town) (host : List ℕ) (own : Option (List ℕ)) (name : List ℕ) (repeat : Option (List ℕ × List ℕ)) (a : Activity) (moment : ℕ) → t.host ≡ Some host → own ≡ Some host → is_host_text host ≡ true
    → list_all (is_well host) t.acts ≡ true → list_all (is_well host) (with_addition t (post_addition own t name repeat a moment)).acts ≡ true
posted_well t host None name repeat a moment hosted is shape all = all
posted_well t host (Some own) name repeat a moment hosted is shape all =
    let same : own ≡ host = cc in
    rw same (accepted_well t host (local_act t host name repeat a moment) hosted shape all (made_well host (local_act t host name repeat a moment) (local_made t host name repeat a moment shape)))

came_well : (t : Town) (host owner author id : List ℕ) (a : Activity) (moment : ℕ) → t.host ≡ Some host → is_host_text host ≡ true → a.id ≡ Some id → IsAway host author id
    → list_all (is_well host) t.acts ≡ true → list_all (is_well host) (with_addition t (inbox_addition t owner author id a moment)).acts ≡ true
came_well t host owner author id a moment hosted shape own far all =
    elim (is_known t id) as
    (λ b. list_all (is_well host) (with_addition t (if b then additions.Inbox id owner else additions.Activity (acceptance t (remote_act t owner author a moment)))).acts ≡ true) [
      | true ↦ inbox_well host id owner t.acts far.of_id all
      | false ↦ accepted_well t host (remote_act t owner author a moment) hosted shape all (remote_well t host owner author id a moment far.of_author own)
    ]

delivered_well : (t : Town) (host : List ℕ) (p : Option Peer) (owner author id : Option (List ℕ)) (a : Activity) (moment : ℕ) → t.host ≡ Some host → is_host_text host ≡ true → a.actor ≡ author → a.id ≡ id
    → may_deliver t p a ≡ true → list_all (is_well host) t.acts ≡ true → list_all (is_well host) (with_addition t (delivery_addition t owner author id a moment)).acts ≡ true
delivered_well t host p None author id a moment hosted shape by own ok all = all
delivered_well t host p (Some owner) None id a moment hosted shape by own ok all = all
delivered_well t host p (Some owner) (Some author) None a moment hosted shape by own ok all = all
delivered_well t host p (Some owner) (Some author) (Some id) a moment hosted shape by own ok all =
    came_well t host owner author id a moment hosted shape own (away host p t a author id hosted by own ok) all

-- the host stays the same
pub made_host : (t : Town) (host : Option (List ℕ)) (name digest : List ℕ) (locked : Bool) → (with_addition t (member_addition host name digest locked)).host ≡ t.host
made_host t None name digest locked = refl
made_host t (Some host) name digest locked = refl

pub made-acts : (t : Town) (host : Option (List ℕ)) (name digest : List ℕ) (locked : Bool) → (with_addition t (member_addition host name digest locked)).acts ≡ t.acts
made-acts t None name digest locked = refl
made-acts t (Some host) name digest locked = refl

pub posted_host : (t : Town) (host : Option (List ℕ)) (name : List ℕ) (repeat : Option (List ℕ × List ℕ)) (a : Activity) (moment : ℕ) → (with_addition t (post_addition host t name repeat a moment)).host ≡ t.host
posted_host t None name repeat a moment = refl
posted_host t (Some host) name repeat a moment = refl

pub delivered_host : (t : Town) (owner author id : Option (List ℕ)) (a : Activity) (moment : ℕ) → (with_addition t (delivery_addition t owner author id a moment)).host ≡ t.host
delivered_host t None author id a moment = refl
delivered_host t (Some owner) None id a moment = refl
delivered_host t (Some owner) (Some author) None a moment = refl
delivered_host t (Some owner) (Some author) (Some id) a moment =
    elim (is_known t id) as (λ b. (with_addition t (if b then additions.Inbox id owner else additions.Activity (acceptance t (remote_act t owner author a moment)))).host ≡ t.host) [ true ↦ refl | false ↦ refl ]

set-host : (h : Option (List ℕ)) (host : List ℕ) → h ≡ Some host → is_set h ≡ true → is_host_text host ≡ true
set-host None host is set = absurd cc
set-host (Some own) host is set = let same : own ≡ host = cc in rw (← same) set

pub none_before : (h : Option (List ℕ)) (acts : List Act) → is_none h ≡ true → HasIds h acts → acts ≡ []
none_before None acts none ids = ids
none_before (Some host) acts none ids = absurd cc

-- the activities are sent well after one more entry
pub well_stepped : (t : Town) (e : Entry) → IsHosted t → HasIds t.host t.acts → is_admissible t e ≡ true → AreWell t → AreWell (step t e)
well_stepped t (Hosted own moment) sound ids ok w =
    let empty = none_before t.host t.acts (not_hosted t own moment (and_parts (is_none (broken_command t (Hosted own moment))) (is_host_text own) ok).0) ids in
    record { well = λ host is. rw empty refl }
well_stepped t (Made name digest locked moment) sound ids ok w =
    record { well = λ host is. rw (made-acts t t.host name digest locked) (w.well host (sym (made_host t t.host name digest locked) ∙ is)) }
well_stepped t (PeerSet peer key address relay moment) sound ids ok w = record { well = w.well }
well_stepped t (Local name repeat a moment) sound ids ok w = record {
  well = λ host is.
      let hosted : t.host ≡ Some host = sym (posted_host t t.host name repeat a moment) ∙ is in
      posted_well t host t.host name repeat a moment hosted hosted (set-host t.host host hosted sound.host) (w.well host hosted);
}
well_stepped t (Remote peer inbox a moment) sound ids ok w = record {
  well = λ host is.
      let hosted : t.host ≡ Some host = sym (delivered_host t (id_of t inbox) a.actor a.id a moment) ∙ is in
      let may = (and_parts (may_deliver t (find (has_host peer) t.peers) a) _ (and_parts (is_delivered a) _ ok).1).0 in
      delivered_well t host (find (has_host peer) t.peers) (id_of t inbox) a.actor a.id a moment hosted (set-host t.host host hosted sound.host) refl refl may (w.well host hosted);
}
well_stepped t (Tried activity recipient came moment) sound ids ok w = record { well = w.well }

-- ---- histories

-- what is known of the town of a legal history
pub record IsKnown (t : Town) : Type 0 where
  pub sound : IsHosted t
  pub ids : HasIds t.host t.acts
  pub well : AreWell t

known_from : (t : Town) (history : List Entry) → is_legal_from t history ≡ true → IsKnown t → IsKnown (fold step t history)
known_from t [] legal k = k
known_from t (e ∷ history) legal k =
    let parts = and_parts (is_admissible t e) (is_legal_from (step t e) history) legal in
    known_from (step t e) history parts.1 (record {
      sound = step_sound t e parts.0 k.sound;
      ids = step_by t t.host e refl k.sound parts.0 k.ids;
      well = well_stepped t e k.sound k.ids parts.0 k.well;
    })

pub town_known : (history : List Entry) → IsLegal history → IsKnown (town history)
town_known history legal =
    known_from empty_town history legal.admissible (record {
      sound = record { sound = record { members = refl; peers = refl }; host = refl };
      ids = refl;
      well = record { well = λ host is. refl };
    })

pub known_at : (t : Town) (history : List Entry) → t ≡ town history → IsLegal history → IsKnown t
known_at t history is legal = subst IsKnown (sym is) (town_known history legal)
