-- In a legal history no two activities have the same id: the steps.
use Rattle.std.proofs.Common.{◌≡◌, ℕ, ◌+◌, ◌^◌, ◌<◌, Bool, true, false, List, [], ◌∷◌, ◌++◌, length, Option, Some, None, refl, sym, ap, subst, ◌∙◌, arith}
use Rattle.std.specs.Prelude.{◌&&◌, ◌||◌, not, map, filter, nat_lt, is_none, if◌then◌else◌, option_map, option_to_list}
use Rattle.std.specs.List.{list_any, list_all, find, fold}
use Rattle.std.specs.Str.{bytes_eq}
use Rattle.std.proofs.lemmas.Bool.{and_parts, ltb-true, or_parts, not-true, not-false}
use Rattle.std.proofs.lemmas.List.{append-nil}
use Rattle.fedi_address.specs.Hosts.{is_host_text}
use Rattle.fedi_address.specs.Iris.{host_of}
use Rattle.fedi_address.specs.Names.{is_name}
use Rattle.fedi_objects.specs.declared.activity.Activity.{Activity}
use Rattle.fedi_objects.specs.declared.activity.ObjectRef.{ObjectRef}
use Rattle.fedi_objects.specs.declared.entry.Entry.{Entry}
use Rattle.fedi_objects.specs.declared.entry.Entry.TheVariants.{Hosted, Made, PeerSet, Local, Remote, Tried}
use Rattle.fedi_objects.specs.declared.kind.State.TheVariants.{Accepted, Pending, Rejected}
use Rattle.fedi_town.proofs.Due.{affected_on, also_on}
use Rattle.fedi_town.proofs.Kept.{ref_received}
use Rattle.fedi_town.specs.Lists.{PassesOnce}
use Rattle.fedi_town.proofs.IdsOnce.{AreOnce, next_once, foreign_once, mapped_once, count-push, count-map}
use Rattle.fedi_town.proofs.Lists.{list_any-through}
use Rattle.fedi_town.proofs.Members.{is_member, IsFound, found}
use Rattle.fedi_town.proofs.Sound.{IsHosted, is_set, not_hosted, step_sound}
use Rattle.fedi_town.proofs.Steps.{accept, accept_in_steps, with_act, accepts_for, after_delivery, after_inbox, after_post}
use Rattle.fedi_town.proofs.People.{id_of-is, named_is}
use Rattle.fedi_town.specs.Activities.{local_act, remote_act}
use Rattle.fedi_town.specs.Deeds.{is_follow, is_accepted, deed_of}
use Rattle.fedi_town.specs.Origins.{is_foreign, is_of_another}
use Rattle.fedi_town.specs.Effects.{acceptance, accept_for, affect, effect_of, accept_by, followee}
use Rattle.fedi_town.specs.declared.addition.Addition.TheVariants as additions
use Rattle.fedi_town.specs.Histories.{with_addition, member_addition, with_recipient, is_known, step, town}
use Rattle.fedi_town.specs.Ids.{actor_id}
use Rattle.fedi_town.specs.Legal.{broken_command, is_admissible, is_legal_from, IsLegal, is_new_key, may_post, may_deliver}
use Rattle.fedi_town.specs.Objects.{is_whole}
use Rattle.fedi_town.specs.Relations.{ref_id, has_activity_id, is_actor, has_block_between}
use Rattle.fedi_town.specs.Rules.{broken, first_broken, refuse_if}
use Rattle.fedi_town.specs.Shapes.{is_delivered, is_posted}
use Rattle.fedi_town.specs.States.{state_of, state_about, follow_state, has_room, is_locked, only_where}
use Rattle.fedi_town.specs.Towns.{Town, deed, empty_town, has_id, has_name, is_by, has_host, id_of, has_next, count_of, count_after}
use Rattle.fedi_town.specs.declared.act.Act.{Act}
use Rattle.fedi_town.specs.declared.act.Actor.{Actor}
use Rattle.fedi_town.specs.declared.act.Peer.{Peer}
use Rattle.fedi_town.specs.declared.caller.Caller.TheVariants as callers
use Rattle.fedi_town.specs.declared.refusal.Refusal.{Refusal}
use Rattle.fedi_town.specs.declared.refusal.Refusal.TheVariants.{ActorFull}
use Rattle.fedi_town.specs.declared.deed.Deed.{Deed}
use Rattle.fedi_town.specs.declared.deed.Deed.TheVariants.{Follow}
use Rattle.fedi_town.proofs.Texts.{bytes_eq-is}
use Rattle.fedi_town.proofs.Posted.{follows_is}

-- nothing before the server not-false set up, and after that each id once
abbrev pub HasIds : Option (List ℕ) → List Act → Type 0
HasIds None acts = acts ≡ []
HasIds (Some host) acts = AreOnce host acts

none_once : (host : List ℕ) → AreOnce host []
none_once host = record { once = λ id. tt; fresh = record { free = λ name n named above small. refl } }

-- ---- room for the Accept

room_in : (a b : Bool) → is_accepted (if a && b then Accepted else Pending) ≡ true → b ≡ true
room_in true true e = refl
room_in true false e = absurd cc
room_in false b e = absurd cc

not_pending : (local : Bool) → is_accepted (only_where local Pending) ≡ true → ⊥
not_pending true e = absurd cc
not_pending false e = absurd cc

room_for : (t : Town) (local : Bool) (author b : List ℕ) (full : Bool) → is_accepted (state_about t local author Follow full b) ≡ true → has_room t author b ≡ true
unfolding follow_state
room_for t local author b full e =
    elim (is_actor t b) as (λ s. is_accepted (if s then follow_state t author b else only_where local Pending) ≡ true → has_room t author b ≡ true) [
      | true ↦ elim (has_block_between t author b) as (λ m. is_accepted (if m then Rejected else (if not (is_locked t b) && has_room t author b then Accepted else Pending)) ≡ true → has_room t author b ≡ true) [
        | true ↦ λ h. absurd cc
        | false ↦ λ h. room_in (not (is_locked t b)) (has_room t author b) h
      ]
      | false ↦ λ h. absurd (not_pending local h)
    ] e

room_of : (t : Town) (local : Bool) (author b : List ℕ) (d : Deed) (r : ObjectRef) → d ≡ Follow → ref_id r ≡ Some b
    → is_accepted (state_of t local author d r) ≡ true → has_room t author b ≡ true
unfolding state_of
room_of t local author b d r does about e = room_for t local author b (is_whole r) (rw (does, about) at e)

-- ---- the Accept

-- what is known of an activity whose Accept is made
pub record IsRoomy (t : Town) (x : Act) : Type 0 where
  pub room : (b : List ℕ) → is_follow (deed x) ≡ true → ref_id x.activity.object ≡ Some b → is_accepted x.state ≡ true → has_room t x.author b ≡ true

counted : (t : Town) (x : Act) (b : List ℕ) → count_of (with_act t x) b ≡ count_after t x.author b
unfolding is_by
counted t x b =
    let f : Act → Act = affect (effect_of t x) in
    count-push b (map f t.acts) x
    ∙ ap (λ (k : ℕ). k + (if bytes_eq x.author b then 1 else 0)) (count-map b f (λ y. (affected_on (effect_of t x) y).author) t.acts)

below : (t : Town) (x : Act) (b : List ℕ) → has_room t x.author b ≡ true → count_of (with_act t x) b + 1 < 2 ^ 32
unfolding has_room
below t x b room = omega (arith, counted t x b, ltb-true (count_after t x.author b) 4294967295 room)

answer_once : (t : Town) (host : List ℕ) (x : Act) (b : List ℕ) (member : Actor) → AreOnce host (with_act t x).acts → count_of (with_act t x) b + 1 < 2 ^ 32
    → IsFound (has_id b) (is_member (Some host)) member → AreOnce host ((with_act t x).acts ++ accept_by t host x member ∷ [])
unfolding has_id accept_by
answer_once t host x b member h small f =
    let u : Town = with_act t x in
    let own : member.id ≡ b = bytes_eq-is member.id b f.passes in
    let parts = and_parts (is_host_text host) (is_name member.name && bytes_eq member.id (actor_id host member.name)) f.kept in
    let more = and_parts (is_name member.name) (bytes_eq member.id (actor_id host member.name)) parts.1 in
    let id : member.id ≡ actor_id host member.name = bytes_eq-is member.id (actor_id host member.name) more.1 in
    let number : count_after t x.author member.id ≡ count_of u (actor_id host member.name) = sym (counted t x member.id) ∙ ap (count_of u) id in
    next_once host member.name u.acts (accept_by t host x member) h more.0 id (rw number refl)
    (subst (λ (i : List ℕ). count_of u i + 1 < 2 ^ 32) (sym own ∙ id) small)

by_once : (t : Town) (host : List ℕ) (x : Act) (b : List ℕ) (one : Option Actor) → AreOnce host (with_act t x).acts → count_of (with_act t x) b + 1 < 2 ^ 32
    → ((m : Actor) → one ≡ Some m → IsFound (has_id b) (is_member (Some host)) m) → AreOnce host ((with_act t x).acts ++ accepts_for (Some host) t x one)
by_once t host x b None h small f = rw append-nil h
by_once t host x b (Some member) h small f = answer_once t host x b member h small (f member refl)

about_once : (t : Town) (host : List ℕ) (x : Act) (id : Option (List ℕ)) → list_all (is_member (Some host)) t.actors ≡ true → IsRoomy t x → ref_id x.activity.object ≡ id
    → is_follow (deed x) ≡ true → is_accepted x.state ≡ true → AreOnce host (with_act t x).acts
    → AreOnce host ((with_act t x).acts ++ accepts_for (Some host) t x (followee t id))
about_once t host x None all r about does state h = rw append-nil h
about_once t host x (Some b) all r about does state h =
    by_once t host x b (find (has_id b) t.actors) h (below t x b (r.room b does about state))
    (λ m is. found (has_id b) (is_member (Some host)) t.actors m all is)

accepted_once : (t : Town) (host : List ℕ) (x : Act) → t.host ≡ Some host → list_all (is_member (Some host)) t.actors ≡ true → IsRoomy t x
    → AreOnce host (with_act t x).acts → AreOnce host (accept t x).acts
accepted_once t host x hosted all r h =
    let u : Town = with_act t x in
    subst (AreOnce host) (accept_in_steps t x)
    (elim (is_follow (deed x) && is_accepted x.state) as
    (λ s. (is_follow (deed x) && is_accepted x.state) ≡ s → AreOnce host (u.acts ++ option_to_list (if s then accept_for t.host t x (followee t (ref_id x.activity.object)) else None))) [
      | true ↦ λ e.
          let parts = and_parts (is_follow (deed x)) (is_accepted x.state) e in
          subst (λ (k : Option (List ℕ)). AreOnce host (u.acts ++ accepts_for k t x (followee t (ref_id x.activity.object)))) (sym hosted)
          (about_once t host x (ref_id x.activity.object) all r refl parts.0 parts.1 h)
      | false ↦ λ e. rw append-nil h
    ] refl)

-- ---- entries

-- the members and the host are sound
record IsAt (t : Town) (host : List ℕ) : Type 0 where
  hosted : t.host ≡ Some host
  shape : is_host_text host ≡ true
  all : list_all (is_member (Some host)) t.actors ≡ true

pub local_roomy : (t : Town) (host name : List ℕ) (repeat : Option (List ℕ × List ℕ)) (a : Activity) (moment : ℕ) → IsRoomy t (local_act t host name repeat a moment)
local_roomy t host name repeat a moment = record {
  room = λ b does about state.
      room_of t true (actor_id host name) b (deed_of a.kind) (local_act t host name repeat a moment).activity.object (follows_is (deed_of a.kind) does) about state;
}

pub remote_roomy : (t : Town) (owner author : List ℕ) (a : Activity) (moment : ℕ) → IsRoomy t (remote_act t owner author a moment)
remote_roomy t owner author a moment = record {
  room = λ b does about state.
      room_of t false author b (deed_of a.kind) a.object (follows_is (deed_of a.kind) does) (sym (ref_received (deed_of a.kind) author moment a.object) ∙ about) state;
}

changed_once : (t : Town) (host : List ℕ) (x : Act) → AreOnce host t.acts → AreOnce host (map (affect (effect_of t x)) t.acts)
changed_once t host x h = mapped_once host (affect (effect_of t x)) (λ y. (affected_on (effect_of t x) y).author) (λ y. (affected_on (effect_of t x) y).own) t.acts h

posted_once : (t : Town) (host name : List ℕ) (repeat : Option (List ℕ × List ℕ)) (a : Activity) (moment : ℕ) → IsAt t host → is_name name ≡ true
    → nat_lt (count_of t (actor_id host name)) 4294967295 ≡ true → AreOnce host t.acts → AreOnce host (accept t (local_act t host name repeat a moment)).acts
posted_once t host name repeat a moment s named room h =
    let x : Act = local_act t host name repeat a moment in
    let f : Act → Act = affect (effect_of t x) in
    let less : count_of t (actor_id host name) < 4294967295 = ltb-true (count_of t (actor_id host name)) 4294967295 room in
    let same : length (filter (is_by (actor_id host name)) (map f t.acts)) ≡ count_of t (actor_id host name) = count-map (actor_id host name) f (λ y. (affected_on (effect_of t x) y).author) t.acts in
    accepted_once t host x s.hosted s.all (local_roomy t host name repeat a moment)
    (next_once host name (map f t.acts) x (changed_once t host x h) named refl (rw same refl) (omega (arith, same, less)))

-- an activity that a peer may send has an id of another host
record IsForeign (host id : List ℕ) : Type 0 where
  other : bytes_eq (host_of id) host ≡ false

still_new : (t : Town) (f : Act → Act) (id : List ℕ) → ((y : Act) → (f y).activity.id ≡ y.activity.id) → is_known t id ≡ false → list_any (has_activity_id id) (map f t.acts) ≡ false
unfolding has_activity_id
still_new t f id own new = list_any-through f (has_activity_id id) (has_activity_id id) (λ y. rw (own y) refl) t.acts ∙ new

taken_once : (t : Town) (host owner author id : List ℕ) (a : Activity) (moment : ℕ) → IsAt t host → IsForeign host id → a.id ≡ Some id
    → AreOnce host t.acts → AreOnce host (after_inbox t owner author id a moment).acts
taken_once t host owner author id a moment s o own h =
    elim (is_known t id) as (λ b. is_known t id ≡ b → AreOnce host (with_addition t (if b then additions.Inbox id owner else additions.Activity (acceptance t (remote_act t owner author a moment)))).acts) [
      | true ↦ λ e. mapped_once host (with_recipient id owner) (λ y. (also_on id owner y).author) (λ y. (also_on id owner y).own) t.acts h
      | false ↦ λ e.
          let x : Act = remote_act t owner author a moment in
          let f : Act → Act = affect (effect_of t x) in
          accepted_once t host x s.hosted s.all (remote_roomy t owner author a moment)
          (foreign_once host (map f t.acts) x id (changed_once t host x h) s.shape own (still_new t f id (λ y. (affected_on (effect_of t x) y).own) e) o.other)
    ] refl

-- the id of an allowed activity is of its actor's host, which is another
foreign_by : (host : List ℕ) (p : Peer) (actor id : List ℕ) (r : ObjectRef) → is_foreign (Some host) p (Some actor) (Some id) r ≡ false → IsForeign host id
foreign_by host p actor id r e =
    let a = or_parts (bytes_eq (host_of actor) host) _ e in
    let b = or_parts (not (bytes_eq (host_of actor) p.host) && not p.relay) _ a.1 in
    let c = or_parts (not (bytes_eq (host_of id) (host_of actor))) (is_of_another actor r) b.1 in
    let same : host_of id ≡ host_of actor = bytes_eq-is (host_of id) (host_of actor) (not-false (bytes_eq (host_of id) (host_of actor)) c.0) in
    record { other = rw same a.0 }

allowed_is : (host : List ℕ) (p : Option Peer) (t : Town) (a : Activity) (actor id : List ℕ) → t.host ≡ Some host → a.actor ≡ Some actor → a.id ≡ Some id
    → may_deliver t p a ≡ true → IsForeign host id
allowed_is host None t a actor id hosted by own ok = absurd cc
allowed_is host (Some p) t a actor id hosted by own ok =
    foreign_by host p actor id a.object (rw (hosted, by, own) at (not-true (is_foreign t.host p a.actor a.id a.object) ok))

delivered_once : (t : Town) (host : List ℕ) (p : Option Peer) (owner author id : Option (List ℕ)) (a : Activity) (moment : ℕ) → IsAt t host → a.actor ≡ author → a.id ≡ id
    → may_deliver t p a ≡ true → AreOnce host t.acts → AreOnce host (after_delivery t owner author id a moment).acts
delivered_once t host p None author id a moment s by own ok h = h
delivered_once t host p (Some owner) None id a moment s by own ok h = h
delivered_once t host p (Some owner) (Some author) None a moment s by own ok h = h
delivered_once t host p (Some owner) (Some author) (Some id) a moment s by own ok h =
    taken_once t host owner author id a moment s (allowed_is host p t a author id s.hosted by own ok) own h

numbered : (r : Option Refusal) (n : Bool) → is_none (first_broken r (refuse_if (not n) ActorFull None)) ≡ true → n ≡ true
numbered None true e = refl
numbered None false e = absurd cc
numbered (Some x) n e = absurd cc

-- an author that may post
pub poster : (t : Town) (host name : List ℕ) (repeat : Option (List ℕ × List ℕ)) (a : Activity) (id : Option (List ℕ)) → list_all (is_member (Some host)) t.actors ≡ true
    → id_of t name ≡ id → may_post t name repeat a id ≡ true → nat_lt (count_of t (actor_id host name)) 4294967295 ≡ true
poster t host name repeat a None all is ok = absurd cc
poster t host name repeat a (Some author) all is ok =
    subst (λ (i : List ℕ). nat_lt (count_of t i) 4294967295 ≡ true) (id_of-is t host name author all is)
    (numbered (broken t (callers.Actor name) author (deed_of a.kind) (ref_id a.object)) (has_next (count_of t author))
    (and_parts (is_new_key (filter (is_by author) t.acts) repeat) _ (and_parts (is_posted author a) _ ok).1).1)

pub found_any : (p : Actor → Bool) (xs : List Actor) (id : List ℕ) → option_map (λ a. a.id) (find p xs) ≡ Some id → list_any p xs ≡ true
found_any p [] id e = absurd cc
found_any p (x ∷ xs) id e =
    elim (p x) as (λ b. option_map (λ a. a.id) (if b then Some x else find p xs) ≡ Some id → (b || list_any p xs) ≡ true) [
      | true ↦ λ h. refl
      | false ↦ λ h. found_any p xs id h
    ] e

-- the name of a member who has an id is valid
pub poster_name : (t : Town) (host name : List ℕ) (repeat : Option (List ℕ × List ℕ)) (a : Activity) (id : Option (List ℕ)) → list_all (is_member (Some host)) t.actors ≡ true
    → id_of t name ≡ id → may_post t name repeat a id ≡ true → is_name name ≡ true
poster_name t host name repeat a None all is ok = absurd cc
poster_name t host name repeat a (Some author) all is ok = named_is name (Some host) t.actors all (found_any (has_name name) t.actors author is)

set_already : (own : Option (List ℕ)) (host : List ℕ) → own ≡ Some host → is_none own ≡ true → ⊥
set_already None host is e = absurd cc
set_already (Some h) host is e = absurd cc

kept_at : (t u : Town) (host : List ℕ) → u.host ≡ Some host → AreOnce host u.acts → HasIds u.host u.acts
kept_at t u host hosted h = subst (λ (k : Option (List ℕ)). HasIds k u.acts) (sym hosted) h

posted_at : (t : Town) (host : List ℕ) (own : Option (List ℕ)) (name : List ℕ) (repeat : Option (List ℕ × List ℕ)) (a : Activity) (moment : ℕ) → IsAt t host → t.host ≡ own → own ≡ Some host
    → is_name name ≡ true → nat_lt (count_of t (actor_id host name)) 4294967295 ≡ true → AreOnce host t.acts → HasIds (after_post own t name repeat a moment).host (after_post own t name repeat a moment).acts
posted_at t host None name repeat a moment s is at named room h = absurd cc
posted_at t host (Some own) name repeat a moment s is at named room h =
    let same : own ≡ host = cc in
    subst (λ (k : List ℕ). HasIds (accept t (local_act t k name repeat a moment)).host (accept t (local_act t k name repeat a moment)).acts) (sym same)
    (kept_at t (accept t (local_act t host name repeat a moment)) host s.hosted (posted_once t host name repeat a moment s named room h))

delivered_host : (t : Town) (owner author id : Option (List ℕ)) (a : Activity) (moment : ℕ) → (after_delivery t owner author id a moment).host ≡ t.host
delivered_host t None author id a moment = refl
delivered_host t (Some owner) None id a moment = refl
delivered_host t (Some owner) (Some author) None a moment = refl
delivered_host t (Some owner) (Some author) (Some id) a moment =
    elim (is_known t id) as (λ b. (with_addition t (if b then additions.Inbox id owner else additions.Activity (acceptance t (remote_act t owner author a moment)))).host ≡ t.host) [
      | true ↦ refl
      | false ↦ refl
    ]

made_at : (t : Town) (host : List ℕ) (own : Option (List ℕ)) (name digest : List ℕ) (locked : Bool) → IsAt t host → t.host ≡ own → AreOnce host t.acts
    → HasIds (with_addition t (member_addition own name digest locked)).host (with_addition t (member_addition own name digest locked)).acts
made_at t host None name digest locked s is h = rw s.hosted h
made_at t host (Some own) name digest locked s is h = rw s.hosted h

step_at : (t : Town) (host : List ℕ) (e : Entry) → IsAt t host → is_admissible t e ≡ true → AreOnce host t.acts → HasIds (step t e).host (step t e).acts
step_at t host (Hosted own moment) s ok h = absurd (set_already t.host host s.hosted (not_hosted t own moment (and_parts (is_none (broken_command t (Hosted own moment))) (is_host_text own) ok).0))
step_at t host (Made name digest locked moment) s ok h = made_at t host t.host name digest locked s refl h
step_at t host (PeerSet own key address relay moment) s ok h = rw s.hosted h
step_at t host (Local name repeat a moment) s ok h =
    posted_at t host t.host name repeat a moment s refl s.hosted (poster_name t host name repeat a (id_of t name) s.all refl ok) (poster t host name repeat a (id_of t name) s.all refl ok) h
step_at t host (Remote peer inbox a moment) s ok h =
    let may = (and_parts (may_deliver t (find (has_host peer) t.peers) a) _ (and_parts (is_delivered a) _ ok).1).0 in
    kept_at t (after_delivery t (id_of t inbox) a.actor a.id a moment) host (delivered_host t (id_of t inbox) a.actor a.id a moment ∙ s.hosted)
    (delivered_once t host (find (has_host peer) t.peers) (id_of t inbox) a.actor a.id a moment s refl refl may h)
step_at t host (Tried activity recipient came moment) s ok h = rw s.hosted h

-- ---- before the server not-false set up

pub no_members : (xs : List Actor) → list_all (is_member None) xs ≡ true → (name : List ℕ) → option_map (λ a. a.id) (find (has_name name) xs) ≡ None
no_members [] all name = refl
no_members (x ∷ xs) all name = absurd (let first : is_member None x ≡ true = (and_parts (is_member None x) (list_all (is_member None) xs) all).0 in cc)

pub no_post : (t : Town) (name : List ℕ) (repeat : Option (List ℕ × List ℕ)) (a : Activity) (id : Option (List ℕ)) → id ≡ None → may_post t name repeat a id ≡ true → ⊥
no_post t name repeat a None is ok = absurd cc
no_post t name repeat a (Some i) is ok = absurd cc

step_before : (t : Town) (e : Entry) → t.host ≡ None → list_all (is_member None) t.actors ≡ true → is_admissible t e ≡ true → t.acts ≡ [] → HasIds (step t e).host (step t e).acts
step_before t (Hosted own moment) none all ok h = rw h (none_once own)
step_before t (Made name digest locked moment) none all ok h = rw none h
step_before t (PeerSet own key address relay moment) none all ok h = rw none h
step_before t (Local name repeat a moment) none all ok h =
    absurd (no_post t name repeat a (id_of t name) (no_members t.actors all name) ok)
step_before t (Remote peer inbox a moment) none all ok h =
    subst (λ (o : Option (List ℕ)). HasIds (after_delivery t o a.actor a.id a moment).host (after_delivery t o a.actor a.id a moment).acts) (sym (no_members t.actors all inbox)) (rw none h)
step_before t (Tried activity recipient came moment) none all ok h = rw none h

-- ---- histories

pub step_by : (t : Town) (host : Option (List ℕ)) (e : Entry) → t.host ≡ host → IsHosted t → is_admissible t e ≡ true → HasIds host t.acts → HasIds (step t e).host (step t e).acts
step_by t None e is s ok h = step_before t e is (subst (λ (k : Option (List ℕ)). list_all (is_member k) t.actors ≡ true) is s.sound.members) ok h
step_by t (Some host) e is s ok h =
    step_at t host e (record {
      hosted = is;
      shape = subst (λ (k : Option (List ℕ)). is_set k ≡ true) is s.host;
      all = subst (λ (k : Option (List ℕ)). list_all (is_member k) t.actors ≡ true) is s.sound.members;
    }) ok h

fold_ids : (history : List Entry) (t : Town) → is_legal_from t history ≡ true → IsHosted t → HasIds t.host t.acts → HasIds (fold step t history).host (fold step t history).acts
fold_ids [] t ok s h = h
fold_ids (e ∷ history) t ok s h =
    let parts = and_parts (is_admissible t e) (is_legal_from (step t e) history) ok in
    fold_ids history (step t e) parts.1 (step_sound t e parts.0 s) (step_by t t.host e refl s parts.0 h)

pub once_by : (host : Option (List ℕ)) (acts : List Act) → HasIds host acts → (id : List ℕ) → PassesOnce (has_activity_id id) acts
once_by None acts h id = rw h tt
once_by (Some host) acts h id = h.once id

-- In a legal history no two activities have the same id.
pub town_ids : (history : List Entry) → IsLegal history → (id : List ℕ) → PassesOnce (has_activity_id id) (town history).acts
town_ids history legal id =
    once_by (town history).host (town history).acts
    (fold_ids history empty_town legal.admissible (record { sound = record { members = refl; peers = refl }; host = refl }) refl) id
