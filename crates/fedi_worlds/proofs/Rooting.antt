-- Each activity of a legal history is a member's own, or came by an entry from another host.
use Rattle.std.proofs.Common.{◌≡◌, ℕ, zero, suc, ◌+◌, ◌^◌, ◌<◌, Bool, true, false, List, [], ◌∷◌}
use Rattle.std.proofs.Common.{◌++◌, length, Option, Some, None, refl, sym, ap, ◌∙◌, subst, inl, inr}
use Rattle.std.proofs.Common.{⊎_elim, append_assoc, append-nil, arith}
use Rattle.std.specs.Prelude.{◌&&◌, not, slice_get, map, nat_lt, option_to_list, if◌then◌else◌}
use Rattle.std.specs.List.{list_all, fold, find}
use Rattle.std.specs.Str.{bytes_eq}
use Rattle.std.proofs.lemmas.Bool.{and_parts, or_parts, ltb-true, not-true}
use Rattle.fedi_address.specs.Hosts.{is_host_text}
use Rattle.fedi_address.specs.Iris.{host_of}
use Rattle.fedi_address.specs.Names.{is_name}
use Rattle.fedi_objects.specs.declared.activity.Activity.{Activity}
use Rattle.fedi_objects.specs.declared.activity.ObjectRef.{ObjectRef}
use Rattle.fedi_objects.specs.declared.entry.Entry.{Entry}
use Rattle.fedi_objects.specs.declared.entry.Entry.TheVariants.{Hosted, Made, PeerSet, Local}
use Rattle.fedi_objects.specs.declared.entry.Entry.TheVariants.{Remote, Tried}
use Rattle.fedi_town.proofs.Members.{is_member, IsFound, found}
use Rattle.fedi_town.proofs.Sound.{IsHosted, step_sound}
use Rattle.fedi_town.proofs.Texts.{bytes_eq-is, bytes_eq-swapped}
use Rattle.fedi_town.specs.Activities.{local_act, remote_act}
use Rattle.fedi_town.specs.Deeds.{is_follow, is_accepted}
use Rattle.fedi_town.specs.Effects.{acceptance, accept_for, affect, effect_of, accept_by, followee}
use Rattle.fedi_town.specs.Effects.{answer_to}
use Rattle.fedi_town.specs.Histories.{with_addition, member_addition, post_addition, inbox_addition}
use Rattle.fedi_town.specs.Histories.{delivery_addition, with_recipient, is_known, step, town}
use Rattle.fedi_town.specs.Ids.{actor_id}
use Rattle.fedi_town.specs.Legal.{is_admissible, is_legal_from, may_deliver, lacks}
use Rattle.fedi_town.specs.Origins.{is_foreign}
use Rattle.fedi_town.specs.Relations.{ref_id}
use Rattle.fedi_town.specs.Shapes.{is_delivered}
use Rattle.fedi_town.specs.States.{has_room}
use Rattle.fedi_town.specs.Towns.{Town, deed, empty_town, has_id, has_host, id_of, count_of}
use Rattle.fedi_town.specs.Towns.{count_after}
use Rattle.fedi_town.specs.declared.act.Act.{Act}
use Rattle.fedi_town.specs.declared.act.Actor.{Actor}
use Rattle.fedi_town.specs.declared.act.Peer.{Peer}
use Rattle.fedi_town.specs.declared.addition.Addition.TheVariants as additions
use Rattle.fedi_worlds.proofs.Growth.{Keeps, affected_on, also_on, host_step, rest_from}
use Rattle.fedi_worlds.proofs.Invariant.{IsOwn, IsTaken, IsRooted}
use Rattle.fedi_worlds.specs.Promises.{IsRelay}
use Rattle.fedi_worlds.proofs.Local.{ActsAreRooted, DeliveriesMayCome}
use Rattle.fedi_worlds.proofs.Places.{stays, at_end, mapped_from, some_is}
use Rattle.fedi_town.proofs.Finding.{found_passes}
use Rattle.fedi_town.proofs.IdsTown.{IsRoomy, local_roomy, remote_roomy, poster, poster_name}
use Rattle.fedi_town.proofs.IdsTown.{no_members, no_post}

-- ---- lists of activities

abbrev AreRooted : List ℕ → List Entry → List Act → Type 0
AreRooted host h acts = (k : ℕ) (x : Act) → slice_get acts k ≡ Some x → IsRooted host h x

-- nothing before the server was set up, and after that each is rooted
abbrev HasRoots : Option (List ℕ) → List Entry → List Act → Type 0
HasRoots None h acts = acts ≡ []
HasRoots (Some host) h acts = AreRooted host h acts

kept_rooted : (host : List ℕ) (h : List Entry) (y z : Act) → Keeps y z → IsRooted host h y
    → IsRooted host h z
kept_rooted host h y z k r = record {
  actor = k.actor ∙ (r.actor ∙ ap (λ (a : List ℕ). Some a) (sym k.author));
  from =
      ⊎_elim
      (λ (o : IsOwn host y).
      inl (record {
        name = o.name;
        number = o.number;
        named = o.named;
        small = o.small;
        author = k.author ∙ o.author;
        id = k.id ∙ o.id;
      }))
      (λ (t : IsTaken host h y). inr (record {
        away = subst (λ (a : List ℕ). bytes_eq (host_of a) host ≡ false) (sym k.author) t.away;
        place = t.place;
        peer = t.peer;
        inbox = t.inbox;
        a = t.a;
        moment = t.moment;
        there = t.there;
        id = t.id ∙ sym k.id;
        actor = t.actor ∙ ap (λ (a : List ℕ). Some a) (sym k.author);
        kind = t.kind ∙ sym k.kind;
      }))
      r.from;
}

more_rooted : (host : List ℕ) (h more : List Entry) (x : Act) → IsRooted host h x
    → IsRooted host (h ++ more) x
more_rooted host h more x r = record {
  actor = r.actor;
  from =
      ⊎_elim (λ (o : IsOwn host x). inl o)
      (λ (t : IsTaken host h x). inr (record {
        away = t.away;
        place = t.place;
        peer = t.peer;
        inbox = t.inbox;
        a = t.a;
        moment = t.moment;
        there = stays h more t.place _ t.there;
        id = t.id;
        actor = t.actor;
        kind = t.kind;
      }))
      r.from;
}

mapped_rooted : (host : List ℕ) (h : List Entry) (f : Act → Act) → ((y : Act) → Keeps y (f y))
    → (acts : List Act) → AreRooted host h acts → AreRooted host h (map f acts)
mapped_rooted host h f k acts r n x at =
    let was = mapped_from f acts n x at in
    subst (IsRooted host h) was.2 (kept_rooted host h was.0 (f was.0) (k was.0) (r n was.0 was.1))

joined_rooted : (host : List ℕ) (h : List Entry) (xs ys : List Act) → AreRooted host h xs
    → AreRooted host h ys → AreRooted host h (xs ++ ys)
joined_rooted host h [] ys a b n x at = b n x at
joined_rooted host h (z ∷ xs) ys a b zero x at = a zero x at
joined_rooted host h (z ∷ xs) ys a b (suc n) x at =
    joined_rooted host h xs ys (λ k y e. a (suc k) y e) b n x at

one_rooted : (host : List ℕ) (h : List Entry) (x : Act) (ys : List Act) → IsRooted host h x
    → AreRooted host h ys → AreRooted host h (x ∷ ys)
one_rooted host h x ys r b zero y at = subst (IsRooted host h) (some_is x y at) r
one_rooted host h x ys r b (suc n) y at = b n y at

none_rooted : (host : List ℕ) (h : List Entry) → AreRooted host h []
none_rooted host h n x at = absurd cc

-- ---- the Accept

small : (t : Town) (author b : List ℕ) → has_room t author b ≡ true
    → count_after t author b + 1 < 2 ^ 32
unfolding has_room
small t author b room = omega (arith, ltb-true (count_after t author b) 4294967295 room)

accept_rooted : (t : Town) (host : List ℕ) (h : List Entry) (x : Act) (b : List ℕ) (member : Actor)
    → count_after t x.author b + 1 < 2 ^ 32
    → IsFound (has_id b) (is_member (Some host)) member
    → IsRooted host h (accept_by t host x member)
unfolding has_id accept_by
accept_rooted t host h x b member low f =
    let own : member.id ≡ b = bytes_eq-is member.id b f.passes in
    let parts =
    and_parts (is_host_text host)
    (is_name member.name && bytes_eq member.id (actor_id host member.name)) f.kept in
    let more =
    and_parts (is_name member.name) (bytes_eq member.id (actor_id host member.name)) parts.1 in
    let id : member.id ≡ actor_id host member.name =
    bytes_eq-is member.id (actor_id host member.name) more.1 in
    record {
      actor = refl;
      from = inl (record {
        name = member.name;
        number = count_after t x.author member.id + 1;
        named = more.0;
        small = subst (λ (i : List ℕ). count_after t x.author i + 1 < 2 ^ 32) (sym own) low;
        author = id;
        id = refl;
      });
    }

by_rooted : (t : Town) (host : List ℕ) (h : List Entry) (x : Act) (b : List ℕ) (one : Option Actor)
    → count_after t x.author b + 1 < 2 ^ 32
    → ((m : Actor) → one ≡ Some m → IsFound (has_id b) (is_member (Some host)) m)
    → AreRooted host h (option_to_list (accept_for (Some host) t x one))
by_rooted t host h x b None low f = none_rooted host h
by_rooted t host h x b (Some member) low f =
    one_rooted host h _ [] (accept_rooted t host h x b member low (f member refl))
    (none_rooted host h)

about_rooted : (t : Town) (host : List ℕ) (h : List Entry) (x : Act) (id : Option (List ℕ))
    → list_all (is_member (Some host)) t.actors ≡ true → IsRoomy t x → ref_id x.activity.object ≡ id
    → is_follow (deed x) ≡ true → is_accepted x.state ≡ true
    → AreRooted host h (option_to_list (accept_for (Some host) t x (followee t id)))
about_rooted t host h x None all r about does state = none_rooted host h
about_rooted t host h x (Some b) all r about does state =
    by_rooted t host h x b (find (has_id b) t.actors)
    (small t x.author b (r.room b does about state))
    (λ m is. found (has_id b) (is_member (Some host)) t.actors m all is)

answer_rooted : (t : Town) (host : List ℕ) (h : List Entry) (x : Act) → t.host ≡ Some host
    → list_all (is_member (Some host)) t.actors ≡ true → IsRoomy t x
    → AreRooted host h (option_to_list (answer_to t x))
answer_rooted t host h x hosted all r =
    elim (is_follow (deed x) && is_accepted x.state) as
    (λ s. (is_follow (deed x) && is_accepted x.state) ≡ s
    → AreRooted host h
    (option_to_list
    (if s then accept_for t.host t x (followee t (ref_id x.activity.object)) else None))) [
      | true ↦ λ e.
          let parts = and_parts (is_follow (deed x)) (is_accepted x.state) e in
          subst (λ (k : Option (List ℕ)).
          AreRooted host h
          (option_to_list (accept_for k t x (followee t (ref_id x.activity.object))))) (sym hosted)
          (about_rooted t host h x (ref_id x.activity.object) all r refl parts.0 parts.1)
      | false ↦ λ e. none_rooted host h
    ] refl

-- an activity that is accepted, with its effect and its answer
accepted_rooted : (t : Town) (host : List ℕ) (h : List Entry) (x : Act) → t.host ≡ Some host
    → list_all (is_member (Some host)) t.actors ≡ true → IsRoomy t x
    → AreRooted host h t.acts → IsRooted host h x
    → AreRooted host h (map (affect (effect_of t x)) t.acts ++ x ∷ option_to_list (answer_to t x))
accepted_rooted t host h x hosted all r acts root =
    joined_rooted host h (map (affect (effect_of t x)) t.acts) (x ∷ option_to_list (answer_to t x))
    (mapped_rooted host h (affect (effect_of t x)) (affected_on (effect_of t x)) t.acts acts)
    (one_rooted host h x (option_to_list (answer_to t x)) root
    (answer_rooted t host h x hosted all r))

-- ---- entries

record IsAt (t : Town) (host : List ℕ) : Type 0 where
  hosted : t.host ≡ Some host
  all : list_all (is_member (Some host)) t.actors ≡ true

local_rooted : (t : Town) (host name : List ℕ) (h : List Entry) (repeat : Option (List ℕ × List ℕ))
    (a : Activity) (moment : ℕ) → is_name name ≡ true
    → nat_lt (count_of t (actor_id host name)) 4294967295 ≡ true
    → IsRooted host h (local_act t host name repeat a moment)
local_rooted t host name h repeat a moment named room =
    let low : count_of t (actor_id host name) < 4294967295 =
    ltb-true (count_of t (actor_id host name)) 4294967295 room in
    record {
      actor = refl;
      from =
          inl (record {
            name = name;
            number = count_of t (actor_id host name) + 1;
            named = named;
            small = omega (arith, low);
            author = refl;
            id = refl;
          });
    }

posted_rooted : (t : Town) (host : List ℕ) (h : List Entry) (own : Option (List ℕ)) (name : List ℕ)
    (repeat : Option (List ℕ × List ℕ)) (a : Activity) (moment : ℕ) → IsAt t host → own ≡ Some host
    → is_name name ≡ true → nat_lt (count_of t (actor_id host name)) 4294967295 ≡ true
    → AreRooted host h t.acts
    → AreRooted host h (with_addition t (post_addition own t name repeat a moment)).acts
posted_rooted t host h None name repeat a moment s at named room r = absurd cc
posted_rooted t host h (Some own) name repeat a moment s at named room r =
    let same : host ≡ own = cc in
    subst (λ (k : List ℕ).
    AreRooted host h (with_addition t (post_addition (Some k) t name repeat a moment)).acts) same
    (accepted_rooted t host h (local_act t host name repeat a moment) s.hosted s.all
    (local_roomy t host name repeat a moment) r
    (local_rooted t host name h repeat a moment named room))

-- what a peer may send is of another host, and the peer is its actor's or a relay
record IsAllowed (host : List ℕ) (p : Peer) (actor : List ℕ) : Type 0 where
  away : bytes_eq (host_of actor) host ≡ false
  relayed : bytes_eq (host_of actor) p.host ≡ false → p.relay ≡ true

relay_or : (a b : Bool) → (not a && not b) ≡ false → a ≡ false → b ≡ true
relay_or a true e f = refl
relay_or true false e f = absurd cc
relay_or false false e f = absurd cc

allowed : (host : List ℕ) (p : Peer) (actor : List ℕ) (id : Option (List ℕ)) (r : ObjectRef)
    → is_foreign (Some host) p (Some actor) id r ≡ false → IsAllowed host p actor
allowed host p actor id r e =
    let a = or_parts (bytes_eq (host_of actor) host) _ e in
    let b = or_parts (not (bytes_eq (host_of actor) p.host) && not p.relay) _ a.1 in
    record { away = a.0; relayed = relay_or (bytes_eq (host_of actor) p.host) p.relay b.0 }

-- the peer that may deliver
record IsSender (t : Town) (host peer : List ℕ) (a : Activity) : Type 0 where
  sender : Peer
  known : find (has_host peer) t.peers ≡ Some sender
  actor : List ℕ
  by : a.actor ≡ Some actor
  allows : IsAllowed host sender actor

foreign_none : (host : Option (List ℕ)) (p : Peer) (id : Option (List ℕ)) (r : ObjectRef)
    → is_foreign host p None id r ≡ false → ⊥
foreign_none host p id r e = cc

by_actor : (t : Town) (host peer : List ℕ) (a : Activity) (p : Peer) (actor : Option (List ℕ))
    → t.host ≡ Some host → find (has_host peer) t.peers ≡ Some p → a.actor ≡ actor
    → is_foreign (Some host) p actor a.id a.object ≡ false → IsSender t host peer a
by_actor t host peer a p None hosted known by e =
    absurd (foreign_none (Some host) p a.id a.object e)
by_actor t host peer a p (Some actor) hosted known by e =
    record {
      sender = p;
      known = known;
      actor = actor;
      by = by;
      allows = allowed host p actor a.id a.object e;
    }

sender_at : (t : Town) (host peer : List ℕ) (a : Activity) (p : Option Peer) → t.host ≡ Some host
    → find (has_host peer) t.peers ≡ p → may_deliver t p a ≡ true → IsSender t host peer a
sender_at t host peer a None hosted known ok = absurd cc
sender_at t host peer a (Some p) hosted known ok =
    by_actor t host peer a p a.actor hosted known refl
    (rw hosted at (not-true (is_foreign t.host p a.actor a.id a.object) ok))

may_of : (t : Town) (peer inbox : List ℕ) (a : Activity) (moment : ℕ)
    → is_admissible t (Remote peer inbox a moment) ≡ true
    → may_deliver t (find (has_host peer) t.peers) a ≡ true
may_of t peer inbox a moment ok =
    (and_parts (may_deliver t (find (has_host peer) t.peers) a) (lacks t a.id (id_of t inbox))
    (and_parts (is_delivered a) _ ok).1).0

taken_rooted : (t : Town) (host : List ℕ) (h : List Entry) (owner author id : List ℕ) (a : Activity)
    (moment place : ℕ) (peer inbox : List ℕ) → IsAt t host → bytes_eq (host_of author) host ≡ false
    → a.actor ≡ Some author → a.id ≡ Some id → slice_get h place ≡ Some (Remote peer inbox a moment)
    → AreRooted host h t.acts
    → AreRooted host h (with_addition t (inbox_addition t owner author id a moment)).acts
taken_rooted t host h owner author id a moment place peer inbox s away by own there r =
    elim (is_known t id) as (λ b.
    AreRooted host h
    (with_addition t
    (if b then additions.Inbox id owner else additions.Activity
    (acceptance t (remote_act t owner author a moment)))).acts) [
      | true ↦ mapped_rooted host h (with_recipient id owner) (also_on id owner) t.acts r
      | false ↦
          accepted_rooted t host h (remote_act t owner author a moment) s.hosted s.all
          (remote_roomy t owner author a moment) r
          (record {
            actor = by;
            from =
                inr (record {
                  away = away;
                  place = place;
                  peer = peer;
                  inbox = inbox;
                  a = a;
                  moment = moment;
                  there = there;
                  id = refl;
                  actor = by;
                  kind = refl;
                });
          })
    ]

delivered_rooted : (t : Town) (host : List ℕ) (h : List Entry) (owner author id : Option (List ℕ))
    (a : Activity) (moment place : ℕ) (peer inbox : List ℕ) → IsAt t host
    → ((actor : List ℕ) → a.actor ≡ Some actor → bytes_eq (host_of actor) host ≡ false)
    → a.actor ≡ author → a.id ≡ id → slice_get h place ≡ Some (Remote peer inbox a moment)
    → AreRooted host h t.acts
    → AreRooted host h (with_addition t (delivery_addition t owner author id a moment)).acts
delivered_rooted t host h None author id a moment place peer inbox s away by own there r = r
delivered_rooted t host h (Some owner) None id a moment place peer inbox s away by own there r = r
delivered_rooted t host h (Some owner) (Some author) None a moment place peer inbox s away by own
    there r = r
delivered_rooted t host h (Some owner) (Some author) (Some id) a moment place peer inbox s away by
    own there r =
    taken_rooted t host h owner author id a moment place peer inbox s (away author by) by own there
    r

made_rooted : (t : Town) (host : List ℕ) (h : List Entry) (own : Option (List ℕ))
    (name digest : List ℕ) (locked : Bool) → AreRooted host h t.acts
    → AreRooted host h (with_addition t (member_addition own name digest locked)).acts
made_rooted t host h None name digest locked r = r
made_rooted t host h (Some own) name digest locked r = r

is_actor_of : (a b : List ℕ) (o : Option (List ℕ)) → o ≡ Some a → o ≡ Some b → a ≡ b
is_actor_of a b o p q = let both : Some a ≡ Some b = sym p ∙ q in cc

-- the acts after one more entry, which is at this place of the history
step_rooted : (t : Town) (host : List ℕ) (h : List Entry) (e : Entry) (place : ℕ) → IsAt t host
    → is_admissible t e ≡ true → slice_get h place ≡ Some e → AreRooted host h t.acts
    → AreRooted host h (step t e).acts
step_rooted t host h (Hosted own moment) place s ok at r = r
step_rooted t host h (Made name digest locked moment) place s ok at r =
    made_rooted t host h t.host name digest locked r
step_rooted t host h (PeerSet own key address relay moment) place s ok at r = r
step_rooted t host h (Local name repeat a moment) place s ok at r =
    posted_rooted t host h t.host name repeat a moment s s.hosted
    (poster_name t host name repeat a (id_of t name) s.all refl ok)
    (poster t host name repeat a (id_of t name) s.all refl ok) r
step_rooted t host h (Remote peer inbox a moment) place s ok at r =
    let k =
    sender_at t host peer a (find (has_host peer) t.peers) s.hosted refl
    (may_of t peer inbox a moment ok) in
    delivered_rooted t host h (id_of t inbox) a.actor a.id a moment place peer inbox s
    (λ actor by.
    subst (λ (x : List ℕ). bytes_eq (host_of x) host ≡ false)
    (is_actor_of k.actor actor a.actor k.by by) k.allows.away)
    refl refl at r
step_rooted t host h (Tried activity recipient came moment) place s ok at r = r

-- ---- before the server was set up

step_before : (t : Town) (h : List Entry) (e : Entry) → t.host ≡ None
    → list_all (is_member None) t.actors ≡ true → is_admissible t e ≡ true → t.acts ≡ []
    → HasRoots (step t e).host h (step t e).acts
step_before t h (Hosted own moment) none all ok acts = rw acts (none_rooted own h)
step_before t h (Made name digest locked moment) none all ok acts = rw none acts
step_before t h (PeerSet own key address relay moment) none all ok acts = rw none acts
step_before t h (Local name repeat a moment) none all ok acts =
    absurd (no_post t name repeat a (id_of t name) (no_members t.actors all name) ok)
step_before t h (Remote peer inbox a moment) none all ok acts =
    subst (λ (o : Option (List ℕ)).
    HasRoots (with_addition t (delivery_addition t o a.actor a.id a moment)).host h
    (with_addition t (delivery_addition t o a.actor a.id a moment)).acts)
    (sym (no_members t.actors all inbox)) (rw none acts)
step_before t h (Tried activity recipient came moment) none all ok acts = rw none acts

-- ---- histories

with_host : (o : Option (List ℕ)) (host : List ℕ) (h : List Entry) (acts : List Act) → o ≡ Some host
    → AreRooted host h acts → HasRoots o h acts
with_host o host h acts is r = subst (λ (k : Option (List ℕ)). HasRoots k h acts) (sym is) r

more_roots : (o : Option (List ℕ)) (h more : List Entry) (acts : List Act) → HasRoots o h acts
    → HasRoots o (h ++ more) acts
more_roots None h more acts r = r
more_roots (Some host) h more acts r = λ k x at. more_rooted host h more x (r k x at)

step_roots : (t : Town) (o : Option (List ℕ)) (h : List Entry) (e : Entry) (place : ℕ) → t.host ≡ o
    → IsHosted t → is_admissible t e ≡ true → slice_get h place ≡ Some e → HasRoots o h t.acts
    → HasRoots (step t e).host h (step t e).acts
step_roots t None h e place is s ok at r =
    step_before t h e is
    (subst (λ (k : Option (List ℕ)). list_all (is_member k) t.actors ≡ true) is s.sound.members) ok
    r
step_roots t (Some host) h e place is s ok at r =
    with_host (step t e).host host h (step t e).acts (host_step t e host is ok)
    (step_rooted t host h e place
    (record {
      hosted = is;
      all = subst (λ (k : Option (List ℕ)). list_all (is_member k) t.actors ≡ true) is
          s.sound.members;
    }) ok at r)

fold_roots : (done left : List Entry) (t : Town) → is_legal_from t left ≡ true → IsHosted t
    → HasRoots t.host done t.acts
    → HasRoots (fold step t left).host (done ++ left) (fold step t left).acts
fold_roots done [] t ok s r =
    subst (λ (h : List Entry). HasRoots t.host h t.acts) (sym (append-nil done)) r
fold_roots done (e ∷ left) t ok s r =
    let parts = and_parts (is_admissible t e) (is_legal_from (step t e) left) ok in
    let one : List Entry = done ++ e ∷ [] in
    subst (λ (h : List Entry).
    HasRoots (fold step (step t e) left).host h (fold step (step t e) left).acts)
    (append_assoc done (e ∷ []) left)
    (fold_roots one left (step t e) parts.1 (step_sound t e parts.0 s)
    (step_roots t t.host one e (length done) refl s parts.0 (at_end done e)
    (more_roots t.host done (e ∷ []) t.acts r)))

pub rooted : ActsAreRooted
rooted h host legal hosted =
    subst (λ (o : Option (List ℕ)). HasRoots o h (town h).acts) hosted
    (fold_roots [] h empty_town legal.admissible
    (record { sound = record { members = refl; peers = refl }; host = refl }) refl)

-- ---- what a delivery must be

relay_is : (host peer : List ℕ) (t : Town) (a : Activity) (k : IsSender t host peer a)
    → bytes_eq peer (host_of k.actor) ≡ false → IsRelay t peer
unfolding has_host
relay_is host peer t a k other =
    let own : k.sender.host ≡ peer =
    bytes_eq-is k.sender.host peer (found_passes (has_host peer) t.peers k.sender k.known) in (
      k.sender,
      k.known,
      k.allows.relayed (bytes_eq-swapped k.sender.host (host_of k.actor) (rw own other)),
    )

pub may_come : DeliveriesMayCome
may_come h host peer inbox a moment hosted legal =
    let rest = rest_from empty_town h (Remote peer inbox a moment ∷ []) legal.admissible in
    let ok : is_admissible (town h) (Remote peer inbox a moment) ≡ true =
    (and_parts (is_admissible (town h) (Remote peer inbox a moment)) true rest).0 in
    let k =
    sender_at (town h) host peer a (find (has_host peer) (town h).peers) hosted refl
    (may_of (town h) peer inbox a moment ok) in
    record {
      actor = k.actor;
      by = k.by;
      away = k.allows.away;
      relayed = relay_is host peer (town h) a k;
    }
