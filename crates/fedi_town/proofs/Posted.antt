-- A member's post that the caller does not see changes nothing for the caller.
use Rattle.std.proofs.Common.{◌≡◌, ℕ, true, false, List, Option, Some, None, refl, sym, subst}
use Rattle.std.specs.Prelude.{◌&&◌, if◌then◌else◌, option_to_list}
use Rattle.std.specs.List.{list_any, list_all, find}
use Rattle.std.specs.Str.{bytes_eq}
use Rattle.std.proofs.lemmas.Bool.{and_parts}
use Rattle.fedi_address.specs.Hosts.{is_host_text}
use Rattle.fedi_address.specs.Iris.{public_iri}
use Rattle.fedi_address.specs.Names.{is_name}
use Rattle.fedi_address.specs.Recipients.{is_public, is_among}
use Rattle.fedi_objects.specs.declared.activity.Activity.{Activity}
use Rattle.fedi_town.proofs.Answered.{IsHidden, to_follower, hidden_too}
use Rattle.fedi_town.proofs.Grounded.{AreGrounded}
use Rattle.fedi_town.proofs.Members.{HasMembers, is_member, IsFound, found, not_public, not_followers}
use Rattle.fedi_town.proofs.Reached.{follow_reaches}
use Rattle.fedi_town.proofs.Steps.{accept, accepts_for, answers}
use Rattle.fedi_town.proofs.Told.{told_agrees}
use Rattle.fedi_town.specs.Activities.{local_act}
use Rattle.fedi_town.specs.Agreement.{Agree}
use Rattle.fedi_town.specs.Deeds.{changes_nothing, is_follow, is_accepted, deed_of}
use Rattle.fedi_town.specs.Relations.{ref_id}
use Rattle.fedi_town.specs.Effects.{accept_for, accept_by, followee, to_one}
use Rattle.fedi_town.specs.Ids.{actor_id}
use Rattle.fedi_town.specs.Seeing.{sees}
use Rattle.fedi_town.specs.Towns.{Town, deed, has_id}
use Rattle.fedi_town.specs.declared.act.Act.{Act}
use Rattle.fedi_town.specs.declared.act.Actor.{Actor as Member}
use Rattle.fedi_town.specs.declared.caller.Caller.{Caller}
use Rattle.fedi_town.specs.declared.deed.Deed.{Deed}
use Rattle.fedi_town.specs.declared.deed.Deed.TheVariants.{Create, Update, Delete, Follow, Like, Announce, Block, Accept, Reject, Undo, Other}
use Rattle.fedi_town.proofs.Texts.{bytes_eq-is}

pub follows_is : (d : Deed) → is_follow d ≡ true → d ≡ Follow
follows_is Create e = absurd cc
follows_is Update e = absurd cc
follows_is Delete e = absurd cc
follows_is Follow e = refl
follows_is Like e = absurd cc
follows_is Announce e = absurd cc
follows_is Block e = absurd cc
follows_is Accept e = absurd cc
follows_is Reject e = absurd cc
follows_is Undo e = absurd cc
follows_is Other e = absurd cc

among_one : (one : List ℕ) → bytes_eq one public_iri ≡ false → is_public (to_one one) ≡ false
unfolding is_among
among_one one other = rw other refl

-- what is known of the followed member
record IsOf (host : List ℕ) (b : List ℕ) (member : Member) : Type 0 where
  shape : is_host_text host ≡ true
  name : is_name member.name ≡ true
  id : member.id ≡ actor_id host member.name
  same : b ≡ member.id

is_of_host : (host b : List ℕ) (member : Member) → IsFound (has_id b) (is_member (Some host)) member → IsOf host b member
unfolding has_id
is_of_host host b member f =
    let parts = and_parts (is_host_text host) (is_name member.name && bytes_eq member.id (actor_id host member.name)) f.kept in
    let more = and_parts (is_name member.name) (bytes_eq member.id (actor_id host member.name)) parts.1 in record {
      shape = parts.0;
      name = more.0;
      id = bytes_eq-is member.id (actor_id host member.name) more.1;
      same = sym (bytes_eq-is member.id b f.passes);
    }

-- the Accept of a Follow by a member is hidden with it
is_hidden : (t u : Town) (host name : List ℕ) (repeat : Option (List ℕ × List ℕ)) (a : Activity) (moment : ℕ) (b : List ℕ) (member : Member)
    → is_name name ≡ true → IsOf host b member
    → deed_of a.kind ≡ Follow → ref_id (local_act t host name repeat a moment).activity.object ≡ Some b
    → is_accepted (local_act t host name repeat a moment).state ≡ true
    → IsHidden t (local_act t host name repeat a moment) (actor_id host name) b (accept_by u host (local_act t host name repeat a moment) member)
unfolding accept_by
is_hidden t u host name repeat a moment b member named_so m does about state =
    let follower : List ℕ = actor_id host name in record {
      author = sym m.same;
      followed_by = refl;
      open_to_none = among_one follower (not_public host name m.shape named_so);
      for_none = refl;
      to = to_follower u member.id follower (rw m.id (not_followers host name member.name named_so));
      reaching = follow_reaches t host name repeat a moment b does about state (rw (m.same, m.id) (not_followers host member.name name m.name));
    }

by_unseen : (t u : Town) (host name : List ℕ) (repeat : Option (List ℕ × List ℕ)) (a : Activity) (moment : ℕ) (c : Caller) (b : List ℕ) (found_one : Option Member)
    → is_name name ≡ true → ((m : Member) → found_one ≡ Some m → IsOf host b m)
    → deed_of a.kind ≡ Follow → ref_id (local_act t host name repeat a moment).activity.object ≡ Some b
    → is_accepted (local_act t host name repeat a moment).state ≡ true
    → sees t c (local_act t host name repeat a moment) ≡ false
    → list_any (sees t c) (accepts_for (Some host) u (local_act t host name repeat a moment) found_one) ≡ false
by_unseen t u host name repeat a moment c b None n m does about state unseen = refl
by_unseen t u host name repeat a moment c b (Some member) n m does about state unseen =
    let x : Act = local_act t host name repeat a moment in
    rw (hidden_too t c x (accept_by u host x member) (actor_id host name) b (is_hidden t u host name repeat a moment b member n (m member refl) does about state) unseen) refl

about_unseen : (t u : Town) (host name : List ℕ) (repeat : Option (List ℕ × List ℕ)) (a : Activity) (moment : ℕ) (c : Caller) (id : Option (List ℕ))
    → list_all (is_member (Some host)) u.actors ≡ true → is_name name ≡ true
    → deed_of a.kind ≡ Follow → ref_id (local_act t host name repeat a moment).activity.object ≡ id
    → is_accepted (local_act t host name repeat a moment).state ≡ true
    → sees t c (local_act t host name repeat a moment) ≡ false
    → list_any (sees t c) (accepts_for (Some host) u (local_act t host name repeat a moment) (followee u id)) ≡ false
about_unseen t u host name repeat a moment c None ms n does about state unseen = refl
about_unseen t u host name repeat a moment c (Some b) ms n does about state unseen =
    by_unseen t u host name repeat a moment c b (find (has_id b) u.actors) n
    (λ m is. is_of_host host b m (found (has_id b) (is_member (Some host)) u.actors m ms is)) does about state unseen

answers_unseen : (t u : Town) (host name : List ℕ) (repeat : Option (List ℕ × List ℕ)) (a : Activity) (moment : ℕ) (c : Caller)
    → u.host ≡ Some host → list_all (is_member (Some host)) u.actors ≡ true → is_name name ≡ true
    → sees t c (local_act t host name repeat a moment) ≡ false
    → list_any (sees t c) (answers u (local_act t host name repeat a moment)) ≡ false
answers_unseen t u host name repeat a moment c hosted ms n unseen =
    let x : Act = local_act t host name repeat a moment in
    elim (is_follow (deed x) && is_accepted x.state) as
    (λ s. (is_follow (deed x) && is_accepted x.state) ≡ s → list_any (sees t c) (option_to_list (if s then accept_for u.host u x (followee u (ref_id x.activity.object)) else None)) ≡ false) [
      | true ↦ λ e.
          let parts = and_parts (is_follow (deed x)) (is_accepted x.state) e in
          subst (λ (k : Option (List ℕ)). list_any (sees t c) (accepts_for k u x (followee u (ref_id x.activity.object))) ≡ false) (sym hosted) (about_unseen t u host name repeat a moment c (ref_id x.activity.object) ms n (follows_is (deed x) parts.0) refl parts.1 unseen)
      | false ↦ λ e. refl
    ] refl

-- A member's post of a kind that changes nothing earlier.
pub post_agrees : (t : Town) (host name : List ℕ) (repeat : Option (List ℕ × List ℕ)) (a : Activity) (moment : ℕ) (c : Caller)
    → AreGrounded t.acts → t.host ≡ Some host → HasMembers t → is_name name ≡ true → changes_nothing (deed_of a.kind) ≡ true
    → sees t c (local_act t host name repeat a moment) ≡ false → Agree (accept t (local_act t host name repeat a moment)) t c
post_agrees t host name repeat a moment c g hosted ms n told unseen =
    let x : Act = local_act t host name repeat a moment in
    let members : list_all (is_member (Some host)) t.actors ≡ true = rw hosted at ms.all in
    told_agrees t x c g told (rw (unseen, answers_unseen t t host name repeat a moment c hosted members n unseen) refl)
