-- The laws about legal histories.
use Rattle.std.proofs.Common.{◌≡◌, ℕ, Bool, true, false, List, [], ◌∷◌, ◌++◌, Option, Some, None, refl, sym, ap, subst, ◌∙◌}
use Rattle.std.specs.Prelude.{not, map, codes}
use Rattle.std.specs.List.{list_any, list_all}
use Rattle.std.specs.Str.{bytes_eq}
use Rattle.std.proofs.lemmas.Bool.{and_parts}
use Rattle.std.proofs.lemmas.List.{append_cancel_left}
use Rattle.std.proofs.lemmas.List.Sums.{fold-append}
use Rattle.fedi_address.specs.Hosts.{is_host_text}
use Rattle.fedi_address.specs.Names.{is_name}
use Rattle.fedi_objects.specs.declared.activity.Activity.{Activity}
use Rattle.fedi_objects.specs.declared.entry.Entry.{Entry}
use Rattle.fedi_objects.specs.declared.entry.Entry.TheVariants.{Local, Remote}
use Rattle.fedi_model.specs.Asks.{answer_of}
use Rattle.fedi_model.specs.Reading.{is_self}
use Rattle.fedi_model.specs.declared.ask.Ask.{Ask}
use Rattle.fedi_town.proofs.Grounded.{town_grounded, AreGrounded}
use Rattle.fedi_laws.proofs.Inboxes.{IsOther, inbox_agrees}
use Rattle.fedi_town.proofs.Members.{is_member, host_of-actor_id}
use Rattle.fedi_town.proofs.People.{id_at, member_id, named_is, id_of-is, there_is}
use Rattle.fedi_town.proofs.Posted.{post_agrees}
use Rattle.fedi_laws.specs.Statements.{is_of_profiles}
use Rattle.fedi_laws.proofs.Knowledge.{Knows, answers_agree, members, profiles_agree}
use Rattle.fedi_town.proofs.Sound.{IsSound, IsHosted, is_apart, is_set, town_sound}
use Rattle.fedi_town.proofs.Steps.{accept, after_post, after_delivery, after_inbox}
use Rattle.fedi_town.proofs.Told.{plain_agrees}
use Rattle.fedi_town.specs.Activities.{local_act, remote_act}
use Rattle.fedi_town.specs.Agreement.{Agree, member_names}
use Rattle.fedi_town.specs.Deeds.{changes_nothing, is_follow, deed_of}
use Rattle.fedi_town.specs.Histories.{step, town, is_known, with_recipient}
use Rattle.fedi_town.specs.Ids.{actor_id}
use Rattle.fedi_town.specs.Legal.{IsLegal, is_caller}
use Rattle.fedi_town.specs.Relations.{is_id}
use Rattle.fedi_town.specs.Seeing.{sees, is_of_peer}
use Rattle.fedi_town.specs.Towns.{Town, empty_town, has_name, has_host, id_of}
use Rattle.fedi_town.specs.declared.act.Actor.{Actor}
use Rattle.fedi_town.specs.declared.act.Peer.{Peer}
use Rattle.fedi_town.specs.declared.caller.Caller.{Caller}
use Rattle.fedi_town.specs.declared.caller.Caller.TheVariants.{Nobody}
use Rattle.fedi_town.specs.declared.caller.Caller.TheVariants as callers
use Rattle.fedi_town.proofs.Texts.{is_false, not_both, bytes_eq-same, bytes_eq-is}

-- ---- the first clause

abbrev with_id : Option (List ℕ) → List ℕ → List ℕ × List ℕ
with_id host name = (name, id_at host name)

members_by : (host : Option (List ℕ)) (xs : List Actor) → list_all (is_member host) xs ≡ true → map (λ a. (a.name, a.id)) xs ≡ map (with_id host) (map (λ a. a.name) xs)
members_by host [] all = refl
members_by host (a ∷ xs) all =
    let parts = and_parts (is_member host a) (list_all (is_member host) xs) all in
    rw (members_by host xs parts.1, member_id host a parts.0) refl

same_members : (g h : Town) → IsHosted g → IsHosted h → g.host ≡ h.host → member_names g ≡ member_names h → members g ≡ members h
same_members g h of_g of_h host names =
    members_by g.host g.actors of_g.sound.members
    ∙ ap (λ (k : Option (List ℕ)). map (with_id k) (member_names g)) host
    ∙ ap (map (with_id h.host)) names
    ∙ sym (members_by h.host h.actors of_h.sound.members)

agree_knows : (g h : Town) (c : Caller) → IsHosted g → IsHosted h → Agree g h c → Knows g h c
agree_knows g h c of_g of_h agree = record {
  host = agree.host;
  members = same_members g h of_g of_h agree.host agree.names;
  peer = agree.peer;
  view = agree.view;
  own = agree.own;
}

-- Legal histories that agree for a caller give the caller the same reply.
pub private_answers : (g h : List Entry) (c : Caller) (ask : Ask) → IsLegal g → IsLegal h → Agree (town g) (town h) c → answer_of (town g) c ask ≡ answer_of (town h) c ask
private_answers g h c ask of_g of_h agree =
    answers_agree (town g) (town h) c ask (agree_knows (town g) (town h) c (town_sound g of_g) (town_sound h of_h) agree)

-- Who a member is depends only on the host and on the members' names, for every caller.
pub public_profiles : (g h : List Entry) (c d : Caller) (ask : Ask) → IsLegal g → IsLegal h → (town g).host ≡ (town h).host
    → member_names (town g) ≡ member_names (town h) → is_of_profiles ask ≡ true → answer_of (town g) c ask ≡ answer_of (town h) d ask
public_profiles g h c d ask of_g of_h host names is =
    profiles_agree (town g) (town h) c d ask host (same_members (town g) (town h) (town_sound g of_g) (town_sound h of_h) host names) is

-- ---- the second clause, of posts

pub town-push : (history : List Entry) (e : Entry) → town (history ++ e ∷ []) ≡ step (town history) e
town-push history e = fold-append step empty_town history (e ∷ [])

posted_agrees : (t : Town) (host : Option (List ℕ)) (at name : List ℕ) (repeat : Option (List ℕ × List ℕ)) (a : Activity) (moment : ℕ) (c : Caller)
    → AreGrounded t.acts → IsSound t → t.host ≡ host → host ≡ Some at → is_name name ≡ true → changes_nothing (deed_of a.kind) ≡ true
    → sees t c (local_act t at name repeat a moment) ≡ false → Agree (after_post host t name repeat a moment) t c
posted_agrees t None at name repeat a moment c g s own is named told unseen = absurd cc
posted_agrees t (Some host) at name repeat a moment c g s own is named told unseen =
    let same : at ≡ host = cc in
    post_agrees t host name repeat a moment c g own (record { all = s.members }) named told
    (subst (λ (h : List ℕ). sees t c (local_act t h name repeat a moment) ≡ false) same unseen)

-- A member's post of a kind that changes nothing earlier and that the caller does not see.
pub unseen_posts : (history : List Entry) (host name : List ℕ) (repeat : Option (List ℕ × List ℕ)) (a : Activity) (moment : ℕ) (c : Caller)
    → IsLegal history → (town history).host ≡ Some host → list_any (has_name name) (town history).actors ≡ true → changes_nothing (deed_of a.kind) ≡ true
    → sees (town history) c (local_act (town history) host name repeat a moment) ≡ false
    → Agree (town (history ++ Local name repeat a moment ∷ [])) (town history) c
unseen_posts history host name repeat a moment c legal hosted member told unseen =
    let t : Town = town history in
    let s : IsHosted t = town_sound history legal in
    subst (λ (u : Town). Agree u t c) (sym (town-push history (Local name repeat a moment)))
    (posted_agrees t t.host host name repeat a moment c (town_grounded history) s.sound refl hosted (named_is name t.host t.actors s.sound.members member) told unseen)

-- ---- the second clause, of deliveries

delivered_agrees : (t : Town) (owner author id : Option (List ℕ)) (o b i : List ℕ) (a : Activity) (moment : ℕ) (c : Caller)
    → owner ≡ Some o → author ≡ Some b → id ≡ Some i → Agree (after_inbox t o b i a moment) t c → Agree (after_delivery t owner author id a moment) t c
delivered_agrees t owner author id o b i a moment c p q r agree = rw (p, q, r) agree

as_new : (t : Town) (owner author id : List ℕ) (a : Activity) (moment : ℕ) (c : Caller) → is_known t id ≡ false
    → Agree (accept t (remote_act t owner author a moment)) t c → Agree (after_inbox t owner author id a moment) t c
as_new t owner author id a moment c new agree = rw new agree

as_known : (t : Town) (owner author id : List ℕ) (a : Activity) (moment : ℕ) (c : Caller) → is_known t id ≡ true
    → Agree (record t { acts = map (with_recipient id owner) t.acts }) t c → Agree (after_inbox t owner author id a moment) t c
as_known t owner author id a moment c known agree = rw known agree

-- A delivery of a new id, of a kind that changes nothing earlier and is not a Follow, and that the
-- caller does not see.
pub unseen_deliveries : (history : List Entry) (peer inbox owner author id : List ℕ) (a : Activity) (moment : ℕ) (c : Caller)
    → id_of (town history) inbox ≡ Some owner → a.actor ≡ Some author → a.id ≡ Some id → is_known (town history) id ≡ false
    → changes_nothing (deed_of a.kind) ≡ true → is_follow (deed_of a.kind) ≡ false
    → sees (town history) c (remote_act (town history) owner author a moment) ≡ false
    → Agree (town (history ++ Remote peer inbox a moment ∷ [])) (town history) c
unseen_deliveries history peer inbox owner author id a moment c of_inbox of_author of_id new told other unseen =
    let t : Town = town history in
    subst (λ (u : Town). Agree u t c) (sym (town-push history (Remote peer inbox a moment)))
    (delivered_agrees t (id_of t inbox) a.actor a.id owner author id a moment c of_inbox of_author of_id
    (as_new t owner author id a moment c new (plain_agrees t (remote_act t owner author a moment) c (town_grounded history) told other unseen)))

-- ---- a delivery that only adds an inbox

-- if some elements pass one test and all pass another, one element passes both
some_of : {A : Type 0} {G : Type 0} (p q : A → Bool) (xs : List A) → ((x : A) → p x ≡ true → q x ≡ true → G) → list_any p xs ≡ true → list_all q xs ≡ true → G
some_of p q [] h any all = absurd cc
some_of {A} {G} p q (x ∷ xs) h any all =
    let parts = and_parts (q x) (list_all q xs) all in
    elim (p x) as (λ b. p x ≡ b → G) [
      | true ↦ λ e. h x e parts.0
      | false ↦ λ e. some_of p q xs h (rw e at any) parts.1
    ] refl

other_peer : (host own : List ℕ) (p : Peer) → has_host host p ≡ true → is_apart (Some own) p ≡ true → bytes_eq own host ≡ false
unfolding has_host
other_peer host own p at apart =
    is_false (bytes_eq own host) (λ e.
    let same : own ≡ host = bytes_eq-is own host e in
    let there : p.host ≡ host = bytes_eq-is p.host host at in
    let wrong : not (bytes_eq host host) ≡ true = rw (same, there) at apart in
    let false_is : not (bytes_eq host host) ≡ false = rw (bytes_eq-same host) refl in
    absurd cc)

-- a peer's host differs from each member's host
peer_is_other : (host own : List ℕ) (inbox : List ℕ) → is_host_text own ≡ true → is_name inbox ≡ true → bytes_eq own host ≡ false → is_of_peer host (actor_id own inbox) ≡ false
unfolding is_of_peer
peer_is_other host own inbox shape named other = rw (host_of-actor_id own inbox shape named) other

-- members with different names have different ids
other_id : (own name inbox : List ℕ) → bytes_eq name inbox ≡ false → bytes_eq (actor_id own name) (actor_id own inbox) ≡ false
unfolding actor_id
other_id own name inbox other =
    is_false (bytes_eq (actor_id own name) (actor_id own inbox)) (λ e.
    let same : codes "https://" ++ (own ++ (codes "/users/" ++ name)) ≡ codes "https://" ++ (own ++ (codes "/users/" ++ inbox)) = bytes_eq-is (actor_id own name) (actor_id own inbox) e in
    let near : own ++ (codes "/users/" ++ name) ≡ own ++ (codes "/users/" ++ inbox) = append_cancel_left (codes "https://") _ _ same in
    let path : codes "/users/" ++ name ≡ codes "/users/" ++ inbox = append_cancel_left own _ _ near in
    let tail : name ≡ inbox = append_cancel_left (codes "/users/") _ _ path in
    not_both (bytes_eq name inbox) (rw tail (bytes_eq-same inbox)) other)

not_it : (own inbox : List ℕ) (id : Option (List ℕ)) → ((i : List ℕ) → id ≡ Some i → bytes_eq i (actor_id own inbox) ≡ false) → is_id (actor_id own inbox) id ≡ false
not_it own inbox None h = refl
not_it own inbox (Some i) h = h i refl

is_other : (t : Town) (own inbox : List ℕ) (c : Caller) → is_host_text own ≡ true → is_name inbox ≡ true → list_all (is_member (Some own)) t.actors ≡ true
    → list_all (is_apart (Some own)) t.peers ≡ true → is_caller t c ≡ true → is_self c inbox ≡ false → IsOther t c (actor_id own inbox)
is_other t own inbox callers.Nobody shape named all apart caller other = tt
is_other t own inbox (callers.Actor name) shape named all apart caller other =
    not_it own inbox (id_of t name) (λ i is. rw (id_of-is t own name i all is) (other_id own name inbox other))
is_other t own inbox (callers.Peer host) shape named all apart caller other =
    peer_is_other host own inbox shape named (some_of (has_host host) (is_apart (Some own)) t.peers (other_peer host own) caller apart)

-- A delivery of a known id changes nothing for callers other than the inbox's owner.
pub known_deliveries : (history : List Entry) (host peer inbox author id : List ℕ) (a : Activity) (moment : ℕ) (c : Caller)
    → IsLegal history → (town history).host ≡ Some host → list_any (has_name inbox) (town history).actors ≡ true → a.actor ≡ Some author → a.id ≡ Some id
    → is_known (town history) id ≡ true → is_caller (town history) c ≡ true → is_self c inbox ≡ false
    → Agree (town (history ++ Remote peer inbox a moment ∷ [])) (town history) c
known_deliveries history host peer inbox author id a moment c legal hosted member of_author of_id known caller other =
    let t : Town = town history in
    let s : IsHosted t = town_sound history legal in
    let all : list_all (is_member (Some host)) t.actors ≡ true = subst (λ (k : Option (List ℕ)). list_all (is_member k) t.actors ≡ true) hosted s.sound.members in
    let apart : list_all (is_apart (Some host)) t.peers ≡ true = subst (λ (k : Option (List ℕ)). list_all (is_apart k) t.peers ≡ true) hosted s.sound.peers in
    let shape : is_host_text host ≡ true = subst (λ (k : Option (List ℕ)). is_set k ≡ true) hosted s.host in
    let named : is_name inbox ≡ true = named_is inbox (Some host) t.actors all member in
    let owner : id_of t inbox ≡ Some (actor_id host inbox) = there_is t host inbox all member in
    subst (λ (u : Town). Agree u t c) (sym (town-push history (Remote peer inbox a moment)))
    (delivered_agrees t (id_of t inbox) a.actor a.id (actor_id host inbox) author id a moment c owner of_author of_id
    (as_known t (actor_id host inbox) author id a moment c known
    (inbox_agrees t id (actor_id host inbox) c (is_other t host inbox c shape named all apart caller other))))
