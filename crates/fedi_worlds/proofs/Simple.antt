-- What is free, who delivers, and where members and their inboxes are.
use Rattle.std.proofs.Common.{◌≡◌, ℕ, zero, suc, ◌≤◌, Bool, true, false, leb, List, [], ◌∷◌, ◌++◌}
use Rattle.std.proofs.Common.{length, Option, Some, None, refl, sym, ap, ◌∙◌, subst, ⊎_elim}
use Rattle.std.proofs.Common.{append_assoc, arith}
use Rattle.std.specs.Cmp.Derive.{both_true}
use Rattle.std.specs.Prelude.{◌&&◌, not, slice_get, map, filter, codes, nat_eq, if◌then◌else◌}
use Rattle.std.specs.List.{list_any, list_all, flat_map, starts_with}
use Rattle.std.specs.Str.{bytes_eq}
use Rattle.std.proofs.lemmas.Bool.{and_parts, le-leb, leb-true, or_right}
use Rattle.std.proofs.lemmas.List.{length-append}
use Rattle.std.proofs.lemmas.List.Folds.{list_all-append}
use Rattle.fedi_address.specs.Hosts.{address, is_path_byte, is_plain_path}
use Rattle.fedi_address.specs.Iris.{host_of, target_of}
use Rattle.fedi_address.specs.Names.{is_name, is_name_byte}
use Rattle.fedi_address.specs.Recipients.{is_among}
use Rattle.fedi_address.proofs.Parts.{host_of-address, target_of-address}
use Rattle.fedi_log.specs.Claims.{IsFirst}
use Rattle.fedi_model.specs.declared.ask.Ask.TheVariants.{Nowhere, WrongMethod, Webfinger, Actor}
use Rattle.fedi_model.specs.declared.ask.Ask.TheVariants.{Collection, Activity, Object, Outbox}
use Rattle.fedi_model.specs.declared.ask.Ask.TheVariants.{Inbox, Board}
use Rattle.fedi_model.specs.declared.post.Post.{Post}
use Rattle.fedi_model.specs.Posting.{Judgement, Stop, Repeat, Keep, post_entry, entry_at}
use Rattle.fedi_model.specs.Posting.{inbox_entry, inbox_entry_at, delivery_of, judge_post}
use Rattle.fedi_model.specs.Posting.{judge_inbox}
use Rattle.fedi_model.specs.Reading.{is_peer}
use Rattle.fedi_objects.specs.declared.activity.Activity as activities
use Rattle.fedi_objects.specs.declared.entry.Entry.{Entry}
use Rattle.fedi_town.proofs.Members.{host_of-actor_id}
use Rattle.fedi_town.proofs.Texts.{bytes_eq-same}
use Rattle.fedi_town.specs.Histories.{town}
use Rattle.fedi_town.specs.Ids.{actor_id, actor_path, inbox_id, is_of_host}
use Rattle.fedi_town.specs.Queues.{Delivery, delivery_to, deliveries_of, is_at_peer, queue, sends}
use Rattle.fedi_town.specs.Towns.{Town, id_of}
use Rattle.fedi_town.specs.declared.caller.Caller.{Caller}
use Rattle.fedi_town.specs.declared.caller.Caller.TheVariants as callers
use Rattle.fedi_queue.specs.Due.{due_in, is_due_by}
use Rattle.fedi_worlds.specs.Steps.{free_at, is_attempted}
use Rattle.fedi_worlds.proofs.Sites.{IsSite}
use Rattle.fedi_worlds.proofs.Local.{IsLocalEntry, OnlyPeersDeliver, MembersAreNear, InboxesAreNear}
use Rattle.fedi_worlds.proofs.Local.{WhatIsFreeIsSent, IsDue}
use Rattle.fedi_worlds.proofs.Places.{some_is, slice_split}
use Rattle.fedi_town.proofs.Paths.{name_in_path}

-- ---- what is free

filtered_from : {A : Type 0} (p : A → Bool) (xs : List A) (k : ℕ) (x : A)
    → slice_get (filter p xs) k ≡ Some x → (j : ℕ) × (slice_get xs j ≡ Some x)
filtered_from p [] k x e = absurd cc
filtered_from {A} p (y ∷ xs) k x e =
    elim (p y) as (λ b. slice_get (if b then y ∷ filter p xs else filter p xs) k ≡ Some x
    → (j : ℕ) × (slice_get (y ∷ xs) j ≡ Some x)) [
      | true ↦ λ h. at_front y xs (filter p xs) k x (λ n i. filtered_from p xs n x i) h
      | false ↦ λ h. let r = filtered_from p xs k x h in (suc r.0, r.1)
    ] e
  where
    at_front : {A : Type 0} (y : A) (xs fs : List A) (k : ℕ) (x : A)
        → ((n : ℕ) → slice_get fs n ≡ Some x → (j : ℕ) × (slice_get xs j ≡ Some x))
        → slice_get (y ∷ fs) k ≡ Some x → (j : ℕ) × (slice_get (y ∷ xs) j ≡ Some x)
    at_front y xs fs zero x f h = (zero, h)
    at_front y xs fs (suc k) x f h = let r = f k h in (suc r.0, r.1)

flat_from : {A B : Type 0} (f : A → List B) (xs : List A) (k : ℕ) (y : B)
    → slice_get (flat_map f xs) k ≡ Some y
    → (i : ℕ) × (x : A) × (slice_get xs i ≡ Some x) × (j : ℕ) × (slice_get (f x) j ≡ Some y)
flat_from f [] k y e = absurd cc
flat_from f (x ∷ xs) k y e =
    ⊎_elim
    (λ (here : slice_get (f x) k ≡ Some y). (zero, x, refl, k, here))
    (λ (later : (j : ℕ) × (slice_get (flat_map f xs) j ≡ Some y)).
    let r = flat_from f xs later.0 y later.1 in (suc r.0, r.1, r.2, r.3, r.4))
    (slice_split (f x) (flat_map f xs) k y e)

among_at : (xs : List (List ℕ)) (k : ℕ) (r : List ℕ) → slice_get xs k ≡ Some r
    → is_among r xs ≡ true
unfolding is_among
among_at [] k r e = absurd cc
among_at (x ∷ xs) zero r e = let same : x ≡ r = some_is x r e in rw (same, bytes_eq-same r) refl
among_at (x ∷ xs) (suc k) r e =
    or_right (bytes_eq x r) (list_any (λ u. bytes_eq u r) xs) (among_at xs k r e)

queued : (t : Town) (k : ℕ) (d : Delivery) (id r : List ℕ) → slice_get (queue t) k ≡ Some d
    → d.activity ≡ Some id → d.recipient ≡ r → IsDue t id r
unfolding deliveries_of
queued t k d id r at own to =
    let f = flat_from (deliveries_of t) t.acts k d at in
    let m = mapped_from_any (delivery_to t f.1) (filter (is_at_peer t) (sends t f.1)) f.3 d f.4 in
    let s = filtered_from (is_at_peer t) (sends t f.1) f.3 m.0 m.1 in
    let named : f.1.activity.id ≡ Some id = ap (λ (z : Delivery). z.activity) m.2 ∙ own in
    let reached : m.0 ≡ r = ap (λ (z : Delivery). z.recipient) m.2 ∙ to in
    record {
      place = f.0;
      act = f.1;
      holds = f.2;
      named = named;
      reached =
          subst (λ (z : List ℕ). is_among z (sends t f.1) ≡ true) reached
          (among_at (sends t f.1) s.0 m.0 s.1);
    }
  where
    mapped_from_any : {A B : Type 0} (f : A → B) (xs : List A) (k : ℕ) (y : B)
        → slice_get (map f xs) k ≡ Some y → (x : A) × (slice_get xs k ≡ Some x) × (f x ≡ y)
    mapped_from_any f [] k y e = absurd cc
    mapped_from_any f (x ∷ xs) zero y e = (x, refl, some_is (f x) y e)
    mapped_from_any f (x ∷ xs) (suc k) y e = mapped_from_any f xs k y e

first_at : (id r : List ℕ) (ds : List Delivery) → IsFirst id r ds
    → (d : Delivery) × (slice_get ds zero ≡ Some d) × (d.activity ≡ Some id) × (d.recipient ≡ r)
first_at id r [] e = absurd e
first_at id r (d ∷ ds) e = (d, refl, e.0, e.1)

pub free : WhatIsFreeIsSent
free attempts n moment h id r e =
    let d = first_at id r (free_at attempts n moment h) e in
    let a =
    filtered_from (λ (x : Delivery). not (is_attempted attempts n x.activity x.recipient))
    (due_in (town h) moment) zero d.0 d.1 in
    let b = filtered_from (is_due_by moment) (queue (town h)) a.0 d.0 a.1 in
    queued (town h) b.0 d.0 id r b.1 d.2 d.3

-- ---- who delivers

post_only : (name : List ℕ) (post : Post) (moment : ℕ) (j : Judgement) (e : Entry)
    → post_entry name post moment j ≡ Some e → IsLocalEntry e
post_only name post moment (Stop a) e is = absurd cc
post_only name post moment (Repeat id) e is = absurd cc
post_only name post moment (Keep a) e is = subst IsLocalEntry (some_is _ e is) tt

outbox_only : (t : Town) (c : Caller) (name : List ℕ) (post : Post) (moment : ℕ)
    (id : Option (List ℕ)) (e : Entry) → entry_at t c name post moment id ≡ Some e → IsLocalEntry e
outbox_only t c name post moment None e is = absurd cc
outbox_only t c name post moment (Some author) e is =
    post_only name post moment (judge_post t c name author post) e is

none_delivers : (c : Caller) (name : List ℕ) (a : activities.Activity) (moment : ℕ) (e : Entry)
    → is_peer c ≡ false → delivery_of c name a moment ≡ Some e → ⊥
none_delivers callers.Nobody name a moment e not_peer is = cc
none_delivers (callers.Actor own) name a moment e not_peer is = cc
none_delivers (callers.Peer host) name a moment e not_peer is = cc

inbox_none : (c : Caller) (name : List ℕ) (moment : ℕ) (j : Judgement) (e : Entry)
    → is_peer c ≡ false → inbox_entry c name moment j ≡ Some e → ⊥
inbox_none c name moment (Stop a) e not_peer is = cc
inbox_none c name moment (Repeat id) e not_peer is = cc
inbox_none c name moment (Keep a) e not_peer is = none_delivers c name a moment e not_peer is

inbox_only : (t : Town) (c : Caller) (name : List ℕ) (post : Post) (moment : ℕ)
    (id : Option (List ℕ)) (e : Entry) → is_peer c ≡ false
    → inbox_entry_at t c name post moment id ≡ Some e → ⊥
inbox_only t c name post moment None e not_peer is = cc
inbox_only t c name post moment (Some owner) e not_peer is =
    inbox_none c name moment (judge_inbox t c owner post) e not_peer is

pub asks : OnlyPeersDeliver
asks t c Nowhere moment e not_peer is = absurd cc
asks t c (WrongMethod allow) moment e not_peer is = absurd cc
asks t c (Webfinger resource) moment e not_peer is = absurd cc
asks t c (Actor name) moment e not_peer is = absurd cc
asks t c (Collection which part) moment e not_peer is = absurd cc
asks t c (Board name slug part) moment e not_peer is = absurd cc
asks t c (Activity name number) moment e not_peer is = absurd cc
asks t c (Object name number) moment e not_peer is = absurd cc
asks t c (Outbox name post) moment e not_peer is =
    outbox_only t c name post moment (id_of t name) e is
asks t c (Inbox name post) moment e not_peer is =
    absurd (inbox_only t c name post moment (id_of t name) e not_peer is)

-- ---- members and their inboxes

https_first : (rest : List ℕ)
    → starts_with nat_eq (codes "https://" ++ rest) (codes "https://") ≡ true
https_first rest = refl

pub near : MembersAreNear
unfolding actor_id is_of_host
near host name shape named =
    let at : host_of (address host (actor_path name)) ≡ host =
    host_of-actor_id host name shape.shape named in
    (at, rw (at, https_first (host ++ actor_path name), bytes_eq-same host) refl)

-- the path of a member's inbox
pub inbox_path : List ℕ → List ℕ
inbox_path name = codes "/users/" ++ (name ++ codes "/inbox")

pub inbox_path_is_plain : (name : List ℕ) → is_name name ≡ true
    → is_plain_path (codes "/users/" ++ (name ++ codes "/inbox")) ≡ true
inbox_path_is_plain name h =
    let parts =
    and_parts (leb 1 (length name) && leb (length name) 30) (list_all is_name_byte name) h in
    let short : length name ≤ 30 =
    leb-true (length name) 30 (and_parts (leb 1 (length name)) (leb (length name) 30) parts.0).1 in
    let bytes : list_all is_path_byte name ≡ true = name_in_path name parts.1 in
    let tail : list_all is_path_byte (name ++ codes "/inbox") ≡ true =
    list_all-append is_path_byte name (codes "/inbox") ∙ both_true bytes refl in
    let room : leb (length (codes "/users/" ++ (name ++ codes "/inbox"))) 128 ≡ true =
    le-leb (length (codes "/users/" ++ (name ++ codes "/inbox"))) 128
    (omega (arith, length-append name (codes "/inbox"))) in
    both_true (both_true refl room) (rw tail refl)

pub inbox_is : (host name : List ℕ)
    → inbox_id (actor_id host name) ≡ address host (codes "/users/" ++ (name ++ codes "/inbox"))
unfolding actor_id
inbox_is host name =
    append_assoc (codes "https://") (host ++ actor_path name) (codes "/inbox")
    ∙ ap (λ (z : List ℕ). codes "https://" ++ z)
    (append_assoc host (actor_path name) (codes "/inbox")
    ∙ ap (λ (z : List ℕ). host ++ z) (append_assoc (codes "/users/") name (codes "/inbox")))

pub inbox_target : (host name : List ℕ) → IsSite host → is_name name ≡ true
    → target_of (inbox_id (actor_id host name)) ≡ codes "/users/" ++ (name ++ codes "/inbox")
inbox_target host name shape named =
    ap target_of (inbox_is host name)
    ∙ target_of-address host _ shape.shape (inbox_path_is_plain name named)

pub inbox_host : (host name : List ℕ) → IsSite host → is_name name ≡ true
    → host_of (inbox_id (actor_id host name)) ≡ host
inbox_host host name shape named =
    ap host_of (inbox_is host name)
    ∙ host_of-address host _ shape.shape (inbox_path_is_plain name named)

pub inboxes : InboxesAreNear
inboxes recipient inbox i =
    let to : inbox ≡ inbox_id (actor_id i.host i.name) =
    i.inbox_is ∙ ap (λ (z : List ℕ). inbox_id z) i.recipient_is in
    ap host_of to
    ∙ (inbox_host i.host i.name i.shape i.named
    ∙ (sym (host_of-actor_id i.host i.name i.shape.shape i.named)
    ∙ ap host_of (sym i.recipient_is)))
