-- What is added to the lists that an activity is in.
use Rattle.std.proofs.Common.{◌≡◌, ℕ, ◌+◌, ◌<◌, ◌≤◌, arith, Bool, true, false, List, [], ◌∷◌, ◌++◌, Option, Some, None, refl, sym, ap, subst, ◌∙◌, get_or, length, take, eq-eqb}
use Rattle.std.specs.Prelude.{◌&&◌, ◌||◌, not, if◌then◌else◌}
use Rattle.std.specs.List.{list_any}
use Rattle.std.specs.Str.{bytes_eq}
use Rattle.std.proofs.lemmas.Bool.{and_parts}
use Rattle.std.proofs.lemmas.List.{append-nil, take_more}
use Rattle.std.proofs.lemmas.List.Folds.{list_any-append, list_any_at}
use Rattle.std.proofs.lemmas.Slice.Eq.{bytes_eq-Decides}
use Rattle.fedi_address.specs.Recipients.{is_among}
use Rattle.fedi_index.specs.declared.collection.Collection.{Collection}
use Rattle.fedi_index.specs.declared.collection.Collection.TheVariants.{Inbox, Outbox, Followers, Following, Liked, Likes, Shares, Pins, Board}
use Rattle.fedi_index.specs.Candidates.{belongs, is_same}
use Rattle.fedi_index.specs.Lists.{AddsOnce, CanAdd, Listing, ends_in, is_lacking, is_same_list, places_of, room_of}
use Rattle.fedi_index.specs.Growing.{is_inbox, is_kept, is_kind, is_one, list_of_author, list_of_other, other_owner}
use Rattle.fedi_index.proofs.Pushed.{nothing_added}
use Rattle.fedi_index.proofs.TypeLists.{author_lists, no_pin, other_lists}
use Rattle.fedi_town.specs.declared.act.Act.{Act}
use Rattle.fedi_town.specs.Boards.{is_pin_kind}
use Rattle.fedi_visible.specs.Pins.{is_directed, is_pin_kind_by}
use Rattle.fedi_town.specs.Addressing.{is_of_town}
use Rattle.fedi_town.specs.Deeds.{is_announce, is_follow, is_like}
use Rattle.fedi_town.specs.Relations.{is_about, is_id, ref_id}
use Rattle.fedi_town.specs.Towns.{deed, is_by}
use Rattle.fedi_town.proofs.Texts.{and_none, or_no, or_true}

-- ---- one list

-- whether it is the list of an owner of this host
one-here : (host : Option (List ℕ)) (kind : Collection) (owner : List ℕ) → is_of_town host owner ≡ true → (k : Collection) (o : List ℕ)
    → is_same_list k o kind owner ≡ is_one host (Some kind) (Some owner) k o
unfolding is_one
one-here host kind owner here k o =
    elim (is_same_list k o kind owner) as (λ b. is_same_list k o kind owner ≡ b → b ≡ (is_of_town host o && b)) [
      | true ↦ λ e. rw (← (bytes_eq-Decides owner o).0 (and_parts (is_same kind k) (bytes_eq owner o) e).1, here) refl
      | false ↦ λ e. sym (and_none (is_of_town host o))
    ] refl

pub one_room : (host : Option (List ℕ)) (kind : Collection) (owner : List ℕ) (place : ℕ) (l : List Listing) → is_of_town host owner ≡ true
    → CanAdd (is_one host (Some kind) (Some owner)) place l → CanAdd (λ k o. is_same_list k o kind owner) place l
one_room host kind owner place l here can = record { room = λ k o is. can.room k o (rw (one-here host kind owner here k o) at is) }

pub one_pushed : (host : Option (List ℕ)) (kind : Collection) (owner : List ℕ) (place : ℕ) (old new : List Listing) → is_of_town host owner ≡ true
    → AddsOnce (λ k o. is_same_list k o kind owner) place old new → AddsOnce (is_one host (Some kind) (Some owner)) place old new
one_pushed host kind owner place old new here h = record {
  places = λ k o. rw (← one-here host kind owner here k o) (h.places k o);
  room = λ k o. rw (← one-here host kind owner here k o) (h.room k o);
}

-- an owner of another host has no list
pub one_elsewhere : (host : Option (List ℕ)) (kind : Collection) (owner : List ℕ) (place : ℕ) (l : List Listing) → is_of_town host owner ≡ false
    → AddsOnce (is_one host (Some kind) (Some owner)) place l l
unfolding is_one
one_elsewhere host kind owner place l far =
    nothing_added (is_one host (Some kind) (Some owner)) place l (λ k o. ap (λ (b : Bool). is_lacking place (places_of k o l) b) (none k o))
  where
    none : (k : Collection) (o : List ℕ) → (is_of_town host o && (is_same kind k && bytes_eq owner o)) ≡ false
    none k o =
        elim (bytes_eq owner o) as (λ b. bytes_eq owner o ≡ b → (is_of_town host o && (is_same kind k && b)) ≡ false) [
          | true ↦ λ e. rw (← (bytes_eq-Decides owner o).0 e, far) refl
          | false ↦ λ e. rw (and_none (is_same kind k)) (and_none (is_of_town host o))
        ] refl

pub no-kind : (host owner : Option (List ℕ)) (k : Collection) (o : List ℕ) → is_one host None owner k o ≡ false
unfolding is_one
no-kind host owner k o = and_none (is_of_town host o)

pub no-owner : (host : Option (List ℕ)) (kind : Option Collection) (k : Collection) (o : List ℕ) → is_one host kind None k o ≡ false
unfolding is_one
no-owner host kind k o = rw (and_none (is_kind k kind)) (and_none (is_of_town host o))

pub no_kind_added : (host owner : Option (List ℕ)) (place : ℕ) (l : List Listing) → AddsOnce (is_one host None owner) place l l
no_kind_added host owner place l = nothing_added (is_one host None owner) place l (λ k o. rw (no-kind host owner k o) refl)

pub no_owner_added : (host : Option (List ℕ)) (kind : Option Collection) (place : ℕ) (l : List Listing) → AddsOnce (is_one host kind None) place l l
no_owner_added host kind place l = nothing_added (is_one host kind None) place l (λ k o. rw (no-owner host kind k o) refl)

-- ---- one list after the other

ends-pushed : (place : ℕ) (ps : List ℕ) → ends_in place (ps ++ place ∷ []) ≡ true
ends-pushed place [] = eq-eqb place place refl
ends-pushed place (p ∷ []) = ends-pushed place []
ends-pushed place (p ∷ q ∷ ps) = ends-pushed place (q ∷ ps)

-- whether the position is still missing after the first addition
left : (place : ℕ) (ps : List ℕ) (s r : Bool) → is_lacking place (ps ++ (if is_lacking place ps s then place ∷ [] else [])) r ≡ (is_lacking place ps (s || r) && not (is_lacking place ps s))
left place ps s r =
    elim (ends_in place ps) as (λ b. ends_in place ps ≡ b → is_lacking place (ps ++ (if s && not b then place ∷ [] else [])) r ≡ (((s || r) && not b) && not (s && not b))) [
      | true ↦ λ e. elim s as (λ t. is_lacking place (ps ++ (if t && false then place ∷ [] else [])) r ≡ (((t || r) && false) && not (t && false))) [
        | true ↦ rw (append-nil ps, e) (and_none r)
        | false ↦ rw (append-nil ps, e) (and_none r ∙ sym (ap (λ (b : Bool). b && true) (and_none r)))
      ]
      | false ↦ λ e. elim s as (λ t. is_lacking place (ps ++ (if t && true then place ∷ [] else [])) r ≡ (((t || r) && true) && not (t && true))) [
        | true ↦ rw (ends-pushed place ps) (and_none r)
        | false ↦ rw (append-nil ps, e) (with_trues r)
      ]
    ] refl
  where
    with_trues : (r : Bool) → (r && true) ≡ ((r && true) && true)
    with_trues true = refl
    with_trues false = refl

-- what the two add together
abbrev put : ℕ → Bool → List ℕ
put place b = if b then place ∷ [] else []

joined : (place : ℕ) (ps : List ℕ) (s r e : Bool) → (ps ++ put place (s && not e)) ++ put place (((s || r) && not e) && not (s && not e)) ≡ ps ++ put place ((s || r) && not e)
joined place ps true r true = append-nil (ps ++ [])
joined place ps true r false = append-nil (ps ++ place ∷ [])
joined place ps false r e =
    elim (r && not e) as (λ b. (ps ++ []) ++ put place (b && true) ≡ ps ++ put place b) [
      | true ↦ rw (append-nil ps) refl
      | false ↦ append-nil (ps ++ [])
    ]

-- how much room a position takes
abbrev cost : Bool → ℕ
cost b = if b then 1 else 0

costs : (s r e : Bool) (a b c : ℕ) → a ≤ b + cost (s && not e) → b ≤ c + cost (((s || r) && not e) && not (s && not e)) → a ≤ c + cost ((s || r) && not e)
costs true r true a b c p q = omega (arith, p, q)
costs true r false a b c p q = omega (arith, p, q)
costs false true true a b c p q = omega (arith, p, q)
costs false true false a b c p q = omega (arith, p, q)
costs false false true a b c p q = omega (arith, p, q)
costs false false false a b c p q = omega (arith, p, q)

-- adding to some lists and then to others is adding to both
pub once_then : (s r : Collection → List ℕ → Bool) (place : ℕ) (a b c : List Listing) → AddsOnce s place a b → AddsOnce r place b c
    → AddsOnce (λ k o. s k o || r k o) place a c
once_then s r place a b c first second =
    let later : (k : Collection) (o : List ℕ) → is_lacking place (places_of k o b) (r k o) ≡ (is_lacking place (places_of k o a) (s k o || r k o) && not (is_lacking place (places_of k o a) (s k o))) =
    λ k o. ap (λ (ps : List ℕ). is_lacking place ps (r k o)) (first.places k o) ∙ left place (places_of k o a) (s k o) (r k o) in record {
      places = λ k o. second.places k o ∙ ap (λ (l : Bool). places_of k o b ++ put place l) (later k o)
          ∙ ap (λ (ps : List ℕ). ps ++ put place (is_lacking place (places_of k o a) (s k o || r k o) && not (is_lacking place (places_of k o a) (s k o)))) (first.places k o)
          ∙ joined place (places_of k o a) (s k o) (r k o) (ends_in place (places_of k o a));
      room = λ k o. costs (s k o) (r k o) (ends_in place (places_of k o a)) (room_of k o a) (room_of k o b) (room_of k o c) (first.room k o) (let more = second.room k o in rw (later k o) at more);
    }

-- the same if the two describe the same lists
pub once_same : (s r : Collection → List ℕ → Bool) (place : ℕ) (a b : List Listing) → ((k : Collection) (o : List ℕ) → s k o ≡ r k o) → AddsOnce s place a b → AddsOnce r place a b
once_same s r place a b same h = record {
  places = λ k o. rw (← same k o) (h.places k o);
  room = λ k o. rw (← same k o) (h.room k o);
}

lacks_part : (e s r : Bool) → (s ≡ true → r ≡ true) → (s && not e) ≡ true → (r && not e) ≡ true
lacks_part e true r part is = rw (part refl) is
lacks_part e false r part is = absurd cc

-- there is room in any part of these lists
pub can_part : (s r : Collection → List ℕ → Bool) (place : ℕ) (l : List Listing) → ((k : Collection) (o : List ℕ) → s k o ≡ true → r k o ≡ true) → CanAdd r place l → CanAdd s place l
can_part s r place l part can = record { room = λ k o is. can.room k o (lacks_part (ends_in place (places_of k o l)) (s k o) (r k o) (part k o) is) }

-- a list that still lacks the position after an addition lacked it before, and that addition did
-- not concern it
lacked : (place : ℕ) (ps : List ℕ) (s r : Bool) → is_lacking place (ps ++ put place (is_lacking place ps s)) r ≡ true
    → (is_lacking place ps r ≡ true) × (is_lacking place ps s ≡ false)
lacked place ps s r is =
    elim (is_lacking place ps s) as (λ b. is_lacking place ps s ≡ b → is_lacking place (ps ++ put place b) r ≡ true → (is_lacking place ps r ≡ true) × (b ≡ false)) [
      | true ↦ λ e h. absurd (let no : (r && false) ≡ true = rw (ends-pushed place ps) at h in let none = and_none r in cc)
      | false ↦ λ e h. (rw (append-nil ps) at h, refl)
    ] refl is

-- there is still room in these lists after one of them got the position
pub can_still : (s r : Collection → List ℕ → Bool) (place : ℕ) (a b : List Listing) → AddsOnce s place a b → CanAdd r place a → CanAdd r place b
can_still s r place a b h can = record {
  room = λ k o is.
      let was = lacked place (places_of k o a) (s k o) (r k o) (rw (h.places k o) at is) in
      let before : 1 ≤ room_of k o a = can.room k o was.0 in
      let kept : room_of k o a ≤ room_of k o b + 0 = (let more = h.room k o in rw was.1 at more) in
      omega (arith, before, kept);
}

-- ---- inboxes

pub inboxes_more : (host : Option (List ℕ)) (owners : List (List ℕ)) (owner : List ℕ) (k : Collection) (o : List ℕ)
    → (is_inbox host owners k o || is_one host (Some Inbox) (Some owner) k o) ≡ is_inbox host (owners ++ owner ∷ []) k o
unfolding is_inbox is_one is_among
inboxes_more host owners owner k o =
    sym (ap (λ (b : Bool). is_of_town host o && (is_same Inbox k && b)) (list_any-append (λ u. bytes_eq u o) owners (owner ∷ []) ∙ ap (λ (b : Bool). list_any (λ u. bytes_eq u o) owners || b) (or_no (bytes_eq owner o)))
    ∙ split (is_of_town host o) (is_same Inbox k) (list_any (λ u. bytes_eq u o) owners) (bytes_eq owner o))
  where
    split : (h i a b : Bool) → (h && (i && (a || b))) ≡ ((h && (i && a)) || (h && (i && b)))
    split true true a b = refl
    split true false a b = refl
    split false i a b = refl

-- one more owner was processed
pub inbox_taken : (host : Option (List ℕ)) (owners : List (List ℕ)) (i : ℕ) (owner : List ℕ) → i < length owners → owner ≡ get_or owners i owner → (k : Collection) (o : List ℕ)
    → (is_inbox host (take i owners) k o || is_one host (Some Inbox) (Some owner) k o) ≡ is_inbox host (take (i + 1) owners) k o
inbox_taken host owners i owner within at k o =
    inboxes_more host (take i owners) owner k o
    ∙ ap (λ (xs : List (List ℕ)). is_inbox host xs k o) (ap (λ (x : List ℕ). take i owners ++ x ∷ []) at ∙ sym (take_more owners i owner within))

-- that owner is one of all of them
pub inbox_part : (host : Option (List ℕ)) (owners : List (List ℕ)) (i : ℕ) (owner : List ℕ) → i < length owners → owner ≡ get_or owners i owner → (k : Collection) (o : List ℕ)
    → is_one host (Some Inbox) (Some owner) k o ≡ true → is_inbox host owners k o ≡ true
unfolding is_inbox is_one is_among
inbox_part host owners i owner within at k o is =
    let parts = and_parts (is_of_town host o) (is_same Inbox k && bytes_eq owner o) is in
    let both = and_parts (is_same Inbox k) (bytes_eq owner o) parts.1 in
    let any : list_any (λ u. bytes_eq u o) owners ≡ true = list_any_at (λ u. bytes_eq u o) owners i owner within (subst (λ (x : List ℕ). bytes_eq x o ≡ true) at both.1) in
    rw (parts.0, both.0, any) refl

pub no-inbox : (host : Option (List ℕ)) (k : Collection) (o : List ℕ) → is_inbox host [] k o ≡ false
unfolding is_inbox is_among
no-inbox host k o = rw (and_none (is_same Inbox k)) (and_none (is_of_town host o))

pub no_inbox_added : (host : Option (List ℕ)) (place : ℕ) (l : List Listing) → AddsOnce (is_inbox host []) place l l
no_inbox_added host place l = nothing_added (is_inbox host []) place l (λ k o. rw (no-inbox host k o) refl)

-- ---- all lists of an activity

-- what an activity other than an Add or a Remove is about
about_under : (b : Bool) (o : List ℕ) (x : Act) → (b ≡ true → is_pin_kind x.activity.kind ≡ false) → (b && is_id o (other_owner x)) ≡ (b && is_id o (ref_id x.activity.object))
about_under true o x none = rw (none refl) refl
about_under false o x none = refl

-- what an Add or a Remove is directed to
directed_under : (o : List ℕ) (x : Act) → (is_pin_kind x.activity.kind && is_id o (other_owner x)) ≡ (is_pin_kind x.activity.kind && is_id o x.activity.target)
directed_under o x =
    elim (is_pin_kind x.activity.kind) as (λ b. (b && is_id o (if b then x.activity.target else ref_id x.activity.object)) ≡ (b && is_id o x.activity.target)) [
      | true ↦ refl
      | false ↦ refl
    ]

-- the lists that the activity is in: the outbox, the list of its author, that of its object, and
-- the inboxes
abbrev pub lists_of : Option (List ℕ) → Act → Collection → List ℕ → Bool
lists_of host x k o =
    ((is_one host (Some Outbox) (Some x.author) k o || is_one host (list_of_author x.activity.kind) (Some x.author) k o)
    || is_one host (list_of_other x.activity.kind) (other_owner x) k o) || is_inbox host x.recipients k o

pub all_lists : (host : Option (List ℕ)) (x : Act) (k : Collection) (o : List ℕ) → lists_of host x k o ≡ is_kept host k o x
unfolding is_one is_inbox is_kept belongs is_by is_about is_directed is_pin_kind_by
all_lists host x k o =
    with_host (is_of_town host o) (is_same Outbox k && bytes_eq x.author o) (is_kind k (list_of_author x.activity.kind) && bytes_eq x.author o)
    (is_kind k (list_of_other x.activity.kind) && is_id o (other_owner x)) (is_same Inbox k && is_among o x.recipients) (belongs k o x) (each k)
  where
    with_host : (h a b c d e : Bool) → (((a || b) || c) || d) ≡ e → ((((h && a) || (h && b)) || (h && c)) || (h && d)) ≡ (h && e)
    with_host true a b c d e is = is
    with_host false a b c d e is = refl

    parts : Collection → Bool
    parts k =
        ((is_same Outbox k && bytes_eq x.author o) || (is_kind k (list_of_author x.activity.kind) && bytes_eq x.author o))
        || (is_kind k (list_of_other x.activity.kind) && is_id o (other_owner x))

    each : (k : Collection) → (parts k || (is_same Inbox k && is_among o x.recipients)) ≡ belongs k o x
    each Inbox = rw ((author_lists x.activity.kind).0, (other_lists x.activity.kind).0) refl
    each Outbox = rw ((author_lists x.activity.kind).1, (other_lists x.activity.kind).1) (or_no ((bytes_eq x.author o || false) || false) ∙ or_no (bytes_eq x.author o || false) ∙ or_no (bytes_eq x.author o))
    each Followers = rw ((author_lists x.activity.kind).2, (other_lists x.activity.kind).2) (or_no (is_follow (deed x) && is_id o (other_owner x)) ∙ about_under (is_follow (deed x)) o x (no_pin x.activity.kind).0)
    each Following = rw ((author_lists x.activity.kind).3, (other_lists x.activity.kind).3) (or_no ((is_follow (deed x) && bytes_eq x.author o) || false) ∙ or_no (is_follow (deed x) && bytes_eq x.author o))
    each Liked = rw ((author_lists x.activity.kind).4, (other_lists x.activity.kind).4) (or_no ((is_like (deed x) && bytes_eq x.author o) || false) ∙ or_no (is_like (deed x) && bytes_eq x.author o))
    each Likes = rw ((author_lists x.activity.kind).5, (other_lists x.activity.kind).5) (or_no (is_like (deed x) && is_id o (other_owner x)) ∙ about_under (is_like (deed x)) o x (no_pin x.activity.kind).1)
    each Shares = rw ((author_lists x.activity.kind).6, (other_lists x.activity.kind).6) (or_no (is_announce (deed x) && is_id o (other_owner x)) ∙ about_under (is_announce (deed x)) o x (no_pin x.activity.kind).2)
    each Pins = rw ((author_lists x.activity.kind).7, (other_lists x.activity.kind).7) (or_no ((is_pin_kind x.activity.kind && bytes_eq x.author o) || false) ∙ or_no (is_pin_kind x.activity.kind && bytes_eq x.author o))
    each Board = rw ((author_lists x.activity.kind).8, (other_lists x.activity.kind).8) (or_no (is_pin_kind x.activity.kind && is_id o (other_owner x)) ∙ directed_under o x)

-- the values that determine these lists are those of the activity
pub record IsOf (x : Act) (author : List ℕ) (own other : Option Collection) (about : Option (List ℕ)) (to : List (List ℕ)) : Type 0 where
  pub by : author ≡ x.author
  pub its : own ≡ list_of_author x.activity.kind
  pub theirs : other ≡ list_of_other x.activity.kind
  pub of : about ≡ other_owner x
  pub sent : to ≡ x.recipients

first_or : (a b c d : Bool) → a ≡ true → (((a || b) || c) || d) ≡ true
first_or a b c d is = rw is refl

second_or : (a b c d : Bool) → b ≡ true → (((a || b) || c) || d) ≡ true
second_or a b c d is = rw (is, or_true a) refl

third_or : (a b c d : Bool) → c ≡ true → (((a || b) || c) || d) ≡ true
third_or a b c d is = rw (is, or_true (a || b)) refl

last_or : (a b c d : Bool) → d ≡ true → (((a || b) || c) || d) ≡ true
last_or a b c d is = rw is (or_true ((a || b) || c))

pub can_add_outbox : (host : Option (List ℕ)) (x : Act) (author : List ℕ) (place : ℕ) (l : List Listing) → author ≡ x.author → CanAdd (λ k o. is_kept host k o x) place l
    → CanAdd (is_one host (Some Outbox) (Some author)) place l
can_add_outbox host x author place l own can =
    can_part (is_one host (Some Outbox) (Some author)) (λ k o. is_kept host k o x) place l
    (λ k o is. sym (all_lists host x k o) ∙ first_or _ _ _ _ (rw own at is)) can

pub can_add_own : (host : Option (List ℕ)) (x : Act) (author : List ℕ) (kind : Option Collection) (place : ℕ) (l : List Listing) → author ≡ x.author → kind ≡ list_of_author x.activity.kind
    → CanAdd (λ k o. is_kept host k o x) place l → CanAdd (is_one host kind (Some author)) place l
can_add_own host x author kind place l own its can =
    can_part (is_one host kind (Some author)) (λ k o. is_kept host k o x) place l
    (λ k o is. sym (all_lists host x k o) ∙ second_or (is_one host (Some Outbox) (Some x.author) k o) _ _ _ (rw (own, its) at is)) can

pub can_add_other : (host : Option (List ℕ)) (x : Act) (about : Option (List ℕ)) (kind : Option Collection) (place : ℕ) (l : List Listing) → about ≡ other_owner x
    → kind ≡ list_of_other x.activity.kind → CanAdd (λ k o. is_kept host k o x) place l → CanAdd (is_one host kind about) place l
can_add_other host x about kind place l own its can =
    can_part (is_one host kind about) (λ k o. is_kept host k o x) place l
    (λ k o is. sym (all_lists host x k o)
    ∙ third_or (is_one host (Some Outbox) (Some x.author) k o) (is_one host (list_of_author x.activity.kind) (Some x.author) k o) _ _ (rw (own, its) at is)) can

pub can_add_inboxes : (host : Option (List ℕ)) (x : Act) (to : List (List ℕ)) (place : ℕ) (l : List Listing) → to ≡ x.recipients → CanAdd (λ k o. is_kept host k o x) place l
    → CanAdd (is_inbox host to) place l
can_add_inboxes host x to place l own can =
    can_part (is_inbox host to) (λ k o. is_kept host k o x) place l
    (λ k o is. sym (all_lists host x k o)
    ∙ last_or (is_one host (Some Outbox) (Some x.author) k o) (is_one host (list_of_author x.activity.kind) (Some x.author) k o) (is_one host (list_of_other x.activity.kind) (other_owner x) k o) _ (rw own at is)) can

-- the four parts together are all lists of the activity
pub all_added : (host : Option (List ℕ)) (x : Act) (author : List ℕ) (own other : Option Collection) (about : Option (List ℕ)) (to : List (List ℕ)) (place : ℕ) (a b c d e : List Listing)
    → IsOf x author own other about to → AddsOnce (is_one host (Some Outbox) (Some author)) place a b → AddsOnce (is_one host own (Some author)) place b c
    → AddsOnce (is_one host other about) place c d → AddsOnce (is_inbox host to) place d e → AddsOnce (λ k o. is_kept host k o x) place a e
all_added host x author own other about to place a b c d e is first second third last =
    let s1 = is_one host (Some Outbox) (Some author) in
    let s2 = is_one host own (Some author) in
    let s3 = is_one host other about in
    let s4 = is_inbox host to in
    once_same (λ k o. ((s1 k o || s2 k o) || s3 k o) || s4 k o) (λ k o. is_kept host k o x) place a e
    (λ k o. rw (is.by, is.its, is.theirs, is.of, is.sent) (all_lists host x k o))
    (once_then (λ k o. (s1 k o || s2 k o) || s3 k o) s4 place a d e (once_then (λ k o. s1 k o || s2 k o) s3 place a c d (once_then s1 s2 place a b c first second) third) last)
