-- Whatever is looked up has the mark by which it is found, and what is gathered from positions is
-- what is gathered among all.
use Rattle.std.proofs.Common.{◌≡◌, ℕ, suc, Bool, true, false, List, [], ◌∷◌, ◌++◌, Option, Some, None, refl, sym, ap, subst, ◌∙◌, append_assoc, eq-eqb, length}
use Rattle.std.specs.Prelude.{not, ◌&&◌, ◌||◌, filter, is_some, map, nat_eq, option_map, slice_get, if◌then◌else◌}
use Rattle.std.specs.List.{fold, list_any}
use Rattle.std.specs.Str.{bytes_eq}
use Rattle.std.proofs.Math.Seq.{take-append_seam}
use Rattle.std.proofs.lemmas.Bool.{and_parts}
use Rattle.std.proofs.lemmas.List.{append-nil, map-append}
use Rattle.std.proofs.lemmas.List.Elements.{filter-append}
use Rattle.fedi_address.specs.Recipients.{add_new, distinct, is_among}
use Rattle.fedi_town.proofs.Lists.{list_any-agree, list_any-through}
use Rattle.fedi_town.proofs.Once.{once-among, once-push}
use Rattle.fedi_town.specs.declared.act.Act.{Act}
use Rattle.fedi_town.specs.declared.deed.Deed.{Deed}
use Rattle.fedi_town.specs.declared.deed.Deed.TheVariants.{Follow, Like, Announce, Block}
use Rattle.fedi_town.specs.Collections.{object_key, text_of}
use Rattle.fedi_town.specs.Deeds.{is_accepted, is_announce, is_block, is_create, is_done, is_follow, is_like, is_open, is_standing}
use Rattle.fedi_town.specs.Legal.{has_key}
use Rattle.fedi_town.specs.Objects.{makes}
use Rattle.fedi_town.specs.Relations.{has_activity_id, is_about, is_block_of, is_follow_of, is_following, is_id, is_open_follow, ref_id}
use Rattle.fedi_town.specs.States.{is_announce_of, is_like_of}
use Rattle.fedi_town.specs.Towns.{deed, is_by}
use Rattle.fedi_town.proofs.Texts.{bytes_eq-is}
use Rattle.fedi_register.specs.Authors.{author_mark, is_author}
use Rattle.fedi_register.specs.Following.{followers_in, is_first_follow, with_first_follow, with_follower_at}
use Rattle.fedi_register.specs.Keys.{is_repeat}
use Rattle.fedi_register.specs.Marks.{Mark, every, marks_from, places_of}
use Rattle.fedi_register.specs.Seeds.{mark_of, mark_of_pair}
use Rattle.fedi_register.specs.declared.seeds.Seed.{Seed}
use Rattle.fedi_register.specs.Registers.{IsNarrower, asks_to_follow, has_own_id, is_blocking, is_keyed, is_making, is_relation, key_mark, object_mark, own_mark, ref_mark, relates, relates_by_key, relation_mark}
use Rattle.fedi_register.proofs.Chains.{got_at, longer}
use Rattle.fedi_register.proofs.Found.{IsMarkedSo}

-- ---- marks

-- an item that also passes a narrower test has the same mark
pub marked_narrower : {A : Type 0} (p q r : A → Bool) (mark : A → ℕ) (n : ℕ) → IsMarkedSo p mark n q → ((x : A) → r x ≡ true → q x ≡ true) → IsMarkedSo p mark n r
marked_narrower p q r mark n so narrow = λ x is. so x (narrow x is)

-- there is an id, and it has this mark
id_marked : (seed : Seed) (id : List ℕ) (own : Option (List ℕ)) → is_id id own ≡ true → (is_some own ≡ true) × (ref_mark seed own ≡ mark_of seed id)
id_marked seed id None is = absurd cc
id_marked seed id (Some own) is = (refl, ap (mark_of seed) (bytes_eq-is own id is))

pub own_marked : (seed : Seed) (id : List ℕ) → IsMarkedSo has_own_id (own_mark seed) (mark_of seed id) (has_activity_id id)
unfolding has_activity_id has_own_id own_mark
own_marked seed id x is = id_marked seed id x.activity.id is

pub made_marked : (seed : Seed) (id : List ℕ) → IsMarkedSo is_making (object_mark seed) (mark_of seed id) (makes id)
unfolding is_making makes is_about object_mark
made_marked seed id x is =
    let parts = and_parts (is_create (deed x) && is_done x.state) (is_id id (ref_id x.activity.object)) is in
    ((and_parts (is_create (deed x)) (is_done x.state) parts.0).0, (id_marked seed id (ref_id x.activity.object) parts.1).1)

key_marked : (seed : Seed) (key : List ℕ) (pair : Option (List ℕ × List ℕ)) → has_key key pair ≡ true → (is_some pair ≡ true) × (ref_mark seed (option_map (λ r. r.0) pair) ≡ mark_of seed key)
key_marked seed key None is = absurd cc
key_marked seed key (Some pair) is = (refl, ap (mark_of seed) (bytes_eq-is pair.0 key is))

pub repeat_marked : (seed : Seed) (author key : List ℕ) → IsMarkedSo is_keyed (key_mark seed) (mark_of seed key) (is_repeat author key)
unfolding is_keyed is_repeat key_mark
repeat_marked seed author key x is = key_marked seed key x.repeat (and_parts (is_by author x) (has_key key x.repeat) is).1

pub author_marked : (seed : Seed) (id : List ℕ) → IsMarkedSo every (author_mark seed) (mark_of seed id) (is_author id)
unfolding is_author author_mark
author_marked seed id a is = (refl, ap (mark_of seed) (bytes_eq-is a.id id is))

pub followed_marked : (seed : Seed) (b : List ℕ) → IsMarkedSo asks_to_follow (object_mark seed) (mark_of seed b) (is_following b)
unfolding asks_to_follow is_following is_about object_mark
followed_marked seed b x is =
    let parts = and_parts (is_follow (deed x) && is_accepted x.state) (is_id b (ref_id x.activity.object)) is in
    ((and_parts (is_follow (deed x)) (is_accepted x.state) parts.0).0, (id_marked seed b (ref_id x.activity.object) parts.1).1)

pub relation_marked : (seed : Seed) (author key : List ℕ) → IsMarkedSo relates (relation_mark seed) (mark_of_pair seed author key) (relates_by_key author key)
unfolding relates_by_key relation_mark is_by
relation_marked seed author key x is =
    let parts = and_parts (relates x) (bytes_eq x.author author && bytes_eq (object_key x) key) is in
    let both = and_parts (bytes_eq x.author author) (bytes_eq (object_key x) key) parts.1 in
    (parts.0, ap (λ (own : List ℕ). mark_of_pair seed own (object_key x)) (bytes_eq-is x.author author both.0) ∙ ap (λ (own : List ℕ). mark_of_pair seed author own) (bytes_eq-is (object_key x) key both.1))

-- ---- relations

pub id_key : (id : List ℕ) (own : Option (List ℕ)) → is_id id own ≡ true → bytes_eq (text_of own) id ≡ true
id_key id None is = absurd cc
id_key id (Some own) is = is

-- an activity that does one of these and relates the two is a relation of the two
relating : (a b : List ℕ) (x : Act) (does stands : Bool) → (does ≡ true → is_relation (deed x) ≡ true) → ((does && stands) && (is_by a x && is_about b x)) ≡ true
    → relates_by_key a b x ≡ true
unfolding relates_by_key relates is_about
relating a b x does stands relation is =
    let parts = and_parts (does && stands) (is_by a x && is_id b (ref_id x.activity.object)) is in
    let both = and_parts (is_by a x) (is_id b (ref_id x.activity.object)) parts.1 in
    rw (relation (and_parts does stands parts.0).0, both.0) (id_key b (ref_id x.activity.object) both.1)

pub follow_relates : (d : Deed) → is_follow d ≡ true → is_relation d ≡ true
follow_relates Follow is = refl
follow_relates d is = absurd cc

like_relates : (d : Deed) → is_like d ≡ true → is_relation d ≡ true
like_relates Like is = refl
like_relates d is = absurd cc

announce_relates : (d : Deed) → is_announce d ≡ true → is_relation d ≡ true
announce_relates Announce is = refl
announce_relates d is = absurd cc

block_relates : (d : Deed) → is_block d ≡ true → is_relation d ≡ true
block_relates Block is = refl
block_relates d is = absurd cc

pub follows_narrower : (a b : List ℕ) → IsNarrower (is_follow_of a b) (relates_by_key a b)
unfolding is_follow_of
follows_narrower a b x is = relating a b x (is_follow (deed x)) (is_accepted x.state) (follow_relates (deed x)) is

pub open_narrower : (a b : List ℕ) → IsNarrower (is_open_follow a b) (relates_by_key a b)
unfolding is_open_follow
open_narrower a b x is = relating a b x (is_follow (deed x)) (is_open x.state) (follow_relates (deed x)) is

pub likes_narrower : (a b : List ℕ) → IsNarrower (is_like_of a b) (relates_by_key a b)
unfolding is_like_of
likes_narrower a b x is = relating a b x (is_like (deed x)) (is_standing x.state) (like_relates (deed x)) is

pub shares_narrower : (a b : List ℕ) → IsNarrower (is_announce_of a b) (relates_by_key a b)
unfolding is_announce_of
shares_narrower a b x is = relating a b x (is_announce (deed x)) (is_standing x.state) (announce_relates (deed x)) is

pub blocks_narrower : (a b : List ℕ) → IsNarrower (is_block_of a b) (relates_by_key a b)
unfolding is_block_of
blocks_narrower a b x is = relating a b x (is_block (deed x)) (is_standing x.state) (block_relates (deed x)) is

pub blocking_relates : (x : Act) → is_blocking x ≡ true → relates x ≡ true
unfolding is_blocking relates
blocking_relates x is = block_relates (deed x) is

pub block_marked : (seed : Seed) (a b : List ℕ) → IsMarkedSo is_blocking (relation_mark seed) (mark_of_pair seed a b) (is_block_of a b)
unfolding is_blocking is_block_of
block_marked seed a b x is =
    let parts = and_parts (is_block (deed x) && is_standing x.state) (is_by a x && is_about b x) is in
    ((and_parts (is_block (deed x)) (is_standing x.state) parts.0).0, (relation_marked seed a b x (blocks_narrower a b x is)).1)

-- ---- what is gathered

-- an item without this mark does not pass
unmarked : {A : Type 0} (p q : A → Bool) (mark : A → ℕ) (n : ℕ) → IsMarkedSo p mark n q → (x : A) → (p x && nat_eq (mark x) n) ≡ false → q x ≡ false
unmarked p q mark n so x other =
    elim (q x) as (λ b. q x ≡ b → b ≡ false) [
      | true ↦ λ is. let by = so x is in let no = rw (by.0, eq-eqb (mark x) n by.1) at other in absurd cc
      | false ↦ λ _. refl
    ] refl

-- the author follows according to these activities if one of them is a Follow by the author
and_parted : (a b c : Bool) → ((a && b) && c) ≡ (a && (c && b))
and_parted true true true = refl
and_parted true true false = refl
and_parted true false true = refl
and_parted true false false = refl
and_parted false b c = refl

any-kept : {A : Type 0} (q p : A → Bool) (xs : List A) → list_any q (filter p xs) ≡ list_any (λ x. p x && q x) xs
any-kept q p [] = refl
any-kept q p (x ∷ xs) =
    elim (p x) as (λ b. list_any q (if b then x ∷ filter p xs else filter p xs) ≡ ((b && q x) || list_any (λ y. p y && q y) xs)) [
      | true ↦ ap (λ (b : Bool). q x || b) (any-kept q p xs)
      | false ↦ any-kept q p xs
    ]

among_before : (b a : List ℕ) (before : List Act) → is_among a (followers_in b before) ≡ list_any (is_follow_of a b) before
unfolding followers_in is_among is_follow_of is_following is_by
among_before b a before =
    once-among a (map (λ x. x.author) (filter (is_following b) before))
    ∙ list_any-through (λ (x : Act). x.author) (λ u. bytes_eq u a) (is_by a) (λ x. refl) (filter (is_following b) before)
    ∙ any-kept (is_by a) (is_following b) before
    ∙ list_any-agree (λ x. is_following b x && is_by a x) (is_follow_of a b) (λ x. and_parted (is_follow (deed x) && is_accepted x.state) (is_about b x) (is_by a x)) before

-- the followers according to these activities and one more
following-push : (b : List ℕ) (acts : List Act) (x : Act)
    → map (λ y. y.author) (filter (is_following b) (acts ++ x ∷ [])) ≡ map (λ y. y.author) (filter (is_following b) acts) ++ (if is_following b x then x.author ∷ [] else [])
following-push b acts x =
    ap (λ (xs : List Act). map (λ (y : Act). y.author) xs) (filter-append (is_following b) acts (x ∷ []))
    ∙ map-append (λ (y : Act). y.author) (filter (is_following b) acts) (filter (is_following b) (x ∷ []))
    ∙ elim (is_following b x) as (λ c. map (λ (y : Act). y.author) (filter (is_following b) acts) ++ map (λ (y : Act). y.author) (if c then x ∷ [] else [])
    ≡ map (λ (y : Act). y.author) (filter (is_following b) acts) ++ (if c then x.author ∷ [] else [])) [ true ↦ refl | false ↦ refl ]

more_followers : (b : List ℕ) (acts : List Act) (x : Act) → is_following b x ≡ true → followers_in b (acts ++ x ∷ []) ≡ add_new (followers_in b acts) x.author
unfolding followers_in
more_followers b acts x follows =
    ap (λ (all : List (List ℕ)). distinct all) (following-push b acts x ∙ rw follows refl) ∙ once-push (map (λ y. y.author) (filter (is_following b) acts)) x.author

same_followers : (b : List ℕ) (acts : List Act) (x : Act) → is_following b x ≡ false → followers_in b (acts ++ x ∷ []) ≡ followers_in b acts
unfolding followers_in
same_followers b acts x other = ap (λ (all : List (List ℕ)). distinct all) (following-push b acts x ∙ rw (other, append-nil) refl)

-- a Follow is its author's first if the author is not among the followers found before it
add-first : (a : List ℕ) (found : List (List ℕ)) → (if not (is_among a found) then found ++ a ∷ [] else found) ≡ add_new found a
add-first a found = elim (is_among a found) as (λ c. (if not c then found ++ a ∷ [] else found) ≡ (if c then found else found ++ a ∷ [])) [ true ↦ refl | false ↦ refl ]

found_here : (b : List ℕ) (before : List Act) (x : Act) (xs : List Act)
    → with_first_follow (before ++ x ∷ xs) b (length before) (followers_in b before) (Some x) ≡ followers_in b (before ++ x ∷ [])
unfolding is_first_follow
found_here b before x xs =
    let found : List (List ℕ) = followers_in b before in
    rw (take-append_seam before (x ∷ xs), ← among_before b x.author before)
    (elim (is_following b x) as (λ c. is_following b x ≡ c → (if c && not (is_among x.author found) then found ++ x.author ∷ [] else found) ≡ followers_in b (before ++ x ∷ [])) [
      | true ↦ λ follows. add-first x.author found ∙ sym (more_followers b before x follows)
      | false ↦ λ other. sym (same_followers b before x other)
    ] refl)

-- what is gathered from these positions
abbrev gathered : List ℕ → List Act → List (List ℕ) → List ℕ → List (List ℕ)
gathered b all found places = fold (λ f place. with_first_follow all b place f (slice_get all place)) found places

fold-after : (seed : Seed) (b : List ℕ) (before xs : List Act)
    → gathered b (before ++ xs) (followers_in b before) (places_of (mark_of seed b) (marks_from asks_to_follow (object_mark seed) (length before) xs)) ≡ followers_in b (before ++ xs)
fold-after seed b before [] = rw append-nil refl
fold-after seed b before (x ∷ xs) =
    let all : List Act = before ++ x ∷ xs in
    let m : ℕ = mark_of seed b in
    let found : List (List ℕ) = followers_in b before in
    let own : Mark = record { mark = object_mark seed x; place = length before } in
    let later : List Mark = marks_from asks_to_follow (object_mark seed) (suc (length before)) xs in
    let rest : gathered b all (followers_in b (before ++ x ∷ [])) (places_of m later) ≡ followers_in b all =
    subst (λ (ys : List Act). gathered b ys (followers_in b (before ++ x ∷ [])) (places_of m later) ≡ followers_in b ys) (append_assoc before (x ∷ []) xs)
    (subst (λ (n : ℕ). gathered b ((before ++ x ∷ []) ++ xs) (followers_in b (before ++ x ∷ [])) (places_of m (marks_from asks_to_follow (object_mark seed) n xs)) ≡ followers_in b ((before ++ x ∷ []) ++ xs))
    (longer before x) (fold-after seed b (before ++ x ∷ []) xs)) in
    let skipped : (asks_to_follow x && nat_eq (object_mark seed x) m) ≡ false → gathered b all found (places_of m later) ≡ followers_in b all = λ other.
    ap (λ (f : List (List ℕ)). gathered b all f (places_of m later)) (sym (same_followers b before x (unmarked asks_to_follow (is_following b) (object_mark seed) m (followed_marked seed b) x other))) ∙ rest in
    elim (asks_to_follow x) as (λ c. asks_to_follow x ≡ c → gathered b all found (places_of m (if c then own ∷ later else later)) ≡ followers_in b all) [
      | true ↦ λ asks. elim (nat_eq (object_mark seed x) m) as (λ d. nat_eq (object_mark seed x) m ≡ d
          → gathered b all found (map (λ (y : Mark). y.place) (if d then own ∷ filter (λ (y : Mark). nat_eq y.mark m) later else filter (λ (y : Mark). nat_eq y.mark m) later)) ≡ followers_in b all) [
            | true ↦ λ _. ap (λ (o : Option Act). gathered b all (with_first_follow all b (length before) found o) (places_of m later)) (got_at before x xs)
                ∙ ap (λ (f : List (List ℕ)). gathered b all f (places_of m later)) (found_here b before x xs) ∙ rest
            | false ↦ λ other. skipped (rw (asks, other) refl)
          ] refl
      | false ↦ λ none. skipped (rw none refl)
    ] refl

pub followers_found : (seed : Seed) (b : List ℕ) (acts : List Act) (marks : List Mark) (places : List ℕ) → places ≡ places_of (mark_of seed b) marks
    → marks ≡ marks_from asks_to_follow (object_mark seed) 0 acts → fold (with_follower_at acts b) [] places ≡ followers_in b acts
unfolding with_follower_at followers_in distinct
followers_found seed b acts marks places are by = rw (are, by) (fold-after seed b [] acts)
