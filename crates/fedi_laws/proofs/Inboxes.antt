-- A delivery that only adds an inbox changes nothing for anyone other than that inbox's owner.
use Rattle.std.proofs.Common.{◌≡◌, ℕ, false, List, [], ◌∷◌, ◌++◌, length, Option, Some, None, refl, ap, ◌∙◌}
use Rattle.std.specs.Prelude.{map, filter, option_map}
use Rattle.std.specs.List.{list_any, find, filter_map}
use Rattle.std.specs.Str.{bytes_eq}
use Rattle.std.proofs.lemmas.List.{length-map}
use Rattle.std.proofs.lemmas.List.Folds.{list_any-append}
use Rattle.fedi_address.specs.Recipients.{is_among}
use Rattle.fedi_town.proofs.Kept.{also-same, made-inbox}
use Rattle.fedi_town.proofs.Lists.{list_any-through, filter-through, find-through, map-through, list_any-agree, filter_map-through}
use Rattle.fedi_town.specs.Agreement.{Agree, SameOwn, IsSameOwn, peer_of}
use Rattle.fedi_town.specs.Histories.{with_recipient}
use Rattle.fedi_town.specs.Objects.{makes, maker_of, object_of}
use Rattle.fedi_town.specs.Relations.{ref_id, is_id, is_about, is_block_of, blocks, has_block_between, is_follow_of, follows, is_following}
use Rattle.fedi_town.specs.Seeing.{sees, sees_as, sees_with, seen, reaches, is_of_peer, is_for_follower, is_follower_from}
use Rattle.fedi_town.specs.Showing.{sight_of, shown_ref, shown_activity, present_object, id_of_caller, own_among, view}
use Rattle.fedi_town.specs.Towns.{Town, id_of, is_by}
use Rattle.fedi_town.specs.declared.act.Act.{Act}
use Rattle.fedi_town.specs.declared.caller.Caller.{Caller}
use Rattle.fedi_town.specs.declared.caller.Caller.TheVariants.{Nobody, Actor, Peer}
use Rattle.fedi_town.proofs.Texts.{or_no, bytes_eq-swapped}

abbrev pub with_owner : Town → List ℕ → List ℕ → Town
with_owner t id owner = record t { acts = map (with_recipient id owner) t.acts }

same-block : (id owner a b : List ℕ) (y : Act) → is_block_of a b (with_recipient id owner y) ≡ is_block_of a b y
unfolding is_block_of is_by is_about
same-block id owner a b y = also-same (is_block_of a b) id owner y refl

blocks-inbox : (t : Town) (id owner a b : List ℕ) → blocks (with_owner t id owner) a b ≡ blocks t a b
blocks-inbox t id owner a b = list_any-through (with_recipient id owner) (is_block_of a b) (is_block_of a b) (same-block id owner a b) t.acts

between-inbox : (t : Town) (id owner a b : List ℕ) → has_block_between (with_owner t id owner) a b ≡ has_block_between t a b
unfolding has_block_between
between-inbox t id owner a b = rw (blocks-inbox t id owner a b, blocks-inbox t id owner b a) refl

among-inbox : (me owner : List ℕ) (rs : List (List ℕ)) → bytes_eq owner me ≡ false → is_among me (rs ++ owner ∷ []) ≡ is_among me rs
unfolding is_among
among-inbox me owner rs other = list_any-append (λ u. bytes_eq u me) rs (owner ∷ []) ∙ rw other (or_no (list_any (λ u. bytes_eq u me) rs))

same-follow : (id owner a b : List ℕ) (y : Act) → is_follow_of a b (with_recipient id owner y) ≡ is_follow_of a b y
unfolding is_follow_of is_by is_about
same-follow id owner a b y = also-same (is_follow_of a b) id owner y refl

follows-inbox : (t : Town) (id owner a b : List ℕ) → follows (with_owner t id owner) a b ≡ follows t a b
follows-inbox t id owner a b = list_any-through (with_recipient id owner) (is_follow_of a b) (is_follow_of a b) (same-follow id owner a b) t.acts

sees_as-inbox : (t : Town) (id owner me : List ℕ) (y : Act) → bytes_eq owner me ≡ false → sees_as (with_owner t id owner) me (with_recipient id owner y) ≡ sees_as t me y
unfolding sees_as is_by is_for_follower
sees_as-inbox t id owner me y other =
    rw (
      also-same (λ z. z.author) id owner y refl,
      also-same (λ z. z.is_public) id owner y refl,
      also-same (λ z. is_among me z.recipients) id owner y (among-inbox me owner y.recipients other),
      between-inbox t id owner me y.author,
      follows-inbox t id owner me y.author,
      also-same (λ z. z.for_followers) id owner y refl,
    ) refl

reaches-inbox : (t : Town) (id owner host author r : List ℕ) → reaches (with_owner t id owner) host author r ≡ reaches t host author r
unfolding reaches
reaches-inbox t id owner host author r = rw (between-inbox t id owner r author) refl

not_reached : (t : Town) (host author owner : List ℕ) → is_of_peer host owner ≡ false → reaches t host author owner ≡ false
unfolding reaches
not_reached t host author owner other = rw other refl

any_reached : (t : Town) (id owner host author : List ℕ) (rs : List (List ℕ)) → is_of_peer host owner ≡ false
    → list_any (reaches t host author) (rs ++ owner ∷ []) ≡ list_any (reaches t host author) rs
any_reached t id owner host author rs other =
    list_any-append (reaches t host author) rs (owner ∷ []) ∙ rw (not_reached t host author owner other) (or_no (list_any (reaches t host author) rs))

follower-inbox : (t : Town) (id owner host author : List ℕ) (f : Act) → is_follower_from (with_owner t id owner) host author (with_recipient id owner f) ≡ is_follower_from t host author f
unfolding is_follower_from is_following is_about
follower-inbox t id owner host author f =
    also-same (is_follower_from (with_owner t id owner) host author) id owner f refl ∙ rw (reaches-inbox t id owner host author f.author) refl

sees_from-inbox : (t : Town) (id owner host : List ℕ) (y : Act) → is_of_peer host owner ≡ false → sees (with_owner t id owner) (Peer host) (with_recipient id owner y) ≡ sees t (Peer host) y
unfolding sees
sees_from-inbox t id owner host y other =
    rw (
      also-same (λ z. z.author) id owner y refl,
      also-same (λ z. z.is_public) id owner y refl,
      list_any-agree (reaches (with_owner t id owner) host y.author) (reaches t host y.author) (reaches-inbox t id owner host y.author) (with_recipient id owner y).recipients,
      also-same (λ z. list_any (reaches t host y.author) z.recipients) id owner y (any_reached t id owner host y.author y.recipients other),
      also-same (λ z. z.for_followers) id owner y refl,
      list_any-through (with_recipient id owner) (is_follower_from (with_owner t id owner) host y.author) (is_follower_from t host y.author) (follower-inbox t id owner host y.author) t.acts,
    ) refl

-- ---- callers other than the owner

-- the caller is not this member, and not a peer that this member belongs to
abbrev pub IsOther : Town → Caller → List ℕ → Type 0
IsOther t Nobody owner = Unit {0}
IsOther t (Actor name) owner = is_id owner (id_of t name) ≡ false
IsOther t (Peer host) owner = is_of_peer host owner ≡ false

sees_with-inbox : (t : Town) (id owner : List ℕ) (me : Option (List ℕ)) (y : Act) → is_id owner me ≡ false → sees_with (with_owner t id owner) me (with_recipient id owner y) ≡ sees_with t me y
sees_with-inbox t id owner None y other = also-same (λ z. z.is_public) id owner y refl
sees_with-inbox t id owner (Some me) y other = sees_as-inbox t id owner me y (bytes_eq-swapped me owner other)

sees-inbox : (t : Town) (id owner : List ℕ) (c : Caller) → IsOther t c owner → (y : Act) → sees (with_owner t id owner) c (with_recipient id owner y) ≡ sees t c y
unfolding sees
sees-inbox t id owner Nobody other y = also-same (λ z. z.is_public) id owner y refl
sees-inbox t id owner (Actor name) other y = sees_with-inbox t id owner (id_of t name) y other
sees-inbox t id owner (Peer host) other y = sees_from-inbox t id owner host y other

-- ---- what is shown

carried-inbox : (id owner : List ℕ) (m : Option Act) → object_of (option_map (with_recipient id owner) m) ≡ object_of m
carried-inbox id owner None = refl
carried-inbox id owner (Some y) = also-same (λ z. object_of (Some z)) id owner y refl

pub maker-inbox : (t : Town) (id owner : List ℕ) (i : Option (List ℕ)) → object_of (maker_of (with_owner t id owner) i) ≡ object_of (maker_of t i)
maker-inbox t id owner None = refl
maker-inbox t id owner (Some i) =
    ap (λ (m : Option Act). object_of m) (find-through (with_recipient id owner) (makes i) (makes i) (made-inbox i id owner) t.acts)
    ∙ carried-inbox id owner (find (makes i) t.acts)

own-inbox : (id owner : List ℕ) (me : Option (List ℕ)) (y : Act) → is_id owner me ≡ false → own_among me (with_recipient id owner y).recipients ≡ own_among me y.recipients
own-inbox id owner None y other = refl
own-inbox id owner (Some me) y other =
    also-same (λ z. own_among (Some me) z.recipients) id owner y (rw (among-inbox me owner y.recipients (bytes_eq-swapped me owner other)) refl)

ref-inbox : (t : Town) (id owner : List ℕ) (y : Act) → shown_ref (with_owner t id owner) (with_recipient id owner y) ≡ shown_ref t y
unfolding shown_ref present_object
ref-inbox t id owner y =
    also-same (shown_ref (with_owner t id owner)) id owner y refl ∙ rw (maker-inbox t id owner (ref_id y.activity.object)) refl

shown_to-inbox : (t : Town) (id owner : List ℕ) (c : Caller) (y : Act) → own_among (id_of_caller t c) (with_recipient id owner y).recipients ≡ own_among (id_of_caller t c) y.recipients
    → id_of_caller (with_owner t id owner) c ≡ id_of_caller t c → sight_of (with_owner t id owner) c (with_recipient id owner y) ≡ sight_of t c y
unfolding sight_of shown_activity
shown_to-inbox t id owner c y own me =
    rw (
      me,
      own,
      ref-inbox t id owner y,
      also-same (λ z. z.author) id owner y refl,
      also-same (λ z. z.activity) id owner y refl,
      also-same (λ z. z.is_public) id owner y refl,
      also-same (λ z. z.state) id owner y refl,
    ) refl

shown-inbox : (t : Town) (id owner : List ℕ) (c : Caller) → IsOther t c owner → (y : Act) → sight_of (with_owner t id owner) c (with_recipient id owner y) ≡ sight_of t c y
shown-inbox t id owner Nobody other y = shown_to-inbox t id owner Nobody y refl refl
shown-inbox t id owner (Actor name) other y = shown_to-inbox t id owner (Actor name) y (own-inbox id owner (id_of t name) y other) refl
shown-inbox t id owner (Peer host) other y = shown_to-inbox t id owner (Peer host) y refl refl

view-inbox : (t : Town) (id owner : List ℕ) (c : Caller) → IsOther t c owner → view (with_owner t id owner) c ≡ view t c
view-inbox t id owner c other =
    ap (map (sight_of (with_owner t id owner) c)) (filter-through (with_recipient id owner) (sees (with_owner t id owner) c) (sees t c) (sees-inbox t id owner c other) t.acts)
    ∙ map-through (with_recipient id owner) (sight_of (with_owner t id owner) c) (sight_of t c) (shown-inbox t id owner c other) (seen t c)

-- ---- the caller's own

by-inbox : (id owner me : List ℕ) (y : Act) → is_by me (with_recipient id owner y) ≡ is_by me y
unfolding is_by
by-inbox id owner me y = also-same (is_by me) id owner y refl

own_of-inbox : (t : Town) (id owner me : List ℕ) → SameOwn (with_owner t id owner) t me
own_of-inbox t id owner me =
    let mine : filter (is_by me) (map (with_recipient id owner) t.acts) ≡ map (with_recipient id owner) (filter (is_by me) t.acts) =
    filter-through (with_recipient id owner) (is_by me) (is_by me) (by-inbox id owner me) t.acts in record {
      count = ap (λ (ys : List Act). length ys) mine ∙ length-map (filter (is_by me) t.acts) (with_recipient id owner);
      repeats = ap (λ (ys : List Act). filter_map (λ y. option_map (λ r. (r, y.activity.id)) y.repeat) ys) mine
          ∙ filter_map-through (with_recipient id owner) (λ y. option_map (λ r. (r, y.activity.id)) y.repeat) (λ y. option_map (λ r. (r, y.activity.id)) y.repeat)
          (λ y. also-same (λ z. option_map (λ r. (r, z.activity.id)) z.repeat) id owner y refl) (filter (is_by me) t.acts);
      blockers = λ b. blocks-inbox t id owner b me;
    }

same_own : (t : Town) (id owner : List ℕ) (me : Option (List ℕ)) → IsSameOwn (with_owner t id owner) t me
same_own t id owner None = tt
same_own t id owner (Some me) = own_of-inbox t id owner me

same_peer : (t : Town) (id owner : List ℕ) (c : Caller) → peer_of (with_owner t id owner) c ≡ peer_of t c
same_peer t id owner Nobody = refl
same_peer t id owner (Actor name) = refl
same_peer t id owner (Peer host) = refl

-- A delivery that only adds an inbox.
pub inbox_agrees : (t : Town) (id owner : List ℕ) (c : Caller) → IsOther t c owner → Agree (with_owner t id owner) t c
inbox_agrees t id owner c other = record {
  host = refl;
  names = refl;
  peer = same_peer t id owner c;
  view = view-inbox t id owner c other;
  own = same_own t id owner (id_of_caller t c);
}
