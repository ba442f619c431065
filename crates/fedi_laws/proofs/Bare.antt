-- What a Tombstone hides is revealed to no caller.
use Rattle.std.proofs.Common.{◌≡◌, ℕ, Bool, true, false, List, length, Option, Some, None, refl, sym, ap, ◌∙◌}
use Rattle.std.specs.Prelude.{filter, if◌then◌else◌, map, option_map}
use Rattle.std.specs.List.{filter_map, find}
use Rattle.std.proofs.lemmas.List.{length-map}
use Rattle.fedi_objects.specs.declared.activity.ObjectRef.{ObjectRef}
use Rattle.fedi_objects.specs.declared.activity.ObjectRef.TheVariants.{Nothing, Id, Whole, Changed}
use Rattle.fedi_objects.specs.declared.entry.Entry.{Entry}
use Rattle.fedi_objects.specs.declared.object.Object.{Object}
use Rattle.fedi_objects.specs.Forms.{is_tombstone}
use Rattle.fedi_objects.specs.Objects.{stripped_object}
use Rattle.fedi_town.specs.declared.act.Act.{Act}
use Rattle.fedi_town.specs.declared.caller.Caller.{Caller}
use Rattle.fedi_town.specs.declared.caller.Caller.TheVariants.{Nobody, Actor, Peer}
use Rattle.fedi_town.specs.Agreement.{Agree, IsSameOwn, member_names, peer_of, repeats_of}
use Rattle.fedi_town.specs.Histories.{town}
use Rattle.fedi_town.specs.Objects.{makes, maker_of, object_of, rewrite_act, rewrite_ref, whole_of}
use Rattle.fedi_town.specs.Relations.{blocks, follows, has_block_between, is_about, is_block_of, is_follow_of, is_following, ref_id}
use Rattle.fedi_town.specs.Seeing.{is_followed_from, is_follower_from, is_for_follower, reaches, seen, sees, sees_as, sees_with}
use Rattle.fedi_town.specs.Showing.{bare_tombstone, id_of_caller, object_or_id, present_object, shown_activity, shown_object, shown_ref, sight_of, view}
use Rattle.fedi_town.specs.Towns.{Town, count_of, id_of, is_by}
use Rattle.fedi_town.proofs.Lists.{filter-through, find-through, list_any-agree, list_any-through, map-through, filter_map-through}
use Rattle.fedi_laws.specs.Statements.{bare_object, without_deleted}

-- the activity without what a Tombstone hides
abbrev bare : Act → Act
bare y = rewrite_act bare_object y

-- ---- its object

bare-id : (o : Object) → (bare_object o).id ≡ o.id
bare-id o =
    elim (is_tombstone o) as (λ b. (if b then bare_tombstone o else o).id ≡ o.id) [
      | true ↦ refl
      | false ↦ refl
    ]

bare-ref : (r : ObjectRef) → ref_id (rewrite_ref bare_object r) ≡ ref_id r
bare-ref Nothing = refl
bare-ref (Id iri) = refl
bare-ref (Whole o) = bare-id o
bare-ref (Changed c) = refl

still_bare : (o : Object) → is_tombstone o ≡ true → shown_object (bare_tombstone o) ≡ bare_tombstone o
still_bare o e = rw e refl

bare-shown : (o : Object) → shown_object (bare_object o) ≡ shown_object o
bare-shown o =
    elim (is_tombstone o) as (λ b. is_tombstone o ≡ b → shown_object (if b then bare_tombstone o else o) ≡ (if b then bare_tombstone o else stripped_object o)) [
      | true ↦ λ e. still_bare o e
      | false ↦ λ e. rw e refl
    ] refl

bare-given : (o : Option Object) (id : Option (List ℕ)) → object_or_id (option_map bare_object o) id ≡ object_or_id o id
bare-given None id = refl
bare-given (Some o) id = ap (λ (p : Object). Whole p) (bare-shown o)

bare-whole : (r : ObjectRef) → whole_of (rewrite_ref bare_object r) ≡ option_map bare_object (whole_of r)
bare-whole Nothing = refl
bare-whole (Id iri) = refl
bare-whole (Whole o) = refl
bare-whole (Changed c) = refl

bare-carried : (m : Option Act) → object_of (option_map bare m) ≡ option_map bare_object (object_of m)
unfolding rewrite_act
bare-carried None = refl
bare-carried (Some y) = bare-whole y.activity.object

-- ---- who sees it

about-bare : (id : List ℕ) (y : Act) → is_about id (bare y) ≡ is_about id y
unfolding is_about rewrite_act
about-bare id y = rw (bare-ref y.activity.object) refl

block-bare : (a b : List ℕ) (y : Act) → is_block_of a b (bare y) ≡ is_block_of a b y
unfolding is_block_of is_by is_about rewrite_act
block-bare a b y = rw (bare-ref y.activity.object) refl

blocks-bare : (t : Town) (a b : List ℕ) → blocks (without_deleted t) a b ≡ blocks t a b
blocks-bare t a b = list_any-through bare (is_block_of a b) (is_block_of a b) (block-bare a b) t.acts

between-bare : (t : Town) (a b : List ℕ) → has_block_between (without_deleted t) a b ≡ has_block_between t a b
unfolding has_block_between
between-bare t a b = rw (blocks-bare t a b, blocks-bare t b a) refl

follow-bare : (a b : List ℕ) (y : Act) → is_follow_of a b (bare y) ≡ is_follow_of a b y
unfolding is_follow_of is_by is_about rewrite_act
follow-bare a b y = rw (bare-ref y.activity.object) refl

follows-bare : (t : Town) (a b : List ℕ) → follows (without_deleted t) a b ≡ follows t a b
follows-bare t a b = list_any-through bare (is_follow_of a b) (is_follow_of a b) (follow-bare a b) t.acts

sees_as-bare : (t : Town) (me : List ℕ) (y : Act) → sees_as (without_deleted t) me (bare y) ≡ sees_as t me y
unfolding sees_as is_by is_for_follower rewrite_act
sees_as-bare t me y = rw (between-bare t me y.author, follows-bare t me y.author) refl

sees_with-bare : (t : Town) (me : Option (List ℕ)) (y : Act) → sees_with (without_deleted t) me (bare y) ≡ sees_with t me y
unfolding rewrite_act
sees_with-bare t None y = refl
sees_with-bare t (Some me) y = sees_as-bare t me y

reaches-bare : (t : Town) (host author r : List ℕ) → reaches (without_deleted t) host author r ≡ reaches t host author r
unfolding reaches
reaches-bare t host author r = rw (between-bare t r author) refl

follower-bare : (t : Town) (host author : List ℕ) (f : Act) → is_follower_from (without_deleted t) host author (bare f) ≡ is_follower_from t host author f
unfolding is_follower_from is_following is_about rewrite_act
follower-bare t host author f = rw (bare-ref f.activity.object, reaches-bare t host author f.author) refl

followers-bare : (t : Town) (host author : List ℕ) → is_followed_from (without_deleted t) host author ≡ is_followed_from t host author
followers-bare t host author =
    list_any-through bare (is_follower_from (without_deleted t) host author) (is_follower_from t host author) (follower-bare t host author) t.acts

sees-bare : (t : Town) (c : Caller) (y : Act) → sees (without_deleted t) c (bare y) ≡ sees t c y
unfolding sees rewrite_act
sees-bare t Nobody y = refl
sees-bare t (Actor name) y = sees_with-bare t (id_of t name) y
sees-bare t (Peer host) y =
    rw (
      list_any-agree (reaches (without_deleted t) host y.author) (reaches t host y.author) (reaches-bare t host y.author) y.recipients,
      followers-bare t host y.author,
    ) refl

-- ---- what is shown

made-bare : (id : List ℕ) (y : Act) → makes id (bare y) ≡ makes id y
unfolding makes is_about rewrite_act
made-bare id y = rw (bare-ref y.activity.object) refl

maker-bare : (t : Town) (id : Option (List ℕ)) → object_of (maker_of (without_deleted t) id) ≡ option_map bare_object (object_of (maker_of t id))
maker-bare t None = refl
maker-bare t (Some id) =
    ap (λ (m : Option Act). object_of m) (find-through bare (makes id) (makes id) (made-bare id) t.acts) ∙ bare-carried (find (makes id) t.acts)

choice-bare : (a b : Bool) (x y : Option Object) → (if a then option_map bare_object x else (if b then option_map bare_object y else None)) ≡ option_map bare_object (if a then x else (if b then y else None))
choice-bare true b x y = refl
choice-bare false true x y = refl
choice-bare false false x y = refl

present-bare : (t : Town) (y : Act) → present_object (without_deleted t) (bare y) ≡ option_map bare_object (present_object t y)
unfolding present_object rewrite_act
present-bare t y =
    rw (bare-whole y.activity.object, bare-ref y.activity.object, maker-bare t (ref_id y.activity.object))
    (choice-bare _ _ (whole_of y.activity.object) (object_of (maker_of t (ref_id y.activity.object))))

named-bare : (y : Act) → ref_id (bare y).activity.object ≡ ref_id y.activity.object
unfolding rewrite_act
named-bare y = bare-ref y.activity.object

ref-bare : (t : Town) (y : Act) → shown_ref (without_deleted t) (bare y) ≡ shown_ref t y
unfolding shown_ref
ref-bare t y =
    ap (λ (o : Option Object). object_or_id o (ref_id (bare y).activity.object)) (present-bare t y)
    ∙ bare-given (present_object t y) (ref_id (bare y).activity.object)
    ∙ ap (λ (id : Option (List ℕ)). object_or_id (present_object t y) id) (named-bare y)

shown-bare : (t : Town) (c : Caller) (y : Act) → sight_of (without_deleted t) c (bare y) ≡ sight_of t c y
unfolding sight_of shown_activity rewrite_act
shown-bare t Nobody y = rw (ref-bare t y) refl
shown-bare t (Actor name) y = rw (ref-bare t y) refl
shown-bare t (Peer host) y = rw (ref-bare t y) refl

view-bare : (t : Town) (c : Caller) → view (without_deleted t) c ≡ view t c
view-bare t c =
    ap (map (sight_of (without_deleted t) c)) (filter-through bare (sees (without_deleted t) c) (sees t c) (sees-bare t c) t.acts)
    ∙ map-through bare (sight_of (without_deleted t) c) (sight_of t c) (shown-bare t c) (seen t c)

-- ---- the caller's own

by-bare : (me : List ℕ) (y : Act) → is_by me (bare y) ≡ is_by me y
unfolding is_by rewrite_act
by-bare me y = refl

mine-bare : (t : Town) (me : List ℕ) → filter (is_by me) (map bare t.acts) ≡ map bare (filter (is_by me) t.acts)
mine-bare t me = filter-through bare (is_by me) (is_by me) (by-bare me) t.acts

count-bare : (t : Town) (me : List ℕ) → count_of (without_deleted t) me ≡ count_of t me
count-bare t me = ap (λ (ys : List Act). length ys) (mine-bare t me) ∙ length-map (filter (is_by me) t.acts) bare

-- the key that an activity was posted under, with the digest and the id
abbrev kept_of : Act → Option ((List ℕ × List ℕ) × Option (List ℕ))
kept_of y = option_map (λ r. (r, y.activity.id)) y.repeat

kept-bare : (y : Act) → kept_of (bare y) ≡ kept_of y
unfolding rewrite_act
kept-bare y = refl

repeats-bare : (t : Town) (me : List ℕ) → repeats_of (without_deleted t) me ≡ repeats_of t me
repeats-bare t me =
    ap (λ (ys : List Act). filter_map kept_of ys) (mine-bare t me) ∙ filter_map-through bare kept_of kept_of kept-bare (filter (is_by me) t.acts)

peer-bare : (t : Town) (c : Caller) → peer_of (without_deleted t) c ≡ peer_of t c
peer-bare t Nobody = refl
peer-bare t (Actor name) = refl
peer-bare t (Peer host) = refl

own-bare : (g h : Town) (me : Option (List ℕ)) → without_deleted g ≡ without_deleted h → IsSameOwn g h me
own-bare g h None same = tt
own-bare g h (Some me) same = record {
  count = sym (count-bare g me) ∙ ap (λ (t : Town). count_of t me) same ∙ count-bare h me;
  repeats = sym (repeats-bare g me) ∙ ap (λ (t : Town). repeats_of t me) same ∙ repeats-bare h me;
  blockers = λ b. sym (blocks-bare g b me) ∙ ap (λ (t : Town). blocks t b me) same ∙ blocks-bare h b me;
}

agree_bare : (g h : Town) (c : Caller) → without_deleted g ≡ without_deleted h → Agree g h c
agree_bare g h c same = record {
  host = ap (λ (t : Town). t.host) same;
  names = ap (λ (t : Town). member_names t) same;
  peer = sym (peer-bare g c) ∙ ap (λ (t : Town). peer_of t c) same ∙ peer-bare h c;
  view = sym (view-bare g c) ∙ ap (λ (t : Town). view t c) same ∙ view-bare h c;
  own = own-bare g h (id_of_caller h c) same;
}

-- Histories that differ only in what Tombstones hide agree for everybody.
pub told_to_nobody : (g h : List Entry) (c : Caller) → without_deleted (town g) ≡ without_deleted (town h) → Agree (town g) (town h) c
told_to_nobody g h c same = agree_bare (town g) (town h) c same
