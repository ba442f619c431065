-- Activities that block nobody and that the caller does not see change nothing for the caller.
use Rattle.std.proofs.Common.{◌≡◌, ℕ, Bool, true, false, List, [], ◌∷◌, ◌++◌, length, Option, Some, None, refl, ap, ◌∙◌}
use Rattle.std.specs.Prelude.{◌&&◌, ◌||◌, not, filter, if◌then◌else◌, option_map}
use Rattle.std.specs.List.{list_any, filter_map}
use Rattle.std.proofs.lemmas.List.{append-nil}
use Rattle.std.proofs.lemmas.List.Elements.{filter-append, filter_agree}
use Rattle.fedi_town.proofs.Grounded.{AreGrounded, is_grounded, is_made}
use Rattle.fedi_town.proofs.Lists.{first_none, other_none, filter-none, find-stays, map-where, list_all-filter}
use Rattle.fedi_town.proofs.Quiet.{AreQuiet, with_acts, sees-quiet, blocks-quiet}
use Rattle.fedi_town.specs.Agreement.{Agree, IsSameOwn, peer_of}
use Rattle.fedi_town.specs.Deeds.{is_update, is_done}
use Rattle.fedi_town.specs.Objects.{makes, maker_of, object_of}
use Rattle.fedi_town.specs.Relations.{ref_id}
use Rattle.fedi_town.specs.Seeing.{sees, sees_as, sees_with, seen}
use Rattle.fedi_town.specs.Showing.{sight_of, shown_ref, shown_activity, present_object, id_of_caller, view}
use Rattle.fedi_town.specs.Towns.{Town, id_of, is_by, deed}
use Rattle.fedi_town.specs.declared.act.Act.{Act}
use Rattle.fedi_town.specs.declared.caller.Caller.{Caller}
use Rattle.fedi_town.specs.declared.caller.Caller.TheVariants.{Nobody, Actor, Peer}

maker-stays : (t : Town) (xs : List Act) (id : Option (List ℕ)) → is_made t.acts id ≡ true → maker_of (with_acts t xs) id ≡ maker_of t id
maker-stays t xs None made = refl
maker-stays t xs (Some id) made = find-stays (makes id) t.acts xs made

ref-stays : (t u : Town) (x : Act) (changing : Bool)
    → (changing ≡ true → maker_of u (ref_id x.activity.object) ≡ maker_of t (ref_id x.activity.object))
    → (if changing then object_of (maker_of u (ref_id x.activity.object)) else None) ≡ (if changing then object_of (maker_of t (ref_id x.activity.object)) else None)
ref-stays t u x true h = rw (h refl) refl
ref-stays t u x false h = refl

not_first : (a b : Bool) → (not a || b) ≡ true → a ≡ true → b ≡ true
not_first true b e f = e
not_first false b e f = absurd cc

shown_ref-stays : (t : Town) (xs : List Act) (x : Act) → is_grounded t.acts x ≡ true → shown_ref (with_acts t xs) x ≡ shown_ref t x
unfolding shown_ref present_object is_grounded
shown_ref-stays t xs x grounded =
    rw (ref-stays t (with_acts t xs) x (is_update (deed x) && is_done x.state)
    (λ changing. maker-stays t xs (ref_id x.activity.object) (not_first (is_update (deed x) && is_done x.state) (is_made t.acts (ref_id x.activity.object)) grounded changing))) refl

shown-stays : (t : Town) (xs : List Act) (c : Caller) (x : Act) → is_grounded t.acts x ≡ true → sight_of (with_acts t xs) c x ≡ sight_of t c x
unfolding sight_of shown_activity
shown-stays t xs Nobody x grounded = rw (shown_ref-stays t xs x grounded) refl
shown-stays t xs (Actor name) x grounded = rw (shown_ref-stays t xs x grounded) refl
shown-stays t xs (Peer host) x grounded = rw (shown_ref-stays t xs x grounded) refl

seen-stays : (t : Town) (xs : List Act) (c : Caller) → AreQuiet xs → list_any (sees t c) xs ≡ false → seen (with_acts t xs) c ≡ seen t c
seen-stays t xs c q unseen =
    filter_agree (sees (with_acts t xs) c) (sees t c) (sees-quiet t xs q c unseen) (t.acts ++ xs)
    ∙ filter-append (sees t c) t.acts xs
    ∙ rw (filter-none (sees t c) xs unseen, append-nil) refl

view-stays : (t : Town) (xs : List Act) (c : Caller) → AreGrounded t.acts → AreQuiet xs → list_any (sees t c) xs ≡ false → view (with_acts t xs) c ≡ view t c
view-stays t xs c g q unseen =
    rw (seen-stays t xs c q unseen)
    (map-where (is_grounded t.acts) (sight_of (with_acts t xs) c) (sight_of t c) (shown-stays t xs c) (seen t c) (list_all-filter (is_grounded t.acts) (sees t c) t.acts g.all))

own_unseen : (t : Town) (id : List ℕ) (x : Act) → sees_as t id x ≡ false → is_by id x ≡ false
unfolding sees_as
own_unseen t id x unseen = first_none (is_by id x) _ unseen

none_own : (t : Town) (id : List ℕ) (xs : List Act) → list_any (sees_as t id) xs ≡ false → list_any (is_by id) xs ≡ false
none_own t id [] unseen = refl
none_own t id (x ∷ xs) unseen =
    rw (own_unseen t id x (first_none (sees_as t id x) (list_any (sees_as t id) xs) unseen))
    (none_own t id xs (other_none (sees_as t id x) (list_any (sees_as t id) xs) unseen))

own-stays : (t : Town) (xs : List Act) (id : Option (List ℕ)) → AreQuiet xs → list_any (sees_with t id) xs ≡ false → IsSameOwn (with_acts t xs) t id
own-stays t xs None q unseen = tt
own-stays t xs (Some id) q unseen =
    let same : filter (is_by id) (t.acts ++ xs) ≡ filter (is_by id) t.acts =
    filter-append (is_by id) t.acts xs ∙ rw (filter-none (is_by id) xs (none_own t id xs unseen), append-nil) refl in record {
      count = ap (λ (ys : List Act). length ys) same;
      repeats = ap (λ (ys : List Act). filter_map (λ y. option_map (λ r. (r, y.activity.id)) y.repeat) ys) same;
      blockers = λ b. blocks-quiet t xs q b id;
    }

caller_own : (t : Town) (xs : List Act) (c : Caller) → AreQuiet xs → list_any (sees t c) xs ≡ false → IsSameOwn (with_acts t xs) t (id_of_caller t c)
unfolding sees
caller_own t xs Nobody q unseen = tt
caller_own t xs (Actor name) q unseen = own-stays t xs (id_of t name) q unseen
caller_own t xs (Peer host) q unseen = tt

same_peer : (t : Town) (xs : List Act) (c : Caller) → peer_of (with_acts t xs) c ≡ peer_of t c
same_peer t xs Nobody = refl
same_peer t xs (Actor name) = refl
same_peer t xs (Peer host) = refl

-- Activities that block nobody, none of which the caller sees.
pub unseen_agree : (t : Town) (xs : List Act) (c : Caller) → AreGrounded t.acts → AreQuiet xs → list_any (sees t c) xs ≡ false → Agree (with_acts t xs) t c
unseen_agree t xs c g q unseen = record {
  host = refl;
  names = refl;
  peer = same_peer t xs c;
  view = view-stays t xs c g q unseen;
  own = caller_own t xs c q unseen;
}
