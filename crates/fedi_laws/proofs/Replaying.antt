-- The present state of an object is the object replayed.
use Rattle.std.proofs.Common.{◌≡◌, ℕ, Bool, true, false, List, [], ◌∷◌, ◌++◌, Option, Some, None, refl, sym, ap, ◌∙◌}
use Rattle.std.specs.Prelude.{◌&&◌, map, codes, option_map, option_to_list, if◌then◌else◌}
use Rattle.std.specs.List.{fold, find, list_any}
use Rattle.std.specs.Str.{bytes_eq}
use Rattle.std.proofs.lemmas.List.Sums.{fold-append}
use Rattle.fedi_text.specs.Dates.{moment_text}
use Rattle.fedi_objects.specs.declared.activity.Activity.{Activity}
use Rattle.fedi_objects.specs.declared.activity.ObjectRef.{ObjectRef}
use Rattle.fedi_objects.specs.declared.activity.ObjectRef.TheVariants.{Nothing, Id, Whole, Changed}
use Rattle.fedi_objects.specs.declared.entry.Entry.{Entry}
use Rattle.fedi_objects.specs.declared.entry.Entry.TheVariants.{Hosted, Made, PeerSet, Local, Remote, Tried}
use Rattle.fedi_objects.specs.declared.kind.State.{State}
use Rattle.fedi_objects.specs.declared.kind.State.TheVariants.{Accepted, Rejected, Undone}
use Rattle.fedi_objects.specs.declared.object.Object.{Object}
use Rattle.fedi_town.specs.declared.act.Act.{Act}
use Rattle.fedi_town.specs.declared.act.Actor.{Actor}
use Rattle.fedi_town.specs.declared.addition.Addition.TheVariants as additions
use Rattle.fedi_town.specs.declared.deed.Deed.{Deed}
use Rattle.fedi_town.specs.declared.deed.Deed.TheVariants.{Create, Update, Delete, Follow, Like, Announce, Block, Accept, Reject, Undo, Other}
use Rattle.fedi_town.specs.declared.effect.Effect.{Effect}
use Rattle.fedi_town.specs.declared.effect.Effect.TheVariants as effects
use Rattle.fedi_town.specs.Activities.{local_act, remote_act}
use Rattle.fedi_town.specs.Addressing.{act_of}
use Rattle.fedi_town.specs.Deeds.{is_update, is_delete, is_follow, is_done, is_standing, is_accepted}
use Rattle.fedi_town.specs.Effects.{where_passes, in_state, is_pending_follow, is_standing_activity, end_follow, affect, pair_ends, follow_ends, undo_effect, effect_about, effect_with, takes_effect, effect_of, accept_by, accept_for, followee, acceptance}
use Rattle.fedi_town.specs.Histories.{addition_of, member_addition, post_addition, inbox_addition, delivery_addition, is_known, with_addition, step, town}
use Rattle.fedi_town.specs.Objects.{makes, object_of, object_at, whole_of, rewrite_ref, rewrite_act, update_object, tombstone_of}
use Rattle.fedi_town.specs.Relations.{ref_id, is_id, is_about, is_open_follow}
use Rattle.fedi_town.specs.Replays.{acts_in, acts_from, acts_of, updates, deletes, first_form, next_form, replay_act, replay}
use Rattle.fedi_town.specs.Towns.{Town, deed, empty_town, id_of}
use Rattle.fedi_laws.proofs.Alike.{about_it}
use Rattle.fedi_laws.proofs.Inboxes.{maker-inbox}
use Rattle.fedi_town.proofs.Kept.{changed-kept, made-kept}
use Rattle.fedi_town.proofs.Lists.{list_any-through, find-through, find-stays, find-none, find-past}
use Rattle.fedi_town.proofs.MadeOnce.{local_new, remote_new, accept_makes_none}
use Rattle.fedi_town.proofs.Steps.{accept, answers}
use Rattle.fedi_town.proofs.Texts.{bytes_eq-is, bytes_eq-same, is_false, not_both}

-- ---- what an effect leaves of an object

-- the effect changes no object
abbrev LeavesObjects : Effect → Type 0
LeavesObjects effects.Nothing = Unit {0}
LeavesObjects (effects.Update id by stamp) = ⊥
LeavesObjects (effects.Delete id kind stamp) = ⊥
LeavesObjects (effects.Accept id) = Unit {0}
LeavesObjects (effects.EndFollows a b s) = Unit {0}
LeavesObjects (effects.EndBoth a b) = Unit {0}
LeavesObjects (effects.Undo id) = Unit {0}

state_alone : (p : Act → Bool) (s : State) (y : Act) → (where_passes p (in_state s) y).activity ≡ y.activity
state_alone p s y =
    elim (p y) as (λ b. (if b then in_state s y else y).activity ≡ y.activity) [
      | true ↦ refl
      | false ↦ refl
    ]

end_alone : (a b : List ℕ) (s : State) (y : Act) → (end_follow a b s y).activity ≡ y.activity
unfolding end_follow
end_alone a b s y = state_alone (is_open_follow a b) s y

left_alone : (e : Effect) (y : Act) → LeavesObjects e → (affect e y).activity ≡ y.activity
left_alone effects.Nothing y h = refl
left_alone (effects.Update id by stamp) y h = absurd h
left_alone (effects.Delete id kind stamp) y h = absurd h
left_alone (effects.Accept id) y h = state_alone (is_pending_follow id) Accepted y
left_alone (effects.EndFollows a b s) y h = end_alone a b s y
left_alone (effects.EndBoth a b) y h = end_alone a b Undone (end_follow b a Undone y) ∙ end_alone b a Undone y
left_alone (effects.Undo id) y h = state_alone (is_standing_activity id) Undone y

pair_leaves : (s : State) (f : Act) (b : Option (List ℕ)) → LeavesObjects (pair_ends s f b)
pair_leaves s f None = tt
pair_leaves s f (Some b) = tt

follow_leaves : (s : State) (f : Option Act) → LeavesObjects (follow_ends s f)
follow_leaves s None = tt
follow_leaves s (Some f) = pair_leaves s f (ref_id f.activity.object)

choice_leaves : (b : Bool) (d e : Effect) → LeavesObjects d → LeavesObjects e → LeavesObjects (if b then d else e)
choice_leaves true d e h k = h
choice_leaves false d e h k = k

undo_leaves : (id : List ℕ) (z : Option Act) → LeavesObjects (undo_effect id z)
undo_leaves id None = tt
undo_leaves id (Some z) = choice_leaves (is_follow (deed z)) _ _ (follow_leaves Undone (Some z)) tt

about_leaves : (t : Town) (x : Act) (d : Deed) (id : List ℕ) → is_update d ≡ false → is_delete d ≡ false → LeavesObjects (effect_about t x d id)
about_leaves t x Create id p q = tt
about_leaves t x Update id p q = absurd cc
about_leaves t x Delete id p q = absurd cc
about_leaves t x Follow id p q = tt
about_leaves t x Like id p q = tt
about_leaves t x Announce id p q = tt
about_leaves t x Block id p q = tt
about_leaves t x Accept id p q = tt
about_leaves t x Reject id p q = follow_leaves Rejected (act_of t (Some id))
about_leaves t x Undo id p q = undo_leaves id (act_of t (Some id))
about_leaves t x Other id p q = tt

-- ---- the object of one Create after one more activity

rewrite_whole : (f : Object → Object) (r : ObjectRef) (o : Object) → whole_of r ≡ Some o → whole_of (rewrite_ref f r) ≡ Some (f o)
rewrite_whole f Nothing o e = absurd cc
rewrite_whole f (Id iri) o e = absurd cc
rewrite_whole f (Whole new) o e = ap (λ (z : Option Object). option_map f z) e
rewrite_whole f (Changed c) o e = absurd cc

-- an activity makes only one object
one_object : (id own : List ℕ) (m : Act) → makes id m ≡ true → bytes_eq own id ≡ false → makes own m ≡ false
one_object id own m here other =
    is_false (makes own m) (λ also.
    let same : Some own ≡ Some id = sym (about_it own m also) ∙ about_it id m here in
    let is : own ≡ id = cc in
    not_both (bytes_eq own id) (rw is (bytes_eq-same id)) other)

rewrites_one : (f : Object → Object) (id own : List ℕ) (m : Act) (o : Object) → makes id m ≡ true → whole_of m.activity.object ≡ Some o
    → whole_of (where_passes (makes own) (rewrite_act f) m).activity.object ≡ Some (if bytes_eq own id then f o else o)
unfolding rewrite_act
rewrites_one f id own m o here e =
    elim (bytes_eq own id) as (λ b. bytes_eq own id ≡ b → whole_of (where_passes (makes own) (rewrite_act f) m).activity.object ≡ Some (if b then f o else o)) [
      | true ↦ λ is. let there : makes own m ≡ true = rw (bytes_eq-is own id is) here in rw there (rewrite_whole f m.activity.object o e)
      | false ↦ λ other. rw (one_object id own m here other) e
    ] refl

-- the effect of an activity that does this and is about this
abbrev effect_by : Town → Act → Deed → Option (List ℕ) → Effect
effect_by t x d None = effects.Nothing
effect_by t x d (Some id) = effect_about t x d id

effect_is : (t : Town) (x : Act) (i : Option (List ℕ)) → effect_with t x i ≡ effect_by t x (deed x) i
effect_is t x None = refl
effect_is t x (Some id) = refl

-- the next form, by what the activity does and what it is about
abbrev form_by : List ℕ → Act → Deed → Option (List ℕ) → Object → Object
form_by id x d i o =
    if (is_update d && is_done x.state) && is_id id i then update_object x.activity.object (moment_text x.moment) o else (
    if (is_delete d && is_done x.state) && is_id id i then tombstone_of (codes "Tombstone") (moment_text x.moment) o else o)

-- an activity that changes no object leaves this one unchanged
same_form : (t : Town) (x m : Act) (o : Object) (d : Deed) (b : Bool) (i : Option (List ℕ)) → is_update d ≡ false → is_delete d ≡ false
    → whole_of m.activity.object ≡ Some o → whole_of (affect (if b then effect_by t x d i else effects.Nothing) m).activity.object ≡ Some o
same_form t x m o d b None p q e =
    elim b as (λ s. whole_of (affect (if s then effects.Nothing else effects.Nothing) m).activity.object ≡ Some o) [ true ↦ e | false ↦ e ]
same_form t x m o d b (Some id) p q e =
    elim b as (λ s. whole_of (affect (if s then effect_about t x d id else effects.Nothing) m).activity.object ≡ Some o) [
      | true ↦ rw (left_alone (effect_about t x d id) m (about_leaves t x d id p q)) e
      | false ↦ e
    ]

form_after : (t : Town) (x m : Act) (o : Object) (id : List ℕ) (d : Deed) (i : Option (List ℕ)) → makes id m ≡ true → whole_of m.activity.object ≡ Some o
    → whole_of (affect (if takes_effect d x.state then effect_by t x d i else effects.Nothing) m).activity.object ≡ Some (form_by id x d i o)
form_after t x m o id Update None here e =
    elim (is_done x.state) as (λ s. whole_of (affect (if s then effects.Nothing else effects.Nothing) m).activity.object
    ≡ Some (if s && false then update_object x.activity.object (moment_text x.moment) o else o)) [ true ↦ e | false ↦ e ]
form_after t x m o id Update (Some own) here e =
    elim (is_done x.state) as (λ s. whole_of (affect (if s then effects.Update own x.activity.object (moment_text x.moment) else effects.Nothing) m).activity.object
    ≡ Some (if s && bytes_eq own id then update_object x.activity.object (moment_text x.moment) o else o)) [
      | true ↦ rewrites_one (update_object x.activity.object (moment_text x.moment)) id own m o here e
      | false ↦ e
    ]
form_after t x m o id Delete None here e =
    elim (is_done x.state) as (λ s. whole_of (affect (if s then effects.Nothing else effects.Nothing) m).activity.object
    ≡ Some (if s && false then tombstone_of (codes "Tombstone") (moment_text x.moment) o else o)) [ true ↦ e | false ↦ e ]
form_after t x m o id Delete (Some own) here e =
    elim (is_done x.state) as (λ s. whole_of (affect (if s then effects.Delete own (codes "Tombstone") (moment_text x.moment) else effects.Nothing) m).activity.object
    ≡ Some (if s && bytes_eq own id then tombstone_of (codes "Tombstone") (moment_text x.moment) o else o)) [
      | true ↦ rewrites_one (tombstone_of (codes "Tombstone") (moment_text x.moment)) id own m o here e
      | false ↦ e
    ]
form_after t x m o id Create i here e = same_form t x m o Create (is_done x.state) i refl refl e
form_after t x m o id Follow i here e = same_form t x m o Follow (is_done x.state) i refl refl e
form_after t x m o id Like i here e = same_form t x m o Like (is_done x.state) i refl refl e
form_after t x m o id Announce i here e = same_form t x m o Announce (is_done x.state) i refl refl e
form_after t x m o id Block i here e = same_form t x m o Block (is_standing x.state) i refl refl e
form_after t x m o id Accept i here e = same_form t x m o Accept (is_done x.state) i refl refl e
form_after t x m o id Reject i here e = same_form t x m o Reject (is_done x.state) i refl refl e
form_after t x m o id Undo i here e = same_form t x m o Undo (is_done x.state) i refl refl e
form_after t x m o id Other i here e = same_form t x m o Other (is_done x.state) i refl refl e

next_is : (t : Town) (x m : Act) (o : Object) (id : List ℕ) → makes id m ≡ true → whole_of m.activity.object ≡ Some o
    → whole_of (affect (effect_of t x) m).activity.object ≡ Some (next_form id x o)
unfolding effect_of updates deletes is_about
next_is t x m o id here e =
    rw (effect_is t x (ref_id x.activity.object)) (form_after t x m o id (deed x) (ref_id x.activity.object) here e)

-- ---- one more activity, with its answer

answer_forms : (t : Town) (host : List ℕ) (x : Act) (member : Actor) (id : List ℕ) (p : Option Object) → replay_act id p (accept_by t host x member) ≡ p
unfolding updates deletes accept_by
answer_forms t host x member id None = rw (accept_makes_none t host x member id) refl
answer_forms t host x member id (Some o) = refl

found_forms : (host : Option (List ℕ)) (t : Town) (x : Act) (member : Option Actor) (id : List ℕ) (p : Option Object)
    → fold (replay_act id) p (option_to_list (accept_for host t x member)) ≡ p
found_forms None t x member id p = refl
found_forms (Some host) t x None id p = refl
found_forms (Some host) t x (Some member) id p = answer_forms t host x member id p

choice_forms : (b : Bool) (z : Option Act) (id : List ℕ) (p : Option Object) → fold (replay_act id) p (option_to_list z) ≡ p
    → fold (replay_act id) p (option_to_list (if b then z else None)) ≡ p
choice_forms true z id p e = e
choice_forms false z id p e = refl

-- the answer neither makes nor changes an object
pub answers_forms : (t : Town) (x : Act) (id : List ℕ) (p : Option Object) → fold (replay_act id) p (answers t x) ≡ p
answers_forms t x id p =
    choice_forms (is_follow (deed x) && is_accepted x.state) (accept_for t.host t x (followee t (ref_id x.activity.object))) id p
    (found_forms t.host t x (followee t (ref_id x.activity.object)) id p)

found_makes_none : (host : Option (List ℕ)) (t : Town) (x : Act) (member : Option Actor) (id : List ℕ) → list_any (makes id) (option_to_list (accept_for host t x member)) ≡ false
found_makes_none None t x member id = refl
found_makes_none (Some host) t x None id = refl
found_makes_none (Some host) t x (Some member) id = rw (accept_makes_none t host x member id) refl

choice_makes_none : (b : Bool) (z : Option Act) (id : List ℕ) → list_any (makes id) (option_to_list z) ≡ false → list_any (makes id) (option_to_list (if b then z else None)) ≡ false
choice_makes_none true z id e = e
choice_makes_none false z id e = refl

answers_make_none : (t : Town) (x : Act) (id : List ℕ) → list_any (makes id) (answers t x) ≡ false
answers_make_none t x id =
    choice_makes_none (is_follow (deed x) && is_accepted x.state) (accept_for t.host t x (followee t (ref_id x.activity.object))) id
    (found_makes_none t.host t x (followee t (ref_id x.activity.object)) id)

-- if no activity made the object yet: it is the object of the new Create, if that makes it
new_object : (id : List ℕ) (x : Act) (rest : List Act) → list_any (makes id) rest ≡ false → object_of (find (makes id) (x ∷ rest)) ≡ first_form id x
new_object id x rest none =
    elim (makes id x) as (λ b. object_of (if b then Some x else find (makes id) rest) ≡ (if b then whole_of x.activity.object else None)) [
      | true ↦ refl
      | false ↦ rw (find-none (makes id) rest none) refl
    ]

none_left : (r : ObjectRef) (f : Object → Object) → whole_of r ≡ None → whole_of (rewrite_ref f r) ≡ None
none_left Nothing f e = refl
none_left (Id iri) f e = refl
none_left (Whole o) f e = absurd cc
none_left (Changed c) f e = refl

rewrites_none : (p : Act → Bool) (f : Object → Object) (m : Act) → whole_of m.activity.object ≡ None → whole_of (where_passes p (rewrite_act f) m).activity.object ≡ None
unfolding rewrite_act
rewrites_none p f m e =
    elim (p m) as (λ b. whole_of (if b then rewrite_act f m else m).activity.object ≡ None) [
      | true ↦ none_left m.activity.object f e
      | false ↦ e
    ]

-- an activity that carries no object gets none
stays_none : (e : Effect) (m : Act) → whole_of m.activity.object ≡ None → whole_of (affect e m).activity.object ≡ None
stays_none effects.Nothing m e = e
stays_none (effects.Update id by stamp) m e = rewrites_none (makes id) (update_object by stamp) m e
stays_none (effects.Delete id kind stamp) m e = rewrites_none (makes id) (tombstone_of kind stamp) m e
stays_none (effects.Accept id) m e = rw (left_alone (effects.Accept id) m tt) e
stays_none (effects.EndFollows a b s) m e = rw (left_alone (effects.EndFollows a b s) m tt) e
stays_none (effects.EndBoth a b) m e = rw (left_alone (effects.EndBoth a b) m tt) e
stays_none (effects.Undo id) m e = rw (left_alone (effects.Undo id) m tt) e

-- if an activity made it: what becomes of that object
old_object : (t : Town) (x : Act) (id : List ℕ) (m : Act) (p : Option Object) → makes id m ≡ true → whole_of m.activity.object ≡ p → makes id x ≡ false
    → whole_of (affect (effect_of t x) m).activity.object ≡ replay_act id p x
old_object t x id m None here e none = rw (stays_none (effect_of t x) m e, none) refl
old_object t x id m (Some o) here e none = next_is t x m o id here e

-- if an object with this id was made, the activity does not make it again
record IsNew (t : Town) (x : Act) : Type 0 where
  new : (id : List ℕ) → makes id x ≡ true → list_any (makes id) t.acts ≡ false

makes_no_more : (t : Town) (x : Act) (id : List ℕ) → IsNew t x → list_any (makes id) t.acts ≡ true → makes id x ≡ false
makes_no_more t x id n there = is_false (makes id x) (λ e. not_both (list_any (makes id) t.acts) there (n.new id e))

found_one : {A : Type 0} (p : A → Bool) (xs : List A) → list_any p xs ≡ true → (m : A) × ((find p xs ≡ Some m) × (p m ≡ true))
found_one p [] there = absurd cc
found_one {A} p (x ∷ xs) there =
    elim (p x) as (λ b. p x ≡ b → (m : A) × ((find p (x ∷ xs) ≡ Some m) × (p m ≡ true))) [
      | true ↦ λ e. (x, (rw e refl, e))
      | false ↦ λ e. let rest = found_one p xs (rw e at there) in (rest.0, (rw e rest.1.0, rest.1.1))
    ] refl

accept_replays : (t : Town) (x : Act) (id : List ℕ) → IsNew t x → object_at (accept t x) id ≡ fold (replay_act id) (object_at t id) (x ∷ answers t x)
accept_replays t x id n =
    let f : Act → Act = affect (effect_of t x) in
    let same : (y : Act) → makes id (f y) ≡ makes id y = λ y. made-kept y (f y) (changed-kept t x y) id in
    let any : list_any (makes id) (map f t.acts) ≡ list_any (makes id) t.acts = list_any-through f (makes id) (makes id) same t.acts in
    elim (list_any (makes id) t.acts) as (λ b. list_any (makes id) t.acts ≡ b → object_at (accept t x) id ≡ fold (replay_act id) (object_at t id) (x ∷ answers t x)) [
      | true ↦ λ there.
          let one = found_one (makes id) t.acts there in
          let stays : find (makes id) (map f t.acts ++ x ∷ answers t x) ≡ Some (f one.0) =
          find-stays (makes id) (map f t.acts) (x ∷ answers t x) (any ∙ there)
          ∙ find-through f (makes id) (makes id) same t.acts ∙ ap (option_map f) one.1.0 in
          ap object_of stays
          ∙ old_object t x id one.0 (whole_of one.0.activity.object) one.1.1 refl (makes_no_more t x id n there)
          ∙ sym (answers_forms t x id (replay_act id (whole_of one.0.activity.object) x))
          ∙ ap (λ (m : Option Act). fold (replay_act id) (object_of m) (x ∷ answers t x)) (sym one.1.0)
      | false ↦ λ none.
          ap object_of (find-past (makes id) (map f t.acts) (x ∷ answers t x) (any ∙ none))
          ∙ new_object id x (answers t x) (answers_make_none t x id)
          ∙ sym (answers_forms t x id (first_form id x))
          ∙ ap (λ (m : Option Act). fold (replay_act id) (object_of m) (x ∷ answers t x)) (sym (find-none (makes id) t.acts none))
    ] refl

-- ---- one more entry

post_replays : (host : Option (List ℕ)) (t : Town) (name : List ℕ) (repeat : Option (List ℕ × List ℕ)) (a : Activity) (moment : ℕ) (id : List ℕ)
    → object_at (with_addition t (post_addition host t name repeat a moment)) id ≡ fold (replay_act id) (object_at t id) (acts_in (post_addition host t name repeat a moment))
post_replays None t name repeat a moment id = refl
post_replays (Some host) t name repeat a moment id =
    accept_replays t (local_act t host name repeat a moment) id (record { new = local_new t host name repeat a moment })

inbox_replays : (t : Town) (owner author i : List ℕ) (a : Activity) (moment : ℕ) (id : List ℕ)
    → object_at (with_addition t (inbox_addition t owner author i a moment)) id ≡ fold (replay_act id) (object_at t id) (acts_in (inbox_addition t owner author i a moment))
inbox_replays t owner author i a moment id =
    elim (is_known t i) as (λ b.
    object_at (with_addition t (if b then additions.Inbox i owner else additions.Activity (acceptance t (remote_act t owner author a moment)))) id
    ≡ fold (replay_act id) (object_at t id) (acts_in (if b then additions.Inbox i owner else additions.Activity (acceptance t (remote_act t owner author a moment))))) [
      | true ↦ maker-inbox t i owner (Some id)
      | false ↦ accept_replays t (remote_act t owner author a moment) id (record { new = remote_new t owner author a moment })
    ]

delivery_replays : (t : Town) (owner author i : Option (List ℕ)) (a : Activity) (moment : ℕ) (id : List ℕ)
    → object_at (with_addition t (delivery_addition t owner author i a moment)) id ≡ fold (replay_act id) (object_at t id) (acts_in (delivery_addition t owner author i a moment))
delivery_replays t None author i a moment id = refl
delivery_replays t (Some owner) None i a moment id = refl
delivery_replays t (Some owner) (Some author) None a moment id = refl
delivery_replays t (Some owner) (Some author) (Some i) a moment id = inbox_replays t owner author i a moment id

member_replays : (host : Option (List ℕ)) (t : Town) (name digest : List ℕ) (locked : Bool) (id : List ℕ)
    → object_at (with_addition t (member_addition host name digest locked)) id ≡ fold (replay_act id) (object_at t id) (acts_in (member_addition host name digest locked))
member_replays None t name digest locked id = refl
member_replays (Some host) t name digest locked id = refl

pub step_replays : (t : Town) (e : Entry) (id : List ℕ) → object_at (step t e) id ≡ fold (replay_act id) (object_at t id) (acts_in (addition_of t e))
step_replays t (Hosted host moment) id = refl
step_replays t (Made name digest locked moment) id = member_replays t.host t name digest locked id
step_replays t (PeerSet host key address relay moment) id = refl
step_replays t (Local name repeat a moment) id = post_replays t.host t name repeat a moment id
step_replays t (Remote peer inbox a moment) id = delivery_replays t (id_of t inbox) a.actor a.id a moment id
step_replays t (Tried activity recipient came moment) id = refl

fold_replays : (history : List Entry) (t : Town) (id : List ℕ) → object_at (fold step t history) id ≡ fold (replay_act id) (object_at t id) (acts_from t history)
fold_replays [] t id = refl
fold_replays (e ∷ history) t id =
    fold_replays history (step t e) id
    ∙ ap (λ (p : Option Object). fold (replay_act id) p (acts_from (step t e) history)) (step_replays t e id)
    ∙ sym (fold-append (replay_act id) (object_at t id) (acts_in (addition_of t e)) (acts_from (step t e) history))

-- In each history the present state of an object is the object replayed.
pub town_replays : (history : List Entry) (id : List ℕ) → object_at (town history) id ≡ replay id (acts_of history)
town_replays history id = fold_replays history empty_town id
