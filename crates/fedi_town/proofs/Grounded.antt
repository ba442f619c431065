-- The object of each Update that is done was made.
use Rattle.std.proofs.Common.{◌≡◌, ℕ, Bool, true, false, List, [], ◌∷◌, ◌++◌, Option, Some, None, refl, subst, ◌∙◌}
use Rattle.std.specs.Prelude.{◌&&◌, ◌||◌, not, map, if◌then◌else◌, option_to_list}
use Rattle.std.specs.List.{list_any, list_all, find, fold}
use Rattle.std.proofs.lemmas.List.{append-nil}
use Rattle.std.proofs.lemmas.List.Folds.{list_any-append, list_all-append}
use Rattle.fedi_objects.specs.declared.activity.Activity.{Activity}
use Rattle.fedi_objects.specs.declared.activity.ObjectRef.{ObjectRef}
use Rattle.fedi_objects.specs.declared.entry.Entry.{Entry}
use Rattle.fedi_objects.specs.declared.entry.Entry.TheVariants.{Hosted, Made, PeerSet, Local, Remote, Tried}
use Rattle.fedi_objects.specs.declared.kind.State.TheVariants.{Done}
use Rattle.fedi_town.specs.declared.addition.Addition.TheVariants as additions
use Rattle.fedi_town.proofs.Kept.{IsKept, changed-kept, made-kept, ref_received}
use Rattle.fedi_town.proofs.Lists.{list_any-through, find-none}
use Rattle.fedi_town.proofs.Steps.{accept, accept_in_steps, with_act, accepts_for, after_delivery, after_inbox, after_post}
use Rattle.fedi_town.specs.Activities.{local_act, remote_act}
use Rattle.fedi_town.specs.Deeds.{is_update, is_done, is_accepted, is_follow, deed_of}
use Rattle.fedi_town.specs.Effects.{acceptance, accept_for, affect, effect_of, accept_by, followee}
use Rattle.fedi_town.specs.Histories.{with_addition, member_addition, with_recipient, is_known, step, town}
use Rattle.fedi_town.specs.Objects.{makes, maker, is_whole}
use Rattle.fedi_town.specs.Relations.{ref_id, has_activity_id}
use Rattle.fedi_town.specs.States.{state_of, state_with, only_where, is_own_live}
use Rattle.fedi_town.specs.Towns.{Town, deed, empty_town, id_of}
use Rattle.fedi_town.specs.declared.act.Act.{Act}
use Rattle.fedi_town.specs.declared.act.Actor.{Actor}
use Rattle.fedi_town.specs.declared.deed.Deed.{Deed}
use Rattle.fedi_town.specs.declared.deed.Deed.TheVariants.{Create, Update, Delete, Follow, Like, Announce, Block, Accept, Reject, Undo, Other}
use Rattle.std.proofs.lemmas.Bool.{and_parts}

-- the object was made
abbrev pub is_made : List Act → Option (List ℕ) → Bool
is_made acts None = false
is_made acts (Some id) = list_any (makes id) acts

-- if it is an Update that is done, its object was made
unfoldable pub is_grounded : List Act → Act → Bool
is_grounded acts x = not (is_update (deed x) && is_done x.state) || is_made acts (ref_id x.activity.object)

pub record AreGrounded (acts : List Act) : Type 0 where
  pub all : list_all (is_grounded acts) acts ≡ true

-- ---- more acts, and changed acts

-- what was made stays made
record Grows (acts more : List Act) : Type 0 where
  made : (id : List ℕ) → list_any (makes id) acts ≡ true → list_any (makes id) more ≡ true

is_made-grows : (acts more : List Act) → Grows acts more → (id : Option (List ℕ)) → is_made acts id ≡ true → is_made more id ≡ true
is_made-grows acts more g None m = m
is_made-grows acts more g (Some id) m = g.made id m

or_then : (a b c : Bool) → (b ≡ true → c ≡ true) → (a || b) ≡ true → (a || c) ≡ true
or_then true b c h e = refl
or_then false b c h e = h e

is_grounded-grows : (acts more : List Act) → Grows acts more → (x : Act) → is_grounded acts x ≡ true → is_grounded more x ≡ true
unfolding is_grounded
is_grounded-grows acts more g x = or_then _ _ _ (is_made-grows acts more g (ref_id x.activity.object))

all-grows : (acts more : List Act) → Grows acts more → (xs : List Act) → list_all (is_grounded acts) xs ≡ true → list_all (is_grounded more) xs ≡ true
all-grows acts more g [] all = refl
all-grows acts more g (x ∷ xs) all =
    let parts = and_parts (is_grounded acts x) (list_all (is_grounded acts) xs) all in
    rw (is_grounded-grows acts more g x parts.0, all-grows acts more g xs parts.1) refl

or_first : (a b : Bool) → a ≡ true → (a || b) ≡ true
or_first true b e = refl
or_first false b e = absurd cc

push-grows : (acts ys : List Act) → Grows acts (acts ++ ys)
push-grows acts ys = record { made = λ id there. list_any-append (makes id) acts ys ∙ or_first (list_any (makes id) acts) (list_any (makes id) ys) there }

-- one more activity, whose own object was made
pushed : (acts : List Act) (x : Act) → AreGrounded acts → is_grounded acts x ≡ true → AreGrounded (acts ++ x ∷ [])
pushed acts x h own = record {
  all =
      list_all-append (is_grounded (acts ++ x ∷ [])) acts (x ∷ [])
      ∙ rw (all-grows acts (acts ++ x ∷ []) (push-grows acts (x ∷ [])) acts h.all, is_grounded-grows acts (acts ++ x ∷ []) (push-grows acts (x ∷ [])) x own) refl;
}

mapped-grows : (f : Act → Act) → ((y : Act) → IsKept y (f y)) → (acts : List Act) → Grows acts (map f acts)
mapped-grows f k acts = record { made = λ id there. list_any-through f (makes id) (makes id) (λ y. made-kept y (f y) (k y) id) acts ∙ there }

same_grounds : (acts : List Act) (y z : Act) → IsKept y z → is_grounded acts z ≡ is_grounded acts y
unfolding is_grounded
same_grounds acts y z k = rw (k.kind, k.done, k.about) refl

all-mapped : (f : Act → Act) → ((y : Act) → IsKept y (f y)) → (acts xs : List Act) → list_all (is_grounded acts) xs ≡ true → list_all (is_grounded acts) (map f xs) ≡ true
all-mapped f k acts [] all = refl
all-mapped f k acts (x ∷ xs) all =
    let parts = and_parts (is_grounded acts x) (list_all (is_grounded acts) xs) all in
    rw (same_grounds acts x (f x) (k x), parts.0, all-mapped f k acts xs parts.1) refl

pub mapped : (f : Act → Act) → ((y : Act) → IsKept y (f y)) → (acts : List Act) → AreGrounded acts → AreGrounded (map f acts)
mapped f k acts h = record { all = all-grows acts (map f acts) (mapped-grows f k acts) (map f acts) (all-mapped f k acts acts h.all) }

-- ---- a new activity

where_done : (b : Bool) → is_done (only_where b Done) ≡ true → b ≡ true
where_done true e = refl
where_done false e = absurd cc

own_made : (author : List ℕ) (p : Act → Bool) (acts : List Act) → is_own_live author (find p acts) ≡ true → list_any p acts ≡ true
own_made author p acts live =
    elim (list_any p acts) as (λ b. list_any p acts ≡ b → b ≡ true) [
      | true ↦ λ e. refl
      | false ↦ λ e. absurd (let h : is_own_live author None ≡ true = rw (find-none p acts e) at live in cc)
    ] refl

-- an Update is done only if its object was made
new_state : (t : Town) (local : Bool) (author : List ℕ) (full : Bool) (id : Option (List ℕ))
    → is_done (state_with t local author Update full id) ≡ true → is_made t.acts id ≡ true
new_state t local author full None done = absurd cc
new_state t local author full (Some id) done =
    own_made author (makes id) t.acts (and_parts (local || full) (is_own_live author (maker t id)) (where_done _ done)).1

grounded_by : (acts : List Act) (d : Deed) (done : Bool) (id : Option (List ℕ)) → (d ≡ Update → done ≡ true → is_made acts id ≡ true)
    → (not (is_update d && done) || is_made acts id) ≡ true
grounded_by acts Create done id h = refl
grounded_by acts Update true id h = h refl refl
grounded_by acts Update false id h = refl
grounded_by acts Delete done id h = refl
grounded_by acts Follow done id h = refl
grounded_by acts Like done id h = refl
grounded_by acts Announce done id h = refl
grounded_by acts Block done id h = refl
grounded_by acts Accept done id h = refl
grounded_by acts Reject done id h = refl
grounded_by acts Undo done id h = refl
grounded_by acts Other done id h = refl

new_grounded : (t : Town) (local : Bool) (author : List ℕ) (d : Deed) (r : ObjectRef)
    → (not (is_update d && is_done (state_of t local author d r)) || is_made t.acts (ref_id r)) ≡ true
unfolding state_of
new_grounded t local author d r =
    grounded_by t.acts d (is_done (state_with t local author d (is_whole r) (ref_id r))) (ref_id r)
    (λ same done. new_state t local author (is_whole r) (ref_id r) (rw same at done))

pub local-grounded : (t : Town) (host name : List ℕ) (repeat : Option (List ℕ × List ℕ)) (a : Activity) (moment : ℕ)
    → is_grounded t.acts (local_act t host name repeat a moment) ≡ true
unfolding is_grounded
local-grounded t host name repeat a moment = new_grounded t true _ (deed_of a.kind) _

remote-grounded : (t : Town) (owner author : List ℕ) (a : Activity) (moment : ℕ) → is_grounded t.acts (remote_act t owner author a moment) ≡ true
unfolding is_grounded
remote-grounded t owner author a moment = rw (ref_received (deed_of a.kind) author moment a.object) (new_grounded t false author (deed_of a.kind) a.object)

-- ---- steps

accept-grounded : (t : Town) (host : List ℕ) (x : Act) (member : Actor) (acts : List Act) → is_grounded acts (accept_by t host x member) ≡ true
unfolding is_grounded accept_by
accept-grounded t host x member acts = refl

answered-grounded : (host : Option (List ℕ)) (t : Town) (acts : List Act) (x : Act) (member : Option Actor) → AreGrounded acts → AreGrounded (acts ++ accepts_for host t x member)
answered-grounded None t acts x member h = rw append-nil h
answered-grounded (Some host) t acts x None h = rw append-nil h
answered-grounded (Some host) t acts x (Some member) h = pushed acts (accept_by t host x member) h (accept-grounded t host x member acts)

choice-grounded : (b : Bool) (acts : List Act) (z : Option Act) → AreGrounded acts → AreGrounded (acts ++ option_to_list z) → AreGrounded (acts ++ option_to_list (if b then z else None))
choice-grounded true acts z h k = k
choice-grounded false acts z h k = rw append-nil h

appended-grounded : (t : Town) (x : Act) → AreGrounded t.acts → is_grounded t.acts x ≡ true → AreGrounded (with_act t x).acts
appended-grounded t x h own =
    pushed (map (affect (effect_of t x)) t.acts) x (mapped (affect (effect_of t x)) (changed-kept t x) t.acts h)
    (is_grounded-grows t.acts (map (affect (effect_of t x)) t.acts) (mapped-grows (affect (effect_of t x)) (changed-kept t x) t.acts) x own)

accepted-grounded : (t : Town) (x : Act) → AreGrounded t.acts → is_grounded t.acts x ≡ true → AreGrounded (accept t x).acts
accepted-grounded t x h own =
    let u : Town = with_act t x in
    let k : AreGrounded u.acts = appended-grounded t x h own in
    subst AreGrounded (accept_in_steps t x)
    (choice-grounded (is_follow (deed x) && is_accepted x.state) u.acts (accept_for t.host t x (followee t (ref_id x.activity.object))) k
    (answered-grounded t.host t u.acts x (followee t (ref_id x.activity.object)) k))

also-kept : (id owner : List ℕ) (y : Act) → IsKept y (with_recipient id owner y)
also-kept id owner y =
    elim (has_activity_id id y) as (λ b. IsKept y (if b then record y { recipients = y.recipients ++ owner ∷ [] } else y)) [
      | true ↦ record { kind = refl; done = refl; about = refl }
      | false ↦ record { kind = refl; done = refl; about = refl }
    ]

as-grounded : (t : Town) (owner author id : List ℕ) (a : Activity) (moment : ℕ) → AreGrounded t.acts → AreGrounded (after_inbox t owner author id a moment).acts
as-grounded t owner author id a moment h =
    elim (is_known t id) as (λ b. AreGrounded (with_addition t (if b then additions.Inbox id owner else additions.Activity (acceptance t (remote_act t owner author a moment)))).acts) [
      | true ↦ mapped (with_recipient id owner) (also-kept id owner) t.acts h
      | false ↦ accepted-grounded t (remote_act t owner author a moment) h (remote-grounded t owner author a moment)
    ]

delivered-grounded : (t : Town) (owner author id : Option (List ℕ)) (a : Activity) (moment : ℕ) → AreGrounded t.acts → AreGrounded (after_delivery t owner author id a moment).acts
delivered-grounded t None author id a moment h = h
delivered-grounded t (Some owner) None id a moment h = h
delivered-grounded t (Some owner) (Some author) None a moment h = h
delivered-grounded t (Some owner) (Some author) (Some id) a moment h = as-grounded t owner author id a moment h

posted-grounded : (host : Option (List ℕ)) (t : Town) (name : List ℕ) (repeat : Option (List ℕ × List ℕ)) (a : Activity) (moment : ℕ) → AreGrounded t.acts → AreGrounded (after_post host t name repeat a moment).acts
posted-grounded None t name repeat a moment h = h
posted-grounded (Some host) t name repeat a moment h = accepted-grounded t (local_act t host name repeat a moment) h (local-grounded t host name repeat a moment)

made-grounded : (host : Option (List ℕ)) (t : Town) (name digest : List ℕ) (locked : Bool) → AreGrounded t.acts → AreGrounded (with_addition t (member_addition host name digest locked)).acts
made-grounded None t name digest locked h = h
made-grounded (Some host) t name digest locked h = h

step-grounded : (t : Town) (e : Entry) → AreGrounded t.acts → AreGrounded (step t e).acts
step-grounded t (Hosted host moment) h = h
step-grounded t (Made name digest locked moment) h = made-grounded t.host t name digest locked h
step-grounded t (PeerSet host key address relay moment) h = h
step-grounded t (Local name repeat a moment) h = posted-grounded t.host t name repeat a moment h
step-grounded t (Remote peer inbox a moment) h = delivered-grounded t (id_of t inbox) a.actor a.id a moment h
step-grounded t (Tried activity recipient came moment) h = h

fold-grounded : (history : List Entry) (t : Town) → AreGrounded t.acts → AreGrounded (fold step t history).acts
fold-grounded [] t h = h
fold-grounded (e ∷ history) t h = fold-grounded history (step t e) (step-grounded t e h)

-- In each history, the object of each Update that is done was made.
pub town_grounded : (history : List Entry) → AreGrounded (town history).acts
town_grounded history = fold-grounded history empty_town (record { all = refl })
