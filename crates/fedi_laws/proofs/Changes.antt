-- A member's Update or Delete that may come next is done.
use Rattle.std.proofs.Common.{◌≡◌, ℕ, Bool, true, false, List, Option, Some, None, refl, sym, ap, subst, ◌∙◌}
use Rattle.std.specs.Prelude.{◌||◌, not, filter, if◌then◌else◌, is_none}
use Rattle.std.specs.List.{list_all}
use Rattle.std.proofs.lemmas.Bool.{and_parts}
use Rattle.fedi_address.specs.declared.recipients.Recipients.{Recipients}
use Rattle.fedi_objects.specs.declared.activity.Activity.{Activity}
use Rattle.fedi_objects.specs.declared.activity.ObjectRef.{ObjectRef}
use Rattle.fedi_objects.specs.declared.activity.ObjectRef.TheVariants.{Nothing, Id, Whole, Changed}
use Rattle.fedi_town.specs.declared.act.Act.{Act}
use Rattle.fedi_town.specs.declared.caller.Caller.{Caller}
use Rattle.fedi_town.specs.declared.caller.Caller.TheVariants as callers
use Rattle.fedi_town.specs.declared.deed.Deed.{Deed}
use Rattle.fedi_town.specs.declared.deed.Deed.TheVariants.{Create, Update, Delete, Follow, Like, Announce, Block, Accept, Reject, Undo, Other}
use Rattle.fedi_town.specs.declared.refusal.Refusal.{Refusal}
use Rattle.fedi_town.specs.declared.refusal.Refusal.TheVariants.{NotOwner, Gone}
use Rattle.fedi_town.specs.Activities.{complete_ref, local_act}
use Rattle.fedi_town.specs.Deeds.{deed_of, is_create, is_delete, is_done, is_update}
use Rattle.fedi_town.specs.Ids.{actor_id}
use Rattle.fedi_town.specs.Legal.{is_new_key, may_post}
use Rattle.fedi_town.specs.Lists.{PassesOnce}
use Rattle.fedi_town.specs.Objects.{is_deleted, is_whole, maker, makes}
use Rattle.fedi_town.specs.Relations.{ref_id}
use Rattle.fedi_town.specs.Rules.{broken, broken_about, broken_post, change_rule, first_broken, number_rule, refuse_if, seen_maker}
use Rattle.fedi_town.specs.Seeing.{sees}
use Rattle.fedi_town.specs.Shapes.{is_activity_within, is_posted, is_posted_ref}
use Rattle.fedi_town.specs.States.{is_own_live, state_about, state_of}
use Rattle.fedi_town.specs.Towns.{Town, id_of, is_by}
use Rattle.fedi_town.proofs.Finding.{find-seen, seen_or}
use Rattle.fedi_town.proofs.People.{id_of-is}
use Rattle.fedi_town.proofs.Members.{is_member}

-- ---- posts that break no rule

unbroken : (own dead : Bool) → is_none (refuse_if (not own) NotOwner (refuse_if dead Gone None)) ≡ true → (own ≡ true) × (dead ≡ false)
unbroken true true e = absurd cc
unbroken true false e = (refl, refl)
unbroken false dead e = absurd cc

-- what the author sees and may change is the author's own, and was not deleted
live_by : (author : List ℕ) (m : Act) (seen : Bool) → is_none (change_rule author (if seen then Some m else None)) ≡ true → is_own_live author (Some m) ≡ true
live_by author m true e = let facts = unbroken (is_by author m) (is_deleted m) e in rw (facts.0, facts.1) refl
live_by author m false e = absurd cc

live : (t : Town) (c : Caller) (author id : List ℕ) (m : Act) → PassesOnce (makes id) t.acts → maker t id ≡ Some m
    → is_none (change_rule author (seen_maker t c id)) ≡ true → is_own_live author (maker t id) ≡ true
live t c author id m once made e =
    let found : seen_maker t c id ≡ (if sees t c m then Some m else None) =
    find-seen (sees t c) (makes id) t.acts once ∙ ap (seen_or (sees t c) (λ x. Some x) None) made in
    rw made (live_by author m (sees t c m) (subst (λ (o : Option Act). is_none (change_rule author o) ≡ true) found e))

done_by : (t : Town) (c : Caller) (author : List ℕ) (d : Deed) (full : Bool) (id : List ℕ) (m : Act) → (is_update d || is_delete d) ≡ true
    → PassesOnce (makes id) t.acts → maker t id ≡ Some m → is_none (broken_about t c author d id) ≡ true → is_done (state_about t true author d full id) ≡ true
unfolding broken_about
done_by t c author Create full id m changes once made ok = absurd cc
done_by t c author Update full id m changes once made ok = rw (live t c author id m once made ok) refl
done_by t c author Delete full id m changes once made ok = rw (live t c author id m once made ok) refl
done_by t c author Follow full id m changes once made ok = absurd cc
done_by t c author Like full id m changes once made ok = absurd cc
done_by t c author Announce full id m changes once made ok = absurd cc
done_by t c author Block full id m changes once made ok = absurd cc
done_by t c author Accept full id m changes once made ok = absurd cc
done_by t c author Reject full id m changes once made ok = absurd cc
done_by t c author Undo full id m changes once made ok = absurd cc
done_by t c author Other full id m changes once made ok = absurd cc

-- ---- what it is about

makes_none : (d : Deed) → (is_update d || is_delete d) ≡ true → is_create d ≡ false
makes_none Create changes = absurd cc
makes_none Update changes = refl
makes_none Delete changes = refl
makes_none Follow changes = absurd cc
makes_none Like changes = absurd cc
makes_none Announce changes = absurd cc
makes_none Block changes = absurd cc
makes_none Accept changes = absurd cc
makes_none Reject changes = absurd cc
makes_none Undo changes = absurd cc
makes_none Other changes = absurd cc

-- the completed activity is about what the post is about
about_same : (host name : List ℕ) (number moment : ℕ) (d : Deed) (names : Recipients) (r : ObjectRef) → (is_update d || is_delete d) ≡ true
    → is_posted_ref d names r ≡ true → ref_id (complete_ref host name number moment r) ≡ ref_id r
about_same host name number moment d names Nothing changes shape = refl
about_same host name number moment d names (Id iri) changes shape = refl
about_same host name number moment d names (Whole o) changes shape = absurd (
    let none : is_create d ≡ false = makes_none d changes in
    let some : is_create d ≡ true = (and_parts (is_create d) _ shape).0 in
    cc)
about_same host name number moment d names (Changed change) changes shape = refl

-- ---- a post

first_unbroken : (first second : Option Refusal) → is_none (first_broken first second) ≡ true → is_none first ≡ true
first_unbroken None second e = refl
first_unbroken (Some r) second e = absurd cc

-- whoever posts is the member with this name
pub posts_as : (t : Town) (host name : List ℕ) (repeat : Option (List ℕ × List ℕ)) (a : Activity) (id : Option (List ℕ)) → list_all (is_member (Some host)) t.actors ≡ true
    → id_of t name ≡ id → may_post t name repeat a id ≡ true → may_post t name repeat a (Some (actor_id host name)) ≡ true
posts_as t host name repeat a None all known ok = absurd cc
posts_as t host name repeat a (Some me) all known ok =
    subst (λ (i : List ℕ). may_post t name repeat a (Some i) ≡ true) (id_of-is t host name me all known) ok

-- An Update or a Delete that may be posted is done.
pub change_is_done : (t : Town) (host name id : List ℕ) (repeat : Option (List ℕ × List ℕ)) (a : Activity) (moment : ℕ) (m : Act)
    → (is_update (deed_of a.kind) || is_delete (deed_of a.kind)) ≡ true → PassesOnce (makes id) t.acts
    → ref_id (local_act t host name repeat a moment).activity.object ≡ Some id → maker t id ≡ Some m
    → may_post t name repeat a (Some (actor_id host name)) ≡ true → is_done (local_act t host name repeat a moment).state ≡ true
unfolding state_of
change_is_done t host name id repeat a moment m changes once about made ok =
    let author : List ℕ = actor_id host name in
    let d : Deed = deed_of a.kind in
    let full : Bool = is_whole (local_act t host name repeat a moment).activity.object in
    let parts = and_parts (is_posted author a) _ ok in
    let shape = and_parts (is_posted_ref d a.recipients a.object) _ (and_parts (is_activity_within 500 a) _ (and_parts _ _ parts.0).1).1 in
    let rules : is_none (broken_post t (callers.Actor name) author a) ≡ true = (and_parts (is_new_key (filter (is_by author) t.acts) repeat) _ parts.1).1 in
    let first : is_none (broken t (callers.Actor name) author d (ref_id a.object)) ≡ true = first_unbroken _ (number_rule t author) rules in
    let named : ref_id a.object ≡ Some id = sym (about_same host name _ moment d a.recipients a.object changes shape.0) ∙ about in
    rw about (done_by t (callers.Actor name) author d full id m changes once made (rw named at first))
