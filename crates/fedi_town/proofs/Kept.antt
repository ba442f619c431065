-- However an activity changes, its type, whether it is done, and what it is about stay the same.
use Rattle.std.proofs.Common.{◌≡◌, ℕ, Bool, true, false, List, [], ◌∷◌, ◌++◌, Option, Some, None, refl, sym, ◌∙◌}
use Rattle.std.specs.Prelude.{◌&&◌, if◌then◌else◌}
use Rattle.fedi_objects.specs.declared.activity.ObjectRef.{ObjectRef}
use Rattle.fedi_objects.specs.declared.activity.ObjectRef.TheVariants.{Nothing, Id, Whole, Changed}
use Rattle.fedi_objects.specs.declared.kind.State.{State}
use Rattle.fedi_objects.specs.declared.kind.State.TheVariants.{Plain, Done, Pending, Accepted, Rejected, Standing, Undone}
use Rattle.fedi_objects.specs.declared.object.Object.{Object}
use Rattle.fedi_objects.specs.Forms.{is_tombstone}
use Rattle.fedi_town.specs.Activities.{complete_tombstone, receive_object, receive_ref}
use Rattle.fedi_town.specs.Addressing.{act_of}
use Rattle.fedi_town.specs.Deeds.{is_create, is_follow, is_done, is_open, is_pending, is_standing}
use Rattle.fedi_town.specs.Effects.{where_passes, in_state, end_follow, is_pending_follow, is_standing_activity, affect, pair_ends, follow_ends, undo_effect, effect_about, effect_with, effect_of, takes_effect}
use Rattle.fedi_town.specs.Histories.{with_recipient}
use Rattle.fedi_town.specs.Objects.{emptied, makes, rewrite_act, rewrite_ref, update_object, change_object, replace_object, tombstone_of}
use Rattle.fedi_town.specs.Relations.{ref_id, has_activity_id, is_about, is_open_follow}
use Rattle.fedi_town.specs.Towns.{Town, deed}
use Rattle.fedi_town.specs.declared.act.Act.{Act}
use Rattle.fedi_town.specs.declared.deed.Deed.{Deed}
use Rattle.fedi_town.specs.declared.deed.Deed.TheVariants.{Create, Update, Delete, Follow, Like, Announce, Block, Accept, Reject, Undo, Other}
use Rattle.fedi_town.specs.declared.effect.Effect.{Effect}
use Rattle.fedi_town.specs.declared.effect.Effect.TheVariants as effects
use Rattle.std.proofs.lemmas.Bool.{and_parts}

pub record IsKept (y z : Act) : Type 0 where
  pub kind : z.activity.kind ≡ y.activity.kind
  pub done : is_done z.state ≡ is_done y.state
  pub about : ref_id z.activity.object ≡ ref_id y.activity.object

still : (y : Act) → IsKept y y
still y = record { kind = refl; done = refl; about = refl }

then_kept : (x y z : Act) → IsKept x y → IsKept y z → IsKept x z
then_kept x y z a b = record { kind = b.kind ∙ a.kind; done = b.done ∙ a.done; about = b.about ∙ a.about }

passing : (p : Act → Bool) (f : Act → Act) (y : Act) → (p y ≡ true → IsKept y (f y)) → IsKept y (where_passes p f y)
passing p f y h =
    elim (p y) as (λ b. p y ≡ b → IsKept y (if b then f y else y)) [
      | true ↦ λ e. h e
      | false ↦ λ e. still y
    ] refl

open_not_done : (s : State) → is_open s ≡ true → is_done s ≡ false
open_not_done Plain e = refl
open_not_done Done e = absurd cc
open_not_done Pending e = refl
open_not_done Accepted e = refl
open_not_done Rejected e = refl
open_not_done Standing e = refl
open_not_done Undone e = refl

pending_not_done : (s : State) → is_pending s ≡ true → is_done s ≡ false
pending_not_done Plain e = refl
pending_not_done Done e = absurd cc
pending_not_done Pending e = refl
pending_not_done Accepted e = refl
pending_not_done Rejected e = refl
pending_not_done Standing e = refl
pending_not_done Undone e = refl

standing_not_done : (s : State) → is_standing s ≡ true → is_done s ≡ false
standing_not_done Plain e = refl
standing_not_done Done e = absurd cc
standing_not_done Pending e = refl
standing_not_done Accepted e = refl
standing_not_done Rejected e = refl
standing_not_done Standing e = refl
standing_not_done Undone e = refl

inner : (a b c : Bool) → ((a && b) && c) ≡ true → b ≡ true
inner true true c e = refl
inner true false c e = absurd cc
inner false b c e = absurd cc

last : (a b c : Bool) → (a && (b && c)) ≡ true → c ≡ true
last true true c e = e
last true false c e = absurd cc
last false b c e = absurd cc

-- an activity that was not done gets a state that is not done
restated : (s : State) → is_done s ≡ false → (y : Act) → is_done y.state ≡ false → IsKept y (in_state s y)
restated s not_set y not_done = record { kind = refl; done = not_set ∙ sym not_done; about = refl }

ended-kept : (a b : List ℕ) (s : State) → is_done s ≡ false → (y : Act) → IsKept y (end_follow a b s y)
unfolding end_follow is_open_follow
ended-kept a b s not_set y = passing (is_open_follow a b) (in_state s) y (λ e. restated s not_set y (open_not_done y.state (inner (is_follow (deed y)) (is_open y.state) _ e)))

-- a change of an object that keeps its id
record KeepsId (f : Object → Object) : Type 0 where
  same : (o : Object) → (f o).id ≡ o.id

named-kept : (f : Object → Object) → KeepsId f → (r : ObjectRef) → ref_id (rewrite_ref f r) ≡ ref_id r
named-kept f k Nothing = refl
named-kept f k (Id iri) = refl
named-kept f k (Whole o) = k.same o
named-kept f k (Changed c) = refl

rewritten-kept : (f : Object → Object) → KeepsId f → (y : Act) → IsKept y (rewrite_act f y)
unfolding rewrite_act
rewritten-kept f k y = record { kind = refl; done = refl; about = named-kept f k y.activity.object }

updated-keeps : (r : ObjectRef) (stamp : List ℕ) → KeepsId (update_object r stamp)
unfolding change_object replace_object
updated-keeps Nothing stamp = record { same = λ o. refl }
updated-keeps (Id iri) stamp = record { same = λ o. refl }
updated-keeps (Whole new) stamp = record { same = λ o. refl }
updated-keeps (Changed c) stamp = record { same = λ o. refl }

tombstone-keeps : (kind stamp : List ℕ) → KeepsId (tombstone_of kind stamp)
unfolding tombstone_of
tombstone-keeps kind stamp = record { same = λ o. refl }

-- the state in which Follows end is not the state of something done
abbrev pub IsFair : Effect → Type 0
IsFair effects.Nothing = Unit {0}
IsFair (effects.Update id by stamp) = Unit {0}
IsFair (effects.Delete id kind stamp) = Unit {0}
IsFair (effects.Accept id) = Unit {0}
IsFair (effects.EndFollows a b s) = is_done s ≡ false
IsFair (effects.EndBoth a b) = Unit {0}
IsFair (effects.Undo id) = Unit {0}

affected-kept : (e : Effect) (y : Act) → IsFair e → IsKept y (affect e y)
unfolding is_pending_follow is_standing_activity
affected-kept effects.Nothing y fair = still y
affected-kept (effects.Update id by stamp) y fair = passing (makes id) (rewrite_act (update_object by stamp)) y (λ e. rewritten-kept _ (updated-keeps by stamp) y)
affected-kept (effects.Delete id kind stamp) y fair = passing (makes id) (rewrite_act (tombstone_of kind stamp)) y (λ e. rewritten-kept _ (tombstone-keeps kind stamp) y)
affected-kept (effects.Accept id) y fair =
    passing (is_pending_follow id) (in_state Accepted) y (λ e. restated Accepted refl y (pending_not_done y.state (last (has_activity_id id y) (is_follow (deed y)) (is_pending y.state) e)))
affected-kept (effects.EndFollows a b s) y fair = ended-kept a b s fair y
affected-kept (effects.EndBoth a b) y fair = then_kept y _ _ (ended-kept b a Undone refl y) (ended-kept a b Undone refl (end_follow b a Undone y))
affected-kept (effects.Undo id) y fair =
    passing (is_standing_activity id) (in_state Undone) y (λ e. restated Undone refl y (standing_not_done y.state (and_parts (has_activity_id id y) (is_standing y.state) e).1))

pair-fair : (s : State) → is_done s ≡ false → (f : Act) (b : Option (List ℕ)) → IsFair (pair_ends s f b)
pair-fair s fair f None = tt
pair-fair s fair f (Some b) = fair

follow-fair : (s : State) → is_done s ≡ false → (f : Option Act) → IsFair (follow_ends s f)
follow-fair s fair None = tt
follow-fair s fair (Some f) = pair-fair s fair f (ref_id f.activity.object)

choice-fair : (b : Bool) (d e : Effect) → IsFair d → IsFair e → IsFair (if b then d else e)
choice-fair true d e h k = h
choice-fair false d e h k = k

undoing-fair : (id : List ℕ) (z : Option Act) → IsFair (undo_effect id z)
undoing-fair id None = tt
undoing-fair id (Some z) = choice-fair (is_follow (deed z)) _ _ (follow-fair Undone refl (Some z)) tt

about-fair : (t : Town) (x : Act) (d : Deed) (id : List ℕ) → IsFair (effect_about t x d id)
about-fair t x Create id = tt
about-fair t x Update id = tt
about-fair t x Delete id = tt
about-fair t x Follow id = tt
about-fair t x Like id = tt
about-fair t x Announce id = tt
about-fair t x Block id = tt
about-fair t x Accept id = tt
about-fair t x Reject id = follow-fair Rejected refl (act_of t (Some id))
about-fair t x Undo id = undoing-fair id (act_of t (Some id))
about-fair t x Other id = tt

with-fair : (t : Town) (x : Act) (id : Option (List ℕ)) → IsFair (effect_with t x id)
with-fair t x None = tt
with-fair t x (Some id) = about-fair t x (deed x) id

fair : (t : Town) (x : Act) → IsFair (effect_of t x)
unfolding effect_of
fair t x = choice-fair (takes_effect (deed x) x.state) _ effects.Nothing (with-fair t x (ref_id x.activity.object)) tt

pub changed-kept : (t : Town) (x y : Act) → IsKept y (affect (effect_of t x) y)
changed-kept t x y = affected-kept (effect_of t x) y (fair t x)

pub made-kept : (y z : Act) → IsKept y z → (id : List ℕ) → makes id z ≡ makes id y
unfolding makes is_about
made-kept y z k id = rw (k.kind, k.done, k.about) refl

-- ---- what another server delivers

choice-id : (b : Bool) (x y : Object) → x.id ≡ y.id → (if b then x else y).id ≡ y.id
choice-id true x y e = e
choice-id false x y e = refl

received-id : (d : Deed) (moment : ℕ) (o : Object) → (receive_object d moment o).id ≡ o.id
unfolding receive_object
received-id d moment o =
    choice-id (is_tombstone o) (complete_tombstone moment (if is_create d then emptied o else o)) o
    (choice-id (is_create d) (emptied o) o refl)

pub ref_received : (d : Deed) (author : List ℕ) (moment : ℕ) (r : ObjectRef) → ref_id (receive_ref d author moment r) ≡ ref_id r
ref_received d author moment Nothing = refl
ref_received d author moment (Id iri) = refl
ref_received d author moment (Whole o) = received-id d moment o
ref_received d author moment (Changed c) = refl

-- ---- one more recipient

-- a choice that makes no difference to the rest of an activity
choice-same : {A : Type 0} (g : Act → A) (b : Bool) (y z : Act) → g z ≡ g y → g (if b then z else y) ≡ g y
choice-same g true y z e = e
choice-same g false y z e = refl

pub also-same : {A : Type 0} (g : Act → A) (id owner : List ℕ) (y : Act) → g (record y { recipients = y.recipients ++ owner ∷ [] }) ≡ g y → g (with_recipient id owner y) ≡ g y
also-same g id owner y e = choice-same g (has_activity_id id y) y (record y { recipients = y.recipients ++ owner ∷ [] }) e

pub made-inbox : (i id owner : List ℕ) (y : Act) → makes i (with_recipient id owner y) ≡ makes i y
unfolding makes is_about
made-inbox i id owner y = also-same (makes i) id owner y refl
