-- An activity that changes nothing earlier is appended, with the Accept that follows it.
use Rattle.std.proofs.Common.{◌≡◌, ℕ, Bool, true, false, List, [], ◌∷◌, ◌++◌, Option, Some, None, refl, sym, ap, subst}
use Rattle.std.specs.Prelude.{◌&&◌, if◌then◌else◌, option_to_list}
use Rattle.std.specs.List.{list_any}
use Rattle.fedi_town.proofs.Grounded.{AreGrounded}
use Rattle.fedi_town.proofs.Lists.{map-still}
use Rattle.fedi_town.proofs.Quiet.{AreQuiet, with_acts}
use Rattle.fedi_town.proofs.Steps.{accept, accepts_for, answers}
use Rattle.fedi_town.proofs.Unseen.{unseen_agree}
use Rattle.fedi_town.specs.Agreement.{Agree}
use Rattle.fedi_town.specs.Deeds.{changes_nothing, is_block, is_follow, is_accepted}
use Rattle.fedi_town.specs.Effects.{accept_for, affect, effect_about, effect_with, effect_of, takes_effect, accept_by, followee}
use Rattle.fedi_town.specs.Relations.{ref_id, is_block_of}
use Rattle.fedi_town.specs.Seeing.{sees}
use Rattle.fedi_town.specs.Towns.{Town, deed}
use Rattle.fedi_town.specs.declared.act.Act.{Act}
use Rattle.fedi_town.specs.declared.act.Actor.{Actor as Member}
use Rattle.fedi_town.specs.declared.caller.Caller.{Caller}
use Rattle.fedi_town.specs.declared.deed.Deed.{Deed}
use Rattle.fedi_town.specs.declared.deed.Deed.TheVariants.{Create, Update, Delete, Follow, Like, Announce, Block, Accept, Reject, Undo, Other}
use Rattle.fedi_town.specs.declared.effect.Effect.{Effect}
use Rattle.fedi_town.specs.declared.effect.Effect.TheVariants as effects

about-still : (t : Town) (x : Act) (d : Deed) (id : List ℕ) → changes_nothing d ≡ true → effect_about t x d id ≡ effects.Nothing
about-still t x Create id told = refl
about-still t x Update id told = absurd cc
about-still t x Delete id told = absurd cc
about-still t x Follow id told = refl
about-still t x Like id told = refl
about-still t x Announce id told = refl
about-still t x Block id told = absurd cc
about-still t x Accept id told = absurd cc
about-still t x Reject id told = absurd cc
about-still t x Undo id told = absurd cc
about-still t x Other id told = refl

with-still : (t : Town) (x : Act) (id : Option (List ℕ)) → changes_nothing (deed x) ≡ true → effect_with t x id ≡ effects.Nothing
with-still t x None told = refl
with-still t x (Some id) told = about-still t x (deed x) id told

pub choice_still : (b : Bool) (e : Effect) → e ≡ effects.Nothing → (if b then e else effects.Nothing) ≡ effects.Nothing
choice_still true e h = h
choice_still false e h = refl

told-still : (t : Town) (x : Act) → changes_nothing (deed x) ≡ true → effect_of t x ≡ effects.Nothing
unfolding effect_of
told-still t x told = choice_still (takes_effect (deed x) x.state) _ (with-still t x (ref_id x.activity.object) told)

-- the activities that are appended with it
abbrev pub with_answers : Town → Act → List Act
with_answers t x = x ∷ answers t x

pub accepted-told : (t : Town) (x : Act) → changes_nothing (deed x) ≡ true → accept t x ≡ with_acts t (with_answers t x)
accepted-told t x told =
    ap (λ (ys : List Act). record t { acts = ys ++ with_answers t x }) (rw (told-still t x told) (map-still (affect effects.Nothing) (λ y. refl) t.acts))

-- ---- it blocks nobody

told_not_blocks : (d : Deed) → changes_nothing d ≡ true → is_block d ≡ false
told_not_blocks Create told = refl
told_not_blocks Update told = refl
told_not_blocks Delete told = refl
told_not_blocks Follow told = refl
told_not_blocks Like told = refl
told_not_blocks Announce told = refl
told_not_blocks Block told = absurd cc
told_not_blocks Accept told = refl
told_not_blocks Reject told = refl
told_not_blocks Undo told = refl
told_not_blocks Other told = refl

is_no_block : (x : Act) → is_block (deed x) ≡ false → (a b : List ℕ) → is_block_of a b x ≡ false
unfolding is_block_of
is_no_block x none a b = rw none refl

accept_no_block : (t : Town) (host : List ℕ) (x : Act) (member : Member) (a b : List ℕ) → is_block_of a b (accept_by t host x member) ≡ false
unfolding is_block_of accept_by
accept_no_block t host x member a b = refl

by_no_block : (host : Option (List ℕ)) (t : Town) (x : Act) (member : Option Member) (a b : List ℕ) → list_any (is_block_of a b) (accepts_for host t x member) ≡ false
by_no_block None t x member a b = refl
by_no_block (Some host) t x None a b = refl
by_no_block (Some host) t x (Some member) a b = rw (accept_no_block t host x member a b) refl

choice-none : {A : Type 0} (p : A → Bool) (b : Bool) (z : Option A) → list_any p (option_to_list z) ≡ false → list_any p (option_to_list (if b then z else None)) ≡ false
choice-none p true z none = none
choice-none p false z none = refl

pub told_quiet : (t : Town) (x : Act) → changes_nothing (deed x) ≡ true → AreQuiet (with_answers t x)
told_quiet t x told =
    record {
      quiet = λ a b. rw (
        is_no_block x (told_not_blocks (deed x) told) a b,
        choice-none (is_block_of a b) (is_follow (deed x) && is_accepted x.state) (accept_for t.host t x (followee t (ref_id x.activity.object))) (by_no_block t.host t x (followee t (ref_id x.activity.object)) a b),
      ) refl;
    }

-- An activity that the caller does not see, with an answer that the caller does not see, changes
-- nothing for the caller.
pub told_agrees : (t : Town) (x : Act) (c : Caller) → AreGrounded t.acts → changes_nothing (deed x) ≡ true → list_any (sees t c) (with_answers t x) ≡ false → Agree (accept t x) t c
told_agrees t x c g told unseen =
    subst (λ (u : Town). Agree u t c) (sym (accepted-told t x told)) (unseen_agree t (with_answers t x) c g (told_quiet t x told) unseen)

-- ---- an activity that is not a Follow

not_answered : (t : Town) (x : Act) → is_follow (deed x) ≡ false → answers t x ≡ []
not_answered t x none = rw none refl

pub plain_agrees : (t : Town) (x : Act) (c : Caller) → AreGrounded t.acts → changes_nothing (deed x) ≡ true → is_follow (deed x) ≡ false → sees t c x ≡ false → Agree (accept t x) t c
plain_agrees t x c g told none unseen = told_agrees t x c g told (rw (unseen, not_answered t x none) refl)
