-- All items that pass a test are edited by repeatedly looking for the first that passes.
use Rattle.std.proofs.Common.{◌≡◌, ℕ, zero, suc, ◌+◌, ◌<◌, arith, Bool, true, false, List, [], ◌∷◌, Option, Some, None, refl, sym, ap, subst, ◌∙◌, ltb, length, set}
use Rattle.std.specs.Prelude.{◌&&◌, not, nat_lt, map, filter, slice_get, if◌then◌else◌}
use Rattle.std.specs.List.{find, position_or_len}
use Rattle.std.proofs.lemmas.Bool.{and_parts, lt-ltb}
use Rattle.fedi_objects.specs.declared.kind.State.{State}
use Rattle.fedi_objects.specs.declared.kind.State.TheVariants.{Plain, Done, Pending, Accepted, Rejected, Standing, Undone}
use Rattle.fedi_town.specs.declared.act.Act.{Act}
use Rattle.fedi_town.specs.Deeds.{is_follow, is_pending, is_standing}
use Rattle.fedi_town.specs.Effects.{end_follow, in_state, is_pending_follow, is_standing_activity, where_passes}
use Rattle.fedi_town.specs.Relations.{has_activity_id, is_open_follow}
use Rattle.fedi_town.specs.Towns.{deed}
use Rattle.fedi_town.proofs.Texts.{and_none}
use Rattle.fedi_register.specs.Changes.{end_both, is_state, is_unended, place_where}
use Rattle.fedi_register.specs.Marks.{Mark, marks_from}
use Rattle.fedi_register.specs.declared.seeds.Seed.{Seed}
use Rattle.fedi_register.specs.Registers.{has_own_id, own_mark, relates, relates_by_key, relation_mark}
use Rattle.fedi_register.proofs.Once.{lt_step}
use Rattle.fedi_register.proofs.Places.{open_narrower}

-- an edited item no longer passes
abbrev pub Ends : (Act → Bool) → (Act → Act) → Type 0
Ends p f = (y : Act) → p (f y) ≡ false

-- one more edit does not change the result of all edits
pub edited : (p : Act → Bool) (f : Act → Act) → Ends p f → (xs : List Act) (place : ℕ) (y : Act) → slice_get xs place ≡ Some y → p y ≡ true
    → map (where_passes p f) (set xs place (f y)) ≡ map (where_passes p f) xs
edited p f ends [] place y got passes = absurd cc
edited p f ends (x ∷ xs) zero y got passes = let same : x ≡ y = cc in rw (same, ends y, passes) refl
edited p f ends (x ∷ xs) (suc place) y got passes = ap (λ (ys : List Act). where_passes p f x ∷ ys) (edited p f ends xs place y got passes)

-- if no item passes, nothing is edited
pub all_edited : (p : Act → Bool) (f : Act → Act) (xs : List Act) → find p xs ≡ None → map (where_passes p f) xs ≡ xs
all_edited p f [] none = refl
all_edited p f (x ∷ xs) none =
    elim (p x) as (λ b. (if b then Some x else find p xs) ≡ None → (if b then f x else x) ∷ map (where_passes p f) xs ≡ x ∷ xs) [
      | true ↦ λ e. absurd cc
      | false ↦ λ e. ap (λ (ys : List Act). x ∷ ys) (all_edited p f xs e)
    ] none

-- fewer items pass after an edit
pub fewer_pass : (p : Act → Bool) (f : Act → Act) → Ends p f → (xs : List Act) (place : ℕ) (y : Act) → slice_get xs place ≡ Some y → p y ≡ true
    → length (filter p (set xs place (f y))) < length (filter p xs)
fewer_pass p f ends [] place y got passes = absurd cc
fewer_pass p f ends (x ∷ xs) zero y got passes = let same : x ≡ y = cc in rw (same, ends y, passes) (omega arith)
fewer_pass p f ends (x ∷ xs) (suc place) y got passes =
    let rest = fewer_pass p f ends xs place y got passes in
    elim (p x) as (λ b. length (if b then x ∷ filter p (set xs place (f y)) else filter p (set xs place (f y))) < length (if b then x ∷ filter p xs else filter p xs)) [
      | true ↦ omega (arith, rest)
      | false ↦ rest
    ]

-- the item at the position that was found
pub there : {A : Type 0} (p : A → Bool) (xs : List A) (place : ℕ) → Some place ≡ place_where p xs → (y : A) × (slice_get xs place ≡ Some y) × (p y ≡ true)
there {A} p xs place is =
    elim (ltb (position_or_len p xs) (length xs)) as (λ b. ltb (position_or_len p xs) (length xs) ≡ b → Some place ≡ (if b then Some (position_or_len p xs) else None)
    → (y : A) × (slice_get xs place ≡ Some y) × (p y ≡ true)) [
      | true ↦ λ e f. let same : position_or_len p xs ≡ place = cc in subst (λ (k : ℕ). (y : A) × (slice_get xs k ≡ Some y) × (p y ≡ true)) same (first p xs e)
      | false ↦ λ e f. absurd cc
    ] refl is
  where
    later : {A : Type 0} (p : A → Bool) (x : A) (xs : List A) (y : A) → p x ≡ false → slice_get xs (position_or_len p xs) ≡ Some y → slice_get (x ∷ xs) (position_or_len p (x ∷ xs)) ≡ Some y
    later p x xs y is got = let k : 1 + position_or_len p xs ≡ suc (position_or_len p xs) = omega arith in rw (is, k) got

    first : {A : Type 0} (p : A → Bool) (xs : List A) → ltb (position_or_len p xs) (length xs) ≡ true → (y : A) × (slice_get xs (position_or_len p xs) ≡ Some y) × (p y ≡ true)
    first p [] e = absurd cc
    first {A} p (x ∷ xs) e =
        elim (p x) as (λ b. p x ≡ b → (y : A) × (slice_get (x ∷ xs) (position_or_len p (x ∷ xs)) ≡ Some y) × (p y ≡ true)) [
          | true ↦ λ is. (x, rw is refl, is)
          | false ↦ λ is.
              let more : ltb (position_or_len p xs) (length xs) ≡ true = sym (lt_step (position_or_len p xs) (length xs)) ∙ (rw is at e) in
              let rest = first p xs more in (rest.0, later p x xs rest.0 is rest.1, rest.2)
        ] refl

abbrev IsNothing : Option ℕ → Type 0
IsNothing o = None ≡ o

pub none_there : {A : Type 0} (p : A → Bool) (xs : List A) → None ≡ place_where p xs → find p xs ≡ None
none_there p [] is = refl
none_there {A} p (x ∷ xs) is =
    elim (p x) as (λ b. p x ≡ b → (if b then Some x else find p xs) ≡ None) [
      | true ↦ λ e. absurd (none_at (length xs) (rw e at is))
      | false ↦ λ e.
          none_there p xs (later (ltb (position_or_len p xs) (length xs)) (position_or_len p xs) (rw (e, lt_step (position_or_len p xs) (length xs)) at is))
    ] refl
  where
    none_at : (n : ℕ) → IsNothing (if nat_lt 0 (suc n) then Some 0 else None) → ⊥
    none_at n e = let first : ℕ = 0 in let no : IsNothing (Some first) = rw (lt-ltb 0 (suc n) (omega arith)) at e in cc

    later : (b : Bool) (n : ℕ) → None ≡ (if b then Some (1 + n) else None) → None ≡ (if b then Some n else None)
    later true n e = absurd cc
    later false n e = refl

-- the marks stay the same if the looked-up properties do
marks-set : (p : Act → Bool) (mark : Act → ℕ) (xs : List Act) (n place : ℕ) (y z : Act) → slice_get xs place ≡ Some y → p z ≡ p y → mark z ≡ mark y
    → marks_from p mark n (set xs place z) ≡ marks_from p mark n xs
marks-set p mark [] n place y z got passes same = absurd cc
marks-set p mark (x ∷ xs) n zero y z got passes same = let is : x ≡ y = cc in rw (is, passes, same) refl
marks-set p mark (x ∷ xs) n (suc place) y z got passes same = rw (marks-set p mark xs (suc n) place y z got passes same) refl

-- ---- a loop that gives a state to what passes

-- the state of such a loop: all edits turn the current activities into what they turn the initial
-- ones into, and the marks are those of the current activities
pub record IsEditing (p : Act → Bool) (f : Act → Act) (q : Act → Bool) (mark : Act → ℕ) (marks : List Mark) (first now : List Act) : Type 0 where
  pub edits : map (where_passes p f) now ≡ map (where_passes p f) first
  pub kept : marks ≡ marks_from q mark 0 now

pub editing : (p : Act → Bool) (f : Act → Act) (q : Act → Bool) (mark : Act → ℕ) (marks : List Mark) (acts : List Act) → marks ≡ marks_from q mark 0 acts → IsEditing p f q mark marks acts acts
editing p f q mark marks acts are = record { edits = refl; kept = are }

-- the looked-up properties are the same in any state
abbrev pub IsSteady : (Act → Act) → (Act → Bool) → (Act → ℕ) → Type 0
IsSteady f q mark = (y : Act) → (q (f y) ≡ q y) × (mark (f y) ≡ mark y)

pub editing_on : (p : Act → Bool) (f : Act → Act) (q : Act → Bool) (mark : Act → ℕ) (marks : List Mark) (first now new : List Act) (place : ℕ)
    → Ends p f → IsSteady f q mark → IsEditing p f q mark marks first now → Some place ≡ place_where p now
    → ((y : Act) → slice_get now place ≡ Some y → new ≡ set now place (f y)) → IsEditing p f q mark marks first new
editing_on p f q mark marks first now new place ends steady h is after =
    let at = there p now place is in
    let steadily = steady at.0 in
    rw (after at.0 at.1) (record {
      edits = edited p f ends now place at.0 at.1 at.2 ∙ h.edits;
      kept = h.kept ∙ sym (marks-set q mark now 0 place at.0 (f at.0) at.1 steadily.0 steadily.1);
    })

pub fewer_left : (p : Act → Bool) (f : Act → Act) (now new : List Act) (place : ℕ) → Ends p f → Some place ≡ place_where p now
    → ((y : Act) → slice_get now place ≡ Some y → new ≡ set now place (f y)) → length (filter p new) < length (filter p now)
fewer_left p f now new place ends is after = let at = there p now place is in rw (after at.0 at.1) (fewer_pass p f ends now place at.0 at.1 at.2)

pub editing_over : (p : Act → Bool) (f : Act → Act) (q : Act → Bool) (mark : Act → ℕ) (marks : List Mark) (first now : List Act)
    → IsEditing p f q mark marks first now → None ≡ place_where p now → now ≡ map (where_passes p f) first
editing_over p f q mark marks first now h none = sym (all_edited p f now (none_there p now none)) ∙ h.edits

pub relations_steady : (seed : Seed) (s : State) → IsSteady (in_state s) relates (relation_mark seed)
unfolding relates relation_mark
relations_steady seed s y = (refl, refl)

pub ids_steady : (seed : Seed) (s : State) → IsSteady (in_state s) has_own_id (own_mark seed)
unfolding has_own_id own_mark
ids_steady seed s y = (refl, refl)

-- ---- states

pub accept_ends : (id : List ℕ) → Ends (is_pending_follow id) (in_state Accepted)
unfolding is_pending_follow has_activity_id
accept_ends id y = rw (and_none (is_follow (deed y))) (and_none (has_activity_id id y))

pub undo_ends : (id : List ℕ) → Ends (is_standing_activity id) (in_state Undone)
unfolding is_standing_activity has_activity_id
undo_ends id y = and_none (has_activity_id id y)

same_state : (s : State) → is_state s s ≡ true
same_state Plain = refl
same_state Done = refl
same_state Pending = refl
same_state Accepted = refl
same_state Rejected = refl
same_state Standing = refl
same_state Undone = refl

state_is : (s t : State) → is_state s t ≡ true → s ≡ t
state_is Plain Plain is = refl
state_is Done Done is = refl
state_is Pending Pending is = refl
state_is Accepted Accepted is = refl
state_is Rejected Rejected is = refl
state_is Standing Standing is = refl
state_is Undone Undone is = refl
state_is s t is = absurd cc

pub follows_end : (a b : List ℕ) (s : State) → Ends (is_unended a b s) (in_state s)
unfolding is_unended
follows_end a b s y = rw (same_state s) (and_none (is_open_follow a b (in_state s y)))

-- a Follow that is already in this state does not change
ended_same : (a b : List ℕ) (s : State) (y : Act) → where_passes (is_unended a b s) (in_state s) y ≡ end_follow a b s y
unfolding is_unended end_follow
ended_same a b s y =
    elim (is_open_follow a b y) as (λ b. (if b && not (is_state y.state s) then in_state s y else y) ≡ (if b then in_state s y else y)) [
      | true ↦ elim (is_state y.state s) as (λ c. is_state y.state s ≡ c → (if not c then in_state s y else y) ≡ in_state s y) [
        | true ↦ λ is. ap (λ (t : State). in_state t y) (state_is y.state s is)
        | false ↦ λ isnt. refl
      ] refl
      | false ↦ refl
    ]

pub all_ended : (a b : List ℕ) (s : State) (acts : List Act) → map (where_passes (is_unended a b s) (in_state s)) acts ≡ map (end_follow a b s) acts
all_ended a b s [] = refl
all_ended a b s (y ∷ acts) = rw (ended_same a b s y, all_ended a b s acts) refl

pub both_ended : (a b : List ℕ) (acts : List Act) → map (end_follow a b Undone) (map (end_follow b a Undone) acts) ≡ map (end_both a b) acts
unfolding end_both
both_ended a b [] = refl
both_ended a b (y ∷ acts) = rw (both_ended a b acts) refl

-- ---- what is looked up

pub pending_named : (id : List ℕ) (y : Act) → is_pending_follow id y ≡ true → has_activity_id id y ≡ true
unfolding is_pending_follow
pending_named id y is = (and_parts (has_activity_id id y) (is_follow (deed y) && is_pending y.state) is).0

pub standing_named : (id : List ℕ) (y : Act) → is_standing_activity id y ≡ true → has_activity_id id y ≡ true
unfolding is_standing_activity
standing_named id y is = (and_parts (has_activity_id id y) (is_standing y.state) is).0

pub unended_relates : (a b : List ℕ) (s : State) (y : Act) → is_unended a b s y ≡ true → relates_by_key a b y ≡ true
unfolding is_unended
unended_relates a b s y is = open_narrower a b y (and_parts (is_open_follow a b y) (not (is_state y.state s)) is).0
