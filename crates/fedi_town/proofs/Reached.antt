-- A member's Follow reaches the followed member, who sees it.
use Rattle.std.proofs.Common.{◌≡◌, ℕ, Bool, true, false, List, [], ◌∷◌, ◌++◌, Option, Some, ◌⊎◌, inl, inr, refl, sym, subst, ◌∙◌}
use Rattle.std.specs.Prelude.{◌&&◌, ◌||◌, not, filter, cond, if◌then◌else◌}
use Rattle.std.specs.List.{list_any, flat_map}
use Rattle.std.specs.Str.{bytes_eq}
use Rattle.std.proofs.lemmas.List.Folds.{list_any-append}
use Rattle.fedi_address.specs.declared.recipients.Recipients.{Recipients}
use Rattle.fedi_address.specs.Iris.{public_iri}
use Rattle.fedi_address.specs.Recipients.{all_of, is_among, names, is_public}
use Rattle.fedi_address.proofs.Unions.{among_alone}
use Rattle.fedi_objects.specs.declared.activity.Activity.{Activity}
use Rattle.fedi_objects.specs.declared.kind.State.TheVariants.{Accepted, Pending, Rejected}
use Rattle.fedi_town.specs.Activities.{local_act}
use Rattle.fedi_town.proofs.Once.{once-among}
use Rattle.fedi_town.proofs.Texts.{bytes_eq-same, bytes_eq-is, or_true, or_no}
use Rattle.fedi_town.specs.Addressing.{is_recipient, addressees, recipients_with, is_nobody_here, is_of_town, complete_recipients, implied_recipient, with_implied}
use Rattle.fedi_town.specs.Deeds.{deed_of, is_accepted}
use Rattle.fedi_town.specs.Ids.{actor_id, followers_id}
use Rattle.fedi_town.specs.Objects.{is_whole}
use Rattle.fedi_town.specs.Relations.{ref_id, is_actor, has_block_between, blocks}
use Rattle.fedi_town.specs.States.{state_of, state_about, follow_state, has_room, is_locked, only_where}
use Rattle.fedi_town.specs.Towns.{Town}
use Rattle.fedi_town.specs.declared.act.Act.{Act}
use Rattle.fedi_town.specs.declared.deed.Deed.{Deed}
use Rattle.fedi_town.specs.declared.deed.Deed.TheVariants.{Follow}

-- ---- gathering recipients

pub is_among-push : (b : List ℕ) (found : List (List ℕ)) (iri : List ℕ) → is_among b found ≡ true → is_among b (found ++ iri ∷ []) ≡ true
unfolding is_among
is_among-push b found iri there = list_any-append (λ u. bytes_eq u b) found (iri ∷ []) ∙ rw there refl

is_among-last : (b : List ℕ) (found : List (List ℕ)) → is_among b (found ++ b ∷ []) ≡ true
unfolding is_among
is_among-last b found = list_any-append (λ u. bytes_eq u b) found (b ∷ []) ∙ rw (bytes_eq-same b) (or_true (list_any (λ u. bytes_eq u b) found))

-- a text that passes is among those that pass
filter-among : (p : List ℕ → Bool) (b : List ℕ) (xs : List (List ℕ)) → p b ≡ true → is_among b xs ≡ true → is_among b (filter p xs) ≡ true
unfolding is_among
filter-among p b [] passes there = absurd cc
filter-among p b (x ∷ xs) passes there =
    elim (bytes_eq x b) as (λ s. bytes_eq x b ≡ s → is_among b (filter p (x ∷ xs)) ≡ true) [
      | true ↦ λ e. let same : p x ≡ true = rw (bytes_eq-is x b e) passes in rw (same, e) refl
      | false ↦ λ e. let rest : is_among b xs ≡ true = rw e at there in
          elim (p x) as (λ s. is_among b (cond s (x ∷ filter p xs) (filter p xs)) ≡ true) [
            | true ↦ rw (e, filter-among p b xs passes rest) refl
            | false ↦ filter-among p b xs passes rest
          ]
    ] refl

first-among : (b : List ℕ) (xs ys : List (List ℕ)) → is_among b xs ≡ true → is_among b (xs ++ ys) ≡ true
unfolding is_among
first-among b xs ys there = list_any-append (λ u. bytes_eq u b) xs ys ∙ rw there refl

pub second_among : (b : List ℕ) (xs ys : List (List ℕ)) → is_among b ys ≡ true → is_among b (xs ++ ys) ≡ true
unfolding is_among
second_among b xs ys there = list_any-append (λ u. bytes_eq u b) xs ys ∙ rw there (or_true (list_any (λ u. bytes_eq u b) xs))

itself : (t : Town) (author b : List ℕ) → bytes_eq b (followers_id author) ≡ false → is_among b (addressees t author b) ≡ true
unfolding addressees
itself t author b one = rw one (among_alone b)

flat-among : (t : Town) (author b : List ℕ) (iris : List (List ℕ)) → bytes_eq b (followers_id author) ≡ false → is_among b iris ≡ true
    → is_among b (flat_map (addressees t author) iris) ≡ true
unfolding is_among
flat-among t author b [] one there = absurd cc
flat-among t author b (iri ∷ iris) one there =
    elim (bytes_eq iri b) as (λ s. bytes_eq iri b ≡ s → is_among b (flat_map (addressees t author) (iri ∷ iris)) ≡ true) [
      | true ↦ λ e.
          first-among b (addressees t author iri) (flat_map (addressees t author) iris)
          (subst (λ (i : List ℕ). is_among b (addressees t author i) ≡ true) (sym (bytes_eq-is iri b e)) (itself t author b one))
      | false ↦ λ e. let rest : is_among b iris ≡ true = rw e at there in
          second_among b (addressees t author iri) (flat_map (addressees t author) iris) (flat-among t author b iris one rest)
    ] refl

-- a named actor who may get the activity gets it
gets : (t : Town) (author b : List ℕ) (r : Recipients) (others : List (List ℕ)) → is_recipient t author b ≡ true → bytes_eq b (followers_id author) ≡ false
    → names r b ≡ true → is_among b (recipients_with t author r others) ≡ true
gets t author b r others passes one named =
    once-among b (filter (is_recipient t author) (flat_map (addressees t author) (all_of r) ++ others)) ∙ (filter-among (is_recipient t author) b _ passes
    (first-among b (flat_map (addressees t author) (all_of r)) others (flat-among t author b (all_of r) one named)))

-- ---- the recipients that a Follow names

implied_named : (author b : List ℕ) (r : Recipients) → bytes_eq b author ≡ false → names (with_implied author (Some b) r) b ≡ true
unfolding is_among
implied_named author b r other =
    elim (names r b) as (λ s. names r b ≡ s → names (if s || bytes_eq b author then r else record r { to = r.to ++ b ∷ [] }) b ≡ true) [
      | true ↦ λ e. e
      | false ↦ λ e. rw other
          (list_any-append (λ u. bytes_eq u b) (r.to ++ b ∷ []) (r.cc ++ (r.bto ++ (r.bcc ++ r.audience))) ∙ rw (is_among-last b r.to) refl)
    ] refl

-- ---- the followed member

accepted_follow : (t : Town) (author b : List ℕ) (full : Bool) → is_accepted (state_about t true author Follow full b) ≡ true
    → (is_actor t b ≡ true) × (has_block_between t author b ≡ false)
unfolding follow_state
accepted_follow t author b full e =
    elim (is_actor t b) as (λ s. is_accepted (if s then follow_state t author b else only_where true Pending) ≡ true → (s ≡ true) × (has_block_between t author b ≡ false)) [
      | true ↦ elim (has_block_between t author b) as (λ m. is_accepted (if m then Rejected else (if not (is_locked t b) && has_room t author b then Accepted else Pending)) ≡ true → (true ≡ true) × (m ≡ false)) [
        | true ↦ λ h. absurd cc
        | false ↦ λ h. (refl, refl)
      ]
      | false ↦ λ h. absurd cc
    ] e

or_swap : (a b : Bool) → (a || b) ≡ (b || a)
or_swap true true = refl
or_swap true false = refl
or_swap false true = refl
or_swap false false = refl

between_swap : (t : Town) (a b : List ℕ) → has_block_between t a b ≡ has_block_between t b a
unfolding has_block_between
between_swap t a b = or_swap (blocks t a b) (blocks t b a)

pub and_not_true : (a b : Bool) → b ≡ true → (a && not b) ≡ false
and_not_true true b e = rw e refl
and_not_true false b e = refl

-- the activity reaches this one: it is public, or this is its author, or it is a recipient and
-- there is no Block
pub record Reaches (t : Town) (author b : List ℕ) (x : Act) : Type 0 where
  pub is : (x.is_public ≡ true) ⊎ ((bytes_eq b author ≡ true) ⊎ (is_among b x.recipients ≡ true))
  pub free : has_block_between t b author ≡ false

not_nobody : (t : Town) (b : List ℕ) → is_actor t b ≡ true → is_nobody_here t b ≡ false
unfolding is_nobody_here
not_nobody t b here = and_not_true (is_of_town t.host b) (is_actor t b) here

recipient_by : (t : Town) (author b : List ℕ) → bytes_eq b public_iri ≡ false → bytes_eq b author ≡ false → is_nobody_here t b ≡ false → has_block_between t b author ≡ false → is_recipient t author b ≡ true
unfolding is_recipient
recipient_by t author b p q r s = rw (p, q, r, s) refl

-- the recipients of a Follow of b
reached_by : (t : Town) (author b : List ℕ) (r : Recipients) → bytes_eq b (followers_id author) ≡ false → is_actor t b ≡ true → has_block_between t b author ≡ false
    → (is_public (with_implied author (Some b) r) ≡ true) ⊎ ((bytes_eq b author ≡ true) ⊎ (is_among b (recipients_with t author (with_implied author (Some b) r) []) ≡ true))
reached_by t author b r one here free =
    let Goal : Type 0 = (is_public (with_implied author (Some b) r) ≡ true) ⊎ ((bytes_eq b author ≡ true) ⊎ (is_among b (recipients_with t author (with_implied author (Some b) r) []) ≡ true)) in
    elim (bytes_eq b author) as (λ s. bytes_eq b author ≡ s → Goal) [
      | true ↦ λ own. inr (inl own)
      | false ↦ λ other. elim (bytes_eq b public_iri) as (λ s. bytes_eq b public_iri ≡ s → Goal) [
        | true ↦ λ all. inl (subst (λ (i : List ℕ). names (with_implied author (Some b) r) i ≡ true) (bytes_eq-is b public_iri all) (implied_named author b r other))
        | false ↦ λ few. inr (inr (gets t author b (with_implied author (Some b) r) [] (recipient_by t author b few other (not_nobody t b here) free) one (implied_named author b r other)))
      ] refl
    ] refl

-- ---- a member's Follow

complete-follow : (t : Town) (author b : List ℕ) (r : Recipients) → complete_recipients t author Follow (Some b) r ≡ with_implied author (Some b) r
unfolding complete_recipients implied_recipient
complete-follow t author b r = refl

reaches_by : (t : Town) (author b : List ℕ) (d : Deed) (full : Bool) (r : Recipients) (x : Act)
    → x.is_public ≡ is_public (with_implied author (Some b) r) → x.recipients ≡ recipients_with t author (with_implied author (Some b) r) []
    → bytes_eq b (followers_id author) ≡ false → is_accepted (state_about t true author Follow full b) ≡ true → Reaches t author b x
reaches_by t author b d full r x public to one state =
    let facts = accepted_follow t author b full state in
    let free : has_block_between t b author ≡ false = between_swap t b author ∙ facts.1 in
    record { is = rw (public, to) (reached_by t author b r one facts.0 free); free = free }

-- A member's accepted Follow reaches the followed member.
pub follow_reaches : (t : Town) (host name : List ℕ) (repeat : Option (List ℕ × List ℕ)) (a : Activity) (moment : ℕ) (b : List ℕ)
    → deed_of a.kind ≡ Follow → ref_id (local_act t host name repeat a moment).activity.object ≡ Some b
    → is_accepted (local_act t host name repeat a moment).state ≡ true
    → bytes_eq b (followers_id (actor_id host name)) ≡ false
    → Reaches t (actor_id host name) b (local_act t host name repeat a moment)
unfolding state_of
follow_reaches t host name repeat a moment b does about state one =
    let author : List ℕ = actor_id host name in
    let x : Act = local_act t host name repeat a moment in
    reaches_by t author b Follow (is_whole x.activity.object) a.recipients x
    (rw (does, about, complete-follow t author b a.recipients) (or_no _))
    (rw (does, about, complete-follow t author b a.recipients) refl)
    one
    (rw (does, about) at state)
