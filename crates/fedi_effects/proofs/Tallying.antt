-- Tallies say what has become of every delivery, and still do after one more attempt.
use Rattle.std.proofs.Common.{◌≡◌, ℕ, zero, suc, ◌+◌, ◌<◌, arith, Bool, true, false, List, [], ◌∷◌, ◌++◌, Option, Some, None, refl, sym, ap, subst, ◌∙◌, length, ltb, get_or, set}
use Rattle.std.specs.Prelude.{filter, IsTrue, if◌then◌else◌}
use Rattle.std.specs.List.{find, fold, list_all, position_or_len}
use Rattle.std.specs.Str.{bytes_eq}
use Rattle.std.proofs.lemmas.Bool.{and_parts, lt-ltb, ltb-true}
use Rattle.std.proofs.lemmas.List.{append-nil}
use Rattle.std.proofs.lemmas.List.Elements.{filter-append}
use Rattle.std.proofs.lemmas.List.Folds.{list_all-append}
use Rattle.std.proofs.lemmas.List.Sums.{fold_push}
use Rattle.fedi_effects.specs.declared.progress.Standing.{Standing}
use Rattle.fedi_effects.specs.declared.progress.Standing.TheVariants as standings
use Rattle.fedi_effects.specs.declared.tallies.Tally.{Tally}
use Rattle.fedi_effects.specs.Standings.{IsFew, progress_at, progress_in}
use Rattle.fedi_effects.specs.Tallies.{AreTallied, is_few, is_few_so, is_tally_of, standing_or, tally_mark}
use Rattle.fedi_register.specs.Changes.{place_where}
use Rattle.fedi_register.specs.Marks.{every, marks_from}
use Rattle.fedi_register.specs.Seeds.{mark_of_pair}
use Rattle.fedi_register.specs.declared.seeds.Seed.{Seed}
use Rattle.fedi_register.proofs.Edited.{none_there}
use Rattle.fedi_register.proofs.Found.{IsMarkedSo}
use Rattle.fedi_register.proofs.Once.{lt_step, placed}
use Rattle.fedi_town.proofs.Texts.{bytes_eq-is, bytes_eq-same}
use Rattle.fedi_town.specs.declared.act.Attempt.{Attempt}
use Rattle.fedi_town.specs.Queues.{Progress, after_attempt, is_of_pair, progress_of}
use Rattle.fedi_town.specs.Queues.{Due}
use Rattle.fedi_town.specs.Towns.{Town}

-- ---- fewer than eight attempts

few-so : (s : Standing) → IsFew s → is_few_so s ≡ true
few-so (standings.Due attempts from) few = lt-ltb attempts 8 few
few-so (standings.Ended attempts) few = refl

so-few : (s : Standing) → is_few_so s ≡ true → IsFew s
so-few (standings.Due attempts from) few = ltb-true attempts 8 few
so-few (standings.Ended attempts) few = tt

pub few_now : (y : Tally) → IsFew y.standing → IsTrue (is_few y)
unfolding is_few
few_now y few = few-so y.standing few

pub few_then : (y : Tally) → IsTrue (is_few y) → IsFew y.standing
unfolding is_few
few_then y few = so-few y.standing few

-- ---- marks

pub tally_marked : (seed : Seed) (id r : List ℕ) → IsMarkedSo every (tally_mark seed) (mark_of_pair seed id r) (is_tally_of id r)
unfolding is_tally_of tally_mark
tally_marked seed id r y is =
    let parts = and_parts (bytes_eq y.activity id) (bytes_eq y.recipient r) is in
    (refl, rw (bytes_eq-is y.activity id parts.0, bytes_eq-is y.recipient r parts.1) refl)

marks-set : (seed : Seed) (n : ℕ) (list : List Tally) (k : ℕ) (z d : Tally) → z.activity ≡ (get_or list k d).activity → z.recipient ≡ (get_or list k d).recipient
    → marks_from every (tally_mark seed) n (set list k z) ≡ marks_from every (tally_mark seed) n list
unfolding tally_mark
marks-set seed n [] k z d a r = refl
marks-set seed n (y ∷ list) zero z d a r = rw (a, r) refl
marks-set seed n (y ∷ list) (suc k) z d a r = rw (marks-set seed (suc n) list k z d a r) refl

pub marks_counted : (seed : Seed) (list : List Tally) (k : ℕ) (z x d : Tally) → x ≡ get_or list k d → z.activity ≡ x.activity → z.recipient ≡ x.recipient
    → marks_from every (tally_mark seed) 0 list ≡ marks_from every (tally_mark seed) 0 (set list k z)
marks_counted seed list k z x d was a r =
    sym (marks-set seed 0 list k z d (a ∙ ap (λ (u : Tally). u.activity) was) (r ∙ ap (λ (u : Tally). u.recipient) was))

-- ---- what is found

-- the item at the first index that passes is found there, and so is one that replaces it
record IsFirst {A : Type 0} (p : A → Bool) (xs : List A) (k : ℕ) (d : A) : Type 0 where
  found : find p xs ≡ Some (get_or xs k d)
  passes : p (get_or xs k d) ≡ true
  within : k < length xs
  taken : (z : A) → p z ≡ true → find p (set xs k z) ≡ Some z

first-of : {A : Type 0} (p : A → Bool) (xs : List A) (d : A) → ltb (position_or_len p xs) (length xs) ≡ true → IsFirst p xs (position_or_len p xs) d
first-of p [] d e = absurd cc
first-of {A} p (x ∷ xs) d e =
    elim (p x) as (λ b. p x ≡ b → IsFirst p (x ∷ xs) (position_or_len p (x ∷ xs)) d) [
      | true ↦ λ t. rw t (record {
        found = rw t refl;
        passes = t;
        within = omega arith;
        taken = λ z own. rw own refl;
      })
      | false ↦ λ t.
          let k : 1 + position_or_len p xs ≡ suc (position_or_len p xs) = omega arith in
          let rest = first-of p xs d (sym (lt_step (position_or_len p xs) (length xs)) ∙ (rw t at e)) in
          let place : position_or_len p (x ∷ xs) ≡ suc (position_or_len p xs) = rw (t, k) refl in
          subst (λ (j : ℕ). IsFirst p (x ∷ xs) j d) (sym place) (record {
            found = rw t rest.found;
            passes = rest.passes;
            within = omega (arith, rest.within);
            taken = λ z own. rw t (rest.taken z own);
          })
    ] refl

first-at : {A : Type 0} (p : A → Bool) (xs : List A) (k : ℕ) (d : A) → Some k ≡ place_where p xs → IsFirst p xs k d
first-at p xs k d is = let at = placed p xs k is in subst (λ (j : ℕ). IsFirst p xs j d) (sym at.0) (first-of p xs d at.1)

-- if neither passes, replacing one by the other changes nothing
find-other : {A : Type 0} (q : A → Bool) (xs : List A) (k : ℕ) (z d : A) → q (get_or xs k d) ≡ false → q z ≡ false → find q (set xs k z) ≡ find q xs
find-other q [] k z d was is = refl
find-other q (x ∷ xs) zero z d was is = rw (was, is) refl
find-other {A} q (x ∷ xs) (suc k) z d was is =
    ap (λ (o : Option A). if q x then Some x else o) (find-other q xs k z d was is)

find-last : {A : Type 0} (q : A → Bool) (xs : List A) (z : A) → find q xs ≡ None → q z ≡ true → find q (xs ++ z ∷ []) ≡ Some z
find-last q [] z none own = rw own refl
find-last {A} q (x ∷ xs) z none own =
    elim (q x) as (λ b. (if b then Some x else find q xs) ≡ None → (if b then Some x else find q (xs ++ z ∷ [])) ≡ Some z) [
      | true ↦ λ e. absurd cc
      | false ↦ λ e. find-last q xs z e own
    ] none

find-before : {A : Type 0} (q : A → Bool) (xs : List A) (z : A) → q z ≡ false → find q (xs ++ z ∷ []) ≡ find q xs
find-before q [] z other = rw other refl
find-before {A} q (x ∷ xs) z other = ap (λ (o : Option A). if q x then Some x else o) (find-before q xs z other)

-- ---- one more attempt

at-pushed : (attempts : List Attempt) (a : Attempt) (id r : List ℕ) (m : ℕ)
    → progress_at (attempts ++ a ∷ []) id r m ≡ (if is_of_pair id r a then after_attempt (progress_at attempts id r m) a else progress_at attempts id r m)
unfolding progress_at
at-pushed attempts a id r m =
    let p : Attempt → Bool = is_of_pair id r in
    ap (λ (xs : List Attempt). fold after_attempt (Due 0 m) xs) (filter-append p attempts (a ∷ []))
    ∙ elim (p a) as
    (λ b. fold after_attempt (Due 0 m) (filter p attempts ++ (if b then a ∷ [] else []))
    ≡ (if b then after_attempt (fold after_attempt (Due 0 m) (filter p attempts)) a else fold after_attempt (Due 0 m) (filter p attempts))) [
      | true ↦ fold_push after_attempt (Due 0 m) (filter p attempts) a
      | false ↦ ap (λ (xs : List Attempt). fold after_attempt (Due 0 m) xs) (append-nil (filter p attempts))
    ]

-- the tally is for the delivery that this was an attempt of
pub record IsOf (y : Tally) (a : Attempt) : Type 0 where
  pub activity : y.activity ≡ a.activity
  pub recipient : y.recipient ≡ a.recipient

same-pair : (y : Tally) (a : Attempt) (id r : List ℕ) → IsOf y a → is_tally_of id r y ≡ is_of_pair id r a
unfolding is_tally_of is_of_pair
same-pair y a id r of = rw (of.activity, of.recipient) refl

of-pair : (y : Tally) (a : Attempt) → is_tally_of a.activity a.recipient y ≡ true → IsOf y a
unfolding is_tally_of
of-pair y a is =
    let parts = and_parts (bytes_eq y.activity a.activity) (bytes_eq y.recipient a.recipient) is in
    record { activity = bytes_eq-is y.activity a.activity parts.0; recipient = bytes_eq-is y.recipient a.recipient parts.1 }

own-pair : (z : Tally) (a : Attempt) → IsOf z a → is_tally_of a.activity a.recipient z ≡ true
unfolding is_tally_of
own-pair z a of = rw (of.activity, of.recipient, bytes_eq-same a.activity, bytes_eq-same a.recipient) refl

pair-is : (a : Attempt) (id r : List ℕ) → is_of_pair id r a ≡ true → (id ≡ a.activity) × (r ≡ a.recipient)
unfolding is_of_pair
pair-is a id r is =
    let parts = and_parts (bytes_eq a.activity id) (bytes_eq a.recipient r) is in
    (sym (bytes_eq-is a.activity id parts.0), sym (bytes_eq-is a.recipient r parts.1))

-- what the tallies say of one delivery after the attempt
Says : List Tally → List Attempt → List ℕ → List ℕ → ℕ → Type 0
Says list attempts id r m = progress_at attempts id r m ≡ standing_or m (find (is_tally_of id r) list)

-- the delivery was tried before, and its tally counts one more attempt
pub counted : (list : List Tally) (attempts : List Attempt) (a : Attempt) (k : ℕ) (z x d : Tally) → AreTallied list attempts → Some k ≡ place_where (is_tally_of a.activity a.recipient) list
    → x ≡ get_or list k d → z.activity ≡ x.activity → z.recipient ≡ x.recipient → progress_in z.standing ≡ after_attempt (progress_in x.standing) a
    → AreTallied (set list k z) (attempts ++ a ∷ [])
counted list attempts a k z x d tallied at was activity recipient standing = record { so = one }
  where
    one : (id r : List ℕ) (m : ℕ) → progress_at (attempts ++ a ∷ []) id r m ≡ standing_or m (find (is_tally_of id r) (set list k z))
    one id r m =
        let first = first-at (is_tally_of a.activity a.recipient) list k d at in
        let y : Tally = get_or list k d in
        let of_y : IsOf y a = of-pair y a first.passes in
        let of_z : IsOf z a = record { activity = activity ∙ ap (λ (u : Tally). u.activity) was ∙ of_y.activity; recipient = recipient ∙ ap (λ (u : Tally). u.recipient) was ∙ of_y.recipient } in
        let counts : progress_in z.standing ≡ after_attempt (progress_in y.standing) a = standing ∙ ap (λ (u : Tally). after_attempt (progress_in u.standing) a) was in
        at-pushed attempts a id r m
        ∙ elim (is_of_pair id r a) as
        (λ b. is_of_pair id r a ≡ b → (if b then after_attempt (progress_at attempts id r m) a else progress_at attempts id r m) ≡ standing_or m (find (is_tally_of id r) (set list k z))) [
          | true ↦ λ e.
              let is = pair-is a id r e in
              let before : progress_at attempts id r m ≡ progress_in y.standing =
              tallied.so id r m ∙ rw (is.0, is.1) (ap (λ (o : Option Tally). standing_or m o) first.found) in
              let after : find (is_tally_of id r) (set list k z) ≡ Some z = rw (is.0, is.1) (first.taken z (own-pair z a of_z)) in
              ap (λ (p : Progress). after_attempt p a) before ∙ sym counts ∙ sym (ap (λ (o : Option Tally). standing_or m o) after)
          | false ↦ λ e.
              tallied.so id r m
              ∙ sym (ap (λ (o : Option Tally). standing_or m o) (find-other (is_tally_of id r) list k z d (same-pair y a id r of_y ∙ e) (same-pair z a id r of_z ∙ e)))
        ] refl

-- the delivery was not tried before, and has a tally now
pub begun : (list : List Tally) (attempts : List Attempt) (a : Attempt) (z : Tally) → AreTallied list attempts → None ≡ place_where (is_tally_of a.activity a.recipient) list
    → z.activity ≡ a.activity → z.recipient ≡ a.recipient → progress_in z.standing ≡ after_attempt (Due 0 0) a → AreTallied (list ++ z ∷ []) (attempts ++ a ∷ [])
begun list attempts a z tallied none activity recipient standing = record { so = one }
  where
    one : (id r : List ℕ) (m : ℕ) → progress_at (attempts ++ a ∷ []) id r m ≡ standing_or m (find (is_tally_of id r) (list ++ z ∷ []))
    one id r m =
        let of_z : IsOf z a = record { activity = activity; recipient = recipient } in
        let absent : find (is_tally_of a.activity a.recipient) list ≡ None = none_there (is_tally_of a.activity a.recipient) list none in
        at-pushed attempts a id r m
        ∙ elim (is_of_pair id r a) as
        (λ b. is_of_pair id r a ≡ b → (if b then after_attempt (progress_at attempts id r m) a else progress_at attempts id r m) ≡ standing_or m (find (is_tally_of id r) (list ++ z ∷ []))) [
          | true ↦ λ e.
              let is = pair-is a id r e in
              let before : progress_at attempts id r m ≡ Due 0 m = tallied.so id r m ∙ rw (is.0, is.1) (ap (λ (o : Option Tally). standing_or m o) absent) in
              let after : find (is_tally_of id r) (list ++ z ∷ []) ≡ Some z = rw (is.0, is.1) (find-last (is_tally_of a.activity a.recipient) list z absent (own-pair z a of_z)) in
              ap (λ (p : Progress). after_attempt p a) before ∙ sym standing ∙ sym (ap (λ (o : Option Tally). standing_or m o) after)
          | false ↦ λ e. tallied.so id r m ∙ sym (ap (λ (o : Option Tally). standing_or m o) (find-before (is_tally_of id r) list z (same-pair z a id r of_z ∙ e)))
        ] refl

pub none_tallied : AreTallied [] []
unfolding progress_at
none_tallied = record { so = λ id r m. refl }

-- ---- few attempts of each

pub all_counted : (list : List Tally) (k : ℕ) (z : Tally) → IsTrue (list_all is_few list) → IsTrue (is_few z) → IsTrue (list_all is_few (set list k z))
all_counted [] k z all own = refl
all_counted (y ∷ list) zero z all own = rw own (and_parts (is_few y) (list_all is_few list) all).1
all_counted (y ∷ list) (suc k) z all own = let parts = and_parts (is_few y) (list_all is_few list) all in rw parts.0 (all_counted list k z parts.1 own)

pub all_begun : (list : List Tally) (z : Tally) → IsTrue (list_all is_few list) → IsTrue (is_few z) → IsTrue (list_all is_few (list ++ z ∷ []))
all_begun list z all own = list_all-append is_few list (z ∷ []) ∙ rw (all, own) refl

pub few_at : (list : List Tally) (k : ℕ) (d : Tally) → IsTrue (list_all is_few list) → k < length list → IsTrue (is_few (get_or list k d))
few_at [] k d all lt = absurd (omega arith)
few_at (y ∷ list) zero d all lt = (and_parts (is_few y) (list_all is_few list) all).0
few_at (y ∷ list) (suc k) d all lt = few_at list k d (and_parts (is_few y) (list_all is_few list) all).1 (omega (arith, lt))

-- ---- what is asked

pub within : (id r : List ℕ) (list : List Tally) (k : ℕ) (d : Tally) → Some k ≡ place_where (is_tally_of id r) list → k < length list
within id r list k d at = (first-at (is_tally_of id r) list k d at).within

pub standing_found : (list : List Tally) (attempts : List Attempt) (id r : List ℕ) (m k : ℕ) (x d : Tally) → AreTallied list attempts → Some k ≡ place_where (is_tally_of id r) list
    → x ≡ get_or list k d → progress_in x.standing ≡ progress_at attempts id r m
standing_found list attempts id r m k x d tallied at was =
    ap (λ (u : Tally). progress_in u.standing) was
    ∙ sym (tallied.so id r m ∙ ap (λ (o : Option Tally). standing_or m o) (first-at (is_tally_of id r) list k d at).found)

pub standing_none : (list : List Tally) (attempts : List Attempt) (id r : List ℕ) (m : ℕ) → AreTallied list attempts → None ≡ place_where (is_tally_of id r) list
    → Due 0 m ≡ progress_at attempts id r m
standing_none list attempts id r m tallied none =
    sym (tallied.so id r m ∙ ap (λ (o : Option Tally). standing_or m o) (none_there (is_tally_of id r) list none))

pub town_progress : (t : Town) (id r : List ℕ) (m : ℕ) → progress_at t.attempts id r m ≡ progress_of t id r m
unfolding progress_at progress_of
town_progress t id r m = refl

pub few_found : (list : List Tally) (id r : List ℕ) (k : ℕ) (x d : Tally) → IsTrue (list_all is_few list) → Some k ≡ place_where (is_tally_of id r) list → x ≡ get_or list k d → IsFew x.standing
few_found list id r k x d all at was = few_then x (subst (λ (u : Tally). IsTrue (is_few u)) (sym was) (few_at list k d all (within id r list k d at)))
