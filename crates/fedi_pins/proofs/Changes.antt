-- Which activities change what is listed, and how.
use Rattle.std.proofs.Common.{◌≡◌, ℕ, Bool, true, false, List, [], ◌∷◌, ◌++◌, refl, sym, ap, ◌∙◌, append_assoc}
use Rattle.std.specs.Prelude.{filter, is_some, map, if◌then◌else◌}
use Rattle.std.specs.List.{fold, list_all}
use Rattle.std.specs.Str.{bytes_eq}
use Rattle.std.proofs.lemmas.Bool.{and_from, and_parts}
use Rattle.std.proofs.lemmas.List.{append-nil}
use Rattle.std.proofs.lemmas.List.Folds.{list_all-map}
use Rattle.fedi_address.specs.Recipients.{add_new, distinct, is_among}
use Rattle.fedi_objects.specs.declared.kind.Kind.{Kind}
use Rattle.fedi_objects.specs.declared.kind.Kind.TheVariants as kinds
use Rattle.fedi_town.proofs.Lists.{list_all-filter}
use Rattle.fedi_town.proofs.Once.{firsts-push, is_same_as, once-among, once-push}
use Rattle.fedi_town.specs.declared.act.Act.{Act}
use Rattle.fedi_town.specs.declared.caller.Caller.{Caller}
use Rattle.fedi_town.specs.Boards.{is_add, is_board, is_pin, is_pin_kind, is_pin_of, is_remove, opens_board, target_key}
use Rattle.fedi_town.specs.Lists.{differs, firsts}
use Rattle.fedi_town.specs.Relations.{is_id, ref_id}
use Rattle.fedi_town.specs.Seeing.{seen, sees}
use Rattle.fedi_town.specs.Towns.{Town, is_by}
use Rattle.fedi_visible.specs.Pins.{is_directed, is_pin_kind_by}
use Rattle.fedi_pins.specs.declared.pins.Listing.{Listing}
use Rattle.fedi_pins.specs.declared.pins.Listing.TheVariants.{Objects, Boards}
use Rattle.fedi_pins.specs.Held.{is_change, is_seen_change, item_key, listed, opened}

-- ---- candidates

-- the test that candidates pass
abbrev pub is_candidate : Listing → List ℕ → List ℕ → Act → Bool
is_candidate Objects author board x = is_directed board x
is_candidate Boards author board x = is_pin_kind_by author x

pin_by : (author : List ℕ) (x : Act) → is_pin author x ≡ true → is_pin_kind_by author x ≡ true
unfolding is_pin is_pin_kind_by
pin_by author x is =
    let parts = and_parts (is_by author x) _ is in
    and_from (is_pin_kind x.activity.kind) (is_by author x) (and_parts (is_pin_kind x.activity.kind) (is_some (ref_id x.activity.object)) parts.1).0 parts.0

directed : (author board : List ℕ) (x : Act) → is_pin_of author board x ≡ true → is_directed board x ≡ true
unfolding is_pin_of is_directed is_pin_kind_by
directed author board x is =
    let parts = and_parts (is_id board x.activity.target) (is_pin author x) is in
    and_from (is_pin_kind x.activity.kind) (is_id board x.activity.target) (and_parts (is_pin_kind x.activity.kind) (is_by author x) (pin_by author x parts.1)).0 parts.0

opens_parts : (author : List ℕ) (x : Act) → opens_board author x ≡ true
    → (is_add x.activity.kind ≡ true) × (is_board author (target_key x) ≡ true) × (is_pin author x ≡ true)
unfolding opens_board
opens_parts author x is =
    let parts = and_parts (is_add x.activity.kind) _ is in
    let more = and_parts (is_board author (target_key x)) (is_pin author x) parts.1 in
    (parts.0, more.0, more.1)

-- what changes what is listed is a candidate
pub change_candidate : (t : Town) (c : Caller) (k : Listing) (author board : List ℕ) (x : Act) → is_seen_change t c k author board x ≡ true → is_candidate k author board x ≡ true
unfolding is_seen_change
change_candidate t c Objects author board x is = directed author board x (and_parts (is_pin_of author board x) (sees t c x) is).0
change_candidate t c Boards author board x is = pin_by author x (opens_parts author x (and_parts (opens_board author x) (sees t c x) is).0).2

-- ---- one change after the other

-- the items after an activity that changes what is listed
abbrev pub with_item : Listing → List (List ℕ) → Act → List (List ℕ)
with_item k ids x = if is_remove x.activity.kind then filter (differs bytes_eq (item_key k x)) ids else add_new ids (item_key k x)

adds : (kind : Kind) → is_add kind ≡ true → is_remove kind ≡ false
adds kinds.Remove e = absurd cc
adds _ e = refl

added : (author : List ℕ) (ids : List (List ℕ)) (x : Act) → opens_board author x ≡ true → with_item Boards ids x ≡ add_new ids (target_key x)
added author ids x is = rw (adds x.activity.kind (opens_parts author x is).0) refl

all_added : (author : List ℕ) (ids : List (List ℕ)) (xs : List Act) → fold (with_item Boards) ids (filter (opens_board author) xs) ≡ fold add_new ids (map target_key (filter (opens_board author) xs))
all_added author ids [] = refl
all_added author ids (x ∷ xs) =
    elim (opens_board author x) as (λ b. opens_board author x ≡ b
    → fold (with_item Boards) ids (filter (opens_board author) (x ∷ xs)) ≡ fold add_new ids (map target_key (filter (opens_board author) (x ∷ xs)))) [
      | true ↦ λ is.
          rw is (ap (λ (u : List (List ℕ)). fold (with_item Boards) u (filter (opens_board author) xs)) (added author ids x is)
          ∙ all_added author (add_new ids (target_key x)) xs)
      | false ↦ λ is. rw is (all_added author ids xs)
    ] refl

-- each once, in the order of the first of each
one_distinct : (done : List (List ℕ)) (x : List ℕ) → distinct done ≡ firsts bytes_eq done → distinct (done ++ x ∷ []) ≡ firsts bytes_eq (done ++ x ∷ [])
unfolding is_among is_same_as
one_distinct done x same =
    once-push done x ∙ rw (once-among x done, same) (sym (firsts-push bytes_eq done x))

distinct_after : (done xs : List (List ℕ)) → distinct done ≡ firsts bytes_eq done → distinct (done ++ xs) ≡ firsts bytes_eq (done ++ xs)
distinct_after done [] same = rw (append-nil done) same
distinct_after done (x ∷ xs) same =
    ap distinct (sym (append_assoc done (x ∷ []) xs)) ∙ distinct_after (done ++ x ∷ []) xs (one_distinct done x same)
    ∙ ap (firsts bytes_eq) (append_assoc done (x ∷ []) xs)

distinct_firsts : (xs : List (List ℕ)) → fold add_new [] xs ≡ firsts bytes_eq xs
unfolding distinct
distinct_firsts xs = distinct_after [] xs refl

-- what is listed, by the changes that the caller sees
pub changes_listed : (t : Town) (c : Caller) (k : Listing) (author board : List ℕ)
    → fold (with_item k) [] (filter (is_change k author board) (seen t c)) ≡ listed t c k author board
changes_listed t c Objects author board = refl
changes_listed t c Boards author board = all_added author [] (seen t c) ∙ distinct_firsts (map target_key (filter (opens_board author) (seen t c)))

-- ---- the collections that are opened are the author's

all_filtered : {A : Type 0} (p q : A → Bool) → ((x : A) → q x ≡ true → p x ≡ true) → (xs : List A) → list_all p (filter q xs) ≡ true
all_filtered p q passes [] = refl
all_filtered p q passes (x ∷ xs) =
    elim (q x) as (λ b. q x ≡ b → list_all p (filter q (x ∷ xs)) ≡ true) [
      | true ↦ λ is. rw (is, passes x is) (all_filtered p q passes xs)
      | false ↦ λ is. rw is (all_filtered p q passes xs)
    ] refl

all_firsts : {A : Type 0} (p : A → Bool) (same : A → A → Bool) (xs : List A) → list_all p xs ≡ true → list_all p (firsts same xs) ≡ true
all_firsts p same [] all = refl
all_firsts p same (x ∷ xs) all =
    let parts = and_parts (p x) (list_all p xs) all in
    and_from (p x) _ parts.0 (list_all-filter p (differs same x) (firsts same xs) (all_firsts p same xs parts.1))

pub opened_boards : (t : Town) (c : Caller) (author : List ℕ) → list_all (is_board author) (opened t c author) ≡ true
opened_boards t c author =
    all_firsts (is_board author) bytes_eq (map target_key (filter (opens_board author) (seen t c)))
    (list_all-map (is_board author) target_key (filter (opens_board author) (seen t c))
    ∙ all_filtered (λ (x : Act). is_board author (target_key x)) (opens_board author) (λ x is. (opens_parts author x is).1) (seen t c))
