-- The followers an activity is forwarded to, found one by one, occur once each.
use Rattle.std.proofs.Common.{◌≡◌, ◌≢◌, ℕ, Bool, true, false, List, [], ◌∷◌, ◌++◌, Option, Some, None, refl, sym, ap, ◌∙◌, append_assoc}
use Rattle.std.specs.Prelude.{◌||◌, codes, map, filter, cond, option_to_list}
use Rattle.std.specs.List.{find, fold, flat_map, list_any}
use Rattle.std.specs.Str.{bytes_eq}
use Rattle.std.proofs.lemmas.List.{append-nil, append_cancel_right}
use Rattle.std.proofs.lemmas.List.Folds.{list_any-append}
use Rattle.std.proofs.lemmas.List.Sums.{fold-append}
use Rattle.std.proofs.lemmas.Slice.Eq.{bytes_eq-Decides}
use Rattle.fedi_address.specs.Recipients.{add_new, distinct}
use Rattle.fedi_register.specs.Mentions.{reply_in, tags_in}
use Rattle.fedi_objects.specs.declared.object.Object.{Object}
use Rattle.fedi_objects.specs.declared.object.Tag.{Tag}
use Rattle.fedi_town.proofs.Lists.{list_any-through}
use Rattle.fedi_town.proofs.Texts.{is_false, not_both}
use Rattle.fedi_town.specs.declared.act.Actor.{Actor}
use Rattle.fedi_town.specs.Forwarding.{far_followers, forwards_at, has_followers_at, is_far, object_mentions}
use Rattle.fedi_town.specs.Ids.{followers_id}
use Rattle.fedi_town.specs.Relations.{blocks, followers}
use Rattle.fedi_town.specs.Shapes.{is_each_once}
use Rattle.fedi_town.specs.Towns.{Town, has_id}
use Rattle.fedi_effects.proofs.Apart.{added_apart, followers_once, once_filtered}
use Rattle.fedi_effects.specs.Forwards.{is_unfound, with_forwards}

-- ---- what an activity refers to

pub any_both : {A : Type 0} (p : A → Bool) (xs ys : List A) → list_any p (xs ++ ys) ≡ (list_any p xs || list_any p ys)
any_both p xs ys = list_any-append p xs ys

pub any_six : {A : Type 0} (p : A → Bool) (a b c d e f : List A)
    → list_any p (a ++ (b ++ (c ++ (d ++ (e ++ f))))) ≡ (list_any p a || (list_any p b || (list_any p c || (list_any p d || (list_any p e || list_any p f)))))
any_six p a b c d e f =
    rw (
      list_any-append p a (b ++ (c ++ (d ++ (e ++ f)))),
      list_any-append p b (c ++ (d ++ (e ++ f))),
      list_any-append p c (d ++ (e ++ f)),
      list_any-append p d (e ++ f),
      list_any-append p e f,
    ) refl

-- what a test says of tags by what they name
pub any_through : (p : List ℕ → Bool) (tags : List Tag) → list_any (λ (g : Tag). p g.href) tags ≡ list_any p (map (λ (g : Tag). g.href) tags)
any_through p tags = sym (list_any-through (λ (g : Tag). g.href) p (λ (g : Tag). p g.href) (λ g. refl) tags)

-- an object refers to what it replies to and to those it mentions
pub mentions_of : (o : Option Object) → option_to_list (reply_in o) ++ map (λ (g : Tag). g.href) (tags_in o) ≡ object_mentions o
mentions_of None = refl
mentions_of (Some o) = refl

-- ---- recipients

-- each far follower of a member occurs once
far_apart : (t : Town) (author b : List ℕ) (s : Bool) → is_each_once (cond s [] (filter (is_far t author) (followers t b))) ≡ true
far_apart t author b true = refl
far_apart t author b false = once_filtered (is_far t author) (followers t b) (followers_once t b)

far_once : (t : Town) (author : List ℕ) (m : Option Actor) → is_each_once (far_followers t author m) ≡ true
far_once t author None = refl
far_once t author (Some b) = far_apart t author b.id (blocks t b.id author)

-- so a name adds those of them that were not found before
pub forwards_apart : (t : Town) (author iri : List ℕ) (found : List (List ℕ))
    → found ++ filter (is_unfound found) (far_followers t author (find (has_followers_at iri) t.actors)) ≡ with_forwards t author found iri
unfolding with_forwards forwards_at
forwards_apart t author iri found =
    let m : Option Actor = find (has_followers_at iri) t.actors in
    sym (added_apart found (far_followers t author m) (far_once t author m))

distinct-more : (before iris : List (List ℕ)) → fold add_new (distinct before) iris ≡ distinct (before ++ iris)
unfolding distinct
distinct-more before iris = sym (fold-append add_new [] before iris)

fold-forwards : (t : Town) (author : List ℕ) (before iris : List (List ℕ))
    → fold (with_forwards t author) (distinct before) iris ≡ distinct (before ++ flat_map (forwards_at t author) iris)
unfolding with_forwards
fold-forwards t author before [] = rw append-nil refl
fold-forwards t author before (iri ∷ iris) =
    ap (λ (found : List (List ℕ)). fold (with_forwards t author) found iris) (distinct-more before (forwards_at t author iri))
    ∙ fold-forwards t author (before ++ forwards_at t author iri) iris
    ∙ ap (λ (all : List (List ℕ)). distinct all) (append_assoc before (forwards_at t author iri) (flat_map (forwards_at t author) iris))

-- those of three lists, one after the other
pub gathered : (t : Town) (author : List ℕ) (a b c : List (List ℕ))
    → fold (with_forwards t author) (fold (with_forwards t author) (fold (with_forwards t author) [] a) b) c ≡ distinct (flat_map (forwards_at t author) (a ++ (b ++ c)))
unfolding distinct
gathered t author a b c =
    sym (fold-append (with_forwards t author) (fold (with_forwards t author) [] a) b c)
    ∙ sym (fold-append (with_forwards t author) [] a (b ++ c))
    ∙ fold-forwards t author [] (a ++ (b ++ c))

-- ---- whose followers collection it is

-- two strings with the same ending are equal if the rest is
same-front : (a b s : List ℕ) → bytes_eq (a ++ s) (b ++ s) ≡ bytes_eq a b
same-front a b s =
    elim (bytes_eq a b) as (λ e. bytes_eq a b ≡ e → bytes_eq (a ++ s) (b ++ s) ≡ e) [
      | true ↦ λ same. rw ((bytes_eq-Decides a b).0 same) ((bytes_eq-Decides (b ++ s) (b ++ s)).1 refl)
      | false ↦ λ other. is_false (bytes_eq (a ++ s) (b ++ s))
          (λ same. not_both (bytes_eq a b) ((bytes_eq-Decides a b).1 (append_cancel_right a b s ((bytes_eq-Decides (a ++ s) (b ++ s)).0 same))) other)
    ] refl

find-agree : {A : Type 0} (p q : A → Bool) → ((x : A) → p x ≡ q x) → (xs : List A) → find p xs ≡ find q xs
find-agree p q same [] = refl
find-agree p q same (x ∷ xs) = rw (same x, find-agree p q same xs) refl

-- the member's followers collection has such an id if the member's id is the rest
pub found_by_rest : (iri rest : List ℕ) (actors : List Actor) → iri ≡ followers_id rest → find (has_followers_at iri) actors ≡ find (has_id rest) actors
unfolding has_followers_at has_id
found_by_rest iri rest actors is = rw is (find-agree _ _ (λ b. same-front b.id rest (codes "/followers")) actors)

-- and no member's has it if it does not end so
pub none_at : (iri : List ℕ) (actors : List Actor) → ((rest : List ℕ) → iri ≢ followers_id rest) → find (has_followers_at iri) actors ≡ None
unfolding has_followers_at
none_at iri [] other = refl
none_at iri (b ∷ actors) other =
    let no : bytes_eq (followers_id b.id) iri ≡ false = is_false (bytes_eq (followers_id b.id) iri) (λ same. other b.id (sym ((bytes_eq-Decides (followers_id b.id) iri).0 same))) in
    rw no (none_at iri actors other)
