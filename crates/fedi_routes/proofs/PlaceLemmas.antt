-- A path leads to the place that its route and the texts in it determine, and to no other.
use Rattle.std.proofs.Common.{◌≡◌, ℕ, List, [], ◌∷◌, ◌++◌, append_assoc, append-nil, length, Option, Some, None, true, refl, sym, ap, ◌∙◌, arith, nat_le}
use Rattle.std.specs.Prelude.{codes, decimal, IsTrue, MatchOption, ◌&&◌}
use Rattle.std.specs.List.{list_all}
use Rattle.std.specs.Str.Parse.{AllDigits}
use Rattle.std.proofs.lemmas.Fmt.{decimal_injective, decimal_is_IsNumeral}
use Rattle.std.proofs.lemmas.Str.Parse.{digit_from_value}
use Rattle.std.proofs.lemmas.Bool.{and_parts, and_from}
use Rattle.std.proofs.lemmas.Bool.Decides.{nat_tests}
use Rattle.fedi_address.specs.Names.{is_name, is_name_byte}
use Rattle.fedi_routes.specs.Patterns.{is_segment_byte, IsSegment}
use Rattle.fedi_town.specs.declared.caller.Which.TheVariants.{Inbox, Outbox, Followers, Following, Liked, Likes, Shares}
use Rattle.fedi_model.specs.Places.{IsNumber, IsPlace, LeadsTo, place_path}
use Rattle.fedi_routes.specs.Table.{IsAt, IsRouted, member_place, numbered_place}
use Rattle.fedi_routes.specs.declared.kinds.Kind.{Kind}
use Rattle.fedi_routes.specs.declared.kinds.Kind.TheVariants as kind
use Rattle.fedi_routes.specs.declared.kinds.Part.{Part}
use Rattle.fedi_routes.specs.declared.kinds.Part.TheVariants as part
use Rattle.fedi_routes.specs.declared.kinds.NumberedPart.{NumberedPart}
use Rattle.fedi_routes.specs.declared.kinds.NumberedPart.TheVariants as numbered
use Rattle.fedi_model.specs.declared.place.Place.{Place}
use Rattle.fedi_model.specs.declared.place.Place.TheVariants.{Webfinger, Actor, Collection, Board, Activity, Object}
use Rattle.fedi_routes.proofs.Rows.{name_in, number_in}
use Rattle.fedi_routes.proofs.Exact.{routed_once}

-- ---- names and numbers are segments

name_bytes : (xs : List ℕ) → list_all is_name_byte xs ≡ true → list_all is_segment_byte xs ≡ true
name_bytes [] h = refl
name_bytes (x ∷ xs) h =
    let parts = and_parts (is_name_byte x) (list_all is_name_byte xs) h in
    let one : is_segment_byte x ≡ true = grind (arith, nat_tests, parts.0) in
    and_from (is_segment_byte x) (list_all is_segment_byte xs) one (name_bytes xs parts.1)

name_segment : (name : List ℕ) → IsTrue (is_name name) → IsSegment name
name_segment name h =
    let parts = and_parts (nat_le 1 (length name) && nat_le (length name) 30) (list_all is_name_byte name) h in
    let least = (and_parts (nat_le 1 (length name)) (nat_le (length name) 30) parts.0).0 in
    record { some = grind (arith, nat_tests, least); bytes = name_bytes name parts.1 }

digit_bytes : (xs : List ℕ) → AllDigits 10 xs → list_all is_segment_byte xs ≡ true
digit_bytes [] h = refl
digit_bytes (x ∷ xs) h =
    let range = digit_from_value x h.0 in
    let one : is_segment_byte x ≡ true = grind (arith, nat_tests, range) in
    and_from (is_segment_byte x) (list_all is_segment_byte xs) one (digit_bytes xs h.1)

number_segment : (number : ℕ) → IsNumber number → IsSegment (decimal number)
number_segment number h =
    let is = (decimal_is_IsNumeral number (omega arith)).0 in
    record { some = is.0; bytes = digit_bytes (decimal number) is.1 }

-- ---- the route of a place

abbrev kind_of : Place → Kind
kind_of Webfinger = kind.Webfinger
kind_of (Actor name) = kind.Member part.Actor
kind_of (Collection (Inbox name)) = kind.Member part.Inbox
kind_of (Collection (Outbox name)) = kind.Member part.Outbox
kind_of (Collection (Followers name)) = kind.Member part.Followers
kind_of (Collection (Following name)) = kind.Member part.Following
kind_of (Collection (Liked name)) = kind.Member part.Liked
kind_of (Collection (Likes name number)) = kind.Numbered numbered.Likes
kind_of (Collection (Shares name number)) = kind.Numbered numbered.Shares
kind_of (Board name None) = kind.Member part.Boards
kind_of (Board name (Some slug)) = kind.Board
kind_of (Activity name number) = kind.Numbered numbered.Activity
kind_of (Object name number) = kind.Numbered numbered.Object

abbrev name_at : Place → List ℕ
name_at Webfinger = []
name_at (Actor name) = name
name_at (Collection (Inbox name)) = name
name_at (Collection (Outbox name)) = name
name_at (Collection (Followers name)) = name
name_at (Collection (Following name)) = name
name_at (Collection (Liked name)) = name
name_at (Collection (Likes name number)) = name
name_at (Collection (Shares name number)) = name
name_at (Board name slug) = name
name_at (Activity name number) = name
name_at (Object name number) = name

abbrev number_at : Place → List ℕ
number_at (Collection (Likes name number)) = decimal number
number_at (Collection (Shares name number)) = decimal number
number_at (Board name (Some slug)) = slug
number_at (Activity name number) = decimal number
number_at (Object name number) = decimal number
number_at place = []

-- the path of a route with nothing after the last parameter, and that of an object's collection
bare : (name : List ℕ) → codes "/users/" ++ name ≡ codes "/users/" ++ (name ++ [])
bare name = ap (λ t. codes "/users/" ++ t) (sym (append-nil name))

bare_number : (name middle number : List ℕ) → codes "/users/" ++ (name ++ (middle ++ number)) ≡ codes "/users/" ++ (name ++ (middle ++ (number ++ [])))
bare_number name middle number = ap (λ t. codes "/users/" ++ (name ++ (middle ++ t))) (sym (append-nil number))

behind_number : (name number last : List ℕ) → (codes "/users/" ++ (name ++ (codes "/o/" ++ number))) ++ last ≡ codes "/users/" ++ (name ++ (codes "/o/" ++ (number ++ last)))
behind_number name number last = ap (λ t. codes "/users/" ++ t) (append_assoc name (codes "/o/" ++ number) last)

-- the path of the place, as its route makes it
routed_path : (place : Place) → IsPlace place → IsRouted (kind_of place) (name_at place) (number_at place) (place_path place)
routed_path Webfinger h = record { segments = tt; spelled = refl }
routed_path (Actor name) h = record { segments = (name_segment name h, tt); spelled = bare name }
routed_path (Collection (Inbox name)) h = record { segments = (name_segment name h, tt); spelled = refl }
routed_path (Collection (Outbox name)) h = record { segments = (name_segment name h, tt); spelled = refl }
routed_path (Collection (Followers name)) h = record { segments = (name_segment name h, tt); spelled = refl }
routed_path (Collection (Following name)) h = record { segments = (name_segment name h, tt); spelled = refl }
routed_path (Collection (Liked name)) h = record { segments = (name_segment name h, tt); spelled = refl }
routed_path (Collection (Likes name n)) h = record {
  segments = (name_segment name h.0, (number_segment n h.1, tt));
  spelled = behind_number name (decimal n) (codes "/likes");
}
routed_path (Collection (Shares name n)) h = record {
  segments = (name_segment name h.0, (number_segment n h.1, tt));
  spelled = behind_number name (decimal n) (codes "/shares");
}
routed_path (Board name None) h = record { segments = (name_segment name h.0, tt); spelled = refl }
routed_path (Board name (Some slug)) h = record {
  segments = (name_segment name h.0, (name_segment slug h.1, tt));
  spelled = bare_number name (codes "/c/") slug;
}
routed_path (Activity name n) h = record {
  segments = (name_segment name h.0, (number_segment n h.1, tt));
  spelled = bare_number name (codes "/a/") (decimal n);
}
routed_path (Object name n) h = record {
  segments = (name_segment name h.0, (number_segment n h.1, tt));
  spelled = bare_number name (codes "/o/") (decimal n);
}

routed_at : (place : Place) (path : List ℕ) → LeadsTo path place → IsRouted (kind_of place) (name_at place) (number_at place) path
routed_at place path h =
    let there = routed_path place h.there in record { segments = there.segments; spelled = h.spelled ∙ there.spelled }

-- it is the place of that route
is_at : (place : Place) → IsPlace place → IsAt (kind_of place) (name_at place) (number_at place) place
is_at Webfinger h = refl
is_at (Actor name) h = (h, refl)
is_at (Collection (Likes name n)) h = (h.0, (n, h.1, refl, refl))
is_at (Collection (Shares name n)) h = (h.0, (n, h.1, refl, refl))
is_at (Collection (Inbox name)) h = (h, refl)
is_at (Collection (Outbox name)) h = (h, refl)
is_at (Collection (Followers name)) h = (h, refl)
is_at (Collection (Following name)) h = (h, refl)
is_at (Collection (Liked name)) h = (h, refl)
is_at (Board name None) h = (h.0, refl)
is_at (Board name (Some slug)) h = (h.0, h.1, refl)
is_at (Activity name n) h = (h.0, (n, h.1, refl, refl))
is_at (Object name n) h = (h.0, (n, h.1, refl, refl))

-- only the texts that its parameters took matter
is_at_same : (k : Kind) (n m o p : List ℕ) (place : Place) → name_in k (n ∷ m ∷ []) ≡ name_in k (o ∷ p ∷ [])
    → number_in k (n ∷ m ∷ []) ≡ number_in k (o ∷ p ∷ []) → IsAt k n m place → IsAt k o p place
is_at_same kind.Webfinger n m o p place name number h = h
is_at_same (kind.Member part) n m o p place name number h = rw (← name) h
is_at_same (kind.Numbered part) n m o p place name number h = rw (← name, ← number) h
is_at_same kind.Board n m o p place name number h = rw (← name, ← number) h

-- what a path leads to is what is at the route that is found
pub stands_at : (place : Place) (k : Kind) (name number path : List ℕ) → IsRouted k name number path → LeadsTo path place → IsAt k name number place
stands_at place k name number path r h =
    let one = routed_once (kind_of place) k (name_at place) (number_at place) name number path (routed_at place path h) r in
    rw one.kind at (is_at_same (kind_of place) (name_at place) (number_at place) name number place one.name one.number (is_at place h.there))

-- and a path leads to what is at its route: both have the path that the route makes
stands_there : (place : Place) (path : List ℕ) → IsPlace place → IsRouted (kind_of place) (name_at place) (number_at place) path → LeadsTo path place
stands_there place path h r = record { there = h; spelled = r.spelled ∙ sym (routed_path place h).spelled }

pub leads_to : (place : Place) (k : Kind) (name number path : List ℕ) → IsRouted k name number path → IsAt k name number place → LeadsTo path place
leads_to place kind.Webfinger name number path r h = rw h (record { there = tt; spelled = r.spelled })
leads_to place (kind.Member p) name number path r h = rw h.1 (member p h.0 r)
  where
    member : (p : Part) → IsTrue (is_name name) → IsRouted (kind.Member p) name number path → LeadsTo path (member_place p name)
    member part.Actor is r = stands_there (Actor name) path is (record { segments = r.segments; spelled = r.spelled })
    member part.Inbox is r = record { there = is; spelled = r.spelled }
    member part.Outbox is r = record { there = is; spelled = r.spelled }
    member part.Followers is r = record { there = is; spelled = r.spelled }
    member part.Following is r = record { there = is; spelled = r.spelled }
    member part.Liked is r = record { there = is; spelled = r.spelled }
    member part.Boards is r = record { there = (is, tt); spelled = r.spelled }
leads_to place (kind.Numbered p) name number path r h = rw h.1.3 (numbered_part p h.0 h.1.0 h.1.1 (rw h.1.2 at r))
  where
    numbered_part : (p : NumberedPart) → IsTrue (is_name name) → (n : ℕ) → IsNumber n → IsRouted (kind.Numbered p) name (decimal n) path
        → LeadsTo path (numbered_place p name n)
    numbered_part numbered.Activity is n small r = stands_there (Activity name n) path (is, small) r
    numbered_part numbered.Object is n small r = stands_there (Object name n) path (is, small) r
    numbered_part numbered.Likes is n small r = stands_there (Collection (Likes name n)) path (is, small) r
    numbered_part numbered.Shares is n small r = stands_there (Collection (Shares name n)) path (is, small) r
leads_to place kind.Board name number path r h = rw h.2 (stands_there (Board name (Some number)) path (h.0, h.1) r)

-- ---- one path, one place

-- the kind, the name and the number determine the place
at_once : (k : Kind) (name number : List ℕ) (a b : Place) → IsAt k name number a → IsAt k name number b → a ≡ b
at_once kind.Webfinger name number a b x y = x ∙ sym y
at_once (kind.Member p) name number a b x y = x.1 ∙ sym y.1
at_once kind.Board name number a b x y = x.2 ∙ sym y.2
at_once (kind.Numbered p) name number a b x y =
    let same : x.1.0 ≡ y.1.0 = decimal_injective x.1.0 y.1.0 (omega arith) (omega arith) (sym x.1.2 ∙ y.1.2) in
    x.1.3 ∙ (ap (λ n. numbered_place p name n) same ∙ sym y.1.3)

pub place_once : (path : List ℕ) (a b : Place) → LeadsTo path a → LeadsTo path b → a ≡ b
place_once path a b x y =
    let r = routed_at b path y in
    at_once (kind_of b) (name_at b) (number_at b) a b (stands_at a (kind_of b) (name_at b) (number_at b) path r x) (is_at b y.there)

-- ---- what is found

pub no_place : (path : List ℕ) → ((k : Kind) (name number : List ℕ) → ¬ (IsRouted k name number path)) → (place : Place) → ¬ (LeadsTo path place)
no_place path none place h = none (kind_of place) (name_at place) (number_at place) (routed_at place path h)

pub place_found : (path : List ℕ) (k : Kind) (name number : List ℕ) (found : Option Place) → IsRouted k name number path
    → MatchOption found ((place : Place) → ¬ (IsAt k name number place)) (IsAt k name number)
    → MatchOption found ((place : Place) → ¬ (LeadsTo path place)) (LeadsTo path)
place_found path k name number None r h = λ place there. h place (stands_at place k name number path r there)
place_found path k name number (Some place) r h = leads_to place k name number path r h
