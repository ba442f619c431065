-- The rows of the router: each kind has one, and the rows are clear of each other.
use Rattle.std.proofs.Common.{◌≡◌, ℕ, ◌<◌, ◌≤◌, ◌+◌, ◌&&◌, List, [], ◌∷◌, Option, None, Some, Ok, Err, Bool, true, false, cond, refl, drop, drop-cons, add-one, get_or, length}
use Rattle.std.specs.Prelude.{codes, is_none, leb}
use Rattle.std.specs.Cmp.Lexicographic.{bytes_decides}
use Rattle.std.proofs.Math.ListN.{drop_of_length-le}
use Rattle.std.proofs.lemmas.Bool.{and_parts}
use Rattle.matchit.specs.Rows.{RowsOf, comes_before}
use Rattle.matchit.specs.Route.{Scan, parse_route, scan}
use Rattle.matchit.specs.Router.{RouteOf, InsertsRead, Refused, nearest}
use Rattle.matchit.specs.Order.{placed, lookup}
use Rattle.matchit.specs.Seek.{same_text}
use Rattle.matchit.specs.declared.error.InsertError.{InsertError}
use Rattle.matchit.specs.declared.error.InsertError.TheVariants.{Conflict, InvalidParamSegment, InvalidParam, InvalidCatchAll, OutOfMemory}
use Rattle.matchit.specs.Params.{named}
use Rattle.fedi_routes.specs.Patterns.{is_plain, are_clear_of}
use Rattle.fedi_routes.proofs.Taken.{pairs, wilds}
use Rattle.fedi_town.specs.Collections.{text_of}
use Rattle.fedi_routes.specs.Table.{route_text, pattern_of, names_of, route_of, added, kinds, rows}
use Rattle.fedi_routes.specs.declared.kinds.Kind.{Kind}
use Rattle.fedi_routes.specs.declared.kinds.Kind.TheVariants.{Webfinger, Member, Numbered, Board}
use Rattle.fedi_routes.specs.declared.kinds.Part.TheVariants.{Actor}
use Rattle.fedi_routes.specs.declared.kinds.NumberedPart.TheVariants.{Activity}

-- ---- the route of each kind

-- the index at which the last name of its text begins
abbrev start_of : Kind → ℕ
start_of Webfinger = 0
start_of (Member part) = 8
start_of (Numbered part) = 17
start_of Board = 17

-- those of these segments that its parameters take
abbrev pub name_in : Kind → List (List ℕ) → List ℕ
name_in Webfinger ps = []
name_in (Member part) ps = get_or ps 0 []
name_in (Numbered part) ps = get_or ps 0 []
name_in Board ps = get_or ps 0 []

abbrev pub number_in : Kind → List (List ℕ) → List ℕ
number_in Webfinger ps = []
number_in (Member part) ps = []
number_in (Numbered part) ps = get_or (drop 1 ps) 0 []
number_in Board ps = get_or (drop 1 ps) 0 []

-- the result of reading its text
abbrev scan_of : Kind → Scan
scan_of kind = record {
  pattern = pattern_of kind;
  text = route_text kind;
  names = names_of kind;
  name_start = start_of kind;
  catch_all = false;
  mode = 0;
}

pub record Good (kind : Kind) : Type 0 where
  pub parsed : parse_route (route_text kind) ≡ Ok (scan_of kind)
  pub found : lookup (pattern_of kind) rows ≡ Some (route_of kind)
  pub clear : are_clear_of (pattern_of kind) rows ≡ true
  pub plain : is_plain (pattern_of kind) ≡ true
  pub short : leb (length (pattern_of kind)) 18446744073709551615 ≡ true
  pub counted : wilds (pattern_of kind) ≡ length (names_of kind)
  pub name : (ps : List (List ℕ)) → text_of (named (codes "name") (pairs (route_text kind) (names_of kind) ps)) ≡ name_in kind ps
  pub number : (ps : List (List ℕ)) → text_of (named (codes "item") (pairs (route_text kind) (names_of kind) ps)) ≡ number_in kind ps

-- each is computed
pub good : (kind : Kind) → Good kind
unfolding rows scan
good Webfinger = record { parsed = refl; found = refl; clear = refl; plain = refl; short = refl; counted = refl; name = λ ps. refl; number = λ ps. refl }
good (Member Actor) = record { parsed = refl; found = refl; clear = refl; plain = refl; short = refl; counted = refl; name = λ ps. refl; number = λ ps. refl }
good (Member part) = record { parsed = refl; found = refl; clear = refl; plain = refl; short = refl; counted = refl; name = λ ps. refl; number = λ ps. refl }
good (Numbered Activity) = record { parsed = refl; found = refl; clear = refl; plain = refl; short = refl; counted = refl; name = λ ps. refl; number = λ ps. refl }
good (Numbered part) = record { parsed = refl; found = refl; clear = refl; plain = refl; short = refl; counted = refl; name = λ ps. refl; number = λ ps. refl }
good Board = record { parsed = refl; found = refl; clear = refl; plain = refl; short = refl; counted = refl; name = λ ps. refl; number = λ ps. refl }

pub all_plain : are_clear_of [] rows ≡ true
unfolding rows
all_plain = refl

-- ---- the rows that the insertions make

pub inserted : (kind : Kind) (old new : RowsOf (RouteOf Kind)) → InsertsRead (parse_route (route_text kind)) kind old new (Ok tt)
    → new ≡ placed (pattern_of kind, route_of kind) old
inserted kind old new h = (rw (good kind).parsed at h).1

-- for a route without a conflict, out of memory is the only error of the router
pub memory_alone : (kind : Kind) (old new : RowsOf (RouteOf Kind)) (e : InsertError) → nearest (pattern_of kind) old ≡ None
    → InsertsRead (parse_route (route_text kind)) kind old new (Err e) → e ≡ OutOfMemory
memory_alone kind old new e free h = none_other e free (rw (good kind).parsed at h).1
  where
    none_other : (e : InsertError) → nearest (pattern_of kind) old ≡ None → Refused (pattern_of kind) old e → e ≡ OutOfMemory
    none_other (Conflict with) free found = let n = found.1 in cc
    none_other OutOfMemory free found = refl
    none_other InvalidParamSegment free found = absurd found
    none_other InvalidParam free found = absurd found
    none_other InvalidCatchAll free found = absurd found

-- each of these has no conflict with those before it
abbrev pub are_free : List Kind → RowsOf (RouteOf Kind) → Bool
are_free [] rs = true
are_free (kind ∷ rest) rs = is_none (nearest (pattern_of kind) rs) && are_free rest (added (kind ∷ []) rs)

pub all_free : are_free kinds [] ≡ true
all_free = refl

none_is : {A : Type 0} (o : Option A) → is_none o ≡ true → o ≡ None
none_is None h = refl
none_is (Some x) h = absurd cc

pub free_one : (i : ℕ) (rs : RowsOf (RouteOf Kind)) → i < length kinds → are_free (drop i kinds) rs ≡ true
    → (nearest (pattern_of (get_or kinds i Webfinger)) rs ≡ None) × (are_free (drop (i + 1) kinds) (added (get_or kinds i Webfinger ∷ []) rs) ≡ true)
free_one i rs h free =
    let split = drop-cons kinds i Webfinger h in
    let both = and_parts (is_none (nearest (pattern_of (get_or kinds i Webfinger)) rs)) (are_free (drop (i + 1) kinds) (added (get_or kinds i Webfinger ∷ []) rs))
    (rw add-one (rw split at free)) in
    (none_is _ both.0, both.1)

pub added_one : (i : ℕ) (old new : RowsOf (RouteOf Kind)) → i < length kinds → added (drop i kinds) old ≡ rows
    → new ≡ added (get_or kinds i Webfinger ∷ []) old → added (drop (i + 1) kinds) new ≡ rows
added_one i old new h before e =
    let split = drop-cons kinds i Webfinger h in rw (add-one, e) (rw split at before)

pub added_all : (i : ℕ) (rs : RowsOf (RouteOf Kind)) → length kinds ≤ i → added (drop i kinds) rs ≡ rows → rs ≡ rows
added_all i rs h e =
    let none : drop i kinds ≡ [] = drop_of_length-le kinds h in rw none at e

-- ---- each row is of a kind

abbrev Ours : RowsOf (RouteOf Kind) → Type 0
Ours [] = Unit {0}
Ours ((t, r) ∷ rest) = (t ≡ pattern_of r.value) × (r ≡ route_of r.value) × Ours rest

ours_placed : (kind : Kind) (rs : RowsOf (RouteOf Kind)) → Ours rs → Ours (placed (pattern_of kind, route_of kind) rs)
ours_placed kind [] h = (refl, refl, tt)
ours_placed kind ((t, r) ∷ rs) h = by (comes_before (pattern_of kind) t) (ours_placed kind rs h.2)
  where
    by : (v : Bool) → Ours (placed (pattern_of kind, route_of kind) rs)
        → Ours (cond v ((pattern_of kind, route_of kind) ∷ (t, r) ∷ rs) ((t, r) ∷ placed (pattern_of kind, route_of kind) rs))
    by true ih = (refl, refl, h)
    by false ih = (h.0, h.1, ih)

ours_added : (ks : List Kind) (rs : RowsOf (RouteOf Kind)) → Ours rs → Ours (added ks rs)
ours_added [] rs h = h
ours_added (k ∷ ks) rs h = ours_added ks (placed (pattern_of k, route_of k) rs) (ours_placed k rs h)

pub ours : Ours rows
unfolding rows
ours = ours_added kinds [] tt

-- a row that is found has the pattern and the route of its kind
pub ours_found : (t : List ℕ) (r : RouteOf Kind) (rs : RowsOf (RouteOf Kind)) → Ours rs → lookup t rs ≡ Some r → (t ≡ pattern_of r.value) × (r ≡ route_of r.value)
ours_found t r [] h e = cc
ours_found t r ((u, k) ∷ rs) h e = by (same_text u t) refl e (ours_found t r rs h.2)
  where
    by : (v : Bool) → same_text u t ≡ v → cond v (Some k) (lookup t rs) ≡ Some r
        → (lookup t rs ≡ Some r → (t ≡ pattern_of r.value) × (r ≡ route_of r.value)) → (t ≡ pattern_of r.value) × (r ≡ route_of r.value)
    by true d g ih =
        let same : u ≡ t = (bytes_decides u t).0 d in
        let k_is : k ≡ r = cc in
        rw (← same, ← k_is) (h.0, h.1)
    by false d g ih = ih g
