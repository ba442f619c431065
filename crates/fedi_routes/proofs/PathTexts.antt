-- Names and the paths of places are UTF-8.
use Rattle.std.proofs.Common.{◌≡◌, ℕ, zero, suc, List, [], ◌∷◌, ◌++◌, true, length, refl, arith, Bool, None, Some}
use Rattle.std.specs.Prelude.{◌&&◌, codes, decimal, nat_le, nat_lt, IsTrue}
use Rattle.std.specs.List.{list_all}
use Rattle.std.specs.Str.{IsUtf8, IsAscii}
use Rattle.std.proofs.lemmas.Bool.{and_parts}
use Rattle.std.proofs.lemmas.Bool.Decides.{nat_tests}
use Rattle.std.proofs.lemmas.Fmt.{IsAscii-decimal}
use Rattle.std.proofs.lemmas.Str.{IsUtf8-append, IsUtf8-from_ascii}
use Rattle.fedi_town.specs.Ids.{actor_path, object_path}
use Rattle.fedi_town.specs.declared.caller.Which.TheVariants.{Likes, Shares, Inbox, Outbox, Followers, Following, Liked}
use Rattle.fedi_address.specs.Names.{is_name, is_name_byte}
use Rattle.fedi_model.specs.Places.{place_path, IsPlace, IsNumber}
use Rattle.fedi_model.specs.declared.place.Place.{Place}
use Rattle.fedi_model.specs.declared.place.Place.TheVariants.{Webfinger, Actor, Collection, Board, Activity, Object}

name_bytes_ascii : (xs : List ℕ) → list_all is_name_byte xs ≡ true → IsAscii xs
name_bytes_ascii [] h i = grind arith
name_bytes_ascii (x ∷ xs) h zero = grind (arith, nat_tests)
name_bytes_ascii (x ∷ xs) h (suc i) =
    name_bytes_ascii xs (and_parts (is_name_byte x) (list_all is_name_byte xs) h).1 i

-- a name is ASCII, so it is UTF-8
pub name_is_utf8 : (text : List ℕ) → is_name text ≡ true → IsUtf8 text
name_is_utf8 text h =
    IsUtf8-from_ascii text
    (name_bytes_ascii text (and_parts (nat_le 1 (length text) && nat_le (length text) 30) (list_all is_name_byte text) h).1)

-- an ASCII byte
abbrev is_low : ℕ → Bool
is_low b = nat_lt b 128

low : (xs : List ℕ) → list_all is_low xs ≡ true → IsAscii xs
low [] h i = grind arith
low (x ∷ xs) h zero = grind (arith, nat_tests)
low (x ∷ xs) h (suc i) = low xs (and_parts (is_low x) (list_all is_low xs) h).1 i

literal : (xs : List ℕ) → list_all is_low xs ≡ true → IsUtf8 xs
literal xs h = IsUtf8-from_ascii xs (low xs h)

actor_text : (name : List ℕ) → IsTrue (is_name name) → IsUtf8 (actor_path name)
actor_text name h = IsUtf8-append (codes "/users/") name (literal (codes "/users/") refl) (name_is_utf8 name h)

numbered_text : (name middle : List ℕ) (n : ℕ) → IsTrue (is_name name) → IsNumber n → list_all is_low middle ≡ true
    → IsUtf8 (codes "/users/" ++ (name ++ (middle ++ decimal n)))
numbered_text name middle n is small ascii =
    IsUtf8-append (codes "/users/") (name ++ (middle ++ decimal n)) (literal (codes "/users/") refl)
    (IsUtf8-append name (middle ++ decimal n) (name_is_utf8 name is)
    (IsUtf8-append middle (decimal n) (literal middle ascii) (IsUtf8-from_ascii (decimal n) (IsAscii-decimal n (omega arith)))))

object_text : (name : List ℕ) (n : ℕ) → IsTrue (is_name name) → IsNumber n → IsUtf8 (object_path name n)
object_text name n is small = numbered_text name (codes "/o/") n is small refl

behind : (path last : List ℕ) → list_all is_low last ≡ true → IsUtf8 path → IsUtf8 (path ++ last)
behind path last ascii h = IsUtf8-append path last h (literal last ascii)

pub path_text : (place : Place) → IsPlace place → IsUtf8 (place_path place)
path_text Webfinger h = literal (codes "/.well-known/webfinger") refl
path_text (Actor name) h = actor_text name h
path_text (Collection (Likes name n)) h = behind (object_path name n) (codes "/likes") refl (object_text name n h.0 h.1)
path_text (Collection (Shares name n)) h = behind (object_path name n) (codes "/shares") refl (object_text name n h.0 h.1)
path_text (Collection (Inbox name)) h = behind (actor_path name) (codes "/inbox") refl (actor_text name h)
path_text (Collection (Outbox name)) h = behind (actor_path name) (codes "/outbox") refl (actor_text name h)
path_text (Collection (Followers name)) h = behind (actor_path name) (codes "/followers") refl (actor_text name h)
path_text (Collection (Following name)) h = behind (actor_path name) (codes "/following") refl (actor_text name h)
path_text (Collection (Liked name)) h = behind (actor_path name) (codes "/liked") refl (actor_text name h)
path_text (Board name None) h = behind (actor_path name) (codes "/c") refl (actor_text name h.0)
path_text (Board name (Some slug)) h =
    IsUtf8-append (actor_path name) (codes "/c/" ++ slug) (actor_text name h.0)
    (IsUtf8-append (codes "/c/") slug (literal (codes "/c/") refl) (name_is_utf8 slug h.1))
path_text (Activity name n) h = numbered_text name (codes "/a/") n h.0 h.1 refl
path_text (Object name n) h = object_text name n h.0 h.1
