-- The owner of a collection is of this host.
use Rattle.std.proofs.Common.{◌≡◌, ℕ, ◌<◌, ◌≤◌, ◌^◌, ◌==◌, arith, Bool, true, List, [], ◌∷◌, ◌++◌, Option, Some, None, refl, sym, subst, ◌∙◌, length, append_assoc}
use Rattle.std.specs.Cmp.Derive.{both_true}
use Rattle.std.specs.Prelude.{◌&&◌, codes, nat_le, option_map, slice_index}
use Rattle.std.specs.List.{list_all, list_any}
use Rattle.std.proofs.lemmas.Bool.{and_parts, le-leb, leb-true}
use Rattle.std.proofs.lemmas.List.{length-append}
use Rattle.std.proofs.lemmas.List.Folds.{list_all-append}
use Rattle.fedi_address.specs.Hosts.{address, is_host_text, is_path_byte, is_plain_path}
use Rattle.fedi_address.specs.Iris.{host_of}
use Rattle.fedi_address.specs.Names.{is_name, is_name_byte}
use Rattle.fedi_address.proofs.Parts.{host_of-address}
use Rattle.fedi_index.specs.Shelves.{IsNamed}
use Rattle.fedi_town.proofs.IdsTown.{found_any}
use Rattle.fedi_town.proofs.Members.{is_member}
use Rattle.fedi_town.proofs.Naming.{members_have_ids}
use Rattle.fedi_town.proofs.Sound.{is_set, town_sound}
use Rattle.fedi_objects.specs.declared.entry.Entry.{Entry}
use Rattle.fedi_town.specs.declared.act.Actor.{Actor}
use Rattle.fedi_town.specs.declared.caller.Which.{Which}
use Rattle.fedi_town.specs.declared.caller.Which.TheVariants.{Inbox, Outbox, Followers, Following, Liked, Likes, Shares}
use Rattle.fedi_town.specs.Addressing.{is_of_town}
use Rattle.fedi_town.specs.Boards.{board_id}
use Rattle.fedi_town.specs.Collections.{owner_of}
use Rattle.fedi_town.specs.Histories.{town}
use Rattle.fedi_town.specs.Ids.{actor_id, actor_path, is_of_host, object_id, object_path}
use Rattle.fedi_town.specs.Legal.{IsLegal}
use Rattle.fedi_town.specs.Towns.{Town, has_name, id_of}
use Rattle.fedi_town.proofs.Paths.{actor_path_is_plain, object_path_is_plain}
use Rattle.fedi_town.proofs.Texts.{bytes_eq-same}

-- an address at the host belongs to the host
address_here : (host path : List ℕ) → host_of (address host path) ≡ host → is_of_host host (address host path) ≡ true
unfolding is_of_host
address_here host path own = rw (own, bytes_eq-same host) refl

actor_here : (host name : List ℕ) → is_host_text host ≡ true → is_name name ≡ true → is_of_host host (actor_id host name) ≡ true
unfolding actor_id
actor_here host name shape named = address_here host (actor_path name) (host_of-address host (actor_path name) shape (actor_path_is_plain name named))

object_here : (host name : List ℕ) (number : ℕ) → is_host_text host ≡ true → is_name name ≡ true → number < 2 ^ 64 → is_of_host host (object_id host name number) ≡ true
unfolding object_id
object_here host name number shape named small =
    address_here host (object_path name number) (host_of-address host (object_path name number) shape (object_path_is_plain name number small named))

-- before the server was set up there are no members
no_members : (p : Actor → Bool) (xs : List Actor) → list_all (is_member None) xs ≡ true → list_any p xs ≡ true → ⊥
no_members p [] all any = absurd cc
no_members p (x ∷ xs) all any = absurd cc

pub member_here : (history : List Entry) (host : Option (List ℕ)) (name id : List ℕ) → IsLegal history → (town history).host ≡ host → id_of (town history) name ≡ Some id
    → is_of_town host id ≡ true
member_here history None name id legal own known =
    let t : Town = town history in
    let all : list_all (is_member None) t.actors ≡ true = subst (λ (k : Option (List ℕ)). list_all (is_member k) t.actors ≡ true) own (town_sound history legal).sound.members in
    absurd (no_members (has_name name) t.actors all (found_any (has_name name) t.actors id known))
member_here history (Some host) name id legal own known =
    let is = members_have_ids history host name id legal own known in
    let shape : is_host_text host ≡ true = subst (λ (k : Option (List ℕ)). is_set k ≡ true) own (town_sound history legal).host in
    rw is.1 (actor_here host name shape is.0)

made_here : (history : List Entry) (host : Option (List ℕ)) (name : List ℕ) (number : ℕ) (id : List ℕ) → IsLegal history → (town history).host ≡ host
    → is_name name ≡ true → number < 2 ^ 64 → option_map (λ h. object_id h name number) host ≡ Some id → is_of_town host id ≡ true
made_here history None name number id legal own named small is = absurd cc
made_here history (Some host) name number id legal own named small is =
    let shape : is_host_text host ≡ true = subst (λ (k : Option (List ℕ)). is_set k ≡ true) own (town_sound history legal).host in
    let same : object_id host name number ≡ id = cc in
    subst (λ (i : List ℕ). is_of_host host i ≡ true) same (object_here host name number shape named small)

-- In a legal history the owner of a collection is of this host.
pub owner_here : (history : List Entry) (which : Which) (id : List ℕ) → IsLegal history → IsNamed which → owner_of (town history) which ≡ Some id
    → is_of_town (town history).host id ≡ true
owner_here history (Inbox name) id legal named is = member_here history (town history).host name id legal refl is
owner_here history (Outbox name) id legal named is = member_here history (town history).host name id legal refl is
owner_here history (Followers name) id legal named is = member_here history (town history).host name id legal refl is
owner_here history (Following name) id legal named is = member_here history (town history).host name id legal refl is
owner_here history (Liked name) id legal named is = member_here history (town history).host name id legal refl is
owner_here history (Likes name number) id legal named is = made_here history (town history).host name number id legal refl named.0 named.1 is
owner_here history (Shares name number) id legal named is = made_here history (town history).host name number id legal refl named.0 named.1 is

-- ---- the collections that members make

-- the bytes of a name are those of a path
name_bytes : (name : List ℕ) → is_name name ≡ true → list_all is_path_byte name ≡ true
name_bytes name named =
    (and_parts (slice_index (actor_path name) 0 == 47 && nat_le (length (actor_path name)) 128) (list_all is_path_byte name) (actor_path_is_plain name named)).1

name_short : (name : List ℕ) → is_name name ≡ true → length name ≤ 30
name_short name named =
    let long = (and_parts (nat_le 1 (length name) && nat_le (length name) 30) (list_all is_name_byte name) named).0 in
    leb-true (length name) 30 (and_parts (nat_le 1 (length name)) (nat_le (length name) 30) long).1

-- the path of a member's collection
abbrev board_path : List ℕ → List ℕ → List ℕ
board_path name slug = actor_path name ++ (codes "/c/" ++ slug)

board_path_is_plain : (name slug : List ℕ) → is_name name ≡ true → is_name slug ≡ true → is_plain_path (board_path name slug) ≡ true
board_path_is_plain name slug named slugged =
    let short : length (board_path name slug) ≤ 128 = omega (arith, length-append name (codes "/c/" ++ slug), name_short name named, name_short slug slugged) in
    let bytes : list_all is_path_byte (name ++ (codes "/c/" ++ slug)) ≡ true =
    list_all-append is_path_byte name (codes "/c/" ++ slug) ∙ both_true (name_bytes name named) (name_bytes slug slugged) in
    both_true (both_true refl (le-leb (length (board_path name slug)) 128 short)) bytes

board_there : (host name slug : List ℕ) → is_host_text host ≡ true → is_name name ≡ true → is_name slug ≡ true → is_of_host host (board_id (actor_id host name) slug) ≡ true
unfolding actor_id
board_there host name slug shape named slugged =
    let path = board_path name slug in
    subst (λ (text : List ℕ). is_of_host host (codes "https://" ++ text) ≡ true) (sym (append_assoc host (actor_path name) (codes "/c/" ++ slug)))
    (address_here host path (host_of-address host path shape (board_path_is_plain name slug named slugged)))

board_of : (history : List Entry) (host : Option (List ℕ)) (name slug id : List ℕ) → IsLegal history → (town history).host ≡ host → is_name slug ≡ true
    → id_of (town history) name ≡ Some id → is_of_town host (board_id id slug) ≡ true
board_of history None name slug id legal own slugged known =
    let far = member_here history None name id legal own known in absurd cc
board_of history (Some host) name slug id legal own slugged known =
    let is = members_have_ids history host name id legal own known in
    let shape : is_host_text host ≡ true = subst (λ (k : Option (List ℕ)). is_set k ≡ true) own (town_sound history legal).host in
    rw is.1 (board_there host name slug shape is.0 slugged)

-- In a legal history a collection that a member makes is of this host.
pub board_here : (history : List Entry) (name slug id : List ℕ) → IsLegal history → is_name slug ≡ true → id_of (town history) name ≡ Some id
    → is_of_town (town history).host (board_id id slug) ≡ true
board_here history name slug id legal slugged known = board_of history (town history).host name slug id legal refl slugged known
