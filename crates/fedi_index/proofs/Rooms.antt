-- Room in the lists that an activity is in.
use Rattle.std.proofs.Common.{◌≡◌, ℕ, ◌≤◌, arith, Bool, true, false, List, [], Option, Some, None, refl, ◌∙◌}
use Rattle.std.specs.Prelude.{◌&&◌, ◌||◌}
use Rattle.std.specs.Str.{bytes_eq}
use Rattle.std.proofs.lemmas.Bool.{and_parts}
use Rattle.std.proofs.lemmas.Slice.Eq.{bytes_eq-Decides}
use Rattle.fedi_index.specs.declared.collection.Collection.{Collection}
use Rattle.fedi_index.specs.declared.collection.Collection.TheVariants.{Outbox}
use Rattle.fedi_index.specs.Candidates.{is_same}
use Rattle.fedi_index.specs.Growing.{HasRoom, is_inbox, is_kept, is_one}
use Rattle.fedi_index.specs.Lists.{IsRoomier, Listing, room_of}
use Rattle.fedi_index.proofs.SameKind.{same_kind}
use Rattle.fedi_index.proofs.Added.{IsOf, all_lists, no-inbox, no-kind, no-owner}
use Rattle.fedi_town.specs.declared.act.Act.{Act}
use Rattle.fedi_town.specs.Addressing.{is_of_town}

-- the owner of this list and its collection
one-is : (host : Option (List ℕ)) (kind : Collection) (owner : List ℕ) (k : Collection) (o : List ℕ) → is_one host (Some kind) (Some owner) k o ≡ true
    → (is_of_town host o ≡ true) × (kind ≡ k) × (owner ≡ o)
unfolding is_one
one-is host kind owner k o is =
    let parts = and_parts (is_of_town host o) (is_same kind k && bytes_eq owner o) is in
    let both = and_parts (is_same kind k) (bytes_eq owner o) parts.1 in
    (parts.0, same_kind kind k both.0, (bytes_eq-Decides owner o).0 both.1)

pub room_of_one : (host : Option (List ℕ)) (kind : Collection) (owner : List ℕ) (n : ℕ) (lists : List Listing) → n ≤ room_of kind owner lists → HasRoom (is_one host (Some kind) (Some owner)) n lists
room_of_one host kind owner n lists room = record { room = λ k o is. let own = one-is host kind owner k o is in rw (← own.1, ← own.2) room }

pub room_elsewhere : (host : Option (List ℕ)) (kind : Collection) (owner : List ℕ) (n : ℕ) (lists : List Listing) → is_of_town host owner ≡ false → HasRoom (is_one host (Some kind) (Some owner)) n lists
room_elsewhere host kind owner n lists far = record {
  room = λ k o is. absurd (let own = one-is host kind owner k o is in let near : is_of_town host owner ≡ true = rw own.2 own.0 in cc);
}

-- no lists
pub room_of_none : (listed : Collection → List ℕ → Bool) (n : ℕ) (lists : List Listing) → ((k : Collection) (o : List ℕ) → listed k o ≡ false) → HasRoom listed n lists
room_of_none listed n lists none = record { room = λ k o is. absurd (let no = none k o in cc) }

pub room_of_no_kind : (host owner : Option (List ℕ)) (n : ℕ) (lists : List Listing) → HasRoom (is_one host None owner) n lists
room_of_no_kind host owner n lists = room_of_none (is_one host None owner) n lists (no-kind host owner)

pub room_of_no_owner : (host : Option (List ℕ)) (kind : Option Collection) (n : ℕ) (lists : List Listing) → HasRoom (is_one host kind None) n lists
room_of_no_owner host kind n lists = room_of_none (is_one host kind None) n lists (no-owner host kind)

pub room_of_no_inbox : (host : Option (List ℕ)) (n : ℕ) (lists : List Listing) → HasRoom (is_inbox host []) n lists
room_of_no_inbox host n lists = room_of_none (is_inbox host []) n lists (no-inbox host)

either : {A : Type 0} (a b : Bool) → (a ≡ true → A) → (b ≡ true → A) → (a || b) ≡ true → A
either true b first second is = first refl
either false b first second is = second is

pub room_of_both : (s r : Collection → List ℕ → Bool) (n : ℕ) (lists : List Listing) → HasRoom s n lists → HasRoom r n lists → HasRoom (λ k o. s k o || r k o) n lists
room_of_both s r n lists first second = record { room = λ k o is. either (s k o) (r k o) (first.room k o) (second.room k o) is }

pub room_same : (s r : Collection → List ℕ → Bool) (n : ℕ) (lists : List Listing) → ((k : Collection) (o : List ℕ) → s k o ≡ r k o) → HasRoom s n lists → HasRoom r n lists
room_same s r n lists same h = record { room = λ k o is. h.room k o (same k o ∙ is) }

pub room_later : (listed : Collection → List ℕ → Bool) (n : ℕ) (old new : List Listing) → IsRoomier old new → HasRoom listed n old → HasRoom listed n new
room_later listed n old new more h = record { room = λ k o is. let was = h.room k o is in let now = more.room k o in omega (arith, was, now) }

-- ---- all lists of an activity

pub all_room : (host : Option (List ℕ)) (x : Act) (author : List ℕ) (own other : Option Collection) (about : Option (List ℕ)) (to : List (List ℕ)) (n : ℕ) (a b c d : List Listing)
    → IsOf x author own other about to → HasRoom (is_one host (Some Outbox) (Some author)) n a → HasRoom (is_one host own (Some author)) n b → HasRoom (is_one host other about) n c
    → HasRoom (is_inbox host to) n d → IsRoomier a b → IsRoomier b c → IsRoomier c d → HasRoom (λ k o. is_kept host k o x) n d
all_room host x author own other about to n a b c d is first second third last ab bc cd =
    let s1 = is_one host (Some Outbox) (Some author) in
    let s2 = is_one host own (Some author) in
    let s3 = is_one host other about in
    let s4 = is_inbox host to in
    room_same (λ k o. ((s1 k o || s2 k o) || s3 k o) || s4 k o) (λ k o. is_kept host k o x) n d
    (λ k o. rw (is.by, is.its, is.theirs, is.of, is.sent) (all_lists host x k o))
    (room_of_both (λ k o. (s1 k o || s2 k o) || s3 k o) s4 n d
    (room_later (λ k o. (s1 k o || s2 k o) || s3 k o) n c d cd
    (room_of_both (λ k o. s1 k o || s2 k o) s3 n c (room_later (λ k o. s1 k o || s2 k o) n b c bc (room_of_both s1 s2 n b (room_later s1 n a b ab first) second)) third)) last)
