-- Members that are put in any order end up in the order of their keys.
use Rattle.std.proofs.Common.{◌≡◌, ℕ, List, [], ◌∷◌, ◌++◌, Bool, true, false, ◌&&◌, Option, Some, None, refl, ap, ◌∙◌}
use Rattle.std.specs.Ordering.{nat_cmp, match_ordering}
use Rattle.std.specs.declared.cmp.Ordering.TheVariants.{Less, Equal, Greater}
use Rattle.std.specs.Cmp.Lexicographic.{slice_cmp}
use Rattle.std.proofs.lemmas.Bool.{and_parts}
use Rattle.json.specs.Token.{Token}
use Rattle.json.specs.Tree.{json_tokens, members_tokens}
use Rattle.serde_json.specs.Data.{Data, object, Members, no_members, member, put}
use Rattle.serde_json.specs.Written.{outline, members_outline}
use Rattle.fedi_objects.specs.Writing.{member_tokens}

-- a member that may be absent
abbrev pub Slot : Type 0
Slot = List ℕ × Option Data

-- the members, with d at the key, if there is one
abbrev pub with_member : List ℕ → Option Data → Members → Members
with_member k None ms = ms
with_member k (Some d) ms = put k d ms

-- the members that are there, put in from the last to the first
abbrev pub put_all : List Slot → Members
put_all [] = no_members
put_all (s ∷ ss) = with_member s.0 s.1 (put_all ss)

abbrev in_front : List ℕ → Option Data → Members → Members
in_front k None ms = ms
in_front k (Some d) ms = member k d ms

-- the members that are there, in the given order
abbrev in_order : List Slot → Members
in_order [] = no_members
in_order (s ∷ ss) = in_front s.0 s.1 (in_order ss)

abbrev insert : Slot → List Slot → List Slot
insert s [] = s ∷ []
insert s (t ∷ ts) = match_ordering (slice_cmp nat_cmp s.0 t.0) (s ∷ t ∷ ts) (s ∷ ts) (t ∷ insert s ts)

-- in the order of the keys
abbrev pub sorted : List Slot → List Slot
sorted [] = []
sorted (s ∷ ss) = insert s (sorted ss)

-- the key is less than each of these
abbrev is_first : List ℕ → List Slot → Bool
is_first k [] = true
is_first k (t ∷ ts) = match_ordering (slice_cmp nat_cmp k t.0) (is_first k ts) false false

-- no member has this key, and the key is less than each one after the first that is greater
abbrev fits : List ℕ → List Slot → Bool
fits k [] = true
fits k (t ∷ ts) = match_ordering (slice_cmp nat_cmp k t.0) (is_first k ts) false (fits k ts)

-- no key is repeated
abbrev pub are_distinct : List Slot → Bool
are_distinct [] = true
are_distinct (s ∷ ss) = fits s.0 (sorted ss) && are_distinct ss

put_first : (k : List ℕ) (d : Data) (ss : List Slot) → is_first k ss ≡ true → put k d (in_order ss) ≡ member k d (in_order ss)
put_first k d [] h = refl
put_first k d ((l, None) ∷ ss) h =
    elim (slice_cmp nat_cmp k l) as (λ o. match_ordering o (is_first k ss) false false ≡ true → put k d (in_order ss) ≡ member k d (in_order ss)) [
      | Less ↦ λ first. put_first k d ss first
      | Equal ↦ λ first. absurd cc
      | Greater ↦ λ first. absurd cc
    ] h
put_first k d ((l, Some e) ∷ ss) h =
    let ms = in_order ss in
    elim (slice_cmp nat_cmp k l) as (λ o. match_ordering o (is_first k ss) false false ≡ true
    → match_ordering o (member k d (member l e ms)) (member l d ms) (member l e (put k d ms)) ≡ member k d (member l e ms)) [
      | Less ↦ λ first. refl
      | Equal ↦ λ first. absurd cc
      | Greater ↦ λ first. absurd cc
    ] h

with_first : (k : List ℕ) (v : Option Data) (ss : List Slot) → is_first k ss ≡ true → with_member k v (in_order ss) ≡ in_front k v (in_order ss)
with_first k None ss h = refl
with_first k (Some d) ss h = put_first k d ss h

-- a member that is put among these ends up at its position
inserted : (k : List ℕ) (v : Option Data) (ss : List Slot) → fits k ss ≡ true → with_member k v (in_order ss) ≡ in_order (insert (k, v) ss)
inserted k None [] h = refl
inserted k (Some d) [] h = refl
inserted k None ((l, w) ∷ ss) h =
    elim (slice_cmp nat_cmp k l) as (λ o. match_ordering o (is_first k ss) false (fits k ss) ≡ true
    → in_front l w (in_order ss) ≡ in_order (match_ordering o ((k, None) ∷ (l, w) ∷ ss) ((k, None) ∷ ss) ((l, w) ∷ insert (k, None) ss))) [
      | Less ↦ λ fit. refl
      | Equal ↦ λ fit. absurd cc
      | Greater ↦ λ fit. ap (in_front l w) (inserted k None ss fit)
    ] h
inserted k (Some d) ((l, None) ∷ ss) h =
    elim (slice_cmp nat_cmp k l) as (λ o. match_ordering o (is_first k ss) false (fits k ss) ≡ true
    → put k d (in_order ss) ≡ in_order (match_ordering o ((k, Some d) ∷ (l, None) ∷ ss) ((k, Some d) ∷ ss) ((l, None) ∷ insert (k, Some d) ss))) [
      | Less ↦ λ fit. put_first k d ss fit
      | Equal ↦ λ fit. absurd cc
      | Greater ↦ λ fit. inserted k (Some d) ss fit
    ] h
inserted k (Some d) ((l, Some e) ∷ ss) h =
    let ms = in_order ss in
    elim (slice_cmp nat_cmp k l) as (λ o. match_ordering o (is_first k ss) false (fits k ss) ≡ true
    → match_ordering o (member k d (member l e ms)) (member l d ms) (member l e (put k d ms))
    ≡ in_order (match_ordering o ((k, Some d) ∷ (l, Some e) ∷ ss) ((k, Some d) ∷ ss) ((l, Some e) ∷ insert (k, Some d) ss))) [
      | Less ↦ λ fit. refl
      | Equal ↦ λ fit. absurd cc
      | Greater ↦ λ fit. ap (member l e) (inserted k (Some d) ss fit)
    ] h

put_all_in_order : (ss : List Slot) → are_distinct ss ≡ true → put_all ss ≡ in_order (sorted ss)
put_all_in_order [] h = refl
put_all_in_order ((k, v) ∷ ss) h =
    let parts = and_parts (fits k (sorted ss)) (are_distinct ss) h in
    ap (with_member k v) (put_all_in_order ss parts.1) ∙ inserted k v (sorted ss) parts.0

-- the tokens of these members in the given order, with the closing bracket
abbrev pub slot_tokens : List Slot → List Token
slot_tokens [] = Token.end_object ∷ []
slot_tokens (s ∷ ss) = member_tokens s.0 s.1 ++ slot_tokens ss

in_order_tokens : (ss : List Slot) → members_tokens (members_outline (in_order ss)) ≡ slot_tokens ss
in_order_tokens [] = refl
in_order_tokens ((k, None) ∷ ss) = in_order_tokens ss
in_order_tokens ((k, Some d) ∷ ss) = ap (λ ts. Token.key k ∷ (json_tokens (outline d) ++ ts)) (in_order_tokens ss)

-- the tokens of an object whose members are put in any order, each key once
pub put_all_tokens : (ss : List Slot) → are_distinct ss ≡ true → json_tokens (outline (object (put_all ss))) ≡ Token.begin_object ∷ slot_tokens (sorted ss)
put_all_tokens ss h =
    ap (λ ms. Token.begin_object ∷ members_tokens (members_outline ms)) (put_all_in_order ss h)
    ∙ ap (λ ts. Token.begin_object ∷ ts) (in_order_tokens (sorted ss))
