-- The answers that an opening may give exclude each other.
use Rattle.std.proofs.Common.{◌≡◌, inl, inr, ℕ, ◌+◌, ◌<◌, List, [], ◌∷◌, ◌++◌, length, take, drop, Some, refl, sym, ap, subst, ◌∙◌, arith, length-append}
use Rattle.std.proofs.lemmas.List.{length-map, take_all}
use Rattle.fedi_entry.specs.Codes.{code_of}
use Rattle.fedi_journal.specs.ChainLaws.{chained_ok}
use Rattle.fedi_outside.proofs.ImageLemmas.{one_image}
use Rattle.fedi_outside.proofs.Openings.{damaged_is_store, image_is_store, image_not_older, not_damaged, older_is_store}
use Rattle.fedi_journal.specs.Chains.{chained}
use Rattle.fedi_outside.specs.Images.{blocks, front, record_code}
use Rattle.fedi_outside.specs.Opening.{IsDamagedAt, IsOlder}
use Rattle.fedi_journal.specs.Making.{IsOther, blank}
use Rattle.fedi_objects.specs.declared.entry.Entry.{Entry}
use Rattle.fedi_opening.proofs.Answers.{damaged_once, read_once, read_or_damaged}
use Rattle.fedi_opening.specs.Opening.{IsDamaged, IsRead}
use Rattle.fedi_startup.specs.Stores.{HasBadRecord, HasNoRecord, IsStoreOf, records_of}

-- a store's history is read from its records
is_read : (history : List Entry) (bytes : List ℕ) → IsStoreOf history bytes → IsRead (Some (records_of history)) (length (records_of history)) history
is_read history bytes store = record {
  legal = store.sound.legal;
  formed = store.sound.formed;
  counted = sym (length-map history code_of);
  spelled = sym (take_all (length (records_of history)) (records_of history) (omega arith));
}

pub one_history : (a b : List Entry) (bytes : List ℕ) → IsStoreOf a bytes → IsStoreOf b bytes → a ≡ b
one_history a b bytes one two =
    let same = one_image chained chained_ok (records_of b) (records_of a) bytes two.file one.file in
    read_once (records_of a) a b (is_read a bytes one)
    (subst (λ (rs : List (List ℕ)). IsRead (Some rs) (length rs) b) same (is_read b bytes two))

pub one_record : (here there : ℕ) (bytes : List ℕ) → HasBadRecord here bytes → HasBadRecord there bytes → here ≡ there
one_record here there bytes one two =
    let same = one_image chained chained_ok two.0 one.0 bytes two.1 one.1 in
    damaged_once one.0 here there one.2.0 two.2.0 one.2.1 (subst (λ (rs : List (List ℕ)). IsDamaged (Some rs) (length rs) there two.2.0) same two.2.1)

pub store_none : (history : List Entry) (bytes : List ℕ) → IsStoreOf history bytes → HasNoRecord bytes → ⊥
store_none history bytes store (inl none) = image_is_store chained chained_ok (records_of history) bytes store.file none
store_none history bytes store (inr none) = store.some (empty history (one_image chained chained_ok (records_of history) [] bytes store.file none))
  where
    empty : (history : List Entry) → records_of history ≡ [] → history ≡ []
    empty [] is = refl
    empty (e ∷ history) is = absurd (cc is)

pub store_byte : (history : List Entry) (place : ℕ) (bytes : List ℕ) → IsStoreOf history bytes → IsDamagedAt chained place bytes → ⊥
store_byte history place bytes store damaged = not_damaged chained chained_ok (records_of history) place bytes store.file damaged

pub store_record : (history : List Entry) (place : ℕ) (bytes : List ℕ) → IsStoreOf history bytes → HasBadRecord place bytes → ⊥
store_record history place bytes store bad =
    let same = one_image chained chained_ok bad.0 (records_of history) bytes bad.1 store.file in
    read_or_damaged (records_of history) place history bad.2.0 (is_read history bytes store)
    (subst (λ (rs : List (List ℕ)). IsDamaged (Some rs) (length rs) place bad.2.0) same bad.2.1)

pub none_byte : (place : ℕ) (bytes : List ℕ) → HasNoRecord bytes → IsDamagedAt chained place bytes → ⊥
none_byte place bytes (inl none) damaged = damaged_is_store chained chained_ok place bytes damaged none
none_byte place bytes (inr none) damaged = not_damaged chained chained_ok [] place bytes none damaged

pub none_record : (place : ℕ) (bytes : List ℕ) → HasNoRecord bytes → HasBadRecord place bytes → ⊥
none_record place bytes (inl none) bad = image_is_store chained chained_ok bad.0 bytes bad.1 none
none_record place bytes (inr none) bad =
    let few : length bad.0 ≡ 0 = ap length (one_image chained chained_ok bad.0 [] bytes bad.1 none) in
    let there = bad.2.1.there in
    omega (arith, there, few)

pub byte_record : (here there : ℕ) (bytes : List ℕ) → IsDamagedAt chained here bytes → HasBadRecord there bytes → ⊥
byte_record here there bytes damaged bad = not_damaged chained chained_ok bad.0 here bytes bad.1 damaged

pub none_older : (bytes : List ℕ) → HasNoRecord bytes → IsOlder chained bytes → ⊥
none_older bytes (inl none) older = older_is_store chained bytes older none
none_older bytes (inr none) older = image_not_older chained chained_ok [] bytes none older

pub store_older : (history : List Entry) (bytes : List ℕ) → IsStoreOf history bytes
    → IsOlder chained bytes → ⊥
store_older history bytes store older =
    image_not_older chained chained_ok (records_of history) bytes store.file older

pub record_older : (place : ℕ) (bytes : List ℕ) → HasBadRecord place bytes
    → IsOlder chained bytes → ⊥
record_older place bytes bad older = image_not_older chained chained_ok bad.0 bytes bad.1 older

-- a store begins with the magic and an open gate
pub store_other : (history : List Entry) (bytes : List ℕ) → IsStoreOf history bytes → IsOther chained bytes
unfolding front
store_other [] bytes store = absurd (store.some refl)
store_other (e ∷ es) bytes store = (long, λ blank_here. apart (sym (ap (take 9) store.file.spelled) ∙ blank_here))
  where
    behind : List ℕ
    behind = record_code chained [] (code_of e) ++ blocks chained (code_of e ∷ []) (records_of es)

    rest : List ℕ
    rest = drop (length (front chained (records_of (e ∷ es))) + 1) bytes

    long : 9 < length bytes
    long = omega (arith, ap length store.file.spelled, length-append behind (0 ∷ rest))

    apart : take 9 (front chained (records_of (e ∷ es)) ++ 0 ∷ rest) ≡ blank chained → ⊥
    apart is = cc
