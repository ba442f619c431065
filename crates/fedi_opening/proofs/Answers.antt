-- An opening of a list of records has only one possible result.
use Rattle.std.proofs.Common.{◌≡◌, inl, inr, arith, ℕ, ◌<◌, ◌≤◌, true, List, [], ◌∷◌, length, map, Option, Some, Result, Ok, refl, sym, ap, subst, ◌∙◌}
use Rattle.std.specs.Prelude.{slice_get, take}
use Rattle.std.specs.List.{AllByRecursion, fold, list_all}
use Rattle.std.proofs.lemmas.Bool.{and_parts, cases_lt}
use Rattle.fedi_entry.proofs.ReadEntries.{same_entry, whole_again}
use Rattle.fedi_entry.specs.Codes.{code_of}
use Rattle.fedi_entry.specs.Fields.{IsFormed}
use Rattle.fedi_entry.specs.Reading.{read_entry}
use Rattle.fedi_objects.specs.declared.entry.Entry.{Entry}
use Rattle.fedi_town.specs.Histories.{step, town}
use Rattle.fedi_town.specs.Legal.{is_admissible, is_legal_from}
use Rattle.fedi_town.specs.Towns.{Town, empty_town}
use Rattle.fedi_opening.specs.Opening.{IsDamaged, IsNext, IsRead}

one_entry : (x y : Entry) → IsFormed x → IsFormed y → code_of x ≡ code_of y → x ≡ y
one_entry x y formed_x formed_y same =
    same_entry (read_entry (code_of y)) x y (ap read_entry (sym same) ∙ whole_again x formed_x) (whole_again y formed_y)

one_history : (a b : List Entry) → AllByRecursion IsFormed a → AllByRecursion IsFormed b → map code_of a ≡ map code_of b → a ≡ b
one_history [] [] formed_a formed_b same = refl
one_history [] (y ∷ b) formed_a formed_b same = absurd (cc same)
one_history (x ∷ a) [] formed_a formed_b same = absurd (cc same)
one_history (x ∷ a) (y ∷ b) formed_a formed_b same =
    let first : code_of x ≡ code_of y = cc same in
    let others : map code_of a ≡ map code_of b = cc same in
    let head = one_entry x y formed_a.0 formed_b.0 first in
    let tail = one_history a b formed_a.1 formed_b.1 others in
    rw (head, tail) refl

-- after a history of the first records, the entry of the next record may come next, if a longer
-- history is one of these records too
further : (t : Town) (records : List (List ℕ)) (a b : List Entry) → AllByRecursion IsFormed a → AllByRecursion IsFormed b
    → is_legal_from t b ≡ true → map code_of a ≡ take (length a) records → map code_of b ≡ take (length b) records
    → length a < length b → (e : Entry) × IsNext (fold step t a) e × (slice_get records (length a) ≡ Some (code_of e))
further t records a [] formed_a formed_b legal is_a is_b lt = absurd (omega (arith, lt))
further t [] a (y ∷ b) formed_a formed_b legal is_a is_b lt = absurd (cc is_b)
further t (r ∷ records) [] (y ∷ b) formed_a formed_b legal is_a is_b lt =
    let here : r ≡ code_of y = cc is_b in
    let next : IsNext t y = record {
      formed = formed_b.0;
      admissible = (and_parts (is_admissible t y) (is_legal_from (step t y) b) legal).0;
    } in
    (y, next, ap (λ (c : List ℕ). Some c) here)
further t (r ∷ records) (x ∷ a) (y ∷ b) formed_a formed_b legal is_a is_b lt =
    let first_a : code_of x ≡ r = cc is_a in
    let first_b : code_of y ≡ r = cc is_b in
    let rest_a : map code_of a ≡ take (length a) records = cc is_a in
    let rest_b : map code_of b ≡ take (length b) records = cc is_b in
    let same : y ≡ x = one_entry y x formed_b.0 formed_a.0 (first_b ∙ sym first_a) in
    let legal_b = (and_parts (is_admissible t y) (is_legal_from (step t y) b) legal).1 in
    further (step t x) records a b formed_a.1 formed_b.1
    (subst (λ (z : Entry). is_legal_from (step t z) b ≡ true) same legal_b) rest_a rest_b (omega (arith, lt))

-- no history extends past a damaged record
no_further : (records : List (List ℕ)) (held p n : ℕ) (a b : List Entry) → IsDamaged (Some records) held p a → IsRead (Some records) n b → p < n → ⊥
no_further records held p n a b damaged read lt =
    let spelled_a : map code_of a ≡ take (length a) records = subst (λ (k : ℕ). map code_of a ≡ take k records) (sym damaged.read.counted) damaged.read.spelled in
    let spelled_b : map code_of b ≡ take (length b) records = subst (λ (k : ℕ). map code_of b ≡ take k records) (sym read.counted) read.spelled in
    let more = further empty_town records a b damaged.read.formed read.formed read.legal.admissible spelled_a spelled_b (omega (arith, lt, damaged.read.counted, read.counted)) in
    let here : slice_get records p ≡ Some (code_of more.0) = subst (λ (k : ℕ). slice_get records k ≡ Some (code_of more.0)) damaged.read.counted more.2 in
    damaged.damaged more.0 more.1 here

pub read_once : (records : List (List ℕ)) (a b : List Entry) → IsRead (Some records) (length records) a → IsRead (Some records) (length records) b → a ≡ b
read_once records a b read_a read_b = one_history a b read_a.formed read_b.formed (read_a.spelled ∙ sym read_b.spelled)

pub damaged_once : (records : List (List ℕ)) (p q : ℕ) (a b : List Entry) → IsDamaged (Some records) (length records) p a
    → IsDamaged (Some records) (length records) q b → p ≡ q
damaged_once records p q a b damaged_a damaged_b =
    elim (cases_lt p q) [
      | inl lt ↦ absurd (no_further records (length records) p q a b damaged_a damaged_b.read lt)
      | inr le ↦ elim (cases_lt q p) [
        | inl lt ↦ absurd (no_further records (length records) q p b a damaged_b damaged_a.read lt)
        | inr ge ↦ omega (arith, le, ge)
      ]
    ]

pub read_or_damaged : (records : List (List ℕ)) (p : ℕ) (a b : List Entry) → IsRead (Some records) (length records) a
    → IsDamaged (Some records) (length records) p b → ⊥
read_or_damaged records p a b read damaged = no_further records (length records) p (length records) b a damaged read damaged.there
