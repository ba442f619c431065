-- A history with one more entry is legal if the entry may come next.
use Rattle.std.proofs.Common.{◌≡◌, true, List, [], ◌∷◌, ◌++◌, refl}
use Rattle.std.specs.List.{fold}
use Rattle.std.proofs.lemmas.Bool.{and_parts}
use Rattle.fedi_objects.specs.declared.entry.Entry.{Entry}
use Rattle.fedi_town.specs.Histories.{step}
use Rattle.fedi_town.specs.Legal.{is_admissible, is_legal_from}
use Rattle.fedi_town.specs.Towns.{Town}

pub legal_push : (history : List Entry) (t : Town) (e : Entry) → is_legal_from t history ≡ true → is_admissible (fold step t history) e ≡ true → is_legal_from t (history ++ e ∷ []) ≡ true
legal_push [] t e legal ok = rw ok refl
legal_push (d ∷ history) t e legal ok =
    let parts = and_parts (is_admissible t d) (is_legal_from (step t d) history) legal in
    rw (parts.0, legal_push history (step t d) e parts.1 ok) refl

-- in a legal history each entry may come after those before it
pub legal_last : (history : List Entry) (t : Town) (e : Entry) → is_legal_from t (history ++ e ∷ []) ≡ true
    → (is_legal_from t history ≡ true) × (is_admissible (fold step t history) e ≡ true)
legal_last [] t e legal = (refl, (and_parts (is_admissible t e) true legal).0)
legal_last (d ∷ history) t e legal =
    let parts = and_parts (is_admissible t d) (is_legal_from (step t d) (history ++ e ∷ [])) legal in
    let rest = legal_last history (step t d) e parts.1 in
    (rw (parts.0, rest.0) refl, rest.1)
