-- A page that is gathered: the items are counted one after the other, and the positions of those on
-- the page are kept.
use Rattle.std.proofs.Common.{◌≡◌, ◌<◌, ◌≤◌, ℕ, ◌+◌, ◌*◌, ◌/◌, arith, List, [], ◌∷◌, ◌++◌, length, take, drop, sym, ap, subst, ◌∙◌, nat_eq, eq-eqb, inl, inr}
use Rattle.std.proofs.lemmas.Bool.{cases_eq, cases_lt, ne_eqb}
use Rattle.std.specs.Prelude.{if◌then◌else◌}
use Rattle.std.proofs.lemmas.List.{drop-append-le, drop_all, length-drop, length_push, take-append-le, take_all}

-- the items from the start of the page on, at most one page of them
abbrev part_of : ℕ → List ℕ → List ℕ
part_of number found = take 20 (drop (20 * number) found)

on_page : (number : ℕ) (found : List ℕ) (place : ℕ) → length found / 20 ≡ number → part_of number (found ++ place ∷ []) ≡ part_of number found ++ place ∷ []
on_page number found place is =
    let rest : List ℕ = drop (20 * number) found in
    let from : drop (20 * number) (found ++ place ∷ []) ≡ rest ++ place ∷ [] = drop-append-le (20 * number) found (place ∷ []) (omega (arith, is)) in
    let few : length rest < 20 = omega (arith, is, length-drop (20 * number) found) in
    let one_more : length (rest ++ place ∷ []) ≤ 20 = omega (arith, few, length_push rest place) in
    ap (take 20) from ∙ take_all 20 (rest ++ place ∷ []) one_more ∙ ap (λ (xs : List ℕ). xs ++ place ∷ []) (sym (take_all 20 rest (omega (arith, few))))

before_page : (number : ℕ) (found : List ℕ) (place : ℕ) → length found < 20 * number → part_of number (found ++ place ∷ []) ≡ part_of number found
before_page number found place few =
    ap (take 20) (drop_all (20 * number) (found ++ place ∷ []) (omega (arith, few, length_push found place)) ∙ sym (drop_all (20 * number) found (omega (arith, few))))

after_page : (number : ℕ) (found : List ℕ) (place : ℕ) → 20 * number + 20 ≤ length found → part_of number (found ++ place ∷ []) ≡ part_of number found
after_page number found place many =
    ap (take 20) (drop-append-le (20 * number) found (place ∷ []) (omega (arith, many)))
    ∙ take-append-le 20 (drop (20 * number) found) (place ∷ []) (omega (arith, many, length-drop (20 * number) found))

-- a position after these is on the page of this number, or on another
pub page_more : (number : ℕ) (found : List ℕ) (place : ℕ)
    → take 20 (drop (20 * number) (found ++ place ∷ []))
    ≡ (if nat_eq (length found / 20) number then take 20 (drop (20 * number) found) ++ place ∷ [] else take 20 (drop (20 * number) found))
page_more number found place =
    elim (cases_eq (length found / 20) number) [
      | inl is ↦ rw (eq-eqb (length found / 20) number is) (on_page number found place is)
      | inr other ↦ rw (ne_eqb (length found / 20) number other) (elim (cases_lt (length found) (20 * number)) [
        | inl few ↦ before_page number found place few
        | inr many ↦ after_page number found place (past_page (length found) number many other)
      ])
    ]
  where
    past_page : (n number : ℕ) → 20 * number ≤ n → (n / 20 ≡ number → ⊥) → 20 * number + 20 ≤ n
    past_page n number from other =
        elim (cases_lt n (20 * number + 20)) [
          | inl within ↦ absurd (other (omega (arith, from, within)))
          | inr past ↦ past
        ]

-- such a page is not full
pub page_open : (number : ℕ) (found : List ℕ) → length found / 20 ≡ number → length (take 20 (drop (20 * number) found)) < 20
page_open number found is =
    let few : length (drop (20 * number) found) < 20 = omega (arith, is, length-drop (20 * number) found) in
    subst (λ (xs : List ℕ). length xs < 20) (sym (take_all 20 (drop (20 * number) found) (omega (arith, few)))) few

-- ---- a page that is gathered

-- this many positions were counted, and these of them are on the page of this number
pub record IsPageOf (number : ℕ) (counted : List ℕ) (n : ℕ) (found : List ℕ) : Type 0 where
  pub total : n ≡ length counted
  pub places : found ≡ take 20 (drop (20 * number) counted)

-- nothing was counted
pub none_counted : (number total : ℕ) (found : List ℕ) → total ≡ 0 → found ≡ [] → IsPageOf number [] total found
none_counted number total found none nothing = record {
  total = none;
  places = nothing ∙ sym (ap (take 20) (drop_all (20 * number) [] (omega arith)));
}

-- there is room for a position on the page
pub has_room : (number : ℕ) (counted : List ℕ) (total : ℕ) (found : List ℕ) → IsPageOf number counted total found → total / 20 ≡ number → length found < 20
has_room number counted total found page here =
    subst (λ (xs : List ℕ). length xs < 20) (sym page.places) (page_open number counted (ap (λ (k : ℕ). k / 20) (sym page.total) ∙ here))

-- one more position was counted
pub one_counted : (number : ℕ) (counted : List ℕ) (total : ℕ) (found : List ℕ) (place more : ℕ) (kept : List ℕ) → IsPageOf number counted total found
    → more ≡ total + 1 → kept ≡ (if nat_eq (total / 20) number then found ++ place ∷ [] else found) → IsPageOf number (counted ++ place ∷ []) more kept
one_counted number counted total found place more kept page one put = record {
  total = one ∙ omega (arith, page.total, length_push counted place);
  places = put ∙ rw (page.total, page.places) (sym (page_more number counted place));
}
