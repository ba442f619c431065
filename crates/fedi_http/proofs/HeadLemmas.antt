-- Lemmas on where a head ends.
use Rattle.std.proofs.Common.{◌≡◌, ℕ, ◌+◌, ◌-◌, ◌<◌, ◌≤◌, zero, suc, Bool, true, false, cond, not, List, [], ◌∷◌, ◌++◌, length, take, drop, get_or, find, min, None, Some, option_map, inl, inr, refl, sym, ap, ◌∙◌, arith, length-take, length-append, eqb, eq-eqb, add-zero}
use Rattle.std.proofs.Math.Nat.{sub_self}
use Rattle.std.specs.List.{ends_with, range_with_len, slice_range}
use Rattle.std.specs.Prelude.{nat_eq}
use Rattle.std.proofs.lemmas.Slice.Eq.{ends_is}
use Rattle.std.proofs.lemmas.Bool.Decides.{Decides-eqb}
use Rattle.std.proofs.lemmas.List.{take-take, take-append-le, take_more, take_all, length-take-le, drop-take, take_min, take_all, drop-append-le, length-drop, get_or-append-add, get_or-take, get_or-drop}
use Rattle.std.proofs.lemmas.Bool.{cases_eq, cases_lt, ne_eqb, or_cases}
use Rattle.memchr.specs.Find.{Nowhere, Passes, is_byte}
use Rattle.std.proofs.lemmas.List.Sums.{prefix_len-le-length}
use Rattle.std.proofs.lemmas.List.Folds.{position_or_len_push}
use Rattle.fedi_http.specs.Heads.{is_line_end, leading, after_leading, ends_in_empty_line, is_end, head_end, HasNoHead, IsHeadAt, IsLookedAt, IsSettled, LacksHead}
use Rattle.fedi_http.specs.Moves.{OnEnd, StopsReading, error_after, is_fault}
use Rattle.fedi_http.specs.declared.read_error.ReadError.{ReadError}
use Rattle.fedi_http.specs.declared.read_error.ReadError.TheVariants.{End, CutShort, Refused, ReadFault, Memory}
use Rattle.std.specs.Io.{StartsWith}
use Rattle.std.proofs.Transfers.{starts_with_length, starts_with_of_append}

-- ---- the first number that passes a test

pub find-none : (p : ℕ → Bool) (from count : ℕ) → ((n : ℕ) → from ≤ n → n < from + count → p n ≡ false) → find p (range_with_len from count) ≡ None
find-none p from zero none = refl
find-none p from (suc count) none =
    let rest = find-none p (from + 1) count (λ n low high. none n (omega arith) (omega arith)) in
    let first : p from ≡ false = none from (omega arith) (omega arith) in rw (first, rest) refl

-- if a test passes first at n, it does not pass before
some-first : (p : ℕ → Bool) (from n : ℕ) → from ≤ n → p from ≡ true → p n ≡ true → ((m : ℕ) → from ≤ m → m < n → p m ≡ false) → from ≡ n
some-first p from n low first here below =
    elim (cases_eq from n) [ inl same ↦ same | inr other ↦ let no : p from ≡ false = below from (omega arith) (omega arith) in cc ]

some-later : (p : ℕ → Bool) (from n : ℕ) → from ≤ n → p from ≡ false → p n ≡ true → from + 1 ≤ n
some-later p from n low first here =
    elim (cases_eq from n) [ inl same ↦ let holds : p from ≡ true = ap p same ∙ here in cc | inr other ↦ omega arith ]

pub find-some : (p : ℕ → Bool) (from count n : ℕ) → from ≤ n → n < from + count → p n ≡ true → ((m : ℕ) → from ≤ m → m < n → p m ≡ false)
    → find p (range_with_len from count) ≡ Some n
find-some p from zero n low high here below = absurd (omega arith)
find-some p from (suc count) n low high here below =
    elim (p from) as (λ b. p from ≡ b → cond b (Some from) (find p (range_with_len (from + 1) count)) ≡ Some n) [
      | true ↦ λ first. ap Some (some-first p from n low first here below)
      | false ↦ λ first. find-some p (from + 1) count n (some-later p from n low first here) (omega arith) here (λ m l h. below m (omega arith) h)
    ] refl

pub find-none-below : (p : ℕ → Bool) (from count : ℕ) → find p (range_with_len from count) ≡ None → (n : ℕ) → from ≤ n → n < from + count → p n ≡ false
find-none-below p from zero none n low high = absurd (omega arith)
find-none-below p from (suc count) none n low high = grind (arith, find-none-below p (from + 1) count)

pub find-some-is : (p : ℕ → Bool) (from count n : ℕ) → find p (range_with_len from count) ≡ Some n
    → (from ≤ n) × (n < from + count) × (p n ≡ true) × ((m : ℕ) → from ≤ m → m < n → p m ≡ false)
find-some-is p from zero n found = cc
find-some-is p from (suc count) n found = grind (arith, find-some-is p (from + 1) count n)

-- ---- whether the head ends at a number

-- what follows does not matter
pub is_end-append : (xs ys : List ℕ) (n : ℕ) → n ≤ length xs → is_end (xs ++ ys) n ≡ is_end xs n
unfolding is_end
is_end-append xs ys n h = ap (λ l. ends_in_empty_line (after_leading l)) (take-append-le n xs ys h)

pub is_end-take : (xs : List ℕ) (k n : ℕ) → n ≤ k → is_end (take k xs) n ≡ is_end xs n
unfolding is_end
is_end-take xs k n h = ap (λ l. ends_in_empty_line (after_leading l)) (take-take n k xs h)

pub head_end-None : (xs : List ℕ) → ((n : ℕ) → n ≤ length xs → is_end xs n ≡ false) → head_end xs ≡ None
unfolding head_end
head_end-None xs none = find-none (is_end xs) 0 (length xs + 1) (λ n low high. none n (omega arith))

pub head_end-Some : (xs : List ℕ) (n : ℕ) → n ≤ length xs → is_end xs n ≡ true → ((m : ℕ) → m < n → is_end xs m ≡ false) → head_end xs ≡ Some n
unfolding head_end
head_end-Some xs n h here below = find-some (is_end xs) 0 (length xs + 1) n (omega arith) (omega arith) here (λ m low high. below m high)

pub head_end-None-below : (xs : List ℕ) → head_end xs ≡ None → (n : ℕ) → n ≤ length xs → is_end xs n ≡ false
unfolding head_end
head_end-None-below xs none n h = find-none-below (is_end xs) 0 (length xs + 1) none n (omega arith) (omega arith)

pub head_end-Some-is : (xs : List ℕ) (n : ℕ) → head_end xs ≡ Some n → (n ≤ length xs) × (is_end xs n ≡ true) × ((m : ℕ) → m < n → is_end xs m ≡ false)
unfolding head_end
head_end-Some-is xs n found =
    let is = find-some-is (is_end xs) 0 (length xs + 1) n found in
    (omega (arith, is.1), is.2, λ m h. is.3 m (omega arith) h)

-- ---- one byte more

pub head_end-nil : head_end [] ≡ None
unfolding head_end is_end leading
head_end-nil = refl

pub head_end-take-none : (xs : List ℕ) (at : ℕ) → at < length xs → head_end (take at xs) ≡ None → is_end xs (at + 1) ≡ false → head_end (take (at + 1) xs) ≡ None
head_end-take-none xs at h none here =
    head_end-None (take (at + 1) xs) (λ n le.
    let low : n ≤ at + 1 = omega (arith, le, length-take (at + 1) xs) in
    is_end-take xs (at + 1) n low ∙ elim (cases_eq n (at + 1)) [
      | inl same ↦ ap (is_end xs) same ∙ here
      | inr other ↦ sym (is_end-take xs at n (omega arith)) ∙ head_end-None-below (take at xs) none n (omega (arith, length-take at xs))
    ])

-- the first end is found in all bytes that begin with these
pub head_end-take-some : (xs : List ℕ) (at k : ℕ) → at < k → k ≤ length xs → head_end (take at xs) ≡ None → is_end xs (at + 1) ≡ true → head_end (take k xs) ≡ Some (at + 1)
head_end-take-some xs at k low high none here =
    head_end-Some (take k xs) (at + 1) (omega (arith, length-take k xs)) (is_end-take xs k (at + 1) (omega arith) ∙ here)
    (λ m h. is_end-take xs k m (omega arith) ∙ sym (is_end-take xs at m (omega arith)) ∙ head_end-None-below (take at xs) none m (omega (arith, length-take at xs)))

-- bytes that agree up to the end of a head have the same head
head_end-same : (xs ys : List ℕ) (n : ℕ) → head_end xs ≡ Some n → n ≤ length ys → ((m : ℕ) → m ≤ n → is_end ys m ≡ is_end xs m) → head_end ys ≡ Some n
head_end-same xs ys n found h same =
    let is = head_end-Some-is xs n found in
    head_end-Some ys n h (same n (omega arith) ∙ is.1) (λ m low. same m (omega arith) ∙ is.2 m low)

-- ---- the leading line ends

pub leading-nil : leading [] ≡ 0
unfolding leading
leading-nil = refl

pub leading-take-more : (xs : List ℕ) (at : ℕ) → at < length xs
    → leading (take (at + 1) xs) ≡ cond (eqb (leading (take at xs)) at) (at + cond (not (is_line_end (get_or xs at 0))) 0 1) (leading (take at xs))
unfolding leading
leading-take-more xs at h =
    let long : length (take at xs) ≡ at = length-take-le at xs (omega arith) in
    ap leading (take_more xs at 0 h) ∙ rw long at (position_or_len_push (λ b. not (is_line_end b)) (take at xs) (get_or xs at 0))

-- a byte after nothing but line ends, and a byte after another byte
pub leading-more-end : (xs : List ℕ) (at : ℕ) → at < length xs → leading (take at xs) ≡ at → is_line_end (get_or xs at 0) ≡ true → leading (take (at + 1) xs) ≡ at + 1
leading-more-end xs at h all here =
    leading-take-more xs at h ∙ ap (λ n. cond (eqb n at) (at + cond (not (is_line_end (get_or xs at 0))) 0 1) n) all
    ∙ ap (λ b. cond b (at + cond (not (is_line_end (get_or xs at 0))) 0 1) at) (eq-eqb at at refl) ∙ ap (λ b. at + cond (not b) 0 1) here

pub leading-more-text : (xs : List ℕ) (at : ℕ) → at < length xs → leading (take at xs) ≡ at → is_line_end (get_or xs at 0) ≡ false → leading (take (at + 1) xs) ≡ at
leading-more-text xs at h all here =
    leading-take-more xs at h ∙ ap (λ n. cond (eqb n at) (at + cond (not (is_line_end (get_or xs at 0))) 0 1) n) all
    ∙ ap (λ b. cond b (at + cond (not (is_line_end (get_or xs at 0))) 0 1) at) (eq-eqb at at refl) ∙ ap (λ b. at + cond (not b) 0 1) here ∙ add-zero at

pub leading-more-other : (xs : List ℕ) (at : ℕ) → at < length xs → (leading (take at xs) ≡ at → ⊥) → leading (take (at + 1) xs) ≡ leading (take at xs)
leading-more-other xs at h other =
    leading-take-more xs at h ∙ ap (λ b. cond b (at + cond (not (is_line_end (get_or xs at 0))) 0 1) (leading (take at xs))) (ne_eqb (leading (take at xs)) at other)

pub leading-take-le : (xs : List ℕ) (at : ℕ) → at ≤ length xs → leading (take at xs) ≤ at
unfolding leading
leading-take-le xs at h = omega (arith, prefix_len-le-length (λ b. not (not (is_line_end b))) (take at xs), length-take at xs)

-- ---- the test at a number

-- the text of a prefix is the part of the bytes after the leading line ends
pub text-is : (xs : List ℕ) (n start : ℕ) → start ≡ leading (take n xs) → n ≤ length xs → after_leading (take n xs) ≡ slice_range xs start n
text-is xs n start here h =
    let low : start ≤ n = omega (arith, here, leading-take-le xs n h) in
    let split : start + (n - start) ≡ n = omega arith in
    ap (λ k. drop k (take n xs)) (sym here) ∙ ap (λ k. drop start (take k xs)) (sym split) ∙ drop-take start (n - start) xs

pub is_end-is : (xs : List ℕ) (n start : ℕ) → start ≡ leading (take n xs) → n ≤ length xs → is_end xs n ≡ ends_in_empty_line (slice_range xs start n)
unfolding is_end
is_end-is xs n start here h = ap ends_in_empty_line (text-is xs n start here h)

-- a text of no bytes does not end with an empty line
pub ends-longer : (xs : List ℕ) (start n : ℕ) → ends_in_empty_line (slice_range xs start n) ≡ true → start < n
ends-longer xs start n holds =
    elim (cases_eq (n - start) 0) [
      | inl low ↦ let none : slice_range xs start n ≡ [] = ap (λ k. take k (drop start xs)) low in
          let no : false ≡ true = ap ends_in_empty_line (sym none) ∙ holds in cc
      | inr high ↦ omega arith
    ]

-- the last byte of a text that ends with these
ends-last : (text suffix : List ℕ) (n : ℕ) → length suffix ≡ n + 1 → ends_with nat_eq text suffix ≡ true → get_or text (length text - 1) 0 ≡ get_or suffix n 0
ends-last text suffix n long holds =
    let front = take (length text - length suffix) text in
    let split : text ≡ front ++ suffix = (ends_is Decides-eqb text suffix (ends_with nat_eq text suffix) refl).0 holds in
    let last : length text - 1 ≡ length front + n = omega (arith, ap length split, length-append front suffix) in
    ap (get_or text (length text - 1)) refl ∙ ap (λ k. get_or text k 0) last ∙ ap (λ l. get_or l (length front + n) 0) split ∙ get_or-append-add front suffix n 0

-- an empty line ends in LF
empty_line-last : (text : List ℕ) → ends_in_empty_line text ≡ true → get_or text (length text - 1) 0 ≡ 10
empty_line-last text holds =
    elim (or_cases (ends_with nat_eq text (10 ∷ 10 ∷ [])) (ends_with nat_eq text (10 ∷ 13 ∷ 10 ∷ [])) holds) [
      | inl short ↦ ends-last text (10 ∷ 10 ∷ []) 1 refl short
      | inr long ↦ ends-last text (10 ∷ 13 ∷ 10 ∷ []) 2 refl long
    ]

empty_line-byte : (xs : List ℕ) (at start : ℕ) → at < length xs → ends_in_empty_line (slice_range xs start (at + 1)) ≡ true → get_or xs at 0 ≡ 10
empty_line-byte xs at start inside holds =
    let text = slice_range xs start (at + 1) in
    let low : start < at + 1 = ends-longer xs start (at + 1) holds in
    let long : length text ≡ at + 1 - start = omega (arith, length-take (at + 1 - start) (drop start xs), length-drop start xs) in
    let last : length text - 1 ≡ at - start = omega arith in
    let there : start + (at - start) ≡ at = omega arith in
    sym (ap (λ k. get_or text k 0) last
    ∙ get_or-take (at + 1 - start) (drop start xs) (at - start) 0 (omega arith)
    ∙ get_or-drop start xs (at - start) 0 ∙ ap (λ k. get_or xs k 0) there)
    ∙ empty_line-last text holds

-- so no empty line ends at another byte
pub no-empty_line : (xs : List ℕ) (at start : ℕ) → at < length xs → (get_or xs at 0 ≡ 10 → ⊥) → ends_in_empty_line (slice_range xs start (at + 1)) ≡ false
no-empty_line xs at start inside other =
    elim (ends_in_empty_line (slice_range xs start (at + 1))) as (λ b. ends_in_empty_line (slice_range xs start (at + 1)) ≡ b → b ≡ false) [
      | true ↦ λ holds. absurd (other (empty_line-byte xs at start inside holds))
      | false ↦ λ fails. refl
    ] refl

pub none-more : (xs : List ℕ) (at start : ℕ) → at < length xs → start ≡ leading (take (at + 1) xs) → head_end (take at xs) ≡ None
    → ends_in_empty_line (slice_range xs start (at + 1)) ≡ false → head_end (take (at + 1) xs) ≡ None
none-more xs at start inside here none fails = head_end-take-none xs at inside none (is_end-is xs (at + 1) start here (omega arith) ∙ fails)

-- a head that is found where the first bytes had none
pub is_head : (limit : ℕ) (xs : List ℕ) (at start : ℕ) → at < limit → at < length xs → head_end (take at xs) ≡ None → start ≡ leading (take (at + 1) xs)
    → ends_in_empty_line (slice_range xs start (at + 1)) ≡ true → IsHeadAt limit xs start (at + 1)
is_head limit xs at start low inside none here holds =
    let end = is_end-is xs (at + 1) start here (omega arith) ∙ holds in
    let found : head_end (take limit xs) ≡ Some (at + 1) = ap head_end (sym (take_min limit xs)) ∙ head_end-take-some xs at (min limit (length xs)) (omega arith) (omega arith) none end in
    record {
      ends = found;
      ordered = ends-longer xs start (at + 1) holds;
      within = omega arith;
      text = ap (option_map (λ count. after_leading (take count (take limit xs)))) found
          ∙ ap (λ l. Some (after_leading l)) (take-take (at + 1) limit xs (omega arith))
          ∙ ap Some (text-is xs (at + 1) start here (omega arith));
    }

-- ---- many bytes more

-- no head ends if none did before and none does after
none-to : (xs : List ℕ) (a b : ℕ) → b ≤ length xs → head_end (take a xs) ≡ None → a ≤ length xs → ((m : ℕ) → a < m → m ≤ b → is_end xs m ≡ false) → head_end (take b xs) ≡ None
none-to xs a b high none low here =
    head_end-None (take b xs) (λ n le.
    let inside : n ≤ b = omega (arith, le, length-take b xs) in
    is_end-take xs b n inside ∙ elim (cases_lt a n) [
      | inl large ↦ here n large inside
      | inr small ↦ sym (is_end-take xs a n small) ∙ head_end-None-below (take a xs) none n (omega (arith, length-take a xs))
    ])

-- bytes other than LF end no head
pub looked-on : (xs : List ℕ) (looked start upto b : ℕ) → IsLookedAt xs looked start → IsSettled xs looked upto start → looked ≤ b → b ≤ upto → upto ≤ length xs
    → ((i : ℕ) → looked ≤ i → i < b → get_or xs i 0 ≡ 10 → ⊥) → IsLookedAt xs b start
looked-on xs looked start upto b is settled low high inside other = record {
  within = omega arith;
  front = sym (settled b low high);
  none = none-to xs looked b (omega arith) is.none is.within (λ m large small.
      let at : ℕ = m - 1 in
      let same : at + 1 ≡ m = omega arith in
      let here : start ≡ leading (take (at + 1) xs) = sym (settled (at + 1) (omega arith) (omega arith)) in
      ap (is_end xs) (sym same) ∙ is_end-is xs (at + 1) start here (omega arith) ∙ no-empty_line xs at start (omega arith) (other at (omega arith) (omega arith)));
}

-- the bytes from `looked` on have no LF before the one at k
pub no_lf : (xs : List ℕ) (looked upto k : ℕ) → looked ≤ upto → upto ≤ length xs → k ≤ upto - looked → Nowhere (Passes (is_byte 10) (slice_range xs looked upto)) 0 k
    → (i : ℕ) → looked ≤ i → i < looked + k → get_or xs i 0 ≡ 10 → ⊥
no_lf xs looked upto k low inside short none i from to here =
    let there : looked + (i - looked) ≡ i = omega arith in
    let byte : get_or (slice_range xs looked upto) (i - looked) 0 ≡ 10 =
    get_or-take (upto - looked) (drop looked xs) (i - looked) 0 (omega arith) ∙ get_or-drop looked xs (i - looked) 0 ∙ ap (λ n. get_or xs n 0) there ∙ here in
    none (i - looked) (omega arith) (omega arith) (eq-eqb (get_or (slice_range xs looked upto) (i - looked) 0) 10 byte)

pub no_lf_at_all : (xs : List ℕ) (looked upto : ℕ) → looked ≤ upto → upto ≤ length xs → Nowhere (Passes (is_byte 10) (slice_range xs looked upto)) 0 (upto - looked)
    → (i : ℕ) → looked ≤ i → i < upto → get_or xs i 0 ≡ 10 → ⊥
no_lf_at_all xs looked upto low inside none i from to = no_lf xs looked upto (upto - looked) low inside (omega arith) none i from (omega arith)

pub slice-length : (xs : List ℕ) (from upto : ℕ) → upto ≤ length xs → length (slice_range xs from upto) ≡ upto - from
slice-length xs from upto inside = omega (arith, length-take (upto - from) (drop from xs), length-drop from xs)

pub start-low : (xs : List ℕ) (looked start : ℕ) → IsLookedAt xs looked start → start ≤ looked
start-low xs looked start is = omega (arith, is.front, leading-take-le xs looked is.within)

-- the start of the text is settled once a byte is not a line end
settled-by : (xs : List ℕ) (looked start upto d : ℕ) → start ≡ leading (take looked xs) → upto ≤ length xs
    → (start ≡ looked → looked < upto → is_line_end (get_or xs looked 0) ≡ false) → looked + d ≤ upto → leading (take (looked + d) xs) ≡ start
settled-by xs looked start upto zero here inside text high = ap (λ n. leading (take n xs)) (add-zero looked) ∙ sym here
settled-by xs looked start upto (suc d) here inside text high =
    let before : leading (take (looked + d) xs) ≡ start = settled-by xs looked start upto d here inside text (omega arith) in
    let next : looked + suc d ≡ looked + d + 1 = omega arith in
    let low : start ≤ looked = omega (arith, here, leading-take-le xs looked (omega arith)) in
    ap (λ n. leading (take n xs)) next ∙ elim (cases_eq start (looked + d)) [
      | inl all ↦
          let same : looked ≡ looked + d = omega arith in
          let byte : is_line_end (get_or xs (looked + d) 0) ≡ false = ap (λ n. is_line_end (get_or xs n 0)) (sym same) ∙ text (omega arith) (omega arith) in
          leading-more-text xs (looked + d) (omega arith) (before ∙ all) byte ∙ sym all
      | inr other ↦ leading-more-other xs (looked + d) (omega arith) (λ e. other (sym before ∙ e)) ∙ before
    ]

pub settled-from : (xs : List ℕ) (looked start upto : ℕ) → start ≡ leading (take looked xs) → upto ≤ length xs
    → (start ≡ looked → looked < upto → is_line_end (get_or xs looked 0) ≡ false) → IsSettled xs looked upto start
settled-from xs looked start upto here inside text n low high =
    let there : looked + (n - looked) ≡ n = omega arith in
    ap (λ m. leading (take m xs)) (sym there) ∙ settled-by xs looked start upto (n - looked) here inside text (omega arith)

-- one more leading line end
pub looked-end : (xs : List ℕ) (at : ℕ) → at < length xs → IsLookedAt xs at at → is_line_end (get_or xs at 0) ≡ true → IsLookedAt xs (at + 1) (at + 1)
looked-end xs at inside is here =
    let front : leading (take (at + 1) xs) ≡ at + 1 = leading-more-end xs at inside (sym is.front) here in
    let empty : slice_range xs (at + 1) (at + 1) ≡ [] = ap (λ k. take k (drop (at + 1) xs)) (sub_self (at + 1)) in
    record {
      within = omega arith;
      front = sym front;
      none = none-more xs at (at + 1) inside (sym front) is.none (ap ends_in_empty_line empty);
    }

-- one more line, which does not end the head
pub looked-line : (xs : List ℕ) (at start : ℕ) → at < length xs → IsLookedAt xs at start → start ≡ leading (take (at + 1) xs)
    → ends_in_empty_line (slice_range xs start (at + 1)) ≡ false → IsLookedAt xs (at + 1) start
looked-line xs at start inside is here fails = record { within = omega arith; front = here; none = none-more xs at start inside here is.none fails }

pub slice_range-append : (xs ys : List ℕ) (start end : ℕ) → start ≤ end → end ≤ length xs → slice_range (xs ++ ys) start end ≡ slice_range xs start end
slice_range-append xs ys start end low high =
    ap (take (end - start)) (drop-append-le start xs ys (omega arith)) ∙ take-append-le (end - start) (drop start xs) ys (omega (arith, length-drop start xs))

-- it is also the head of any bytes that begin with these
pub is_head-append : (limit : ℕ) (xs ys : List ℕ) (start end : ℕ) → IsHeadAt limit xs start end → IsHeadAt limit (xs ++ ys) start end
is_head-append limit xs ys start end head =
    let low : end ≤ limit = omega (arith, (head_end-Some-is (take limit xs) end head.ends).0, length-take limit xs) in
    let inside : end ≤ length xs = head.within in
    let more : length (xs ++ ys) ≡ length xs + length ys = length-append xs ys in
    let found : head_end (take limit (xs ++ ys)) ≡ Some end =
    head_end-same (take limit xs) (take limit (xs ++ ys)) end head.ends (omega (arith, length-take limit (xs ++ ys)))
    (λ m h. is_end-take (xs ++ ys) limit m (omega arith) ∙ is_end-append xs ys m (omega arith) ∙ sym (is_end-take xs limit m (omega arith))) in
    let front : take end (take limit (xs ++ ys)) ≡ take end (take limit xs) = take-take end limit (xs ++ ys) low ∙ take-append-le end xs ys inside ∙ sym (take-take end limit xs low) in
    let part : slice_range (xs ++ ys) start end ≡ slice_range xs start end = slice_range-append xs ys start end (omega (arith, head.ordered)) inside in
    record {
      ends = found;
      ordered = head.ordered;
      within = omega arith;
      text = ap (option_map (λ count. after_leading (take count (take limit (xs ++ ys))))) found
          ∙ ap (λ l. Some (after_leading l)) front
          ∙ sym (ap (option_map (λ count. after_leading (take count (take limit xs)))) head.ends)
          ∙ head.text ∙ ap Some (sym part);
    }

-- ---- reading on

pub looked-nil : (xs : List ℕ) → IsLookedAt xs 0 0
looked-nil xs = record { within = omega arith; front = sym leading-nil; none = head_end-nil }

-- what was searched stays so if more bytes come
looked-more : (xs ys : List ℕ) (looked start : ℕ) → StartsWith ys xs → IsLookedAt xs looked start → IsLookedAt ys looked start
looked-more xs ys looked start more is =
    let low : looked ≤ length xs = is.within in
    let longer : length xs ≤ length ys = starts_with_length ys xs more in
    let same : take looked ys ≡ take looked xs = sym (take-take looked (length xs) ys low) ∙ ap (take looked) more in
    record { within = omega arith; front = is.front ∙ ap leading (sym same); none = ap head_end same ∙ is.none }

pub looked-grown : (xs more ys : List ℕ) (looked start : ℕ) → ys ≡ xs ++ more → IsLookedAt xs looked start → IsLookedAt ys looked start
looked-grown xs more ys looked start is = looked-more xs ys looked start (starts_with_of_append ys xs more is)

-- all bytes were searched
pub lacks_head : (limit : ℕ) (xs : List ℕ) (looked start : ℕ) → IsLookedAt xs looked start → looked ≡ min limit (length xs) → (looked ≡ limit → ⊥) → LacksHead limit xs
lacks_head limit xs looked start is all more =
    let short : length xs < limit = omega arith in
    (short, ap head_end (sym (take_all looked xs (omega arith))) ∙ is.none)

pub too_long : (limit : ℕ) (xs : List ℕ) (looked start : ℕ) → IsLookedAt xs looked start → looked ≡ min limit (length xs) → looked ≡ limit
    → (limit ≤ length xs) × (head_end (take limit xs) ≡ None)
too_long limit xs looked start is all full = (omega arith, ap (λ k. head_end (take k xs)) (sym full) ∙ is.none)

-- ---- no head

-- the error after the bytes that were searched
pub after_calm : (e : ReadError) (n : ℕ) → is_fault (error_after e n) ≡ is_fault e
after_calm End n = refl
after_calm CutShort zero = refl
after_calm CutShort (suc n) = refl
after_calm (Refused refusal) n = refl
after_calm ReadFault n = refl
after_calm Memory n = refl

pub after_ended : (e : ReadError) (n : ℕ) (P : Type 0) → OnEnd e P → OnEnd (error_after e n) P
after_ended End n P ended = ended
after_ended CutShort zero P ended = ended
after_ended CutShort (suc n) P ended = ended
after_ended (Refused refusal) n P ended = tt
after_ended ReadFault n P ended = tt
after_ended Memory n P ended = tt

-- all bytes were searched, and no more came
pub no_head_after : (limit n : ℕ) (xs : List ℕ) (e : ReadError) → StopsReading e → n ≡ min limit (length xs) → LacksHead limit xs → HasNoHead limit xs (error_after e n)
no_head_after limit n xs End stops all lacks = absurd stops
no_head_after limit zero [] CutShort stops all lacks = refl
no_head_after limit zero (x ∷ xs) CutShort stops all lacks = absurd (omega (arith, all, lacks.0))
no_head_after limit (suc n) xs CutShort stops all lacks = (omega (arith, all), lacks)
no_head_after limit n xs (Refused refusal) stops all lacks = absurd stops
no_head_after limit n xs ReadFault stops all lacks = lacks
no_head_after limit n xs Memory stops all lacks = lacks
