-- Prefixes of texts, and accounts cut at their last `@`.
use Rattle.std.proofs.Common.{◌≡◌, ◌≢◌, ℕ, ◌+◌, ◌-◌, ◌<◌, ◌≤◌, List, [], ◌++◌, append_assoc, length, length-drop, take, drop, get_or, Option, Some, None, Bool, true, false, not, refl, sym, ap, ◌∙◌, arith, lit<}
use Rattle.std.specs.Prelude.{◌==◌, MatchOption, codes, nat_eq, option_copied, option_and_then}
use Rattle.std.specs.Borrow.{Bor}
use Rattle.std.specs.List.{starts_with, suffix_len, before_last, after_last}
use Rattle.std.specs.Str.{NoCharPasses}
use Rattle.std.specs.Str.Pattern.{FindsTextPrefix, StripsPrefix, RFindsChar, SplitsAroundMatch}
use Rattle.std.proofs.lemmas.Bool.{false≢true}
use Rattle.std.proofs.lemmas.Bool.Decides.{nat_tests, Decides-eqb}
use Rattle.std.proofs.lemmas.List.Sums.{suffix_len_is}
use Rattle.std.proofs.lemmas.List.{append_cancel_left, get_or-drop}
use Rattle.std.proofs.lemmas.Slice.Eq.{starts_is}
use Rattle.std.proofs.lemmas.Str.Pattern.{NoCharPasses-char}
use Rattle.std.proofs.Math.Seq.{drop-append_seam}
use Rattle.fedi_address.specs.Iris.{is_at}
use Rattle.fedi_town.specs.Ids.{actor_id}
use Rattle.fedi_model.specs.Webfinger.{after_front}

-- ---- prefixes

-- a text that begins with a prefix continues with the rest
after_front-begins : (front text rest : List ℕ) → text ≡ front ++ rest → after_front front text ≡ Some rest
after_front-begins front text rest e =
    let begins : starts_with nat_eq text front ≡ true = (starts_is Decides-eqb text front (starts_with nat_eq text front) refl).1 rest e in
    rw (begins, e) (ap Some (drop-append_seam front rest))

after_front-other : (front text : List ℕ) → ((rest : List ℕ) → text ≢ front ++ rest) → after_front front text ≡ None
after_front-other front text none = by (starts_with nat_eq text front) refl
  where
    by : (v : Bool) → starts_with nat_eq text front ≡ v → after_front front text ≡ None
    by true e = absurd (none (drop (length front) text) ((starts_is Decides-eqb text front (starts_with nat_eq text front) refl).0 e))
    by false e = rw e refl

-- the clause of `strip_prefix`
pub after_front_stripped : (front text : List ℕ) (r : Option (Bor (List ℕ)))
    → MatchOption r (FindsTextPrefix front text None) (λ x. StripsPrefix (FindsTextPrefix front) text x.now) → option_copied r ≡ after_front front text
after_front_stripped front text None h = sym (after_front-other front text h)
after_front_stripped front text (Some x) h = sym (after_front-begins front text x.now (h.1.1 ∙ ap (λ t. front ++ t) (sym h.2)))

-- what follows one prefix and then another
after_front-append : (a b text : List ℕ) → after_front (a ++ b) text ≡ option_and_then (after_front b) (after_front a text)
after_front-append a b text = by (starts_with nat_eq text a) refl
  where
    rest : List ℕ
    rest = drop (length a) text

    further : (v : Bool) → text ≡ a ++ rest → starts_with nat_eq rest b ≡ v → after_front (a ++ b) text ≡ after_front b rest
    further true e f =
        let split : rest ≡ b ++ drop (length b) rest = (starts_is Decides-eqb rest b (starts_with nat_eq rest b) refl).0 f in
        let whole : text ≡ (a ++ b) ++ drop (length b) rest = e ∙ (ap (λ t. a ++ t) split ∙ sym (append_assoc a b (drop (length b) rest))) in
        after_front-begins (a ++ b) text (drop (length b) rest) whole ∙ sym (after_front-begins b rest (drop (length b) rest) split)
    further false e f =
        let none : (r : List ℕ) → rest ≢ b ++ r = λ r same. false≢true (sym f ∙ (starts_is Decides-eqb rest b (starts_with nat_eq rest b) refl).1 r same) in
        after_front-other (a ++ b) text (λ r same. none r (append_cancel_left a rest (b ++ r) (sym e ∙ (same ∙ append_assoc a b r))))
        ∙ sym (after_front-other b rest none)

    by : (v : Bool) → starts_with nat_eq text a ≡ v → after_front (a ++ b) text ≡ option_and_then (after_front b) (after_front a text)
    by true e =
        let split : text ≡ a ++ rest = (starts_is Decides-eqb text a (starts_with nat_eq text a) refl).0 e in
        further (starts_with nat_eq rest b) split refl ∙ sym (ap (option_and_then (after_front b)) (after_front-begins a text rest split))
    by false e =
        let none : (r : List ℕ) → text ≢ a ++ r = λ r same. false≢true (sym e ∙ (starts_is Decides-eqb text a (starts_with nat_eq text a) refl).1 r same) in
        after_front-other (a ++ b) text (λ r same. none (b ++ r) (same ∙ append_assoc a b r))
        ∙ sym (ap (option_and_then (after_front b)) (after_front-other a text none))

-- members' ids begin with `https://`, the host and `/users/`
pub after_users : (host iri : List ℕ) → after_front (actor_id host []) iri
    ≡ option_and_then (after_front (codes "/users/")) (option_and_then (after_front host) (after_front (codes "https://") iri))
unfolding actor_id
after_users host iri =
    after_front-append (codes "https://") (host ++ codes "/users/") iri ∙ by (after_front (codes "https://") iri)
  where
    by : (o : Option (List ℕ)) → option_and_then (after_front (host ++ codes "/users/")) o ≡ option_and_then (after_front (codes "/users/")) (option_and_then (after_front host) o)
    by None = refl
    by (Some rest) = after_front-append host (codes "/users/") rest

-- ---- accounts

not_at : (b : ℕ) → b ≢ 64 → not (is_at b) ≡ true
not_at b h = grind (arith, nat_tests)

-- the clause of `rsplit_once` at `@`
abbrev IsCut : List ℕ → Option (Bor (List ℕ) × Bor (List ℕ)) → Type 0
IsCut account r = MatchOption r (RFindsChar 64 account None) (λ x. SplitsAroundMatch (RFindsChar 64) account x.0.now x.1.now)

last_at : (account : List ℕ) (i : ℕ) → i < length account → get_or account i 0 ≡ 64 → NoCharPasses (λ d. d == 64) (drop (i + 1) account)
    → suffix_len (λ b. not (is_at b)) account ≡ length account - (i + 1)
last_at account i inside here none =
    suffix_len_is (λ b. not (is_at b)) account (i + 1) 0 (omega arith)
    (λ k from to. not_at (get_or account k 0) (λ e. after k from to e))
    (λ _. let same : i + 1 - 1 ≡ i = omega arith in rw (same, here) refl)
  where
    after : (k : ℕ) → i + 1 ≤ k → k < length account → get_or account k 0 ≡ 64 → ⊥
    after k from to e =
        let place : i + 1 + (k - (i + 1)) ≡ k = omega arith in
        let short : k - (i + 1) < length (drop (i + 1) account) = omega (arith, length-drop (i + 1) account) in
        NoCharPasses-char 64 (drop (i + 1) account) (k - (i + 1)) none (lit< tt) short (get_or-drop (i + 1) account (k - (i + 1)) 0 ∙ (ap (λ n. get_or account n 0) place ∙ e))

pub cut_at_last : (account : List ℕ) (r : Option (Bor (List ℕ) × Bor (List ℕ))) → IsCut account r
    → MatchOption r (before_last is_at account ≡ []) (λ x. (x.0.now ≡ before_last is_at account) × (x.1.now ≡ after_last is_at account))
cut_at_last account None h =
    let all : suffix_len (λ b. not (is_at b)) account ≡ length account - 0 =
    suffix_len_is (λ b. not (is_at b)) account 0 0 (omega arith)
    (λ k _ to. not_at (get_or account k 0) (NoCharPasses-char 64 account k h (lit< tt) to)) (λ none. absurd (omega (arith, none))) in
    let front : length account - suffix_len (λ b. not (is_at b)) account - 1 ≡ 0 = omega arith in
    rw front refl
cut_at_last account (Some x) h =
    let i = h.0 in
    let found = h.2 in
    let ends : h.1 ≡ i + 1 = found.1.ends in
    let here : get_or account i 0 ≡ 64 = found.1.byte (lit< tt) in
    let inside : i < length account = omega (arith, h.5, h.6, h.7) in
    let last = last_at account i inside here (rw ends at found.0) in
    let before : length account - suffix_len (λ b. not (is_at b)) account - 1 ≡ i = omega (arith, last) in
    let back : length account - suffix_len (λ b. not (is_at b)) account ≡ i + 1 = omega (arith, last) in
    (h.3 ∙ ap (λ n. take n account) (sym before), h.4 ∙ (ap (λ n. drop n account) (ends ∙ sym back)))
