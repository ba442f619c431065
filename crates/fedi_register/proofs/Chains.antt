-- What is kept in chains is found by following them.
use Rattle.std.proofs.Common.{◌≡◌, ℕ, zero, suc, ◌<◌, ◌≤◌, arith, Bool, true, false, List, [], ◌∷◌, ◌++◌, Option, Some, None, refl, sym, ap, subst, ◌∙◌, append_assoc, length, take, replicate, set, get_or, below_more}
use Rattle.std.specs.Prelude.{◌%◌, ◌&&◌, filter, is_some, map, nat_eq, reverse, slice_get, slice_index, option_map, if◌then◌else◌}
use Rattle.std.specs.Option.{option_or}
use Rattle.std.proofs.lemmas.List.{append-nil, get_or-set_other, get_or-set_same, get_or_past, map-append, length-map, reverse-append}
use Rattle.std.proofs.lemmas.Nat.{mod_below}
use Rattle.std.proofs.lemmas.Bool.{eqb-false, eqb-true, ne_eqb}
use Rattle.std.proofs.lemmas.Option.{slice_get_within, slice_get-map, slice_get-get_or}
use Rattle.std.proofs.Math.Seq.{take-length}
use Rattle.fedi_register.specs.declared.marks.Step.{Step}
use Rattle.fedi_register.specs.Chains.{HasHeads, IsChained, chain_of, is_of, mark_in, marks_of, newest, step_before}
use Rattle.fedi_register.specs.Marks.{Decides, Mark, first_place, places_of}

pub got_at : {X : Type 0} (before : List X) (x : X) (xs : List X) → slice_get (before ++ x ∷ xs) (length before) ≡ Some x
got_at [] x xs = refl
got_at (y ∷ before) x xs = got_at before x xs

got_old : {X : Type 0} (xs : List X) (e : X) (k : ℕ) → k < length xs → slice_get (xs ++ e ∷ []) k ≡ slice_get xs k
got_old [] e k h = absurd (omega arith)
got_old (x ∷ xs) e zero h = refl
got_old (x ∷ xs) e (suc k) h = got_old xs e k (omega arith)

pub longer : {X : Type 0} (before : List X) (x : X) → length (before ++ x ∷ []) ≡ suc (length before)
longer [] x = refl
longer (y ∷ before) x = ap suc (longer before x)

pub mark_got : (steps : List Step) (k : ℕ) (x : Step) → slice_get steps k ≡ Some x → slice_get (marks_of steps) k ≡ Some (mark_in x)
mark_got steps k x got = slice_get-map mark_in steps k ∙ ap (λ (o : Option Step). option_map mark_in o) got

-- ---- the newest of a chain

pub newest_within : (n chain : ℕ) (marks : List Mark) (k : ℕ) → newest n chain marks k ≤ k
newest_within n chain marks zero = omega arith
newest_within n chain marks (suc k) =
    let rest = newest_within n chain marks k in
    elim (is_of n chain (slice_get marks k)) as (λ b. (if b then suc k else newest n chain marks k) ≤ suc k) [ true ↦ omega arith | false ↦ omega arith ]

pub newest_is_own : (n chain : ℕ) (marks : List Mark) (k j : ℕ) → newest n chain marks k ≡ suc j → is_of n chain (slice_get marks j) ≡ true
newest_is_own n chain marks zero j h = absurd cc
newest_is_own n chain marks (suc k) j h =
    elim (is_of n chain (slice_get marks k)) as (λ b. is_of n chain (slice_get marks k) ≡ b → (if b then suc k else newest n chain marks k) ≡ suc j → is_of n chain (slice_get marks j) ≡ true) [
      | true ↦ λ own is. let same : k ≡ j = omega arith in subst (λ (i : ℕ). is_of n chain (slice_get marks i) ≡ true) same own
      | false ↦ λ _ is. newest_is_own n chain marks k j is
    ] refl h

newest_of_longer : (n chain : ℕ) (marks : List Mark) (e : Mark) (k : ℕ) → k ≤ length marks → newest n chain (marks ++ e ∷ []) k ≡ newest n chain marks k
newest_of_longer n chain marks e zero h = refl
newest_of_longer n chain marks e (suc k) h = rw (got_old marks e k (omega arith), newest_of_longer n chain marks e k (omega arith)) refl

-- ---- one step more is put into its chain

-- the heads after a mark
heads_after : (n : ℕ) (marks : List Mark) (heads : List ℕ) (e : Mark) (k : ℕ) → length heads ≡ n → HasHeads n marks heads k → chain_of n e.mark < n → slice_get marks k ≡ Some e
    → HasHeads n marks (set heads (chain_of n e.mark) (suc k)) (suc k)
heads_after n marks heads e k many h small got = record {
  head = λ chain below. rw got
      (elim (nat_eq (chain_of n e.mark) chain) as (λ b. nat_eq (chain_of n e.mark) chain ≡ b
      → slice_index (set heads (chain_of n e.mark) (suc k)) chain ≡ (if b then suc k else newest n chain marks k)) [
        | true ↦ λ is. subst (λ (c : ℕ). slice_index (set heads (chain_of n e.mark) (suc k)) c ≡ suc k) (eqb-true (chain_of n e.mark) chain is)
            (get_or-set_same heads (chain_of n e.mark) (suc k) 0 (omega (arith, many, small)))
        | false ↦ λ other. get_or-set_other heads (chain_of n e.mark) chain (suc k) 0 (λ same. eqb-false (chain_of n e.mark) chain other (sym same)) ∙ h.head chain below
      ] refl);
}

-- the step with another link
abbrev pub linked : Step → ℕ → Step
linked x before = record x { before = before }

pub marks_linked : (steps : List Step) (k b : ℕ) (d : Step) → marks_of (set steps k (linked (get_or steps k d) b)) ≡ marks_of steps
marks_linked [] k b d = refl
marks_linked (x ∷ steps) zero b d = refl
marks_linked (x ∷ steps) (suc k) b d = ap (λ (ms : List Mark). mark_in x ∷ ms) (marks_linked steps k b d)

got_set_other : (steps : List Step) (k j : ℕ) (y : Step) → j < k → slice_get (set steps k y) j ≡ slice_get steps j
got_set_other [] k j y h = refl
got_set_other (x ∷ steps) zero j y h = absurd (omega arith)
got_set_other (x ∷ steps) (suc k) zero y h = refl
got_set_other (x ∷ steps) (suc k) (suc j) y h = got_set_other steps k j y (omega arith)

got_set_same : (steps : List Step) (k : ℕ) (y : Step) → k < length steps → slice_get (set steps k y) k ≡ Some y
got_set_same [] k y h = absurd (omega arith)
got_set_same (x ∷ steps) zero y h = refl
got_set_same (x ∷ steps) (suc k) y h = got_set_same steps k y (omega arith)

pub chained_linked : (n : ℕ) (steps : List Step) (k b : ℕ) (d : Step) → k < length steps → IsChained n steps k
    → b ≡ newest n (chain_of n (get_or steps k d).mark) (marks_of steps) k → IsChained n (set steps k (linked (get_or steps k d) b)) (suc k)
chained_linked n steps k b d there h leads =
    let y : Step = linked (get_or steps k d) b in
    let steps' : List Step = set steps k y in
    let same : marks_of steps' ≡ marks_of steps = marks_linked steps k b d in
    let IsRight : ℕ → Type 0 = λ j. (x : Step) → slice_get steps' j ≡ Some x → x.before ≡ newest n (chain_of n x.mark) (marks_of steps') j in
    let older : (j : ℕ) → j < k → IsRight j =
    λ j below x got. h.before j x below (sym (got_set_other steps k j y below) ∙ got) ∙ ap (λ (ms : List Mark). newest n (chain_of n x.mark) ms j) (sym same) in
    let last : IsRight k =
    λ x got. let is : y ≡ x = cc (got_set_same steps k y there, got) in
    subst (λ (z : Step). z.before ≡ newest n (chain_of n z.mark) (marks_of steps') k) is
    (leads ∙ ap (λ (ms : List Mark). newest n (chain_of n y.mark) ms k) (sym same)) in
    record { before = λ j x below got. below_more IsRight k older last j (omega (arith, below)) x got }

pub heads_linked : (n : ℕ) (steps : List Step) (heads : List ℕ) (k : ℕ) (d : Step) → length heads ≡ n → k < length steps → chain_of n (get_or steps k d).mark < n
    → HasHeads n (marks_of steps) heads k → HasHeads n (marks_of steps) (set heads (chain_of n (get_or steps k d).mark) (suc k)) (suc k)
heads_linked n steps heads k d many there small h =
    heads_after n (marks_of steps) heads (mark_in (get_or steps k d)) k many h small (mark_got steps k (get_or steps k d) (slice_get-get_or steps k d there))

-- the head of a mark's chain
pub newest_headed : (n mark : ℕ) (steps : List Step) (heads : List ℕ) → n ≡ length heads → (0 < length steps → 0 < n) → HasHeads n (marks_of steps) heads (length steps)
    → slice_index heads (chain_of n mark) ≡ newest n (chain_of n mark) (marks_of steps) (length steps)
unfolding chain_of
newest_headed zero mark [] heads many some h = get_or_past heads (mark % 0) 0 (omega (arith, many))
newest_headed zero mark (x ∷ steps) heads many some h = let no : 0 < zero = some (omega arith) in absurd (omega arith)
newest_headed (suc n) mark steps heads many some h = h.head (mark % suc n) (mod_below mark (suc n) (omega arith))

-- no step is in a chain yet
pub none_chained : (n : ℕ) (steps : List Step) → IsChained n steps 0
none_chained n steps = record { before = λ j x below got. absurd (omega arith) }

pub none_headed : (n : ℕ) (marks : List Mark) (heads : List ℕ) → ((chain : ℕ) → slice_index heads chain ≡ 0) → HasHeads n marks heads 0
none_headed n marks heads empty = record { head = λ chain below. empty chain }

pub nothing_there : (n chain : ℕ) → slice_index (replicate n 0) chain ≡ 0
nothing_there zero chain = refl
nothing_there (suc n) zero = refl
nothing_there (suc n) (suc chain) = nothing_there n chain

-- ---- one more step

pub chained_more : (n : ℕ) (steps : List Step) (e : Step) → IsChained n steps (length steps) → e.before ≡ newest n (chain_of n e.mark) (marks_of steps) (length steps)
    → IsChained n (steps ++ e ∷ []) (length (steps ++ e ∷ []))
chained_more n steps e h leads =
    let marks' : marks_of (steps ++ e ∷ []) ≡ marks_of steps ++ mark_in e ∷ [] = map-append mark_in steps (e ∷ []) in
    let long : length (marks_of steps) ≡ length steps = length-map steps mark_in in
    let front : (chain j : ℕ) → j ≤ length steps → newest n chain (marks_of (steps ++ e ∷ [])) j ≡ newest n chain (marks_of steps) j =
    λ chain j within. ap (λ (ms : List Mark). newest n chain ms j) marks' ∙ newest_of_longer n chain (marks_of steps) (mark_in e) j (omega (arith, long, within)) in
    let IsRight : ℕ → Type 0 = λ k. (x : Step) → slice_get (steps ++ e ∷ []) k ≡ Some x → x.before ≡ newest n (chain_of n x.mark) (marks_of (steps ++ e ∷ [])) k in
    let older : (k : ℕ) → k < length steps → IsRight k =
    λ k below x got. h.before k x below (sym (got_old steps e k below) ∙ got) ∙ sym (front (chain_of n x.mark) k (omega arith)) in
    let last : IsRight (length steps) =
    λ x got. let same : e ≡ x = cc (got_at steps e [], got) in
    subst (λ (y : Step). y.before ≡ newest n (chain_of n y.mark) (marks_of (steps ++ e ∷ [])) (length steps)) same
    (leads ∙ sym (front (chain_of n e.mark) (length steps) (omega arith))) in
    record { before = λ k x below got. below_more IsRight (length steps) older last k (omega (arith, below, longer steps e)) x got }

pub heads_more : (n : ℕ) (steps : List Step) (heads : List ℕ) (e : Step) → length heads ≡ n → HasHeads n (marks_of steps) heads (length steps) → chain_of n e.mark < n
    → HasHeads n (marks_of (steps ++ e ∷ [])) (set heads (chain_of n e.mark) (suc (length steps))) (length (steps ++ e ∷ []))
heads_more n steps heads e many h small =
    let marks' : marks_of (steps ++ e ∷ []) ≡ marks_of steps ++ mark_in e ∷ [] = map-append mark_in steps (e ∷ []) in
    let long : length (marks_of steps) ≡ length steps = length-map steps mark_in in
    let before : HasHeads n (marks_of steps ++ mark_in e ∷ []) heads (length steps) =
    record { head = λ chain below. h.head chain below ∙ sym (newest_of_longer n chain (marks_of steps) (mark_in e) (length steps) (omega (arith, long))) } in
    rw (marks', longer steps e)
    (heads_after n (marks_of steps ++ mark_in e ∷ []) heads (mark_in e) (length steps) many before small
    (subst (λ (k : ℕ). slice_get (marks_of steps ++ mark_in e ∷ []) k ≡ Some (mark_in e)) long (got_at (marks_of steps) (mark_in e) [])))

-- ---- along a chain

-- what is found among the first k
abbrev pub found_in : (ℕ → Bool) → ℕ → List Mark → ℕ → Option ℕ
found_in q mark marks k = first_place q mark (take k marks)

-- what is found at one mark
abbrev pub found_at : (ℕ → Bool) → ℕ → Mark → Option ℕ
found_at q mark x = if nat_eq x.mark mark && q x.place then Some x.place else None

or_nothing : (o : Option ℕ) → option_or o None ≡ o
or_nothing None = refl
or_nothing (Some place) = refl

or_later : (passes : Bool) (o : Option ℕ) (place : ℕ) (later : Option ℕ) → option_or (option_or o (if passes then Some place else None)) later ≡ option_or o (if passes then Some place else later)
or_later true None place later = refl
or_later false None place later = refl
or_later true (Some earlier) place later = refl
or_later false (Some earlier) place later = refl

take_past : {X : Type 0} (xs : List X) (k : ℕ) → slice_get xs k ≡ None → take (suc k) xs ≡ take k xs
take_past [] zero h = refl
take_past [] (suc k) h = refl
take_past (x ∷ xs) zero h = absurd cc
take_past {X} (x ∷ xs) (suc k) h = ap (λ (rest : List X). x ∷ rest) (take_past xs k h)

found_more : (q : ℕ → Bool) (mark : ℕ) (marks : List Mark) (k : ℕ) (x : Mark) → slice_get marks k ≡ Some x
    → found_in q mark marks (suc k) ≡ option_or (found_in q mark marks k) (found_at q mark x)
found_more q mark [] k x got = absurd cc
found_more q mark (y ∷ marks) zero x got = let same : y ≡ x = cc in rw same refl
found_more q mark (y ∷ marks) (suc k) x got =
    elim (nat_eq y.mark mark && q y.place) as (λ b. (if b then Some y.place else found_in q mark marks (suc k))
    ≡ option_or (if b then Some y.place else found_in q mark marks k) (found_at q mark x)) [
      | true ↦ refl
      | false ↦ found_more q mark marks k x got
    ]

-- the entries with this mark
abbrev of_mark : ℕ → List Mark → List Mark
of_mark mark marks = filter (λ m. nat_eq m.mark mark) marks

-- the entries with this mark among the first k
abbrev same_in : ℕ → List Mark → ℕ → List Mark
same_in mark marks k = of_mark mark (take k marks)

same_more : (mark : ℕ) (marks : List Mark) (k : ℕ) (x : Mark) → slice_get marks k ≡ Some x
    → same_in mark marks (suc k) ≡ same_in mark marks k ++ (if nat_eq x.mark mark then x ∷ [] else [])
same_more mark [] k x got = absurd cc
same_more mark (y ∷ marks) zero x got = let same : y ≡ x = cc in rw same refl
same_more mark (y ∷ marks) (suc k) x got =
    elim (nat_eq y.mark mark) as (λ b. (if b then y ∷ same_in mark marks (suc k) else same_in mark marks (suc k))
    ≡ (if b then y ∷ same_in mark marks k else same_in mark marks k) ++ (if nat_eq x.mark mark then x ∷ [] else [])) [
      | true ↦ ap (λ (ms : List Mark). y ∷ ms) (same_more mark marks k x got)
      | false ↦ same_more mark marks k x got
    ]

-- a mark of another chain is a different mark
other_mark : (n mark : ℕ) (x : Mark) → nat_eq (chain_of n x.mark) (chain_of n mark) ≡ false → nat_eq x.mark mark ≡ false
other_mark n mark x other = ne_eqb x.mark mark (λ same. eqb-false (chain_of n x.mark) (chain_of n mark) other (ap (chain_of n) same))

-- the entries with this mark are those with it up to the newest of the chain
same_newest : (n mark : ℕ) (marks : List Mark) (k : ℕ) → same_in mark marks k ≡ same_in mark marks (newest n (chain_of n mark) marks k)
same_newest n mark marks zero = refl
same_newest n mark marks (suc k) =
    elim (slice_get marks k) as (λ o. slice_get marks k ≡ o
    → same_in mark marks (suc k) ≡ same_in mark marks (if is_of n (chain_of n mark) o then suc k else newest n (chain_of n mark) marks k)) [
      | None ↦ λ past. ap (λ (front : List Mark). of_mark mark front) (take_past marks k past) ∙ same_newest n mark marks k
      | Some x ↦ λ got. elim (nat_eq (chain_of n x.mark) (chain_of n mark)) as (λ b. nat_eq (chain_of n x.mark) (chain_of n mark) ≡ b
          → same_in mark marks (suc k) ≡ same_in mark marks (if b then suc k else newest n (chain_of n mark) marks k)) [
            | true ↦ λ _. refl
            | false ↦ λ other. same_more mark marks k x got ∙ (rw (other_mark n mark x other, append-nil) refl) ∙ same_newest n mark marks k
          ] refl
    ] refl

-- whatever is found is found among the entries with this mark
first-same : (q : ℕ → Bool) (mark : ℕ) (marks : List Mark) → first_place q mark marks ≡ first_place q mark (of_mark mark marks)
first-same q mark [] = refl
first-same q mark (m ∷ marks) =
    elim (nat_eq m.mark mark) as (λ b. nat_eq m.mark mark ≡ b → (if b && q m.place then Some m.place else first_place q mark marks)
    ≡ first_place q mark (if b then m ∷ of_mark mark marks else of_mark mark marks)) [
      | true ↦ λ is. rw (is, first-same q mark marks) refl
      | false ↦ λ _. first-same q mark marks
    ] refl

-- whatever is found is found up to the newest of the chain
found_newest : (n : ℕ) (q : ℕ → Bool) (mark : ℕ) (marks : List Mark) (k : ℕ) → found_in q mark marks k ≡ found_in q mark marks (newest n (chain_of n mark) marks k)
found_newest n q mark marks k =
    first-same q mark (take k marks) ∙ ap (λ (ms : List Mark). first_place q mark ms) (same_newest n mark marks k)
    ∙ sym (first-same q mark (take (newest n (chain_of n mark) marks k) marks))

-- during the walk along a chain: the next step belongs to the chain, and what is found among all is
-- found from it on or was already found
pub record IsAlong (n : ℕ) (says : ℕ → Bool → Type 0) (steps : List Step) (mark next : ℕ) (found : Option ℕ) : Type 0 where
  pub own : (k : ℕ) → next ≡ suc k → is_of n (chain_of n mark) (slice_get (marks_of steps) k) ≡ true
  pub rest : (q : ℕ → Bool) → Decides says q → first_place q mark (marks_of steps) ≡ option_or (found_in q mark (marks_of steps) next) found

pub along_first : (n : ℕ) (says : ℕ → Bool → Type 0) (steps : List Step) (mark next : ℕ) → next ≡ newest n (chain_of n mark) (marks_of steps) (length steps) → IsAlong n says steps mark next None
along_first n says steps mark next first =
    let long : length (marks_of steps) ≡ length steps = length-map steps mark_in in
    let all : take (length steps) (marks_of steps) ≡ marks_of steps = subst (λ (k : ℕ). take k (marks_of steps) ≡ marks_of steps) long (take-length (marks_of steps)) in record {
      own = λ k is. newest_is_own n (chain_of n mark) (marks_of steps) (length steps) k (sym first ∙ is);
      rest = λ q _. sym (or_nothing (found_in q mark (marks_of steps) next)
          ∙ ap (λ (k : ℕ). found_in q mark (marks_of steps) k) first
          ∙ sym (found_newest n q mark (marks_of steps) (length steps))
          ∙ ap (λ (front : List Mark). first_place q mark front) all);
    }

-- the next step refers to the newest step before it in the chain
leads_on : (n : ℕ) (steps : List Step) (mark k : ℕ) (x : Step) → IsChained n steps (length steps) → is_of n (chain_of n mark) (slice_get (marks_of steps) k) ≡ true → slice_get steps k ≡ Some x
    → x.before ≡ newest n (chain_of n mark) (marks_of steps) k
leads_on n steps mark k x chained own got =
    let same : chain_of n x.mark ≡ chain_of n mark =
    eqb-true (chain_of n x.mark) (chain_of n mark) (subst (λ (o : Option Mark). is_of n (chain_of n mark) o ≡ true) (mark_got steps k x got) own) in
    subst (λ (chain : ℕ). x.before ≡ newest n chain (marks_of steps) k) same (chained.before k x (slice_get_within steps k x got) got)

pub along_more : (n : ℕ) (says : ℕ → Bool → Type 0) (steps : List Step) (mark next : ℕ) (found found' : Option ℕ) (x : Step) → IsChained n steps (length steps) → IsAlong n says steps mark next found
    → Some x ≡ step_before steps next → ((q : ℕ → Bool) → Decides says q → found' ≡ (if nat_eq x.mark mark && q x.place then Some x.place else found))
    → IsAlong n says steps mark x.before found'
along_more n says steps mark zero found found' x chained h got passed = absurd cc
along_more n says steps mark (suc k) found found' x chained h got passed =
    let marks : List Mark = marks_of steps in
    let leads = leads_on n steps mark k x chained (h.own k refl) (sym got) in record {
      own = λ j is. newest_is_own n (chain_of n mark) marks k j (sym leads ∙ is);
      rest = λ q decides. h.rest q decides
          ∙ ap (λ (o : Option ℕ). option_or o found) (found_more q mark marks k (mark_in x) (mark_got steps k x (sym got)))
          ∙ or_later (nat_eq x.mark mark && q x.place) (found_in q mark marks k) x.place found
          ∙ ap (λ (o : Option ℕ). option_or o (if nat_eq x.mark mark && q x.place then Some x.place else found)) (found_newest n q mark marks k ∙ ap (λ (j : ℕ). found_in q mark marks j) (sym leads))
          ∙ ap (λ (o : Option ℕ). option_or (found_in q mark marks x.before) o) (sym (passed q decides));
    }

pub before_less : (n : ℕ) (steps : List Step) (next : ℕ) (x : Step) → IsChained n steps (length steps) → Some x ≡ step_before steps next → x.before < next
before_less n steps zero x chained got = absurd cc
before_less n steps (suc k) x chained got =
    omega (arith, chained.before k x (slice_get_within steps k x (sym got)) (sym got), newest_within n (chain_of n x.mark) (marks_of steps) k)

-- a step of the chain exists
ends : (n : ℕ) (steps : List Step) (mark k : ℕ) → is_of n (chain_of n mark) (slice_get (marks_of steps) k) ≡ true → slice_get steps k ≡ None → ⊥
ends n steps mark k own none =
    let past : slice_get (marks_of steps) k ≡ None = slice_get-map mark_in steps k ∙ ap (λ (o : Option Step). option_map mark_in o) none in
    let wrong = subst (λ (o : Option Mark). is_of n (chain_of n mark) o ≡ true) past own in cc

pub along_last : (n : ℕ) (says : ℕ → Bool → Type 0) (steps : List Step) (mark next : ℕ) (found : Option ℕ) → IsAlong n says steps mark next found → step_before steps next ≡ None
    → (q : ℕ → Bool) → Decides says q → found ≡ first_place q mark (marks_of steps)
along_last n says steps mark zero found h none q decides = sym (h.rest q decides)
along_last n says steps mark (suc k) found h none q decides = absurd (ends n steps mark k (h.own k refl) none)

-- one with this mark that passes was found, and none before
some_later : (o : Option ℕ) (place : ℕ) → is_some (option_or o (Some place)) ≡ true
some_later None place = refl
some_later (Some earlier) place = refl

pub along_hit : (n : ℕ) (says : ℕ → Bool → Type 0) (steps : List Step) (mark next : ℕ) (x : Step) → IsAlong n says steps mark next None → Some x ≡ step_before steps next
    → (q : ℕ → Bool) → Decides says q → (nat_eq x.mark mark && q x.place) ≡ true → is_some (first_place q mark (marks_of steps)) ≡ true
along_hit n says steps mark zero x h got q decides hit = absurd cc
along_hit n says steps mark (suc k) x h got q decides hit =
    let marks : List Mark = marks_of steps in
    let at : found_at q mark (mark_in x) ≡ Some x.place = rw hit refl in
    ap is_some (h.rest q decides ∙ or_nothing (found_in q mark marks (suc k)) ∙ found_more q mark marks k (mark_in x) (mark_got steps k x (sym got))
    ∙ ap (λ (o : Option ℕ). option_or (found_in q mark marks k) o) at)
    ∙ some_later (found_in q mark marks k) x.place

-- ---- all of a mark

-- the positions of these marks
abbrev places_in : List Mark → List ℕ
places_in marks = map (λ m. m.place) marks

-- during the walk along a chain: the next step belongs to the chain, and the positions with the
-- mark are those from it on, followed by those already found, which are stored newest first
pub record IsGathering (n : ℕ) (steps : List Step) (mark next : ℕ) (found : List ℕ) : Type 0 where
  pub own : (k : ℕ) → next ≡ suc k → is_of n (chain_of n mark) (slice_get (marks_of steps) k) ≡ true
  pub rest : places_of mark (marks_of steps) ≡ places_in (same_in mark (marks_of steps) next) ++ reverse found

pub gathering_first : (n : ℕ) (steps : List Step) (mark next : ℕ) → next ≡ newest n (chain_of n mark) (marks_of steps) (length steps) → IsGathering n steps mark next []
gathering_first n steps mark next first =
    let marks : List Mark = marks_of steps in
    let long : length marks ≡ length steps = length-map steps mark_in in
    let all : take (length steps) marks ≡ marks = subst (λ (k : ℕ). take k marks ≡ marks) long (take-length marks) in record {
      own = λ k is. newest_is_own n (chain_of n mark) marks (length steps) k (sym first ∙ is);
      rest = ap (λ (front : List Mark). places_of mark front) (sym all)
          ∙ ap (λ (ms : List Mark). places_in ms) (same_newest n mark marks (length steps))
          ∙ ap (λ (k : ℕ). places_in (same_in mark marks k)) (sym first)
          ∙ sym (append-nil (places_in (same_in mark marks next)));
    }

gathered_one : (mark : ℕ) (x : Mark) (marks : List Mark) (found found' : List ℕ) → found' ≡ (if nat_eq x.mark mark then found ++ x.place ∷ [] else found)
    → places_in (marks ++ (if nat_eq x.mark mark then x ∷ [] else [])) ++ reverse found ≡ places_in marks ++ reverse found'
gathered_one mark x marks found found' =
    elim (nat_eq x.mark mark) as (λ b. found' ≡ (if b then found ++ x.place ∷ [] else found)
    → places_in (marks ++ (if b then x ∷ [] else [])) ++ reverse found ≡ places_in marks ++ reverse found') [
      | true ↦ λ is. rw (is, map-append, reverse-append) (append_assoc (places_in marks) (x.place ∷ []) (reverse found))
      | false ↦ λ is. rw (is, append-nil) refl
    ]

pub gathering_more : (n : ℕ) (steps : List Step) (mark next : ℕ) (found found' : List ℕ) (x : Step) → IsChained n steps (length steps) → IsGathering n steps mark next found
    → Some x ≡ step_before steps next → found' ≡ (if nat_eq x.mark mark then found ++ x.place ∷ [] else found) → IsGathering n steps mark x.before found'
gathering_more n steps mark zero found found' x chained h got gathered = absurd cc
gathering_more n steps mark (suc k) found found' x chained h got gathered =
    let marks : List Mark = marks_of steps in
    let leads = leads_on n steps mark k x chained (h.own k refl) (sym got) in record {
      own = λ j is. newest_is_own n (chain_of n mark) marks k j (sym leads ∙ is);
      rest = h.rest
          ∙ ap (λ (ms : List Mark). places_in ms ++ reverse found) (same_more mark marks k (mark_in x) (mark_got steps k x (sym got)))
          ∙ gathered_one mark (mark_in x) (same_in mark marks k) found found' gathered
          ∙ ap (λ (ms : List Mark). places_in ms ++ reverse found') (same_newest n mark marks k)
          ∙ ap (λ (j : ℕ). places_in (same_in mark marks j) ++ reverse found') (sym leads);
    }

pub gathering_last : (n : ℕ) (steps : List Step) (mark next : ℕ) (found : List ℕ) → IsGathering n steps mark next found → step_before steps next ≡ None
    → reverse found ≡ places_of mark (marks_of steps)
gathering_last n steps mark zero found h none = sym h.rest
gathering_last n steps mark (suc k) found h none = absurd (ends n steps mark k (h.own k refl) none)
