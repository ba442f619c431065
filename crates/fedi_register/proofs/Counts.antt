-- The number of activities of each author.
use Rattle.std.proofs.Common.{◌≡◌, ℕ, zero, suc, ◌+◌, ◌<◌, ◌≤◌, ◌^◌, arith, Bool, true, false, List, [], ◌∷◌, ◌++◌, Some, None, get_or, set, length, ltb, refl, sym, ap, subst, ◌∙◌}
use Rattle.std.specs.Prelude.{◌||◌, filter, nat_lt, if◌then◌else◌}
use Rattle.std.specs.List.{find, list_any, position_or_len}
use Rattle.std.specs.Str.{bytes_eq}
use Rattle.fedi_address.specs.Recipients.{is_among}
use Rattle.fedi_town.specs.declared.act.Act.{Act}
use Rattle.fedi_town.specs.Towns.{is_by}
use Rattle.fedi_town.proofs.Texts.{bytes_eq-is, bytes_eq-same}
use Rattle.fedi_register.specs.declared.authors.Author.{Author}
use Rattle.fedi_register.specs.declared.seeds.Seed.{Seed}
use Rattle.fedi_register.specs.Authors.{CountsOne, SameCounts, author_mark, count_found, count_in, ids_of, is_author}
use Rattle.fedi_register.specs.Marks.{Mark, every, marks_from}
use Rattle.fedi_register.specs.Registers.{IsIndexed, count_by}
use Rattle.fedi_register.proofs.Once.{place_any}

-- ---- among activities

pub counted : (id : List ℕ) (seed : Seed) (acts : List Act) (keyed made ids pairs followed blocked : List Mark) (authors : List Author) → IsIndexed seed acts keyed made ids pairs followed blocked authors
    → count_in authors id ≡ count_by acts id
counted id seed acts keyed made ids pairs followed blocked authors h = h.count id

pub fewer : (p : Act → Bool) (acts : List Act) → length (filter p acts) ≤ length acts
fewer p [] = omega arith
fewer p (x ∷ acts) =
    let rest = fewer p acts in
    elim (p x) as (λ b. length (if b then x ∷ filter p acts else filter p acts) ≤ length (x ∷ acts)) [ true ↦ omega (arith, rest) | false ↦ omega (arith, rest) ]

pub few : (id : List ℕ) (acts : List Act) (n : ℕ) → n ≡ count_by acts id → length acts < 2 ^ 63 → n < 2 ^ 63
few id acts n is short = let h = fewer (is_by id) acts in omega (arith, h, is)

pub nothing_indexed : (seed : Seed) → IsIndexed seed [] [] [] [] [] [] [] []
unfolding count_in
nothing_indexed seed = record { key = refl; object = refl; id = refl; pair = refl; follow = refl; block = refl; count = λ id. refl }

-- ---- authors who are known

pub any_known : (id : List ℕ) (authors : List Author) → list_any (is_author id) authors ≡ is_among id (ids_of authors)
unfolding is_among is_author
any_known id [] = refl
any_known id (a ∷ authors) = ap (λ (b : Bool). bytes_eq a.id id || b) (any_known id authors)

pub ids_added : (authors : List Author) (a : Author) → ids_of (authors ++ a ∷ []) ≡ ids_of authors ++ a.id ∷ []
ids_added [] a = refl
ids_added (x ∷ authors) a = ap (λ (ids : List (List ℕ)). x.id ∷ ids) (ids_added authors a)

found_last : (id : List ℕ) (authors : List Author) (a : Author) → a.count ≡ 0
    → count_found (find (is_author id) (authors ++ a ∷ [])) ≡ count_found (find (is_author id) authors)
found_last id [] a none = elim (is_author id a) as (λ b. count_found (if b then Some a else None) ≡ 0) [ true ↦ none | false ↦ refl ]
found_last id (x ∷ authors) a none =
    elim (is_author id x) as (λ b. count_found (if b then Some x else find (is_author id) (authors ++ a ∷ [])) ≡ count_found (if b then Some x else find (is_author id) authors)) [
      | true ↦ refl
      | false ↦ found_last id authors a none
    ]

pub counts_added : (authors : List Author) (a : Author) → a.count ≡ 0 → SameCounts authors (authors ++ a ∷ [])
unfolding count_in
counts_added authors a none = record { count = λ id. found_last id authors a none }

pub counts_same : (old new : List Author) → new ≡ old → SameCounts old new
counts_same old new same = record { count = λ id. ap (λ (authors : List Author). count_in authors id) same }

-- ---- one more activity of an author

-- the first author with this id exists and has this position
pub record IsFirst (author : List ℕ) (authors : List Author) (i : ℕ) : Type 0 where
  pub place : position_or_len (is_author author) authors ≡ i
  pub any : list_any (is_author author) authors ≡ true

pub the_first : (author : List ℕ) (authors : List Author) (i : ℕ)
    → Some i ≡ (if nat_lt (position_or_len (is_author author) authors) (length authors) then Some (position_or_len (is_author author) authors) else None)
    → IsFirst author authors i
the_first author authors i found =
    elim (ltb (position_or_len (is_author author) authors) (length authors)) as (λ b. ltb (position_or_len (is_author author) authors) (length authors) ≡ b
    → Some i ≡ (if b then Some (position_or_len (is_author author) authors) else None) → IsFirst author authors i) [
      | true ↦ λ e f. record { place = cc; any = sym (place_any (is_author author) authors) ∙ e }
      | false ↦ λ e f. absurd cc
    ] refl found

pub not_known : (author : List ℕ) (authors : List Author)
    → None ≡ (if nat_lt (position_or_len (is_author author) authors) (length authors) then Some (position_or_len (is_author author) authors) else None)
    → is_among author (ids_of authors) ≡ true → ⊥
not_known author authors found known =
    elim (ltb (position_or_len (is_author author) authors) (length authors)) as (λ b. ltb (position_or_len (is_author author) authors) (length authors) ≡ b
    → None ≡ (if b then Some (position_or_len (is_author author) authors) else None) → ⊥) [
      | true ↦ λ e f. absurd cc
      | false ↦ λ e f. absurd (let none : is_among author (ids_of authors) ≡ false = sym (any_known author authors) ∙ sym (place_any (is_author author) authors) ∙ e in cc)
    ] refl found

-- the count of the author is at this position
count_at : (author : List ℕ) (authors : List Author) (d : Author) → list_any (is_author author) authors ≡ true
    → (get_or authors (position_or_len (is_author author) authors) d).count ≡ count_found (find (is_author author) authors)
count_at author [] d any = absurd cc
count_at author (a ∷ authors) d any =
    elim (is_author author a) as (λ b. is_author author a ≡ b → (get_or (a ∷ authors) (position_or_len (is_author author) (a ∷ authors)) d).count ≡ count_found (find (is_author author) (a ∷ authors))) [
      | true ↦ λ e. rw e refl
      | false ↦ λ e.
          let k : 1 + position_or_len (is_author author) authors ≡ suc (position_or_len (is_author author) authors) = omega arith in
          rw (e, k) (count_at author authors d (rw e at any))
    ] refl

pub first_count : (author : List ℕ) (authors : List Author) (i : ℕ) (d : Author) → IsFirst author authors i
    → (get_or authors i d).count ≡ count_in authors author
unfolding count_in
first_count author authors i d first = ap (λ (k : ℕ). (get_or authors k d).count) (sym first.place) ∙ count_at author authors d first.any

-- the author with one more activity
abbrev pub one_more : Author → Author
one_more a = record a { count = a.count + 1 }

more-at : (author : List ℕ) (authors : List Author) (d : Author) (id : List ℕ) → list_any (is_author author) authors ≡ true
    → count_found (find (is_author id) (set authors (position_or_len (is_author author) authors) (one_more (get_or authors (position_or_len (is_author author) authors) d))))
    ≡ count_found (find (is_author id) authors) + (if bytes_eq author id then 1 else 0)
unfolding is_author
more-at author [] d id any = absurd cc
more-at author (a ∷ authors) d id any =
    let Goal : Type 0 = count_found (find (is_author id) (set (a ∷ authors) (position_or_len (is_author author) (a ∷ authors))
    (one_more (get_or (a ∷ authors) (position_or_len (is_author author) (a ∷ authors)) d)))) ≡ count_found (find (is_author id) (a ∷ authors)) + (if bytes_eq author id then 1 else 0) in
    elim (bytes_eq a.id author) as (λ b. bytes_eq a.id author ≡ b → Goal) [
      | true ↦ λ e.
          let same : a.id ≡ author = bytes_eq-is a.id author e in
          rw e (elim (bytes_eq a.id id) as (λ b. bytes_eq a.id id ≡ b → count_found (if b then Some (one_more a) else find (is_author id) authors)
          ≡ count_found (if b then Some a else find (is_author id) authors) + (if bytes_eq author id then 1 else 0)) [
            | true ↦ λ own. let it : bytes_eq author id ≡ true = ap (λ (x : List ℕ). bytes_eq x id) (sym same) ∙ own in rw it refl
            | false ↦ λ other. let it : bytes_eq author id ≡ false = ap (λ (x : List ℕ). bytes_eq x id) (sym same) ∙ other in rw it (omega arith)
          ] refl)
      | false ↦ λ e.
          let k : 1 + position_or_len (is_author author) authors ≡ suc (position_or_len (is_author author) authors) = omega arith in
          rw (e, k) (elim (bytes_eq a.id id) as (λ b. bytes_eq a.id id ≡ b → count_found (if b then Some a
          else find (is_author id) (set authors (position_or_len (is_author author) authors) (one_more (get_or authors (position_or_len (is_author author) authors) d))))
          ≡ count_found (if b then Some a else find (is_author id) authors) + (if bytes_eq author id then 1 else 0)) [
            | true ↦ λ own.
                let it : bytes_eq author id ≡ false = other_author a.id author id e own in
                rw it (omega arith)
            | false ↦ λ other. more-at author authors d id (rw e at any)
          ] refl)
    ] refl
  where
    other_author : (own author id : List ℕ) → bytes_eq own author ≡ false → bytes_eq own id ≡ true → bytes_eq author id ≡ false
    other_author own author id differs is =
        elim (bytes_eq author id) as (λ b. bytes_eq author id ≡ b → b ≡ false) [
          | false ↦ λ e. refl
          | true ↦ λ e. absurd (let yes : bytes_eq own author ≡ true = subst (λ (x : List ℕ). bytes_eq own x ≡ true) (bytes_eq-is own id is ∙ sym (bytes_eq-is author id e)) (bytes_eq-same own) in cc)
        ] refl

ids-at : (authors : List Author) (i : ℕ) (d : Author) → ids_of (set authors i (one_more (get_or authors i d))) ≡ ids_of authors
ids-at [] i d = refl
ids-at (a ∷ authors) zero d = refl
ids-at (a ∷ authors) (suc i) d = ap (λ (ids : List (List ℕ)). a.id ∷ ids) (ids-at authors i d)

pub one_counted : (author : List ℕ) (authors : List Author) (i : ℕ) (d b : Author) → IsFirst author authors i → b ≡ one_more (get_or authors i d)
    → CountsOne authors (set authors i b) author
unfolding count_in
one_counted author authors i d b first is = record {
  count = λ id.
      rw (is, sym first.place) (more-at author authors d id first.any);
}

pub ids_stay : (authors : List Author) (i : ℕ) (d b : Author) → b ≡ one_more (get_or authors i d) → ids_of (set authors i b) ≡ ids_of authors
ids_stay authors i d b is = rw is (ids-at authors i d)

marks-at : (seed : Seed) (authors : List Author) (i n : ℕ) (d : Author) → marks_from every (author_mark seed) n (set authors i (one_more (get_or authors i d))) ≡ marks_from every (author_mark seed) n authors
unfolding author_mark
marks-at seed [] i n d = refl
marks-at seed (a ∷ authors) zero n d = refl
marks-at seed (a ∷ authors) (suc i) n d = ap (λ (marks : List Mark). record { mark = author_mark seed a; place = n } ∷ marks) (marks-at seed authors i (suc n) d)

pub marks_stay : (seed : Seed) (authors : List Author) (i : ℕ) (d b : Author) → b ≡ one_more (get_or authors i d) → marks_from every (author_mark seed) 0 (set authors i b) ≡ marks_from every (author_mark seed) 0 authors
marks_stay seed authors i d b is = rw is (marks-at seed authors i 0 d)
