-- The ids that Adds and Removes leave are those of the Adds by which they are there.
use Rattle.std.proofs.Common.{◌≡◌, ◌≤◌, ◌<◌, ℕ, suc, arith, Bool, true, false, List, [], ◌∷◌, ◌++◌, Option, Some, None, refl, sym, ap, subst, ◌∙◌, nat_eq, eq-eqb}
use Rattle.std.specs.Prelude.{◌&&◌, ◌||◌, not, filter, map, is_some, unwrap_or, if◌then◌else◌}
use Rattle.std.specs.List.{fold, list_all}
use Rattle.std.specs.Str.{bytes_eq}
use Rattle.std.proofs.lemmas.Bool.{and_parts, ne_eqb}
use Rattle.std.proofs.lemmas.List.{append-nil, append_assoc, map-append}
use Rattle.std.proofs.lemmas.List.Elements.{filter-append}
use Rattle.std.proofs.lemmas.List.Folds.{list_all-append}
use Rattle.fedi_address.proofs.Audience.{is_among-append}
use Rattle.fedi_address.specs.Recipients.{add_new, is_among}
use Rattle.fedi_pins.specs.Held.{is_place}
use Rattle.fedi_town.proofs.Lists.{filter-agree, filter-through}
use Rattle.fedi_town.proofs.Once.{filter-among}
use Rattle.fedi_town.proofs.Texts.{bytes_eq-is, bytes_eq-same, bytes_eq-swapped, or_no, or_true}
use Rattle.fedi_town.specs.Lists.{differs}

-- ---- lists

filter-in : (p : ℕ → Bool) (xs : List ℕ) (x : ℕ) → p x ≡ true → filter p (xs ++ x ∷ []) ≡ filter p xs ++ x ∷ []
filter-in p xs x is = filter-append p xs (x ∷ []) ∙ rw is refl

filter-out : (p : ℕ → Bool) (xs : List ℕ) (x : ℕ) → p x ≡ false → filter p (xs ++ x ∷ []) ≡ filter p xs
filter-out p xs x is = filter-append p xs (x ∷ []) ∙ rw is (append-nil (filter p xs))

-- two tests that agree on what passes a third keep the same of a list where all pass that one
pub filter-where : {A : Type 0} (r p q : A → Bool) → ((x : A) → r x ≡ true → p x ≡ q x) → (xs : List A) → list_all r xs ≡ true → filter p xs ≡ filter q xs
filter-where r p q same [] all = refl
filter-where r p q same (x ∷ xs) all =
    let parts = and_parts (r x) (list_all r xs) all in
    rw (same x parts.0, filter-where r p q same xs parts.1) refl

-- what passes both tests
pub filter-both : (p q : ℕ → Bool) (xs : List ℕ) → filter (λ x. p x && q x) xs ≡ filter p (filter q xs)
filter-both p q [] = refl
filter-both p q (x ∷ xs) =
    elim (q x) as (λ b. q x ≡ b → filter (λ y. p y && q y) (x ∷ xs) ≡ filter p (filter q (x ∷ xs))) [
      | true ↦ λ e. elim (p x) as (λ b. p x ≡ b → filter (λ y. p y && q y) (x ∷ xs) ≡ filter p (filter q (x ∷ xs))) [
        | true ↦ λ f. rw (f, e, f, filter-both p q xs) refl
        | false ↦ λ f. rw (f, e, f, filter-both p q xs) refl
      ] refl
      | false ↦ λ e. elim (p x) as (λ b. p x ≡ b → filter (λ y. p y && q y) (x ∷ xs) ≡ filter p (filter q (x ∷ xs))) [
        | true ↦ λ f. rw (f, e, filter-both p q xs) refl
        | false ↦ λ f. rw (f, e, filter-both p q xs) refl
      ] refl
    ] refl

-- what was taken out is not there
among-gone : (k : List ℕ) (ids : List (List ℕ)) → is_among k (filter (differs bytes_eq k) ids) ≡ false
unfolding differs is_among
among-gone k [] = refl
among-gone k (id ∷ ids) =
    elim (bytes_eq k id) as (λ b. bytes_eq k id ≡ b → is_among k (filter (differs bytes_eq k) (id ∷ ids)) ≡ false) [
      | true ↦ λ e. rw e (among-gone k ids)
      | false ↦ λ e. rw e (rw (bytes_eq-swapped k id e) (among-gone k ids))
    ] refl

-- ---- what is known so far

module _ (key : ℕ → List ℕ) (counts out : ℕ → Bool) where
  -- the position by which an id is there, after the Add or Remove at this position
  abbrev pub put_held : List ℕ → Option ℕ → ℕ → Option ℕ
  put_held id held place = if counts place && bytes_eq (key place) id then (if out place then None else Some (unwrap_or held place)) else held

  -- the ids after the Add or Remove at this position
  abbrev pub with_id : List (List ℕ) → ℕ → List (List ℕ)
  with_id ids place = if counts place then (if out place then filter (differs bytes_eq (key place)) ids else add_new ids (key place)) else ids

  -- positions that go up, the first at least this
  abbrev pub From : ℕ → List ℕ → Type 0
  From n [] = Unit {0}
  From n (p ∷ ps) = (n ≤ p) × From (suc p) ps

  -- the position is that of the Add by which its id is there
  abbrev pub holds : (List ℕ → Option ℕ) → ℕ → Bool
  holds h p = is_place p (h (key p))

  -- it is another position
  abbrev other_than : ℕ → ℕ → Bool
  other_than p q = not (nat_eq p q)

  -- what is known after the positions that are done, all of them below n
  record Agrees (n : ℕ) (done : List ℕ) (ids : List (List ℕ)) (h : List ℕ → Option ℕ) : Type 0 where
    same : ids ≡ map key (filter (holds h) done)
    known : (id : List ℕ) → is_among id ids ≡ is_some (h id)
    below : (id : List ℕ) (p : ℕ) → h id ≡ Some p → p < n
    past : (p : ℕ) → n ≤ p → list_all (other_than p) done ≡ true

  not_yet : (n p : ℕ) (held : Option ℕ) → n ≤ p → ((q : ℕ) → held ≡ Some q → q < n) → is_place p held ≡ false
  not_yet n p None from below = refl
  not_yet n p (Some q) from below = let before : q < n = below q refl in ne_eqb q p (λ same. omega (arith, before, from, same))

  past_more : (n p : ℕ) (done : List ℕ) → n ≤ p → ((q : ℕ) → n ≤ q → list_all (other_than q) done ≡ true)
      → (q : ℕ) → suc p ≤ q → list_all (other_than q) (done ++ p ∷ []) ≡ true
  past_more n p done from past q after =
      list_all-append (other_than q) done (p ∷ [])
      ∙ rw (past q (omega (arith, from, after)), ne_eqb q p (λ same. omega (arith, after, same))) refl

  -- nothing changes
  still : (n p : ℕ) (done : List ℕ) (ids : List (List ℕ)) (h k : List ℕ → Option ℕ) → n ≤ p → Agrees n done ids h
      → ((id : List ℕ) → k id ≡ h id) → Agrees (suc p) (done ++ p ∷ []) ids k
  still n p done ids h k from s as_before = record {
    same = s.same
        ∙ ap (map key) (sym (filter-agree (holds k) (holds h) (λ q. ap (is_place q) (as_before (key q))) done))
        ∙ ap (map key) (sym (filter-out (holds k) done p (ap (is_place p) (as_before (key p)) ∙ not_yet n p (h (key p)) from (s.below (key p)))));
    known = λ id. s.known id ∙ ap (λ (o : Option ℕ). is_some o) (sym (as_before id));
    below = λ id q is. let before : q < n = s.below id q (sym (as_before id) ∙ is) in omega (arith, before, from);
    past = past_more n p done from s.past;
  }

  -- ---- a Remove

  abbrev without : List ℕ → (List ℕ → Option ℕ) → List ℕ → Option ℕ
  without k h id = if bytes_eq k id then None else h id

  holds-without : (k : List ℕ) (h : List ℕ → Option ℕ) (q : ℕ) → holds (without k h) q ≡ (differs bytes_eq k (key q) && holds h q)
  unfolding differs
  holds-without k h q =
      elim (bytes_eq k (key q)) as (λ b. is_place q (if b then None else h (key q)) ≡ (not b && holds h q)) [
        | true ↦ refl
        | false ↦ refl
      ]

  differs-is : (k id : List ℕ) → bytes_eq k id ≡ false → differs bytes_eq k id ≡ true
  unfolding differs
  differs-is k id e = rw e refl

  known-without : (k : List ℕ) (ids : List (List ℕ)) (h : List ℕ → Option ℕ) → ((id : List ℕ) → is_among id ids ≡ is_some (h id))
      → (id : List ℕ) → is_among id (filter (differs bytes_eq k) ids) ≡ is_some (without k h id)
  known-without k ids h known id =
      elim (bytes_eq k id) as (λ b. bytes_eq k id ≡ b → is_among id (filter (differs bytes_eq k) ids) ≡ is_some (if b then None else h id)) [
        | true ↦ λ e. subst (λ (i : List ℕ). is_among i (filter (differs bytes_eq k) ids) ≡ false) (bytes_eq-is k id e) (among-gone k ids)
        | false ↦ λ e. filter-among (differs bytes_eq k) id ids (differs-is k id e) ∙ known id
      ] refl

  below-without : (k : List ℕ) (n p : ℕ) (h : List ℕ → Option ℕ) → n ≤ p → ((id : List ℕ) (q : ℕ) → h id ≡ Some q → q < n)
      → (id : List ℕ) (q : ℕ) → without k h id ≡ Some q → q < suc p
  below-without k n p h from below id q =
      elim (bytes_eq k id) as (λ b. (if b then None else h id) ≡ Some q → q < suc p) [
        | true ↦ λ is. absurd cc
        | false ↦ λ is. let before : q < n = below id q is in omega (arith, before, from)
      ]

  removed : (n p : ℕ) (done : List ℕ) (ids : List (List ℕ)) (h : List ℕ → Option ℕ) → n ≤ p → Agrees n done ids h
      → Agrees (suc p) (done ++ p ∷ []) (filter (differs bytes_eq (key p)) ids) (without (key p) h)
  removed n p done ids h from s =
      let k : List ℕ = key p in record {
        same = ap (filter (differs bytes_eq k)) s.same
            ∙ filter-through key (differs bytes_eq k) (λ q. differs bytes_eq k (key q)) (λ q. refl) (filter (holds h) done)
            ∙ ap (map key) (sym (filter-both (λ q. differs bytes_eq k (key q)) (holds h) done))
            ∙ ap (map key) (sym (filter-agree (holds (without k h)) (λ q. differs bytes_eq k (key q) && holds h q) (holds-without k h) done))
            ∙ ap (map key) (sym (filter-out (holds (without k h)) done p (rw (bytes_eq-same k) refl)));
        known = known-without k ids h s.known;
        below = below-without k n p h from s.below;
        past = past_more n p done from s.past;
      }

  -- ---- an Add

  abbrev together : List ℕ → ℕ → (List ℕ → Option ℕ) → List ℕ → Option ℕ
  together k p h id = if bytes_eq k id then Some (unwrap_or (h id) p) else h id

  stays : (p : ℕ) (held : Option ℕ) → is_some held ≡ true → Some (unwrap_or held p) ≡ held
  stays p None some = absurd cc
  stays p (Some q) some = refl

  nothing : (held : Option ℕ) → is_some held ≡ false → held ≡ None
  nothing None some = refl
  nothing (Some q) some = absurd cc

  there_already : (k : List ℕ) (p : ℕ) (h : List ℕ → Option ℕ) → is_some (h k) ≡ true → (id : List ℕ) → together k p h id ≡ h id
  there_already k p h some id =
      elim (bytes_eq k id) as (λ b. bytes_eq k id ≡ b → (if b then Some (unwrap_or (h id) p) else h id) ≡ h id) [
        | true ↦ λ e. stays p (h id) (subst (λ (i : List ℕ). is_some (h i) ≡ true) (bytes_eq-is k id e) some)
        | false ↦ λ e. refl
      ] refl

  holds-together : (k : List ℕ) (p : ℕ) (h : List ℕ → Option ℕ) → h k ≡ None → (q : ℕ) → other_than p q ≡ true → holds (together k p h) q ≡ holds h q
  holds-together k p h none q other =
      elim (bytes_eq k (key q)) as (λ b. bytes_eq k (key q) ≡ b → is_place q (if b then Some (unwrap_or (h (key q)) p) else h (key q)) ≡ holds h q) [
        | true ↦ λ e.
            let nothing_there : h (key q) ≡ None = subst (λ (i : List ℕ). h i ≡ None) (bytes_eq-is k (key q) e) none in
            rw nothing_there (not_that (nat_eq p q) other)
        | false ↦ λ e. refl
      ] refl
    where
      not_that : (b : Bool) → not b ≡ true → b ≡ false
      not_that true e = absurd cc
      not_that false e = refl

  known-together : (k : List ℕ) (p : ℕ) (ids : List (List ℕ)) (h : List ℕ → Option ℕ) → ((id : List ℕ) → is_among id ids ≡ is_some (h id))
      → (id : List ℕ) → is_among id (ids ++ k ∷ []) ≡ is_some (together k p h id)
  unfolding is_among
  known-together k p ids h known id =
      is_among-append id ids (k ∷ [])
      ∙ elim (bytes_eq k id) as (λ b. (is_among id ids || (b || false)) ≡ is_some (if b then Some (unwrap_or (h id) p) else h id)) [
        | true ↦ or_true (is_among id ids)
        | false ↦ or_no (is_among id ids) ∙ known id
      ]

  below-together : (k : List ℕ) (n p : ℕ) (h : List ℕ → Option ℕ) → n ≤ p → h k ≡ None → ((id : List ℕ) (q : ℕ) → h id ≡ Some q → q < n)
      → (id : List ℕ) (q : ℕ) → together k p h id ≡ Some q → q < suc p
  below-together k n p h from none below id q =
      elim (bytes_eq k id) as (λ b. bytes_eq k id ≡ b → (if b then Some (unwrap_or (h id) p) else h id) ≡ Some q → q < suc p) [
        | true ↦ λ e is.
            let nothing_there : h id ≡ None = subst (λ (i : List ℕ). h i ≡ None) (bytes_eq-is k id e) none in
            let it : Some p ≡ Some q = rw nothing_there at is in
            let same : p ≡ q = cc in
            omega (arith, same)
        | false ↦ λ e is. let before : q < n = below id q is in omega (arith, before, from)
      ] refl

  appended : (n p : ℕ) (done : List ℕ) (ids : List (List ℕ)) (h : List ℕ → Option ℕ) → n ≤ p → h (key p) ≡ None → Agrees n done ids h
      → Agrees (suc p) (done ++ p ∷ []) (ids ++ key p ∷ []) (together (key p) p h)
  appended n p done ids h from none s =
      let k : List ℕ = key p in
      let here : holds (together k p h) p ≡ true = rw (bytes_eq-same k, none) (eq-eqb p p refl) in
      record {
        same = ap (λ (xs : List (List ℕ)). xs ++ k ∷ []) s.same
            ∙ sym (map-append key (filter (holds h) done) (p ∷ []))
            ∙ ap (λ (xs : List ℕ). map key (xs ++ p ∷ []))
            (sym (filter-where (other_than p) (holds (together k p h)) (holds h) (holds-together k p h none) done (s.past p from)))
            ∙ ap (map key) (sym (filter-in (holds (together k p h)) done p here));
        known = known-together k p ids h s.known;
        below = below-together k n p h from none s.below;
        past = past_more n p done from s.past;
      }

  added : (n p : ℕ) (done : List ℕ) (ids : List (List ℕ)) (h : List ℕ → Option ℕ) → n ≤ p → Agrees n done ids h
      → Agrees (suc p) (done ++ p ∷ []) (add_new ids (key p)) (together (key p) p h)
  added n p done ids h from s =
      let k : List ℕ = key p in
      elim (is_among k ids) as (λ b. is_among k ids ≡ b → Agrees (suc p) (done ++ p ∷ []) (if b then ids else ids ++ k ∷ []) (together k p h)) [
        | true ↦ λ e. still n p done ids h (together k p h) from s (there_already k p h (sym (s.known k) ∙ e))
        | false ↦ λ e. appended n p done ids h from (nothing (h k) (sym (s.known k) ∙ e)) s
      ] refl

  -- ---- one after the other

  abbrev next_held : (List ℕ → Option ℕ) → ℕ → List ℕ → Option ℕ
  next_held h p id = put_held id (h id) p

  one_more : (n p : ℕ) (done : List ℕ) (ids : List (List ℕ)) (h : List ℕ → Option ℕ) → n ≤ p → Agrees n done ids h
      → Agrees (suc p) (done ++ p ∷ []) (with_id ids p) (next_held h p)
  one_more n p done ids h from s =
      elim (counts p) as (λ b. Agrees (suc p) (done ++ p ∷ []) (if b then (if out p then filter (differs bytes_eq (key p)) ids else add_new ids (key p)) else ids)
      (λ id. if b && bytes_eq (key p) id then (if out p then None else Some (unwrap_or (h id) p)) else h id)) [
        | true ↦ elim (out p) as (λ o. Agrees (suc p) (done ++ p ∷ []) (if o then filter (differs bytes_eq (key p)) ids else add_new ids (key p))
            (λ id. if bytes_eq (key p) id then (if o then None else Some (unwrap_or (h id) p)) else h id)) [
              | true ↦ removed n p done ids h from s
              | false ↦ added n p done ids h from s
            ]
        | false ↦ still n p done ids h h from s (λ id. refl)
      ]

  go : (n : ℕ) (done ps : List ℕ) (ids : List (List ℕ)) (h : List ℕ → Option ℕ) → From n ps → Agrees n done ids h
      → fold with_id ids ps ≡ map key (filter (holds (λ id. fold (put_held id) (h id) ps)) (done ++ ps))
  go n done [] ids h f s = s.same ∙ ap (λ (xs : List ℕ). map key (filter (holds h) xs)) (sym (append-nil done))
  go n done (p ∷ ps) ids h f s =
      go (suc p) (done ++ p ∷ []) ps (with_id ids p) (next_held h p) f.1 (one_more n p done ids h f.0 s)
      ∙ ap (λ (xs : List ℕ). map key (filter (holds (λ id. fold (put_held id) (put_held id (h id) p) ps)) xs)) (append_assoc done (p ∷ []) ps)

  -- the ids that are left are those at the positions by which they are there
  pub ids_held : (ps : List ℕ) → From 0 ps → fold with_id [] ps ≡ map key (filter (holds (λ id. fold (put_held id) None ps)) ps)
  unfolding is_among
  ids_held ps f = go 0 [] ps [] (λ id. None) f (record {
    same = refl;
    known = λ id. refl;
    below = λ id p is. absurd cc;
    past = λ p from. refl;
  })
