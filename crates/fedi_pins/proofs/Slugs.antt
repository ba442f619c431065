-- The names of collections, by their ids.
use Rattle.std.proofs.Common.{◌≡◌, ◌≢◌, ℕ, Bool, true, false, List, [], ◌++◌, length, drop, append_assoc, Option, Some, None, refl, sym, ap, ◌∙◌}
use Rattle.std.specs.Prelude.{◌↔◌, IfSome, IsSome, IsTrue, codes, nat_eq, if◌then◌else◌}
use Rattle.std.specs.List.{starts_with}
use Rattle.std.proofs.lemmas.Bool.{and_parts}
use Rattle.std.proofs.lemmas.List.{append_cancel_left}
use Rattle.std.proofs.lemmas.Bool.Decides.{Decides-eqb}
use Rattle.std.proofs.lemmas.Slice.Eq.{starts_is}
use Rattle.std.proofs.Math.Seq.{drop-append_seam}
use Rattle.fedi_address.specs.Names.{is_name}
use Rattle.fedi_town.specs.Boards.{board_id, is_board}
use Rattle.fedi_pins.specs.Held.{slug_of}

begins : (author rest : List ℕ) → board_id author [] ++ rest ≡ board_id author rest
begins author rest = append_assoc author (codes "/c/") rest

-- it is an id of one if it begins as these do, and a name follows
slug-found : (author id rest : List ℕ) → id ≡ board_id author rest → slug_of author id ≡ (if is_name rest then Some rest else None)
unfolding is_board
slug-found author id rest is =
    let whole : id ≡ board_id author [] ++ rest = is ∙ sym (begins author rest) in
    let front : starts_with nat_eq id (board_id author []) ≡ true = (starts_is Decides-eqb id (board_id author []) (starts_with nat_eq id (board_id author [])) refl).1 rest whole in
    let back : drop (length (board_id author [])) id ≡ rest = ap (drop (length (board_id author []))) whole ∙ drop-append_seam (board_id author []) rest in
    rw (front, back) refl

no_slug : (author id : List ℕ) → ((rest : List ℕ) → id ≢ board_id author rest) → slug_of author id ≡ None
unfolding is_board
no_slug author id other = by (starts_with nat_eq id (board_id author [])) refl
  where
    by : (b : Bool) → starts_with nat_eq id (board_id author []) ≡ b → slug_of author id ≡ None
    by true e =
        absurd (other (drop (length (board_id author [])) id)
        ((starts_is Decides-eqb id (board_id author []) (starts_with nat_eq id (board_id author [])) refl).0 e ∙ begins author (drop (length (board_id author [])) id)))
    by false e = rw e refl

-- ---- what is left of an id

-- nothing, as it does not begin with the author's id
pub no_author : (author front id : List ℕ) → front ≡ author → ((rest : List ℕ) → id ≢ front ++ rest) → slug_of author id ≡ None
no_author author front id same other = no_slug author id (λ rest is. other (codes "/c/" ++ rest) (is ∙ ap (λ (a : List ℕ). a ++ (codes "/c/" ++ rest)) (sym same)))

-- nothing, as no collection's path follows
pub no_path : (author front id path : List ℕ) → front ≡ author → id ≡ front ++ path → ((rest : List ℕ) → path ≢ codes "/c/" ++ rest) → slug_of author id ≡ None
no_path author front id path same begun other =
    no_slug author id (λ rest is. other rest (append_cancel_left author path (codes "/c/" ++ rest) (ap (λ (a : List ℕ). a ++ path) (sym same) ∙ sym begun ∙ is)))

-- a name, if it is one
pub parsed : (author front id path rest : List ℕ) (r : Option (List ℕ)) → front ≡ author → id ≡ front ++ path → path ≡ codes "/c/" ++ rest
    → IsSome r ↔ IsTrue (is_name rest) → IfSome r (λ name. name ≡ rest) → r ≡ slug_of author id
parsed author front id path rest r same begun path_is name is =
    let whole : id ≡ board_id author rest = begun ∙ ap (λ (a : List ℕ). a ++ path) same ∙ ap (λ (p : List ℕ). author ++ p) path_is in
    by r name is ∙ sym (slug-found author id rest whole)
  where
    by : (o : Option (List ℕ)) → IsSome o ↔ IsTrue (is_name rest) → IfSome o (λ found. found ≡ rest) → o ≡ (if is_name rest then Some rest else None)
    by None only found = none (is_name rest) only.1
      where
        none : (b : Bool) → (b ≡ true → false ≡ true) → None ≡ (if b then Some rest else None)
        none true f = absurd (let it : false ≡ true = f refl in cc)
        none false f = refl
    by (Some x) only found = let passes : is_name rest ≡ true = only.0 refl in rw passes (ap Some found)

-- ---- what a name that was found says

pub slug_id : (author id slug : List ℕ) → Some slug ≡ slug_of author id → id ≡ board_id author slug
unfolding is_board
slug_id author id slug found = by (is_board author id) refl
  where
    by : (b : Bool) → is_board author id ≡ b → id ≡ board_id author slug
    by true e =
        let front = (and_parts (starts_with nat_eq id (board_id author [])) _ e).0 in
        let it : Some slug ≡ Some (drop (length (board_id author [])) id) = found ∙ rw e refl in
        let same : slug ≡ drop (length (board_id author [])) id = cc in
        (starts_is Decides-eqb id (board_id author []) (starts_with nat_eq id (board_id author [])) refl).0 front
        ∙ begins author (drop (length (board_id author [])) id) ∙ ap (board_id author) (sym same)
    by false e = absurd (let it : Some slug ≡ None = found ∙ rw e refl in cc)

pub slug_board : (author id slug : List ℕ) → Some slug ≡ slug_of author id → is_board author id ≡ true
slug_board author id slug found = by (is_board author id) refl
  where
    by : (b : Bool) → is_board author id ≡ b → is_board author id ≡ true
    by true e = e
    by false e = absurd (let it : Some slug ≡ None = found ∙ rw e refl in cc)

pub none_board : (author id : List ℕ) → None ≡ slug_of author id → is_board author id ≡ false
none_board author id found = by (is_board author id) refl
  where
    by : (b : Bool) → is_board author id ≡ b → is_board author id ≡ false
    by true e = absurd (let it : None ≡ Some (drop (length (board_id author [])) id) = found ∙ rw e refl in cc)
    by false e = e
