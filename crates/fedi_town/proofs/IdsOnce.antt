-- In a legal history no two activities have the same id.
use Rattle.std.proofs.Common.{◌≡◌, ℕ, ◌+◌, ◌^◌, ◌<◌, Bool, true, false, List, [], ◌∷◌, ◌++◌, length, Some, refl, ap, subst, ◌∙◌, arith}
use Rattle.std.specs.Prelude.{◌||◌, map, filter, codes, decimal, if◌then◌else◌}
use Rattle.std.specs.List.{list_any, list_all}
use Rattle.std.specs.Str.{bytes_eq}
use Rattle.std.proofs.lemmas.Bool.{and_parts}
use Rattle.std.proofs.lemmas.Fmt.{decimal_injective}
use Rattle.std.proofs.lemmas.List.{append_cancel_left, length-append, length-map}
use Rattle.std.proofs.lemmas.List.Elements.{filter-append}
use Rattle.std.proofs.lemmas.List.Folds.{list_any-append}
use Rattle.fedi_address.specs.Hosts.{is_host_text}
use Rattle.fedi_address.specs.Iris.{host_of}
use Rattle.fedi_address.specs.Names.{is_name, is_name_byte}
use Rattle.fedi_address.proofs.Parts.{host_of-address}
use Rattle.fedi_town.proofs.Finding.{PassesOnce-push, PassesOnce-map}
use Rattle.fedi_town.specs.Lists.{PassesOnce}
use Rattle.fedi_town.proofs.Lists.{list_any-through, filter-through}
use Rattle.fedi_town.proofs.Members.{name_bytes}
use Rattle.fedi_town.proofs.Paths.{activity_path_is_plain}
use Rattle.fedi_town.specs.Ids.{actor_id, activity_id, activity_path}
use Rattle.fedi_town.specs.Relations.{has_activity_id}
use Rattle.fedi_town.specs.Towns.{is_by}
use Rattle.fedi_town.specs.declared.act.Act.{Act}
use Rattle.fedi_town.proofs.Texts.{is_false, not_both, bytes_eq-is, bytes_eq-same}

-- ---- ids of different authors and numbers

pub not_slash : (b : ℕ) → is_name_byte b ≡ true → b ≡ 47 → ⊥
not_slash b named is = let wrong : is_name_byte 47 ≡ true = subst (λ (x : ℕ). is_name_byte x ≡ true) is named in absurd cc

pub unslashed : (m n s t : List ℕ) → list_all is_name_byte m ≡ true → list_all is_name_byte n ≡ true → m ++ 47 ∷ s ≡ n ++ 47 ∷ t → (m ≡ n) × (s ≡ t)
unslashed [] [] s t p q e = (refl, let same : s ≡ t = cc in same)
unslashed [] (b ∷ n) s t p q e =
    absurd (not_slash b (and_parts (is_name_byte b) (list_all is_name_byte n) q).0 (let same : b ≡ 47 = cc in same))
unslashed (b ∷ m) [] s t p q e =
    absurd (not_slash b (and_parts (is_name_byte b) (list_all is_name_byte m) p).0 (let same : b ≡ 47 = cc in same))
unslashed (b ∷ m) (d ∷ n) s t p q e =
    let first : b ≡ d = cc in
    let rest : m ++ 47 ∷ s ≡ n ++ 47 ∷ t = cc in
    let more = unslashed m n s t (and_parts (is_name_byte b) (list_all is_name_byte m) p).1 (and_parts (is_name_byte d) (list_all is_name_byte n) q).1 rest in
    (rw (first, more.0) refl, more.1)

same_number : (host m n : List ℕ) (j k : ℕ) → j < 2 ^ 32 → k < 2 ^ 32 → is_name m ≡ true → is_name n ≡ true → activity_id host m j ≡ activity_id host n k → (m ≡ n) × (j ≡ k)
unfolding activity_id
same_number host m n j k small few p q e =
    let near : host ++ (codes "/users/" ++ (m ++ (codes "/a/" ++ decimal j))) ≡ host ++ (codes "/users/" ++ (n ++ (codes "/a/" ++ decimal k))) = append_cancel_left (codes "https://") _ _ e in
    let path : codes "/users/" ++ (m ++ (codes "/a/" ++ decimal j)) ≡ codes "/users/" ++ (n ++ (codes "/a/" ++ decimal k)) = append_cancel_left host _ _ near in
    let tail : m ++ 47 ∷ (codes "a/" ++ decimal j) ≡ n ++ 47 ∷ (codes "a/" ++ decimal k) = append_cancel_left (codes "/users/") _ _ path in
    let parts = unslashed m n (codes "a/" ++ decimal j) (codes "a/" ++ decimal k) (name_bytes m p) (name_bytes n q) tail in
    let digits : decimal j ≡ decimal k = append_cancel_left (codes "a/") _ _ parts.1 in
    (parts.0, decimal_injective j k (omega arith) (omega arith) digits)

-- ---- counts

abbrev pub count : List ℕ → List Act → ℕ
count author acts = length (filter (is_by author) acts)

one_or_none : (b : Bool) (x : Act) → length (if b then x ∷ [] else []) ≡ (if b then 1 else 0)
one_or_none true x = refl
one_or_none false x = refl

pub count-push : (author : List ℕ) (acts : List Act) (x : Act) → count author (acts ++ x ∷ []) ≡ count author acts + (if is_by author x then 1 else 0)
count-push author acts x =
    ap (λ (ys : List Act). length ys) (filter-append (is_by author) acts (x ∷ []))
    ∙ length-append (filter (is_by author) acts) (filter (is_by author) (x ∷ []))
    ∙ ap (λ (k : ℕ). count author acts + k) (one_or_none (is_by author x) x)

pub count-map : (author : List ℕ) (f : Act → Act) → ((y : Act) → (f y).author ≡ y.author) → (acts : List Act) → count author (map f acts) ≡ count author acts
unfolding is_by
count-map author f same acts =
    ap (λ (ys : List Act). length ys) (filter-through f (is_by author) (is_by author) (λ y. rw (same y) refl) acts)
    ∙ length-map (filter (is_by author) acts) f

-- ---- what stays true

-- numbers above an author's count are free
pub record IsFresh (host : List ℕ) (acts : List Act) : Type 0 where
  pub free : (name : List ℕ) (n : ℕ) → is_name name ≡ true → count (actor_id host name) acts < n → n < 2 ^ 32 → list_any (has_activity_id (activity_id host name n)) acts ≡ false

pub record AreOnce (host : List ℕ) (acts : List Act) : Type 0 where
  pub once : (id : List ℕ) → PassesOnce (has_activity_id id) acts
  pub fresh : IsFresh host acts

either_none : (a b : Bool) → a ≡ false → b ≡ false → (a || b) ≡ false
either_none a b p q = rw (p, q) refl

-- one more activity, whose id is new and is no free number of a member
pushed : (host : List ℕ) (acts : List Act) (x : Act) → AreOnce host acts → ((id : List ℕ) → has_activity_id id x ≡ true → list_any (has_activity_id id) acts ≡ false)
    → ((name : List ℕ) (n : ℕ) → is_name name ≡ true → count (actor_id host name) (acts ++ x ∷ []) < n → n < 2 ^ 32 → has_activity_id (activity_id host name n) x ≡ false)
    → AreOnce host (acts ++ x ∷ [])
pushed host acts x h new other = record {
  once = λ id. PassesOnce-push (has_activity_id id) acts x (h.once id) (new id);
  fresh = record {
    free = λ name n named above small.
        list_any-append (has_activity_id (activity_id host name n)) acts (x ∷ [])
        ∙ rw (h.fresh.free name n named (omega (arith, count-push (actor_id host name) acts x)) small, other name n named above small) refl;
  };
}

-- the next activity of a member
pub next_once : (host name : List ℕ) (acts : List Act) (x : Act) → AreOnce host acts → is_name name ≡ true → x.author ≡ actor_id host name
    → x.activity.id ≡ Some (activity_id host name (count (actor_id host name) acts + 1)) → count (actor_id host name) acts + 1 < 2 ^ 32 → AreOnce host (acts ++ x ∷ [])
unfolding has_activity_id is_by
next_once host name acts x h named author id small =
    let author_id : List ℕ = actor_id host name in
    let k : ℕ = count author_id acts + 1 in
    pushed host acts x h
    (λ i has.
    let is : bytes_eq (activity_id host name k) i ≡ true = rw id at has in
    subst (λ (j : List ℕ). list_any (has_activity_id j) acts ≡ false) (bytes_eq-is (activity_id host name k) i is) (h.fresh.free name k named (omega arith) small))
    (λ other n of_name above few. rw id (is_false (bytes_eq (activity_id host name k) (activity_id host other n)) (λ e.
    let same = same_number host name other k n small few named of_name (bytes_eq-is (activity_id host name k) (activity_id host other n) e) in
    let own : bytes_eq x.author (actor_id host other) ≡ true = rw (author, same.0) (bytes_eq-same (actor_id host other)) in
    let more : count (actor_id host other) (acts ++ x ∷ []) ≡ count (actor_id host other) acts + 1 = count-push (actor_id host other) acts x ∙ rw own refl in
    let there : k ≡ count (actor_id host other) acts + 1 = rw same.0 refl in
    omega (arith, same.1, more, there, above))))

-- an activity of another host, whose id is new
pub foreign_once : (host : List ℕ) (acts : List Act) (x : Act) (id : List ℕ) → AreOnce host acts → is_host_text host ≡ true → x.activity.id ≡ Some id
    → list_any (has_activity_id id) acts ≡ false → bytes_eq (host_of id) host ≡ false → AreOnce host (acts ++ x ∷ [])
unfolding has_activity_id activity_id
foreign_once host acts x id h shape own new other =
    pushed host acts x h
    (λ i has. let is : bytes_eq id i ≡ true = rw own at has in subst (λ (j : List ℕ). list_any (has_activity_id j) acts ≡ false) (bytes_eq-is id i is) new)
    (λ name n named above few. rw own (is_false (bytes_eq id (activity_id host name n)) (λ e.
    let same : id ≡ activity_id host name n = bytes_eq-is id (activity_id host name n) e in
    let at : host_of id ≡ host = ap host_of same ∙ host_of-address host (activity_path name n) shape (activity_path_is_plain name n (omega arith) named) in
    not_both (bytes_eq (host_of id) host) (rw at (bytes_eq-same host)) other)))

-- changes that keep author and id
pub mapped_once : (host : List ℕ) (f : Act → Act) → ((y : Act) → (f y).author ≡ y.author) → ((y : Act) → (f y).activity.id ≡ y.activity.id)
    → (acts : List Act) → AreOnce host acts → AreOnce host (map f acts)
unfolding has_activity_id
mapped_once host f author own acts h = record {
  once = λ id. PassesOnce-map f (has_activity_id id) (λ y. rw (own y) refl) acts (h.once id);
  fresh = record {
    free = λ name n named above small.
        list_any-through f (has_activity_id (activity_id host name n)) (has_activity_id (activity_id host name n)) (λ y. rw (own y) refl) acts
        ∙ h.fresh.free name n named (omega (arith, count-map (actor_id host name) f author acts)) small;
  };
}
