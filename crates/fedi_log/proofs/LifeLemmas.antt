-- What a life leaves is the beginning of what later lives open.
use Rattle.std.proofs.Common.{◌≡◌, ℕ, zero, suc, List, [], ◌∷◌, ◌++◌, map, Some, inl, inr, refl, sym, ap, subst, ◌∙◌, append_assoc, append-nil}
use Rattle.std.specs.Prelude.{Contains, slice_get}
use Rattle.std.specs.List.{AllByRecursion}
use Rattle.std.proofs.lemmas.List.{map-append}
use Rattle.fedi_entry.specs.Codes.{code_of}
use Rattle.fedi_entry.specs.Fields.{IsFormed}
use Rattle.fedi_entry.proofs.ReadEntries.{code_is_no_front}
use Rattle.fedi_objects.specs.declared.entry.Entry.{Entry}
use Rattle.fedi_log.specs.Log.{history_of}
use Rattle.fedi_log.specs.Lives.{AreLives, IsFoundAfter, IsLife, Life, doubts, history_at_end}

-- ---- entries by their codes

-- no other entry with well-formed fields has its code
IsAlone : Entry → Type 0
IsAlone e = (other : Entry) → IsFormed other → code_of e ≡ code_of other → e ≡ other

alone_formed : (e : Entry) → IsFormed e → IsAlone e
unfolding IsAlone
alone_formed e formed other formed_too same = (code_is_no_front e other [] formed formed_too (append-nil (code_of e) ∙ same)).0

all_alone : (xs : List Entry) → AllByRecursion IsFormed xs → AllByRecursion IsAlone xs
all_alone [] formed = tt
all_alone (x ∷ xs) formed = (alone_formed x formed.0, all_alone xs formed.1)

-- the same for the first of these entries
pub formed_front : (xs ys : List Entry) → AllByRecursion IsFormed (xs ++ ys) → AllByRecursion IsFormed xs
formed_front [] ys formed = tt
formed_front (x ∷ xs) ys formed = (formed.0, formed_front xs ys formed.1)

same_heads : (x y : List ℕ) (xs ys : List (List ℕ)) → x ∷ xs ≡ y ∷ ys → (x ≡ y) × (xs ≡ ys)
same_heads x y xs ys e = (cc, cc)

none_there : (x : List ℕ) (xs : List (List ℕ)) → [] ≡ x ∷ xs → ⊥
none_there x xs e = cc

-- a list whose codes begin with those of these entries begins with these entries
same_front : (xs ys : List Entry) (rest : List (List ℕ)) → AllByRecursion IsAlone xs → AllByRecursion IsFormed ys → map code_of ys ≡ map code_of xs ++ rest
    → (more : List Entry) × (ys ≡ xs ++ more) × (map code_of more ≡ rest)
unfolding IsAlone
same_front [] ys rest alone formed e = (ys, refl, e)
same_front (x ∷ xs) [] rest alone formed e = absurd (none_there (code_of x) (map code_of xs ++ rest) e)
same_front (x ∷ xs) (y ∷ ys) rest alone formed e =
    let parts = same_heads (code_of y) (code_of x) (map code_of ys) (map code_of xs ++ rest) e in
    let others = same_front xs ys rest alone.1 formed.1 parts.1 in
    let here : x ≡ y = alone.0 y formed.0 (sym parts.0) in
    (others.0, ap (λ (z : Entry). z ∷ ys) (sym here) ∙ ap (λ (zs : List Entry). x ∷ zs) others.1, others.2)

-- ---- one life

-- a list begins with these
Begins : List (List ℕ) → List (List ℕ) → Type 0
Begins front xs = (more : List (List ℕ)) × (xs ≡ front ++ more)

codes_at_end : (l : Life) → map code_of l.opened ++ map code_of (history_of l.log) ≡ map code_of (history_at_end l)
codes_at_end l = sym (map-append code_of l.opened (history_of l.log))

left_begins : (l : Life) → IsLife l → Begins (map code_of (history_at_end l)) l.left
unfolding Begins
left_begins l is =
    elim is.leaves [
      | inl same ↦ ([], same ∙ (codes_at_end l ∙ sym (append-nil (map code_of (history_at_end l)))))
      | inr doubted ↦ (doubted.0 ∷ [], doubted.2 ∙ ap (λ (xs : List (List ℕ)). xs ++ doubted.0 ∷ []) (codes_at_end l))
    ]

left_opens : (l : Life) → IsLife l → Begins (map code_of l.opened) l.left
unfolding Begins
left_opens l is =
    let all = left_begins l is in
    let kept = map code_of (history_of l.log) in
    (kept ++ all.0, all.1 ∙ (ap (λ (xs : List (List ℕ)). xs ++ all.0) (sym (codes_at_end l)) ∙ append_assoc (map code_of l.opened) kept all.0))

begins_on : (front xs ys : List (List ℕ)) → Begins front xs → Begins xs ys → Begins front ys
unfolding Begins
begins_on front xs ys a b = (a.0 ++ b.0, b.1 ∙ (ap (λ (zs : List (List ℕ)). zs ++ b.0) a.1 ∙ append_assoc front a.0 b.0))

-- ---- lives

lives_from : (before rest : List Life) → AreLives (before ++ rest) → AreLives rest
lives_from [] rest lives = lives
lives_from (l ∷ before) rest lives = lives_from before rest lives.2

later_begins : (front : List (List ℕ)) (l : Life) (between after : List Life) (later : Life) → AreLives (l ∷ (between ++ later ∷ after)) → Begins front l.left
    → Begins front (map code_of later.opened) × IsLife later
unfolding Begins
later_begins front l [] after later lives begins = ((begins.0, lives.1 ∙ begins.1), lives.2.0)
later_begins front l (m ∷ between) after later lives begins =
    let opened : Begins front (map code_of m.opened) = (begins.0, lives.1 ∙ begins.1) in
    later_begins front m between after later lives.2 (begins_on front (map code_of m.opened) m.left opened (left_opens m lives.2.0))

pub records_stay : (before between after : List Life) (l later : Life) → AreLives (before ++ l ∷ (between ++ later ∷ after))
    → (more : List (List ℕ)) × (map code_of later.opened ≡ map code_of (history_at_end l) ++ more)
unfolding Begins
records_stay before between after l later all =
    let lives = lives_from before (l ∷ (between ++ later ∷ after)) all in
    (later_begins (map code_of (history_at_end l)) l between after later lives (left_begins l lives.0)).0

pub entries_stay : (before between after : List Life) (l later : Life) → AreLives (before ++ l ∷ (between ++ later ∷ after))
    → (more : List Entry) × (later.opened ≡ history_at_end l ++ more)
unfolding Begins
entries_stay before between after l later all =
    let lives = lives_from before (l ∷ (between ++ later ∷ after)) all in
    let found = later_begins (map code_of (history_at_end l)) l between after later lives (left_begins l lives.0) in
    let same = same_front (history_at_end l) later.opened found.0.0 (all_alone (history_at_end l) lives.0.formed)
    (formed_front later.opened (history_of later.log) found.1.formed) found.0.1 in
    (same.0, same.1)

place_stays : (xs more : List Entry) (n : ℕ) (e : Entry) → slice_get xs n ≡ Some e → slice_get (xs ++ more) n ≡ Some e
place_stays [] more n e is = absurd (nothing n e is)
  where
    nothing : (n : ℕ) (e : Entry) → slice_get {X = Entry} [] n ≡ Some e → ⊥
    nothing zero e is = cc
    nothing (suc n) e is = cc
place_stays (x ∷ xs) more zero e is = is
place_stays (x ∷ xs) more (suc n) e is = place_stays xs more n e is

pub places_stay : (before between after : List Life) (l later : Life) → AreLives (before ++ l ∷ (between ++ later ∷ after))
    → (n : ℕ) (e : Entry) → slice_get (history_at_end l) n ≡ Some e → slice_get later.opened n ≡ Some e
places_stay before between after l later all n e is =
    let same = entries_stay before between after l later all in
    ap (λ (es : List Entry). slice_get es n) same.1 ∙ place_stays (history_at_end l) same.0 n e is

-- ---- the next life

none_more : (es : List Entry) → map code_of es ≡ [] → es ≡ []
none_more [] is = refl
none_more (e ∷ es) is = absurd (none_there (code_of e) (map code_of es) (sym is))

one_more : (es : List Entry) (d : List ℕ) → map code_of es ≡ d ∷ [] → (e : Entry) × (d ≡ code_of e) × (es ≡ e ∷ [])
one_more [] d is = absurd (none_there d [] is)
one_more (e ∷ es) d is =
    let parts = same_heads (code_of e) d (map code_of es) [] is in
    (e, sym parts.0, ap (λ (rest : List Entry). e ∷ rest) (none_more es parts.1))

pub next_finds : (before after : List Life) (l next : Life) → AreLives (before ++ l ∷ (next ∷ after)) → IsFoundAfter l next.opened
next_finds before after l next all =
    let lives = lives_from before (l ∷ (next ∷ after)) all in
    let alone = all_alone (history_at_end l) lives.0.formed in
    let formed = formed_front next.opened (history_of next.log) lives.2.0.formed in
    elim lives.0.leaves [
      | inl same ↦
          let none = same_front (history_at_end l) next.opened [] alone formed (lives.1 ∙ (same ∙ (codes_at_end l ∙ sym (append-nil (map code_of (history_at_end l)))))) in
          inl (none.1 ∙ (ap (λ (es : List Entry). history_at_end l ++ es) (none_more none.0 none.2) ∙ append-nil (history_at_end l)))
      | inr doubted ↦
          let some = same_front (history_at_end l) next.opened (doubted.0 ∷ []) alone formed (lives.1 ∙ (doubted.2 ∙ ap (λ (xs : List (List ℕ)). xs ++ doubted.0 ∷ []) (codes_at_end l))) in
          let one = one_more some.0 doubted.0 some.2 in
          inr (one.0, subst (Contains (doubts l)) one.1 doubted.1, some.1 ∙ ap (λ (es : List Entry). history_at_end l ++ es) one.2)
    ]
