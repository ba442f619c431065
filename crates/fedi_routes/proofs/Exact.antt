-- The router finds exactly the route that makes the path.
use Rattle.std.proofs.Common.{◌≡◌, ℕ, List, [], ◌∷◌, Option, Some, None, refl, sym, ap, ◌∙◌, length, arith}
use Rattle.std.specs.Prelude.{codes}
use Rattle.std.specs.Str.{IsUtf8}
use Rattle.std.proofs.lemmas.Bool.{leb-true}
use Rattle.matchit.specs.Rows.{RowsOf}
use Rattle.matchit.specs.Router.{RouteOf}
use Rattle.matchit.specs.Seek.{first}
use Rattle.matchit.specs.Params.{walk, named, AllText}
use Rattle.fedi_routes.specs.Patterns.{path_by, AreSegments}
use Rattle.fedi_routes.proofs.Found.{found}
use Rattle.fedi_routes.proofs.Fitted.{sound, AreBytes}
use Rattle.fedi_routes.proofs.Taken.{taken, pairs}
use Rattle.fedi_routes.proofs.Segments.{texts, Texts}
use Rattle.fedi_town.specs.Collections.{text_of}
use Rattle.fedi_routes.specs.Table.{route_text, pattern_of, names_of, route_of, rows, IsRouted}
use Rattle.fedi_routes.specs.declared.kinds.Kind.{Kind}
use Rattle.fedi_routes.specs.declared.kinds.Kind.TheVariants.{Webfinger, Member, Numbered, Board}
use Rattle.fedi_routes.specs.declared.kinds.Part.TheVariants.{Actor}
use Rattle.fedi_routes.specs.declared.kinds.NumberedPart.TheVariants.{Activity}
use Rattle.fedi_routes.proofs.PathTexts.{name_is_utf8}
use Rattle.fedi_routes.proofs.Rows.{good, all_plain, ours, ours_found, name_in, number_in}

-- ---- the route

-- a path that the route of a kind makes is found at that route
pub routed : (kind : Kind) (name number path : List ℕ) → IsRouted kind name number path → first rows path ≡ Some (route_of kind)
routed kind name number path h =
    let k = good kind in
    rw h.spelled (found (RouteOf Kind) (pattern_of kind) (name ∷ number ∷ []) rows (route_of kind) k.found k.clear k.plain h.segments)

pub not_routed : (rs : RowsOf (RouteOf Kind)) (path : List ℕ) → rs ≡ rows → first rs path ≡ None
    → (kind : Kind) (name number : List ℕ) → IsRouted kind name number path → ⊥
not_routed rs path same none kind name number h =
    let e = rw same at none in
    cc (routed kind name number path h)

-- ---- what its parameters took

-- they took the segments that the path is made of
walked : (kind : Kind) (ps : List (List ℕ)) (path : List ℕ) → AreSegments (pattern_of kind) ps → path ≡ path_by (pattern_of kind) ps
    → walk (pattern_of kind) (route_text kind) path (names_of kind) 0 0 ≡ pairs (route_text kind) (names_of kind) ps
walked kind ps path segments spelled =
    let k = good kind in
    taken (pattern_of kind) ps (pattern_of kind) (route_text kind) path (names_of kind) 0 0
    (leb-true (length (pattern_of kind)) 18446744073709551615 k.short) refl spelled (omega arith) k.plain segments k.counted

name_text : IsUtf8 (codes "name")
name_text = name_is_utf8 (codes "name") refl

item_text : IsUtf8 (codes "item")
item_text = name_is_utf8 (codes "item") refl

-- names and segments are UTF-8
all_text : (kind : Kind) (ps : List (List ℕ)) → Texts (pattern_of kind) ps → AllText (pairs (route_text kind) (names_of kind) ps)
all_text Webfinger ps h = tt
all_text (Member Actor) ps h = (name_text, h.0, tt)
all_text (Member part) ps h = (name_text, h.0, tt)
all_text (Numbered Activity) ps h = (name_text, h.0, (item_text, h.1.0, tt))
all_text (Numbered part) ps h = (name_text, h.0, (item_text, h.1.0, tt))
all_text Board ps h = (name_text, h.0, (item_text, h.1.0, tt))

-- the two that are looked up by their names make the path
by_name : (kind : Kind) (ps : List (List ℕ)) (path name number : List ℕ) → name ≡ name_in kind ps → number ≡ number_in kind ps
    → AreSegments (pattern_of kind) ps → path ≡ path_by (pattern_of kind) ps → IsRouted kind name number path
by_name Webfinger ps path name number n m h e = record { segments = h; spelled = e }
by_name (Member Actor) ps path name number n m h e = rw n (record { segments = h; spelled = e })
by_name (Member part) ps path name number n m h e = rw n (record { segments = h; spelled = e })
by_name (Numbered Activity) ps path name number n m h e = rw (n, m) (record { segments = h; spelled = e })
by_name (Numbered part) ps path name number n m h e = rw (n, m) (record { segments = h; spelled = e })
by_name Board ps path name number n m h e = rw (n, m) (record { segments = h; spelled = e })

-- the text is what the parameter of this name took
abbrev IsTextOf : List ℕ → List ℕ → List (ℕ × ℕ) → List ℕ → List ℕ → List ℕ → Type 0
IsTextOf pattern text names path key given =
    AllText (walk pattern text path names 0 0) → given ≡ text_of (named key (walk pattern text path names 0 0))

fitted : (kind : Kind) (ps : List (List ℕ)) (path pattern text : List ℕ) (names : List (ℕ × ℕ)) (name number : List ℕ)
    → (pattern ≡ pattern_of kind) × (text ≡ route_text kind) × (names ≡ names_of kind) → AreSegments (pattern_of kind) ps
    → path ≡ path_by (pattern_of kind) ps → IsUtf8 path → IsTextOf pattern text names path (codes "name") name
    → IsTextOf pattern text names path (codes "item") number → IsRouted kind name number path
fitted kind ps path pattern text names name number e segments spelled utf8 n m =
    let k = good kind in
    let all = all_text kind ps (texts (pattern_of kind) ps k.plain segments (rw spelled at utf8)) in
    let there : walk pattern text path names 0 0 ≡ pairs (route_text kind) (names_of kind) ps =
    rw (e.0, e.1, e.2) (walked kind ps path segments spelled) in
    by_name kind ps path name number ((rw there at n) all ∙ k.name ps) ((rw there at m) all ∙ k.number ps) segments spelled

-- the route that is found makes the path of the texts that its parameters took
pub is_routed : (rs : RowsOf (RouteOf Kind)) (path pattern text : List ℕ) (names : List (ℕ × ℕ)) (kind : Kind) (name number : List ℕ) → rs ≡ rows
    → AreBytes path → IsUtf8 path → first rs path ≡ Some (record { pattern = pattern; text = text; names = names; value = kind })
    → IsTextOf pattern text names path (codes "name") name → IsTextOf pattern text names path (codes "item") number
    → IsRouted kind name number path
is_routed rs path pattern text names kind name number same bytes utf8 e n m =
    let route : RouteOf Kind = record { pattern = pattern; text = text; names = names; value = kind } in
    let f = sound (RouteOf Kind) path 0 rows route bytes all_plain (rw same at e) in
    let own = ours_found f.0 route rows ours f.2 in
    fitted kind f.1 path pattern text names name number
    (ap (λ (r : RouteOf Kind). r.pattern) own.1, ap (λ (r : RouteOf Kind). r.text) own.1, ap (λ (r : RouteOf Kind). r.names) own.1)
    (rw own.0 at f.3) (rw own.0 at f.4) utf8 n m

-- ---- a path has only one route

-- two ways to make a path are the same: the router finds one row, whose parameters take one segment
-- each
pub record IsSame (k l : Kind) (n m o p : List ℕ) : Type 0 where
  pub kind : k ≡ l
  pub name : name_in k (n ∷ m ∷ []) ≡ name_in k (o ∷ p ∷ [])
  pub number : number_in k (n ∷ m ∷ []) ≡ number_in k (o ∷ p ∷ [])

pub routed_once : (k l : Kind) (n m o p path : List ℕ) → IsRouted k n m path → IsRouted l o p path → IsSame k l n m o p
routed_once k l n m o p path a b =
    let same : k ≡ l = ap value_of (sym (routed k n m path a) ∙ routed l o p path b) in
    let both : IsRouted k o p path = rw same b in
    let took = sym (walked k (n ∷ m ∷ []) path a.segments a.spelled) ∙ walked k (o ∷ p ∷ []) path both.segments both.spelled in
    record {
      kind = same;
      name = sym ((good k).name (n ∷ m ∷ [])) ∙ (ap (by (codes "name")) took ∙ (good k).name (o ∷ p ∷ []));
      number = sym ((good k).number (n ∷ m ∷ [])) ∙ (ap (by (codes "item")) took ∙ (good k).number (o ∷ p ∷ []));
    }
  where
    value_of : Option (RouteOf Kind) → Kind
    value_of None = k
    value_of (Some r) = r.value

    by : List ℕ → List (List ℕ × List ℕ) → List ℕ
    by key ps = text_of (named key ps)
