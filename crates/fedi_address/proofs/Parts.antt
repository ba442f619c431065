-- The host and the target of an IRI, in terms of the parts of its URL.
use Rattle.std.proofs.Common.{◌≡◌, ℕ, ◌+◌, ◌<◌, ◌≤◌, true, not, ◌&&◌, ◌==◌, ◌⊎◌, List, [], ◌∷◌, ◌++◌, length, get_or, take, drop, Some, None, All, sym, refl, ap, ◌∙◌, subst, ⊎_elim, append_assoc, append-nil, arith, length-append, take_all, take_at, drop_at}
use Rattle.std.specs.Prelude.{Option, codes, is_some, unwrap_or, nat_le}
use Rattle.std.specs.List.{list_all, position_or_len, before_first, after_first}
use Rattle.std.proofs.lemmas.Bool.{and_parts, cases_Bool, cond-true, cond-false, ne_eqb, eq-eqb, lt-ltb, le-ltb, true≢false}
use Rattle.std.proofs.lemmas.Bool.Decides.{nat_tests}
use Rattle.std.proofs.lemmas.List.Elements.{All-nil, All-cons, All-append, All-weaker}
use Rattle.url.specs.declared.sets.TheConstants.{USERINFO, OPAQUE_PATH}
use Rattle.url.specs.declared.slicing.Position.TheVariants.{BeforeUsername, BeforeHost, AfterPort}
use Rattle.url.specs.Input.{is_empty, when}
use Rattle.url.specs.Scheme.{is_special, is_scheme_byte}
use Rattle.url.specs.Parts.{Parts, kind_of, has_authority, has_credentials, serialize, text_between, IsValid}
use Rattle.url.proofs.InputLemmas.{IsNot, Passes, prefix_len_at, All_from_list_all}
use Rattle.url.specs.declared.scheme.SchemeType.TheVariants.{SpecialNotFile}
use Rattle.url.proofs.SetLemmas.{All_kept_differs}
use Rattle.url.proofs.SchemeLemmas.{scheme_bytes}
use Rattle.url.proofs.PathLemmas.{rooted}
use Rattle.url.proofs.ValidLemmas.{hierarchical, special_has_authority, base_from_authority, path_kept}
use Rattle.url.proofs.SetterLemmas.{no_credentials}
use Rattle.url.proofs.TextLemmas.{All-concat, All_one, All_part, is_authority_byte, authority_bytes, is_host_byte, host_and_port_bytes, query_byte}
use Rattle.url.proofs.RoundTrip.{userinfo}
use Rattle.fedi_address.specs.Pieces.{after_any, from_first}
use Rattle.fedi_address.specs.Iris.{is_web, web_url, IsIri, host_and_port, path_and_query, is_slash, is_at, is_hash, after_slashes, authority_of, host_of, target_of}
use Rattle.fedi_address.specs.Hosts.{is_host_text, address, is_path_byte, is_plain_path}
use Rattle.fedi_address.proofs.Urls.{web_kind, web_url-serialize, is_named_byte, host_bytes, plain_path}

-- ---- pieces at a mark

position_at : (mark : ℕ) (xs ys : List ℕ) → All (IsNot mark) xs → position_or_len (λ b. b == mark) (xs ++ mark ∷ ys) ≡ length xs
position_at mark xs ys none =
    prefix_len_at (λ b. not (b == mark)) xs (mark ∷ ys)
    (All-weaker (IsNot mark) (Passes (λ b. not (b == mark))) (λ b other. rw (ne_eqb b mark other) refl) xs none)
    (rw (eq-eqb mark mark refl) refl)

position_none : (mark : ℕ) (xs : List ℕ) → All (IsNot mark) xs → position_or_len (λ b. b == mark) xs ≡ length xs
position_none mark xs none =
    ap (position_or_len (λ b. b == mark)) (sym (append-nil xs))
    ∙ prefix_len_at (λ b. not (b == mark)) xs []
    (All-weaker (IsNot mark) (Passes (λ b. not (b == mark))) (λ b other. rw (ne_eqb b mark other) refl) xs none)
    tt

before_at : (mark : ℕ) (xs ys : List ℕ) → All (IsNot mark) xs → before_first (λ b. b == mark) (xs ++ mark ∷ ys) ≡ xs
before_at mark xs ys none = ap (λ n. take n (xs ++ mark ∷ ys)) (position_at mark xs ys none) ∙ take_at xs (mark ∷ ys) _ refl

before_none : (mark : ℕ) (xs : List ℕ) → All (IsNot mark) xs → before_first (λ b. b == mark) xs ≡ xs
before_none mark xs none = ap (λ n. take n xs) (position_none mark xs none) ∙ take_all _ xs (omega arith)

from_at : (mark : ℕ) (xs ys : List ℕ) → All (IsNot mark) xs → from_first (λ b. b == mark) (xs ++ mark ∷ ys) ≡ mark ∷ ys
from_at mark xs ys none = ap (λ n. drop n (xs ++ mark ∷ ys)) (position_at mark xs ys none) ∙ drop_at xs (mark ∷ ys) _ refl

after_at : (mark : ℕ) (xs ys : List ℕ) → All (IsNot mark) xs → after_first (λ b. b == mark) (xs ++ mark ∷ ys) ≡ ys
after_at mark xs ys none =
    ap (λ n. drop (n + 1) (xs ++ mark ∷ ys)) (position_at mark xs ys none) ∙ ap (drop (length xs + 1)) (sym (append_assoc xs (mark ∷ []) ys)) ∙ drop_at (xs ++ mark ∷ []) ys _ (length-append xs (mark ∷ []))

after_any_at : (mark : ℕ) (xs ys : List ℕ) → All (IsNot mark) xs → after_any (λ b. b == mark) (xs ++ mark ∷ ys) ≡ ys
unfolding after_any
after_any_at mark xs ys none =
    let len = length-append xs (mark ∷ ys) in
    let inside : position_or_len (λ b. b == mark) (xs ++ mark ∷ ys) < length (xs ++ mark ∷ ys) = (let e = position_at mark xs ys none in omega arith) in
    cond-true _ _ _ (lt-ltb _ _ inside) ∙ after_at mark xs ys none

after_any_none : (mark : ℕ) (xs : List ℕ) → All (IsNot mark) xs → after_any (λ b. b == mark) xs ≡ xs
unfolding after_any
after_any_none mark xs none =
    let outside : length xs ≤ position_or_len (λ b. b == mark) xs = (let e = position_none mark xs none in omega arith) in
    cond-false _ _ _ (le-ltb _ _ outside)

-- ---- the authority, and what follows it

-- the text is a scheme, `://`, an authority and the rest, which begins with `/`
pub record HasLayout (text authority rest : List ℕ) : Type 0 where
  pub scheme : List ℕ
  pub spelled : text ≡ scheme ++ 58 ∷ 47 ∷ 47 ∷ (authority ++ 47 ∷ rest)
  pub before : All (IsNot 47) scheme
  pub within : All (IsNot 47) authority

pub after_slashes-layout : (text authority rest : List ℕ) → HasLayout text authority rest → after_slashes text ≡ authority ++ 47 ∷ rest
after_slashes-layout text authority rest h =
    let front = All-append (IsNot 47) h.scheme (58 ∷ []) h.before (All-cons (IsNot 47) 58 [] (λ e. omega arith) (All-nil (IsNot 47))) in
    let spelled = h.spelled ∙ sym (append_assoc h.scheme (58 ∷ []) (47 ∷ 47 ∷ (authority ++ 47 ∷ rest))) in
    ap (λ t. after_first is_slash (after_first is_slash t)) spelled
    ∙ ap (after_first is_slash) (after_at 47 (h.scheme ++ 58 ∷ []) (47 ∷ (authority ++ 47 ∷ rest)) front)
    ∙ after_at 47 [] (authority ++ 47 ∷ rest) (All-nil (IsNot 47))

pub authority_of-layout : (text authority rest : List ℕ) → HasLayout text authority rest → authority_of text ≡ authority
authority_of-layout text authority rest h =
    ap (before_first is_slash) (after_slashes-layout text authority rest h) ∙ before_at 47 authority rest h.within

pub target_of-layout : (text authority rest : List ℕ) → HasLayout text authority rest → target_of text ≡ before_first is_hash (47 ∷ rest)
unfolding target_of
target_of-layout text authority rest h =
    ap (λ t. before_first is_hash (from_first is_slash t)) (after_slashes-layout text authority rest h) ∙ ap (before_first is_hash) (from_at 47 authority rest h.within)

pub host_of-bare : (text authority rest : List ℕ) → HasLayout text authority rest → All (IsNot 64) authority → host_of text ≡ authority
unfolding host_of
host_of-bare text authority rest h none =
    ap (after_any is_at) (authority_of-layout text authority rest h) ∙ after_any_none 64 authority none

-- ---- the parts of a URL

-- the fragment after its `#`
fragment_text : Parts → List ℕ
fragment_text url = when (is_some url.fragment) (35 ∷ []) ++ (unwrap_or url.fragment [] ++ [])

slash_first : (path : List ℕ) → 0 < length path → (path ≡ []) ⊎ (get_or path 0 0 ≡ 47) → (rest : List ℕ) × (path ≡ 47 ∷ rest)
slash_first [] long first = absurd (omega arith)
slash_first (b ∷ rest) long first =
    ⊎_elim (λ empty. absurd (let none = ap length empty in omega arith)) (λ slash. (rest, ap (λ c. c ∷ rest) slash)) first

-- the text of a web address has a layout, whose rest is its path, its query and its fragment
record HasUrlLayout (url : Parts) : Type 0 where
  pub rest : List ℕ
  pub layout : HasLayout (serialize url) (text_between url BeforeUsername AfterPort) rest
  pub spelled : 47 ∷ rest ≡ path_and_query url ++ fragment_text url

serialize-split : (url : Parts) → has_authority url ≡ true → serialize url ≡ url.scheme ++ 58 ∷ 47 ∷ 47 ∷ (text_between url BeforeUsername AfterPort ++ (path_and_query url ++ fragment_text url))
unfolding fragment_text
serialize-split url authority = rw authority (simp (append_assoc, append-nil))

url_layout : (url : Parts) → IsValid url → is_web url ≡ true → HasUrlLayout url
url_layout url valid web =
    let special = ap is_special (web_kind url web) in
    let authority = special_has_authority url valid.head special in
    let path = hierarchical url valid.path (base_from_authority url authority) in
    let first = slash_first url.path (path.1 special) (rooted _ url.path path.0) in
    let query = when (is_some url.query) (63 ∷ []) ++ (unwrap_or url.query [] ++ []) in
    let joined : path_and_query url ++ fragment_text url ≡ 47 ∷ ((first.0 ++ query) ++ fragment_text url) = ap (λ p. (p ++ query) ++ fragment_text url) first.1 in
    record {
      rest = (first.0 ++ query) ++ fragment_text url;
      layout = record {
        scheme = url.scheme;
        spelled = serialize-split url authority ∙ ap (λ t. url.scheme ++ 58 ∷ 47 ∷ 47 ∷ (text_between url BeforeUsername AfterPort ++ t)) joined;
        before = All-weaker (Passes is_scheme_byte) (IsNot 47) (λ b passes same. grind (arith, nat_tests)) url.scheme (scheme_bytes url.scheme valid.head.scheme);
        within = All-weaker (Passes is_authority_byte) (IsNot 47) (λ b passes same. grind (arith, nat_tests)) _ (authority_bytes url valid.head);
      };
      spelled = sym joined;
    }

no_hash : (url : Parts) → IsValid url → All (IsNot 35) (path_and_query url)
no_hash url valid =
    All-concat (IsNot 35) (url.path ∷ when (is_some url.query) (63 ∷ []) ∷ unwrap_or url.query [] ∷ []) (
      All_kept_differs OPAQUE_PATH 35 refl url.path (path_kept url valid.path),
      (
        All_one (IsNot 35) _ 63 (λ e. omega arith),
        (All_part (IsNot 35) _ url.query (λ b kept same. true≢false (sym (rw same at (query_byte (kind_of url) b kept)))) valid.query, tt),
      ),
    )

before_fragment : (front : List ℕ) (fragment : Option (List ℕ)) → All (IsNot 35) front → before_first is_hash (front ++ (when (is_some fragment) (35 ∷ []) ++ (unwrap_or fragment [] ++ []))) ≡ front
before_fragment front None none = ap (before_first is_hash) (append-nil front) ∙ before_none 35 front none
before_fragment front (Some text) none = before_at 35 front (text ++ []) none

-- the target of a web address is its path and its query
pub target_of-serialize : (url : Parts) → IsValid url → is_web url ≡ true → target_of (serialize url) ≡ path_and_query url
unfolding fragment_text
target_of-serialize url valid web =
    let laid = url_layout url valid web in
    target_of-layout _ _ _ laid.layout ∙ ap (before_first is_hash) laid.spelled ∙ before_fragment (path_and_query url) url.fragment (no_hash url valid)

no_at : (url : Parts) → IsValid url → All (IsNot 64) (userinfo url)
no_at url valid =
    All-append (IsNot 64) url.username _ (All_kept_differs USERINFO 64 refl url.username valid.head.username)
    (All-append (IsNot 64) (when (not (is_empty url.password)) (58 ∷ [])) url.password (All_one (IsNot 64) _ 58 (λ e. omega arith)) (All_kept_differs USERINFO 64 refl url.password valid.head.password))

-- the host of a web address is its host and its port
pub host_of-serialize : (url : Parts) → IsValid url → is_web url ≡ true → host_of (serialize url) ≡ host_and_port url
unfolding host_of
host_of-serialize url valid web =
    let laid = url_layout url valid web in
    let rest = text_between url BeforeHost AfterPort in
    let none = All-weaker (Passes is_host_byte) (IsNot 64) (λ b passes e. grind (arith, nat_tests)) rest (host_and_port_bytes url valid.head) in
    let text : text_between url BeforeUsername AfterPort ≡ userinfo url ++ (when (has_credentials url) (64 ∷ []) ++ rest) = simp append_assoc in
    ap (after_any is_at) (authority_of-layout _ _ _ laid.layout ∙ text)
    ∙ ⊎_elim
    (λ some. ap (λ t. after_any is_at (userinfo url ++ (when t (64 ∷ []) ++ rest))) some ∙ after_any_at 64 (userinfo url) rest (no_at url valid))
    (λ bare.
    let empty = no_credentials url bare in
    let nothing : userinfo url ≡ [] = rw (empty.0, empty.1) in
    (λ i. after_any is_at (nothing i ++ (when (bare i) (64 ∷ []) ++ rest))) ∙ after_any_none 64 rest none)
    (cases_Bool (has_credentials url))

-- an IRI parses to the URL that it spells
same_url : (text : List ℕ) (iri : IsIri text) (url : Parts) → web_url text ≡ Some url → iri.url ≡ url
same_url text iri url read =
    let own = subst (λ t. web_url t ≡ Some iri.url) iri.spelled (web_url-serialize iri.url iri.valid iri.web) in
    ap (λ o. unwrap_or o iri.url) (sym own ∙ read)

pub host_of-IsIri : (text : List ℕ) → IsIri text → (url : Parts) → web_url text ≡ Some url → host_of text ≡ host_and_port url
host_of-IsIri text iri url read =
    ap host_of (sym iri.spelled) ∙ host_of-serialize iri.url iri.valid iri.web ∙ ap (λ (u : Parts). host_and_port u) (same_url text iri url read)

pub target_of-IsIri : (text : List ℕ) → IsIri text → (url : Parts) → web_url text ≡ Some url → target_of text ≡ path_and_query url
target_of-IsIri text iri url read =
    ap target_of (sym iri.spelled) ∙ target_of-serialize iri.url iri.valid iri.web ∙ ap (λ (u : Parts). path_and_query u) (same_url text iri url read)

-- ---- the address of a path at a host

address_layout : (host path : List ℕ) → is_host_text host ≡ true → (rest : List ℕ) × (path ≡ 47 ∷ rest) → (rest : List ℕ) × (path ≡ 47 ∷ rest) × HasLayout (address host path) host rest
address_layout host path shape split = (
  split.0,
  split.1,
  record {
    scheme = codes "https";
    spelled = ap (λ p. codes "https://" ++ (host ++ p)) split.1;
    before = All_from_list_all_not 47 (codes "https") refl;
    within = All-weaker (Passes is_named_byte) (IsNot 47) (λ b passes same. grind (arith, nat_tests)) host (host_bytes host shape).bytes;
  },
)
  where
    All_from_list_all_not : (mark : ℕ) (xs : List ℕ) → list_all (λ b. not (b == mark)) xs ≡ true → All (IsNot mark) xs
    All_from_list_all_not mark xs passes =
        All-weaker (Passes (λ b. not (b == mark))) (IsNot mark) (λ b other same. grind (arith, nat_tests)) xs (All_from_list_all (λ b. not (b == mark)) xs passes)

path_slash : (path : List ℕ) → is_plain_path path ≡ true → (rest : List ℕ) × (path ≡ 47 ∷ rest)
path_slash path plain =
    let list = plain_path path plain in
    slash_first path list.1 (rooted SpecialNotFile path list.0)

pub host_of-address : (host path : List ℕ) → is_host_text host ≡ true → is_plain_path path ≡ true → host_of (address host path) ≡ host
host_of-address host path shape plain =
    let laid = address_layout host path shape (path_slash path plain) in
    host_of-bare _ _ _ laid.2
    (All-weaker (Passes is_named_byte) (IsNot 64) (λ b passes same. grind (arith, nat_tests)) host (host_bytes host shape).bytes)

path_bytes : (path : List ℕ) → is_plain_path path ≡ true → All (Passes is_path_byte) path
path_bytes path plain =
    All_from_list_all is_path_byte path (and_parts (get_or path 0 0 == 47 && nat_le (length path) 128) (list_all is_path_byte path) plain).1

pub target_of-address : (host path : List ℕ) → is_host_text host ≡ true → is_plain_path path ≡ true → target_of (address host path) ≡ path
target_of-address host path shape plain =
    let laid = address_layout host path shape (path_slash path plain) in
    target_of-layout _ _ _ laid.2 ∙ ap (before_first is_hash) (sym laid.1)
    ∙ before_none 35 path (All-weaker (Passes is_path_byte) (IsNot 35) (λ b passes same. grind (arith, nat_tests)) path (path_bytes path plain))
