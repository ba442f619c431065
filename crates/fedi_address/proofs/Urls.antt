-- Web addresses and their texts.
use Rattle.std.proofs.Common.{◌≡◌, ℕ, ◌+◌, ◌<◌, ◌≤◌, Bool, true, false, ◌&&◌, ◌||◌, ◌==◌, ◌⊎◌, List, [], ◌∷◌, ◌++◌, length, get_or, drop, Some, None, Ok, Err, All, sym, refl, ap, ◌∙◌, subst, inl, ⊎_elim, append_assoc, append-nil, arith, length-append, length-drop, lit<}
use Rattle.std.specs.Prelude.{Option, codes, nat_le, option_map, unwrap_or}
use Rattle.std.specs.Result.{result_ok}
use Rattle.std.specs.List.{list_all, before_first, after_first, position_or_len}
use Rattle.std.proofs.lemmas.Bool.{and_parts, or_cases, cases_eq, cond-true, cond-false, true≢false, leb-true}
use Rattle.std.proofs.lemmas.Bool.Decides.{nat_tests}
use Rattle.std.proofs.lemmas.Slice.Eq.{bytes_eq-Decides}
use Rattle.std.proofs.lemmas.List.Elements.{All-nil, All-cons, All-head, All-tail, All-append, All-push, All-weaker}
use Rattle.std.proofs.lemmas.List.Sums.{split_at_first, passes_at_first}
use Rattle.url.specs.declared.sets.TheConstants.{PATH}
use Rattle.url.specs.declared.slicing.Position.TheVariants.{BeforeUsername, AfterPort, AfterPath, AfterQuery}
use Rattle.url.specs.declared.scheme.SchemeType.TheVariants.{SpecialNotFile}
use Rattle.url.specs.Input.{split_once}
use Rattle.url.specs.Scheme.{IsScheme, is_special, scheme_type, default_port, scheme_len}
use Rattle.url.specs.Path.{dot_len, dot_count, IsSegment, IsSegmentList}
use Rattle.url.specs.Parts.{Parts, kind_of, serialize, text_before, text_between, IsValid}
use Rattle.url.specs.Parser.{parse_url, split_scheme, IsOutOfRoom}
use Rattle.url.specs.declared.error.ParseError.{ParseError}
use Rattle.url.proofs.InputLemmas.{IsNot, Passes, split_once_at, split_once_none, All_from_list_all}
use Rattle.url.proofs.SetLemmas.{kept_from_passes}
use Rattle.url.proofs.LayoutLemmas.{IsValidHead_same}
use Rattle.url.proofs.PathLemmas.{IsNoSlash, push_valid, no_segments, rooted}
use Rattle.url.proofs.ValidLemmas.{hierarchical, special_has_authority, base_from_authority}
use Rattle.url.proofs.TextLemmas.{is_authority_byte, authority_bytes}
use Rattle.url.proofs.RoundTrip.{split_fragment, split_query, body_text, split_own_scheme}
use Rattle.url.proofs.Theorems.{parse_url-serialize_special}
use Rattle.fedi_address.specs.Names.{is_name_byte, is_digit}
use Rattle.fedi_address.specs.Iris.{is_web, is_out_of_room, web_only, web_url, normal, IsIri}
use Rattle.fedi_address.specs.Hosts.{is_domain_byte, is_domain, is_port, is_colon, is_host_text, address, IsHost, is_path_byte, is_plain_path}

-- ---- the scheme

https_is_special : scheme_type (codes "https") ≡ SpecialNotFile
unfolding scheme_type default_port
https_is_special = refl

http_is_special : scheme_type (codes "http") ≡ SpecialNotFile
unfolding scheme_type default_port
http_is_special = refl

pub web_kind : (url : Parts) → is_web url ≡ true → kind_of url ≡ SpecialNotFile
web_kind url web =
    ⊎_elim
    (λ https. ap scheme_type ((bytes_eq-Decides url.scheme (codes "https")).0 https) ∙ https_is_special)
    (λ http. ap scheme_type ((bytes_eq-Decides url.scheme (codes "http")).0 http) ∙ http_is_special)
    (or_cases _ _ web)

-- the result for a web address, for another URL and for an error of the parser
pub web_url-Ok : (text : List ℕ) (url : Parts) → parse_url None text ≡ Ok url → is_web url ≡ true → web_url text ≡ Some url
unfolding web_url
web_url-Ok text url parsed web = ap (λ r. web_only (result_ok r)) parsed ∙ cond-true _ _ _ web

pub web_url-other : (text : List ℕ) (url : Parts) → parse_url None text ≡ Ok url → is_web url ≡ false → web_url text ≡ None
unfolding web_url
web_url-other text url parsed other = ap (λ r. web_only (result_ok r)) parsed ∙ cond-false _ _ _ other

pub web_url-Err : (text : List ℕ) (e : ParseError) → (parse_url None text ≡ Err e) ⊎ IsOutOfRoom e → is_out_of_room e ≡ false → web_url text ≡ None
unfolding web_url
web_url-Err text e parsed room =
    ⊎_elim
    (λ err. ap (λ r. web_only (result_ok r)) err)
    (λ out. absurd (⊎_elim (λ memory. true≢false (sym (ap is_out_of_room memory) ∙ room)) (λ overflow. true≢false (sym (ap is_out_of_room overflow) ∙ room)) out))
    parsed

-- the normal text of a valid web address parses to that address
pub web_url-serialize : (url : Parts) → IsValid url → is_web url ≡ true → web_url (serialize url) ≡ Some url
unfolding web_url
web_url-serialize url valid web =
    web_url-Ok (serialize url) url (parse_url-serialize_special url None valid (web_kind url web)) web

-- so an IRI is its own normal text
pub normal-IsIri : (text : List ℕ) → IsIri text → normal text ≡ Some text
unfolding normal
normal-IsIri text iri =
    subst (λ t. normal t ≡ Some t) iri.spelled (ap (λ o. option_map serialize o) (web_url-serialize iri.url iri.valid iri.web))

-- a short enough text from the parser is an IRI
pub IsIri-from_url : (url : Parts) (text : List ℕ) → IsValid url → is_web url ≡ true → text ≡ serialize url → length (serialize url) ≤ 2048 → IsIri text
IsIri-from_url url text valid web spelled short =
    record { url = url; valid = valid; web = web; spelled = sym spelled; short = subst (λ t. length t ≤ 2048) (sym spelled) short }

-- ---- plain paths

not_dots : (s : List ℕ) → All (Passes is_name_byte) s → dot_count s ≡ 0
unfolding dot_count
not_dots [] plain = refl
not_dots (b ∷ s) plain =
    let passes : is_name_byte b ≡ true = All-head (Passes is_name_byte) b s plain in
    let none : dot_len (b ∷ s) ≡ 0 = grind (arith, nat_tests) in
    rw none

name_byte_ascii : (b : ℕ) → is_name_byte b ≡ true → b < 128
name_byte_ascii b passes = grind (arith, nat_tests)

plain_segment : (s : List ℕ) → All (Passes is_name_byte) s → IsSegment SpecialNotFile s
plain_segment s plain = record {
  escaped = All-weaker (Passes is_name_byte) _ (λ b passes. kept_from_passes is_name_byte PATH refl b (name_byte_ascii b passes) passes) s plain;
  whole = All-weaker (Passes is_name_byte) (IsNoSlash SpecialNotFile) (λ b passes. grind (arith, nat_tests)) s plain;
  resolved = not_dots s plain;
}

plain_more : (front s rest : List ℕ) → IsSegmentList SpecialNotFile front → All (Passes is_name_byte) s → All (Passes is_path_byte) rest → IsSegmentList SpecialNotFile (front ++ 47 ∷ (s ++ rest))
plain_more front s [] list segment plain =
    subst (λ t. IsSegmentList SpecialNotFile (front ++ 47 ∷ t)) (sym (append-nil s)) (push_valid SpecialNotFile front s list (plain_segment s segment))
plain_more front s (b ∷ rest) list segment plain =
    let passes : is_path_byte b ≡ true = All-head (Passes is_path_byte) b rest plain in
    let others = All-tail (Passes is_path_byte) b rest plain in
    ⊎_elim
    (λ slash.
    let next = plain_more (front ++ 47 ∷ s) [] rest (push_valid SpecialNotFile front s list (plain_segment s segment)) (All-nil (Passes is_name_byte)) others in
    rw slash (subst (IsSegmentList SpecialNotFile) (append_assoc front (47 ∷ s) (47 ∷ rest)) next))
    (λ other.
    let name : is_name_byte b ≡ true = grind (arith, nat_tests) in
    subst (λ t. IsSegmentList SpecialNotFile (front ++ 47 ∷ t)) (append_assoc s (b ∷ []) rest) (plain_more front (s ++ b ∷ []) rest list (All-push (Passes is_name_byte) s b segment name) others))
    (cases_eq b 47)

pub plain_path : (path : List ℕ) → is_plain_path path ≡ true → IsSegmentList SpecialNotFile path × (0 < length path)
plain_path [] plain = absurd (grind (arith, nat_tests))
plain_path (b ∷ path) plain =
    let parts = and_parts (b == 47 && nat_le (length (b ∷ path)) 128) (list_all is_path_byte (b ∷ path)) plain in
    let slash : b ≡ 47 = grind (arith, nat_tests) in
    let bytes = All_from_list_all is_path_byte path (and_parts (is_path_byte b) (list_all is_path_byte path) parts.1).1 in
    (rw slash (plain_more [] [] path (no_segments SpecialNotFile) (All-nil (Passes is_name_byte)) bytes), omega arith)

-- ---- hosts

-- a byte of a name or of the port after it
abbrev pub is_named_byte : ℕ → Bool
is_named_byte b = is_domain_byte b || b == 58

-- the text is short, and is made of such bytes
pub record HasHostBytes (text : List ℕ) : Type 0 where
  pub short : length text ≤ 259
  pub bytes : All (Passes is_named_byte) text

domain_bytes : (text : List ℕ) → is_domain text ≡ true → (length text ≤ 253) × All (Passes is_named_byte) text
domain_bytes text domain =
    let parts = and_parts (nat_le 1 (length text) && nat_le (length text) 253) (list_all is_domain_byte text) domain in (
      leb-true _ _ (and_parts (nat_le 1 (length text)) (nat_le (length text) 253) parts.0).1,
      All-weaker (Passes is_domain_byte) (Passes is_named_byte) (λ b passes. rw passes) text (All_from_list_all is_domain_byte text parts.1),
    )

port_bytes : (text : List ℕ) → is_port text ≡ true → (0 < length text) × (length text ≤ 5) × All (Passes is_named_byte) text
port_bytes text port =
    let parts = and_parts (nat_le 1 (length text) && nat_le (length text) 5) (list_all is_digit text) port in
    let bounds = and_parts (nat_le 1 (length text)) (nat_le (length text) 5) parts.0 in (
      leb-true 1 (length text) bounds.0,
      leb-true _ _ bounds.1,
      All-weaker (Passes is_digit) (Passes is_named_byte) (λ b passes. grind (arith, nat_tests)) text (All_from_list_all is_digit text parts.1),
    )

pub host_bytes : (text : List ℕ) → is_host_text text ≡ true → HasHostBytes text
host_bytes text host =
    ⊎_elim
    (λ domain.
    let facts = domain_bytes text domain in
    record { short = omega (arith, facts.0); bytes = facts.1 })
    (λ both.
    let front = before_first is_colon text in
    let back = after_first is_colon text in
    let parts = and_parts (is_domain front) (is_port back) both in
    let name = domain_bytes front parts.0 in
    let port = port_bytes back parts.1 in
    let inside : position_or_len is_colon text < length text = (let len = length-drop (position_or_len is_colon text + 1) text in omega (arith, port.0)) in
    let mark = passes_at_first is_colon text 0 inside in
    let split = split_at_first is_colon text 0 inside in
    let colon : is_named_byte (get_or text (position_or_len is_colon text) 0) ≡ true = grind (arith, nat_tests) in
    let len = ap length split ∙ length-append front (get_or text (position_or_len is_colon text) 0 ∷ back) in
    record {
      short = omega (arith, name.0, port.1);
      bytes = subst (All (Passes is_named_byte)) (sym split) (All-append (Passes is_named_byte) front _ name.1 (All-cons (Passes is_named_byte) _ back colon port.2));
    })
    (or_cases _ _ host)

-- ---- the root of a host

pub IsScheme_https : IsScheme (codes "https")
unfolding scheme_len
IsScheme_https = record { nonempty = lit< tt; whole = refl; lower = refl }

all_not : (mark : ℕ) → (is_named_byte mark || mark == 47) ≡ false → (host : List ℕ) → All (Passes is_named_byte) host → All (IsNot mark) (address host (codes "/"))
all_not mark other host bytes =
    let apart : (b : ℕ) → (is_named_byte b || b == 47) ≡ true → IsNot mark b = λ b passes same. grind (arith, nat_tests) in
    All-append (IsNot mark) (codes "https://") (host ++ codes "/")
    (All-weaker (Passes (λ b. is_named_byte b || b == 47)) (IsNot mark) apart (codes "https://") (All_from_list_all (λ b. is_named_byte b || b == 47) (codes "https://") refl))
    (All-append (IsNot mark) host (codes "/")
    (All-weaker (Passes is_named_byte) (IsNot mark) (λ b passes. apart b (rw passes)) host bytes)
    (All-weaker (Passes (λ b. is_named_byte b || b == 47)) (IsNot mark) apart (codes "/") (All_from_list_all (λ b. is_named_byte b || b == 47) (codes "/") refl)))

same_before_slash : (a path host : List ℕ) → All (IsNot 47) a → All (IsNot 47) host → 0 < length path → (path ≡ []) ⊎ (get_or path 0 0 ≡ 47) → a ++ path ≡ host ++ 47 ∷ [] → a ≡ host
same_before_slash a [] host a_none host_none long first same = absurd (omega arith)
same_before_slash a (b ∷ path) host a_none host_none long first same =
    let slash : b ≡ 47 = ⊎_elim (λ empty. absurd (let none = ap length empty in omega arith)) (λ e. e) first in
    ap (λ r. r.0) (sym (split_once_at 47 a path a_none) ∙ ap (λ c. split_once 47 (a ++ c ∷ path)) (sym slash) ∙ ap (split_once 47) same ∙ split_once_at 47 host [] host_none)

-- the URL whose text is `https://HOST/` has that scheme and that host
record IsRootOf (url : Parts) (host : List ℕ) : Type 0 where
  pub scheme : url.scheme ≡ codes "https"
  pub authority : text_between url BeforeUsername AfterPort ≡ host

root_parts : (url : Parts) (host : List ℕ) → IsValid url → is_web url ≡ true → All (Passes is_named_byte) host → serialize url ≡ address host (codes "/") → IsRootOf url host
root_parts url host valid web bytes spelled =
    let kind = web_kind url web in
    let text = address host (codes "/") in
    let has = special_has_authority url valid.head (ap is_special kind) in
    let path = hierarchical url valid.path (base_from_authority url has) in
    let between = text_between url BeforeUsername AfterPort in
    let before_fragment : text_before url AfterQuery ≡ text =
    ap (λ r. r.0) (sym (split_fragment url valid) ∙ ap (split_once 35) spelled ∙ split_once_none 35 text (all_not 35 refl host bytes)) in
    let before_query : text_before url AfterPath ≡ text =
    ap (λ r. r.0) (sym (split_query url valid) ∙ ap (split_once 63) before_fragment ∙ split_once_none 63 text (all_not 63 refl host bytes)) in
    let scheme_split =
    sym (split_own_scheme url.scheme (47 ∷ 47 ∷ (between ++ url.path)) valid.head.scheme) ∙ ap split_scheme (sym (body_text url has) ∙ before_query) ∙ split_own_scheme (codes "https") (47 ∷ 47 ∷ (host ++ codes "/")) IsScheme_https in
    let rest : between ++ url.path ≡ host ++ codes "/" = ap (λ (o : Option (List ℕ × List ℕ)). drop 2 (unwrap_or {T = List ℕ × List ℕ} o ([], [])).1) scheme_split in
    record {
      scheme = ap (λ (o : Option (List ℕ × List ℕ)). (unwrap_or {T = List ℕ × List ℕ} o ([], [])).0) scheme_split;
      authority = same_before_slash between url.path host
          (All-weaker (Passes is_authority_byte) (IsNot 47) (λ b passes same. grind (arith, nat_tests)) between (authority_bytes url valid.head))
          (All-weaker (Passes is_named_byte) (IsNot 47) (λ b passes same. grind (arith, nat_tests)) host bytes)
          (path.1 (ap is_special kind)) (rooted _ url.path path.0) rest;
    }

-- the URL with this path and nothing after it
at_path : Parts → List ℕ → Parts
at_path url path = record url { path = path; query = None; fragment = None }

at_path_valid : (url : Parts) (path : List ℕ) → IsValid url → is_web url ≡ true → is_plain_path path ≡ true → IsValid (at_path url path)
unfolding at_path
at_path_valid url path valid web plain =
    let plain_list = plain_path path plain in
    record {
      head = IsValidHead_same url _ refl valid.head;
      path = inl (subst (λ k. IsSegmentList k path) (sym (web_kind url web)) plain_list.0, λ _. plain_list.1);
      query = tt;
      fragment = tt;
    }

serialize-at_path : (url : Parts) (path : List ℕ) → IsValid url → is_web url ≡ true → serialize (at_path url path) ≡ url.scheme ++ 58 ∷ 47 ∷ 47 ∷ (text_between url BeforeUsername AfterPort ++ path)
unfolding at_path
serialize-at_path url path valid web =
    let has = special_has_authority url valid.head (ap is_special (web_kind url web)) in
    rw has (simp (append_assoc, append-nil))

-- A plain path at a host is an IRI, already in its normal spelling.
pub address_is_iri : (host path : List ℕ) → is_host_text host ≡ true → IsIri (address host (codes "/")) → is_plain_path path ≡ true → IsIri (address host path)
unfolding at_path
address_is_iri host path shape root plain =
    let facts = host_bytes host shape in
    let parts = root_parts root.url host root.valid root.web facts.bytes root.spelled in
    let tests = and_parts (get_or path 0 0 == 47 && nat_le (length path) 128) (list_all is_path_byte path) plain in
    let few = leb-true _ _ (and_parts (get_or path 0 0 == 47) (nat_le (length path) 128) tests.0).1 in
    let len = length-append host path in
    record {
      url = at_path root.url path;
      valid = at_path_valid root.url path root.valid root.web plain;
      web = root.web;
      spelled = serialize-at_path root.url path root.valid root.web ∙ (λ i. parts.scheme i ++ 58 ∷ 47 ∷ 47 ∷ (parts.authority i ++ path));
      short = omega (arith, facts.short);
    }

-- a text of a host's shape is a host if its root is an IRI
pub IsHost-from_root : (host : List ℕ) → is_host_text host ≡ true → IsIri (address host (codes "/")) → IsHost host
IsHost-from_root host shape root = record { shape = shape; own = normal-IsIri _ root }
