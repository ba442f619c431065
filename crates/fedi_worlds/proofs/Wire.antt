-- The requests of a delivery, as they are read where they arrive.
use Rattle.std.proofs.Common.{◌≡◌, ℕ, zero, suc, ◌+◌, ◌/◌, ◌%◌, ◌^◌, ◌<◌, ◌≤◌, Bool, true, false}
use Rattle.std.proofs.Common.{List, [], ◌∷◌, ◌++◌, length, take, drop, Some, None, refl, sym, ap}
use Rattle.std.proofs.Common.{◌∙◌, subst, ⊎_elim, append_assoc, append-nil, arith, lit<, lit≤}
use Rattle.std.specs.Prelude.{◌&&◌, slice_range, codes, decimal, nat_le, nat_lt, slice_index, ◌==◌}
use Rattle.std.specs.Prelude.{IsUtf8, Ok, Err, option_map, reverse}
use Rattle.std.specs.List.{list_all}
use Rattle.std.specs.Str.Parse.{digits_value}
use Rattle.json.proofs.Printed.Utf8.{IsUtf8-are_ascii}
use Rattle.std.proofs.lemmas.Bool.{and_parts, le-leb}
use Rattle.std.proofs.lemmas.Bool.Decides.{nat_tests}
use Rattle.std.proofs.lemmas.List.{take-append-drop}
use Rattle.std.proofs.lemmas.List.Elements.{All-nil, All-cons}
use Rattle.std.proofs.lemmas.List.Sums.{AllPass-from_list_all, list_all-from_AllPass}
use Rattle.std.proofs.lemmas.Fmt.{decimal_is_IsNumeral, decimal_by_steps}
use Rattle.std.proofs.lemmas.List.Folds.{list_all-append}
use Rattle.std.specs.Cmp.Derive.{both_true}
use Rattle.std.specs.Int.{bytes_high_first, byte_at}
use Rattle.hex.specs.Hex.{encode_lower, encode_with, lower_digits}
use Rattle.sha2.specs.Sha256.{sha256, digest_bytes}
use Rattle.fedi_mac.specs.Hmac.{hmac}
use Rattle.fedi_mac.specs.Signing.{signed_text}
use Rattle.httparse.specs.Grammar.{LineEnd, crlf, lf, Field, IsField, RequestHead, IsRequestHead}
use Rattle.httparse.specs.Grammar.{ReadsRequest, print_request, print_blank, AllPass, is_token_byte}
use Rattle.httparse.specs.Grammar.{is_uri_byte, is_value_byte, is_ows, skip_ows, trim_ows}
use Rattle.httparse.proofs.TrimLemmas.{trim_ows_space, AllPass-reverse}
use Rattle.httparse.proofs.GrammarLemmas.{request_unique, print_request-append}
use Rattle.httparse.proofs.RunLemmas.{run_unique}
use Rattle.fedi_http.specs.Arrivals.{HasHead, HasRequest}
use Rattle.fedi_http.specs.Chunks.{Whole, Part, HasBody, HasMeasuredBody}
use Rattle.fedi_http.specs.declared.heads.TheConstants.{HEAD_LIMIT}
use Rattle.fedi_http.specs.declared.requests.TheConstants.{MOST_FIELDS}
use Rattle.fedi_http.specs.Heads.{leading, after_leading, is_line_end}
use Rattle.fedi_http.proofs.HeadLemmas.{head_end-Some-is}
use Rattle.fedi_model.specs.declared.request.Request as requests
use Rattle.fedi_town.specs.declared.refusal.Refusal.TheVariants.{HeadTooLong}
use Rattle.fedi_model.specs.Requests.{ReadsAs, ReadsHead, request_of, line_count, field_value}
use Rattle.fedi_model.specs.Requests.{coding_of, body_length, count_named}
use Rattle.fedi_model.specs.declared.request.Coding.{Coding}
use Rattle.fedi_model.specs.declared.request.Coding.TheVariants.{Length}
use Rattle.fedi_model.specs.declared.request.TheConstants.{BODY_LIMIT}
use Rattle.fedi_address.specs.Hosts.{is_host_text, is_path_byte, is_plain_path}
use Rattle.fedi_address.proofs.Urls.{host_bytes, is_named_byte}
use Rattle.fedi_delivery.specs.Sending.{code_text, post_request, post_lines, sender_lines}
use Rattle.fedi_delivery.specs.Sending.{content_text}

-- ---- the head at the front

-- a request whose head is at the front, and the bytes after it
pub record FrontHead (bytes : List ℕ) (q : requests.Request) (rest : List ℕ) : Type 0 where
  pub head : RequestHead
  pub reads : ReadsRequest bytes head rest
  pub request : q ≡ request_of head

text_head : (most : ℕ) (text : List ℕ) (q : requests.Request) → ReadsAs most text (Ok q)
    → (h : RequestHead) × ReadsRequest text h [] × (q ≡ request_of h)
text_head most text q r =
    ⊎_elim
    (λ (a : (line_count text ≤ most) × ReadsHead most text (Ok q)). (a.1.0, a.1.1.0, a.1.3))
    (λ b. absurd (bad b.1))
    r
  where
    bad : Ok q ≡ Err HeadTooLong → ⊥
    bad e = cc

leading-none : (b : ℕ) (bs : List ℕ) → is_line_end b ≡ false → leading (b ∷ bs) ≡ 0
unfolding leading
leading-none b bs e = rw e refl

after-none : (b : ℕ) (bs : List ℕ) → is_line_end b ≡ false → after_leading (b ∷ bs) ≡ b ∷ bs
after-none b bs e = ap (λ (n : ℕ). drop n (b ∷ bs)) (leading-none b bs e)

-- the text of a head that begins with a byte of a line
text_is : (limit end : ℕ) (b : ℕ) (bs : List ℕ) → 0 < limit → 0 < end → is_line_end b ≡ false
    → end ≤ length (take limit (b ∷ bs))
    → after_leading (take end (take limit (b ∷ bs))) ≡ take end (b ∷ bs)
text_is zero end b bs l n e le = absurd (omega arith)
text_is (suc limit) zero b bs l n e le = absurd (omega arith)
text_is (suc limit) (suc end) b bs l n e le =
    after-none b (take end (take limit bs)) e
    ∙ ap (λ (xs : List ℕ). b ∷ xs) (take_within end limit bs (omega arith))
  where
    take_within : (m n : ℕ) (xs : List ℕ) → m ≤ length (take n xs) → take m (take n xs) ≡ take m xs
    take_within zero n xs h = refl
    take_within (suc m) zero xs h = absurd (omega arith)
    take_within (suc m) (suc n) [] h = refl
    take_within (suc m) (suc n) (x ∷ xs) h = ap (λ ys. x ∷ ys) (take_within m n xs (omega arith))

pub front_head : (limit most : ℕ) (b : ℕ) (bs : List ℕ) (q : requests.Request) (end : ℕ) → 0 < limit
    → is_line_end b ≡ false → HasHead limit most (b ∷ bs) (Ok q) end
    → FrontHead (b ∷ bs) q (drop end (b ∷ bs))
front_head limit most b bs q end some e h =
    let bytes : List ℕ = b ∷ bs in
    let inside = head_end-Some-is (take limit bytes) end h.head.ends in
    let start : 0 < end = omega (arith, h.head.ordered) in
    let text : take end bytes ≡ slice_range bytes h.start end =
    sym (text_is limit end b bs some start e inside.0)
    ∙ some_text (after_leading (take end (take limit bytes))) (slice_range bytes h.start end)
    (ap (option_map (λ count. after_leading (take count (take limit bytes)))) (sym h.head.ends)
    ∙ h.head.text) in
    let read = text_head most (slice_range bytes h.start end) q h.reads in
    let whole : ReadsRequest (take end bytes) read.0 [] =
    subst (λ (t : List ℕ). ReadsRequest t read.0 []) (sym text) read.1 in
    record {
      head = read.0;
      reads = (
        whole.0,
        sym (take-append-drop end bytes)
            ∙ ap (λ (t : List ℕ). t ++ drop end bytes)
            (whole.1 ∙ append-nil (print_request read.0)),
      );
      request = read.2;
    }
  where
    some_text : (x y : List ℕ) → Some x ≡ Some y → x ≡ y
    some_text x y e = cc

-- ---- the method

pub no_blank : (ends : List LineEnd) (b : ℕ) (rest more : List ℕ) → is_line_end b ≡ false
    → b ∷ rest ≡ print_blank ends ++ more → b ∷ rest ≡ more
no_blank [] b rest more e h = h
no_blank (crlf ∷ ends) b rest more e h =
    absurd
    (let is : b ≡ 13 =
    cc in let not_end : is_line_end 13 ≡ false =
    subst (λ (x : ℕ). is_line_end x ≡ false) is e in cc)
no_blank (lf ∷ ends) b rest more e h =
    absurd
    (let is : b ≡ 10 =
    cc in let not_end : is_line_end 10 ≡ false =
    subst (λ (x : ℕ). is_line_end x ≡ false) is e in cc)

-- the method is what comes before the first space
pub method_is : (m : List ℕ) (rest : List ℕ) (h : RequestHead) (more : List ℕ)
    → list_all is_token_byte m ≡ true → (b : ℕ) (bs : List ℕ) → m ≡ b ∷ bs → is_line_end b ≡ false
    → ReadsRequest (m ++ 32 ∷ rest) h more → h.method ≡ m
unfolding is_token_byte
method_is m rest h more token b bs is line r =
    let tail : List ℕ = _ in
    let split : m ++ 32 ∷ rest ≡ print_blank h.blank ++ (h.method ++ 32 ∷ tail) =
    r.1 ∙ print_request-append h more in
    let front : b ∷ (bs ++ 32 ∷ rest) ≡ print_blank h.blank ++ (h.method ++ 32 ∷ tail) =
    ap (λ (x : List ℕ). x ++ 32 ∷ rest) (sym is) ∙ split in
    let bare : m ++ 32 ∷ rest ≡ h.method ++ 32 ∷ tail =
    ap (λ (x : List ℕ). x ++ 32 ∷ rest) is
    ∙ no_blank h.blank b (bs ++ 32 ∷ rest) (h.method ++ 32 ∷ tail) line front in
    sym (run_unique is_token_byte m h.method (32 ∷ rest) (32 ∷ tail)
    (AllPass-from_list_all is_token_byte m token) r.0.method.1 refl refl bare).0

-- ---- the head of a post

-- the fields of a post
abbrev field : (name raw : List ℕ) → Field
field name raw = record { name = name; raw = raw; end = crlf }

abbrev media : List ℕ
media = codes " application/ld+json; profile=\"https://www.w3.org/ns/activitystreams\""

abbrev last_fields : List Field
last_fields = field (codes "Connection") (codes " close") ∷ []

abbrev size_fields : (size : List ℕ) → List Field
size_fields size = field (codes "Content-Length") (32 ∷ size) ∷ last_fields

abbrev code_fields : (code size : List ℕ) → List Field
code_fields code size = field (codes "Peer-Mac") (32 ∷ code) ∷ size_fields size

abbrev own_fields : (own code size : List ℕ) → List Field
own_fields own code size = field (codes "Peer-Host") (32 ∷ own) ∷ code_fields code size

abbrev type_fields : (own code size : List ℕ) → List Field
type_fields own code size = field (codes "Content-Type") media ∷ own_fields own code size

abbrev pub post_fields : (host own code size : List ℕ) → List Field
post_fields host own code size = field (codes "Host") (32 ∷ host) ∷ type_fields own code size

abbrev pub post_head : (target host own code size : List ℕ) → RequestHead
post_head target host own code size = record {
  blank = [];
  method = codes "POST";
  target = target;
  minor = 1;
  line_end = crlf;
  fields = post_fields host own code size;
  last = crlf;
}

regroup : (a t b h c d o e m f g n k body : List ℕ)
    → (a ++ (t ++ (b ++ (h ++ c)))) ++ ((d ++ (o ++ (e ++ (m ++ f)))) ++ (g ++ (n ++ (k ++ body))))
    ≡ a ++ (t ++ (b ++ (h ++ (c ++ (d ++ (o ++ (e ++ (m ++ (f ++ (g ++ (n ++ (k ++ body))))))))))))
regroup a t b h c d o e m f g n k body = simp append_assoc

section_of : (n1 h n2 n3 o n4 c n5 d n6 e z body : List ℕ)
    → (((n1 ++ (h ++ e))
    ++ (n2 ++ ((n3 ++ (o ++ e)) ++ ((n4 ++ (c ++ e)) ++ ((n5 ++ (d ++ e)) ++ (n6 ++ [])))))) ++ z)
    ++ body
    ≡ n1 ++ (h
    ++ (e ++ (n2
    ++ (n3 ++ (o ++ (e ++ (n4 ++ (c ++ (e ++ (n5 ++ (d ++ (e ++ (n6 ++ (z ++ body))))))))))))))
section_of n1 h n2 n3 o n4 c n5 d n6 e z body = simp (append_assoc, append-nil)

post_spelled : (own key target host body : List ℕ)
    → post_request own key target host body
    ≡ print_request
    (post_head target host own (code_text key (codes "POST") target own body)
    (decimal (length body))) ++ body
unfolding post_request post_lines sender_lines content_text
post_spelled own key target host body =
    let code : List ℕ = code_text key (codes "POST") target own body in
    let size : List ℕ = decimal (length body) in
    let line : List ℕ = codes "\r\n" in
    regroup (codes "POST ") target (codes " HTTP/1.1\r\nHost: ") host
    (codes
    "\r\nContent-Type: application/ld+json; profile=\"https://www.w3.org/ns/activitystreams\"\r\n")
    (codes "Peer-Host: ") own (codes "\r\nPeer-Mac: ") code line (codes "Content-Length: ") size
    (codes "\r\nConnection: close\r\n\r\n") body
    ∙ sym (print_request-append (post_head target host own code size) body
    ∙ ap (λ (z : List ℕ). codes "POST " ++ (target ++ (codes " HTTP/1.1\r\n" ++ z)))
    (section_of (codes "Host: ") host
    (codes
    "Content-Type: application/ld+json; profile=\"https://www.w3.org/ns/activitystreams\"\r\n")
    (codes "Peer-Host: ") own (codes "Peer-Mac: ") code (codes "Content-Length: ") size
    (codes "Connection: close\r\n") line line body))

-- ---- what is visible

-- a byte of a value that is no white space
abbrev pub is_plain_byte : ℕ → Bool
is_plain_byte b = nat_le 33 b && nat_le b 126

plain_is_value : (b : ℕ) → is_plain_byte b ≡ true → is_value_byte b ≡ true
plain_is_value b h = grind (arith, nat_tests)

plain_is_uri : (b : ℕ) → is_plain_byte b ≡ true → is_uri_byte b ≡ true
plain_is_uri b h = grind (arith, nat_tests)

plain_is_no_blank : (b : ℕ) → is_plain_byte b ≡ true → is_ows b ≡ false
plain_is_no_blank b h = grind (arith, nat_tests)

path_is_plain : (b : ℕ) → is_path_byte b ≡ true → is_plain_byte b ≡ true
path_is_plain b h = grind (arith, nat_tests)

named_is_plain : (b : ℕ) → is_named_byte b ≡ true → is_plain_byte b ≡ true
named_is_plain b h = grind (arith, nat_tests)

pub weaker : (p q : ℕ → Bool) → ((b : ℕ) → p b ≡ true → q b ≡ true) → (xs : List ℕ)
    → list_all p xs ≡ true → list_all q xs ≡ true
weaker p q h [] all = refl
weaker p q h (x ∷ xs) all =
    let parts = and_parts (p x) (list_all p xs) all in
    rw (h x parts.0, weaker p q h xs parts.1) refl

-- all of its bytes are plain
abbrev pub is_plain : List ℕ → Bool
is_plain text = list_all is_plain_byte text

no_blanks : (text : List ℕ) → is_plain text ≡ true → skip_ows text ≡ text
no_blanks [] h = refl
no_blanks (b ∷ text) h =
    let first =
    plain_is_no_blank b (and_parts (is_plain_byte b) (is_plain text) h).0 in rw first refl

plain_back : (text : List ℕ) → is_plain text ≡ true → is_plain (reverse text) ≡ true
plain_back text h =
    list_all-from_AllPass is_plain_byte (reverse text)
    (AllPass-reverse is_plain_byte text (AllPass-from_list_all is_plain_byte text h))

-- a plain value is read back from behind a space
pub trimmed : (text : List ℕ) → is_plain text ≡ true → trim_ows (32 ∷ text) ≡ text
trimmed text h =
    trim_ows_space text (no_blanks text h) (no_blanks (reverse text) (plain_back text h))

value_all : (text : List ℕ) → is_plain text ≡ true → AllPass is_value_byte (32 ∷ text)
value_all text h =
    AllPass-from_list_all is_value_byte (32 ∷ text)
    (weaker is_plain_byte is_value_byte plain_is_value text h)

plain_is_ascii : (text : List ℕ) → is_plain text ≡ true → IsUtf8 text
plain_is_ascii text h =
    IsUtf8-are_ascii text
    (weaker is_plain_byte (λ b. nat_lt b 128) (λ b k. grind (arith, nat_tests)) text h)

-- a host
pub host_is_plain : (host : List ℕ) → is_host_text host ≡ true → is_plain host ≡ true
host_is_plain host shape =
    weaker is_named_byte is_plain_byte named_is_plain host
    (list_all-from_AllPass is_named_byte host (host_bytes host shape).bytes)

-- a plain path
pub path_plain : (path : List ℕ) → is_plain_path path ≡ true → is_plain path ≡ true
path_plain path h =
    weaker is_path_byte is_plain_byte path_is_plain path
    (and_parts (slice_index path 0 == 47 && nat_le (length path) 128) (list_all is_path_byte path)
    h).1

-- the field is one of a head
field_is : (name raw : List ℕ) → list_all is_token_byte name ≡ true → 0 < length name
    → AllPass is_value_byte raw → IsField (record { name = name; raw = raw; end = crlf })
field_is name raw token some value =
    record { name = (some, AllPass-from_list_all is_token_byte name token); raw = value }

post_is_head : (target host own code size : List ℕ) → is_plain target ≡ true → 0 < length target
    → is_plain host ≡ true → is_plain own ≡ true → is_plain code ≡ true → is_plain size ≡ true
    → IsRequestHead (post_head target host own code size)
unfolding is_token_byte
post_is_head target host own code size t some h o c n = record {
  method = (lit< tt, AllPass-from_list_all is_token_byte (codes "POST") refl);
  target = (
    some,
    AllPass-from_list_all is_uri_byte target
        (weaker is_plain_byte is_uri_byte plain_is_uri target t),
  );
  target_text = plain_is_ascii target t;
  minor = lit≤ tt;
  fields =
      All-cons IsField (field (codes "Host") (32 ∷ host)) (type_fields own code size)
      (field_is (codes "Host") (32 ∷ host) refl (lit< tt) (value_all host h))
      (All-cons IsField (field (codes "Content-Type") media) (own_fields own code size)
      (field_is (codes "Content-Type") media refl (lit< tt)
      (AllPass-from_list_all is_value_byte media refl))
      (All-cons IsField (field (codes "Peer-Host") (32 ∷ own)) (code_fields code size)
      (field_is (codes "Peer-Host") (32 ∷ own) refl (lit< tt) (value_all own o))
      (All-cons IsField (field (codes "Peer-Mac") (32 ∷ code)) (size_fields size)
      (field_is (codes "Peer-Mac") (32 ∷ code) refl (lit< tt) (value_all code c))
      (All-cons IsField (field (codes "Content-Length") (32 ∷ size)) last_fields
      (field_is (codes "Content-Length") (32 ∷ size) refl (lit< tt) (value_all size n))
      (All-cons IsField (field (codes "Connection") (codes " close")) []
      (field_is (codes "Connection") (codes " close") refl (lit< tt)
      (AllPass-from_list_all is_value_byte (codes " close") refl)) (All-nil IsField))))));
}

-- what is read of a post
pub record IsPostRead (own target : List ℕ) (size : ℕ) (q : requests.Request) : Type 0 where
  pub method : q.method ≡ codes "POST"
  pub target_is : q.target ≡ target
  pub authorization : q.fields.authorization ≡ None
  pub sender : q.fields.peer_host ≡ Some own
  pub coding : q.coding ≡ Length size

head_read : (target host own code : List ℕ) (size : ℕ) → is_plain own ≡ true → size < 2 ^ 64
    → is_plain (decimal size) ≡ true
    → IsPostRead own target size (request_of (post_head target host own code (decimal size)))
unfolding field_value coding_of body_length count_named
head_read target host own code size o small digits = record {
  method = refl;
  target_is = refl;
  authorization = refl;
  sender = ap (λ (x : List ℕ). Some x) (trimmed own o);
  coding =
      ap (λ (x : List ℕ). Length (digits_value 10 x)) (trimmed (decimal size) digits)
      ∙ ap (λ (n : ℕ). Length n) (decimal_is_IsNumeral size small).1;
}

-- ---- digits and codes

digit_plain : (d : ℕ) → d < 10 → is_plain_byte (48 + d) ≡ true
digit_plain d lt = both_true (le-leb 33 (48 + d) (omega arith)) (le-leb (48 + d) 126 (omega arith))

pub decimal_plain : (n : ℕ) → n < 2 ^ 64 → is_plain (decimal n) ≡ true
decimal_plain =
    decimal_by_steps (λ n ds. list_all is_plain_byte ds ≡ true)
    (λ n lt. both_true (digit_plain n lt) refl)
    (λ n ds more h.
    list_all-append is_plain_byte ds ((48 + n % 10) ∷ [])
    ∙ both_true h (both_true (digit_plain (n % 10) (omega arith)) refl))

-- the digit of a number below sixteen
hex_plain : (n : ℕ) → n < 16 → is_plain_byte (slice_index lower_digits n) ≡ true
hex_plain n lt = list_all_here is_plain_byte lower_digits n lt refl
  where
    list_all_here : (p : ℕ → Bool) (xs : List ℕ) (k : ℕ) → k < length xs → list_all p xs ≡ true
        → p (slice_index xs k) ≡ true
    list_all_here p [] k l h = absurd (omega arith)
    list_all_here p (x ∷ xs) zero l h = (and_parts (p x) (list_all p xs) h).0
    list_all_here p (x ∷ xs) (suc k) l h =
        list_all_here p xs k (omega arith) (and_parts (p x) (list_all p xs) h).1

-- bytes
abbrev AreBytes : List ℕ → Type 0
AreBytes [] = Unit {0}
AreBytes (b ∷ bs) = (b < 256) × AreBytes bs

encoded_plain : (bytes : List ℕ) → AreBytes bytes → is_plain (encode_lower bytes) ≡ true
unfolding encode_with
encoded_plain [] h = refl
encoded_plain (b ∷ bs) h =
    both_true (hex_plain (b / 16) (omega (arith, h.0)))
    (both_true (hex_plain (b % 16) (omega arith)) (encoded_plain bs h.1))

bytes-append : (xs ys : List ℕ) → AreBytes xs → AreBytes ys → AreBytes (xs ++ ys)
bytes-append [] ys a b = b
bytes-append (x ∷ xs) ys a b = (a.0, bytes-append xs ys a.1 b)

byte_small : (k n : ℕ) → byte_at k n < 256
byte_small zero n = omega arith
byte_small (suc k) n = omega arith

word_bytes : (k n : ℕ) → AreBytes (bytes_high_first k n)
word_bytes zero n = tt
word_bytes (suc k) n = (byte_small k n, word_bytes k n)

digest_of : (h : List ℕ) (n : ℕ) → AreBytes (digest_bytes h n)
unfolding digest_bytes
digest_of h zero = tt
digest_of h (suc n) =
    bytes-append (digest_bytes h n) _ (digest_of h n) (word_bytes 4 (slice_index h n))

hmac_bytes : (key text : List ℕ) → AreBytes (hmac key text)
unfolding hmac sha256
hmac_bytes key text = digest_of _ 8

pub code_plain : (key method target own body : List ℕ)
    → is_plain (code_text key method target own body) ≡ true
unfolding code_text
code_plain key method target own body =
    encoded_plain _ (hmac_bytes key (signed_text method target own body))

-- ---- a post arrives

post_first : (own key target host body : List ℕ)
    → (rest : List ℕ) × (post_request own key target host body ≡ codes "POST" ++ 32 ∷ rest)
unfolding post_request post_lines
post_first own key target host body = (_, refl)

-- a post that was sent, as it is read
pub record Arrives (own target content : List ℕ) (q : requests.Request) (body : List ℕ) : Type 0
  where
    pub read : IsPostRead own target (length content) q
    pub body_is : body ≡ content

same_bodies : (content body left : List ℕ) → length body ≡ length content → content ≡ body ++ left
    → body ≡ content
same_bodies content [] left n e = absurd_or content left n e
  where
    absurd_or : (content left : List ℕ) → 0 ≡ length content → content ≡ left → [] ≡ content
    absurd_or [] left n e = refl
    absurd_or (x ∷ xs) left n e = absurd (omega arith)
same_bodies [] (b ∷ body) left n e = absurd (omega arith)
same_bodies (x ∷ content) (b ∷ body) left n e =
    let first : x ≡ b = cc in
    let rest : content ≡ body ++ left = cc in
    rw (first, same_bodies content body left (omega arith) rest) refl

body_of_size : (size : ℕ) (content body left : List ℕ) → size ≡ length content
    → HasMeasuredBody size content Whole body left → body ≡ content
body_of_size size content body left n h =
    ⊎_elim
    (λ (a : (Whole ≡ Whole) × (length body ≡ size) × (content ≡ body ++ left)).
    same_bodies content body left (a.1 ∙ n) a.2)
    (λ b. absurd (apart b.0))
    h
  where
    apart : Whole ≡ Part → ⊥
    apart e = cc

pub post_arrives : (own key target host content text : List ℕ) (q : requests.Request)
    (body left : List ℕ) → is_plain own ≡ true → is_plain target ≡ true → 0 < length target
    → is_plain host ≡ true
    → length content < 2 ^ 64 → text ≡ post_request own key target host content
    → HasRequest HEAD_LIMIT MOST_FIELDS text q Whole body left → Arrives own target content q body
post_arrives own key target host content text q body left o t some h small is r =
    let f = post_first own key target host content in
    let first : text ≡ codes "POST" ++ 32 ∷ f.0 = is ∙ f.1 in
    let b : HasRequest HEAD_LIMIT MOST_FIELDS (codes "POST" ++ 32 ∷ f.0) q Whole body left =
    subst (λ (s : List ℕ). HasRequest HEAD_LIMIT MOST_FIELDS s q Whole body left) first r in
    let front =
    front_head HEAD_LIMIT MOST_FIELDS 80 (79 ∷ 83 ∷ 84 ∷ 32 ∷ f.0) q b.end (lit< tt) refl b.head in
    let code : List ℕ = code_text key (codes "POST") target own content in
    let mine : RequestHead = post_head target host own code (decimal (length content)) in
    let good : IsRequestHead mine =
    post_is_head target host own code (decimal (length content)) t some h o
    (code_plain key (codes "POST") target own content) (decimal_plain (length content) small) in
    let same =
    request_unique (codes "POST" ++ 32 ∷ f.0) front.head mine
    (drop b.end (codes "POST" ++ 32 ∷ f.0)) content front.reads
    (good, sym f.1 ∙ post_spelled own key target host content) in
    let read : IsPostRead own target (length content) q =
    subst (IsPostRead own target (length content))
    (sym (front.request ∙ ap (λ (k : RequestHead). request_of k) same.0))
    (head_read target host own code (length content) o small
    (decimal_plain (length content) small)) in
    let measured : HasBody BODY_LIMIT (Length (length content)) content Whole body left =
    subst (λ (c : Coding). HasBody BODY_LIMIT c content Whole body left) read.coding
    (subst (λ (z : List ℕ). HasBody BODY_LIMIT q.coding z Whole body left) same.1 b.content) in
    record { read = read; body_is = body_of_size (length content) content body left refl measured }
