-- The body that is read from a reply with a document.
use Rattle.std.proofs.Common.{◌≡◌, ℕ, zero, suc, ◌+◌, ◌-◌, ◌/◌, ◌%◌, ◌^◌, ◌<◌, ◌≤◌, Bool, true}
use Rattle.std.proofs.Common.{false, List, [], ◌∷◌, ◌++◌, length, Some, None, refl, sym, ap, ◌∙◌}
use Rattle.std.proofs.Common.{subst, append_assoc, append-nil, arith, lit<, lit≤}
use Rattle.std.specs.Cmp.Derive.{both_true}
use Rattle.std.specs.Prelude.{◌||◌, ◌==◌, All, codes, decimal, flat_map, if◌then◌else◌}
use Rattle.std.specs.Prelude.{slice_index_or}
use Rattle.std.specs.Fmt.{digits}
use Rattle.std.specs.List.{list_all}
use Rattle.std.proofs.lemmas.Bool.{and_parts}
use Rattle.std.proofs.lemmas.Bool.Decides.{nat_tests}
use Rattle.std.specs.Char.{is_ascii_digit}
use Rattle.std.proofs.lemmas.List.Elements.{All-nil, All-cons, All-head, All-tail}
use Rattle.std.proofs.lemmas.List.Folds.{list_all-append}
use Rattle.std.proofs.lemmas.List.Sums.{AllPass-from_list_all}
use Rattle.httparse.specs.Grammar.{crlf, Field, IsField, ResponseHead, ReadsResponse, print_field}
use Rattle.httparse.specs.Grammar.{is_value_byte, is_token_byte}
use Rattle.httparse.proofs.GrammarLemmas.{print_response-append, response_unique}
use Rattle.httpdate.specs.declared.parts.Parts.{Parts}
use Rattle.httpdate.specs.Text.{day_name, month_name, two_digits, four_digits, time_of_day}
use Rattle.httpdate.specs.Text.{imf_fixdate}
use Rattle.httpdate.specs.Calendar.{days_in_month, is_leap_year}
use Rattle.fedi_delivery.specs.Replies.{HasHead}
use Rattle.fedi_model.specs.declared.reply.Form.{Form}
use Rattle.fedi_model.specs.declared.reply.Form.TheVariants as forms
use Rattle.fedi_model.specs.declared.reply.Reply.{Reply}
use Rattle.fedi_model.specs.ReplyText.{reply_text, start_text, status_line, date_line}
use Rattle.fedi_model.specs.ReplyText.{location_line, allow_line, challenge_line, origin_line}
use Rattle.fedi_model.specs.ReplyText.{type_line, type_of, length_line, connection_line, kind_text}
use Rattle.fedi_model.specs.ReplyText.{content_text, body_text, reason_of}
use Rattle.fedi_text.specs.Dates.{http_date_text, parts_of}
use Rattle.fedi_text.proofs.DateLemmas.{parts_valid}
use Rattle.fedi_worlds.proofs.Wire.{decimal_plain, weaker, is_plain_byte}

-- ---- lines

-- the text is lines of fields
record IsLines (text : List ℕ) : Type 0 where
  fields : List Field
  good : All IsField fields
  spelled : text ≡ flat_map print_field fields

no_lines : IsLines []
no_lines = record { fields = []; good = All-nil IsField; spelled = refl }

all_joined : (fs gs : List Field) → All IsField fs → All IsField gs → All IsField (fs ++ gs)
all_joined [] gs a b = b
all_joined (f ∷ fs) gs a b =
    All-cons IsField f (fs ++ gs) (All-head IsField f fs a)
    (all_joined fs gs (All-tail IsField f fs a) b)

flat_joined : (fs gs : List Field)
    → flat_map print_field (fs ++ gs) ≡ flat_map print_field fs ++ flat_map print_field gs
flat_joined [] gs = refl
flat_joined (f ∷ fs) gs =
    ap (λ (z : List ℕ). print_field f ++ z) (flat_joined fs gs)
    ∙ sym (append_assoc (print_field f) (flat_map print_field fs) (flat_map print_field gs))

joined : (a b : List ℕ) → IsLines a → IsLines b → IsLines (a ++ b)
joined a b x y = record {
  fields = x.fields ++ y.fields;
  good = all_joined x.fields y.fields x.good y.good;
  spelled =
      ap (λ (z : List ℕ). z ++ b) x.spelled
      ∙ (ap (λ (z : List ℕ). flat_map print_field x.fields ++ z) y.spelled
      ∙ sym (flat_joined x.fields y.fields));
}

-- one field with a value of visible bytes and blanks
one_line : (name value : List ℕ) → list_all is_token_byte name ≡ true → 0 < length name
    → list_all is_value_byte value ≡ true → IsLines (name ++ 58 ∷ 32 ∷ (value ++ 13 ∷ 10 ∷ []))
one_line name value token some h =
    let f : Field = record { name = name; raw = 32 ∷ value; end = crlf } in
    record {
      fields = f ∷ [];
      good =
          All-cons IsField f []
          (record {
            name = (some, AllPass-from_list_all is_token_byte name token);
            raw = AllPass-from_list_all is_value_byte (32 ∷ value) h;
          }) (All-nil IsField);
      spelled =
          sym (append-nil ((name ++ 58 ∷ 32 ∷ value) ++ 13 ∷ 10 ∷ [])
          ∙ append_assoc name (58 ∷ 32 ∷ value) (13 ∷ 10 ∷ []));
    }

-- ---- the date

small_digit : (n : ℕ) → n < 10 → is_value_byte (48 + n) ≡ true
small_digit zero h = refl
small_digit (suc n) h = plain_value (48 + suc n) (omega arith) (omega arith)
  where
    plain_value : (b : ℕ) → 33 ≤ b → b ≤ 126 → is_value_byte b ≡ true
    plain_value b l h = grind (arith, nat_tests)

two_good : (n : ℕ) → n < 100 → list_all is_value_byte (two_digits n) ≡ true
two_good n h =
    both_true (small_digit (n / 10) (omega arith))
    (both_true (small_digit (n % 10) (omega arith)) refl)

four_good : (n : ℕ) → n < 10000 → list_all is_value_byte (four_digits n) ≡ true
four_good n h =
    list_all-append is_value_byte (two_digits (n / 100)) (two_digits (n % 100))
    ∙ both_true (two_good (n / 100) (omega arith)) (two_good (n % 100) (omega arith))

named_good : (names : List (List ℕ)) (k : ℕ) → list_all (λ n. list_all is_value_byte n) names ≡ true
    → list_all is_value_byte (slice_index_or names k []) ≡ true
named_good [] k h = refl
named_good (n ∷ names) zero h = (and_parts (list_all is_value_byte n) _ h).0
named_good (n ∷ names) (suc k) h = named_good names k (and_parts (list_all is_value_byte n) _ h).1

day_good : (w : ℕ) → list_all is_value_byte (day_name w) ≡ true
day_good w =
    named_good
    (codes "Mon" ∷ codes "Tue" ∷ codes "Wed" ∷ codes "Thu" ∷ codes "Fri" ∷ codes "Sat" ∷ codes "Sun"
    ∷ []) (w - 1) refl

month_good : (m : ℕ) → list_all is_value_byte (month_name m) ≡ true
month_good m =
    named_good
    (codes "Jan" ∷ codes "Feb" ∷ codes "Mar" ∷ codes "Apr" ∷ codes "May" ∷ codes "Jun" ∷ codes "Jul"
    ∷ codes "Aug" ∷ codes "Sep" ∷ codes "Oct" ∷ codes "Nov" ∷ codes "Dec" ∷ [])
    (m - 1) refl

value_joined : (a b : List ℕ) → list_all is_value_byte a ≡ true → list_all is_value_byte b ≡ true
    → list_all is_value_byte (a ++ b) ≡ true
value_joined a b p q = list_all-append is_value_byte a b ∙ both_true p q

date_good : (p : Parts) → p.day < 100 → p.year < 10000 → p.hour < 100 → p.min < 100 → p.sec < 100
    → list_all is_value_byte (imf_fixdate p) ≡ true
date_good p day year hour minute second =
    let t1 : List ℕ = two_digits p.hour ++ codes ":" in
    let t2 : List ℕ = t1 ++ two_digits p.min in
    let t3 : List ℕ = t2 ++ codes ":" in
    let clock : list_all is_value_byte (time_of_day p) ≡ true =
    value_joined t3 (two_digits p.sec)
    (value_joined t2 (codes ":")
    (value_joined t1 (two_digits p.min)
    (value_joined (two_digits p.hour) (codes ":") (two_good p.hour hour) refl)
    (two_good p.min minute)) refl)
    (two_good p.sec second) in
    let a1 : List ℕ = day_name p.wday ++ codes ", " in
    let a2 : List ℕ = a1 ++ two_digits p.day in
    let a3 : List ℕ = a2 ++ codes " " in
    let a4 : List ℕ = a3 ++ month_name p.mon in
    let a5 : List ℕ = a4 ++ codes " " in
    let a6 : List ℕ = a5 ++ four_digits p.year in
    let a7 : List ℕ = a6 ++ codes " " in
    let a8 : List ℕ = a7 ++ time_of_day p in
    let b1 : list_all is_value_byte a1 ≡ true =
    value_joined (day_name p.wday) (codes ", ") (day_good p.wday) refl in
    let b3 : list_all is_value_byte a3 ≡ true =
    value_joined a2 (codes " ") (value_joined a1 (two_digits p.day) b1 (two_good p.day day)) refl in
    let b5 : list_all is_value_byte a5 ≡ true =
    value_joined a4 (codes " ") (value_joined a3 (month_name p.mon) b3 (month_good p.mon)) refl in
    let b7 : list_all is_value_byte a7 ≡ true =
    value_joined a6 (codes " ") (value_joined a5 (four_digits p.year) b5 (four_good p.year year))
    refl in
    value_joined a8 (codes " GMT") (value_joined a7 (time_of_day p) b7 clock) refl

month_bound : (y m : ℕ) → days_in_month y m ≤ 31
month_bound y m =
    elim (m == 2) as (λ b.
    (if b then (if is_leap_year y then 29 else 28) else
    (if (m == 4) || (m == 6) || (m == 9) || (m == 11) then 30 else 31)) ≤ 31) [
      | true ↦
          elim (is_leap_year y) as (λ b. (if b then 29 else 28) ≤ 31) [
            | true ↦ lit≤ tt
            | false ↦ lit≤ tt
          ]
      | false ↦
          elim ((m == 4) || (m == 6) || (m == 9) || (m == 11)) as (λ b.
          (if b then 30 else 31) ≤ 31) [ true ↦ lit≤ tt | false ↦ lit≤ tt ]
    ]

under : (d n : ℕ) → d ≤ n → n ≤ 31 → d < 100
under d n h k = omega (arith, h, k)

pub date_value : (moment : ℕ) → moment ≤ 253402300799
    → list_all is_value_byte (http_date_text moment) ≡ true
unfolding http_date_text
date_value moment h =
    let v = parts_valid moment (omega arith) in
    date_good (parts_of moment)
    (under (parts_of moment).day _ v.0.2.1
    (month_bound (parts_of moment).year (parts_of moment).mon)) (omega (arith, v.0))
    (omega (arith, v.1)) (omega (arith, v.1)) (omega (arith, v.1))

-- ---- the lines of a document's reply

date_lines : (moment : ℕ) → moment ≤ 253402300799 → IsLines (date_line moment)
unfolding date_line is_token_byte
date_lines moment h =
    one_line (codes "Date") (http_date_text moment) refl (lit< tt) (date_value moment h)

origin_lines : (form : Form) → IsLines (origin_line form 200)
unfolding origin_line is_token_byte
origin_lines forms.None = no_lines
origin_lines forms.Activity = no_lines
origin_lines forms.Jrd =
    one_line (codes "Access-Control-Allow-Origin") (codes "*") refl (lit< tt) refl
origin_lines forms.Json = no_lines

media_lines : (form : Form) → IsLines (type_of form)
unfolding is_token_byte
media_lines forms.None = no_lines
media_lines forms.Activity =
    one_line (codes "Content-Type") (codes "application/activity+json") refl (lit< tt) refl
media_lines forms.Jrd =
    one_line (codes "Content-Type") (codes "application/jrd+json") refl (lit< tt) refl
media_lines forms.Json =
    one_line (codes "Content-Type") (codes "application/json") refl (lit< tt) refl

type_lines : (form : Form) (body : List ℕ) → IsLines (type_line form body)
unfolding type_line
type_lines form body =
    elim (length body == 0) as (λ b. IsLines (if b then [] else type_of form)) [
      | true ↦ no_lines
      | false ↦ media_lines form
    ]

length_lines : (body : List ℕ) → length body < 2 ^ 64 → IsLines (length_line body)
unfolding length_line is_token_byte
length_lines body small =
    one_line (codes "Content-Length") (decimal (length body)) refl (lit< tt)
    (weaker is_plain_byte is_value_byte (λ b k. grind (arith, nat_tests)) (decimal (length body))
    (decimal_plain (length body) small))

closing_lines : (closing : Bool) → IsLines (connection_line closing)
unfolding connection_line is_token_byte
closing_lines true = one_line (codes "Connection") (codes "close") refl (lit< tt) refl
closing_lines false = no_lines

challenge_none : challenge_line 200 ≡ []
unfolding challenge_line
challenge_none = refl

-- all lines after the first
abbrev lines_of : ℕ → Form → List ℕ → Bool → List ℕ
lines_of moment form body closing =
    date_line moment
    ++ (origin_line form 200
    ++ (type_line form body ++ (length_line body ++ connection_line closing)))

all_lines : (moment : ℕ) (form : Form) (body : List ℕ) (closing : Bool) → moment ≤ 253402300799
    → length body < 2 ^ 64 → IsLines (lines_of moment form body closing)
all_lines moment form body closing now small =
    joined (date_line moment) _ (date_lines moment now)
    (joined (origin_line form 200) _ (origin_lines form)
    (joined (type_line form body) _ (type_lines form body)
    (joined (length_line body) (connection_line closing) (length_lines body small)
    (closing_lines closing))))

-- a reply with a document
abbrev pub document_reply : Form → List ℕ → Reply
document_reply form body =
    record { status = 200; form = form; location = None; allow = None; body = body }

first_line : status_line 200 ≡ codes "HTTP/1.1 200 OK\r\n"
unfolding status_line reason_of digits
first_line = refl

reply_spelled : (moment : ℕ) (head_only closing : Bool) (form : Form) (body : List ℕ)
    → reply_text moment head_only closing (document_reply form body)
    ≡ codes "HTTP/1.1 200 OK\r\n"
    ++ (lines_of moment form body closing ++ (codes "\r\n" ++ body_text head_only body))
unfolding start_text kind_text content_text location_line allow_line
reply_spelled moment head_only closing form body =
    rw (first_line, challenge_none)
    (regroup (codes "HTTP/1.1 200 OK\r\n") (date_line moment) (origin_line form 200)
    (type_line form body) (length_line body) (connection_line closing) (codes "\r\n")
    (body_text head_only body))
  where
    regroup : (a d o t l c e b : List ℕ)
        → (a ++ (d ++ [])) ++ (([] ++ ([] ++ o)) ++ ((t ++ (l ++ c)) ++ (e ++ b)))
        ≡ a ++ ((d ++ (o ++ (t ++ (l ++ c)))) ++ (e ++ b))
    regroup a d o t l c e b = simp (append_assoc, append-nil)

head_of : List Field → ResponseHead
head_of fields =
    record {
      blank = [];
      minor = 1;
      digits = codes "200";
      reason = Some (codes "OK");
      line_end = crlf;
      fields = fields;
      last = crlf;
    }

pub body_read : (moment : ℕ) (head_only closing : Bool) (form : Form) (body rest : List ℕ)
    (status : ℕ) → moment ≤ 253402300799 → length body < 2 ^ 64
    → HasHead (reply_text moment head_only closing (document_reply form body)) status rest
    → rest ≡ body_text head_only body
unfolding head_of
body_read moment head_only closing form body rest status now small h =
    let l = all_lines moment form body closing now small in
    let text : List ℕ =
    codes "HTTP/1.1 200 OK\r\n"
    ++ (lines_of moment form body closing ++ (codes "\r\n" ++ body_text head_only body)) in
    let theirs : ReadsResponse text h.head rest =
    subst (λ (s : List ℕ). ReadsResponse s h.head rest)
    (reply_spelled moment head_only closing form body) h.reads in
    let mine : ReadsResponse text (head_of l.fields) (body_text head_only body) = (
      record {
        minor = lit≤ tt;
        digits = (refl, AllPass-from_list_all is_ascii_digit (codes "200") refl);
        reason = AllPass-from_list_all is_value_byte (codes "OK") refl;
        fields = l.good;
      },
      sym (print_response-append (head_of l.fields) (body_text head_only body)
          ∙ ap (λ (z : List ℕ). codes "HTTP/1.1 200 OK\r\n" ++ z)
          (append_assoc (flat_map print_field l.fields) (codes "\r\n") (body_text head_only body)
          ∙ ap (λ (z : List ℕ). z ++ (codes "\r\n" ++ body_text head_only body)) (sym l.spelled))),
    ) in
    (response_unique text h.head (head_of l.fields) rest (body_text head_only body) theirs mine).1
