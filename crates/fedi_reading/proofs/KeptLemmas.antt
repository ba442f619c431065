-- What holds of the parts of an object that was read.
use Rattle.std.proofs.Common.{◌≡◌, ℕ, ◌+◌, ◌≤◌, List, [], ◌∷◌, ◌++◌, length, length-append, Bool, true, false, cond, ◌||◌, nat_le, nat_lt, Option, Some, None, codes, bytes_eq, refl, ap, sym, subst, arith}
use Rattle.std.specs.Prelude.{Result, Ok, Err, option_map, not, is_some}
use Rattle.std.specs.Option.{option_map_or}
use Rattle.std.specs.List.{fold, filter_map, list_all, list_any, cons_option}
use Rattle.std.proofs.lemmas.Bool.{or_parts, ltb-false}
use Rattle.serde_json.specs.Data.{Data, Members}
use Rattle.serde_json.specs.Find.{as_object}
use Rattle.fedi_address.specs.Recipients.{all_of, add_new, distinct, is_among}
use Rattle.fedi_address.specs.declared.recipients.Recipients.{Recipients}
use Rattle.fedi_objects.specs.Limits.{is_type}
use Rattle.fedi_objects.specs.declared.activity.Activity.{Activity}
use Rattle.fedi_objects.specs.declared.object.Object.{Object}
use Rattle.fedi_objects.specs.declared.object.Tag.{Tag}
use Rattle.fedi_reading.specs.Faults.{is_long}
use Rattle.fedi_reading.specs.Properties.{formed, text_at, entries_at, has_context, type_of, makes_nothing, is_activity_type, made_type, reads_type, kept_text, reads_text}
use Rattle.fedi_reading.specs.Reading.{is_bad, recipient_of, reads_entries, reads_fields, reads_recipients, all_entries, is_crowded, reads_reply, reads_few, reads_both, reads_people, reads_words, url_of, iri_at, short_text, mention, is_mention, tag_of, tags_of, made, reads_object, wrapped, reads_posted}
use Rattle.fedi_reading.specs.Shapes.{◌>>=◌}
use Rattle.fedi_reading.specs.declared.shape_fault.ShapeFault.{ShapeFault}
use Rattle.fedi_reading.specs.declared.shape_fault.ShapeFault.TheVariants.{NotObject, BadContext, NoType, BadIri, TooManyRecipients, BadText}

-- ---- steps that found no fault

pub then_ok : {A B : Type 0} (r : Result A ShapeFault) (f : A → Result B ShapeFault) (y : B) → (r >>= f) ≡ Ok y → (x : A) × (r ≡ Ok x) × (f x ≡ Ok y)
then_ok (Ok x) f y h = (x, refl, h)
then_ok (Err e) f y h = absurd cc

pub test_ok : {A : Type 0} (b : Bool) (e : ShapeFault) (r : Result A ShapeFault) (y : A) → cond b (Err e) r ≡ Ok y → (b ≡ false) × (r ≡ Ok y)
test_ok true e r y h = absurd cc
test_ok false e r y h = (refl, h)

pub if_ok : {A : Type 0} (b : Bool) (e : ShapeFault) (x y : A) → cond b (Err e) (Ok x) ≡ Ok y → (b ≡ false) × (x ≡ y)
if_ok true e x y h = absurd cc
if_ok false e x y h = (refl, cc)

-- ---- texts of a form

-- what is kept has the form
pub formed_kept : (test : List ℕ → Bool) (found kept : Option (List ℕ)) → formed test found ≡ kept → option_map_or test kept true ≡ true
formed_kept test None kept h = rw (← h) refl
formed_kept test (Some text) kept h =
    rw (← h)
    (elim (test text) as (λ b. test text ≡ b → option_map_or test (cond b (Some text) None) true ≡ true) [ true ↦ λ k. k | false ↦ λ k. refl ] refl)

-- ---- the type

made_ok : (found : Option (List ℕ)) (kind : List ℕ) → made_type found ≡ Ok kind → (found ≡ Some kind) × (makes_nothing kind ≡ false)
made_ok None kind h = absurd cc
made_ok (Some text) kind h =
    let passed = if_ok (makes_nothing text) NoType text kind h in
    (ap Some passed.1, subst (λ (t : List ℕ). makes_nothing t ≡ false) passed.1 passed.0)

-- a type that is read has 1 to 64 bytes
pub typed_kept : (d : Data) (kind : List ℕ) → type_of d ≡ Some kind → is_type kind ≡ true
unfolding type_of
typed_kept d kind h = formed_kept is_type _ (Some kind) h

-- the type of an object to be created has 1 to 64 bytes, and is not that of deleted objects
pub type_kept : (d : Data) (kind : List ℕ) → reads_type d ≡ Ok kind → (is_type kind ≡ true) × (bytes_eq kind (codes "Tombstone") ≡ false)
unfolding reads_type makes_nothing
type_kept d kind h =
    let passed = made_ok (type_of d) kind h in
    (typed_kept d kind passed.0, (or_parts (is_activity_type kind) (bytes_eq kind (codes "Tombstone")) passed.1).1)

-- ---- texts

kept_short : (found kept : Option (List ℕ)) → kept_text found ≡ Ok kept → is_long kept ≡ false
kept_short None kept h = let same : None ≡ kept = cc in subst (λ (t : Option (List ℕ)). is_long t ≡ false) same refl
kept_short (Some text) kept h =
    let passed = if_ok (nat_lt 65536 (length text)) BadText (Some text) kept h in
    subst (λ (t : Option (List ℕ)). is_long t ≡ false) passed.1 passed.0

text_kept : (key : List ℕ) (d : Data) (kept : Option (List ℕ)) → reads_text key d ≡ Ok kept → is_long kept ≡ false
unfolding reads_text
text_kept key d kept h = kept_short (text_at key d) kept h

-- the texts that are read are not too long
pub words_kept : (d : Data) (words : Option (List ℕ) × Option (List ℕ) × Option (List ℕ)) → reads_words d ≡ Ok words
    → (is_long words.0 ≡ false) × (is_long words.1 ≡ false) × (is_long words.2 ≡ false)
unfolding reads_words
words_kept d words h =
    let content = then_ok (reads_text (codes "content") d) _ words h in
    let summary = then_ok (reads_text (codes "summary") d) _ words content.2 in
    let name = then_ok (reads_text (codes "name") d) _ words summary.2 in
    let whole : (content.0, summary.0, name.0) ≡ words = cc in
    subst (λ (w : Option (List ℕ) × Option (List ℕ) × Option (List ℕ)). (is_long w.0 ≡ false) × (is_long w.1 ≡ false) × (is_long w.2 ≡ false)) whole
    (text_kept (codes "content") d content.0 content.1, text_kept (codes "summary") d summary.0 summary.1, text_kept (codes "name") d name.0 name.1)

-- ---- recipients

-- the recipients that the entries of a field name, each once
abbrev pub named_by : List ℕ → Data → List (List ℕ)
named_by key d = distinct (filter_map recipient_of (entries_at key d))

-- each field has the recipients that its entries name
pub record AreNamed (d : Data) (r : Recipients) : Type 0 where
  pub to : r.to ≡ named_by (codes "to") d
  pub cc : r.cc ≡ named_by (codes "cc") d
  pub bto : r.bto ≡ named_by (codes "bto") d
  pub bcc : r.bcc ≡ named_by (codes "bcc") d
  pub audience : r.audience ≡ named_by (codes "audience") d

pub entries_named : (ds : List Data) (names : List (List ℕ)) → reads_entries ds ≡ Ok names → names ≡ distinct (filter_map recipient_of ds)
unfolding reads_entries
entries_named ds names h = sym (if_ok (list_any is_bad ds) BadIri (distinct (filter_map recipient_of ds)) names h).1

fields_named : (first second : List ℕ) (d : Data) (both : List (List ℕ) × List (List ℕ)) → reads_fields first second d ≡ Ok both
    → (both.0 ≡ named_by first d) × (both.1 ≡ named_by second d)
unfolding reads_fields
fields_named first second d both h =
    let one = then_ok (reads_entries (entries_at first d)) _ both h in
    let other = then_ok (reads_entries (entries_at second d)) _ both one.2 in
    let whole : (one.0, other.0) ≡ both = cc in
    subst (λ (b : List (List ℕ) × List (List ℕ)). (b.0 ≡ named_by first d) × (b.1 ≡ named_by second d)) whole
    (entries_named (entries_at first d) one.0 one.1, entries_named (entries_at second d) other.0 other.1)

pub recipients_named : (d : Data) (r : Recipients) → reads_recipients d ≡ Ok r → AreNamed d r
unfolding reads_recipients
recipients_named d r h =
    let told = then_ok (reads_fields (codes "to") (codes "cc") d) _ r h in
    let hidden = then_ok (reads_fields (codes "bto") (codes "bcc") d) _ r told.2 in
    let audience = then_ok (reads_entries (entries_at (codes "audience") d)) _ r hidden.2 in
    let whole : record { to = told.0.0; cc = told.0.1; bto = hidden.0.0; bcc = hidden.0.1; audience = audience.0 } ≡ r = cc in
    let first = fields_named (codes "to") (codes "cc") d told.0 told.1 in
    let second = fields_named (codes "bto") (codes "bcc") d hidden.0 hidden.1 in
    subst (λ (x : Recipients). AreNamed d x) whole (record {
      to = first.0;
      cc = first.1;
      bto = second.0;
      bcc = second.1;
      audience = entries_named (entries_at (codes "audience") d) audience.0 audience.1;
    })

length_filtered : {X Y : Type 0} (f : X → Option Y) (xs : List X) → length (filter_map f xs) ≤ length xs
length_filtered f [] = omega arith
length_filtered f (x ∷ xs) =
    let rest = length_filtered f xs in
    elim (f x) as (λ o. length (cons_option o (filter_map f xs)) ≤ length (x ∷ xs)) [ None ↦ omega arith | Some y ↦ omega arith ]

length_added : (kept : List (List ℕ)) (text : List ℕ) → length (add_new kept text) ≤ length kept + 1
length_added kept text =
    elim (is_among text kept) as (λ b. length (cond b kept (kept ++ text ∷ [])) ≤ length kept + 1)
    [ true ↦ omega arith | false ↦ simp length-append (omega arith) ]

length_folded : (kept texts : List (List ℕ)) → length (fold add_new kept texts) ≤ length kept + length texts
length_folded kept [] = omega arith
length_folded kept (text ∷ texts) =
    let here = length_added kept text in
    let rest = length_folded (add_new kept text) texts in
    omega arith

named_few : (key : List ℕ) (d : Data) → length (named_by key d) ≤ length (entries_at key d)
unfolding distinct
named_few key d =
    let texts : List (List ℕ) = filter_map recipient_of (entries_at key d) in
    let short = length_filtered recipient_of (entries_at key d) in
    let few = length_folded [] texts in
    omega arith

-- there are at most as many recipients as entries
named_total : (d : Data) (r : Recipients) → AreNamed d r → length (all_of r) ≤ length (all_entries d)
unfolding all_entries
named_total d r h =
    let to = named_few (codes "to") d in
    let copied = named_few (codes "cc") d in
    let bto = named_few (codes "bto") d in
    let bcc = named_few (codes "bcc") d in
    let audience = named_few (codes "audience") d in
    rw (h.to, h.cc, h.bto, h.bcc, h.audience) (simp length-append (omega arith))

-- the recipients are those that the entries name, at most this many
abbrev pub IsFew : ℕ → Data → Recipients → Type 0
IsFew most d r = AreNamed d r × (length (all_of r) ≤ most)

few_named : (most : ℕ) (d : Data) (r : Recipients) → reads_recipients d ≡ Ok r → is_crowded most d ≡ false → IsFew most d r
few_named most d r h few =
    let named = recipients_named d r h in
    let total = named_total d r named in
    let short = ltb-false most (length (all_entries d)) few in
    (named, omega arith)

pub few_kept : (most : ℕ) (d : Data) (r : Recipients) → reads_few most d ≡ Ok r → IsFew most d r
unfolding reads_few
few_kept most d r h =
    let found = then_ok (reads_recipients d) _ r h in
    let passed = if_ok (is_crowded most d) TooManyRecipients found.0 r found.2 in
    subst (λ (x : Recipients). IsFew most d x) passed.1 (few_named most d found.0 found.1 passed.0)

pub both_kept : (most : ℕ) (d o : Data) (both : Recipients × Recipients) → reads_both most d o ≡ Ok both → IsFew most d both.0 × IsFew most o both.1
unfolding reads_both
both_kept most d o both h =
    let one = then_ok (reads_recipients d) _ both h in
    let other = then_ok (reads_recipients o) _ both one.2 in
    let passed = if_ok (is_crowded most d || is_crowded most o) TooManyRecipients (one.0, other.0) both other.2 in
    let few = or_parts (is_crowded most d) (is_crowded most o) passed.0 in
    subst (λ (b : Recipients × Recipients). IsFew most d b.0 × IsFew most o b.1) passed.1
    (few_named most d one.0 one.1 few.0, few_named most o other.0 other.1 few.1)

-- the recipients that are read are those that the entries name, at most 500
pub people_kept : (d : Data) (people : Option (List ℕ) × Recipients) → reads_people d ≡ Ok people → IsFew 500 d people.1
unfolding reads_people
people_kept d people h =
    let reply = then_ok (reads_reply d) _ people h in
    let recipients = then_ok (reads_few 500 d) _ people reply.2 in
    let whole : (reply.0, recipients.0) ≡ people = cc in
    subst (λ (p : Option (List ℕ) × Recipients). IsFew 500 d p.1) whole (few_kept 500 d recipients.0 recipients.1)

-- ---- mentions

short_kept : (found : Option (List ℕ)) → nat_le (length (short_text found)) 65536 ≡ true
short_kept None = refl
short_kept (Some text) =
    elim (nat_le (length text) 65536) as (λ b. nat_le (length text) 65536 ≡ b → nat_le (length (cond b text [])) 65536 ≡ true)
    [ true ↦ λ h. h | false ↦ λ h. refl ] refl

mention_kept : (name : List ℕ) (href : Option (List ℕ)) (t : Tag) → option_map (mention name) href ≡ Some t → t.name ≡ name
mention_kept name None t h = absurd cc
mention_kept name (Some iri) t h = let same : mention name iri ≡ t = cc in sym (ap (λ (u : Tag). u.name) same)

if_found : {A : Type 0} (b : Bool) (o : Option A) (x : A) → cond b o None ≡ Some x → o ≡ Some x
if_found true o x h = h
if_found false o x h = absurd cc

tag_kept : (d : Data) (t : Tag) → tag_of d ≡ Some t → nat_le (length t.name) 65536 ≡ true
unfolding tag_of
tag_kept d t h =
    let name : List ℕ = short_text (text_at (codes "name") d) in
    let same = mention_kept name (iri_at (codes "href") d) t (if_found (is_mention d) _ t h) in
    rw same (short_kept (text_at (codes "name") d))

all_found : {X Y : Type 0} (f : X → Option Y) (p : Y → Bool) → ((x : X) (y : Y) → f x ≡ Some y → p y ≡ true) → (xs : List X) → list_all p (filter_map f xs) ≡ true
all_found f p h [] = refl
all_found f p h (x ∷ xs) =
    let rest = all_found f p h xs in
    elim (f x) as (λ o. f x ≡ o → list_all p (cons_option o (filter_map f xs)) ≡ true) [
      | None ↦ λ _. rest
      | Some y ↦ λ found. rw (h x y found, rest) refl
    ] refl

-- the names of mentions that are read are not too long
pub tags_kept : (d : Data) → list_all (λ t. nat_le (length t.name) 65536) (tags_of d) ≡ true
unfolding tags_of
tags_kept d = all_found tag_of (λ t. nat_le (length t.name) 65536) tag_kept (entries_at (codes "tag") d)

-- ---- the whole

-- the parts that make up an object
pub record IsMadeOf (d : Data) (o : Object) : Type 0 where
  pub kind : List ℕ
  pub people : Option (List ℕ) × Recipients
  pub words : Option (List ℕ) × Option (List ℕ) × Option (List ℕ)
  pub kind_read : reads_type d ≡ Ok kind
  pub people_read : reads_people d ≡ Ok people
  pub words_read : reads_words d ≡ Ok words
  pub whole : o ≡ made kind people words (url_of d, tags_of d)

pub object_parts : (d : Data) (o : Object) → reads_object d ≡ Ok o → IsMadeOf d o
unfolding reads_object
object_parts d o h =
    let kind = then_ok (reads_type d) _ o h in
    let people = then_ok (reads_people d) _ o kind.2 in
    let words = then_ok (reads_words d) _ o people.2 in
    record {
      kind = kind.0;
      people = people.0;
      words = words.0;
      kind_read = kind.1;
      people_read = people.1;
      words_read = words.1;
      whole = cc;
    }

posted_from : (members : Option Members) (b : Bool) (r : Result Object ShapeFault) (a : Activity)
    → cond (not (is_some members)) (Err NotObject) (cond (not b) (Err BadContext) (r >>= λ o. Ok (wrapped o))) ≡ Ok a
    → (o : Object) × (r ≡ Ok o) × (a ≡ wrapped o)
posted_from None b r a h = absurd cc
posted_from (Some ms) false r a h = absurd cc
posted_from (Some ms) true r a h =
    let found = then_ok r (λ o. Ok (wrapped o)) a h in
    (found.0, found.1, cc)

-- what is posted is the Create of an object that is read
pub posted_object : (d : Data) (a : Activity) → reads_posted d ≡ Ok a → (o : Object) × (reads_object d ≡ Ok o) × (a ≡ wrapped o)
unfolding reads_posted
posted_object d a h = posted_from (as_object d) (has_context d) (reads_object d) a h
