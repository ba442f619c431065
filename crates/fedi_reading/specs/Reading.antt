-- What is read of an object that a client posts (ActivityStreams 2.0 Vocabulary, section 4;
-- ActivityPub, sections 5.6 and 6.2).
use Rattle.std.specs.Prelude.{◌≡◌, ◌≢◌, ℕ, List, [], ◌++◌, length, fold, Bool, true, false, not}
use Rattle.std.specs.Prelude.{◌&&◌, ◌||◌, nat_le, nat_lt, Option, Some, None, is_some, is_none}
use Rattle.std.specs.Prelude.{option_and_then, option_map, if◌then◌else◌, codes, bytes_eq, Result}
use Rattle.std.specs.Prelude.{Ok, Err}
use Rattle.std.specs.Option.{option_map_or}
use Rattle.std.specs.List.{list_any, filter_map}
use Rattle.serde_json.specs.Data.{Data}
use Rattle.serde_json.specs.Find.{as_object}
use Rattle.fedi_address.specs.Iris.{public_iri}
use Rattle.fedi_address.specs.Recipients.{add_new, distinct}
use Rattle.fedi_address.specs.declared.recipients.Recipients.{Recipients}
use Rattle.fedi_reading.specs.Properties.{text_at, entries_at, named, reference_at, has_context}
use Rattle.fedi_reading.specs.Properties.{reads_type, reads_text, iri}
use Rattle.fedi_reading.specs.Shapes.{◌>>=◌}
use Rattle.fedi_objects.specs.declared.object.Tag.{Tag}
use Rattle.fedi_objects.specs.declared.object.Object.{Object}
use Rattle.fedi_objects.specs.declared.activity.Activity.{Activity}
use Rattle.fedi_objects.specs.Objects.{creation}
use Rattle.fedi_reading.specs.declared.shape_fault.ShapeFault.{ShapeFault}
use Rattle.fedi_reading.specs.declared.shape_fault.ShapeFault.TheVariants.{NotObject, BadContext}
use Rattle.fedi_reading.specs.declared.shape_fault.ShapeFault.TheVariants.{BadIri}
use Rattle.fedi_reading.specs.declared.shape_fault.ShapeFault.TheVariants.{TooManyRecipients}
use Rattle.fedi_reading.specs.declared.shape_fault.ShapeFault.TheVariants.{Memory}

-- the short names of the collection of everyone (ActivityPub, section 5.6)
unfoldable pub is_everyone : List ℕ → Bool
is_everyone text = bytes_eq text (codes "Public") || bytes_eq text (codes "as:Public")

-- the recipient that a text names
unfoldable pub recipient : List ℕ → Option (List ℕ)
recipient text = if is_everyone text then Some public_iri else iri text

-- the recipient that an entry names
unfoldable pub recipient_of : Data → Option (List ℕ)
recipient_of d = option_and_then recipient (named d)

-- the entry names something, but by an invalid address
unfoldable pub is_bad : Data → Bool
is_bad d = is_some (named d) && is_none (recipient_of d)

-- an entry, which is bad, names a recipient or is skipped
unfoldable pub reads_entry : Data → Result (Option (List ℕ)) ShapeFault
reads_entry d = if is_bad d then Err BadIri else Ok (recipient_of d)

-- the list, with each recipient that the entries name and that is not in it yet
abbrev pub add_all : List (List ℕ) → List Data → List (List ℕ)
add_all kept ds = fold add_new kept (filter_map recipient_of ds)

-- a field of recipients, by its entries (ActivityPub, section 6; Vocabulary, section 4)
unfoldable pub reads_entries : List Data → Result (List (List ℕ)) ShapeFault
reads_entries ds =
    if list_any is_bad ds then Err BadIri else Ok (distinct (filter_map recipient_of ds))

-- two fields of recipients
unfoldable pub reads_fields : List ℕ → List ℕ → Data
    → Result (List (List ℕ) × List (List ℕ)) ShapeFault
reads_fields first second d = do
  a ← reads_entries (entries_at first d)
  b ← reads_entries (entries_at second d)
  Ok (a, b)

-- all entries of the five fields of recipients, as they are written
unfoldable pub all_entries : Data → List Data
all_entries d =
    entries_at (codes "to") d ++ (entries_at (codes "cc") d ++ (entries_at (codes "bto") d
    ++ (entries_at (codes "bcc") d ++ entries_at (codes "audience") d)))

-- the five fields of recipients
unfoldable pub reads_recipients : Data → Result Recipients ShapeFault
reads_recipients d = do
  told ← reads_fields (codes "to") (codes "cc") d
  hidden ← reads_fields (codes "bto") (codes "bcc") d
  audience ← reads_entries (entries_at (codes "audience") d)
  Ok (record { to = told.0; cc = told.1; bto = hidden.0; bcc = hidden.1; audience = audience })

-- no entry is bad, or one is, or memory ran out
abbrev pub Checks : Result (Unit {0}) ShapeFault → List Data → Type 0
Checks (Ok done) ds = list_any is_bad ds ≡ false
Checks (Err e) ds = e ≢ Memory → (e ≡ BadIri) × (list_any is_bad ds ≡ true)

-- a text that is present must be an address
abbrev pub reads_iri : Option (List ℕ) → Result (Option (List ℕ)) ShapeFault
reads_iri None = Ok None
reads_iri (Some text) = if is_some (iri text) then Ok (iri text) else Err BadIri

-- what an object replies to (Vocabulary, section 4)
unfoldable pub reads_reply : Data → Result (Option (List ℕ)) ShapeFault
reads_reply d = reads_iri (reference_at (codes "inReplyTo") d)

-- more entries than this many, as they are written
abbrev pub is_crowded : ℕ → Data → Bool
is_crowded most d = nat_lt most (length (all_entries d))

-- the five fields of recipients, which have at most this many entries
unfoldable pub reads_few : ℕ → Data → Result Recipients ShapeFault
reads_few most d = do
  recipients ← reads_recipients d
  if is_crowded most d then Err TooManyRecipients else Ok recipients

-- the recipients of an activity and those of its object, each with at most this many entries
unfoldable pub reads_both : ℕ → Data → Data → Result (Recipients × Recipients) ShapeFault
reads_both most d o = do
  recipients ← reads_recipients d
  others ← reads_recipients o
  if is_crowded most d || is_crowded most o then Err TooManyRecipients else Ok (recipients, others)

-- what an object replies to, and its recipients
unfoldable pub reads_people : Data → Result (Option (List ℕ) × Recipients) ShapeFault
reads_people d = do
  in_reply_to ← reads_reply d
  recipients ← reads_few 500 d
  Ok (in_reply_to, recipients)

-- the content, the summary and the name (Vocabulary, section 4; Core, section 4.7)
unfoldable pub reads_words : Data
    → Result (Option (List ℕ) × Option (List ℕ) × Option (List ℕ)) ShapeFault
reads_words d = do
  content ← reads_text (codes "content") d
  summary ← reads_text (codes "summary") d
  name ← reads_text (codes "name") d
  Ok (content, summary, name)

-- the address that a property holds; what is not an address is skipped
abbrev pub iri_at : List ℕ → Data → Option (List ℕ)
iri_at key d = option_and_then iri (text_at key d)

-- where an object can be seen in another form (Vocabulary, section 4)
unfoldable pub url_of : Data → Option (List ℕ)
url_of d = iri_at (codes "url") d

-- a text that is not too long, otherwise the empty text
abbrev pub short_text : Option (List ℕ) → List ℕ
short_text None = []
short_text (Some text) = if nat_le (length text) 65536 then text else []

-- a mention of this name and address
abbrev pub mention : List ℕ → List ℕ → Tag
mention name href = record { href = href; name = name }

-- the type of a tag is that of a mention (Vocabulary, section 5.5)
abbrev pub is_mention : Data → Bool
is_mention d =
    option_map_or (λ text. bytes_eq text (codes "Mention")) (text_at (codes "type") d) false

-- a mention with an address; every other tag is skipped
unfoldable pub tag_of : Data → Option Tag
tag_of d =
    if is_mention d
    then option_map (mention (short_text (text_at (codes "name") d))) (iri_at (codes "href") d)
    else None

-- the mentions of an object
unfoldable pub tags_of : Data → List Tag
tags_of d = filter_map tag_of (entries_at (codes "tag") d)

-- An object that a client posts, with its type, what it replies to, its recipients, its content,
-- summary and name, its url and its mentions: the server sets its `id`, its author and its times
-- (ActivityPub, section 6).
abbrev pub made : List ℕ → Option (List ℕ) × Recipients
    → Option (List ℕ) × Option (List ℕ) × Option (List ℕ) → Option (List ℕ) × List Tag → Object
made kind people words links = record {
  id = None;
  kind = kind;
  attributed_to = None;
  recipients = people.1;
  in_reply_to = people.0;
  content = words.0;
  summary = words.1;
  name = words.2;
  url = links.0;
  published = None;
  updated = None;
  former_kind = None;
  deleted = None;
  tags = links.1;
}

-- an object that a client posts; the first part at fault determines the fault
unfoldable pub reads_object : Data → Result Object ShapeFault
reads_object d = do
  kind ← reads_type d
  people ← reads_people d
  words ← reads_words d
  Ok (made kind people words (url_of d, tags_of d))

-- the Create that wraps an object alone, for the same recipients (ActivityPub, section 6.2.1)
abbrev pub wrapped : Object → Activity
wrapped o = creation o

-- What a client posts, read as an activity: the first fault in the order of the fault numbers, or
-- the Create.
unfoldable pub reads_posted : Data → Result Activity ShapeFault
reads_posted d =
    if not (is_some (as_object d)) then Err NotObject else (
    if not (has_context d) then Err BadContext else (
    reads_object d >>= λ o. Ok (wrapped o)))
