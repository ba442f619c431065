-- Reading the code of an entry from left to right, up to the first field that cannot be read. A
-- field is a number, a key, a text or one of the bytes that say what follows. If one cannot be
-- read, the result is how many bytes are left there.
use Rattle.std.specs.Prelude.{◌≡◌, ◌-◌, ◌==◌, ℕ, zero, suc, Bool, true, false, ◌&&◌, nat_lt, nat_le}
use Rattle.std.specs.Prelude.{if◌then◌else◌, List, [], ◌∷◌, length, take, drop, find, Option, Some}
use Rattle.std.specs.Prelude.{None, Result, Ok, Err}
use Rattle.std.specs.Int.{Width, byte_len, from_be_bytes, w16, w32, w64}
use Rattle.std.specs.Str.{is_utf8}
use Rattle.fedi_address.specs.declared.recipients.Recipients.{Recipients}
use Rattle.fedi_address.specs.Names.{is_name}
use Rattle.fedi_objects.specs.Keys.{is_repeat_key}
use Rattle.fedi_objects.specs.Kinds.{kind_number, kinds as all_kinds}
use Rattle.fedi_objects.specs.declared.activity.Activity.{Activity}
use Rattle.fedi_objects.specs.declared.activity.ObjectRef.{ObjectRef}
use Rattle.fedi_objects.specs.declared.activity.ObjectRef.TheVariants.{Nothing, Id, Whole, Changed}
use Rattle.fedi_objects.specs.declared.entry.Came.{Came}
use Rattle.fedi_objects.specs.declared.entry.Entry.{Entry}
use Rattle.fedi_objects.specs.declared.entry.Entry.TheVariants.{Hosted, Made, PeerSet, Local}
use Rattle.fedi_objects.specs.declared.entry.Entry.TheVariants.{Remote, Tried}
use Rattle.fedi_objects.specs.declared.entry.Sent.{Sent}
use Rattle.fedi_objects.specs.declared.entry.Sent.TheVariants.{Lookup, Post}
use Rattle.fedi_objects.specs.declared.entry.What.{What}
use Rattle.fedi_objects.specs.declared.entry.What.TheVariants.{Failed, NoHead, BadActor, Status}
use Rattle.fedi_objects.specs.declared.kind.Kind.{Kind}
use Rattle.fedi_objects.specs.declared.object.Change.{Change}
use Rattle.fedi_objects.specs.declared.object.Edit.{Edit}
use Rattle.fedi_objects.specs.declared.object.Edit.TheVariants.{Keep, Remove, Give}
use Rattle.fedi_objects.specs.declared.object.Object.{Object}
use Rattle.fedi_objects.specs.declared.object.Tag.{Tag}
use Rattle.fedi_objects.specs.Limits.{is_address, is_date, is_text, is_type}
use Rattle.fedi_entry.specs.Fields.{is_host, is_iri}
use Rattle.fedi_entry.specs.declared.fault.EntryFault.{EntryFault}
use Rattle.fedi_entry.specs.declared.fault.EntryFault.TheVariants as ends
use Rattle.fedi_entry.specs.declared.fault.ReadFault.{ReadFault}
use Rattle.fedi_entry.specs.declared.fault.ReadFault.TheVariants as faults
use Rattle.fedi_entry.specs.declared.read_objects.ActivityHead.{ActivityHead}
use Rattle.fedi_entry.specs.declared.read_objects.ActivityWords.{ActivityWords}
use Rattle.fedi_entry.specs.declared.read_objects.ChangedWords.{ChangedWords}
use Rattle.fedi_entry.specs.declared.read_objects.ObjectHead.{ObjectHead}
use Rattle.fedi_entry.specs.declared.read_objects.ObjectTimes.{ObjectTimes}
use Rattle.fedi_entry.specs.declared.read_objects.ObjectWords.{ObjectWords}
use Rattle.fedi_entry.specs.declared.read_objects.Words.{Words}

-- what is read at the front of bytes, and the bytes after it; or how many bytes are left at the
-- field that cannot be read
abbrev pub Read : Type 0 → Type 0
Read X = Result (X × List ℕ) ℕ

-- a function that reads
abbrev pub Reader : Type 0 → Type 0
Reader X = List ℕ → Read X

-- what is read next, unless reading stopped
infixl 10 ◌>>=◌
abbrev pub ◌>>=◌ : {A B : Type 0} → Result A ℕ → (A → Result B ℕ) → Result B ℕ
(Ok x) >>= f = f x
(Err left) >>= f = Err left

-- one after the other
infixr 20 ◌&◌
abbrev pub ◌&◌ : {A B : Type 0} → Reader A → Reader B → Reader (A × B)
(first & second) bytes = do
  a ← first bytes
  b ← second a.1
  Ok ((a.0, b.0), b.1)

-- a value made from what is read
abbrev pub made_of : {A B : Type 0} → (A → B) → Reader A → Reader B
made_of whole reader bytes = do
  parts ← reader bytes
  Ok (whole parts.0, parts.1)

-- ---- numbers, keys, texts

-- a number of this many bytes, the highest first
abbrev pub number_at : Width → Reader ℕ
number_at w bytes =
    if nat_lt (length bytes) (byte_len w) then Err (length bytes)
    else Ok (from_be_bytes w (take (byte_len w) bytes), drop (byte_len w) bytes)

-- this many bytes
abbrev pub bytes_at : ℕ → Reader (List ℕ)
bytes_at n bytes =
    if nat_lt (length bytes) n then Err (length bytes) else Ok (take n bytes, drop n bytes)

-- a length, and that many bytes
abbrev pub slice_at : Reader (List ℕ)
slice_at bytes = do
  len ← number_at w32 bytes
  if nat_lt (length len.1) len.0 then Err (length bytes)
      else Ok (take len.0 len.1, drop len.0 len.1)

-- a text in UTF-8
unfoldable pub utf8_at : Reader (List ℕ)
utf8_at bytes = do
  text ← slice_at bytes
  if is_utf8 text.0 then Ok text else Err (length bytes)

-- a text in UTF-8 that passes the test
unfoldable pub text_at : (List ℕ → Bool) → Reader (List ℕ)
text_at test bytes = do
  text ← utf8_at bytes
  if test text.0 then Ok text else Err (length bytes)

-- a moment up to the end of the year 9999
unfoldable pub moment_at : Reader ℕ
moment_at bytes = do
  seconds ← number_at w64 bytes
  if nat_le seconds.0 253402300799 then Ok seconds else Err (length bytes)

-- a status of 100 to 999
unfoldable pub status_at : Reader ℕ
status_at bytes = do
  status ← number_at w16 bytes
  if nat_le 100 status.0 && nat_le status.0 999 then Ok status else Err (length bytes)

-- a byte that says what follows
unfoldable pub byte_at : Reader ℕ
byte_at [] = Err 0
byte_at (b ∷ rest) = Ok (b, rest)

-- yes or no
unfoldable pub flag_at : Reader Bool
flag_at bytes = do
  b ← byte_at bytes
  if b.0 == 0 then Ok (false, b.1) else (
      if b.0 == 1 then Ok (true, b.1) else Err (length bytes))

-- ---- optional values, changes and lists

-- an optional value
unfoldable pub option_at : {X : Type 0} → Reader X → Reader (Option X)
option_at reader bytes = do
  there ← flag_at bytes
  if there.0 then made_of Some reader there.1 else Ok (None, there.1)

-- what is done to a property
unfoldable pub edit_at : {X : Type 0} → Reader X → Reader (Edit X)
edit_at reader bytes = do
  b ← byte_at bytes
  if b.0 == 0 then Ok (Keep, b.1) else (
      if b.0 == 1 then Ok (Remove, b.1) else (
      if b.0 == 2 then made_of Give reader b.1 else Err (length bytes)))

-- this many items
unfoldable pub items_at : {X : Type 0} → Reader X → ℕ → Reader (List X)
items_at reader zero bytes = Ok ([], bytes)
items_at reader (suc n) bytes = do
  first ← reader bytes
  others ← items_at reader n first.1
  Ok (first.0 ∷ others.0, others.1)

-- a list
unfoldable pub list_at : {X : Type 0} → Reader X → Reader (List X)
list_at reader bytes = do
  count ← number_at w32 bytes
  items_at reader count.0 count.1

-- ---- objects and activities

-- an IRI
abbrev pub iri_at : Reader (List ℕ)
iri_at = text_at is_iri

-- a content, a summary or a name
abbrev pub content_at : Reader (List ℕ)
content_at = text_at is_text

-- a date
abbrev pub date_at : Reader (List ℕ)
date_at = text_at is_date

-- a mention
unfoldable pub tag_at : Reader Tag
tag_at = made_of (λ p. record { href = p.0; name = p.1 }) (iri_at & content_at)

-- the five fields of recipients
unfoldable pub recipients_at : Reader Recipients
recipients_at =
    made_of
    (λ p. record { to = p.0; cc = p.1.0; bto = p.1.1.0; bcc = p.1.1.1.0; audience = p.1.1.1.1 })
    (list_at iri_at & list_at iri_at & list_at iri_at & list_at iri_at & list_at iri_at)

-- content, summary, name
unfoldable pub words_at : Reader Words
words_at =
    made_of (λ p. record { content = p.0; summary = p.1.0; name = p.1.1 })
    (option_at content_at & option_at content_at & option_at content_at)

-- the first part of an object
unfoldable pub object_head_at : Reader ObjectHead
object_head_at =
    made_of (λ p. record { id = p.0; kind = p.1.0; attributed_to = p.1.1 })
    (option_at iri_at & text_at is_type & option_at iri_at)

-- what an object says
unfoldable pub object_words_at : Reader ObjectWords
object_words_at =
    made_of (λ p. record { in_reply_to = p.0; words = p.1.0; url = p.1.1 })
    (option_at iri_at & words_at & option_at iri_at)

-- the former type of an object, and its times
unfoldable pub object_times_at : Reader ObjectTimes
object_times_at =
    made_of
    (λ p. record { published = p.0; updated = p.1.0; former_kind = p.1.1.0; deleted = p.1.1.1 })
    (option_at date_at & option_at date_at & option_at (text_at is_type) & option_at date_at)

-- the object with these parts
abbrev pub object_of : ObjectHead → Recipients → ObjectWords → ObjectTimes → List Tag → Object
object_of head recipients says times tags = record {
  id = head.id;
  kind = head.kind;
  attributed_to = head.attributed_to;
  recipients = recipients;
  in_reply_to = says.in_reply_to;
  content = says.words.content;
  summary = says.words.summary;
  name = says.words.name;
  url = says.url;
  published = times.published;
  updated = times.updated;
  former_kind = times.former_kind;
  deleted = times.deleted;
  tags = tags;
}

-- an object
unfoldable pub object_at : Reader Object
object_at =
    made_of (λ p. object_of p.0 p.1.0 p.1.1.0 p.1.1.1.0 p.1.1.1.1)
    (object_head_at & recipients_at & object_words_at & object_times_at & list_at tag_at)

-- what is done to content, summary, name
unfoldable pub changed_words_at : Reader ChangedWords
changed_words_at =
    made_of (λ p. record { content = p.0; summary = p.1.0; name = p.1.1 })
    (edit_at content_at & edit_at content_at & edit_at content_at)

-- the change with these parts
abbrev pub change_of : List ℕ → ChangedWords → Edit (List ℕ) → Edit (List ℕ)
    → Edit (List Tag) → Change
change_of id words url in_reply_to tags = record {
  id = id;
  content = words.content;
  summary = words.summary;
  name = words.name;
  url = url;
  in_reply_to = in_reply_to;
  tags = tags;
}

-- what is changed in an object
unfoldable pub change_at : Reader Change
change_at =
    made_of (λ p. change_of p.0 p.1.0 p.1.1.0 p.1.1.1.0 p.1.1.1.1)
    (iri_at & changed_words_at & edit_at iri_at & edit_at iri_at & edit_at (list_at tag_at))

-- what an activity is about
unfoldable pub object_ref_at : Reader ObjectRef
object_ref_at bytes = do
  b ← byte_at bytes
  if b.0 == 0 then Ok (Nothing, b.1) else (
      if b.0 == 1 then made_of Id iri_at b.1 else (
      if b.0 == 2 then made_of Whole object_at b.1 else (
      if b.0 == 3 then made_of Changed change_at b.1 else Err (length bytes))))

-- the type with this number
unfoldable pub kind_of : ℕ → Option Kind
kind_of number = find (λ kind. kind_number kind == number) all_kinds

-- the value, if there is one
abbrev pub some_or : {X : Type 0} → ℕ → Option X → Result X ℕ
some_or left None = Err left
some_or left (Some x) = Ok x

-- the type of an activity
unfoldable pub kind_at : Reader Kind
kind_at bytes = do
  number ← byte_at bytes
  kind ← some_or (length bytes) (kind_of number.0)
  Ok (kind, number.1)

-- the first part of an activity
unfoldable pub activity_head_at : Reader ActivityHead
activity_head_at =
    made_of (λ p. record { id = p.0; kind = p.1.0; actor = p.1.1 })
    (option_at iri_at & kind_at & option_at iri_at)

-- what an activity says
unfoldable pub activity_words_at : Reader ActivityWords
activity_words_at =
    made_of (λ p. record { in_reply_to = p.0; words = p.1.0; published = p.1.1.0; tags = p.1.1.1 })
    (option_at iri_at & words_at & option_at date_at & list_at tag_at)

-- the activity with these parts
abbrev pub activity_of : ActivityHead → ObjectRef → Option (List ℕ) → Recipients
    → ActivityWords → Activity
activity_of head object target recipients says = record {
  id = head.id;
  kind = head.kind;
  actor = head.actor;
  object = object;
  target = target;
  recipients = recipients;
  in_reply_to = says.in_reply_to;
  content = says.words.content;
  summary = says.words.summary;
  name = says.words.name;
  published = says.published;
  tags = says.tags;
}

-- an activity
unfoldable pub activity_at : Reader Activity
activity_at =
    made_of (λ p. activity_of p.0 p.1.0 p.1.1.0 p.1.1.1.0 p.1.1.1.1)
    (activity_head_at & object_ref_at & option_at iri_at & recipients_at & activity_words_at)

-- ---- entries

-- a key for repeats, and the digest of what was posted under it
abbrev pub repeat_at : Reader (List ℕ × List ℕ)
repeat_at = text_at is_repeat_key & bytes_at 32

-- the request of a delivery at which something happened
unfoldable pub sent_at : Reader Sent
sent_at bytes = do
  b ← byte_at bytes
  if b.0 == 0 then Ok (Lookup, b.1) else (
      if b.0 == 1 then Ok (Post, b.1) else Err (length bytes))

-- it is a lookup
abbrev pub is_lookup : Sent → Bool
is_lookup Lookup = true
is_lookup Post = false

-- the result of a lookup or a post
unfoldable pub what_at : Sent → Reader What
what_at step bytes = do
  b ← byte_at bytes
  if b.0 == 0 then Ok (Failed, b.1) else (
      if b.0 == 1 then Ok (NoHead, b.1) else (
      if b.0 == 2 && is_lookup step then Ok (BadActor, b.1) else (
      if b.0 == 3 then made_of Status status_at b.1 else Err (length bytes))))

-- the result of an attempt to deliver
unfoldable pub came_at : Reader Came
came_at bytes = do
  step ← sent_at bytes
  what ← what_at step.0 step.1
  Ok (record { step = step.0; what = what.0 }, what.1)

-- the server was set up
unfoldable pub hosted_at : Reader Entry
hosted_at = made_of (λ p. Hosted p.0 p.1) (text_at is_host & moment_at)

-- a member was created
unfoldable pub made_at : Reader Entry
made_at =
    made_of (λ p. Made p.0 p.1.0 p.1.1.0 p.1.1.1)
    (text_at is_name & bytes_at 32 & flag_at & moment_at)

-- another server became a peer
unfoldable pub peer_set_at : Reader Entry
peer_set_at =
    made_of (λ p. PeerSet p.0 p.1.0 p.1.1.0 p.1.1.1.0 p.1.1.1.1)
    (text_at is_host & bytes_at 32 & text_at is_address & flag_at & moment_at)

-- a member's post
unfoldable pub local_at : Reader Entry
local_at =
    made_of (λ p. Local p.0 p.1.0 p.1.1.0 p.1.1.1)
    (text_at is_name & option_at repeat_at & activity_at & moment_at)

-- a peer's delivery
unfoldable pub remote_at : Reader Entry
remote_at =
    made_of (λ p. Remote p.0 p.1.0 p.1.1.0 p.1.1.1)
    (text_at is_host & text_at is_name & activity_at & moment_at)

-- an attempt to deliver
unfoldable pub tried_at : Reader Entry
tried_at = made_of (λ p. Tried p.0 p.1.0 p.1.1.0 p.1.1.1) (iri_at & iri_at & came_at & moment_at)

-- an entry: its kind, and its fields
unfoldable pub entry_at : Reader Entry
entry_at bytes = do
  b ← byte_at bytes
  if b.0 == 1 then hosted_at b.1 else (
      if b.0 == 2 then made_at b.1 else (
      if b.0 == 3 then peer_set_at b.1 else (
      if b.0 == 4 then local_at b.1 else (
      if b.0 == 5 then remote_at b.1 else (
      if b.0 == 6 then tried_at b.1 else Err (length bytes))))))

-- what was read, if nothing is left
abbrev pub ended : {X : Type 0} → X × List ℕ → Result X ℕ
ended read = if length read.1 == 0 then Ok read.0 else Err (length read.1)

-- an entry that nothing follows
unfoldable pub last_at : List ℕ → Result Entry ℕ
last_at bytes = entry_at bytes >>= ended

-- the offset, among this many bytes, of a field that cannot be read
abbrev pub placed : {X : Type 0} → ℕ → Result X ℕ → Result X ℕ
placed len (Ok x) = Ok x
placed len (Err left) = Err (len - left)

-- the entry of these bytes; or the offset of the first field that cannot be read, or of the entry's
-- end if bytes follow it
unfoldable pub read_entry : List ℕ → Result Entry ℕ
read_entry bytes = placed (length bytes) (last_at bytes)

-- ---- what a function that reads returns

-- it stopped where the definition stops, unless it ran out of memory
abbrev pub Fails : {Y : Type 0} → ReadFault → Result Y ℕ → Type 0
Fails faults.Memory read = Unit {0}
Fails (faults.BadField left) read = read ≡ Err left

-- it returned what the definition reads, and left the same bytes
abbrev pub Takes : {X : Type 0} → Result X ReadFault → List ℕ → Read X → Type 0
Takes (Ok x) rest read = read ≡ Ok (x, rest)
Takes (Err fault) rest read = Fails fault read

-- the same, with the value seen through this view
abbrev pub TakesAs : {X Y : Type 0} → (X → Y) → Result X ReadFault → List ℕ → Read Y → Type 0
TakesAs view (Ok x) rest read = read ≡ Ok (view x, rest)
TakesAs view (Err fault) rest read = Fails fault read

-- it returned what the definition reads, or stopped where the definition stops, unless it ran out
-- of memory
abbrev pub Ends : {X : Type 0} → Result X ReadFault → Result X ℕ → Type 0
Ends (Ok x) read = read ≡ Ok x
Ends (Err fault) read = Fails fault read

-- it returned the entry that the definition reads, or the offset where the definition stops, unless
-- it ran out of memory
abbrev pub Gives : Result Entry EntryFault → Result Entry ℕ → Type 0
Gives (Ok entry) read = read ≡ Ok entry
Gives (Err (ends.BadEntry place)) read = read ≡ Err place
Gives (Err ends.Memory) read = Unit {0}
