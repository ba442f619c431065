-- The requests of a demonstration: what eight members ask of their server, one after the other.
use Rattle.std.specs.Prelude.{
  ℕ,
  zero,
  suc,
  ◌+◌,
  ◌%◌,
  ◌==◌,
  nat_lt,
  List,
  [],
  ◌++◌,
  codes,
  decimal,
  length,
  replicate,
  Option,
  None,
  Some,
  if◌then◌else◌,
}
use Rattle.hex.specs.Hex.{encode_lower}
use Rattle.fedi_demo.specs.Draws.{after_four, four_drawn, state_after}
use Rattle.fedi_demo.specs.declared.draws.Four.{Four}

-- ---- the members: m0 to m7, each with a key of 32 bytes that are its number

-- the path of a member's id
abbrev pub member_path : ℕ → List ℕ
member_path member = codes "/users/m" ++ decimal member

-- the member's id
abbrev pub member_id : ℕ → List ℕ
member_id member = codes "https://town.example" ++ member_path member

-- a member's key in hexadecimal digits
unfoldable pub key_text : ℕ → List ℕ
key_text member = encode_lower (replicate 32 member)

-- ---- what is posted (Activity Streams 2.0 Vocabulary, section 3)

-- an activity of this type with this object
abbrev pub activity_body : List ℕ → List ℕ → List ℕ
activity_body kind object =
    codes "{\"type\":\"" ++ (kind ++ (codes "\",\"object\":\"" ++ (object ++ codes "\"}")))

-- the recipients of a note: the public, the caller's followers, another member in `bcc`, or an
-- actor of a peer
abbrev pub addressees : ℕ → ℕ → ℕ → List ℕ
addressees way caller other =
    if way == 0 then codes "\"to\":[\"Public\"]" else (
    if way == 1 then codes "\"to\":[\"" ++ (member_id caller ++ codes "/followers\"]") else (
    if way == 2 then codes "\"bcc\":[\"" ++ (member_id other ++ codes "\"]")
    else codes "\"cc\":[\"https://far.example/users/x\"]"))

-- the note of the request with this number
abbrev pub note_body : ℕ → ℕ → ℕ → ℕ → List ℕ
note_body number way caller other =
    codes "{\"type\":\"Note\",\"content\":\"note "
    ++ (decimal number ++ (codes "\"," ++ (addressees way caller other ++ codes "}")))

-- the member's object with this number
abbrev pub object_id : ℕ → ℕ → List ℕ
object_id member number = member_id member ++ (codes "/o/" ++ decimal number)

-- the member's activity with this number
abbrev pub activity_id : ℕ → ℕ → List ℕ
activity_id member number = member_id member ++ (codes "/a/" ++ decimal number)

-- a Block of the other member, once in eight times, or else an Undo of an activity of the caller
abbrev pub end_body : ℕ → ℕ → ℕ → List ℕ
end_body d caller other =
    if d % 8 == 0 then activity_body (codes "Block") (member_id other)
    else activity_body (codes "Undo") (activity_id caller (d % 40 + 1))

-- What is posted, by the drawn lot: a note, a Follow, a Like, an Announce, a Block or an Undo; or
-- nothing, if the outbox of the other member is read.
abbrev pub body_by : ℕ → ℕ → ℕ → ℕ → ℕ → Option (List ℕ)
body_by number lot d caller other =
    if nat_lt lot 4 then Some (note_body number (d % 4) caller other) else (
    if nat_lt lot 6 then Some (activity_body (codes "Follow") (member_id other)) else (
    if lot == 6 then Some (activity_body (codes "Like") (object_id other (d % 40 + 1))) else (
    if lot == 7 then Some (activity_body (codes "Announce") (object_id other (d % 40 + 1))) else (
    if lot == 8 then Some (end_body d caller other) else None))))

-- ---- requests (RFC 9112; RFC 6750, section 2.1)

-- what comes after the target of each request, up to the key
unfoldable pub before_key : List ℕ
before_key = codes " HTTP/1.1\r\nHost: town.example\r\nAuthorization: Bearer "

-- the fields that each request has
unfoldable pub common_fields : ℕ → List ℕ
common_fields caller = before_key ++ (key_text caller ++ codes "\r\n")

-- what comes before the length of a body
unfoldable pub before_length : List ℕ
before_length = codes "Content-Type: application/activity+json\r\nContent-Length: "

-- the method and the target of a request for the first page of the other member's outbox
unfoldable pub page_asked : ℕ → List ℕ
page_asked other = codes "GET " ++ (member_path other ++ codes "/outbox?page=0")

-- a request to read that page
abbrev pub reading : ℕ → ℕ → List ℕ
reading caller other = page_asked other ++ (common_fields caller ++ codes "\r\n")

-- what comes before the length of a post's body
unfoldable pub post_head : ℕ → List ℕ
post_head caller =
    codes "POST " ++ (member_path caller ++ (codes "/outbox" ++ common_fields caller))

-- a post to the caller's outbox
abbrev pub posting : ℕ → List ℕ → List ℕ
posting caller body =
    post_head caller
    ++ (before_length ++ (decimal (length body) ++ (codes "\r\n\r\n" ++ body)))

-- a request of the caller: a post with this body, or a read if there is no body
abbrev pub request_with : ℕ → ℕ → Option (List ℕ) → List ℕ
request_with caller other None = reading caller other
request_with caller other (Some body) = posting caller body

-- the request with this number, by the four numbers that are drawn for it
unfoldable pub request_text : ℕ → Four → List ℕ
request_text number four =
    request_with (four.a % 8) (four.b % 8)
    (body_by number (four.c % 10) four.d (four.a % 8) (four.b % 8))

-- this many requests from this number on, with four draws for each from this state on
abbrev pub requests_text : ℕ → ℕ → ℕ → List ℕ
requests_text state number zero = []
requests_text state number (suc count) =
    request_text number (four_drawn state) ++ requests_text (after_four state) (suc number) count

-- ---- the two connections of the demonstration with a number

-- the first thousand requests
unfoldable pub first_half : ℕ → List ℕ
first_half number = requests_text number 0 1000

-- the second thousand requests
unfoldable pub second_half : ℕ → List ℕ
second_half number = requests_text (state_after number 1000) 1000 1000
