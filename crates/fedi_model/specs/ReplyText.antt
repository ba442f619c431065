-- The text of a reply (RFC 9112, section 4). Its lines end in CR LF.
use Rattle.std.specs.Prelude.{ℕ, Bool, true, false, ◌&&◌, ◌==◌, List, [], ◌++◌, length, codes}
use Rattle.std.specs.Prelude.{decimal, Option, Some, None, unwrap_or, if◌then◌else◌}
use Rattle.http.specs.StatusCode.{reason_phrase}
use Rattle.fedi_text.specs.Dates.{http_date_text}
use Rattle.fedi_model.specs.declared.ask.Allow.{Allow}
use Rattle.fedi_model.specs.declared.ask.Allow.TheVariants.{GetHead, GetHeadPost}
use Rattle.fedi_model.specs.declared.reply.Form.{Form}
use Rattle.fedi_model.specs.declared.reply.Form.TheVariants.{None as Formless, Activity, Jrd, Json}
use Rattle.fedi_model.specs.declared.reply.Reply.{Reply}

-- the reason of a status code (RFC 9110, section 15.1)
unfoldable pub reason_of : ℕ → List ℕ
reason_of status = unwrap_or (reason_phrase status) (codes "<unknown status code>")

-- the status line (RFC 9112, section 4)
unfoldable pub status_line : ℕ → List ℕ
status_line status =
    codes "HTTP/1.1 " ++ (decimal status ++ (codes " " ++ (reason_of status ++ codes "\r\n")))

-- when the reply was made (RFC 9110, section 6.6.1)
unfoldable pub date_line : ℕ → List ℕ
date_line moment = codes "Date: " ++ (http_date_text moment ++ codes "\r\n")

-- the address of what was created (RFC 9110, section 10.2.2)
unfoldable pub location_line : Option (List ℕ) → List ℕ
location_line None = []
location_line (Some iri) = codes "Location: " ++ (iri ++ codes "\r\n")

-- the methods of the path (RFC 9110, section 10.2.1)
unfoldable pub allow_line : Option Allow → List ℕ
allow_line None = []
allow_line (Some GetHead) = codes "Allow: GET, HEAD\r\n"
allow_line (Some GetHeadPost) = codes "Allow: GET, HEAD, POST\r\n"

-- the challenge of a reply that asks for a key (RFC 9110, section 11.6.1; RFC 6750, section 3)
unfoldable pub challenge_line : ℕ → List ℕ
challenge_line status = if status == 401 then codes "WWW-Authenticate: Bearer\r\n" else []

-- the body is a JRD (RFC 7033, section 4.4)
abbrev pub is_jrd : Form → Bool
is_jrd Formless = false
is_jrd Activity = false
is_jrd Jrd = true
is_jrd Json = false

-- a JRD may be read from any site (RFC 7033, section 5; Fetch Standard, section 3.3)
unfoldable pub origin_line : Form → ℕ → List ℕ
origin_line form status =
    if is_jrd form && status == 200 then codes "Access-Control-Allow-Origin: *\r\n" else []

-- the media type (RFC 9110, section 8.3)
abbrev pub type_of : Form → List ℕ
type_of Formless = []
type_of Activity = codes "Content-Type: application/activity+json\r\n"
type_of Jrd = codes "Content-Type: application/jrd+json\r\n"
type_of Json = codes "Content-Type: application/json\r\n"

-- the type is given if there is a body
unfoldable pub type_line : Form → List ℕ → List ℕ
type_line form body = if length body == 0 then [] else type_of form

-- the length of the body, even if the body is omitted (RFC 9110, section 8.6)
unfoldable pub length_line : List ℕ → List ℕ
length_line body = codes "Content-Length: " ++ (decimal (length body) ++ codes "\r\n")

-- the server closes the connection after this reply (RFC 9112, section 9.6)
unfoldable pub connection_line : Bool → List ℕ
connection_line closing = if closing then codes "Connection: close\r\n" else []

-- the reply to HEAD has no body (RFC 9110, section 9.3.2)
abbrev pub body_text : Bool → List ℕ → List ℕ
body_text head_only body = if head_only then [] else body

-- the first lines
unfoldable pub start_text : ℕ → Reply → List ℕ
start_text moment r = status_line r.status ++ (date_line moment ++ location_line r.location)

-- the lines that depend on the kind of reply
unfoldable pub kind_text : Reply → List ℕ
kind_text r = allow_line r.allow ++ (challenge_line r.status ++ origin_line r.form r.status)

-- the lines that depend on the body
unfoldable pub content_text : Bool → Reply → List ℕ
content_text closing r = type_line r.form r.body ++ (length_line r.body ++ connection_line closing)

-- the whole reply: its lines, an empty line and the body
abbrev pub reply_text : ℕ → Bool → Bool → Reply → List ℕ
reply_text moment head_only closing r =
    start_text moment r
    ++ (kind_text r
    ++ (content_text closing r
    ++ (codes "\r\n"
    ++ body_text head_only r.body)))

-- the reply of a server that is out of memory (RFC 4918, section 11.5); no part of it is computed
unfoldable pub memory_text : List ℕ
memory_text =
    codes "HTTP/1.1 507 Insufficient Storage\r\nContent-Length: 0\r\nConnection: close\r\n\r\n"
