-- The two requests of a delivery (ActivityPub, section 7.1) to the recipient's server: the lookup
-- of the recipient's actor document and the post to the inbox that the document names (RFC 9112,
-- sections 2 and 3). Lines end in CR LF. Each request shows by a code (RFC 2104) that its sender
-- has the key that the two servers share.
use Rattle.std.specs.Prelude.{ℕ, List, [], ◌++◌, length, codes, decimal}
use Rattle.hex.specs.Hex.{encode_lower}
use Rattle.fedi_address.specs.Iris.{host_of, target_of}
use Rattle.fedi_mac.specs.Hmac.{hmac}
use Rattle.fedi_mac.specs.Signing.{signed_text}

-- the digits of the code of a request under a key
unfoldable pub code_text : (key method target own body : List ℕ) → List ℕ
code_text key method target own body = encode_lower (hmac key (signed_text method target own body))

-- who sends the request, and the code
unfoldable pub sender_lines : (own code : List ℕ) → List ℕ
sender_lines own code =
    codes "Peer-Host: " ++ (own ++ (codes "\r\nPeer-Mac: " ++ (code ++ codes "\r\n")))

-- ---- the lookup

-- the request line and the host (RFC 9112, sections 3 and 3.2), and the media type that is accepted
-- (ActivityPub, section 3.2)
unfoldable pub lookup_lines : (target host : List ℕ) → List ℕ
lookup_lines target host =
    codes "GET " ++ (target ++ (codes " HTTP/1.1\r\nHost: " ++ (host
    ++ codes
    "\r\nAccept: application/ld+json; profile=\"https://www.w3.org/ns/activitystreams\"\r\n")))

-- the lookup of what is at this target of this host, by the server `own`
unfoldable pub lookup_request : (own key target host : List ℕ) → List ℕ
lookup_request own key target host =
    lookup_lines target host
    ++ (sender_lines own (code_text key (codes "GET") target own [])
    ++ codes "Connection: close\r\n\r\n")

-- the lookup of the recipient's actor document
abbrev pub lookup_text : (own key recipient : List ℕ) → List ℕ
lookup_text own key recipient = lookup_request own key (target_of recipient) (host_of recipient)

-- ---- the post

-- the request line and the host, and the media type of the body (ActivityPub, section 7)
unfoldable pub post_lines : (target host : List ℕ) → List ℕ
post_lines target host =
    codes "POST " ++ (target ++ (codes " HTTP/1.1\r\nHost: " ++ (host
    ++ codes "\r\nContent-Type: application/ld+json; profile=\"https://www.w3.org/ns/activitystreams\"\r\n")))

-- the length of the body (RFC 9110, section 8.6), the end of the head, and the body
unfoldable pub content_text : List ℕ → List ℕ
content_text body =
    codes "Content-Length: " ++ (decimal (length body)
    ++ (codes "\r\nConnection: close\r\n\r\n" ++ body))

-- the post of the body to this target of this host, by the server `own`
unfoldable pub post_request : (own key target host body : List ℕ) → List ℕ
post_request own key target host body =
    post_lines target host
    ++ (sender_lines own (code_text key (codes "POST") target own body) ++ content_text body)

-- the post of the body to the inbox
abbrev pub post_text : (own key inbox body : List ℕ) → List ℕ
post_text own key inbox body = post_request own key (target_of inbox) (host_of inbox) body
