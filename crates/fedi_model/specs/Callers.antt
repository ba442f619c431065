-- Who a caller is, according to the credentials of a request (RFC 6750, section 2.1, for bearer
-- keys; RFC 2104 for codes).
use Rattle.std.specs.Prelude.{ℕ, Bool, List, bytes_eq, Option, Some, None, Result, Ok, Err}
use Rattle.std.specs.Prelude.{if◌then◌else◌}
use Rattle.std.specs.List.{find}
use Rattle.sha2.specs.Sha256.{sha256}
use Rattle.fedi_mac.specs.Hmac.{hmac}
use Rattle.fedi_mac.specs.Signing.{signed_text}
use Rattle.fedi_town.specs.declared.refusal.Refusal.{Refusal}
use Rattle.fedi_town.specs.declared.refusal.Refusal.TheVariants.{WrongKey, WrongMac}
use Rattle.fedi_town.specs.declared.act.Actor.{Actor}
use Rattle.fedi_town.specs.declared.act.Peer.{Peer}
use Rattle.fedi_town.specs.declared.caller.Caller.{Caller}
use Rattle.fedi_town.specs.declared.caller.Caller.TheVariants as callers
use Rattle.fedi_model.specs.Credentials.{Shows, Nothing, Bearer, Mac, Signature}
use Rattle.fedi_town.specs.Towns.{Town, has_digest, has_host}

-- the member, or the refusal of a key that nobody has (RFC 6750, section 3.1)
abbrev pub member_or_refused : Option Actor → Result Caller Refusal
member_or_refused None = Err WrongKey
member_or_refused (Some a) = Ok (callers.Actor a.name)

-- the code is that of the request under the key
unfoldable pub is_signed : List ℕ → Signature → Bool
is_signed key s = bytes_eq (hmac key (signed_text s.method s.target s.host s.body)) s.mac

-- the peer, or the refusal of a request that no peer of its host signed with the key that it shares
-- with this server
abbrev pub peer_or_refused : Signature → Option Peer → Result Caller Refusal
peer_or_refused s None = Err WrongMac
peer_or_refused s (Some p) = if is_signed p.key s then Ok (callers.Peer p.host) else Err WrongMac

-- nobody without credentials, the member whose key has the digest of the bearer's key, or the peer
-- that signed the request, among these members and peers
unfoldable pub caller_among : List Actor → List Peer → Shows → Result Caller Refusal
caller_among actors peers Nothing = Ok callers.Nobody
caller_among actors peers (Bearer None) = Err WrongKey
caller_among actors peers (Bearer (Some key)) =
    member_or_refused (find (has_digest (sha256 key)) actors)
caller_among actors peers (Mac None) = Err WrongMac
caller_among actors peers (Mac (Some s)) = peer_or_refused s (find (has_host s.host) peers)

-- the caller, among the members and the peers of the town
unfoldable pub caller_by : Town → Shows → Result Caller Refusal
caller_by t s = caller_among t.actors t.peers s
