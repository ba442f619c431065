-- What this server sends to deliver an activity to a recipient at a peer (ActivityPub, section
-- 7.1).
use Rattle.std.specs.Prelude.{◌≡◌, ℕ, List, Option, Some, None, option_map}
use Rattle.std.specs.List.{find}
use Rattle.fedi_address.specs.Iris.{host_of}
use Rattle.fedi_model.specs.Cleanness.{IsCleanBody}
use Rattle.fedi_model.specs.Reading.{activity_document}
use Rattle.fedi_model.specs.Replies.{reply_of}
use Rattle.fedi_town.specs.declared.act.Act.{Act}
use Rattle.fedi_town.specs.declared.act.Peer.{Peer}
use Rattle.fedi_town.specs.Towns.{Town, has_host}
use Rattle.fedi_delivery.specs.declared.sending.Outgoing.{Outgoing}
use Rattle.fedi_delivery.specs.Sending.{lookup_text, post_text}

-- the peer that the recipient belongs to
unfoldable pub peer_for : Town → List ℕ → Option Peer
peer_for t recipient = find (has_host (host_of recipient)) t.peers

-- the address of the peer
abbrev pub address_to : Town → List ℕ → Option (List ℕ)
address_to t recipient = option_map (λ p. p.address) (peer_for t recipient)

-- the lookup of the recipient, by this host and to this peer, if there are both
abbrev pub lookup_by : Option (List ℕ) → Option Peer → List ℕ → Option (List ℕ)
lookup_by None p recipient = None
lookup_by (Some own) None recipient = None
lookup_by (Some own) (Some p) recipient = Some (lookup_text own p.key recipient)

-- the lookup of the recipient
abbrev pub lookup_to : Town → List ℕ → Option (List ℕ)
lookup_to t recipient = lookup_by t.host (peer_for t recipient) recipient

-- the post to the inbox, by this host and to this peer, if there are both
abbrev pub post_by : Option (List ℕ) → Option Peer → List ℕ → List ℕ → Option (List ℕ)
post_by None p inbox body = None
post_by (Some own) None inbox body = None
post_by (Some own) (Some p) inbox body = Some (post_text own p.key inbox body)

-- the post of the body to the inbox, for the recipient
abbrev pub post_to : Town → (recipient inbox body : List ℕ) → Option (List ℕ)
post_to t recipient inbox body = post_by t.host (peer_for t recipient) inbox body

-- the body of the post: the document that a reader of the activity gets as the reply
unfoldable pub body_of : Town → Act → List ℕ
body_of t x = (reply_of (activity_document t x)).body

-- what is sent to deliver the activity to the recipient, except for the post
pub record IsOutgoing (t : Town) (x : Act) (recipient : List ℕ) (o : Outgoing) : Type 0 where
  pub address : address_to t recipient ≡ Some o.address
  pub lookup : lookup_to t recipient ≡ Some o.lookup.items
  pub body : o.body.items ≡ body_of t x

-- No posted body names anybody that `bto` and `bcc` hide (ActivityPub, section 6).
abbrev pub BodiesAreClean : Type 0
BodiesAreClean = (t : Town) (x : Act) → IsCleanBody (body_of t x)
