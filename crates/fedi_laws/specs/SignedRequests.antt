-- A request that another server signs, and changed forms of it.
use Rattle.std.specs.Prelude.{◌≡◌, ℕ, true, false, List, [], ◌∷◌, replicate, codes, Option, Some}
use Rattle.std.specs.Prelude.{None, Ok, Err}
use Rattle.fedi_town.specs.declared.act.Peer.{Peer}
use Rattle.fedi_town.specs.declared.caller.Caller.TheVariants.{Nobody, Peer as ByPeer}
use Rattle.fedi_town.specs.declared.refusal.Refusal.TheVariants.{WrongKey, WrongMac}
use Rattle.fedi_town.specs.Towns.{Town, empty_town}
use Rattle.fedi_model.specs.declared.request.Coding.TheVariants.{Length}
use Rattle.fedi_model.specs.declared.request.Request.{Request}
use Rattle.fedi_model.specs.Answers.{caller_of}

-- the host of the other server
abbrev pub hill : List ℕ
hill = codes "hill.example"

-- what is known of it: the shared key is 32 times the byte 7
abbrev pub hill_peer : Peer
hill_peer =
    record { host = hill; key = replicate 32 7; address = codes "192.0.2.1:80"; relay = false }

-- a server with this peer only
abbrev pub club : Town
club = record empty_town { host = Some (codes "club.example"); peers = hill_peer ∷ [] }

-- a POST to an inbox with these fields `Authorization`, `Peer-Host` and `Peer-Mac`
abbrev pub delivery : Option (List ℕ) → Option (List ℕ) → Option (List ℕ) → Request
delivery key host code = record {
  method = codes "POST";
  target = codes "/users/ana/inbox";
  fields = record {
    authorization = key;
    peer_host = host;
    peer_mac = code;
    content_type = None;
    idempotency_key = None;
  };
  coding = Length 2;
  keep_alive = true;
  head_only = false;
}

-- the signed body
abbrev pub body : List ℕ
body = codes "{}"

-- the digits of the code
abbrev pub code : List ℕ
code = codes "3222b174c4abed0557dd53c5decfc0a93ffa9e43ad4cf0e14876d8db5784bed6"

-- the same with another last digit
abbrev pub changed_code : List ℕ
changed_code = codes "3222b174c4abed0557dd53c5decfc0a93ffa9e43ad4cf0e14876d8db5784bed0"

-- the same in upper case
abbrev pub upper_code : List ℕ
upper_code = codes "3222B174C4ABED0557DD53C5DECFC0A93FFA9E43AD4CF0E14876D8DB5784BED6"

-- the peer is the caller only of what it signed, and `Authorization` takes precedence
pub record SignedDelivery : Type 0 where
  pub signed : caller_of club (delivery None (Some hill) (Some code)) body ≡ Ok (ByPeer hill)
  pub changed : caller_of club (delivery None (Some hill) (Some changed_code)) body ≡ Err WrongMac
  pub in_upper_case :
      caller_of club (delivery None (Some hill) (Some upper_code)) body ≡ Err WrongMac
  pub of_another_body :
      caller_of club (delivery None (Some hill) (Some code)) (codes "[]") ≡ Err WrongMac
  pub of_a_stranger :
      caller_of club (delivery None (Some (codes "lake.example")) (Some code)) body ≡ Err WrongMac
  pub without_host : caller_of club (delivery None None (Some code)) body ≡ Err WrongMac
  pub without_code : caller_of club (delivery None (Some hill) None) body ≡ Err WrongMac
  pub without_fields : caller_of club (delivery None None None) body ≡ Ok Nobody
  pub with_key : caller_of club (delivery (Some (codes "Bearer x")) (Some hill) (Some code)) body
      ≡ Err WrongKey
