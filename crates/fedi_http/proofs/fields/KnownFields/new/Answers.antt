use Rattle.std.proofs.Common.{refl}
use Rattle.fedi_model.specs.Requests.{closes}
use Rattle.fedi_http.proofs.fields.KnownFields.new.Goals as goal

pub returns : goal.returns
unfolding closes
returns c = record {
  host = c.new.ensures;
  content_length = c.new-2.ensures;
  transfer_encoding = c.new-3.ensures;
  content_type = c.new-4.ensures;
  authorization = c.new-5.ensures;
  peer_host = c.new-6.ensures;
  peer_mac = c.new-7.ensures;
  idempotency_key = c.new-8.ensures;
  closing = refl;
}
