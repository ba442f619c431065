use Rattle.std.proofs.Common.{Bool, ap, sym, ◌∙◌}
use Rattle.std.specs.Prelude.{◌||◌, ◌&&◌}
use Rattle.fedi_model.specs.Requests.{field_of, is_closing, lists_close}
use Rattle.fedi_http.proofs.FieldLemmas.{closing-step}
use Rattle.fedi_http.proofs.fields.KnownFields.with.Goals as goal
use Rattle.fedi_http.proofs.fields.KnownFields.with.Goals.{then-self, else-self+then-is_same_name, else-self+else-is_same_name}

pub returns : goal.returns
returns c fields known = record {
  host = c.with.ensures fields known.host;
  content_length = c.with-2.ensures fields known.content_length;
  transfer_encoding = c.with-3.ensures fields known.transfer_encoding;
  content_type = c.with-4.ensures fields known.content_type;
  authorization = c.with-5.ensures fields known.authorization;
  peer_host = c.with-6.ensures fields known.peer_host;
  peer_mac = c.with-7.ensures fields known.peer_mac;
  idempotency_key = c.with-8.ensures fields known.idempotency_key;
  closing =
      let field = field_of (c.args.name.now, c.args.value.now) in
      closing-step fields field c.args.self.closes c.if-self.closes known.closing
      (elim c.if-self.branch [
        | then-self w ↦ w.closes-is ∙ w.if-self.true ∙ sym (ap (λ (b : Bool). b || is_closing field) w.if-self.true)
        | else-self+then-is_same_name w ↦ w.closes-is ∙ w.lists_close.ensures
            ∙ sym (ap (λ (b : Bool). b || is_closing field) w.if-self.false
            ∙ ap (λ (b : Bool). b && lists_close c.args.value.now) (sym w.is_same_name.ensures ∙ w.if-is_same_name.true))
        | else-self+else-is_same_name w ↦ w.closes-is ∙ w.if-is_same_name.false
            ∙ sym (ap (λ (b : Bool). b || is_closing field) w.if-self.false
            ∙ ap (λ (b : Bool). b && lists_close c.args.value.now) (sym w.is_same_name.ensures ∙ w.if-is_same_name.false))
      ]);
}
