use Rattle.std.proofs.Common.{sym, ◌∙◌}
use Rattle.fedi_address.proofs.Urls.{web_url-Ok, web_url-other, web_url-Err}
use Rattle.fedi_address.proofs.iri.web_address.Goals as goal

pub returns-else-is_out_of_room-clause-not_iri : goal.returns-else-is_out_of_room-clause-not_iri
returns-else-is_out_of_room-clause-not_iri c _ =
    web_url-Err c.args.text.now c.in-Err.fault c.in-Err.ensures (sym c.is_out_of_room.ensures ∙ c.if-is_out_of_room.false)

pub returns-then-is_web-clause-ok : goal.returns-then-is_web-clause-ok
returns-then-is_web-clause-ok c =
    web_url-Ok c.args.text.now c.in-Ok.url c.in-Ok.ensures (sym c.is_web.ensures ∙ c.if-is_web.true)

pub returns-else-is_web-clause-not_iri : goal.returns-else-is_web-clause-not_iri
returns-else-is_web-clause-not_iri c _ =
    web_url-other c.args.text.now c.in-Ok.url c.in-Ok.ensures (sym c.is_web.ensures ∙ c.if-is_web.false)
