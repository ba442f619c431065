-- The replies to refused requests (RFC 9110, sections 15.5 and 15.6).
use Rattle.std.specs.Prelude.{ℕ, List, ◌++◌, codes, None}
use Rattle.fedi_reading.specs.declared.shape_fault.ShapeFault.{ShapeFault}
use Rattle.fedi_reading.specs.Shapes.{fault_name}
use Rattle.fedi_model.specs.declared.reply.Form.TheVariants as forms
use Rattle.fedi_town.specs.declared.refusal.Refusal.{Refusal}
use Rattle.fedi_model.specs.declared.reply.Reply.{Reply}
use Rattle.fedi_model.specs.Refusals.{refusal_body, status_of}

-- a reply that says in JSON what is wrong
abbrev pub text_reply : ℕ → List ℕ → Reply
text_reply status body =
    record { status = status; form = forms.Json; location = None; allow = None; body = body }

-- the reply to a refused request
abbrev pub refused : Refusal → Reply
refused r = text_reply (status_of r) (refusal_body r)

-- the body that names a fault of shape
abbrev pub fault_body : ShapeFault → List ℕ
fault_body fault = codes "{\"error\":\"BadShape\",\"fault\":\"" ++ (fault_name fault ++ codes "\"}")

-- the reply to a post of the wrong shape (RFC 9110, section 15.5.21)
abbrev pub misshapen : ShapeFault → Reply
misshapen fault = text_reply 422 (fault_body fault)
