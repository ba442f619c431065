-- The reply to an ask: each answer as HTTP (RFC 9110, section 15).
use Rattle.std.specs.Prelude.{◌≡◌, ℕ, List, [], Option, Some, None}
use Rattle.serde_json.specs.Data.{Data}
use Rattle.serde_json.specs.Written.{compact_text}
use Rattle.fedi_model.specs.declared.ask.Allow.{Allow}
use Rattle.fedi_model.specs.declared.ask.Ask.{Ask}
use Rattle.fedi_model.specs.AnswerKinds.{Answer, Refuse, Misshape, Disallow, Document, Profile}
use Rattle.fedi_model.specs.AnswerKinds.{Tombstone, Created, Accepted}
use Rattle.fedi_model.specs.Asks.{answer_of}
use Rattle.fedi_objects.specs.declared.entry.Entry.{Entry}
use Rattle.fedi_town.specs.declared.caller.Caller.{Caller}
use Rattle.fedi_town.specs.declared.refusal.Refusal.TheVariants.{WrongMethod}
use Rattle.fedi_town.specs.Agreement.{Agree}
use Rattle.fedi_town.specs.Histories.{town}
use Rattle.fedi_town.specs.Legal.{IsLegal}
use Rattle.fedi_town.specs.Towns.{Town}
use Rattle.fedi_model.specs.declared.reply.Form.{Form}
use Rattle.fedi_model.specs.declared.reply.Form.TheVariants as forms
use Rattle.fedi_model.specs.declared.reply.Reply.{Reply}
use Rattle.fedi_model.specs.Refusing.{refused, misshapen}

-- the path has only these methods (RFC 9110, sections 10.2.1 and 15.5.6)
abbrev pub disallowed : Allow → Reply
disallowed allow = record (refused WrongMethod) { allow = Some allow }

-- a document of this media type, with this status
abbrev pub showing : ℕ → Form → Data → Reply
showing status form d =
    record { status = status; form = form; location = None; allow = None; body = compact_text d }

-- no document, with this status
abbrev pub without_body : ℕ → Option (List ℕ) → Reply
without_body status location =
    record { status = status; form = forms.None; location = location; allow = None; body = [] }

-- The answer as a reply: a document (RFC 9110, section 15.3.1; as ActivityStreams, ActivityPub,
-- section 3.2, or as JRD, RFC 7033, section 10.2); what is left of a deleted object (RFC 9110,
-- section 15.5.11; ActivityPub, section 6.4); the address of what was created (RFC 9110, sections
-- 10.2.2 and 15.3.2; ActivityPub, section 6); or that a delivery was accepted (RFC 9110, section
-- 15.3.3).
abbrev pub reply_of : Answer → Reply
reply_of (Refuse r) = refused r
reply_of (Misshape fault) = misshapen fault
reply_of (Disallow allow) = disallowed allow
reply_of (Document d) = showing 200 forms.Activity d
reply_of (Profile d) = showing 200 forms.Jrd d
reply_of (Tombstone d) = showing 410 forms.Activity d
reply_of (Created id) = without_body 201 id
reply_of Accepted = without_body 202 None

-- the reply to the caller for the ask
abbrev pub reply : Town → Caller → Ask → Reply
reply t c ask = reply_of (answer_of t c ask)

-- the reply is the same in each legal history that agrees with this one for the caller
abbrev pub IsPrivate : List Entry → Caller → Ask → Reply → Type 0
IsPrivate history c ask r =
    (g : List Entry) → IsLegal g → Agree (town g) (town history) c → reply (town g) c ask ≡ r
