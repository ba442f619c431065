-- What becomes of a post to an inbox, as the judgement on it says.
use Rattle.std.specs.Prelude.{None}
use Rattle.fedi_model.specs.AnswerKinds.{Refuse, Misshape}
use Rattle.fedi_model.specs.Posting.{Judgement, Stop, Repeat, Keep}
use Rattle.fedi_inbound.specs.declared.receiving.Received.{Received}
use Rattle.fedi_inbound.specs.declared.receiving.Received.TheVariants.{Refused, Misshapen, Repeated}
use Rattle.fedi_inbound.specs.declared.receiving.Received.TheVariants.{Kept}

-- the judgement
abbrev pub judgement_in : Received → Judgement
judgement_in (Refused r) = Stop (Refuse r)
judgement_in (Misshapen fault) = Stop (Misshape fault)
judgement_in Repeated = Repeat None
judgement_in (Kept a) = Keep a
