-- A register may cross threads.
use denote.Param.Send.{IsSend, sendable}
use Rattle.std.proofs.Crossing.{crosses}
use Rattle.fedi_register.proofs.KeptSent.{kept_send}
use Rattle.fedi_register.specs.contracts.register.Register as Register

pub register_send : IsSend Register.the_row
register_send = search (kept_send, crosses, sendable) depth 60 fits 20000
