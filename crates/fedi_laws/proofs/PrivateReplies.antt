-- Histories that agree for a caller give the caller the same reply.
use Rattle.std.proofs.Common.{◌≡◌, List, ap}
use Rattle.fedi_model.specs.declared.ask.Ask.{Ask}
use Rattle.fedi_laws.proofs.Isolation.{private_answers}
use Rattle.fedi_objects.specs.declared.entry.Entry.{Entry}
use Rattle.fedi_town.specs.declared.caller.Caller.{Caller}
use Rattle.fedi_town.specs.Agreement.{Agree}
use Rattle.fedi_town.specs.Histories.{town}
use Rattle.fedi_town.specs.Legal.{IsLegal}
use Rattle.fedi_model.specs.Replies.{reply, reply_of}

pub replies_agree : (g h : List Entry) (c : Caller) (ask : Ask) → IsLegal g → IsLegal h → Agree (town g) (town h) c
    → reply (town g) c ask ≡ reply (town h) c ask
replies_agree g h c ask legal also agree = ap reply_of (private_answers g h c ask legal also agree)
