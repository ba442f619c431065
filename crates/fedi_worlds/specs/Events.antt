-- What may happen in a world of several servers.
use Rattle.std.specs.Prelude.{ℕ}
use Rattle.fedi_model.specs.declared.ask.Ask.{Ask}
use Rattle.fedi_town.specs.declared.caller.Caller.{Caller}

-- One event:
-- - `Asking n c ask`: a member of server `n`, or a stranger, asks it for something (ActivityPub,
--   sections 3.2, 5 and 6);
-- - `Claim n`: server `n` claims its next delivery and looks its recipient up (section 7.1);
-- - `Arrive k`: the request with number `k` arrives at its host, for the first time or again;
-- - `Reach j`: the reply with number `j` reaches the attempt whose request it answers;
-- - `Lose number`: the attempt with this number gets no reply to its last request;
-- - `Crash n`: server `n` stops and starts again;
-- - `Wait seconds`: time passes.
pub data Event : Type 0 where
  Asking : ℕ → Caller → Ask → Event
  Claim : ℕ → Event
  Arrive : ℕ → Event
  Reach : ℕ → Event
  Lose : ℕ → Event
  Crash : ℕ → Event
  Wait : ℕ → Event
