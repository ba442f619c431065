-- A session that came to its end: the whole conversation over the input was held.
use Rattle.std.proofs.Common.{List, ℕ, Option, Some, None, IfSome, inl, inr}
use Rattle.fedi_log.specs.Log.{Log}
use Rattle.fedi_logged.specs.Conversations.{Setting}
use Rattle.fedi_logged.specs.Endings.{Output, Scene, Serves, Talks}
use Rattle.fedi_logged.specs.declared.sessions.SessionEnd.TheVariants.{End, Closed}

pub ended_talks : (w : Setting) (seen : Log) (first : Output) (now : Scene) (log : Log) (known : Option (List ℕ)) → IfSome known (Serves w seen first now log End) → IfSome known (Talks w seen first now log)
ended_talks w seen first now log None s = tt
ended_talks w seen first now log (Some input) s = record { exchanges = s.exchanges; each = s.each; over = inr (s.ends.0, s.ends.1); done = s.ends.2 }

pub closed_talks : (w : Setting) (seen : Log) (first : Output) (now : Scene) (log : Log) (known : Option (List ℕ)) → IfSome known (Serves w seen first now log Closed) → IfSome known (Talks w seen first now log)
closed_talks w seen first now log None s = tt
closed_talks w seen first now log (Some input) s = record { exchanges = s.exchanges; each = s.each; over = inl s.ends.0; done = s.ends.1 }
