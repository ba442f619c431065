-- The items of a trace.
use Rattle.std.specs.Prelude.{Option, Some, None, List, [], ◌∷◌, ◌++◌}
use Rattle.fedi_register.specs.declared.trace.Step.{Step}

-- the items that the last step leads back to
abbrev pub ended : {T : Type 0} → Option (Step T) → List T
ended None = []
ended (Some s) = s.before.value ++ s.last.value ∷ []
