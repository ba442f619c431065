-- What a crash may leave of the records while an entry is being kept.
use Rattle.std.specs.Prelude.{ℕ, ◌≡◌, ◌⊎◌, ◌≤◌, List, [], ◌∷◌, ◌++◌, Option}
use Rattle.fedi_outside.specs.Keepers.{Adds, Crashes, IfTold, MayLeave, PassesTime}
use Rattle.fedi_core.specs.declared.keeping.KeepFault.{KeepFault}
use Rattle.fedi_core.specs.declared.keeping.KeepFault.TheVariants.{Full, Failed, Memory}

-- what a crash may leave of these records while one with this code is being kept: these, followed
-- by the one in doubt or by the new one, if by any
abbrev pub MayLeaveWith : List (List ℕ) → Option (List ℕ) → List ℕ → List (List ℕ) → Type 0
MayLeaveWith records doubt code left = MayLeave records doubt left ⊎ (left ≡ records ++ code ∷ [])

-- the clock does not go back, and a crash during the calls leaves these records, followed by the
-- one in doubt or by the new one, if by any
pub record PassesTimeWith (records : Option (List (List ℕ))) (doubt : Option (List ℕ))
    (code : List ℕ) (before after : Crashes) : Type 0 where
  pub clock : before.clock ≤ after.clock
  pub told : after.told ≡ before.told
  pub crash : IfTold before.told records
      (λ kept. Adds before.clock before.left_since after.left_since (MayLeaveWith kept doubt code))

-- the same if no record was kept: the new one may be there only if the keeper failed
abbrev pub PassesTimeUnkept : KeepFault → Option (List (List ℕ)) → Option (List ℕ) → List ℕ
    → Crashes → Crashes → Type 0
PassesTimeUnkept Full records doubt code before after = PassesTime records doubt before after
PassesTimeUnkept Failed records doubt code before after =
    PassesTimeWith records doubt code before after
PassesTimeUnkept Memory records doubt code before after = PassesTime records doubt before after
