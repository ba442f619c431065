-- Vaults in memory, as their callers see them.
use Rattle.std.specs.Prelude.{Bool, Some}
use Rattle.fedi_outside.specs.MemoryKeepers.{MemoryKeeperState}
use Rattle.fedi_outside.specs.Vaults.{VaultState}

-- the keeper in the vault, or what counts on while it is out
pub record MemoryVaultState : Type 0 where
  pub keeper : MemoryKeeperState
  pub out : Bool

-- what it shows
abbrev pub vault_shown : MemoryVaultState → VaultState
vault_shown v = record {
  kept = Some v.keeper.keeper.records;
  out = v.out;
  faults = v.keeper.plan.faults;
}
