-- Making a vault a store.
use Rattle.std.proofs.Common.{◌≡◌, ℕ, List, refl, ◌∙◌}
use Rattle.fedi_outside.specs.Keepers.{KeeperState}
use Rattle.fedi_outside.specs.Vaults.{IsHanded, VaultState, none_of}
use Rattle.fedi_outside.specs.declared.keepers.Keeper.{Ghosts}
use Rattle.fedi_startup.specs.Vaults.{IsNew, IsNotBegun, IsTakenBy}
use Rattle.fedi_startup.specs.declared.faults.MakeFault.{MakeFault}
use Rattle.fedi_startup.specs.declared.faults.MakeFault.TheVariants as makes

module _ {P : Type 0} (keepers : Ghosts P) where
  -- the keeper that a vault handed out when it was made
  pub is_new : (before : VaultState) (count : ℕ) (keeper : P) → IsHanded (none_of before.kept) count (keepers.shown keeper) → count ≡ before.faults
      → (keepers.shown keeper).held ≡ 0 → IsNew keepers before keeper
  is_new before count keeper handed same held = record {
    handed = record { records = handed.records; settled = handed.settled; faults = handed.faults ∙ same };
    held = held;
  }

  -- if the first record was not added to it, the vault was not made a store
  pub is_taken : (before : VaultState) (keeper : P) (code : List ℕ) (fault : MakeFault) (after : KeeperState) → IsNew keepers before keeper
      → IsNotBegun keepers.room code fault (keepers.shown keeper) after → IsTakenBy keepers code fault before
  is_taken before keeper code makes.Exists after new unbegun = absurd (unbegun.free refl)
  is_taken before keeper code makes.Full after new unbegun = (keeper, new, unbegun.full refl)
  is_taken before keeper code makes.Failed after new unbegun = tt
  is_taken before keeper code makes.Memory after new unbegun = tt
