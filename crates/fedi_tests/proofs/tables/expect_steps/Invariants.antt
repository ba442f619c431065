use Rattle.std.proofs.Common.{◌≡◌, false}
use Rattle.fedi_tests.proofs.tables.expect_steps.Given as goal

abbrev pub invariant-steps : goal.invariant-steps
invariant-steps g l = (g.V.Vault.shown l.vault).out ≡ false
