use Rattle.fedi_program.proofs.WorkLemmas.{worked_in, works_others}
use Rattle.fedi_program.proofs.places.in_vault.Goals as goal

pub returns-in-Init-clause-does : goal.returns-in-Init-clause-does
returns-in-Init-clause-does g c = rw c.in-Init.is c.begin_vault.ensures.made

pub work_in_vault-requires-clause-works : goal.work_in_vault-requires-clause-works
work_in_vault-requires-clause-works g c = works_others c.args.command c.requires.store c.in_default.not-Init

pub returns-in_default-clause-does : goal.returns-in_default-clause-does
returns-in_default-clause-does g c =
    worked_in g.K.Link g.V.K.Keeper _ _ _ _ _ _ (works_others c.args.command c.requires.store c.in_default.not-Init) c.work_in_vault.ensures.works
