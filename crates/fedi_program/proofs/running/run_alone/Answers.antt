use Rattle.std.proofs.Common.{map, refl, string_bytes, sym, ◌∙◌}
use Rattle.fedi_program.specs.Commands.{task_of}
use Rattle.fedi_program.specs.Headline.{kinds}
use Rattle.fedi_program.proofs.HeadlineLemmas.{refuses, runs_at}
use Rattle.fedi_program.proofs.TableLemmas.{may_be_table}
use Rattle.fedi_program.proofs.running.run_alone.Goals as goal

pub perform-status-requires-clause-table : goal.perform-status-requires-clause-table
perform-status-requires-clause-table g c κs within =
    λ table. may_be_table (map string_bytes c.args.arguments.now) (task_of c.in-Some.command) c.in-Some.ensures (sym c.names_table.ensures ∙ table)

pub returns-in-Some-clause-runs : goal.returns-in-Some-clause-runs
returns-in-Some-clause-runs g c =
    runs_at (kinds g.S.Source g.O.Sink g.D.Disk g.C.Clock g.E.Entropy g.W.Door g.K.Link g.V.Vault g.V.K.Keeper g.N.Selection) c.names_table.result (map string_bytes c.args.arguments.now)
    (task_of c.in-Some.command) _ _ _ c.names_table.ensures c.in-Some.ensures c.perform-status.ensures.does c.perform-status.ensures.others

pub returns-in-None-clause-runs : goal.returns-in-None-clause-runs
returns-in-None-clause-runs g c =
    let told = rw (c.as_bytes.ensures.value, c.usage.ensures) at c.report.ensures in
    refuses (kinds g.S.Source g.O.Sink g.D.Disk g.C.Clock g.E.Entropy g.W.Door g.K.Link g.V.Vault g.V.K.Keeper g.N.Selection) _ _ _ _ _ c.in-None.ensures told
    (record { input = λ _ _. refl; clock = refl; disk = λ _. refl; second = λ _. refl; entropy = λ _. refl; benches = λ _ _. refl; vault = λ _. refl; selection = λ _. refl })
