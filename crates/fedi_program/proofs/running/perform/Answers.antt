use Rattle.std.proofs.Common.{refl}
use Rattle.fedi_program.specs.Commands.{InVault, Migrate, OnDisk, Report, task_of}
use Rattle.fedi_program.specs.Headline.{kinds, world}
use Rattle.fedi_program.proofs.FillLemmas.{fills_from_disk}
use Rattle.fedi_program.proofs.HeadlineLemmas.{does_at, leaves_in_vault, leaves_on_disk, moves_at, reports_at}
use Rattle.fedi_program.proofs.WorkLemmas.{asks_others, disk_unasked, vault_unasked}
use Rattle.fedi_program.proofs.running.perform.Goals as goal

pub returns-in-Migrate-clause-does : goal.returns-in-Migrate-clause-does
returns-in-Migrate-clause-does g c =
    rw c.in-Migrate.is (moves_at (kinds g.S.Source g.O.Sink g.D.Disk g.C.Clock g.E.Entropy g.W.Door g.K.Link g.V.Vault g.V.K.Keeper g.N.Selection) c.args.is_table _ _ _ (λ is. c.migrate_at.ensures.in_vault is)
    (λ is. c.migrate_at.ensures.on_disk is))

pub returns-in-Migrate-clause-others : goal.returns-in-Migrate-clause-others
returns-in-Migrate-clause-others g c =
    rw c.in-Migrate.is (record {
      input = λ _ _. refl;
      clock = refl;
      disk = disk_unasked c.args.is_table Migrate _ refl (λ is. c.migrate_at.ensures.disk is);
      second = λ other. absurd (other refl);
      entropy = λ _. refl;
      benches = λ _ _. refl;
      vault = vault_unasked c.args.is_table Migrate _ refl (λ is. c.migrate_at.ensures.vault is);
      selection = λ _. refl;
    })

pub returns-in-Fill-clause-others : goal.returns-in-Fill-clause-others
returns-in-Fill-clause-others g c =
    let asks = fills_from_disk c.args.is_table (rw c.in-Fill.is at c.requires.table) in
    rw c.in-Fill.is (record {
      input = λ _ _. refl;
      clock = refl;
      disk = λ none. absurd (cc (asks.0, none));
      second = λ _. refl;
      entropy = λ _. refl;
      benches = λ _ _. refl;
      vault = λ none. absurd (cc (asks.1, none));
      selection = λ _. refl;
    })

pub returns-in-Report-clause-does : goal.returns-in-Report-clause-does
returns-in-Report-clause-does g c =
    rw c.in-Report.is (reports_at (kinds g.S.Source g.O.Sink g.D.Disk g.C.Clock g.E.Entropy g.W.Door g.K.Link g.V.Vault g.V.K.Keeper g.N.Selection) c.args.is_table _ _ _ _ _ (λ is. c.report_at-status.ensures.in_vault is)
    (λ is. c.report_at-status.ensures.on_disk is))

pub returns-in-Report-clause-others : goal.returns-in-Report-clause-others
returns-in-Report-clause-others g c =
    rw c.in-Report.is (record {
      input = λ _ _. refl;
      clock = refl;
      disk = disk_unasked c.args.is_table (Report c.in-Report.name.now c.in-Report.kind.now) _ refl (λ is. c.report_at-status.ensures.disk is);
      second = λ _. refl;
      entropy = λ _. refl;
      benches = λ _ _. refl;
      vault = vault_unasked c.args.is_table (Report c.in-Report.name.now c.in-Report.kind.now) _ refl (λ is. c.report_at-status.ensures.vault is);
      selection = λ lays. absurd (cc lays);
    })

pub on_disk-status-requires-clause-store : goal.on_disk-status-requires-clause-store
on_disk-status-requires-clause-store g c =
    asks_others c.args.command c.in_default.not-Usage c.in_default.not-Demo c.in_default.not-Serve c.in_default.not-Migrate c.in_default.not-Fill c.in_default.not-Report c.in_default.not-Play

pub returns-then-is_table-clause-does : goal.returns-then-is_table-clause-does
returns-then-is_table-clause-does g c =
    rw c.if-is_table.true (does_at (kinds g.S.Source g.O.Sink g.D.Disk g.C.Clock g.E.Entropy g.W.Door g.K.Link g.V.Vault g.V.K.Keeper g.N.Selection) InVault (task_of c.args.command)
    (world c.args.connection.now c.args.disk c.args.second c.args.entropy.now c.args.benches.now c.args.vault.now c.args.selection.now)
    (world c.in_vault-status.new.connection c.args.disk c.args.second c.in_vault-status.new.entropy c.in_vault-status.new.benches c.in_vault-status.new.vault c.args.selection.now) c.in_vault-status.result
    (asks_others c.args.command c.in_default.not-Usage c.in_default.not-Demo c.in_default.not-Serve c.in_default.not-Migrate c.in_default.not-Fill c.in_default.not-Report c.in_default.not-Play) c.in_vault-status.ensures.does)

pub returns-then-is_table-clause-others : goal.returns-then-is_table-clause-others
returns-then-is_table-clause-others g c =
    rw c.if-is_table.true (leaves_in_vault (kinds g.S.Source g.O.Sink g.D.Disk g.C.Clock g.E.Entropy g.W.Door g.K.Link g.V.Vault g.V.K.Keeper g.N.Selection) _ _ _
    (asks_others c.args.command c.in_default.not-Usage c.in_default.not-Demo c.in_default.not-Serve c.in_default.not-Migrate c.in_default.not-Fill c.in_default.not-Report c.in_default.not-Play) c.in_vault-status.ensures.rest refl refl refl)

pub returns-else-is_table-clause-does : goal.returns-else-is_table-clause-does
returns-else-is_table-clause-does g c =
    rw c.if-is_table.false (does_at (kinds g.S.Source g.O.Sink g.D.Disk g.C.Clock g.E.Entropy g.W.Door g.K.Link g.V.Vault g.V.K.Keeper g.N.Selection) OnDisk (task_of c.args.command)
    (world c.args.connection.now c.args.disk c.args.second c.args.entropy.now c.args.benches.now c.args.vault.now c.args.selection.now)
    (world c.on_disk-status.new.connection c.on_disk-status.result.1 c.args.second c.on_disk-status.new.entropy c.on_disk-status.new.benches c.args.vault.now c.args.selection.now) c.on_disk-status.result.0
    (asks_others c.args.command c.in_default.not-Usage c.in_default.not-Demo c.in_default.not-Serve c.in_default.not-Migrate c.in_default.not-Fill c.in_default.not-Report c.in_default.not-Play) c.on_disk-status.ensures.does)

pub returns-else-is_table-clause-others : goal.returns-else-is_table-clause-others
returns-else-is_table-clause-others g c =
    rw c.if-is_table.false (leaves_on_disk (kinds g.S.Source g.O.Sink g.D.Disk g.C.Clock g.E.Entropy g.W.Door g.K.Link g.V.Vault g.V.K.Keeper g.N.Selection) _ _ _
    (asks_others c.args.command c.in_default.not-Usage c.in_default.not-Demo c.in_default.not-Serve c.in_default.not-Migrate c.in_default.not-Fill c.in_default.not-Report c.in_default.not-Play) c.on_disk-status.ensures.rest refl refl refl)

pub returns-in-Play-clause-does : goal.returns-in-Play-clause-does
returns-in-Play-clause-does g c = rw c.in-Play.is (c.play_script.ensures.played, c.play_script.ensures.causes)
