use Rattle.std.proofs.Common.{ap, append-nil, sym, ◌∙◌, ◌++◌, Option, option_map}
use Rattle.fedi_report.proofs.Exported.{activity_text_at}
use Rattle.fedi_report.specs.Exports.{activity_row}
use Rattle.fedi_report.specs.Tables.{row_or_nothing, written}
use Rattle.fedi_town.specs.declared.act.Act.{Act}
use Rattle.fedi_report.proofs.exports.ActivitiesTable.write_row.Goals as goal

-- there is no row where there is no activity
pub returns-in-None-clause-row : goal.returns-in-None-clause-row
returns-in-None-clause-row c =
    let acts = c.args.self.now.facts.now.town.acts in
    let none = rw c.in-None.is at c.activity_at.ensures in
    let empty = activity_text_at acts c.args.position ∙ ap (λ (x : Option Act). row_or_nothing (option_map (activity_row c.args.position) x)) (sym none) in
    sym (append-nil (written c.args.text.now)) ∙ ap (λ text. written c.args.text.now ++ text) (sym empty)
