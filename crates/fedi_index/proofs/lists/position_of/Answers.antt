use Rattle.std.proofs.Common.{refl, rules, sym, ◌∙◌}
use Rattle.fedi_register.proofs.Found.{placed}
use Rattle.fedi_register.specs.Marks.{every}
use Rattle.fedi_index.specs.Lists.{is_row, row_mark}
use Rattle.fedi_index.proofs.Found.{row_marked, row_placed, rows_marked}
use Rattle.fedi_index.proofs.lists.position_of.Goals as goal

pub returns : goal.returns
returns c =
    let is_one = is_row c.args.collection c.args.owner.now in
    placed every is_one (row_mark c.args.seed.now) _ _ _ _ _ _ (c.position_of.ensures is_one (search rules)) refl c.mark_of_list.ensures (c.requires ∙ sym (rows_marked c.args.seed.now 0 c.args.rows.now))
    (row_marked c.args.seed.now c.args.collection c.args.owner.now)
    ∙ row_placed c.args.collection c.args.owner.now c.args.rows.now
