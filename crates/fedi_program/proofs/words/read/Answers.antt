use Rattle.std.proofs.Common.{ap, sym, ◌∙◌, option_map, string_bytes}
use Rattle.fedi_program.specs.Commands.{row_by}
use Rattle.fedi_program.proofs.WordLemmas.{read_all}
use Rattle.fedi_program.proofs.words.read.Goals as goal

pub returns : goal.returns
returns c =
    let name = c.deref.result.now in
    let found = ap (option_map (row_by name)) (sym c.in_ok-row_of.was) ∙ c.row_of.ensures.row in
    read_all string_bytes c.args.arguments.now c.name-item.result name c.in_ok-row_of.field-0 _ c.in-len1-up.len_at_least c.name-item.is c.deref.ensures found (c.read_by.ensures name)
