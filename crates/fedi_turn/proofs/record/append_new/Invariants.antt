use Rattle.std.proofs.Common.{drop, length, ◌∷◌, []}
use Rattle.fedi_turn.specs.Gate.{writer_in}
use Rattle.fedi_turn.proofs.record.append_new.Given as goal

abbrev pub ghosts-append_items : goal.ghosts-append_items
ghosts-append_items g a = record { items = drop (length (writer_in (a.writer.now.me.0 ∷ [])).list) (g.V.Grows.list a._value.now) }
