use Rattle.std.proofs.Common.{◌≡◌, ◌-◌, ◌+◌, vec_len}
use Rattle.std.specs.Io.KnownBytes.{Consumes}
use Rattle.fedi_script.specs.declared.lines.TheConstants.{LONGEST}
use Rattle.fedi_program.proofs.playing.read_script.Given as goal

abbrev pub invariant-pieces : goal.invariant-pieces
invariant-pieces g l = record {
  read : Consumes (g.S.Source.left l.fn.input) (g.S.Source.left l.input) l.script.items;
  calm : g.S.Source.read_faults l.input ≡ g.S.Source.read_faults l.fn.input;
}

abbrev pub decreases-pieces : goal.decreases-pieces
decreases-pieces g l = LONGEST + 1 - vec_len l.script
