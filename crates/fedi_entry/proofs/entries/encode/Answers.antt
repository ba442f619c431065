use Rattle.std.proofs.Common.{arith}
use Rattle.fedi_entry.specs.Codes.{code_of}
use Rattle.fedi_entry.proofs.Formed.{sizes_fit}
use Rattle.fedi_entry.proofs.entries.encode.Goals as goal

pub returns-clause-fits : goal.returns-clause-fits
unfolding code_of
returns-clause-fits c = record {
  sizes = sizes_fit c.args.entry.now c.in_ok-put_fields.ensures.formed;
  short = grind (arith, c.if-len-gt-LONGEST.false, c.len.ensures, c.in_ok-bytes.ensures.items, c.in_ok-put_byte.ensures, c.in_ok-put_fields.ensures.code);
}
