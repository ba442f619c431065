use Rattle.std.proofs.Common.{◌≡◌, length, ap, arith}
use Rattle.fedi_sqlite.proofs.TableSteps.{empty_of}
use Rattle.fedi_sqlite.proofs.places.begin.Goals as goal

pub returns-then-count-eq0-clause-begun : goal.returns-then-count-eq0-clause-begun
returns-then-count-eq0-clause-begun g c steady =
    let it = c.in-Ok-Whole.ensures steady in record {
      stays = it.stays;
      none = λ records keeps.
          let found = it.finds records keeps in
          let is = c.in-Ok-Whole.field-0-is in
          let same : c.in-Ok-Whole.count ≡ length records = cc in
          empty_of records (omega (arith, same, c.if-count-eq0.true));
      some = λ records keeps never. absurd cc;
    }

pub returns-then-count-eq0-clause-whole : goal.returns-then-count-eq0-clause-whole
returns-then-count-eq0-clause-whole g c place never = absurd cc

pub returns-else-count-eq0-clause-begun : goal.returns-else-count-eq0-clause-begun
returns-else-count-eq0-clause-begun g c steady =
    let it = c.in-Ok-Whole.ensures steady in record {
      stays = it.stays;
      none = λ records keeps. tt;
      some = λ records keeps exists nil.
          let found = it.finds records keeps in
          let is = c.in-Ok-Whole.field-0-is in
          let same : c.in-Ok-Whole.count ≡ length records = cc in
          absurd (omega (arith, same, ap length nil, c.if-count-eq0.false));
    }

pub returns-else-count-eq0-clause-whole : goal.returns-else-count-eq0-clause-whole
returns-else-count-eq0-clause-whole g c place is = absurd cc

pub returns-in-Ok-Gap-clause-begun : goal.returns-in-Ok-Gap-clause-begun
returns-in-Ok-Gap-clause-begun g c steady =
    let it = c.in-Ok-Gap.ensures steady in record {
      stays = it.stays;
      none = λ records keeps. tt;
      some = λ records keeps exists.
          let found = it.finds records keeps in
          let is = c.in-Ok-Gap.field-0-is in
          absurd cc;
    }

pub returns-in-Ok-Gap-clause-whole : goal.returns-in-Ok-Gap-clause-whole
returns-in-Ok-Gap-clause-whole g c place is = absurd cc

pub returns-in-Err-clause-begun : goal.returns-in-Err-clause-begun
returns-in-Err-clause-begun g c steady = record {
  stays = (c.find_places.ensures steady).stays;
  none = λ records keeps. tt;
  some = λ records keeps is. absurd cc;
}

pub returns-in-Err-clause-whole : goal.returns-in-Err-clause-whole
returns-in-Err-clause-whole g c place is = absurd cc
