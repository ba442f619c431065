use Rattle.std.proofs.Common.{Err, ap, refl}
use Rattle.sqlite.specs.Held.{state}
use Rattle.fedi_sqlite.proofs.FillingSteps.{fills}
use Rattle.fedi_sqlite.proofs.filling.fill_table.Goals as goal

pub returns-in-Err-Exists-clause-filled : goal.returns-in-Err-Exists-clause-filled
returns-in-Err-Exists-clause-filled g c steady = record {
  filled = λ kept keeps. (c.begin.ensures.begun steady).stays kept keeps;
  none = λ kept keeps. tt;
  some = λ kept keeps is. (c.in-Err-Exists.ensures.begun steady).some kept keeps (ap Err c.in-Err-Exists.field-0-is);
}

pub returns-in-Err : goal.returns-in-Err
returns-in-Err g c = record {
  filled = λ steady. record {
    filled = λ kept keeps. (c.begin.ensures.begun steady).stays kept keeps;
    none = λ kept keeps. tt;
    some = λ kept keeps is. absurd cc;
  };
  source = refl;
  outside = g.met.P.Keeper.read_none c.args.from.now;
}

pub returns-then-count-gt-LIMIT-clause-filled : goal.returns-then-count-gt-LIMIT-clause-filled
returns-then-count-gt-LIMIT-clause-filled g c steady = record {
  filled = λ kept keeps. (c.begin.ensures.begun steady).stays kept keeps;
  none = λ kept keeps. tt;
  some = λ kept keeps is. absurd cc;
}

pub returns-clause-filled : goal.returns-clause-filled
returns-clause-filled g c steady =
    fills (g.P.Keeper.shown c.args.from.now).records (state g.S.Store c.args.conn.now) (state g.S.Store c.begin.new.conn) (state g.S.Store c.fill_empty.new.conn) c.fill_empty.result (λ kept keeps. (c.begin.ensures.begun steady).stays kept keeps)
    (λ kept keeps. (c.in-Ok.ensures.begun steady).none kept keeps) (c.fill_empty.ensures.filled steady) c.fill_empty.ensures.free
