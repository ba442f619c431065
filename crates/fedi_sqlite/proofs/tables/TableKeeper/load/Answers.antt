use Rattle.fedi_sqlite.proofs.TableSteps.{known_still}
use Rattle.fedi_sqlite.proofs.tables.TableKeeper.load.Goals as goal

pub invariant_of-self : goal.invariant_of-self
invariant_of-self g c =
    (known_still g.S.Store c.self.inside.conn c.load_bytes.new.conn c.self.inside.held c.self.inside.reports c.self.invariant (λ records calm keeps at. (c.load_bytes.ensures calm).stays records keeps)).0

pub invariant_of-self-in-Err : goal.invariant_of-self-in-Err
invariant_of-self-in-Err g c =
    (known_still g.S.Store c.self.inside.conn c.load_bytes.new.conn c.self.inside.held c.self.inside.reports c.self.invariant (λ records calm keeps at. (c.load_bytes.ensures calm).stays records keeps)).0
