use Rattle.std.proofs.Common.{◌≡◌, ◌∙◌, refl, sym, true}
use Rattle.std.proofs.lemmas.Fn.{says_at}
use Rattle.fedi_town.specs.Objects.{makes}
use Rattle.fedi_register.proofs.register.makes_where.Goals as goal

pub returns-then-makes : goal.returns-then-makes
returns-then-makes g c = λ p decides.
    let act = c.args.act.now in
    let is : makes c.args.id.now act ≡ true = sym c.makes.ensures ∙ c.if-makes.true in
    rw is (decides act c.passes.result (says_at g.F.Fn c.passes.ensures refl))
