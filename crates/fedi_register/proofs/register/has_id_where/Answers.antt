use Rattle.std.proofs.Common.{◌≡◌, ◌∙◌, refl, sym, true}
use Rattle.std.proofs.lemmas.Fn.{says_at}
use Rattle.fedi_town.specs.Relations.{has_activity_id}
use Rattle.fedi_register.proofs.register.has_id_where.Goals as goal

pub returns-then-has_activity_id : goal.returns-then-has_activity_id
returns-then-has_activity_id g c = λ p decides.
    let act = c.args.act.now in
    let is : has_activity_id c.args.id.now act ≡ true = sym c.has_activity_id.ensures ∙ c.if-has_activity_id.true in
    rw is (decides act c.passes.result (says_at g.F.Fn c.passes.ensures refl))
