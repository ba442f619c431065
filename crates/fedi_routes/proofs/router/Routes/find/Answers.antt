use Rattle.std.proofs.Common.{arith}
use Rattle.fedi_routes.proofs.Exact.{not_routed, is_routed}
use Rattle.fedi_routes.proofs.router.Routes.find.Goals as goal

pub returns-in_default : goal.returns-in_default
returns-in_default c kind name number h =
    not_routed c.args.self.now.router c.args.path.now c.args.self.now.whole c.in_default.ensures.missing kind name number h

pub returns : goal.returns
returns c =
    let params = c.in-Ok.found.params in
    is_routed c.args.self.now.router c.args.path.now params.pattern.now params.text.now params.names.now c.in-Ok.found.value.now
    c.parameter.result.now c.parameter-2.result.now c.args.self.now.whole (λ k. omega (arith, c.type_inv.path k)) c.utf8.path c.in-Ok.ensures.found
    (rw c.in-Ok.ensures.path at c.parameter.ensures) (rw c.in-Ok.ensures.path at c.parameter-2.ensures)
