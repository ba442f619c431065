use Rattle.std.proofs.Common.{◌≡◌, ℕ, List, [], ◌∷◌, ◌++◌, sym, ap, subst, ◌∙◌}
use Rattle.fedi_script.specs.Lines.{Server}
use Rattle.fedi_servers.specs.Founding.{Adds}
use Rattle.fedi_servers.specs.Machines.{AreFounded, ServerMachine, founding_of}
use Rattle.fedi_servers.proofs.Refusing.{no_host, nothing_if, taken}
use Rattle.fedi_servers.proofs.Adding.{founding, server_added}
use Rattle.fedi_servers.proofs.Setting.{more_founded}
use Rattle.fedi_servers.proofs.servers.Servers.add_server.Goals as goal

pub returns-then-is_some-clause-added : goal.returns-then-is_some-clause-added
returns-then-is_some-clause-added c =
    let u = founding_of c.args.self.now in
    taken u c.args.self.now.hosts.items c.args.host.now c.index_of.result c.requires.order.hosts
    (rw c.deref.ensures.value at c.index_of.ensures) (sym c.is_some.ensures ∙ c.if-is_some.true)

pub returns-in-Err-BadHost-clause-added : goal.returns-in-Err-BadHost-clause-added
returns-in-Err-BadHost-clause-added c =
    no_host (founding_of c.args.self.now) c.args.host.now
    (c.in-Err-BadHost.ensures.bad_host c.in-Err-BadHost.field-0-is)

pub returns-clause-order : goal.returns-clause-order
returns-clause-order c =
    let none = nothing_if c.index_of.result (sym c.is_some.ensures ∙ c.if-is_some.false) in
    let free = sym (rw c.deref.ensures.value at c.index_of.ensures) ∙ none in
    let own = c.in_ok-clone.ensures.cases ∙ c.in-Ok.ensures.ok in
    let new = rw own at c.in_ok-core.ensures in
    let named : c.push_reserved.new.self.items ≡ c.args.self.now.hosts.items ++ c.args.host.now ∷ [] =
    c.push_reserved.ensures.items
    ∙ (ap (λ (l : List (List ℕ)). l ++ c.in-Ok.host ∷ []) c.reserve.ensures.items ∙ ap (λ (h : List ℕ). c.args.self.now.hosts.items ++ h ∷ []) c.in-Ok.ensures.ok) in
    let machines : c.push_reserved-2.new.self.items ≡ c.args.self.now.cores.items ++ c.in_ok-core.core ∷ [] =
    c.push_reserved-2.ensures.items ∙ ap (λ (l : List ServerMachine). l ++ c.in_ok-core.core ∷ []) c.reserve-2.ensures.items in
    subst (λ (l : List (List ℕ)). AreFounded l c.push_reserved-2.new.self.items) (sym named)
    (subst (λ (l : List ServerMachine). AreFounded (c.args.self.now.hosts.items ++ c.args.host.now ∷ []) l) (sym machines)
    (more_founded c.args.self.now.hosts.items c.args.self.now.cores.items c.args.host.now c.in_ok-core.core c.requires.order free new))

pub returns-clause-added : goal.returns-clause-added
returns-clause-added c =
    let none = nothing_if c.index_of.result (sym c.is_some.ensures ∙ c.if-is_some.false) in
    let free = sym (rw c.deref.ensures.value at c.index_of.ensures) ∙ none in
    let own = c.in_ok-clone.ensures.cases ∙ c.in-Ok.ensures.ok in
    let new = rw own at c.in_ok-core.ensures in
    let machines : c.push_reserved-2.new.self.items ≡ c.args.self.now.cores.items ++ c.in_ok-core.core ∷ [] =
    c.push_reserved-2.ensures.items ∙ ap (λ (l : List ServerMachine). l ++ c.in_ok-core.core ∷ []) c.reserve-2.ensures.items in
    subst (λ (l : List ServerMachine). Adds (founding_of c.args.self.now) (Server c.args.host.now) (founding l c.args.self.now.members c.args.self.now.pairs)) (sym machines)
    (server_added c.args.self.now.hosts.items c.args.self.now.cores.items c.args.self.now.members c.args.self.now.pairs c.args.host.now c.in_ok-core.core
    c.requires.order free (rw c.in-Ok.ensures.ok at c.in-Ok.ensures.host) new)
