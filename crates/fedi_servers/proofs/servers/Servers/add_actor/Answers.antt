use Rattle.std.proofs.Common.{◌≡◌, ◌∙◌, ◌+◌, ◌∷◌, ◌++◌, [], true, false, None, arith, refl, sym, subst}
use Rattle.fedi_core.specs.Commands.{IsCommand}
use Rattle.fedi_objects.specs.declared.entry.Entry.{Entry}
use Rattle.fedi_servers.specs.Founding.{member}
use Rattle.fedi_servers.specs.Machines.{ServerMachine, founding_of}
use Rattle.fedi_servers.proofs.Adding.{actor_added, found_there, inside_machines, same_machine}
use Rattle.fedi_servers.proofs.Refusing.{actor_broken, actor_nowhere, actor_unnamed, fault_at, unbroken_if}
use Rattle.fedi_servers.proofs.Setting.{one_changed}
use Rattle.fedi_town.specs.Histories.{town}
use Rattle.fedi_town.specs.Legal.{broken_command}
use Rattle.fedi_servers.proofs.servers.Servers.add_actor.Goals as goal

pub returns-in_default-clause-added : goal.returns-in_default-clause-added
returns-in_default-clause-added c =
    actor_nowhere (founding_of c.args.self.now) c.args.self.now.hosts.items c.args.host.now c.args.name.now
    c.requires.order.hosts (rw c.deref.ensures.value at c.in_default.ensures)

pub returns-in_default-parse-clause-added : goal.returns-in_default-parse-clause-added
returns-in_default-parse-clause-added c =
    actor_unnamed (founding_of c.args.self.now) c.args.host.now c.args.name.now
    (λ good. let clash : false ≡ true = c.in_default-parse.ensures.name.1 good in absurd (cc clash))

pub index-requires : goal.index-requires
index-requires c =
    let inside = inside_machines c.args.self.now.hosts.items c.args.self.now.cores.items c.args.host.now c.in-Some.index c.requires.order (rw c.deref.ensures.value at c.in-Some.ensures) in
    let count = c.args.self.now.cores.ok.0 in omega (arith, inside, count)

pub returns-then-breaks_rule-clause-added : goal.returns-then-breaks_rule-clause-added
returns-then-breaks_rule-clause-added c =
    let judged = found_there c.args.self.now.hosts.items c.args.self.now.cores.items c.args.host.now c.in-Some.index c.index.result.now c.requires.order (rw c.deref.ensures.value at c.in-Some.ensures) c.index.ensures in
    let entry : c.member-entry.result ≡ member c.args.name.now (c.args.self.now.members + 1) = rw c.in-Some-parse.ensures.same at c.member-entry.ensures in
    let broken = fault_at (town c.index.result.now.history) c.member-entry.result (member c.args.name.now (c.args.self.now.members + 1)) c.breaks_rule.result c.breaks_rule.ensures c.if-breaks_rule.true entry in
    actor_broken (founding_of c.args.self.now) c.args.host.now c.args.name.now c.in-Some.index _ broken.0 judged.at broken.1

pub index_mut-requires : goal.index_mut-requires
index_mut-requires c =
    let inside = inside_machines c.args.self.now.hosts.items c.args.self.now.cores.items c.args.host.now c.in-Some.index c.requires.order (rw c.deref.ensures.value at c.in-Some.ensures) in
    let count = c.args.self.now.cores.ok.0 in omega (arith, inside, count)

pub keep-requires-clause-founded : goal.keep-requires-clause-founded
keep-requires-clause-founded c =
    (found_there c.args.self.now.hosts.items c.args.self.now.cores.items c.args.host.now c.in-Some.index c.index_mut.result.now c.requires.order (rw c.deref.ensures.value at c.in-Some.ensures) c.index_mut.ensures.value).founded

pub keep-requires-clause-command : goal.keep-requires-clause-command
keep-requires-clause-command c =
    let found = found_there c.args.self.now.hosts.items c.args.self.now.cores.items c.args.host.now c.in-Some.index c.index_mut.result.now c.requires.order (rw c.deref.ensures.value at c.in-Some.ensures) c.index_mut.ensures.value in
    rw (c.member-entry.ensures, c.in-Some-parse.ensures.same) (found.founded.hosted, c.in-Some-parse.ensures.name.0 refl)

pub keep-requires-clause-unbroken : goal.keep-requires-clause-unbroken
keep-requires-clause-unbroken c =
    let judged = found_there c.args.self.now.hosts.items c.args.self.now.cores.items c.args.host.now c.in-Some.index c.index.result.now c.requires.order (rw c.deref.ensures.value at c.in-Some.ensures) c.index.ensures in
    let changed = found_there c.args.self.now.hosts.items c.args.self.now.cores.items c.args.host.now c.in-Some.index c.index_mut.result.now c.requires.order (rw c.deref.ensures.value at c.in-Some.ensures) c.index_mut.ensures.value in
    let same = same_machine c.args.self.now.cores.items c.in-Some.index c.index.result.now c.index_mut.result.now judged.there changed.there in
    let whole = unbroken_if (broken_command (town c.index.result.now.history) c.member-entry.result) (sym c.breaks_rule.ensures ∙ c.if-breaks_rule.false) in
    subst (λ (m : ServerMachine). broken_command (town m.history) c.member-entry.result ≡ None) same whole

pub returns-clause-order : goal.returns-clause-order
returns-clause-order c =
    let changed = found_there c.args.self.now.hosts.items c.args.self.now.cores.items c.args.host.now c.in-Some.index c.index_mut.result.now c.requires.order (rw c.deref.ensures.value at c.in-Some.ensures) c.index_mut.ensures.value in
    let command : IsCommand (town c.index_mut.result.now.history) c.member-entry.result = rw (c.member-entry.ensures, c.in-Some-parse.ensures.same) (changed.founded.hosted, c.in-Some-parse.ensures.name.0 refl) in
    one_changed c.args.self.now.hosts.items c.args.self.now.cores.items c.in-Some.index c.index_mut.result.now c.keep.new.core c.member-entry.result c.requires.order
    changed.there command c.in_ok-keep.ensures.history c.in_ok-keep.ensures.founded

pub returns-clause-added : goal.returns-clause-added
returns-clause-added c =
    let changed = found_there c.args.self.now.hosts.items c.args.self.now.cores.items c.args.host.now c.in-Some.index c.index_mut.result.now c.requires.order (rw c.deref.ensures.value at c.in-Some.ensures) c.index_mut.ensures.value in
    let command : IsCommand (town c.index_mut.result.now.history) c.member-entry.result = rw (c.member-entry.ensures, c.in-Some-parse.ensures.same) (changed.founded.hosted, c.in-Some-parse.ensures.name.0 refl) in
    let judged = found_there c.args.self.now.hosts.items c.args.self.now.cores.items c.args.host.now c.in-Some.index c.index.result.now c.requires.order (rw c.deref.ensures.value at c.in-Some.ensures) c.index.ensures in
    let machine = same_machine c.args.self.now.cores.items c.in-Some.index c.index.result.now c.index_mut.result.now judged.there changed.there in
    let whole = unbroken_if (broken_command (town c.index.result.now.history) c.member-entry.result) (sym c.breaks_rule.ensures ∙ c.if-breaks_rule.false) in
    let unbroken : broken_command (town c.index_mut.result.now.history) c.member-entry.result ≡ None = subst (λ (m : ServerMachine). broken_command (town m.history) c.member-entry.result ≡ None) machine whole in
    let entry : c.member-entry.result ≡ member c.args.name.now (c.args.self.now.members + 1) = rw c.in-Some-parse.ensures.same at c.member-entry.ensures in
    actor_added c.args.self.now.hosts.items c.args.self.now.cores.items c.args.self.now.members c.args.self.now.pairs c.in-Some.index c.args.host.now c.args.name.now
    c.index_mut.result.now c.keep.new.core c.requires.order changed.found changed.there (c.in-Some-parse.ensures.name.0 refl)
    (subst (λ (x : Entry). IsCommand (town c.index_mut.result.now.history) x) entry command)
    (subst (λ (x : Entry). broken_command (town c.index_mut.result.now.history) x ≡ None) entry unbroken)
    (subst (λ (x : Entry). c.keep.new.core.history ≡ c.index_mut.result.now.history ++ x ∷ []) entry c.in_ok-keep.ensures.history)
