use Rattle.std.proofs.Common.{◌≡◌, ◌∙◌, ◌+◌, ◌∷◌, ◌++◌, ℕ, List, [], None, ap, arith, sym, subst}
use Rattle.std.specs.Prelude.{IsTrue, slice_set}
use Rattle.fedi_address.specs.Hosts.{is_host_text}
use Rattle.fedi_core.specs.Commands.{IsCommand}
use Rattle.fedi_objects.specs.declared.entry.Entry.{Entry}
use Rattle.fedi_servers.specs.Founding.{peer}
use Rattle.fedi_servers.specs.Machines.{ServerMachine, founding_of}
use Rattle.fedi_servers.proofs.Adding.{are_two, found_there, host_there, inside_hosts, inside_machines, peers_added, same_machine, second_is}
use Rattle.fedi_servers.proofs.Positions.{set_other}
use Rattle.fedi_servers.proofs.Refusing.{fault_at, first_broken, first_nowhere, second_broken, second_nowhere, unbroken_if}
use Rattle.fedi_servers.proofs.Setting.{one_changed}
use Rattle.fedi_town.specs.Histories.{town}
use Rattle.fedi_town.specs.Legal.{broken_command}
use Rattle.fedi_servers.proofs.servers.Servers.add_peers.Goals as goal

pub returns-in_default-clause-added : goal.returns-in_default-clause-added
returns-in_default-clause-added c =
    first_nowhere (founding_of c.args.self.now) c.args.self.now.hosts.items c.args.one.now c.args.other.now c.requires.order.hosts (rw c.deref.ensures.value at c.in_default.ensures)

pub returns-in_default-index_of-clause-added : goal.returns-in_default-index_of-clause-added
returns-in_default-index_of-clause-added c =
    second_nowhere (founding_of c.args.self.now) c.args.self.now.hosts.items c.args.one.now c.args.other.now c.requires.order.hosts (rw c.deref-2.ensures.value at c.in_default-index_of.ensures)

pub index-requires : goal.index-requires
index-requires c =
    let inside = inside_hosts c.args.self.now.hosts.items c.args.other.now c.in-Some-index_of.second (rw c.deref-2.ensures.value at c.in-Some-index_of.ensures) in
    let count = c.args.self.now.hosts.ok.0 in omega (arith, inside, count)

pub index-requires-2 : goal.index-requires-2
index-requires-2 c =
    let inside = inside_hosts c.args.self.now.hosts.items c.args.one.now c.in-Some.first (rw c.deref.ensures.value at c.in-Some.ensures) in
    let count = c.args.self.now.hosts.ok.0 in omega (arith, inside, count)

pub index-requires-3 : goal.index-requires-3
index-requires-3 c =
    let inside = inside_machines c.args.self.now.hosts.items c.args.self.now.cores.items c.args.one.now c.in-Some.first c.requires.order (rw c.deref.ensures.value at c.in-Some.ensures) in
    let count = c.args.self.now.cores.ok.0 in omega (arith, inside, count)

pub returns-then-breaks_rule-clause-added : goal.returns-then-breaks_rule-clause-added
returns-then-breaks_rule-clause-added c =
    let judged = found_there c.args.self.now.hosts.items c.args.self.now.cores.items c.args.one.now c.in-Some.first c.index-3.result.now c.requires.order (rw c.deref.ensures.value at c.in-Some.ensures) c.index-3.ensures in
    let named = host_there c.args.self.now.hosts.items c.args.other.now c.in-Some-index_of.second c.index.result.now (rw c.deref-2.ensures.value at c.in-Some-index_of.ensures) c.index.ensures in
    let entry : c.in_ok-at_first.at_first ≡ peer c.args.other.now (c.args.self.now.pairs + 1) = c.in_ok-at_first.ensures.entry ∙ ap (λ (h : List ℕ). peer h (c.args.self.now.pairs + 1)) named in
    let broken = fault_at (town c.index-3.result.now.history) c.in_ok-at_first.at_first (peer c.args.other.now (c.args.self.now.pairs + 1)) c.breaks_rule.result c.breaks_rule.ensures c.if-breaks_rule.true entry in
    first_broken (founding_of c.args.self.now) c.args.one.now c.args.other.now c.in-Some.first _ broken.0 judged.at broken.1

pub index-requires-4 : goal.index-requires-4
index-requires-4 c =
    let inside = inside_machines c.args.self.now.hosts.items c.args.self.now.cores.items c.args.other.now c.in-Some-index_of.second c.requires.order (rw c.deref-2.ensures.value at c.in-Some-index_of.ensures) in
    let count = c.args.self.now.cores.ok.0 in omega (arith, inside, count)

pub returns-then-breaks_rule-2-clause-added : goal.returns-then-breaks_rule-2-clause-added
returns-then-breaks_rule-2-clause-added c =
    let found = found_there c.args.self.now.hosts.items c.args.self.now.cores.items c.args.other.now c.in-Some-index_of.second c.index-4.result.now c.requires.order (rw c.deref-2.ensures.value at c.in-Some-index_of.ensures) c.index-4.ensures in
    let called = host_there c.args.self.now.hosts.items c.args.one.now c.in-Some.first c.index-2.result.now (rw c.deref.ensures.value at c.in-Some.ensures) c.index-2.ensures in
    let answer : c.in_ok-at_second.at_second ≡ peer c.args.one.now (c.args.self.now.pairs + 1) = c.in_ok-at_second.ensures.entry ∙ ap (λ (h : List ℕ). peer h (c.args.self.now.pairs + 1)) called in
    let broken = fault_at (town c.index-4.result.now.history) c.in_ok-at_second.at_second (peer c.args.one.now (c.args.self.now.pairs + 1)) c.breaks_rule-2.result c.breaks_rule-2.ensures c.if-breaks_rule-2.true answer in
    second_broken (founding_of c.args.self.now) c.args.one.now c.args.other.now c.in-Some-index_of.second _ broken.0 found.at broken.1

pub index_mut-requires : goal.index_mut-requires
index_mut-requires c =
    let inside = inside_machines c.args.self.now.hosts.items c.args.self.now.cores.items c.args.one.now c.in-Some.first c.requires.order (rw c.deref.ensures.value at c.in-Some.ensures) in
    let count = c.args.self.now.cores.ok.0 in omega (arith, inside, count)

pub keep-requires-clause-founded : goal.keep-requires-clause-founded
keep-requires-clause-founded c =
    (found_there c.args.self.now.hosts.items c.args.self.now.cores.items c.args.one.now c.in-Some.first c.index_mut.result.now c.requires.order (rw c.deref.ensures.value at c.in-Some.ensures) c.index_mut.ensures.value).founded

pub keep-requires-clause-command : goal.keep-requires-clause-command
keep-requires-clause-command c =
    let named = host_there c.args.self.now.hosts.items c.args.other.now c.in-Some-index_of.second c.index.result.now (rw c.deref-2.ensures.value at c.in-Some-index_of.ensures) c.index.ensures in
    let entry : c.in_ok-at_first.at_first ≡ peer c.args.other.now (c.args.self.now.pairs + 1) = c.in_ok-at_first.ensures.entry ∙ ap (λ (h : List ℕ). peer h (c.args.self.now.pairs + 1)) named in
    let changed = found_there c.args.self.now.hosts.items c.args.self.now.cores.items c.args.one.now c.in-Some.first c.index_mut.result.now c.requires.order (rw c.deref.ensures.value at c.in-Some.ensures) c.index_mut.ensures.value in
    let valid : IsTrue (is_host_text c.args.other.now) = subst (λ (h : List ℕ). IsTrue (is_host_text h)) named c.in_ok-at_first.ensures.host in
    let asks : IsCommand (town c.index_mut.result.now.history) (peer c.args.other.now (c.args.self.now.pairs + 1)) = (changed.founded.hosted, valid) in
    let command : IsCommand (town c.index_mut.result.now.history) c.in_ok-at_first.at_first = subst (λ (x : Entry). IsCommand (town c.index_mut.result.now.history) x) (sym entry) asks in
    command

pub keep-requires-clause-unbroken : goal.keep-requires-clause-unbroken
keep-requires-clause-unbroken c =
    let judged = found_there c.args.self.now.hosts.items c.args.self.now.cores.items c.args.one.now c.in-Some.first c.index-3.result.now c.requires.order (rw c.deref.ensures.value at c.in-Some.ensures) c.index-3.ensures in
    let changed = found_there c.args.self.now.hosts.items c.args.self.now.cores.items c.args.one.now c.in-Some.first c.index_mut.result.now c.requires.order (rw c.deref.ensures.value at c.in-Some.ensures) c.index_mut.ensures.value in
    let same = same_machine c.args.self.now.cores.items c.in-Some.first c.index-3.result.now c.index_mut.result.now judged.there changed.there in
    let whole = unbroken_if (broken_command (town c.index-3.result.now.history) c.in_ok-at_first.at_first) (sym c.breaks_rule.ensures ∙ c.if-breaks_rule.false) in
    let unbroken : broken_command (town c.index_mut.result.now.history) c.in_ok-at_first.at_first ≡ None = subst (λ (m : ServerMachine). broken_command (town m.history) c.in_ok-at_first.at_first ≡ None) same whole in
    unbroken

pub index_mut-requires-2 : goal.index_mut-requires-2
index_mut-requires-2 c =
    let inside = inside_machines c.args.self.now.hosts.items c.args.self.now.cores.items c.args.other.now c.in-Some-index_of.second c.requires.order (rw c.deref-2.ensures.value at c.in-Some-index_of.ensures) in
    let count = c.args.self.now.cores.ok.0 in omega (arith, inside, count)

pub keep-requires-2-clause-founded : goal.keep-requires-2-clause-founded
keep-requires-2-clause-founded c =
    let named = host_there c.args.self.now.hosts.items c.args.other.now c.in-Some-index_of.second c.index.result.now (rw c.deref-2.ensures.value at c.in-Some-index_of.ensures) c.index.ensures in
    let entry : c.in_ok-at_first.at_first ≡ peer c.args.other.now (c.args.self.now.pairs + 1) = c.in_ok-at_first.ensures.entry ∙ ap (λ (h : List ℕ). peer h (c.args.self.now.pairs + 1)) named in
    let judged = found_there c.args.self.now.hosts.items c.args.self.now.cores.items c.args.one.now c.in-Some.first c.index-3.result.now c.requires.order (rw c.deref.ensures.value at c.in-Some.ensures) c.index-3.ensures in
    let changed = found_there c.args.self.now.hosts.items c.args.self.now.cores.items c.args.one.now c.in-Some.first c.index_mut.result.now c.requires.order (rw c.deref.ensures.value at c.in-Some.ensures) c.index_mut.ensures.value in
    let same = same_machine c.args.self.now.cores.items c.in-Some.first c.index-3.result.now c.index_mut.result.now judged.there changed.there in
    let whole = unbroken_if (broken_command (town c.index-3.result.now.history) c.in_ok-at_first.at_first) (sym c.breaks_rule.ensures ∙ c.if-breaks_rule.false) in
    let unbroken : broken_command (town c.index_mut.result.now.history) c.in_ok-at_first.at_first ≡ None = subst (λ (m : ServerMachine). broken_command (town m.history) c.in_ok-at_first.at_first ≡ None) same whole in
    let fresh : broken_command (town c.index_mut.result.now.history) (peer c.args.other.now (c.args.self.now.pairs + 1)) ≡ None = subst (λ (x : Entry). broken_command (town c.index_mut.result.now.history) x ≡ None) entry unbroken in
    let two = are_two c.args.self.now.hosts.items c.args.self.now.cores.items c.args.one.now c.args.other.now c.in-Some.first c.in-Some-index_of.second (c.args.self.now.pairs + 1) c.index_mut.result.now c.requires.order changed.found (sym (rw c.deref-2.ensures.value at c.in-Some-index_of.ensures)) changed.there fresh in
    let there = second_is c.args.self.now.hosts.items c.args.self.now.cores.items c.args.other.now c.in-Some.first c.in-Some-index_of.second c.keep.new.core c.index_mut-2.result.now c.requires.order (rw c.deref-2.ensures.value at c.in-Some-index_of.ensures) two c.index_mut-2.ensures.value in
    c.requires.order.each c.in-Some-index_of.second c.index_mut-2.result.now there

pub keep-requires-2-clause-command : goal.keep-requires-2-clause-command
keep-requires-2-clause-command c =
    let named = host_there c.args.self.now.hosts.items c.args.other.now c.in-Some-index_of.second c.index.result.now (rw c.deref-2.ensures.value at c.in-Some-index_of.ensures) c.index.ensures in
    let entry : c.in_ok-at_first.at_first ≡ peer c.args.other.now (c.args.self.now.pairs + 1) = c.in_ok-at_first.ensures.entry ∙ ap (λ (h : List ℕ). peer h (c.args.self.now.pairs + 1)) named in
    let judged = found_there c.args.self.now.hosts.items c.args.self.now.cores.items c.args.one.now c.in-Some.first c.index-3.result.now c.requires.order (rw c.deref.ensures.value at c.in-Some.ensures) c.index-3.ensures in
    let changed = found_there c.args.self.now.hosts.items c.args.self.now.cores.items c.args.one.now c.in-Some.first c.index_mut.result.now c.requires.order (rw c.deref.ensures.value at c.in-Some.ensures) c.index_mut.ensures.value in
    let same = same_machine c.args.self.now.cores.items c.in-Some.first c.index-3.result.now c.index_mut.result.now judged.there changed.there in
    let whole = unbroken_if (broken_command (town c.index-3.result.now.history) c.in_ok-at_first.at_first) (sym c.breaks_rule.ensures ∙ c.if-breaks_rule.false) in
    let unbroken : broken_command (town c.index_mut.result.now.history) c.in_ok-at_first.at_first ≡ None = subst (λ (m : ServerMachine). broken_command (town m.history) c.in_ok-at_first.at_first ≡ None) same whole in
    let fresh : broken_command (town c.index_mut.result.now.history) (peer c.args.other.now (c.args.self.now.pairs + 1)) ≡ None = subst (λ (x : Entry). broken_command (town c.index_mut.result.now.history) x ≡ None) entry unbroken in
    let two = are_two c.args.self.now.hosts.items c.args.self.now.cores.items c.args.one.now c.args.other.now c.in-Some.first c.in-Some-index_of.second (c.args.self.now.pairs + 1) c.index_mut.result.now c.requires.order changed.found (sym (rw c.deref-2.ensures.value at c.in-Some-index_of.ensures)) changed.there fresh in
    let there = second_is c.args.self.now.hosts.items c.args.self.now.cores.items c.args.other.now c.in-Some.first c.in-Some-index_of.second c.keep.new.core c.index_mut-2.result.now c.requires.order (rw c.deref-2.ensures.value at c.in-Some-index_of.ensures) two c.index_mut-2.ensures.value in
    let called = host_there c.args.self.now.hosts.items c.args.one.now c.in-Some.first c.index-2.result.now (rw c.deref.ensures.value at c.in-Some.ensures) c.index-2.ensures in
    let answer : c.in_ok-at_second.at_second ≡ peer c.args.one.now (c.args.self.now.pairs + 1) = c.in_ok-at_second.ensures.entry ∙ ap (λ (h : List ℕ). peer h (c.args.self.now.pairs + 1)) called in
    let right : IsTrue (is_host_text c.args.one.now) = subst (λ (h : List ℕ). IsTrue (is_host_text h)) called c.in_ok-at_second.ensures.host in
    let wants : IsCommand (town c.index_mut-2.result.now.history) (peer c.args.one.now (c.args.self.now.pairs + 1)) = ((c.requires.order.each c.in-Some-index_of.second c.index_mut-2.result.now there).hosted, right) in
    let demand : IsCommand (town c.index_mut-2.result.now.history) c.in_ok-at_second.at_second = subst (λ (x : Entry). IsCommand (town c.index_mut-2.result.now.history) x) (sym answer) wants in
    demand

pub keep-requires-2-clause-unbroken : goal.keep-requires-2-clause-unbroken
keep-requires-2-clause-unbroken c =
    let named = host_there c.args.self.now.hosts.items c.args.other.now c.in-Some-index_of.second c.index.result.now (rw c.deref-2.ensures.value at c.in-Some-index_of.ensures) c.index.ensures in
    let entry : c.in_ok-at_first.at_first ≡ peer c.args.other.now (c.args.self.now.pairs + 1) = c.in_ok-at_first.ensures.entry ∙ ap (λ (h : List ℕ). peer h (c.args.self.now.pairs + 1)) named in
    let judged = found_there c.args.self.now.hosts.items c.args.self.now.cores.items c.args.one.now c.in-Some.first c.index-3.result.now c.requires.order (rw c.deref.ensures.value at c.in-Some.ensures) c.index-3.ensures in
    let changed = found_there c.args.self.now.hosts.items c.args.self.now.cores.items c.args.one.now c.in-Some.first c.index_mut.result.now c.requires.order (rw c.deref.ensures.value at c.in-Some.ensures) c.index_mut.ensures.value in
    let same = same_machine c.args.self.now.cores.items c.in-Some.first c.index-3.result.now c.index_mut.result.now judged.there changed.there in
    let whole = unbroken_if (broken_command (town c.index-3.result.now.history) c.in_ok-at_first.at_first) (sym c.breaks_rule.ensures ∙ c.if-breaks_rule.false) in
    let unbroken : broken_command (town c.index_mut.result.now.history) c.in_ok-at_first.at_first ≡ None = subst (λ (m : ServerMachine). broken_command (town m.history) c.in_ok-at_first.at_first ≡ None) same whole in
    let fresh : broken_command (town c.index_mut.result.now.history) (peer c.args.other.now (c.args.self.now.pairs + 1)) ≡ None = subst (λ (x : Entry). broken_command (town c.index_mut.result.now.history) x ≡ None) entry unbroken in
    let two = are_two c.args.self.now.hosts.items c.args.self.now.cores.items c.args.one.now c.args.other.now c.in-Some.first c.in-Some-index_of.second (c.args.self.now.pairs + 1) c.index_mut.result.now c.requires.order changed.found (sym (rw c.deref-2.ensures.value at c.in-Some-index_of.ensures)) changed.there fresh in
    let there = second_is c.args.self.now.hosts.items c.args.self.now.cores.items c.args.other.now c.in-Some.first c.in-Some-index_of.second c.keep.new.core c.index_mut-2.result.now c.requires.order (rw c.deref-2.ensures.value at c.in-Some-index_of.ensures) two c.index_mut-2.ensures.value in
    let found = found_there c.args.self.now.hosts.items c.args.self.now.cores.items c.args.other.now c.in-Some-index_of.second c.index-4.result.now c.requires.order (rw c.deref-2.ensures.value at c.in-Some-index_of.ensures) c.index-4.ensures in
    let alike = same_machine c.args.self.now.cores.items c.in-Some-index_of.second c.index-4.result.now c.index_mut-2.result.now found.there there in
    let sound = unbroken_if (broken_command (town c.index-4.result.now.history) c.in_ok-at_second.at_second) (sym c.breaks_rule-2.ensures ∙ c.if-breaks_rule-2.false) in
    let last : broken_command (town c.index_mut-2.result.now.history) c.in_ok-at_second.at_second ≡ None = subst (λ (m : ServerMachine). broken_command (town m.history) c.in_ok-at_second.at_second ≡ None) alike sound in
    last

pub returns-clause-order : goal.returns-clause-order
returns-clause-order c =
    let named = host_there c.args.self.now.hosts.items c.args.other.now c.in-Some-index_of.second c.index.result.now (rw c.deref-2.ensures.value at c.in-Some-index_of.ensures) c.index.ensures in
    let entry : c.in_ok-at_first.at_first ≡ peer c.args.other.now (c.args.self.now.pairs + 1) = c.in_ok-at_first.ensures.entry ∙ ap (λ (h : List ℕ). peer h (c.args.self.now.pairs + 1)) named in
    let judged = found_there c.args.self.now.hosts.items c.args.self.now.cores.items c.args.one.now c.in-Some.first c.index-3.result.now c.requires.order (rw c.deref.ensures.value at c.in-Some.ensures) c.index-3.ensures in
    let changed = found_there c.args.self.now.hosts.items c.args.self.now.cores.items c.args.one.now c.in-Some.first c.index_mut.result.now c.requires.order (rw c.deref.ensures.value at c.in-Some.ensures) c.index_mut.ensures.value in
    let same = same_machine c.args.self.now.cores.items c.in-Some.first c.index-3.result.now c.index_mut.result.now judged.there changed.there in
    let whole = unbroken_if (broken_command (town c.index-3.result.now.history) c.in_ok-at_first.at_first) (sym c.breaks_rule.ensures ∙ c.if-breaks_rule.false) in
    let unbroken : broken_command (town c.index_mut.result.now.history) c.in_ok-at_first.at_first ≡ None = subst (λ (m : ServerMachine). broken_command (town m.history) c.in_ok-at_first.at_first ≡ None) same whole in
    let fresh : broken_command (town c.index_mut.result.now.history) (peer c.args.other.now (c.args.self.now.pairs + 1)) ≡ None = subst (λ (x : Entry). broken_command (town c.index_mut.result.now.history) x ≡ None) entry unbroken in
    let two = are_two c.args.self.now.hosts.items c.args.self.now.cores.items c.args.one.now c.args.other.now c.in-Some.first c.in-Some-index_of.second (c.args.self.now.pairs + 1) c.index_mut.result.now c.requires.order changed.found (sym (rw c.deref-2.ensures.value at c.in-Some-index_of.ensures)) changed.there fresh in
    let there = second_is c.args.self.now.hosts.items c.args.self.now.cores.items c.args.other.now c.in-Some.first c.in-Some-index_of.second c.keep.new.core c.index_mut-2.result.now c.requires.order (rw c.deref-2.ensures.value at c.in-Some-index_of.ensures) two c.index_mut-2.ensures.value in
    let valid : IsTrue (is_host_text c.args.other.now) = subst (λ (h : List ℕ). IsTrue (is_host_text h)) named c.in_ok-at_first.ensures.host in
    let asks : IsCommand (town c.index_mut.result.now.history) (peer c.args.other.now (c.args.self.now.pairs + 1)) = (changed.founded.hosted, valid) in
    let command : IsCommand (town c.index_mut.result.now.history) c.in_ok-at_first.at_first = subst (λ (x : Entry). IsCommand (town c.index_mut.result.now.history) x) (sym entry) asks in
    let called = host_there c.args.self.now.hosts.items c.args.one.now c.in-Some.first c.index-2.result.now (rw c.deref.ensures.value at c.in-Some.ensures) c.index-2.ensures in
    let answer : c.in_ok-at_second.at_second ≡ peer c.args.one.now (c.args.self.now.pairs + 1) = c.in_ok-at_second.ensures.entry ∙ ap (λ (h : List ℕ). peer h (c.args.self.now.pairs + 1)) called in
    let right : IsTrue (is_host_text c.args.one.now) = subst (λ (h : List ℕ). IsTrue (is_host_text h)) called c.in_ok-at_second.ensures.host in
    let wants : IsCommand (town c.index_mut-2.result.now.history) (peer c.args.one.now (c.args.self.now.pairs + 1)) = ((c.requires.order.each c.in-Some-index_of.second c.index_mut-2.result.now there).hosted, right) in
    let demand : IsCommand (town c.index_mut-2.result.now.history) c.in_ok-at_second.at_second = subst (λ (x : Entry). IsCommand (town c.index_mut-2.result.now.history) x) (sym answer) wants in
    let here = set_other c.args.self.now.cores.items c.in-Some.first c.keep.new.core c.in-Some-index_of.second two ∙ there in
    one_changed c.args.self.now.hosts.items (slice_set c.args.self.now.cores.items c.in-Some.first c.keep.new.core) c.in-Some-index_of.second c.index_mut-2.result.now c.keep-2.new.core c.in_ok-at_second.at_second
    (one_changed c.args.self.now.hosts.items c.args.self.now.cores.items c.in-Some.first c.index_mut.result.now c.keep.new.core c.in_ok-at_first.at_first c.requires.order changed.there command c.in_ok-keep.ensures.history c.in_ok-keep.ensures.founded)
    here demand c.in_ok-keep-2.ensures.history c.in_ok-keep-2.ensures.founded

pub returns-clause-added : goal.returns-clause-added
returns-clause-added c =
    let named = host_there c.args.self.now.hosts.items c.args.other.now c.in-Some-index_of.second c.index.result.now (rw c.deref-2.ensures.value at c.in-Some-index_of.ensures) c.index.ensures in
    let entry : c.in_ok-at_first.at_first ≡ peer c.args.other.now (c.args.self.now.pairs + 1) = c.in_ok-at_first.ensures.entry ∙ ap (λ (h : List ℕ). peer h (c.args.self.now.pairs + 1)) named in
    let judged = found_there c.args.self.now.hosts.items c.args.self.now.cores.items c.args.one.now c.in-Some.first c.index-3.result.now c.requires.order (rw c.deref.ensures.value at c.in-Some.ensures) c.index-3.ensures in
    let changed = found_there c.args.self.now.hosts.items c.args.self.now.cores.items c.args.one.now c.in-Some.first c.index_mut.result.now c.requires.order (rw c.deref.ensures.value at c.in-Some.ensures) c.index_mut.ensures.value in
    let same = same_machine c.args.self.now.cores.items c.in-Some.first c.index-3.result.now c.index_mut.result.now judged.there changed.there in
    let whole = unbroken_if (broken_command (town c.index-3.result.now.history) c.in_ok-at_first.at_first) (sym c.breaks_rule.ensures ∙ c.if-breaks_rule.false) in
    let unbroken : broken_command (town c.index_mut.result.now.history) c.in_ok-at_first.at_first ≡ None = subst (λ (m : ServerMachine). broken_command (town m.history) c.in_ok-at_first.at_first ≡ None) same whole in
    let fresh : broken_command (town c.index_mut.result.now.history) (peer c.args.other.now (c.args.self.now.pairs + 1)) ≡ None = subst (λ (x : Entry). broken_command (town c.index_mut.result.now.history) x ≡ None) entry unbroken in
    let two = are_two c.args.self.now.hosts.items c.args.self.now.cores.items c.args.one.now c.args.other.now c.in-Some.first c.in-Some-index_of.second (c.args.self.now.pairs + 1) c.index_mut.result.now c.requires.order changed.found (sym (rw c.deref-2.ensures.value at c.in-Some-index_of.ensures)) changed.there fresh in
    let there = second_is c.args.self.now.hosts.items c.args.self.now.cores.items c.args.other.now c.in-Some.first c.in-Some-index_of.second c.keep.new.core c.index_mut-2.result.now c.requires.order (rw c.deref-2.ensures.value at c.in-Some-index_of.ensures) two c.index_mut-2.ensures.value in
    let valid : IsTrue (is_host_text c.args.other.now) = subst (λ (h : List ℕ). IsTrue (is_host_text h)) named c.in_ok-at_first.ensures.host in
    let asks : IsCommand (town c.index_mut.result.now.history) (peer c.args.other.now (c.args.self.now.pairs + 1)) = (changed.founded.hosted, valid) in
    let called = host_there c.args.self.now.hosts.items c.args.one.now c.in-Some.first c.index-2.result.now (rw c.deref.ensures.value at c.in-Some.ensures) c.index-2.ensures in
    let answer : c.in_ok-at_second.at_second ≡ peer c.args.one.now (c.args.self.now.pairs + 1) = c.in_ok-at_second.ensures.entry ∙ ap (λ (h : List ℕ). peer h (c.args.self.now.pairs + 1)) called in
    let right : IsTrue (is_host_text c.args.one.now) = subst (λ (h : List ℕ). IsTrue (is_host_text h)) called c.in_ok-at_second.ensures.host in
    let wants : IsCommand (town c.index_mut-2.result.now.history) (peer c.args.one.now (c.args.self.now.pairs + 1)) = ((c.requires.order.each c.in-Some-index_of.second c.index_mut-2.result.now there).hosted, right) in
    let demand : IsCommand (town c.index_mut-2.result.now.history) c.in_ok-at_second.at_second = subst (λ (x : Entry). IsCommand (town c.index_mut-2.result.now.history) x) (sym answer) wants in
    let found = found_there c.args.self.now.hosts.items c.args.self.now.cores.items c.args.other.now c.in-Some-index_of.second c.index-4.result.now c.requires.order (rw c.deref-2.ensures.value at c.in-Some-index_of.ensures) c.index-4.ensures in
    let alike = same_machine c.args.self.now.cores.items c.in-Some-index_of.second c.index-4.result.now c.index_mut-2.result.now found.there there in
    let sound = unbroken_if (broken_command (town c.index-4.result.now.history) c.in_ok-at_second.at_second) (sym c.breaks_rule-2.ensures ∙ c.if-breaks_rule-2.false) in
    let last : broken_command (town c.index_mut-2.result.now.history) c.in_ok-at_second.at_second ≡ None = subst (λ (m : ServerMachine). broken_command (town m.history) c.in_ok-at_second.at_second ≡ None) alike sound in
    let here = set_other c.args.self.now.cores.items c.in-Some.first c.keep.new.core c.in-Some-index_of.second two ∙ there in
    peers_added c.args.self.now.hosts.items c.args.self.now.cores.items c.args.self.now.members c.args.self.now.pairs c.in-Some.first c.in-Some-index_of.second c.args.one.now c.args.other.now c.index_mut.result.now c.index_mut-2.result.now c.keep.new.core c.keep-2.new.core c.requires.order
    changed.found (sym (rw c.deref-2.ensures.value at c.in-Some-index_of.ensures)) changed.there here asks wants fresh
    (subst (λ (x : Entry). broken_command (town c.index_mut-2.result.now.history) x ≡ None) answer last)
    (subst (λ (x : Entry). c.keep.new.core.history ≡ c.index_mut.result.now.history ++ x ∷ []) entry c.in_ok-keep.ensures.history)
    (subst (λ (x : Entry). c.keep-2.new.core.history ≡ c.index_mut-2.result.now.history ++ x ∷ []) answer c.in_ok-keep-2.ensures.history)
