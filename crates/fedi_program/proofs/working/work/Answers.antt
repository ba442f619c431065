use Rattle.std.proofs.Common.{arith, refl}
use Rattle.std.proofs.lemmas.List.{with_items_is}
use Rattle.fedi_log.specs.Log.{given}
use Rattle.fedi_program.proofs.WorkLemmas.{tried_in}
use Rattle.fedi_program.proofs.working.work.Goals as goal

pub returns-in-Inetd-clause-works : goal.returns-in-Inetd-clause-works
returns-in-Inetd-clause-works g c =
    let e = c.converse.ensures.ends in
    rw c.in-Inetd.is (e.0, e.1, (e.2, c.converse.ensures.causes))

pub returns-in-AddActor-clause-works : goal.returns-in-AddActor-clause-works
returns-in-AddActor-clause-works g c =
    let m = c.make_member-status.ensures in
    rw c.in-AddActor.is (m.crashes.0, m.crashes.1, m.made)

pub returns-in-AddPeer-clause-works : goal.returns-in-AddPeer-clause-works
returns-in-AddPeer-clause-works g c =
    let m = c.make_peer-status.ensures in
    rw c.in-AddPeer.is (m.crashes.0, m.crashes.1, m.made)

pub returns-in-Deliver-clause-works : goal.returns-in-Deliver-clause-works
returns-in-Deliver-clause-works g c =
    let d = c.deliver_by.ensures in
    let items = with_items_is c.args.benches.now c.deliver_by.new.benches (omega (arith, c.deliver_by.auto.benches, c.deref_mut.ensures.len)) in
    rw c.in-Deliver.is (d.crashes.0, d.crashes.1, tried_in _ _ _ _ _ _ c.args.benches.now c.deref_mut.result.now c.deliver_by.new.benches _ _ _ c.deref_mut.ensures.value items d.tried)

pub returns-in-Export-clause-works : goal.returns-in-Export-clause-works
returns-in-Export-clause-works g c =
    rw c.in-Export.is (given c.args.core.history, c.print_table-status.ensures.crashes, (refl, refl, c.print_table-status.ensures.printed))

pub returns-in-Check-clause-works : goal.returns-in-Check-clause-works
returns-in-Check-clause-works g c =
    rw c.in-Check.is (given c.args.core.history, c.print_line-status.ensures.crashes, (refl, refl, c.print_line-status.ensures.printed))

pub returns-in-Inetd-clause-rest : goal.returns-in-Inetd-clause-rest
returns-in-Inetd-clause-rest g c =
    rw c.in-Inetd.is (record { input = λ other. absurd (other refl); clock = c.converse.ensures.clock; entropy = λ _. refl; benches = λ _ _. refl })

pub returns-in-AddActor-clause-rest : goal.returns-in-AddActor-clause-rest
returns-in-AddActor-clause-rest g c = rw c.in-AddActor.is (record { input = λ _. refl; clock = refl; entropy = λ none. absurd (cc none); benches = λ _ _. refl })

pub returns-in-AddPeer-clause-rest : goal.returns-in-AddPeer-clause-rest
returns-in-AddPeer-clause-rest g c = rw c.in-AddPeer.is (record { input = λ _. refl; clock = refl; entropy = λ _. refl; benches = λ _ _. refl })

pub returns-in-Deliver-clause-rest : goal.returns-in-Deliver-clause-rest
returns-in-Deliver-clause-rest g c = rw c.in-Deliver.is (record { input = λ _. refl; clock = refl; entropy = λ _. refl; benches = λ _ other. absurd (other refl) })

pub returns-in-Export-clause-rest : goal.returns-in-Export-clause-rest
returns-in-Export-clause-rest g c = rw c.in-Export.is (record { input = λ _. refl; clock = refl; entropy = λ _. refl; benches = λ _ _. refl })

pub returns-in-Check-clause-rest : goal.returns-in-Check-clause-rest
returns-in-Check-clause-rest g c = rw c.in-Check.is (record { input = λ _. refl; clock = refl; entropy = λ _. refl; benches = λ _ _. refl })
