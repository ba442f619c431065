use Rattle.std.proofs.Common.{sym, refl, ◌∙◌}
use Rattle.std.proofs.lemmas.Option.{slice_get_past}
use Rattle.fedi_world.proofs.Finding.{no_attempt, other_of, shut_of}
use Rattle.fedi_world.proofs.Spots.{index_is}
use Rattle.fedi_world.proofs.reaching.open_attempt.Goals as goal

pub returns-in-Some-clause-some : goal.returns-in-Some-clause-some
returns-in-Some-clause-some g =
    let p = g.in_ok-packet.packet.now in
    let gp = g.in_ok-packet.ensures.lookup in
    let sent = index_is g.args.requests.now g.args.request p gp.3.0 gp.1 in
    let a = g.in-Some.pending.now in
    let ga = g.in-Some.ensures.lookup in
    let there = index_is g.args.attempts.now p.attempt a ga.3.0 ga.1 in
    record { packet = p; sent = sent; of = refl; attempt = a; there = there; open_yet = sym g.is_open.ensures ∙ g.if-is_open.true; last = g.if-pending-request.true }

pub returns-in_default-clause-none : goal.returns-in_default-clause-none
returns-in_default-clause-none g =
    let p = g.in_ok-packet.packet.now in
    let gp = g.in_ok-packet.ensures.lookup in
    let sent = index_is g.args.requests.now g.args.request p gp.3.0 gp.1 in
    let a = g.in-Some.pending.now in
    let ga = g.in-Some.ensures.lookup in
    let there = index_is g.args.attempts.now p.attempt a ga.3.0 ga.1 in
    other_of g.args.requests.now g.args.attempts.now g.args.request p a sent there g.if-pending-request.false

pub returns-in_default-2-clause-none : goal.returns-in_default-2-clause-none
returns-in_default-2-clause-none g =
    let p = g.in_ok-packet.packet.now in
    let gp = g.in_ok-packet.ensures.lookup in
    let sent = index_is g.args.requests.now g.args.request p gp.3.0 gp.1 in
    let a = g.in-Some.pending.now in
    let ga = g.in-Some.ensures.lookup in
    let there = index_is g.args.attempts.now p.attempt a ga.3.0 ga.1 in
    shut_of g.args.requests.now g.args.attempts.now g.args.request p a sent there (sym g.is_open.ensures ∙ g.if-is_open.false)

pub returns-in_default-3-clause-none : goal.returns-in_default-3-clause-none
returns-in_default-3-clause-none g =
    let p = g.in_ok-packet.packet.now in
    let gp = g.in_ok-packet.ensures.lookup in
    let sent = index_is g.args.requests.now g.args.request p gp.3.0 gp.1 in
    let got = rw g.in_default.is at g.get-2.ensures.lookup in
    no_attempt g.args.requests.now g.args.attempts.now g.args.request p sent (slice_get_past g.args.attempts.now p.attempt got.3)
