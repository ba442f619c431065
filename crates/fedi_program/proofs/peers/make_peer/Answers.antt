use Rattle.std.proofs.Common.{◌∙◌, true, false, inl, inr, refl, sym}
use Rattle.fedi_log.specs.Keeping.{state_of}
use Rattle.fedi_logged.proofs.SessionLemmas.{now_of}
use Rattle.fedi_town.specs.Histories.{town}
use Rattle.fedi_program.specs.Peers.{peer_line}
use Rattle.fedi_program.proofs.MemberLemmas.{unmoved}
use Rattle.fedi_program.proofs.PeerLemmas.{at_host, peer_ends}
use Rattle.fedi_program.proofs.peers.make_peer.Goals as goal

pub enroll-requires : goal.enroll-requires
enroll-requires g c = record { command = (c.requires.hosted, c.in-Ok.ensures.host.shape) }

pub returns-in-Err-BadHost-clause-made : goal.returns-in-Err-BadHost-clause-made
returns-in-Err-BadHost-clause-made g c = inr (inl (c.in-Err-BadHost.ensures.bad_host c.in-Err-BadHost.field-0-is, (refl, c.report.ensures)))

pub returns-then-is_taken_host-clause-made : goal.returns-then-is_taken_host-clause-made
returns-then-is_taken_host-clause-made g c =
    let known = sym (rw c.facts.ensures.town at c.is_taken_host.ensures) ∙ c.if-is_taken_host.true in
    let host = at_host (town c.args.core.now.history) c.args.peer.host.now c.in-Ok.host true c.in-Ok.ensures.ok c.in-Ok.ensures.host known in
    inr (inr (inl (host.0, host.1, (refl, c.report-then-is_taken_host.ensures))))

pub returns-in_default-clause-made : goal.returns-in_default-clause-made
returns-in_default-clause-made g c =
    let known = sym (rw c.facts.ensures.town at c.is_taken_host.ensures) ∙ c.if-is_taken_host.false in
    let host = at_host (town c.args.core.now.history) c.args.peer.host.now c.in-Ok.host false c.in-Ok.ensures.ok c.in-Ok.ensures.host known in
    inr (inr (inr (inl (host.0, host.1, sym (rw c.as_bytes.ensures.value at c.in_default.ensures.key), (refl, c.report-in_default.ensures)))))

pub returns-clause-made : goal.returns-clause-made
returns-clause-made g c =
    let known = sym (rw c.facts.ensures.town at c.is_taken_host.ensures) ∙ c.if-is_taken_host.false in
    peer_ends g.P.Keeper.growth g.P.Keeper.room _ (state_of c.args.core.now.history (g.P.Keeper.shown c.args.core.now.keeper)) _ _ _ c.args.peer.host.now c.in-Ok.host
    c.args.peer.key.now c.in-Some.key c.args.peer.address.now c.in-Ok-from_text.address c.args.peer.relay c.clamped.result _
    c.in-Ok.ensures.ok c.in-Ok-from_text.ensures c.in-Ok.ensures.host known (sym (rw c.as_bytes.ensures.value at c.in-Some.ensures.key)) (now_of _ c.now.result _ c.now.ensures c.clamped.ensures)
    (c.enroll.ensures.ends (peer_line c.args.peer.host.now) c.peer_line.ensures)

pub returns-in-Err-BadHost-clause-crashes : goal.returns-in-Err-BadHost-clause-crashes
returns-in-Err-BadHost-clause-crashes g c =
    unmoved g.P.Keeper.growth g.P.Keeper.room (state_of c.args.core.now.history (g.P.Keeper.shown c.args.core.now.keeper)) _ (g.met.P.Keeper.crash_now c.args.core.now.keeper)

pub returns-in-Err-Memory-clause-crashes : goal.returns-in-Err-Memory-clause-crashes
returns-in-Err-Memory-clause-crashes g c =
    unmoved g.P.Keeper.growth g.P.Keeper.room (state_of c.args.core.now.history (g.P.Keeper.shown c.args.core.now.keeper)) _ (g.met.P.Keeper.crash_now c.args.core.now.keeper)

pub returns-then-is_taken_host-clause-crashes : goal.returns-then-is_taken_host-clause-crashes
returns-then-is_taken_host-clause-crashes g c =
    unmoved g.P.Keeper.growth g.P.Keeper.room (state_of c.args.core.now.history (g.P.Keeper.shown c.args.core.now.keeper)) _ (g.met.P.Keeper.crash_now c.args.core.now.keeper)

pub returns-in_default-clause-crashes : goal.returns-in_default-clause-crashes
returns-in_default-clause-crashes g c =
    unmoved g.P.Keeper.growth g.P.Keeper.room (state_of c.args.core.now.history (g.P.Keeper.shown c.args.core.now.keeper)) _ (g.met.P.Keeper.crash_now c.args.core.now.keeper)

pub returns-in_default-from_text-clause-crashes : goal.returns-in_default-from_text-clause-crashes
returns-in_default-from_text-clause-crashes g c =
    unmoved g.P.Keeper.growth g.P.Keeper.room (state_of c.args.core.now.history (g.P.Keeper.shown c.args.core.now.keeper)) _ (g.met.P.Keeper.crash_now c.args.core.now.keeper)
