use Rattle.std.proofs.Common.{◌<◌, ◌≡◌, Some, ap, arith, get_or, length, refl, subst, sym, ◌∙◌}
use Rattle.std.specs.Prelude.{map, slice_get, slice_set}
use Rattle.std.proofs.lemmas.Option.{slice_get-get_or}
use Rattle.fedi_log.specs.Claims.{HasClaimed}
use Rattle.fedi_world.specs.Ending.{over, over_at}
use Rattle.fedi_world.specs.Scenes.{attempt_of}
use Rattle.fedi_world.specs.Standing.{pair_at}
use Rattle.fedi_world.proofs.Crashed.{claim_held, first_all, first_at, first_kept, first_set, gives_more, gives_none, over_first, over_no, over_shut, over_yes, released_history, tied_over}
use Rattle.fedi_world.proofs.Spots.{set_same}
use Rattle.fedi_world.proofs.ending.end_all.Goals as goal
use Rattle.fedi_world.proofs.ending.end_all.Goals.{then-pending-server+then-is_open, else-pending-server, else-pending-server-via-then-pending-server+else-is_open, else-pending-server-via-else-pending-server}

pub loop-number-init : goal.loop-number-init
loop-number-init g c =
    record { attempts = refl; tied = c.requires.tied; seat = gives_none c.args.seat.now }

pub release-requires : goal.release-requires
release-requires g c =
    let n = c.loop-number.number in
    let y = get_or c.loop-number.attempts n c.index-attempts-number.result in
    let below : n < length c.loop-number.attempts = let t = c.loop-number-test.true in let e = c.loop-number.auto.attempts in omega (arith, t, e) in
    let there = slice_get-get_or c.loop-number.attempts n c.index-attempts-number.result below in
    let has = claim_held c.loop-number.attempts c.args.server n c.loop-number.seat.log y there c.if-pending-server.true (sym c.is_open.ensures ∙ c.if-is_open.true) c.loop-number.invariant.tied in
    record { claimed = (pair_at (attempt_of y), subst (λ k. HasClaimed (Some n) c.loop-number.seat.log (pair_at (attempt_of y)) k) (sym c.claim_of.ensures) has) }

pub loop-number-preserved : goal.loop-number-preserved
loop-number-preserved g c =
    let n = c.loop-number.number in
    let y = get_or c.loop-number.attempts n c.index-attempts-number.result in
    let below : n < length c.loop-number.attempts = let t = c.loop-number-test.true in let e = c.loop-number.auto.attempts in omega (arith, t, e) in
    let there = slice_get-get_or c.loop-number.attempts n c.index-attempts-number.result below in
    let xs = c.args.attempts.now in
    let s = c.args.server in
    let here : slice_get xs n ≡ Some y = sym (first_at s n xs) ∙ (ap (λ zs. slice_get zs n) (sym c.loop-number.invariant.attempts) ∙ there) in
    elim c.if-pending-server.branch [
      | then-pending-server+then-is_open w ↦
          let open_yet = sym w.is_open.ensures ∙ w.if-is_open.true in
          let has = claim_held c.loop-number.attempts s n c.loop-number.seat.log y there w.if-pending-server.true open_yet c.loop-number.invariant.tied in
          let own = subst (λ k. HasClaimed (Some n) c.loop-number.seat.log (pair_at (attempt_of y)) k) (sym w.claim_of.ensures) has in
          let is = w.release.ensures.released (pair_at (attempt_of y)) own in
          rw (w.attempts-is, w.seat-is) record {
            attempts =
                ap (λ z. slice_set c.loop-number.attempts n z) (sym (over_yes s y w.if-pending-server.true open_yet))
                ∙ (ap (λ zs. slice_set zs n (over_at s y)) c.loop-number.invariant.attempts ∙ first_set s n xs y here);
            tied = tied_over c.loop-number.attempts s n c.loop-number.seat.log w.release.new.self.log y c.loop-number.seat.core.history c.loop-number.seat.core.rows there w.if-pending-server.true open_yet
                c.show.ensures.seat is c.loop-number.invariant.tied;
            seat = gives_more c.args.seat.now c.loop-number.seat w.release.new.self c.loop-number.invariant.seat w.release.ensures.machine
                (released_history c.loop-number.seat.log w.release.new.self.log n y is);
          }
      | else-pending-server w ↦
          elim w.else-pending-server.branch [
            | else-pending-server-via-then-pending-server+else-is_open v ↦
                let kept : c.if-pending-server.attempts ≡ c.loop-number.attempts = w.attempts-is ∙ (v.attempts-is ∙ set_same c.loop-number.attempts n y there) in
                rw (kept, w.seat-is) record {
                  attempts = c.loop-number.invariant.attempts ∙ first_kept s n xs y here (over_shut s y (sym v.is_open.ensures ∙ v.if-is_open.false));
                  tied = c.loop-number.invariant.tied;
                  seat = c.loop-number.invariant.seat;
                }
            | else-pending-server-via-else-pending-server v ↦
                let kept : c.if-pending-server.attempts ≡ c.loop-number.attempts = w.attempts-is ∙ (v.attempts-is ∙ set_same c.loop-number.attempts n y there) in
                rw (kept, w.seat-is) record {
                  attempts = c.loop-number.invariant.attempts ∙ first_kept s n xs y here (over_no s y v.if-pending-server.false);
                  tied = c.loop-number.invariant.tied;
                  seat = c.loop-number.invariant.seat;
                }
          ]
    ]

pub returns-clause-tied : goal.returns-clause-tied
returns-clause-tied g c =
    c.loop-number.invariant.tied

pub returns-clause-ended : goal.returns-clause-ended
returns-clause-ended g c =
    let t = c.loop-number-test.false in
    let e = c.loop-number.auto.number-end in
    let last : c.loop-number.number ≡ length c.args.attempts.now = omega (arith, t, e) in
    c.loop-number.invariant.attempts ∙ (ap (λ n. over_first c.args.server n c.args.attempts.now) last ∙ first_all c.args.server c.args.attempts.now)

pub returns-clause-seat : goal.returns-clause-seat
returns-clause-seat g c =
    c.loop-number.invariant.seat
