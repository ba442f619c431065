use Rattle.std.proofs.Common.{arith}
use Rattle.fedi_demo.proofs.Appended.{one_more, state_more}
use Rattle.fedi_demo.proofs.asking.requests.Goals as goal

pub requests-preserved : goal.requests-preserved
requests-preserved c =
    let before = c.requests.invariant in
    let short = c.requests-test.true in
    record {
      within = omega (arith, short);
      text = rw (c.in_ok-put_request.ensures, c.next_four-four.ensures.drawn, c.next_four-four.ensures.state)
          (one_more c.requests.text.items _ c.requests.draws c.args.first c.args.count c.requests.done short before.text);
      state = rw c.next_four-four.ensures.state (state_more c.requests.draws _ c.args.count c.requests.done short before.state);
    }
