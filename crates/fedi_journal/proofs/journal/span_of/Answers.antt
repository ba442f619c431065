use Rattle.std.proofs.Common.{◌≡◌, ◌+◌, ◌<◌, length, get_or, arith, rules}
use Rattle.fedi_journal.proofs.KeeperSteps.{apart_next}
use Rattle.fedi_journal.proofs.journal.span_of.Goals as goal

pub overflow_add-result : goal.overflow_add-result
overflow_add-result c =
    let gates = c.args.gates.now in
    let gate : c.in_ok-gate.field-0.now ≡ get_or gates c.args.place c.args.end = search rules in
    let within : c.args.place < length gates = search rules in
    let gap = apart_next (9 + c.args.width) gates c.args.end c.args.place within c.requires.apart in
    omega (arith, gate, gap.0, gap.1, c.requires.fits)

pub overflow_sub-result : goal.overflow_sub-result
overflow_sub-result c =
    let gates = c.args.gates.now in
    let gate : c.in_ok-gate.field-0.now ≡ get_or gates c.args.place c.args.end = search rules in
    let next : c.unwrap_or-next.result ≡ get_or gates (c.args.place + 1) c.args.end = search rules in
    let within : c.args.place < length gates = search rules in
    let gap = apart_next (9 + c.args.width) gates c.args.end c.args.place within c.requires.apart in
    omega (arith, gate, next, gap.0)

pub overflow_sub-result-2 : goal.overflow_sub-result-2
overflow_sub-result-2 c =
    let gates = c.args.gates.now in
    let gate : c.in_ok-gate.field-0.now ≡ get_or gates c.args.place c.args.end = search rules in
    let next : c.unwrap_or-next.result ≡ get_or gates (c.args.place + 1) c.args.end = search rules in
    let within : c.args.place < length gates = search rules in
    let gap = apart_next (9 + c.args.width) gates c.args.end c.args.place within c.requires.apart in
    omega (arith, gate, next, gap.0)

pub returns-clause-inside : goal.returns-clause-inside
returns-clause-inside c =
    let gates = c.args.gates.now in
    let gate : c.in_ok-gate.field-0.now ≡ get_or gates c.args.place c.args.end = search rules in
    let next : c.unwrap_or-next.result ≡ get_or gates (c.args.place + 1) c.args.end = search rules in
    let within : c.args.place < length gates = search rules in
    let gap = apart_next (9 + c.args.width) gates c.args.end c.args.place within c.requires.apart in
    omega (arith, gate, next, gap.0, gap.1)
