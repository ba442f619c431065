use Rattle.std.proofs.Common.{◌≡◌, ◌<◌, ◌*◌, pos, ◌*ℤ◌, arith}
use Rattle.std.specs.Duration.{as_nanos}
use Rattle.jiff_core.specs.DateTime.{civil_nanos}
use Rattle.jiff_core.proofs.SignedLemmas.{signed_arith}
use Rattle.fedi_text.proofs.ClockLemmas.{clock_is, epoch_nanos}
use Rattle.fedi_text.proofs.moment.Moment.shown.Goals as goal

pub add-requires : goal.add-requires
add-requires c =
    let start : civil_nanos c.datetime.result ≡ pos 0 =
    epoch_nanos c.datetime.result c.datetime.ensures.date c.datetime.ensures.time in
    let bound : c.args.self < 253402300800 = omega (arith, c.self.invariant, c.self.view_is) in
    let nanos : as_nanos c.from_secs.result ≡ c.args.self * 1000000000 = omega (arith, c.from_secs.ensures, c.self.view_is) in
    omega (arith, signed_arith, start, bound, nanos)

pub returns : goal.returns
returns c =
    let start : civil_nanos c.datetime.result ≡ pos 0 =
    epoch_nanos c.datetime.result c.datetime.ensures.date c.datetime.ensures.time in
    let bound : c.args.self < 253402300800 = omega (arith, c.self.invariant, c.self.view_is) in
    let nanos : as_nanos c.from_secs.result ≡ c.args.self * 1000000000 = omega (arith, c.from_secs.ensures, c.self.view_is) in
    let sum : civil_nanos c.add.result ≡ pos c.args.self *ℤ pos 1000000000 =
    omega (arith, signed_arith, start, nanos, c.add.ensures) in
    clock_is c.args.self c.add.result bound sum
