use Rattle.std.proofs.Common.{arith, rules}
use Rattle.ones.specs.Numbers.{with_low}
use Rattle.ones.proofs.widths.Word.with_low.Goals as goal

pub returns : goal.returns
unfolding with_low
returns c =
    let f = c.args.self.fits in
    let g = c.args.low.fits in
    let e = c.low.ensures.bits in
    record { answer = search rules; upper = omega arith; lower = omega arith }
