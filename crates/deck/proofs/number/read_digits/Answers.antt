use Rattle.std.proofs.Common.{◌≤◌, get_or, rules}
use Rattle.std.specs.Char.{digit_value}
use Rattle.deck.proofs.Digits.{digit_on, digit_stop}
use Rattle.deck.proofs.number.read_digits.Goals as goal

pub loop-b-preserved : goal.loop-b-preserved
loop-b-preserved c =
    digit_on c.radix-radix.result c.in_ok-digit.digit c.loop-b.value c.and_then-value.result c.args.digits.now c.loop-b.b-index _ _ c.radix-radix.ensures.above c.radix-radix.ensures.within c.loop-b-test.true (search rules) (search rules) (λ n p. search rules) c.and_then-value.ensures c.loop-b.invariant

pub returns-in_err-digit : goal.returns-in_err-digit
returns-in_err-digit c =
    let none : c.radix-radix.result ≤ digit_value (get_or c.args.digits.now c.loop-b.b-index 0) = search rules in
    let stop = digit_stop c.radix-radix.result c.loop-b.value c.args.digits.now c.loop-b.b-index c.radix-radix.ensures.within c.loop-b-test.true none in
    search rules
