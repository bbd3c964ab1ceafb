-- The value so far, with the digits that are left, gives the whole.
use Rattle.std.proofs.Common.{◌≡◌, Some, drop}
use Rattle.deck.proofs.Digits.{after}
use Rattle.deck.proofs.number.read_digits.Given as goal

abbrev pub invariant-loop-b : goal.invariant-loop-b
invariant-loop-b l = after l.radix l.value (drop l.b-index l.digits) ≡ after l.radix (Some 0) l.digits
