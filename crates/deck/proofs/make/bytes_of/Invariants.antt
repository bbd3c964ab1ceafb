-- The numbers that were passed are bytes, and what is left decides.
use Rattle.std.proofs.Common.{◌≡◌, take, drop, vec_items}
use Rattle.deck.specs.Commands.{each_below}
use Rattle.deck.proofs.make.bytes_of.Given as goal

abbrev pub invariant-loop-n : goal.invariant-loop-n
invariant-loop-n l = (vec_items l.bytes ≡ take l.n-index l.numbers) × (each_below 256 (drop l.n-index l.numbers) ≡ each_below 256 l.numbers)
