-- The numbers found, with those that are left, are all.
use Rattle.std.proofs.Common.{◌≡◌, ◌++◌, Ok, vec_items}
use Rattle.deck.specs.Readings.{then, numbers}
use Rattle.deck.specs.Words.{separated}
use Rattle.deck.proofs.word.read_numbers.Given as goal

abbrev pub invariant-loop-word : goal.invariant-loop-word
invariant-loop-word l =
    then (numbers (separated l.word-iterator.text.now)) (λ ns. Ok (vec_items l.found ++ ns)) ≡ numbers (separated l.words.text.now)
