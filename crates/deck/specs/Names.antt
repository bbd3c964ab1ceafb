-- What is printed of a bad line.
use Rattle.std.specs.Prelude.{ℕ, List, codes}
use Rattle.deck.specs.declared.problem.Problem.{Problem}
use Rattle.deck.specs.declared.problem.Problem.TheVariants.{Unknown, Number, Large, Few, Many, Byte, Flag, Style, Memory}

abbrev pub problem_name : Problem → List ℕ
problem_name Unknown = codes "unknown word"
problem_name Number = codes "not a number"
problem_name Large = codes "number above 4294967295"
problem_name Few = codes "too few numbers"
problem_name Many = codes "too many numbers"
problem_name Byte = codes "byte above 255"
problem_name Flag = codes "flag above 1"
problem_name Style = codes "neither console nor plain"
problem_name Memory = codes "no memory"
