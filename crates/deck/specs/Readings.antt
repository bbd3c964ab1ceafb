-- Numbers of words, and what a result that may lack memory says.
use Rattle.std.specs.Prelude.{◌≡◌, ℕ, List, [], ◌∷◌, Ok, Err, Result, ◌≢◌}
use Rattle.deck.specs.declared.problem.Problem.{Problem}
use Rattle.deck.specs.declared.problem.Problem.TheVariants.{Memory}
use Rattle.deck.specs.Numbers.{number}

-- go on with what was read, or stop at the first problem
abbrev pub then : {A B : Type 0} → Result A Problem → (A → Result B Problem) → Result B Problem
then (Ok x) f = f x
then (Err e) f = Err e

-- every word as a number, or the problem of the first that is none
abbrev pub numbers : List (List ℕ) → Result (List ℕ) Problem
numbers [] = Ok []
numbers (w ∷ ws) = then (number w) (λ n. then (numbers ws) (λ ns. Ok (n ∷ ns)))

-- a result means s, where f gives what a value means; nothing is said where memory fails
abbrev pub Means : {A B : Type 0} → Result A Problem → (A → B) → Result B Problem → Type 0
Means (Ok x) f s = Ok (f x) ≡ s
Means (Err e) f s = (e ≢ Memory) → Err e ≡ s
