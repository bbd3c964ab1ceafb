-- What a line says.
use Rattle.std.specs.Prelude.{ℕ, cond, List, [], ◌∷◌, Some, None, Ok, Err, codes, Option, Result}
use Rattle.std.specs.Str.{bytes_eq}
use Rattle.deck.specs.declared.command.Style.{Style}
use Rattle.deck.specs.declared.command.Style.TheVariants as styles
use Rattle.deck.specs.declared.keyword.Keyword.{Keyword}
use Rattle.deck.specs.declared.problem.Problem.{Problem}
use Rattle.deck.specs.declared.problem.Problem.TheVariants as problems
use Rattle.deck.specs.Commands.{Meant, recording, command}
use Rattle.deck.specs.Keywords.{keyword}
use Rattle.deck.specs.Readings.{then, numbers}
use Rattle.deck.specs.Words.{words}

abbrev pub style : List ℕ → Result Style Problem
style w = cond (bytes_eq (codes "console") w) (Ok styles.Console) (cond (bytes_eq (codes "plain") w) (Ok styles.Plain) (Err problems.Style))

-- nothing may follow
abbrev pub alone : List (List ℕ) → Meant → Result Meant Problem
alone [] m = Ok m
alone (w ∷ ws) m = Err problems.Many

-- the words after `record`
abbrev pub recorded : List (List ℕ) → Result Meant Problem
recorded [] = Err problems.Few
recorded (w ∷ ws) = then (style w) (λ s. alone ws (recording s))

-- the words after another command's name
abbrev pub ordered : Option Keyword → List (List ℕ) → Result Meant Problem
ordered None ws = Err problems.Unknown
ordered (Some k) ws = then (numbers ws) (command k)

-- a name with the words after it
abbrev pub named : List ℕ → List (List ℕ) → Result Meant Problem
named w ws = cond (bytes_eq (codes "record") w) (recorded ws) (ordered (keyword w) ws)

-- the words of a line
abbrev pub said : List (List ℕ) → Result (Option Meant) Problem
said [] = Ok None
said (w ∷ ws) = then (named w ws) (λ m. Ok (Some m))

abbrev pub reading : List ℕ → Result (Option Meant) Problem
reading line = said (words line)
