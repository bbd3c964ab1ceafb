-- The words of a line.
use Rattle.std.specs.Prelude.{ℕ, Bool, cond, ◌||◌, List, [], ◌∷◌, ◌++◌, ◌==◌}

-- what stands before the first `#`
abbrev pub uncommented : List ℕ → List ℕ
uncommented [] = []
uncommented (b ∷ bs) = cond (b == 35) [] (b ∷ uncommented bs)

-- a space, a tab or a carriage return
abbrev pub blank : ℕ → Bool
blank b = b == 32 || (b == 9 || b == 13)

-- a word that is at its end, if it has any byte
abbrev pub ended : List ℕ → List (List ℕ)
ended [] = []
ended (b ∷ w) = (b ∷ w) ∷ []

-- the words of a text that goes on after the bytes w of a word
abbrev pub words_after : List ℕ → List ℕ → List (List ℕ)
words_after w [] = ended w
words_after w (b ∷ bs) = cond (blank b) (ended w ++ words_after [] bs) (words_after (w ++ b ∷ []) bs)

-- the words of a text, which blanks separate
abbrev pub separated : List ℕ → List (List ℕ)
separated text = words_after [] text

abbrev pub words : List ℕ → List (List ℕ)
words line = separated (uncommented line)
