-- The number that a word writes.
use Rattle.std.specs.Prelude.{ℕ, ◌+◌, ◌-◌, ◌*◌, ◌^◌, Bool, true, false, cond, ◌&&◌, List, [], ◌∷◌, drop, Ok, Err, codes, Result, ◌==◌, nat_le, nat_lt}
use Rattle.deck.specs.declared.number.Base.{Base}
use Rattle.deck.specs.declared.number.Base.TheVariants.{Octal, Decimal, Hexadecimal}
use Rattle.deck.specs.declared.problem.Problem.{Problem}
use Rattle.deck.specs.declared.problem.Problem.TheVariants.{Number, Large}

abbrev pub radix : Base → ℕ
radix Octal = 8
radix Decimal = 10
radix Hexadecimal = 16

abbrev pub between : ℕ → ℕ → ℕ → Bool
between low high b = nat_le low b && nat_le b high

-- what a byte stands for as a digit: 0-9, a-f and A-F; 16 where it is none
abbrev pub digit : ℕ → ℕ
digit b = cond (between 48 57 b) (b - 48) (cond (between 97 102 b) (b - 87) (cond (between 65 70 b) (b - 55) 16))

-- every byte is a digit of the base
abbrev pub all_digits : ℕ → List ℕ → Bool
all_digits base [] = true
all_digits base (b ∷ bs) = nat_lt (digit b) base && all_digits base bs

-- the number that digits write, where n was written before them
abbrev pub value_after : ℕ → ℕ → List ℕ → ℕ
value_after base n [] = n
value_after base n (b ∷ bs) = value_after base (n * base + digit b) bs

-- numbers go up to 4294967295
abbrev pub fitting : ℕ → Result ℕ Problem
fitting n = cond (nat_lt n (2 ^ 32)) (Ok n) (Err Large)

-- the number that the digits of a base write; there has to be one
abbrev pub numeral : ℕ → List ℕ → Result ℕ Problem
numeral base [] = Err Number
numeral base (b ∷ bs) = cond (all_digits base (b ∷ bs)) (fitting (value_after base 0 (b ∷ bs))) (Err Number)

-- a word begins with a prefix
abbrev pub begins : List ℕ → List ℕ → Bool
begins [] w = true
begins (p ∷ ps) [] = false
begins (p ∷ ps) (b ∷ bs) = b == p && begins ps bs

-- a word as a number: octal after 0o, hexadecimal after 0x, else decimal
abbrev pub number : List ℕ → Result ℕ Problem
number w = cond (begins (codes "0o") w) (numeral 8 (drop 2 w)) (cond (begins (codes "0x") w) (numeral 16 (drop 2 w)) (numeral 10 w))
