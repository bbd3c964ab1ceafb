use Rattle.std.specs.Prelude.{ℕ, ◌+◌, ◌-◌, ◌*◌, ◌/◌, ◌%◌, ◌^◌, Bool, cond, not, ◌&&◌, ◌==◌, nat_le, nat_lt}

-- the number of w ones
abbrev pub ones : ℕ → ℕ
ones w = 2 ^ w - 1

-- the sum of a and b, the carry out of the top added in at the bottom
abbrev pub sum : ℕ → ℕ → ℕ → ℕ
sum w a b = cond (nat_lt (a + b) (ones w)) (a + b) (a + b - ones w)

-- the top one of a's w bits is set
abbrev pub negative : ℕ → ℕ → Bool
negative w a = nat_le (2 ^ (w - 1)) a

-- a with the top one of its w bits turned
abbrev pub flipped : ℕ → ℕ → ℕ
flipped w a = cond (negative w a) (a - 2 ^ (w - 1)) (a + 2 ^ (w - 1))

-- a, with no bits in place of w ones
abbrev pub settled : ℕ → ℕ → ℕ
settled w a = cond (a == ones w) 0 a

-- the bit of a at place i
abbrev pub bit : ℕ → ℕ → ℕ
bit i a = a / 2 ^ i % 2

-- a moved left by k ≤ w places: the k bits that leave at the top come in at the bottom
abbrev pub rotated : ℕ → ℕ → ℕ → ℕ
rotated w k a = a % 2 ^ (w - k) * 2 ^ k + a / 2 ^ (w - k)

-- a moved right by k places: where the top bit is set the places that are left empty hold ones
abbrev pub shifted : ℕ → ℕ → ℕ → ℕ
shifted w k a = cond (negative w a) (ones w - (ones w - a) / 2 ^ k) (a / 2 ^ k)

-- a and b have one sign, and their sum has the other
abbrev pub crosses : ℕ → ℕ → ℕ → Bool
crosses w a b = cond (negative w a) (negative w b && not (negative w (sum w a b))) (not (negative w b) && negative w (sum w a b))

-- a of v bits at w, with copies of its top bit above
abbrev pub widened : ℕ → ℕ → ℕ → ℕ
widened v w a = cond (negative v a) (a + (2 ^ w - 2 ^ v)) a
