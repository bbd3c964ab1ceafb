use Rattle.std.specs.Prelude.{ℕ, suc, ◌-◌, ◌/◌, ◌^◌, Bool, cond, ℤ, pos, negsuc, neg_ℤ, ◌≤ℤ◌, nat_lt, unsigned_abs}
use Rattle.ones.specs.Plain.{ones, negative}

-- the signed value of the w bits of a: with its top bit set, minus what is left when all are turned
abbrev pub signed : ℕ → ℕ → ℤ
signed w a = cond (negative w a) (neg_ℤ (pos (ones w - a))) (pos a)

-- the greatest signed value of w bits
abbrev pub limit : ℕ → ℕ
limit w = ones (w - 1)

-- z is the signed value of some number of w bits
abbrev pub Within : ℕ → ℤ → Type 0
Within w z = (neg_ℤ (pos (limit w)) ≤ℤ z) × (z ≤ℤ pos (limit w))

-- z is no signed value of w bits
unfoldable pub overflows : ℕ → ℤ → Bool
overflows w z = nat_lt (limit w) (unsigned_abs z)

-- z by 2 ^ n, the fraction dropped
abbrev pub quotient : ℤ → ℕ → ℤ
quotient (pos m) n = pos (m / 2 ^ n)
quotient (negsuc m) n = neg_ℤ (pos (suc m / 2 ^ n))
