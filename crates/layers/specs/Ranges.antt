-- Ranges of addresses.
use Rattle.std.specs.Prelude.{ℕ, Bool, false, cond, ◌&&◌, ◌||◌, List, [], ◌∷◌, ◌++◌, Ok, Err, Result, nat_le, nat_lt}
use Rattle.answers.specs.declared.refusal.Refusal.{Refusal}
use Rattle.answers.specs.declared.refusal.Refusal.TheVariants as refusals
use Rattle.layers.specs.declared.range.Range.{Range}

-- a range has its two ends and what lies between
abbrev pub inside : Range → ℕ → Bool
inside r a = nat_le r.low a && nat_le a r.high

-- some range has the address
abbrev pub covered : List Range → ℕ → Bool
covered [] a = false
covered (r ∷ rs) a = inside r a || covered rs a

-- may the range from low to high be added to n others?
abbrev pub admits : ℕ → ℕ → ℕ → Result (Unit {0}) Refusal
admits n low high = cond (nat_le low high && nat_lt high 262144) (cond (nat_lt n 16) (Ok tt) (Err refusals.Ranges)) (Err refusals.Range)

-- the ranges once one was admitted or refused
abbrev pub added : Result (Unit {0}) Refusal → List Range → ℕ → ℕ → List Range
added (Ok u) rs low high = rs ++ (record { low = low; high = high } ∷ [])
added (Err e) rs low high = rs
