-- What RTJ leaves behind.
use Rattle.std.specs.Prelude.{◌≡◌, ℕ, ◌/◌, ◌%◌, ◌^◌, Ok, Err, Result, ◌≢◌}
use Rattle.answers.specs.declared.fault.Fault.{Fault}
use Rattle.ones.specs.Numbers.{counted}
use Rattle.ones.specs.declared.number.Ones.{Ones}
use Rattle.pages.specs.View.{original}
use Rattle.registers.specs.Registers.{with_p}
use Rattle.registers.specs.declared.registers.Registers.{Registers}
use Rattle.store.specs.Meaning.{Meaning, with_word}

-- the jump was made, from the registers r and the store w to r' and w'
pub record Jumped (g : ℕ) (m : Ones 15) (r r' : Registers) (w w' : Meaning) : Type 0 where
  -- the cell that address m of group g reads
  pub cell : ℕ
  pub there : w.cell (original g m.bits) ≡ Ok cell
  -- its low 15 bits become P + 1, and its upper nine stay
  pub low : w'.word cell % 2 ^ 15 ≡ (counted r.p 1).bits
  pub upper : w'.word cell / 2 ^ 15 ≡ w.word cell / 2 ^ 15
  -- no other word changes, nor does the map
  pub others : (k : ℕ) → (k ≢ cell) → w'.word k ≡ w.word k
  pub map : w' ≡ with_word w w'.word
  -- P becomes m + 1, and no other register changes
  pub registers : r' ≡ with_p r (counted m 1)

-- with the answer x: a fault leaves the registers and the store as they were
abbrev pub Returns : {S : Type 0} → (S → Meaning) → ℕ → Ones 15 → Registers → Registers → S → S → Result (Unit {0}) Fault → Type 0
Returns meaning g m r r' s s' (Ok u) = Jumped g m r r' (meaning s) (meaning s')
Returns meaning g m r r' s s' (Err f) = (r' ≡ r) × (s' ≡ s)
