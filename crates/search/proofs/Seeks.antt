-- One word more of a search.
use Rattle.std.proofs.Common.{◌≡◌, ℕ, zero, suc, ◌-◌, ◌<◌, ◌≤◌, Bool, cond, Some, None, Ok, Option, Result, arith}
use Rattle.answers.specs.declared.fault.Fault.{Fault}
use Rattle.ones.specs.Numbers.{address, plus}
use Rattle.ones.specs.declared.number.Ones.{Ones}
use Rattle.rules.specs.Parts.{sought}
use Rattle.rules.specs.Sight.{bind}
use Rattle.std.proofs.lemmas.Bool.{lt-ltb, le-ltb}

module _ (rd : Ones 15 → Result (Ones 24) Fault) (hit : Ones 24 → Bool) (m : Ones 15) (i b : ℕ) {x : Result (Option (Ones 15)) Fault} where
  -- no number is left
  pub missed : (n : ℕ) → sought n rd hit m i b ≡ x → b < i → Ok None ≡ x
  unfolding sought
  missed zero h l = h
  missed (suc n) h l = rw (lt-ltb b i l) at h

  -- one is
  pub tried : (n : ℕ) → b < n → sought n rd hit m i b ≡ x → i ≤ b → 0 < i
      → (k : ℕ) × (b - i < k) × (bind (rd (plus m (address (b - i)))) (λ w. cond (hit w) (Ok (Some (address (b - i)))) (sought k rd hit m i (b - i))) ≡ x)
  unfolding sought
  tried zero l h e p = absurd (omega arith)
  tried (suc n) l h e p = (n, omega arith, rw (le-ltb b i e) at h)
