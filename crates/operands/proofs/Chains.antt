-- One place more on the way to an effective address.
use Rattle.std.proofs.Common.{◌≡◌, ℕ, zero, suc, ◌-◌, true, false, Some, None, Ok, Option, Result, refl, arith}
use Rattle.answers.specs.declared.fault.Fault.{Fault}
use Rattle.instruction.specs.Places.{placed}
use Rattle.instruction.specs.declared.place.Place.{Place}
use Rattle.ones.specs.declared.number.Ones.{Ones}
use Rattle.registers.specs.declared.registers.Registers.{Registers}
use Rattle.rules.specs.Parts.{effective, indexed}
use Rattle.rules.specs.Sight.{bind}

module _ (rd : Ones 15 → Result (Ones 24) Fault) (r : Registers) (p : Place) {x : Result (Option (Ones 15)) Fault} where
  -- a place that is not indirect
  pub direct : (n : ℕ) → effective n rd r p ≡ x → p.indirect ≡ false → Ok (Some (indexed p.m p.index r)) ≡ x
  unfolding effective
  direct zero h e = rw e at h
  direct (suc n) h e = rw e at h

  -- an indirect one, with no word left
  pub spent : (n : ℕ) → effective n rd r p ≡ x → p.indirect ≡ true → n ≡ 0 → Ok None ≡ x
  unfolding effective
  spent zero h e z = rw e at h
  spent (suc n) h e z = absurd (omega arith)

  -- and with a word left
  pub more : (n : ℕ) → effective n rd r p ≡ x → p.indirect ≡ true → (n ≡ 0 → ⊥) → bind (rd (indexed p.m p.index r)) (λ w. effective (n - 1) rd r (placed p.mode w)) ≡ x
  unfolding effective
  more zero h e z = absurd (z refl)
  more (suc n) h e z = let k : suc n - 1 ≡ n = omega arith in simp k (rw e at h)
