-- What traps changes nothing.
use Rattle.std.proofs.Common.{◌≡◌, ℕ, Ok, Err, Result, arith}
use Rattle.registers.specs.declared.registers.Registers.{Registers}
use Rattle.registers.specs.declared.trap.Trap.{Trap}
use Rattle.rules.specs.Carried.{Carried}
use Rattle.rules.specs.Sight.{Done}
use Rattle.store.specs.Meaning.{Meaning}
use Rattle.step.specs.Laws.{TrapKeeps}

pub trap_keeps : {S : Type 0} (meaning : S → Meaning) (wrote : S → ℕ → ℕ → S) (g : ℕ) (rule : Result Done Trap) (r r' : Registers) (s s' : S) (x : Result (Unit {0}) Trap)
    → Carried meaning wrote g rule r r' s s' x → TrapKeeps x r r' s s'
trap_keeps meaning wrote g (Ok d) r r' s s' x h t e = let a = h.answer in let z : ◌≡◌ {A = ℕ} 0 1 = cc in absurd (omega arith)
trap_keeps meaning wrote g (Err f) r r' s s' x h t e = (h.registers, h.whole)
