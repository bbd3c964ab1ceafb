-- All that holds of an instruction, from what the rule of the table leaves.
use Rattle.std.proofs.Common.{ℕ, Result}
use Rattle.registers.specs.declared.keys.Keys.{Keys}
use Rattle.registers.specs.declared.registers.Registers.{Registers}
use Rattle.registers.specs.declared.trap.Trap.{Trap}
use Rattle.rules.specs.Carried.{Carried}
use Rattle.rules.specs.Sight.{sight, writes}
use Rattle.rules.specs.Table.{step}
use Rattle.store.specs.Meaning.{Meaning}
use Rattle.step.specs.Laws.{Goes, SeesOnly, TrapKeeps, Widths, WritesOnly}
use Rattle.step.proofs.Frames.{writes_only}
use Rattle.step.proofs.Going.{goes}
use Rattle.step.proofs.Sights.{sees_only}
use Rattle.step.proofs.Trapping.{trap_keeps}

pub widths : (r : Registers) → Widths r
widths r = record { a = r.a.fits; q = r.q.fits; b1 = r.b1.fits; b2 = r.b2.fits; b3 = r.b3.fits; p = r.p.fits }

module _ {S : Type 0} (meaning : S → Meaning) (wrote : S → ℕ → ℕ → S) (keys : Keys) (g : ℕ) (r r' : Registers) (s s' : S) (x : Result (Unit {0}) Trap)
    (h : Carried meaning wrote g (step keys (sight (meaning s) g) r) r r' s s' x) where
  pub sees : SeesOnly keys (meaning s) g r
  sees n o a = sees_only keys r (sight (meaning s) g) (sight n o) a

  pub written : WritesOnly (meaning s) (meaning s') g
  written = rw h.effect (writes_only g (writes (step keys (sight (meaning s) g) r)) (meaning s))

  pub trapped : TrapKeeps x r r' s s'
  trapped = trap_keeps meaning wrote g (step keys (sight (meaning s) g) r) r r' s s' x h

  pub gone : Goes x (sight (meaning s) g) r r'
  gone = goes keys (sight (meaning s) g) r x r' h.answer h.registers
