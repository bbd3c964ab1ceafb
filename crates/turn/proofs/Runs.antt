-- Runs by their first instruction.
use Rattle.std.proofs.Common.{◌≡◌, ℕ, zero, suc, ◌+◌, ◌-◌, ◌<◌, List, [], ◌∷◌, ◌++◌, Some, None, Ok, Err, Option, sym, refl, ap, ◌∙◌, append_assoc, add_assoc, zero-add, arith}
use Rattle.pages.specs.View.{original}
use Rattle.registers.specs.declared.keys.Keys.{Keys}
use Rattle.registers.specs.declared.registers.Registers.{Registers}
use Rattle.registers.specs.declared.trap.Trap.{Trap}
use Rattle.rules.specs.Sight.{Done, sight}
use Rattle.rules.specs.Table.{step}
use Rattle.store.specs.Meaning.{Meaning, after, settled}
use Rattle.turn.specs.Runs.{Run, run, preceded, ended, carried_on}
use Rattle.view.specs.Seen.{takes_at}
use Rattle.view.specs.Writes.{Write, after_writes, with_writes}

-- two lists of writes one after the other
pub after_join : (g : ℕ) (xs ys : List Write) (m : Meaning) → after_writes g (xs ++ ys) m ≡ after_writes g ys (after_writes g xs m)
after_join g [] ys m = refl
after_join g (x ∷ xs) ys m = after_join g xs ys (after (takes_at m g x.at) m (original g x.at.bits) x.word.bits)

pub with_join : {S : Type 0} (meaning : S → Meaning) (wrote : S → ℕ → ℕ → S) (g : ℕ) (xs ys : List Write) (s : S) → with_writes meaning wrote g (xs ++ ys) s ≡ with_writes meaning wrote g ys (with_writes meaning wrote g xs s)
with_join meaning wrote g [] ys s = refl
with_join meaning wrote g (x ∷ xs) ys s =
    with_join meaning wrote g xs ys (settled (takes_at (meaning s) g x.at) (wrote s (original g x.at.bits) x.word.bits) s)

same_run : {c c' : ℕ} {w w' : List Write} (r : Registers) (t : Option Trap) → c ≡ c' → w ≡ w' → ◌≡◌ {A = Run} (record { count = c; registers = r; writes = w; trap = t }) (record { count = c'; registers = r; writes = w'; trap = t })
same_run {c} {c'} {w} {w'} r t e f =
    ap (λ (n : ℕ). let x : Run = record { count = n; registers = r; writes = w; trap = t } in x) e
    ∙ ap (λ (v : List Write). let x : Run = record { count = c'; registers = r; writes = v; trap = t } in x) f

pub preceded_twice : (j k : ℕ) (xs ys : List Write) (x : Run) → preceded j xs (preceded k ys x) ≡ preceded (j + k) (xs ++ ys) x
preceded_twice j k xs ys x = same_run x.registers x.trap (sym (add_assoc j k x.count)) (sym (append_assoc xs ys x.writes))

pub preceded_none : (x : Run) → preceded 0 [] x ≡ x
preceded_none x = same_run x.registers x.trap (zero-add x.count) refl

module _ (keys : Keys) (g : ℕ) (r : Registers) (m : Meaning) where
  pub run_first : (n : ℕ) → run (suc n) keys g r m ≡ carried_on (step keys (sight m g) r) (λ d. preceded 1 d.writes (run n keys g d.registers (after_writes g d.writes m))) (λ t. ended r (Some t))
  unfolding run
  run_first n = refl

  pub run_none : (n : ℕ) → n ≡ 0 → run n keys g r m ≡ ended r None
  unfolding run
  run_none zero e = refl
  run_none (suc n) e = absurd (omega arith)

  pub run_more : (n : ℕ) (d : Done) → 0 < n → step keys (sight m g) r ≡ Ok d → run n keys g r m ≡ preceded 1 d.writes (run (n - 1) keys g d.registers (after_writes g d.writes m))
  unfolding run
  run_more zero d l e = absurd (omega arith)
  run_more (suc n) d l e = let k : suc n - 1 ≡ n = omega arith in rw (e, k)

  pub run_stop : (n : ℕ) (t : Trap) → 0 < n → step keys (sight m g) r ≡ Err t → run n keys g r m ≡ ended r (Some t)
  unfolding run
  run_stop zero t l e = absurd (omega arith)
  run_stop (suc n) t l e = rw e
