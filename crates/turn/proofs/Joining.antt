-- Runs one after the other.
use Rattle.std.proofs.Common.{◌≡◌, ℕ, zero, suc, ◌+◌, List, ◌++◌, Some, None, Ok, Err, Option, Result, sym, refl, ap, ◌∙◌, suc-add, zero-add}
use Rattle.registers.specs.declared.keys.Keys.{Keys}
use Rattle.registers.specs.declared.registers.Registers.{Registers}
use Rattle.registers.specs.declared.trap.Trap.{Trap}
use Rattle.rules.specs.Sight.{Done, sight}
use Rattle.rules.specs.Table.{step}
use Rattle.store.specs.Meaning.{Meaning}
use Rattle.turn.proofs.Runs.{after_join, preceded_twice, preceded_none, run_first, run_none}
use Rattle.turn.specs.Runs.{Run, run, preceded, ended, carried_on, continued}
use Rattle.view.specs.Writes.{Write, after_writes}

-- going on after a run that d's instruction precedes
precedes : (k : ℕ) (keys : Keys) (g : ℕ) (m : Meaning) (ws : List Write) (x : Run) (t : Option Trap)
    → preceded 1 ws (continued k keys g (after_writes g ws m) x t) ≡ continued k keys g m (preceded 1 ws x) t
precedes k keys g m ws x None =
    preceded_twice 1 x.count ws x.writes (run k keys g x.registers (after_writes g x.writes (after_writes g ws m)))
    ∙ ap (λ (n : Meaning). preceded (1 + x.count) (ws ++ x.writes) (run k keys g x.registers n)) (sym (after_join g ws x.writes m))
precedes k keys g m ws x (Some t) = refl

joins_from : (n k : ℕ) (keys : Keys) (g : ℕ) (r : Registers) (m : Meaning) (x : Result Done Trap)
    → ((d : Done) → run (n + k) keys g d.registers (after_writes g d.writes m) ≡ continued k keys g (after_writes g d.writes m) (run n keys g d.registers (after_writes g d.writes m)) (run n keys g d.registers (after_writes g d.writes m)).trap)
    → (y : Run) → y ≡ carried_on x (λ d. preceded 1 d.writes (run n keys g d.registers (after_writes g d.writes m))) (λ t. ended r (Some t))
    → carried_on x (λ d. preceded 1 d.writes (run (n + k) keys g d.registers (after_writes g d.writes m))) (λ t. ended r (Some t)) ≡ continued k keys g m y y.trap
joins_from n k keys g r m (Ok d) h y e =
    rw e (ap (preceded 1 d.writes) (h d) ∙ precedes k keys g m d.writes (run n keys g d.registers (after_writes g d.writes m)) (run n keys g d.registers (after_writes g d.writes m)).trap)
joins_from n k keys g r m (Err t) h y e = rw e

joins_none : (k : ℕ) (keys : Keys) (g : ℕ) (r : Registers) (m : Meaning) (y : Run) → y ≡ ended r None → run k keys g r m ≡ continued k keys g m y y.trap
joins_none k keys g r m y e = rw e (sym (preceded_none (run k keys g r m)))

pub run_joins : (keys : Keys) (g : ℕ) (n k : ℕ) (r : Registers) (m : Meaning) → run (n + k) keys g r m ≡ continued k keys g m (run n keys g r m) (run n keys g r m).trap
run_joins keys g zero k r m =
    ap (λ (j : ℕ). run j keys g r m) (zero-add k) ∙ joins_none k keys g r m (run 0 keys g r m) (run_none keys g r m 0 refl)
run_joins keys g (suc n) k r m =
    ap (λ (j : ℕ). run j keys g r m) (suc-add n k) ∙ run_first keys g r m (n + k)
    ∙ joins_from n k keys g r m (step keys (sight m g) r) (λ d. run_joins keys g n k d.registers (after_writes g d.writes m)) (run (suc n) keys g r m) (run_first keys g r m n)
