-- A run as a relation.
use Rattle.std.proofs.Common.{◌≡◌, ℕ, zero, suc, ◌+◌, ◌<◌, ◌⊎◌, Some, None, Ok, Err, Option, Result, refl, inl, inr, one-add, arith}
use Rattle.registers.specs.declared.keys.Keys.{Keys}
use Rattle.registers.specs.declared.registers.Registers.{Registers}
use Rattle.registers.specs.declared.trap.Trap.{Trap}
use Rattle.rules.specs.Sight.{Done, sight}
use Rattle.rules.specs.Table.{step}
use Rattle.store.specs.Meaning.{Meaning}
use Rattle.turn.proofs.Runs.{after_join}
use Rattle.turn.specs.Runs.{Carries, Lasts, Run, run, preceded, ended, carried_on}
use Rattle.view.specs.Writes.{after_writes}

-- how a turn of n ends
abbrev Ends : ℕ → Keys → ℕ → ℕ → Option Trap → Registers → Meaning → Type 0
Ends n keys g c t r m = ((c ≡ n) × (t ≡ None)) ⊎ ((c < n) × ((u : Trap) × (t ≡ Some u) × (step keys (sight m g) r ≡ Err u)))

one_more : (n c : ℕ) (keys : Keys) (g : ℕ) (t : Option Trap) (r : Registers) (m : Meaning) → Ends n keys g c t r m → Ends (suc n) keys g (1 + c) t r m
one_more n c keys g t r m (inl h) = inl (let e = h.0 in let k : 1 + c ≡ suc n = omega arith in k, h.1)
one_more n c keys g t r m (inr h) = inr (let e = h.0 in let k : 1 + c < suc n = omega arith in k, h.1)

first_done : (keys : Keys) (g : ℕ) (r : Registers) (m : Meaning) (d : Done) (c : ℕ) (r' : Registers) (m' : Meaning) → step keys (sight m g) r ≡ Ok d → Carries c keys g d.registers (after_writes g d.writes m) r' m' → Carries (1 + c) keys g r m r' m'
first_done keys g r m d c r' m' e h = rw one-add (d, e, h)

lasts_from : (n : ℕ) (keys : Keys) (g : ℕ) (r : Registers) (m : Meaning) (x : Result Done Trap) → step keys (sight m g) r ≡ x
    → ((d : Done) → Lasts n keys g d.registers (after_writes g d.writes m) (run n keys g d.registers (after_writes g d.writes m)).count (run n keys g d.registers (after_writes g d.writes m)).trap (run n keys g d.registers (after_writes g d.writes m)).registers (after_writes g (run n keys g d.registers (after_writes g d.writes m)).writes (after_writes g d.writes m)))
    → (y : Run) → y ≡ carried_on x (λ d. preceded 1 d.writes (run n keys g d.registers (after_writes g d.writes m))) (λ t. ended r (Some t))
    → Lasts (suc n) keys g r m y.count y.trap y.registers (after_writes g y.writes m)
lasts_from n keys g r m (Ok d) e h y k =
    let z = run n keys g d.registers (after_writes g d.writes m) in
    rw (k, after_join g d.writes z.writes m) (record {
      done = first_done keys g r m d z.count z.registers (after_writes g z.writes (after_writes g d.writes m)) e (h d).done;
      end = one_more n z.count keys g z.trap z.registers (after_writes g z.writes (after_writes g d.writes m)) (h d).end;
    })
lasts_from n keys g r m (Err t) e h y k = rw k (record { done = (refl, refl); end = inr (let l : 0 < suc n = omega arith in l, (t, refl, e)) })

pub run_lasts : (n : ℕ) (keys : Keys) (g : ℕ) (r : Registers) (m : Meaning) → Lasts n keys g r m (run n keys g r m).count (run n keys g r m).trap (run n keys g r m).registers (after_writes g (run n keys g r m).writes m)
unfolding run
run_lasts zero keys g r m = record { done = (refl, refl); end = inl (refl, refl) }
run_lasts (suc n) keys g r m =
    lasts_from n keys g r m (step keys (sight m g) r) refl
    (λ d. run_lasts n keys g d.registers (after_writes g d.writes m))
    (carried_on (step keys (sight m g) r) (λ d. preceded 1 d.writes (run n keys g d.registers (after_writes g d.writes m))) (λ t. ended r (Some t))) refl
