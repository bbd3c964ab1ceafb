-- Instructions one after the other.
use Rattle.std.specs.Prelude.{◌≡◌, ℕ, zero, suc, ◌+◌, ◌<◌, ◌⊎◌, List, [], ◌++◌, Some, None, Ok, Err, Option, Result}
use Rattle.registers.specs.declared.keys.Keys.{Keys}
use Rattle.registers.specs.declared.registers.Registers.{Registers}
use Rattle.registers.specs.declared.trap.Trap.{Trap}
use Rattle.rules.specs.Sight.{Done, sight}
use Rattle.rules.specs.Table.{step}
use Rattle.store.specs.Meaning.{Meaning}
use Rattle.view.specs.Writes.{Write, after_writes}

-- how many instructions were carried out, the registers after them, their writes in order, and the trap of the next one
pub record Run : Type 0 where
  pub count : ℕ
  pub registers : Registers
  pub writes : List Write
  pub trap : Option Trap

-- a run after k instructions that wrote xs
abbrev pub preceded : ℕ → List Write → Run → Run
preceded k xs x = record { count = k + x.count; registers = x.registers; writes = xs ++ x.writes; trap = x.trap }

-- nothing more is done
abbrev pub ended : Registers → Option Trap → Run
ended r t = record { count = 0; registers = r; writes = []; trap = t }

abbrev pub carried_on : Result Done Trap → (Done → Run) → (Trap → Run) → Run
carried_on (Ok d) f h = f d
carried_on (Err t) f h = h t

-- at most n instructions of group g, from these registers over a store of this meaning
unfoldable pub run : ℕ → Keys → ℕ → Registers → Meaning → Run
run zero keys g r m = ended r None
run (suc n) keys g r m =
    carried_on (step keys (sight m g) r)
    (λ d. preceded 1 d.writes (run n keys g d.registers (after_writes g d.writes m)))
    (λ t. ended r (Some t))

-- n instructions are carried out, each on what the one before left: from r and m they lead to r' and m'
abbrev pub Carries : ℕ → Keys → ℕ → Registers → Meaning → Registers → Meaning → Type 0
Carries zero keys g r m r' m' = (r' ≡ r) × (m' ≡ m)
Carries (suc n) keys g r m r' m' =
    (d : Done) × (step keys (sight m g) r ≡ Ok d) × Carries n keys g d.registers (after_writes g d.writes m) r' m'

-- a turn of length n: `count` instructions are carried out, and then either that is the length or the next one traps
pub record Lasts (n : ℕ) (keys : Keys) (g : ℕ) (r : Registers) (m : Meaning) (count : ℕ) (trap : Option Trap) (r' : Registers) (m' : Meaning) : Type 0 where
  pub done : Carries count keys g r m r' m'
  pub end : ((count ≡ n) × (trap ≡ None)) ⊎ ((count < n) × ((t : Trap) × (trap ≡ Some t) × (step keys (sight m' g) r' ≡ Err t)))

-- going on for more instructions after a run of n: where it did not trap, one run of both lengths, whose counts add; where it did, nothing more
abbrev pub continued : ℕ → Keys → ℕ → Meaning → Run → Option Trap → Run
continued k keys g m x None = preceded x.count x.writes (run k keys g x.registers (after_writes g x.writes m))
continued k keys g m x (Some t) = x

abbrev pub Joins : Keys → ℕ → Registers → Meaning → Type 0
Joins keys g r m = (n k : ℕ) → run (n + k) keys g r m ≡ continued k keys g m (run n keys g r m) (run n keys g r m).trap
