-- What a turn leaves.
use Rattle.std.specs.Prelude.{◌≡◌, ℕ, Some, None, Ok, Err, Option, Result}
use Rattle.registers.specs.declared.keys.Keys.{Keys}
use Rattle.registers.specs.declared.record.Record.{Record}
use Rattle.registers.specs.declared.record.State.{State}
use Rattle.registers.specs.declared.record.State.TheVariants.{Running, Stopped}
use Rattle.registers.specs.declared.trap.Trap.{Trap}
use Rattle.rules.specs.Sight.{Done, sight, left, outcome, writes}
use Rattle.rules.specs.Table.{step}
use Rattle.store.specs.Meaning.{Meaning}
use Rattle.turn.specs.Runs.{Joins, Lasts, Run, run}
use Rattle.turn.specs.declared.turned.Turned.{Turned}
use Rattle.view.specs.Writes.{after_writes, with_writes}

-- stopped with the trap, or still running
abbrev pub state_after : Option Trap → State
state_after None = Running
state_after (Some t) = Stopped t

-- the state after one instruction of a group that runs
abbrev pub stepped_state : Result Done Trap → State
stepped_state (Ok d) = Running
stepped_state (Err t) = Stopped t

-- one instruction of a group that runs
pub record Advanced {S : Type 0} (meaning : S → Meaning) (wrote : S → ℕ → ℕ → S) (keys : Keys) (g : ℕ) (x x' : Record) (s s' : S) (o : Result (Unit {0}) Trap) : Type 0 where
  pub answer : o ≡ outcome (step keys (sight (meaning s) g) x.registers)
  pub registers : x'.registers ≡ left x.registers (step keys (sight (meaning s) g) x.registers)
  pub state : x'.state ≡ stepped_state (step keys (sight (meaning s) g) x.registers)
  pub effect : meaning s' ≡ after_writes g (writes (step keys (sight (meaning s) g) x.registers)) (meaning s)
  pub whole : s' ≡ with_writes meaning wrote g (writes (step keys (sight (meaning s) g) x.registers)) s

abbrev pub the_run : {S : Type 0} → (S → Meaning) → Keys → ℕ → ℕ → Record → S → Run
the_run meaning keys g n x s = run n keys g x.registers (meaning s)

-- a turn of a group that runs, as the rules give it: answer, record, meaning of the store, and the store as a whole value;
-- and the same as a relation, with the law of runs one after the other
pub record Ran {S : Type 0} (meaning : S → Meaning) (wrote : S → ℕ → ℕ → S) (keys : Keys) (g n : ℕ) (x x' : Record) (s s' : S) (a : Turned) : Type 0 where
  pub count : a.count ≡ (the_run meaning keys g n x s).count
  pub trap : a.trap ≡ (the_run meaning keys g n x s).trap
  pub registers : x'.registers ≡ (the_run meaning keys g n x s).registers
  pub state : x'.state ≡ state_after (the_run meaning keys g n x s).trap
  pub effect : meaning s' ≡ after_writes g (the_run meaning keys g n x s).writes (meaning s)
  pub whole : s' ≡ with_writes meaning wrote g (the_run meaning keys g n x s).writes s
  pub lasts : Lasts n keys g x.registers (meaning s) a.count a.trap x'.registers (meaning s')
  pub joins : Joins keys g x.registers (meaning s)

-- a group that is stopped has no turn, and nothing changes
abbrev pub turns : {S : Type 0} → (S → Meaning) → (S → ℕ → ℕ → S) → Keys → ℕ → ℕ → State → Record → Record → S → S → Option Turned → Type 0
turns meaning wrote keys g n Running x x' s s' (Some a) = Ran meaning wrote keys g n x x' s s' a
turns meaning wrote keys g n Running x x' s s' None = ⊥
turns meaning wrote keys g n (Stopped t) x x' s s' o = (o ≡ None) × (x' ≡ x) × (s' ≡ s)

abbrev pub Turning : {S : Type 0} → (S → Meaning) → (S → ℕ → ℕ → S) → Keys → ℕ → ℕ → Record → Record → S → S → Option Turned → Type 0
Turning meaning wrote keys g n x x' s s' o = turns meaning wrote keys g n x.state x x' s s' o
