-- What holds of every instruction, whatever its row of the table says.
use Rattle.std.specs.Prelude.{◌≡◌, ℕ, ◌^◌, ◌<◌, ◌⊎◌, Some, Ok, Err, Result}
use Rattle.instruction.specs.Decode.{decoded}
use Rattle.instruction.specs.declared.action.Action.{Action}
use Rattle.instruction.specs.declared.action.Action.TheVariants as actions
use Rattle.instruction.specs.declared.instruction.Instruction.{Instruction}
use Rattle.instruction.specs.declared.instruction.Instruction.TheVariants as instructions
use Rattle.instruction.specs.declared.operation.Operation.{Operation}
use Rattle.instruction.specs.declared.operation.Operation.TheVariants as operations
use Rattle.instruction.specs.declared.place.Place.{Place}
use Rattle.ones.specs.Numbers.{counted}
use Rattle.ones.specs.declared.number.Ones.{Ones}
use Rattle.pages.specs.View.{original}
use Rattle.registers.specs.declared.keys.Keys.{Keys}
use Rattle.registers.specs.declared.registers.Registers.{Registers}
use Rattle.registers.specs.declared.trap.Trap.{Trap}
use Rattle.rules.specs.Parts.{effective}
use Rattle.rules.specs.Sight.{Sight, sight}
use Rattle.rules.specs.Table.{step}
use Rattle.store.specs.Meaning.{Meaning}
use Rattle.view.specs.Seen.{takes_at}

-- each address reads the same in both, and takes a write in both or gives the same fault
pub record Agree (s t : Sight) : Type 0 where
  pub reads : (a : Ones 15) → s.reads a ≡ t.reads a
  pub takes : (a : Ones 15) → s.takes a ≡ t.takes a

-- the outcome depends only on keys, registers and what the group sees: a group that sees the same in another store does the same
abbrev pub SeesOnly : Keys → Meaning → ℕ → Registers → Type 0
SeesOnly keys m g r = (n : Meaning) (h : ℕ) → Agree (sight m g) (sight n h) → step keys (sight n h) r ≡ step keys (sight m g) r

-- the map of m is that of n: what each address reads and takes
pub record SameMap (m n : Meaning) : Type 0 where
  pub size : n.size ≡ m.size
  pub cells : n.cells ≡ m.cells
  pub cell : n.cell ≡ m.cell
  pub takes : n.takes ≡ m.takes

-- an address of group g reads cell k and takes a write
abbrev pub Writable : Meaning → ℕ → ℕ → Type 0
Writable m g k = (a : Ones 15) × (m.cell (original g a.bits) ≡ Ok k) × (takes_at m g a ≡ Ok tt)

-- the map stays, and each cell holds its word or is one that group g can write
pub record WritesOnly (m n : Meaning) (g : ℕ) : Type 0 where
  pub map : SameMap m n
  pub words : (k : ℕ) → (n.word k ≡ m.word k) ⊎ Writable m g k

-- where an instruction traps, registers and store stay
abbrev pub TrapKeeps : {S : Type 0} → Result (Unit {0}) Trap → Registers → Registers → S → S → Type 0
TrapKeeps x r r' s s' = (t : Trap) → x ≡ Err t → (r' ≡ r) × (s' ≡ s)

-- an action that names an address to go to
abbrev pub Jumps : Action → Type 0
Jumps (actions.SelectJump d) = Unit {0}
Jumps (actions.IndexJump c b) = Unit {0}
Jumps (actions.ZeroJump t) = Unit {0}
Jumps (actions.QJump t) = Unit {0}
Jumps (actions.SkipEqual t) = ⊥
Jumps (actions.SkipNotBelow t) = ⊥
Jumps (actions.IndexSkip c b) = ⊥
Jumps (actions.Shift x b) = ⊥
Jumps (actions.Enter t) = ⊥
Jumps (actions.Increase t) = ⊥
Jumps (actions.ExclusiveOr t) = ⊥
Jumps (actions.And t) = ⊥

-- p is the effective address of a jump
abbrev pub JumpTo : Operation → Place → Sight → Registers → Ones 15 → Type 0
JumpTo operations.Jump e s r p = effective 64 s.reads r e ≡ Ok (Some p)
JumpTo (operations.Take o) e s r p = ⊥
JumpTo (operations.TakeTwo o) e s r p = ⊥
JumpTo (operations.Change o) e s r p = ⊥
JumpTo (operations.Store o) e s r p = ⊥
JumpTo operations.StoreTwo e s r p = ⊥

-- p is the address that an instruction names to go to: m of a jump, m + 1 of a return jump, M of UJP
abbrev pub Names : Instruction → Sight → Registers → Ones 15 → Type 0
Names instructions.Executive s r p = ⊥
Names instructions.Illegal s r p = ⊥
Names (instructions.Act a m) s r p = Jumps a × (p ≡ m)
Names (instructions.ReturnJump m) s r p = p ≡ counted m 1
Names (instructions.Search k i m) s r p = ⊥
Names (instructions.Operate o e) s r p = JumpTo o e s r p

-- P goes on by one, two or three
abbrev pub GoesOn : Registers → Ones 15 → Type 0
GoesOn r p = (n : ℕ) × (0 < n) × (n < 4) × (p ≡ counted r.p n)

-- after an instruction that was carried out, P has gone on, or is the address that the instruction at P names
abbrev pub Goes : Result (Unit {0}) Trap → Sight → Registers → Registers → Type 0
Goes x s r r' = x ≡ Ok tt → (w : Ones 24) × (s.reads r.p ≡ Ok w) × (GoesOn r r'.p ⊎ Names (decoded w) s r r'.p)

-- A and Q have 24 bits, the others 15
pub record Widths (r : Registers) : Type 0 where
  pub a : r.a.bits < 2 ^ 24
  pub q : r.q.bits < 2 ^ 24
  pub b1 : r.b1.bits < 2 ^ 15
  pub b2 : r.b2.bits < 2 ^ 15
  pub b3 : r.b3.bits < 2 ^ 15
  pub p : r.p.bits < 2 ^ 15
