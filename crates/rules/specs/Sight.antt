-- What an instruction can see, and what it does.
use Rattle.std.specs.Prelude.{ℕ, List, [], Ok, Err, Result}
use Rattle.answers.specs.declared.fault.Fault.{Fault}
use Rattle.ones.specs.declared.number.Ones.{Ones}
use Rattle.registers.specs.declared.registers.Registers.{Registers}
use Rattle.registers.specs.declared.trap.Trap.{Trap}
use Rattle.registers.specs.declared.trap.Trap.TheVariants.{Store}
use Rattle.store.specs.Meaning.{Meaning}
use Rattle.view.specs.Seen.{reads_at, takes_at}
use Rattle.view.specs.Writes.{Write}

-- what each address of a group reads, and whether it takes a write
pub record Sight : Type 0 where
  pub reads : Ones 15 → Result (Ones 24) Fault
  pub takes : Ones 15 → Result (Unit {0}) Fault

-- what group g sees of a store
abbrev pub sight : Meaning → ℕ → Sight
sight m g = record { reads = reads_at m g; takes = takes_at m g }

-- an instruction that was carried out: the registers after it, and its writes in their order
pub record Done : Type 0 where
  pub registers : Registers
  pub writes : List Write

abbrev pub bind : {X Y E : Type 0} → Result X E → (X → Result Y E) → Result Y E
bind (Ok x) f = f x
bind (Err e) f = Err e

-- registers changed, and no writes
abbrev pub quiet : {E : Type 0} → Registers → Result Done E
quiet r = Ok (record { registers = r; writes = [] })

-- a fault of the store is a trap
abbrev pub trapping : {X : Type 0} → Result X Fault → Result X Trap
trapping (Ok x) = Ok x
trapping (Err f) = Err (Store f)

-- what the instruction answers
abbrev pub outcome : {E : Type 0} → Result Done E → Result (Unit {0}) E
outcome (Ok d) = Ok tt
outcome (Err e) = Err e

-- the registers after it: as before where it was not carried out
abbrev pub left : {E : Type 0} → Registers → Result Done E → Registers
left r (Ok d) = d.registers
left r (Err e) = r

-- its writes: none where it was not carried out
abbrev pub writes : {E : Type 0} → Result Done E → List Write
writes (Ok d) = d.writes
writes (Err e) = []
