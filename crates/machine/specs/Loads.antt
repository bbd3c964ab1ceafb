-- Register loads.
use Rattle.std.specs.Prelude.{◌^◌, Bool, false, cond, ◌&&◌, Ok, Err, Result, nat_lt}
use Rattle.answers.specs.declared.refusal.Refusal.{Refusal}
use Rattle.answers.specs.declared.refusal.Refusal.TheVariants.{Value}
use Rattle.machine.specs.declared.load.Load.{Load}
use Rattle.ones.specs.Numbers.{address, word}
use Rattle.registers.specs.declared.record.Record.{Record}
use Rattle.registers.specs.declared.record.State.TheVariants.{Running}
use Rattle.registers.specs.declared.registers.Registers.{Registers}

-- each value has the bits of its register
abbrev pub load_fits : Load → Bool
load_fits l = nat_lt l.a (2 ^ 24) && (nat_lt l.q (2 ^ 24) && (nat_lt l.b1 (2 ^ 15) && (nat_lt l.b2 (2 ^ 15) && (nat_lt l.b3 (2 ^ 15) && nat_lt l.p (2 ^ 15)))))

-- the registers that a load brings
abbrev pub loaded_registers : Load → Registers
loaded_registers l = record { a = word l.a; q = word l.q; b1 = address l.b1; b2 = address l.b2; b3 = address l.b3; p = address l.p; latch = false }

-- they are made unless a value is too wide
abbrev pub unless_wide : Load → Result Registers Refusal
unless_wide l = cond (load_fits l) (Ok (loaded_registers l)) (Err Value)

-- a group that runs with these registers
abbrev pub running : Registers → Record
running r = record { registers = r; state = Running }

-- the record that a load leaves
abbrev pub loaded : Load → Record
loaded l = running (loaded_registers l)
