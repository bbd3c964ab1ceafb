-- What an answer says of a trap.
use Rattle.std.specs.Prelude.{ℕ}
use Rattle.answers.specs.Numbers.{layer_number}
use Rattle.answers.specs.declared.code.Code.{Code}
use Rattle.answers.specs.declared.code.Code.TheVariants as codes
use Rattle.registers.specs.declared.trap.Trap.{Trap}
use Rattle.registers.specs.declared.trap.Trap.TheVariants.{Executive, Illegal, Indirect, Store}

abbrev pub trap_code : Trap → Code
trap_code (Executive p) = codes.Executive
trap_code (Illegal p) = codes.Illegal
trap_code (Indirect p) = codes.Indirect
trap_code (Store f) = codes.Store f.cause

-- 0 where no store gave a fault
abbrev pub trap_layer : Trap → ℕ
trap_layer (Executive p) = 0
trap_layer (Illegal p) = 0
trap_layer (Indirect p) = 0
trap_layer (Store f) = layer_number f.layer

-- P where no store gave a fault
abbrev pub trap_address : Trap → ℕ
trap_address (Executive p) = p.bits
trap_address (Illegal p) = p.bits
trap_address (Indirect p) = p.bits
trap_address (Store f) = f.address
