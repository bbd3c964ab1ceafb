-- What a turn answers by number.
use Rattle.std.specs.Prelude.{ℕ, Some, None, Option}
use Rattle.answers.specs.declared.code.Code.{Code}
use Rattle.answers.specs.declared.code.Code.TheVariants.{Length}
use Rattle.registers.specs.Traps.{trap_address, trap_code, trap_layer}
use Rattle.registers.specs.declared.trap.Trap.{Trap}

-- at the length the code is 0, and so are layer and address
abbrev pub turned_code : Option Trap → Code
turned_code (Some t) = trap_code t
turned_code None = Length

abbrev pub turned_layer : Option Trap → ℕ
turned_layer (Some t) = trap_layer t
turned_layer None = 0

abbrev pub turned_address : Option Trap → ℕ
turned_address (Some t) = trap_address t
turned_address None = 0
