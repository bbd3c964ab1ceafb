-- Registers with one of them changed.
use Rattle.std.specs.Prelude.{ℕ, Bool, false, ◌||◌}
use Rattle.ones.specs.Numbers.{address, counted, word}
use Rattle.ones.specs.declared.number.Ones.{Ones}
use Rattle.registers.specs.declared.index.Index.{Index}
use Rattle.registers.specs.declared.index.Index.TheVariants.{B0, B1, B2, B3}
use Rattle.registers.specs.declared.registers.Registers.{Registers}

-- zeros everywhere, and the latch clear
abbrev pub zeros : Registers
zeros = record { a = word 0; q = word 0; b1 = address 0; b2 = address 0; b3 = address 0; p = address 0; latch = false }

-- what an index register holds; B0 reads as zero
abbrev pub index : Registers → Index → Ones 15
index r B0 = address 0
index r B1 = r.b1
index r B2 = r.b2
index r B3 = r.b3

abbrev pub with_a : Registers → Ones 24 → Registers
with_a r x = record { a = x; q = r.q; b1 = r.b1; b2 = r.b2; b3 = r.b3; p = r.p; latch = r.latch }

abbrev pub with_q : Registers → Ones 24 → Registers
with_q r x = record { a = r.a; q = x; b1 = r.b1; b2 = r.b2; b3 = r.b3; p = r.p; latch = r.latch }

-- B0 drops what is written
abbrev pub with_index : Registers → Index → Ones 15 → Registers
with_index r B0 x = r
with_index r B1 x = record { a = r.a; q = r.q; b1 = x; b2 = r.b2; b3 = r.b3; p = r.p; latch = r.latch }
with_index r B2 x = record { a = r.a; q = r.q; b1 = r.b1; b2 = x; b3 = r.b3; p = r.p; latch = r.latch }
with_index r B3 x = record { a = r.a; q = r.q; b1 = r.b1; b2 = r.b2; b3 = x; p = r.p; latch = r.latch }

abbrev pub with_p : Registers → Ones 15 → Registers
with_p r x = record { a = r.a; q = r.q; b1 = r.b1; b2 = r.b2; b3 = r.b3; p = x; latch = r.latch }

-- an overflow sets the latch, and nothing here clears it
abbrev pub latched : Registers → Bool → Registers
latched r o = record { a = r.a; q = r.q; b1 = r.b1; b2 = r.b2; b3 = r.b3; p = r.p; latch = r.latch || o }

-- n instructions on
abbrev pub on : ℕ → Registers → Registers
on n r = with_p r (counted r.p n)
