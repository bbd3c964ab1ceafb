-- Places in the low 18 bits of a word.
use Rattle.std.specs.Prelude.{◌/◌, ◌%◌, ◌^◌, ◌==◌}
use Rattle.instruction.specs.Digits.{digit_index}
use Rattle.instruction.specs.declared.place.Mode.{Mode}
use Rattle.instruction.specs.declared.place.Mode.TheVariants.{Indexed, Unindexed}
use Rattle.instruction.specs.declared.place.Place.{Place}
use Rattle.ones.specs.Numbers.{address}
use Rattle.ones.specs.declared.number.Ones.{Ones}
use Rattle.registers.specs.declared.index.Index.{Index}
use Rattle.registers.specs.declared.index.Index.TheVariants.{B0}

-- b, where bits 16 and 15 name an index register
abbrev pub place_index : Mode → Ones 24 → Index
place_index Indexed w = digit_index (w.bits / 2 ^ 15 % 4)
place_index Unindexed w = B0

-- a, b and m
abbrev pub placed : Mode → Ones 24 → Place
placed o w = record { mode = o; indirect = (w.bits / 2 ^ 17 % 2 == 1); index = place_index o w; m = address w.bits }
