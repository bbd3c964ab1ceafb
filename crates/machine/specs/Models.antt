-- A machine apart from how its core holds its words.
use Rattle.std.specs.Prelude.{ℕ, List, Option, slice_index_or}
use Rattle.machine.specs.declared.machine.Machine.{Machine}
use Rattle.pages.specs.declared.descriptor.Window.{Window}
use Rattle.registers.specs.Registers.{zeros}
use Rattle.registers.specs.declared.record.Record.{Record}
use Rattle.registers.specs.declared.record.State.TheVariants.{Running}
use Rattle.store.specs.Meaning.{Meaning}

-- eight records, 128 descriptors, and the core: its map and its words
pub record Model : Type 0 where
  pub records : List Record
  pub pages : List (Option Window)
  pub core : Meaning

abbrev pub model : {C : Type 0} → (C → Meaning) → Machine C → Model
model meaning m = record { records = m.records.all; pages = m.store.pages.entries; core = meaning m.store.below }

-- a group that runs, with zeros everywhere
abbrev pub blank : Record
blank = record {
  registers = zeros;
  state = Running;
}

abbrev pub entry_of : List Record → ℕ → Record
entry_of rs g = slice_index_or rs g blank

-- group g's record
abbrev pub record_of : Model → ℕ → Record
record_of m g = entry_of m.records g
