-- What a group sees of a store under the page file.
use Rattle.std.specs.Prelude.{◌≡◌, ℕ, ◌+◌, ◌*◌, ◌<◌, List, Ok, Err, Option, Result}
use Rattle.answers.specs.declared.fault.Fault.{Fault}
use Rattle.ones.specs.Numbers.{word}
use Rattle.ones.specs.declared.number.Ones.{Ones}
use Rattle.pages.specs.Relocation.{relocated}
use Rattle.pages.specs.declared.descriptor.Window.{Window}
use Rattle.store.specs.Meaning.{Meaning}

-- the original address of address a of group g
abbrev pub original : ℕ → ℕ → ℕ
original g a = g * 32768 + a

-- the cell that address a of group g reads under the page file ds over the store m, or the fault
abbrev pub seen_cell : List (Option Window) → Meaning → ℕ → ℕ → Result ℕ Fault
seen_cell ds m g a = (relocated ds m).cell (original g a)

-- whether a write at address a of group g is taken, or its fault
abbrev pub seen_takes : List (Option Window) → Meaning → ℕ → ℕ → Result (Unit {0}) Fault
seen_takes ds m g a = (relocated ds m).takes (original g a)

abbrev pub as_word : Result ℕ Fault → Result (Ones 24) Fault
as_word (Ok n) = Ok (word n)
as_word (Err f) = Err f

-- group g reaches cell k: some address of its 32,768 reads it
abbrev pub Reaches : List (Option Window) → Meaning → ℕ → ℕ → Type 0
Reaches ds m g k = (a : ℕ) × (a < 32768) × (seen_cell ds m g a ≡ Ok k)

-- group g can write cell k: some address of its 32,768 reads it and takes a write
abbrev pub CanWrite : List (Option Window) → Meaning → ℕ → ℕ → Type 0
CanWrite ds m g k = (a : ℕ) × (a < 32768) × (seen_cell ds m g a ≡ Ok k) × (seen_takes ds m g a ≡ Ok tt)
