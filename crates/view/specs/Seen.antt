-- What a group sees of a store.
use Rattle.std.specs.Prelude.{ℕ, Result}
use Rattle.answers.specs.declared.fault.Fault.{Fault}
use Rattle.ones.specs.declared.number.Ones.{Ones}
use Rattle.pages.specs.View.{as_word, original}
use Rattle.store.specs.Meaning.{Meaning, reads}

-- the word that address a of group g reads, or the fault
abbrev pub reads_at : Meaning → ℕ → Ones 15 → Result (Ones 24) Fault
reads_at m g a = as_word (reads m (original g a.bits))

-- whether a write at address a of group g is taken, or its fault
abbrev pub takes_at : Meaning → ℕ → Ones 15 → Result (Unit {0}) Fault
takes_at m g a = m.takes (original g a.bits)
