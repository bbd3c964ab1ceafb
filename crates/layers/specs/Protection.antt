-- A store some of whose addresses take no write.
use Rattle.std.specs.Prelude.{ℕ, Bool, cond, List, Ok, Err, Result}
use Rattle.answers.specs.declared.fault.Fault.{Fault}
use Rattle.answers.specs.declared.cause.Cause.TheVariants.{Protected}
use Rattle.layers.specs.declared.range.Range.{Range}
use Rattle.answers.specs.declared.layer.Layer.{Layer}
use Rattle.answers.specs.declared.layer.Layer.TheVariants as layers
use Rattle.store.specs.Meaning.{Meaning, Sound, Past, Follows}
use Rattle.layers.specs.Ranges.{covered}

-- the fault of a layer that takes no write at a
abbrev pub barred : Layer → ℕ → Fault
barred l a = record { cause = Protected; layer = l; address = a }

-- what would be taken below is refused if it is covered
abbrev pub guarded : Bool → Fault → Result (Unit {0}) Fault → Result (Unit {0}) Fault
guarded b f (Ok u) = cond b (Err f) (Ok u)
guarded b f (Err e) = Err e

-- the store m, but that no address in the ranges takes a write
abbrev pub protected : List Range → Meaning → Meaning
protected rs m = record {
  size = m.size;
  cells = m.cells;
  cell = m.cell;
  word = m.word;
  takes = λ a. guarded (covered rs a) (barred layers.Protection a) (m.takes a);
}

past_guarded : (b : Bool) (f : Fault) (r : Result (Unit {0}) Fault) → Past r → Past (guarded b f r)
past_guarded b f (Ok u) h = absurd h
past_guarded b f (Err e) h = h

follows_guarded : (b : Bool) (f : Fault) (r : Result ℕ Fault) (s : Result (Unit {0}) Fault) → Follows r s → Follows r (guarded b f s)
follows_guarded b f (Ok k) s h = tt
follows_guarded b f (Err d) (Ok u) h = absurd h
follows_guarded b f (Err d) (Err e) h = tt

pub protected_sound : (rs : List Range) (m : Meaning) → Sound m → Sound (protected rs m)
protected_sound rs m h = record {
  few = h.few;
  past_cell = h.past_cell;
  past_takes = λ a p. past_guarded (covered rs a) (barred layers.Protection a) (m.takes a) (h.past_takes a p);
  within = h.within;
  follows = λ a. follows_guarded (covered rs a) (barred layers.Protection a) (m.cell a) (m.takes a) (h.follows a);
  narrow = h.narrow;
}
