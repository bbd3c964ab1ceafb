-- A store whose addresses go through a page file.
use Rattle.std.specs.Prelude.{◌≡◌, ℕ, Bool, true, false, cond, List, Ok, Err, Option, Result}
use Rattle.std.proofs.Common.{ap, arith, refl}
use Rattle.answers.specs.declared.cause.Cause.TheVariants.{Protected}
use Rattle.answers.specs.declared.fault.Fault.{Fault}
use Rattle.answers.specs.declared.layer.Layer.TheVariants as layers
use Rattle.pages.specs.Pages.{located}
use Rattle.pages.specs.declared.descriptor.Window.{Window}
use Rattle.pages.specs.declared.file.Place.{Place}
use Rattle.std.proofs.lemmas.Bool.{le-ltb}
use Rattle.store.specs.Meaning.{Meaning, Sound, Within, Follows, after, stored, with_word}

-- no write taken on the page
abbrev pub read_only : ℕ → Fault
read_only a = record { cause = Protected; layer = layers.Relocation; address = a }

abbrev pub through : {X Y : Type 0} → Result X Fault → (X → Result Y Fault) → Result Y Fault
through (Ok x) f = f x
through (Err e) f = Err e

-- the flag is looked at before the store below
abbrev pub flagged : ℕ → Bool → Result (Unit {0}) Fault → Result (Unit {0}) Fault
flagged a w r = cond w r (Err (read_only a))

-- the place of an address whose page takes writes
abbrev pub writable : Result Place Fault → ℕ → Result Place Fault
writable r a = through r (λ p. cond p.write (Ok p) (Err (read_only a)))

-- the store m under the page file ds
abbrev pub relocated : List (Option Window) → Meaning → Meaning
relocated ds m = record {
  size = 262144;
  cells = m.cells;
  word = m.word;
  cell = λ a. through (located ds a) (λ p. m.cell p.address);
  takes = λ a. through (located ds a) (λ p. flagged a p.write (m.takes p.address));
}

-- the store below once a write of v at a is taken
abbrev pub written_below : {C : Type 0} → (C → ℕ → ℕ → C) → C → Result Place Fault → ℕ → C
written_below f c (Ok p) v = f c p.address v
written_below f c (Err e) v = c

within_through : (r : Result Place Fault) (m : Meaning) → Sound m → Within (through r (λ p. m.cell p.address)) m.cells
within_through (Ok p) m h = h.within p.address
within_through (Err e) m h = tt

follows_flagged : (a : ℕ) (w : Bool) (r : Result ℕ Fault) (s : Result (Unit {0}) Fault) → Follows r s → Follows r (flagged a w s)
follows_flagged a true r s h = h
follows_flagged a false (Ok k) s h = tt
follows_flagged a false (Err e) s h = tt

follows_through : (a : ℕ) (r : Result Place Fault) (m : Meaning) → Sound m → Follows (through r (λ p. m.cell p.address)) (through r (λ p. flagged a p.write (m.takes p.address)))
follows_through a (Ok p) m h = follows_flagged a p.write (m.cell p.address) (m.takes p.address) (h.follows p.address)
follows_through a (Err e) m h = tt

pub relocated_sound : (ds : List (Option Window)) (m : Meaning) → Sound m → Sound (relocated ds m)
relocated_sound ds m h = record {
  few = omega arith;
  past_cell = λ a p. rw (le-ltb a 262144 p);
  past_takes = λ a p. rw (le-ltb a 262144 p);
  within = λ a. within_through (located ds a) m h;
  follows = λ a. follows_through a (located ds a) m h;
  narrow = h.narrow;
}

-- what the page file lets through has its flag, and is taken below
pub flag_set : (a : ℕ) (w : Bool) (r : Result (Unit {0}) Fault) → flagged a w r ≡ Ok tt → (w ≡ true) × (r ≡ Ok tt)
flag_set a true r h = (refl, h)
flag_set a false r h = cc

-- a write that is taken, seen through the page file
pub writes_at : {C : Type 0} (ds : List (Option Window)) (meaning : C → Meaning) (wrote : C → ℕ → ℕ → C) (c : C) (a v : ℕ) (r : Result Place Fault)
    → ((b : ℕ) → (meaning c).takes b ≡ Ok tt → meaning (wrote c b v) ≡ after (Ok tt) (meaning c) b v)
    → through r (λ p. flagged a p.write ((meaning c).takes p.address)) ≡ Ok tt
    → meaning (written_below wrote c r v) ≡ with_word (meaning c) (stored (through r (λ p. (meaning c).cell p.address)) (meaning c).word v)
writes_at ds meaning wrote c a v (Ok p) h t = h p.address (flag_set a p.write ((meaning c).takes p.address) t).1
writes_at ds meaning wrote c a v (Err e) h t = cc

pub relocated_writes : {C : Type 0} (ds : List (Option Window)) (meaning : C → Meaning) (wrote : C → ℕ → ℕ → C) (c : C) (a v : ℕ)
    → ((b : ℕ) → (meaning c).takes b ≡ Ok tt → meaning (wrote c b v) ≡ after (Ok tt) (meaning c) b v)
    → (relocated ds (meaning c)).takes a ≡ Ok tt
    → relocated ds (meaning (written_below wrote c (located ds a) v)) ≡ after (Ok tt) (relocated ds (meaning c)) a v
relocated_writes ds meaning wrote c a v h t = ap (relocated ds) (writes_at ds meaning wrote c a v (located ds a) h t)
