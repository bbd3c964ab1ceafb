-- A group reaches and writes cells by its own entries.
use Rattle.std.proofs.Common.{◌≡◌, ℕ, ◌+◌, ◌*◌, ◌/◌, ◌<◌, ◌≤◌, List, Ok, Err, Option, Result, sym, refl, ◌∙◌, arith}
use Rattle.answers.specs.declared.fault.Fault.{Fault}
use Rattle.pages.specs.Pages.{entry_of, quarter_of, offset_of, located}
use Rattle.pages.specs.Reach.{Own, Through, Writes, Reach}
use Rattle.pages.specs.Relocation.{through, flag_set}
use Rattle.pages.specs.View.{original, Reaches, CanWrite}
use Rattle.pages.specs.declared.descriptor.Window.{Window}
use Rattle.pages.specs.declared.file.Place.{Place}
use Rattle.store.specs.Meaning.{Meaning}
use Rattle.pages.proofs.Places.{found, few_quarters, locates}

passed : {Y : Type 0} (r : Result Place Fault) (f : Place → Result Y Fault) (y : Y) → through r f ≡ Ok y → (p : Place) × (r ≡ Ok p) × (f p ≡ Ok y)
passed (Ok p) f y h = (p, refl, h)
passed (Err e) f y h = cc

-- the place of a group's address is of its own entries
own : (ds : List (Option Window)) (g a : ℕ) (p : Place) → a < 32768 → located ds (original g a) ≡ Ok p → (w : Window) × (p.write ≡ w.write) × Own ds g w p.address
own ds g a p l h =
    let f = found ds (original g a) p h in
    let i : entry_of (original g a) ≡ 16 * g + a / 2048 = omega arith in (
      f.window,
      f.flag,
      record {
        entry = a / 2048;
        few = omega arith;
        holds = rw i at f.holds;
        quarter = quarter_of (original g a);
        short = f.short;
        offset = offset_of (original g a);
        low = omega arith;
        lies = f.lies;
      },
    )

-- and each core address of its own entries is the place of an address of the group
placed_by : (ds : List (Option Window)) (g a c : ℕ) (w : Window) (o : Own ds g w c) → g < 8 → a ≡ o.entry * 2048 + o.quarter * 512 + o.offset → (a < 32768) × (located ds (original g a) ≡ Ok (record { address = c; write = w.write }))
placed_by ds g a c w o l e =
    let n : w.length ≤ 4 = few_quarters w.page w.start w.length w.fits in
    let i : entry_of (original g a) ≡ 16 * g + o.entry = omega arith in
    let q : quarter_of (original g a) ≡ o.quarter = omega arith in
    let f : offset_of (original g a) ≡ o.offset = omega arith in
    (omega arith, rw (o.lies, ← q, ← f) (locates ds (original g a) w (omega arith) (rw i o.holds) (rw q o.short)))

reaches_only : (ds : List (Option Window)) (m : Meaning) (g k : ℕ) → Reaches ds m g k → Through ds m g k
reaches_only ds m g k (a, l, h) =
    let t = passed (located ds (original g a)) (λ p. m.cell p.address) k h in
    let o = own ds g a t.0 l t.1 in
    (o.0, t.0.address, o.2, t.2)

reaches_all : (ds : List (Option Window)) (m : Meaning) (g k : ℕ) → g < 8 → Through ds m g k → Reaches ds m g k
reaches_all ds m g k l (w, c, o, h) =
    let p = placed_by ds g _ c w o l refl in
    (_, p.0, rw p.1 h)

writes_only : (ds : List (Option Window)) (m : Meaning) (g k : ℕ) → CanWrite ds m g k → Writes ds m g k
writes_only ds m g k (a, l, h, u) =
    let t = passed (located ds (original g a)) (λ p. m.cell p.address) k h in
    let o = own ds g a t.0 l t.1 in
    let f = flag_set (original g a) t.0.write (m.takes t.0.address) (rw t.1 at u) in
    (o.0, t.0.address, o.2, t.2, sym o.1 ∙ f.0, f.1)

writes_all : (ds : List (Option Window)) (m : Meaning) (g k : ℕ) → g < 8 → Writes ds m g k → CanWrite ds m g k
writes_all ds m g k l (w, c, o, h, f, t) =
    let p = placed_by ds g _ c w o l refl in
    (_, p.0, rw p.1 h, rw (p.1, f) t)

pub reach : (ds : List (Option Window)) (m : Meaning) (g : ℕ) → g < 8 → Reach ds m g
reach ds m g l = record {
  reaches_only = reaches_only ds m g;
  reaches_all = λ k. reaches_all ds m g k l;
  writes_only = writes_only ds m g;
  writes_all = λ k. writes_all ds m g k l;
}
