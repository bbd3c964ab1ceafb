-- A load whose values have the bits of their registers.
use Rattle.std.proofs.Common.{◌≡◌, ℕ, ◌^◌, false, Ok, refl, arith, lit<, lit≤}
use Rattle.machine.specs.Loads.{unless_wide}
use Rattle.machine.specs.declared.load.Load.{Load}
use Rattle.ones.proofs.Same.{is_low}
use Rattle.ones.specs.Numbers.{address, word}
use Rattle.ones.specs.declared.number.Ones.{Ones}
use Rattle.std.proofs.lemmas.Bool.{lt-ltb}

is_word : (a : Ones 24) (n : ℕ) → a.bits ≡ n → a ≡ word n
is_word a n e = let f = a.fits in is_low a (lit< tt) (lit≤ tt) n (omega arith)

is_address : (a : Ones 15) (n : ℕ) → a.bits ≡ n → a ≡ address n
is_address a n e = let f = a.fits in is_low a (lit< tt) (lit≤ tt) n (omega arith)

-- registers of these values are those that the load brings
pub all_fit : (l : Load) (a q : Ones 24) (b1 b2 b3 p : Ones 15) → a.bits ≡ l.a → q.bits ≡ l.q → b1.bits ≡ l.b1 → b2.bits ≡ l.b2 → b3.bits ≡ l.b3 → p.bits ≡ l.p
    → Ok (record { a = a; q = q; b1 = b1; b2 = b2; b3 = b3; p = p; latch = false }) ≡ unless_wide l
all_fit l a q b1 b2 b3 p ea eq e1 e2 e3 ep =
    rw (
      lt-ltb l.a (2 ^ 24) (rw ea at a.fits),
      lt-ltb l.q (2 ^ 24) (rw eq at q.fits),
      lt-ltb l.b1 (2 ^ 15) (rw e1 at b1.fits),
      lt-ltb l.b2 (2 ^ 15) (rw e2 at b2.fits),
      lt-ltb l.b3 (2 ^ 15) (rw e3 at b3.fits),
      lt-ltb l.p (2 ^ 15) (rw ep at p.fits),
      is_word a l.a ea,
      is_word q l.q eq,
      is_address b1 l.b1 e1,
      is_address b2 l.b2 e2,
      is_address b3 l.b3 e3,
      is_address p l.p ep,
    ) refl
