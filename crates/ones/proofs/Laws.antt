use Rattle.std.proofs.Common.{◌≡◌, ℕ, ◌+◌, ◌-◌, ◌*◌, ◌/◌, ◌%◌, ◌^◌, ◌<◌, ◌≤◌, min, Bool, ◌⊎◌, ◌+ℤ◌, neg_ℤ, ◌<ℤ◌, Decides, sym, ap, ◌∙◌, mod-eq_of_lt, arith, lit<, lit≤}
use Rattle.std.proofs.lemmas.Nat.{mod_below}
use Rattle.std.proofs.lemmas.Int.{ints}
use Rattle.std.proofs.lemmas.Bool.Decides.{nat_tests, Decides-at}
use Rattle.ones.specs.declared.number.Ones.{Ones}
use Rattle.ones.specs.Plain.{ones, sum, bit, crosses}
use Rattle.ones.specs.Signed.{signed, Within, quotient}
use Rattle.ones.specs.Numbers.{low, value, complement, plus, below, alike, sum_overflows, left, right, extended, joined, upper, lower}
use Rattle.ones.proofs.Exact.{sum_exact, sum_fits, sum_all_ones, sum_crosses, negated, flipped_order, settled_alike}
use Rattle.ones.proofs.Moves.{rotated_fits, rotated_bit, shifted_fits, shifted_quotient}
use Rattle.ones.proofs.Same.{is_low}

-- the bits of a number that is made of bits that fit
pub low_bits : {w : ℕ} (wide : 0 < w) (narrow : w ≤ 48) (n : ℕ) → n < 2 ^ w → (low w wide narrow n).bits ≡ n
unfolding low
low_bits wide narrow n h = mod-eq_of_lt h

module _ {w : ℕ} (a b : Ones w) where
  plus_bits : (plus a b).bits ≡ sum w a.bits b.bits
  unfolding plus
  plus_bits = low_bits a.wide a.narrow _ (sum_fits w a.bits b.bits a.wide a.fits b.fits)

  pub plus_exact : (r : Ones w) → r ≡ plus a b → Within w (value a +ℤ value b) → value r ≡ value a +ℤ value b
  unfolding value
  plus_exact r e h =
      ap (λ (x : Ones w). value x) e ∙ ap (signed w) plus_bits
      ∙ sum_exact w a.bits b.bits a.wide a.fits b.fits h

  pub plus_all_ones : (r : Ones w) → r ≡ plus a b → r.bits ≡ ones w → (a.bits ≡ ones w) × (b.bits ≡ ones w)
  plus_all_ones r e h =
      sum_all_ones w a.bits b.bits a.wide a.fits b.fits
      (sym plus_bits ∙ ap (λ (x : Ones w). x.bits) (sym e) ∙ h)

  pub below_signed : (r : Bool) → r ≡ below a b → Decides r ((value a <ℤ value b) ⊎ ((a.bits ≡ ones w) × (b.bits ≡ 0)))
  unfolding below value
  below_signed r e = Decides-at _ _ e (flipped_order w a.bits b.bits a.wide a.fits b.fits)

  pub alike_signed : (r : Bool) → r ≡ alike a b → Decides r (value a ≡ value b)
  unfolding alike value
  alike_signed r e = Decides-at _ _ e (settled_alike w a.bits b.bits a.wide a.fits b.fits)

  pub overflow : (r : Bool) → r ≡ crosses w a.bits b.bits → r ≡ sum_overflows a b
  unfolding value
  overflow r e = e ∙ sum_crosses w a.bits b.bits a.wide a.fits b.fits

module _ {w : ℕ} (a : Ones w) where
  pub complement_bits : (complement a).bits ≡ ones w - a.bits
  unfolding complement
  complement_bits = let f = a.fits in low_bits a.wide a.narrow _ (omega arith)

  pub complement_negated : (r : Ones w) → r ≡ complement a → value r ≡ neg_ℤ (value a)
  unfolding value
  complement_negated r e =
      ap (λ (x : Ones w). value x) e ∙ ap (signed w) complement_bits ∙ negated w a.bits a.wide a.fits

  pub left_around : (n : ℕ) (r : Ones w) → r ≡ left a n → (i : ℕ) → i < w → bit ((i + n) % w) r.bits ≡ bit i a.bits
  unfolding left
  left_around n r e i h =
      ap (λ (x : Ones w). bit ((i + n) % w) x.bits) e
      ∙ ap (bit ((i + n) % w)) (low_bits a.wide a.narrow _ (rotated_fits w (n % w) a.bits (let m = mod_below n w a.wide in omega arith) a.fits))
      ∙ rotated_bit w n a.bits i a.wide a.fits h

  pub right_signed : (n : ℕ) (r : Ones w) → r ≡ right a n → value r ≡ quotient (value a) n
  unfolding right value
  right_signed n r e =
      ap (λ (x : Ones w). signed w x.bits) e
      ∙ ap (signed w) (low_bits a.wide a.narrow _ (shifted_fits w (min n w) a.bits a.wide a.fits))
      ∙ shifted_quotient w n a.bits a.wide a.fits

pub extended_signed : (a : Ones 15) (r : Ones 24) → r ≡ extended a → value r ≡ value a
unfolding extended value
extended_signed a r e =
    let f = a.fits in
    ap (λ (x : Ones 24). signed 24 x.bits) e ∙ ap (signed 24) (low_bits (lit< tt) (lit≤ tt) _ (grind (arith, nat_tests))) ∙ grind (arith, nat_tests, ints)

module _ (a q : Ones 24) (r : Ones 48) (e : r ≡ joined a q) where
  joined_bits : r.bits ≡ a.bits * 2 ^ 24 + q.bits
  unfolding joined
  joined_bits = ap (λ (x : Ones 48). x.bits) e ∙ (let f = a.fits in let g = q.fits in low_bits (lit< tt) (lit≤ tt) _ (omega arith))

  pub joined_upper : upper r ≡ a
  joined_upper = let f = a.fits in let g = q.fits in let j = joined_bits in sym (is_low a _ _ (r.bits / 2 ^ 24) (omega arith))

  pub joined_lower : lower r ≡ q
  joined_lower = let f = a.fits in let g = q.fits in let j = joined_bits in sym (is_low q _ _ r.bits (omega arith))
