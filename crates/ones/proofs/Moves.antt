use Rattle.std.proofs.Common.{◌≡◌, ℕ, zero, suc, ◌+◌, ◌-◌, ◌*◌, ◌/◌, ◌%◌, ◌^◌, ◌<◌, ◌≤◌, min, ℤ, pos, neg_ℤ, sym, refl, ap, ◌∙◌, inl, inr, mod-eq_of_lt, arith, pow_mono}
use native.Mathlib.Nat.{add-mod-mod, add-mod_right, min-eq_left, min-eq_right, div-eq_of_lt, zero-div}
use Rattle.std.proofs.lemmas.Nat.{mod_below, pow_pos, pow-add, mul-add-lt, div_below, field_of, mod-pow-add, shr-shr, shr_high, shr_le, mod_low}
use Rattle.std.proofs.lemmas.Bool.{cases_lt, cond-true, cond-false, lt-leb, le-leb}
use Rattle.std.proofs.lemmas.Bool.Decides.{nat_tests}
use Rattle.ones.specs.Plain.{ones, negative, bit, rotated, shifted}
use Rattle.ones.specs.Signed.{signed, quotient}
use Rattle.ones.proofs.Exact.{halves, signed_up, signed_down}

-- 2 ^ w by a place to cut at
pub cut : (w k : ℕ) → k ≤ w → 2 ^ w ≡ 2 ^ (w - k) * 2 ^ k
cut w k h = ap (λ (n : ℕ). 2 ^ n) (let e : w ≡ (w - k) + k = omega arith in e) ∙ pow-add 2 (w - k) k

-- the bits above the cut
high_fits : (w k a : ℕ) → k ≤ w → a < 2 ^ w → a / 2 ^ (w - k) < 2 ^ k
high_fits w k a h f = let c = cut w k h in div_below a (2 ^ (w - k)) (2 ^ k) (pow_pos (w - k)) (omega arith)

-- a rotation of w bits has w bits
pub rotated_fits : (w k a : ℕ) → k ≤ w → a < 2 ^ w → rotated w k a < 2 ^ w
rotated_fits w k a h f =
    let c = cut w k h in
    omega (arith, mul-add-lt (a % 2 ^ (w - k)) (2 ^ k) (a / 2 ^ (w - k)) (2 ^ (w - k)) (mod_below a (2 ^ (w - k)) (pow_pos (w - k))) (high_fits w k a h f))

-- the low bits of n are those of n
low_bit : (n k i : ℕ) → i < k → bit i (n % 2 ^ k) ≡ bit i n
low_bit n k i h =
    let e : k ≡ ((k - suc i) + 1) + i = omega arith in
    let j = k - suc i in
    let f = field_of n (j + 1) i in
    let m = mod-pow-add (n / 2 ^ i) j 1 in
    rw e (omega (arith, f, m))

-- a bit that stays clear of the end moves up
moved_up : (w k a i : ℕ) → k ≤ w → a < 2 ^ w → i + k < w → bit (i + k) (rotated w k a) ≡ bit i a
moved_up w k a i h f l =
    let q = high_fits w k a h f in
    ap (λ (n : ℕ). n % 2) (sym (rw (let e : i + k ≡ k + i = omega arith in e) (shr-shr (rotated w k a) k i)) ∙ ap (λ (n : ℕ). n / 2 ^ i) (shr_high (a % 2 ^ (w - k)) k (a / 2 ^ (w - k)) q))
    ∙ low_bit a (w - k) i (omega arith)

-- a bit that passes the end comes in at the bottom
moved_round : (w k a i : ℕ) → k ≤ w → a < 2 ^ w → i < k → bit i (rotated w k a) ≡ bit ((w - k) + i) a
moved_round w k a i h f l =
    sym (low_bit (rotated w k a) k i l)
    ∙ ap (bit i) (mod_low (a % 2 ^ (w - k)) k (a / 2 ^ (w - k)) (high_fits w k a h f))
    ∙ ap (λ (n : ℕ). n % 2) (shr-shr a (w - k) i)

-- each bit moves up by n places, around the end
pub rotated_bit : (w n a i : ℕ) → 0 < w → a < 2 ^ w → i < w → bit ((i + n) % w) (rotated w (n % w) a) ≡ bit i a
rotated_bit w n a i p f l =
    let k = n % w in
    let m : k < w = mod_below n w p in
    let e = add-mod-mod i n w in
    elim (cases_lt (i + k) w) [
      | inl x ↦ rw (sym e ∙ mod-eq_of_lt x) (moved_up w k a i (omega arith) f x)
      | inr x ↦
          let r : (i + n) % w ≡ i + k - w =
          sym e ∙ ap (λ (s : ℕ). s % w) (let o : i + k ≡ (i + k - w) + w = omega arith in o) ∙ add-mod_right (i + k - w) w ∙ mod-eq_of_lt (let o : i + k - w < w = omega arith in o) in
          rw r (moved_round w k a (i + k - w) (omega arith) f (omega arith) ∙ ap (λ (s : ℕ). bit s a) (omega arith))
    ]

-- past the top nothing is left
past_top : (w n a : ℕ) → a < 2 ^ w → a / 2 ^ min n w ≡ a / 2 ^ n
past_top w n a f =
    elim (cases_lt n w) [
      | inl x ↦ let e : min n w ≡ n = min-eq_left (omega arith) in ap (λ (k : ℕ). a / 2 ^ k) e
      | inr x ↦
          ap (λ (k : ℕ). a / 2 ^ k) (min-eq_right x) ∙ div-eq_of_lt f
          ∙ sym (div-eq_of_lt (let p : 2 ^ w ≤ 2 ^ n = pow_mono x in let o : a < 2 ^ n = omega arith in o))
    ]

quotient_negated : (c n : ℕ) → quotient (neg_ℤ (pos c)) n ≡ neg_ℤ (pos (c / 2 ^ n))
quotient_negated zero n = rw zero-div
quotient_negated (suc c) n = refl

-- the signed value of a number moved right is the quotient
pub shifted_quotient : (w n a : ℕ) → 0 < w → a < 2 ^ w → signed w (shifted w (min n w) a) ≡ quotient (signed w a) n
shifted_quotient w n a p f =
    let h = halves w p in
    elim (cases_lt a (2 ^ (w - 1))) [
      | inl x ↦
          let s : shifted w (min n w) a ≡ a / 2 ^ n = cond-false (negative w a) _ _ (lt-leb _ _ x) ∙ past_top w n a f in
          let d = shr_le a n in
          ap (signed w) s ∙ signed_up w (a / 2 ^ n) (omega arith) ∙ sym (ap (λ (z : ℤ). quotient z n) (signed_up w a x))
      | inr x ↦
          let c = ones w - a in
          let s : shifted w (min n w) a ≡ ones w - c / 2 ^ n = cond-true (negative w a) _ _ (le-leb _ _ x) ∙ ap (λ (k : ℕ). ones w - k) (past_top w n c (omega arith)) in
          let d = shr_le c n in
          ap (signed w) s ∙ signed_down w (ones w - c / 2 ^ n) (omega arith)
          ∙ ap (λ (k : ℕ). neg_ℤ (pos k)) (let o : ones w - (ones w - c / 2 ^ n) ≡ c / 2 ^ n = omega arith in o)
          ∙ sym (ap (λ (z : ℤ). quotient z n) (signed_down w a x) ∙ quotient_negated c n)
    ]

-- a number moved right has no more bits
pub shifted_fits : (w k a : ℕ) → 0 < w → a < 2 ^ w → shifted w k a < 2 ^ w
shifted_fits w k a p f = let d = shr_le a k in let h = halves w p in grind (arith, nat_tests)
