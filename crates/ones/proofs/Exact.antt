use Rattle.std.proofs.Common.{◌≡◌, ℕ, ◌+◌, ◌-◌, ◌*◌, ◌^◌, ◌<◌, ◌≤◌, cond, not, ◌&&◌, eqb, ltb, leb, ◌⊎◌, ℤ, pos, ◌+ℤ◌, neg_ℤ, nat_abs, ◌≤ℤ◌, ◌<ℤ◌, Decides, ap, ◌∙◌, inl, inr, arith}
use Rattle.std.proofs.lemmas.Nat.{pow_pos, pow-add}
use Rattle.std.proofs.lemmas.Int.{ints}
use Rattle.std.proofs.lemmas.Bool.{cases_lt, le-leb, lt-leb, cond-true, cond-false}
use Rattle.std.proofs.lemmas.Bool.Decides.{nat_tests}
use Rattle.ones.specs.Plain.{ones, sum, negative, flipped, settled, crosses}
use Rattle.ones.specs.Signed.{signed, Within, overflows}

-- the sign is worth half of all
pub halves : (w : ℕ) → 0 < w → 2 ^ w ≡ 2 ^ (w - 1) + 2 ^ (w - 1)
halves w h =
    ap (λ (n : ℕ). 2 ^ n) (let e : w ≡ (w - 1) + 1 = omega arith in e) ∙ pow-add 2 (w - 1) 1 ∙ (let e : 2 ^ (w - 1) * 2 ≡ 2 ^ (w - 1) + 2 ^ (w - 1) = omega arith in e)

-- the signed value by the sign
pub signed_up : (w a : ℕ) → a < 2 ^ (w - 1) → signed w a ≡ pos a
signed_up w a h = cond-false (negative w a) _ _ (lt-leb _ _ h)

pub signed_down : (w a : ℕ) → 2 ^ (w - 1) ≤ a → signed w a ≡ neg_ℤ (pos (ones w - a))
signed_down w a h = cond-true (negative w a) _ _ (le-leb _ _ h)

-- a number and its signed value, where the sign is worth h
abbrev Is : ℕ → ℕ → ℤ → Type 0
Is h a z = ((a < h) × (z ≡ pos a)) ⊎ ((h ≤ a) × (z ≡ neg_ℤ (pos (h + h - 1 - a))))

is_signed : (w a : ℕ) → 0 < w → Is (2 ^ (w - 1)) a (signed w a)
is_signed w a h =
    elim (cases_lt a (2 ^ (w - 1))) [ inl x ↦ inl (x, signed_up w a x) | inr x ↦ inr (x, signed_down w a x ∙ (let p = halves w h in omega (arith, ints))) ]

-- two numbers and their sum, where the sign is worth h
abbrev Sum : ℕ → ℕ → ℕ → ℕ → Type 0
Sum h a b s = ((a + b < h + h - 1) × (s ≡ a + b)) ⊎ ((h + h - 1 ≤ a + b) × (s ≡ a + b - (h + h - 1)))

is_sum : (w a b : ℕ) → 0 < w → Sum (2 ^ (w - 1)) a b (sum w a b)
is_sum w a b h = let p = halves w h in grind (arith, nat_tests)

exact : (h a b s : ℕ) (x y z : ℤ) → 0 < h → a < h + h → b < h + h → Sum h a b s →
    Is h a x → Is h b y → Is h s z → neg_ℤ (pos (h - 1)) ≤ℤ (x +ℤ y) → (x +ℤ y) ≤ℤ pos (h - 1) → z ≡ x +ℤ y
exact h a b s x y z p f g c (inl k) (inl l) m u v = grind (arith, ints)
exact h a b s x y z p f g c (inl k) (inr l) m u v = grind (arith, ints)
exact h a b s x y z p f g c (inr k) (inl l) m u v = grind (arith, ints)
exact h a b s x y z p f g c (inr k) (inr l) (inl m) u v = grind (arith, ints)
exact h a b s x y z p f g c (inr k) (inr l) (inr m) u v = grind (arith, ints)

-- a sum that fits is exact
pub sum_exact : (w a b : ℕ) → 0 < w → a < 2 ^ w → b < 2 ^ w → Within w (signed w a +ℤ signed w b) → signed w (sum w a b) ≡ signed w a +ℤ signed w b
sum_exact w a b h f g (u, v) =
    let p = halves w h in
    exact (2 ^ (w - 1)) a b (sum w a b) (signed w a) (signed w b) (signed w (sum w a b)) (pow_pos (w - 1)) (omega arith) (omega arith)
    (is_sum w a b h) (is_signed w a h) (is_signed w b h) (is_signed w (sum w a b) h) u v

crossed : (h a b s : ℕ) (x y : ℤ) → 0 < h → a < h + h → b < h + h → Sum h a b s → Is h a x → Is h b y →
    cond (leb h a) (leb h b && not (leb h s)) (not (leb h b) && leb h s) ≡ ltb (h - 1) (nat_abs (x +ℤ y))
crossed h a b s x y p f g c (inl k) (inl l) = grind (arith, nat_tests, ints)
crossed h a b s x y p f g c (inl k) (inr l) = grind (arith, nat_tests, ints)
crossed h a b s x y p f g c (inr k) (inl l) = grind (arith, nat_tests, ints)
crossed h a b s x y p f g c (inr k) (inr l) = grind (arith, nat_tests, ints)

-- two numbers of one sign have a sum of the other exactly where the exact sum does not fit
pub sum_crosses : (w a b : ℕ) → 0 < w → a < 2 ^ w → b < 2 ^ w → crosses w a b ≡ overflows w (signed w a +ℤ signed w b)
unfolding overflows
sum_crosses w a b h f g =
    let p = halves w h in
    crossed (2 ^ (w - 1)) a b (sum w a b) (signed w a) (signed w b) (pow_pos (w - 1)) (omega arith) (omega arith)
    (is_sum w a b h) (is_signed w a h) (is_signed w b h)

pub overflows_tells : (w : ℕ) (z : ℤ) → Decides (overflows w z) (Within w z → ⊥)
unfolding overflows
overflows_tells w z = (λ e p. grind (arith, nat_tests, ints), λ p. grind (arith, nat_tests, ints))

-- a sum is all ones only where both numbers are
pub sum_all_ones : (w a b : ℕ) → 0 < w → a < 2 ^ w → b < 2 ^ w → sum w a b ≡ ones w → (a ≡ ones w) × (b ≡ ones w)
sum_all_ones w a b h f g e = let p = halves w h in grind (arith, nat_tests)

pub sum_fits : (w a b : ℕ) → 0 < w → a < 2 ^ w → b < 2 ^ w → sum w a b < 2 ^ w
sum_fits w a b h f g = let p = halves w h in grind (arith, nat_tests)

-- to turn all bits is to negate
pub negated : (w a : ℕ) → 0 < w → a < 2 ^ w → signed w (ones w - a) ≡ neg_ℤ (signed w a)
negated w a h f = let p = halves w h in grind (arith, nat_tests, ints)

-- signed order, in which negative zero is below positive zero
pub flipped_order : (w a b : ℕ) → 0 < w → a < 2 ^ w → b < 2 ^ w → Decides (ltb (flipped w a) (flipped w b)) ((signed w a <ℤ signed w b) ⊎ ((a ≡ ones w) × (b ≡ 0)))
flipped_order w a b h f g = let p = halves w h in (λ t. grind (arith, nat_tests, ints), λ t. grind (arith, nat_tests, ints))

-- equal signed values
pub settled_alike : (w a b : ℕ) → 0 < w → a < 2 ^ w → b < 2 ^ w → Decides (eqb (settled w a) (settled w b)) (signed w a ≡ signed w b)
settled_alike w a b h f g = let p = halves w h in (λ t. grind (arith, nat_tests, ints), λ t. grind (arith, nat_tests, ints))
