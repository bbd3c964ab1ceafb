-- The low octal digits of a number are what a hole `{:0k$o}` writes of it, if it has no more than k.
use Rattle.std.proofs.Common.{◌≡◌, ℕ, zero, suc, ◌+◌, ◌-◌, ◌*◌, ◌/◌, ◌%◌, ◌^◌, ◌<◌, ◌≤◌, Bool, true, false, cond, eqb, List, [], ◌∷◌, ◌++◌, length, replicate, decimal, sym, refl, ap, ◌∙◌, ⊎_elim, arith, append_assoc, append-nil, shr-shr, shr_lt, lt-ltb, eq-eqb, ne_eqb, eq-zero-or-pos}
use Rattle.std.specs.Fmt.{padded_integral, format_spec, digits, digits_onto, digit_glyph, char_count, number_padding}
use Rattle.std.proofs.lemmas.Fmt.{decimal_digit}
use Rattle.std.proofs.lemmas.Nat.{mod-pow-add}
use Rattle.printing.specs.Texts.{octal}

-- the digits but the last, and the last
octal_last : (k n : ℕ) → octal (suc k) n ≡ octal k (n / 8) ++ ((48 + n % 8) ∷ [])
octal_last zero n = append-nil (decimal (n / 2 ^ (3 * 0) % 8)) ∙ ap decimal (omega arith) ∙ decimal_digit (n % 8) (omega arith)
octal_last (suc k) n =
    let front : n / 2 ^ (3 * suc k) ≡ n / 8 / 2 ^ (3 * k) = ap (λ m. n / 2 ^ m) (omega arith) ∙ sym (shr-shr n 3 (3 * k)) in
    (λ i. decimal (front i % 8) ++ octal_last k n i)
    ∙ sym (append_assoc (decimal (n / 8 / 2 ^ (3 * k) % 8)) (octal k (n / 8)) ((48 + n % 8) ∷ []))

-- zero has zeros
octal_zero : (k : ℕ) → octal k 0 ≡ replicate k 48
octal_zero zero = refl
octal_zero (suc k) = (λ i. decimal_digit (0 / 2 ^ (3 * k) % 8) (omega arith) i ++ octal_zero k i) ∙ ap (λ d. (48 + d) ∷ replicate k 48) {x = 0 / 2 ^ (3 * k) % 8} {y = 0} (omega arith)

-- the digits past the k low ones make no difference
pub octal_low : (k n : ℕ) → octal k (n % 2 ^ (3 * k)) ≡ octal k n
octal_low zero n = refl
octal_low (suc k) n =
    let split : n % 2 ^ (3 * suc k) ≡ n / 8 % 2 ^ (3 * k) * 8 + n % 8 = ap (λ m. n % 2 ^ m) (omega arith) ∙ mod-pow-add n (3 * k) 3 in
    let low : n % 2 ^ (3 * suc k) % 8 ≡ n % 8 = omega arith in
    let high : n % 2 ^ (3 * suc k) / 8 ≡ n / 8 % 2 ^ (3 * k) = omega arith in
    octal_last k (n % 2 ^ (3 * suc k)) ∙ (λ i. octal k (high i) ++ ((48 + low i) ∷ [])) ∙ ap (λ l. l ++ ((48 + n % 8) ∷ [])) (octal_low k (n / 8)) ∙ sym (octal_last k n)

-- the sign of an octal digit
glyph_octal : (d : ℕ) → d < 8 → digit_glyph false d ≡ 48 + d
glyph_octal d h = ap (λ b. cond b (48 + d) (87 + d)) (lt-ltb d 10 (omega arith))

-- the last digit goes before acc, and the front of the number, if it has one, before that
onto : (j n : ℕ) (acc : List ℕ) (b : Bool) → eqb (n / 8) 0 ≡ b → digits_onto (suc j) 8 false n acc ≡ cond b ((48 + n % 8) ∷ acc) (digits_onto j 8 false (n / 8) ((48 + n % 8) ∷ acc))
onto j n acc b e =
    let g : digit_glyph false (n % 8) ≡ 48 + n % 8 = glyph_octal (n % 8) (omega arith) in
    (λ i. cond (e i) (g i ∷ acc) (digits_onto j 8 false (n / 8) (g i ∷ acc)))

-- zeros up to k digits, and then the digits
abbrev with_zeros : ℕ → List ℕ → List ℕ
with_zeros k ds = replicate (k - length ds) 48 ++ ds

-- the digits but the last, the last, and acc
octal_before : (k n : ℕ) (acc : List ℕ) → octal k (n / 8) ++ ((48 + n % 8) ∷ acc) ≡ octal (suc k) n ++ acc
octal_before k n acc = sym (append_assoc (octal k (n / 8)) ((48 + n % 8) ∷ []) acc) ∙ ap (λ l. l ++ acc) (sym (octal_last k n))

-- a number of one digit
one_digit : (k n j : ℕ) (acc : List ℕ) → n / 8 ≡ 0 → with_zeros (suc k + length acc) (digits_onto (suc j) 8 false n acc) ≡ octal (suc k) n ++ acc
one_digit k n j acc none =
    let count : suc k + length acc - suc (length acc) ≡ k = omega arith in
    let zeros : replicate k 48 ≡ octal k (n / 8) = sym (ap (octal k) none ∙ octal_zero k) in
    ap (with_zeros (suc k + length acc)) (onto j n acc true (eq-eqb _ 0 none))
    ∙ ap (λ z. replicate z 48 ++ ((48 + n % 8) ∷ acc)) count
    ∙ ap (λ l. l ++ ((48 + n % 8) ∷ acc)) zeros
    ∙ octal_before k n acc

-- zeros and then the digits, before acc
digits_with_zeros : (k n j : ℕ) (acc : List ℕ) → n < 2 ^ (3 * suc k) → k ≤ j → with_zeros (suc k + length acc) (digits_onto (suc j) 8 false n acc) ≡ octal (suc k) n ++ acc
digits_with_zeros zero n j acc small h = one_digit zero n j acc (omega arith)
digits_with_zeros (suc k) n zero acc small h = absurd (omega arith)
digits_with_zeros (suc k) n (suc j) acc small h =
    let more : 2 ^ (3 * suc (suc k)) ≡ 2 ^ (3 * suc k + 3) = ap (λ m. 2 ^ m) (omega arith) in
    let front : n / 8 < 2 ^ (3 * suc k) = shr_lt (3 * suc k) 3 (omega arith) in
    ⊎_elim (one_digit (suc k) n (suc j) acc)
    (λ some. ap (with_zeros (suc (suc k) + length acc)) (onto (suc j) n acc false (ne_eqb _ 0 (omega arith)))
    ∙ ap (λ m. with_zeros m (digits_onto (suc j) 8 false (n / 8) ((48 + n % 8) ∷ acc))) {x = suc (suc k) + length acc} {y = suc k + suc (length acc)} (omega arith)
    ∙ digits_with_zeros k (n / 8) j ((48 + n % 8) ∷ acc) front (omega arith)
    ∙ octal_before (suc k) n acc)
    (eq-zero-or-pos (n / 8))

-- the padding of `{:0k$o}` is zeros
with_spec : (k : ℕ) (ds text : List ℕ) → with_zeros k ds ≡ text → padded_integral (format_spec 32 0 4 k (2 ^ 64 - 1)) false [] ds ≡ text
unfolding padded_integral char_count
with_spec k ds text e =
    let count : number_padding (format_spec 32 0 4 k (2 ^ 64 - 1)) false [] (length ds) ≡ k - length ds = omega arith in
    rw append-nil (ap (λ z. replicate z 48 ++ ds) count ∙ e)

-- std writes at most 64 digits
all_digits : (n : ℕ) → digits_onto 64 8 false n [] ≡ digits 8 false n
unfolding digits
all_digits n = refl

-- what `{:0k$o}` writes of a number that has no more than k digits
pub padded_octal : (k n : ℕ) → 0 < k → k ≤ 64 → n < 2 ^ (3 * k) → padded_integral (format_spec 32 0 4 k (2 ^ 64 - 1)) false [] (digits 8 false n) ≡ octal k n
padded_octal zero n some few small = absurd (omega arith)
padded_octal (suc k) n some few small =
    with_spec (suc k) (digits 8 false n) _ (ap (with_zeros (suc k)) (sym (all_digits n)) ∙ ap (λ m. with_zeros m (digits_onto 64 8 false n [])) {x = suc k} {y = suc k + length {A = ℕ} []} (omega arith) ∙ digits_with_zeros k n 63 [] small (omega arith) ∙ append-nil (octal (suc k) n))
