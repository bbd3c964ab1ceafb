use Rattle.std.proofs.Common.{◌≡◌, ℕ, ◌%◌, ◌^◌, ◌<◌, ◌≤◌, ap, ◌∙◌, subst}
use native.Mathlib.Bridge.{le_prop}
use Rattle.ones.specs.declared.number.Ones.{Ones}
use Rattle.ones.specs.Numbers.{low}

-- two numbers of the same bits are one number, since a bound has one proof
pub same : {w : ℕ} (a b : Ones w) → a.bits ≡ b.bits → a ≡ b
same {w} a b e =
    subst (λ (n : ℕ). (p : n < 2 ^ w) → a ≡ record { bits = n; fits = p; wide = b.wide; narrow = b.narrow }) e
    (λ p.
    ap (λ (q : a.bits < 2 ^ w). let r : Ones w = record { bits = a.bits; fits = q; wide = a.wide; narrow = a.narrow } in r) (le_prop a.fits p)
    ∙ ap (λ (q : 0 < w). let r : Ones w = record { bits = a.bits; fits = p; wide = q; narrow = a.narrow } in r) (le_prop a.wide b.wide)
    ∙ ap (λ (q : w ≤ 48). let r : Ones w = record { bits = a.bits; fits = p; wide = b.wide; narrow = q } in r) (le_prop a.narrow b.narrow))
    b.fits

-- the number whose bits are the low ones of n is `low`
pub is_low : {w : ℕ} (a : Ones w) (wide : 0 < w) (narrow : w ≤ 48) (n : ℕ) → a.bits ≡ n % 2 ^ w → a ≡ low w wide narrow n
unfolding low
is_low {w} a wide narrow n e = same a (low w wide narrow n) e
