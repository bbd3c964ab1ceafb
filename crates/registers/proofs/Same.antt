-- Keys of the same bits are the same, since a bound has one proof.
use Rattle.std.proofs.Common.{◌≡◌, ℕ, ◌<◌, ◌%◌, ap, arith, subst}
use native.Mathlib.Bridge.{le_prop}
use Rattle.registers.specs.Keys.{keys}
use Rattle.registers.specs.declared.keys.Keys.{Keys}

pub same : (a b : Keys) → a.bits ≡ b.bits → a ≡ b
same a b e =
    subst (λ (n : ℕ). (p : n < 64) → a ≡ record { bits = n; fits = p }) e
    (λ p. ap (λ (q : a.bits < 64). let k : Keys = record { bits = a.bits; fits = q } in k) (le_prop a.fits p))
    b.fits

-- So keys of the bits n are those of the number n.
pub as_keys : (n : ℕ) (p : n < 64) → ◌≡◌ {A = Keys} (record { bits = n; fits = p }) (keys n)
unfolding keys
as_keys n p = same (record { bits = n; fits = p }) (keys n) (let e : n ≡ n % 64 = omega arith in e)
