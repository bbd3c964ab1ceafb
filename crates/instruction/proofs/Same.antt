-- Two intervals of as many words are one, since a bound has one proof.
use Rattle.std.proofs.Common.{◌≡◌, ℕ, ◌<◌, ◌≤◌, ap, ◌∙◌, subst}
use native.Mathlib.Bridge.{le_prop}
use Rattle.instruction.specs.declared.interval.Interval.{Interval}

pub same : (a b : Interval) → a.words ≡ b.words → a ≡ b
same a b e =
    subst (λ (n : ℕ). (p : 0 < n) (q : n ≤ 8) → a ≡ record { words = n; some = p; few = q }) e
    (λ p q.
    ap (λ (x : 0 < a.words). let r : Interval = record { words = a.words; some = x; few = a.few } in r) (le_prop a.some p)
    ∙ ap (λ (x : a.words ≤ 8). let r : Interval = record { words = a.words; some = p; few = x } in r) (le_prop a.few q))
    b.some b.few
