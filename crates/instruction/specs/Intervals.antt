-- The interval of a search.
use Rattle.std.specs.Prelude.{ℕ, ◌+◌, ◌%◌}
use Rattle.std.proofs.Common.{arith}
use Rattle.instruction.specs.declared.interval.Interval.{Interval}

-- the third digit, or 8 for 0
abbrev pub interval_words : ℕ → ℕ
interval_words d = (d + 7) % 8 + 1

unfoldable pub interval : ℕ → Interval
interval d = record { words = interval_words d; some = omega arith; few = omega arith }
