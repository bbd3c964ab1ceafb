-- The limits of a descriptor.
use Rattle.std.specs.Prelude.{ℕ, ◌+◌, Bool, ◌&&◌, nat_le, nat_lt}

-- a page 0 to 127, a start 0 to 3, a length 1 to 4, and start plus length at most 4
abbrev pub lawful : ℕ → ℕ → ℕ → Bool
lawful page start len = nat_lt page 128 && (nat_lt start 4 && (nat_le 1 len && (nat_le len 4 && nat_le (start + len) 4)))
