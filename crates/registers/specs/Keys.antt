-- The jump keys.
use Rattle.std.specs.Prelude.{ℕ, ◌/◌, ◌%◌, Bool, cond, Some, None, Option, ◌==◌, nat_lt}
use Rattle.std.proofs.Common.{lit<}
use Rattle.std.proofs.lemmas.Nat.{mod_below}
use Rattle.registers.specs.declared.key.Key.{Key}
use Rattle.registers.specs.declared.key.Key.TheVariants.{One, Two, Three, Four, Five, Six}
use Rattle.registers.specs.declared.keys.Keys.{Keys}

-- the keys whose bits are the low six of n
unfoldable pub keys : ℕ → Keys
keys n = record { bits = n % 64; fits = mod_below n 64 (lit< tt) }

-- the keys n, where n has six bits
abbrev pub keys_from : ℕ → Option Keys
keys_from n = cond (nat_lt n 64) (Some (keys n)) None

-- key d is bit d - 1
abbrev pub key_weight : Key → ℕ
key_weight One = 1
key_weight Two = 2
key_weight Three = 4
key_weight Four = 8
key_weight Five = 16
key_weight Six = 32

abbrev pub key_set : Keys → Key → Bool
key_set k d = k.bits / key_weight d % 2 == 1
