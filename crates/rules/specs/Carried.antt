-- What a rule leaves behind, in the registers and in the store that it works on.
use Rattle.std.specs.Prelude.{◌≡◌, ℕ, Result}
use Rattle.registers.specs.declared.registers.Registers.{Registers}
use Rattle.rules.specs.Sight.{Done, outcome, left, writes}
use Rattle.store.specs.Meaning.{Meaning}
use Rattle.view.specs.Writes.{after_writes, with_writes}

-- group g's rule was carried out, or not: its answer, the registers r become r', the store s becomes s'. The map of s stays,
-- and its words are the old ones with the rule's writes put through the map; the same of the store as a whole value
pub record Carried {E S : Type 0} (meaning : S → Meaning) (wrote : S → ℕ → ℕ → S) (g : ℕ) (rule : Result Done E) (r r' : Registers) (s s' : S) (x : Result (Unit {0}) E) : Type 0 where
  pub answer : x ≡ outcome rule
  pub registers : r' ≡ left r rule
  pub effect : meaning s' ≡ after_writes g (writes rule) (meaning s)
  pub whole : s' ≡ with_writes meaning wrote g (writes rule) s
