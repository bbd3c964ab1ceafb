-- Writes of an instruction, put into a store in their order.
use Rattle.std.specs.Prelude.{ℕ, List, [], ◌∷◌}
use Rattle.ones.specs.declared.number.Ones.{Ones}
use Rattle.pages.specs.View.{original}
use Rattle.store.specs.Meaning.{Meaning, after, settled}
use Rattle.view.specs.Seen.{takes_at}

-- a word for an address of the group
pub record Write : Type 0 where
  pub at : Ones 15
  pub word : Ones 24

-- the meaning of a store after group g's writes: one that is not taken changes nothing
abbrev pub after_writes : ℕ → List Write → Meaning → Meaning
after_writes g [] m = m
after_writes g (x ∷ xs) m = after_writes g xs (after (takes_at m g x.at) m (original g x.at.bits) x.word.bits)

-- the store itself after them
abbrev pub with_writes : {S : Type 0} → (S → Meaning) → (S → ℕ → ℕ → S) → ℕ → List Write → S → S
with_writes meaning wrote g [] s = s
with_writes meaning wrote g (x ∷ xs) s =
    with_writes meaning wrote g xs (settled (takes_at (meaning s) g x.at) (wrote s (original g x.at.bits) x.word.bits) s)
