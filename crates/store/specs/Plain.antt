-- 32-bit words, each a cell by its low 24 bits.
use Rattle.std.specs.Prelude.{ℕ, ◌%◌, ◌^◌, min, List, length, slice_index, slice_set}
use Rattle.std.proofs.Common.{arith}
use Rattle.answers.specs.declared.layer.Layer.TheVariants as layers
use Rattle.store.specs.Core.{core, core_sound}
use Rattle.store.specs.Meaning.{Meaning, Sound}

-- the store that the words ws are
abbrev pub plain : List ℕ → Meaning
plain ws = core layers.Plain (min (length ws) 262144) (λ k. slice_index ws k % 2 ^ 24)

-- the words once v is written at a: the top eight bits of its word are cleared
abbrev pub rewritten : List ℕ → ℕ → ℕ → List ℕ
rewritten ws a v = slice_set ws a (v % 2 ^ 24)

pub plain_sound : (ws : List ℕ) → Sound (plain ws)
plain_sound ws = core_sound layers.Plain (min (length ws) 262144) (λ k. slice_index ws k % 2 ^ 24) (omega arith) (λ k. omega arith)
