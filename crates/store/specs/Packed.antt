-- Bytes, three to a word, the highest first.
use Rattle.std.specs.Prelude.{ℕ, ◌+◌, ◌*◌, ◌/◌, ◌%◌, ◌^◌, min, List, length, slice_index, slice_set}
use Rattle.std.proofs.Common.{arith}
use Rattle.answers.specs.declared.layer.Layer.TheVariants as layers
use Rattle.store.specs.Core.{core, core_sound}
use Rattle.store.specs.Meaning.{Meaning, Sound}

-- word k of the bytes bs
abbrev pub word_at : List ℕ → ℕ → ℕ
word_at bs k = (slice_index bs (3 * k) * 65536 + slice_index bs (3 * k + 1) * 256 + slice_index bs (3 * k + 2)) % 2 ^ 24

-- the store that the bytes bs are: as many words as are whole
abbrev pub packed : List ℕ → Meaning
packed bs = core layers.Packed (min (length bs / 3) 262144) (word_at bs)

-- the bytes once v is written at a: three of them, and no other
abbrev pub spread : List ℕ → ℕ → ℕ → List ℕ
spread bs a v = slice_set (slice_set (slice_set bs (3 * a) (v / 65536 % 256)) (3 * a + 1) (v / 256 % 256)) (3 * a + 2) (v % 256)

pub packed_sound : (bs : List ℕ) → Sound (packed bs)
packed_sound bs = core_sound layers.Packed (min (length bs / 3) 262144) (word_at bs) (omega arith) (λ k. omega arith)
