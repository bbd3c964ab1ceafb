-- A word as three bytes.
use Rattle.std.specs.Prelude.{◌≡◌, ℕ, ◌+◌, ◌*◌, ◌/◌, ◌%◌, ◌^◌, ◌<◌, min, ◌≢◌, List, length, Ok, slice_index, slice_set}
use Rattle.std.proofs.Common.{sym, ⊎_elim, arith, length-set}
use Rattle.answers.specs.declared.layer.Layer.TheVariants as layers
use Rattle.std.proofs.lemmas.List.{get_or-set_same, get_or-set_other}
use Rattle.std.proofs.lemmas.Bool.{eq-eqb, ne_eqb, cases_eq}
use Rattle.store.specs.Meaning.{put, after}
use Rattle.store.specs.Packed.{packed, spread, word_at}
use Rattle.store.specs.Writing.{core_write, below_taken}

length_spread : (bs : List ℕ) (a v : ℕ) → length (spread bs a v) ≡ length bs
length_spread bs a v = simp length-set

other : (bs : List ℕ) (a v n : ℕ) → n ≢ 3 * a → n ≢ 3 * a + 1 → n ≢ 3 * a + 2 → slice_index (spread bs a v) n ≡ slice_index bs n
other bs a v n p q r = rw (get_or-set_other, get_or-set_other, get_or-set_other)

high : (bs : List ℕ) (a v : ℕ) → 3 * a < length bs → slice_index (spread bs a v) (3 * a) ≡ v / 65536 % 256
high bs a v h =
    let p : 3 * a ≢ 3 * a + 2 = omega arith in let q : 3 * a ≢ 3 * a + 1 = omega arith in
    rw (get_or-set_other, get_or-set_other, get_or-set_same)

middle : (bs : List ℕ) (a v : ℕ) → 3 * a + 1 < length bs → slice_index (spread bs a v) (3 * a + 1) ≡ v / 256 % 256
middle bs a v h =
    let p : 3 * a + 1 ≢ 3 * a + 2 = omega arith in
    let l : 3 * a + 1 < length (slice_set bs (3 * a) (v / 65536 % 256)) = simp length-set h in
    rw (get_or-set_other, get_or-set_same)

low : (bs : List ℕ) (a v : ℕ) → 3 * a + 2 < length bs → slice_index (spread bs a v) (3 * a + 2) ≡ v % 256
low bs a v h =
    let l : 3 * a + 2 < length (slice_set (slice_set bs (3 * a) (v / 65536 % 256)) (3 * a + 1) (v / 256 % 256)) = simp length-set h in
    rw get_or-set_same

same_word : (bs : List ℕ) (a v : ℕ) → 3 * a + 2 < length bs → word_at (spread bs a v) a ≡ v % 2 ^ 24
same_word bs a v h =
    let h₀ : 3 * a < length bs = omega arith in let h₁ : 3 * a + 1 < length bs = omega arith in
    rw (high bs a v h₀, middle bs a v h₁, low bs a v h) (omega arith)

other_word : (bs : List ℕ) (a v j : ℕ) → j ≢ a → word_at (spread bs a v) j ≡ word_at bs j
other_word bs a v j h =
    rw (
      other bs a v (3 * j) (omega arith) (omega arith) (omega arith),
      other bs a v (3 * j + 1) (omega arith) (omega arith) (omega arith),
      other bs a v (3 * j + 2) (omega arith) (omega arith) (omega arith),
    )

put_word : (bs : List ℕ) (a v j : ℕ) → 3 * a + 2 < length bs → word_at (spread bs a v) j ≡ put (word_at bs) a (v % 2 ^ 24) j
put_word bs a v j h =
    ⊎_elim (λ e. rw (eq-eqb j a e, e) (same_word bs a v h)) (λ d. rw (ne_eqb j a d) (other_word bs a v j d)) (cases_eq j a)

pub packed_write : (bs : List ℕ) (a v : ℕ) → a < min (length bs / 3) 262144 → packed (spread bs a v) ≡ after (Ok tt) (packed bs) a v
packed_write bs a v h =
    let l : 3 * a + 2 < length bs = omega arith in
    rw (length_spread bs a v) (core_write layers.Packed (min (length bs / 3) 262144) a v _ _ h (λ j. put_word bs a v j l))

pub packed_writes : (bs : List ℕ) (a v : ℕ) → (packed bs).takes a ≡ Ok tt → packed (spread bs a v) ≡ after (Ok tt) (packed bs) a v
packed_writes bs a v h = packed_write bs a v (below_taken layers.Packed (min (length bs / 3) 262144) a (sym h))
