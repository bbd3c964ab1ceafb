use Rattle.std.specs.Prelude.{ℕ, ◌+◌, ◌-◌, ◌*◌, ◌/◌, ◌%◌, ◌^◌, ◌<◌, ◌≤◌, min, Bool, ℤ, ◌+ℤ◌, ◌-ℤ◌, ◌==◌, bit_and, bit_or, bit_xor, nat_lt}
use Rattle.std.proofs.Common.{lit<, lit≤}
use Rattle.std.proofs.lemmas.Nat.{mod_below, pow_pos}
use Rattle.ones.specs.declared.number.Ones.{Ones}
use Rattle.ones.specs.Plain.{ones, sum, flipped, settled, rotated, shifted, widened}
use Rattle.ones.specs.Signed.{signed, overflows}

-- the low w bits of n
unfoldable pub low : (w : ℕ) → 0 < w → w ≤ 48 → ℕ → Ones w
low w wide narrow n = record { bits = n % 2 ^ w; fits = mod_below n (2 ^ w) (pow_pos w); wide = wide; narrow = narrow }

-- the low 15 bits of n
abbrev pub address : ℕ → Ones 15
address n = low 15 (lit< tt) (lit≤ tt) n

-- the low 24 bits of n
abbrev pub word : ℕ → Ones 24
word n = low 24 (lit< tt) (lit≤ tt) n

-- the low 48 bits of n
abbrev pub double : ℕ → Ones 48
double n = low 48 (lit< tt) (lit≤ tt) n

-- the signed value
unfoldable pub value : {w : ℕ} → Ones w → ℤ
value {w} a = signed w a.bits

-- the number of the bits n, at the width of a
abbrev pub with_bits : {w : ℕ} → Ones w → ℕ → Ones w
with_bits {w} a n = low w a.wide a.narrow n

-- all bits turned
unfoldable pub complement : {w : ℕ} → Ones w → Ones w
complement {w} a = with_bits a (ones w - a.bits)

-- the sum
unfoldable pub plus : {w : ℕ} → Ones w → Ones w → Ones w
plus {w} a b = with_bits a (sum w a.bits b.bits)

-- the difference: the sum with all bits of b turned
abbrev pub minus : {w : ℕ} → Ones w → Ones w → Ones w
minus a b = plus a (complement b)

-- the exact sum is no signed value of w bits
abbrev pub sum_overflows : {w : ℕ} → Ones w → Ones w → Bool
sum_overflows {w} a b = overflows w (value a +ℤ value b)

-- the exact difference is no signed value of w bits
abbrev pub difference_overflows : {w : ℕ} → Ones w → Ones w → Bool
difference_overflows {w} a b = overflows w (value a -ℤ value b)

-- signed order: the plain order once both top bits are turned
unfoldable pub below : {w : ℕ} → Ones w → Ones w → Bool
below {w} a b = nat_lt (flipped w a.bits) (flipped w b.bits)

-- equal, or both zeros
unfoldable pub alike : {w : ℕ} → Ones w → Ones w → Bool
alike {w} a b = settled w a.bits == settled w b.bits

-- moved left by n places, end around
unfoldable pub left : {w : ℕ} → Ones w → ℕ → Ones w
left {w} a n = with_bits a (rotated w (n % w) a.bits)

-- moved right by n places, the sign copied
unfoldable pub right : {w : ℕ} → Ones w → ℕ → Ones w
right {w} a n = with_bits a (shifted w (min n w) a.bits)

-- the bits that are set in both
unfoldable pub conjunction : {w : ℕ} → Ones w → Ones w → Ones w
conjunction a b = with_bits a (bit_and a.bits b.bits)

-- the bits that are set in one or both
unfoldable pub disjunction : {w : ℕ} → Ones w → Ones w → Ones w
disjunction a b = with_bits a (bit_or a.bits b.bits)

-- the bits that are set in one and not in the other
unfoldable pub exclusive : {w : ℕ} → Ones w → Ones w → Ones w
exclusive a b = with_bits a (bit_xor a.bits b.bits)

-- n addresses on, 00000 after 77777
unfoldable pub counted : Ones 15 → ℕ → Ones 15
counted a n = address (a.bits + n)

-- the word with other low 15 bits
unfoldable pub with_low : Ones 24 → Ones 15 → Ones 24
with_low a b = word (a.bits / 2 ^ 15 * 2 ^ 15 + b.bits)

-- a at 24 bits, its top bit copied into the new ones
unfoldable pub extended : Ones 15 → Ones 24
extended a = word (widened 15 24 a.bits)

-- two words as one number, the first above the second
unfoldable pub joined : Ones 24 → Ones 24 → Ones 48
joined a q = double (a.bits * 2 ^ 24 + q.bits)

-- the first of two words
abbrev pub upper : Ones 48 → Ones 24
upper d = word (d.bits / 2 ^ 24)

-- the second of two words
abbrev pub lower : Ones 48 → Ones 24
lower d = word d.bits
