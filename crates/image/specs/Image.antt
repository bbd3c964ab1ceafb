-- What an image says, and why one is refused.
use Rattle.std.specs.Prelude.{◌≡◌, ℕ, ◌+◌, ◌*◌, ◌/◌, ◌%◌, ◌≤◌, Bool, cond, not, ◌&&◌, ◌||◌, List, [], ◌∷◌, ◌++◌, length, drop, Ok, Err, codes, Result, ◌==◌, nat_lt, slice_index}
use Rattle.answers.specs.declared.refusal.Refusal.{Refusal}
use Rattle.answers.specs.declared.refusal.Refusal.TheVariants.{ImageShort, ImageMark, ImageVersion, Length, Keys, ImageLength}

-- a number of two bytes, the high one first
abbrev pub big16 : ℕ → ℕ → ℕ
big16 high low = high * 256 + low

-- it begins with RCK
abbrev pub marked : List ℕ → Bool
marked bs = slice_index bs 0 == 0x52 && slice_index bs 1 == 0x43 && slice_index bs 2 == 0x4B

-- the other parts of an image, by their places
abbrev pub version : List ℕ → ℕ
version bs = big16 (slice_index bs 3) (slice_index bs 4)

abbrev pub keys_of : List ℕ → ℕ
keys_of bs = slice_index bs 5

abbrev pub turn_of : List ℕ → ℕ
turn_of bs = big16 (slice_index bs 6) (slice_index bs 7)

abbrev pub count_of : List ℕ → ℕ
count_of bs = big16 (slice_index bs 8) (slice_index bs 9)

abbrev pub words_of : List ℕ → List ℕ
words_of bs = drop 10 bs

-- what an image tells: its keys, the length of a turn, and the bytes of its words
pub record Content : Type 0 where
  pub keys : ℕ
  pub turn : ℕ
  pub words : List ℕ

abbrev pub content : ℕ → ℕ → List ℕ → Content
content k t ws = record { keys = k; turn = t; words = ws }

-- a refusal where the test holds, else what comes after it
abbrev pub refuse : Bool → Refusal → Result Content Refusal → Result Content Refusal
refuse broken e rest = cond broken (Err e) rest

-- the checks in their order: a test that holds refuses
abbrev pub reading : List ℕ → Result Content Refusal
reading bs =
    refuse (nat_lt (length bs) 10) ImageShort
    (refuse (not (marked bs)) ImageMark
    (refuse (not (version bs == 1)) ImageVersion
    (refuse (nat_lt (turn_of bs) 1 || nat_lt 10000 (turn_of bs)) Length
    (refuse (nat_lt 63 (keys_of bs)) Keys
    (refuse (nat_lt 4096 (count_of bs) || not (length bs == 10 + 3 * count_of bs)) ImageLength
    (Ok (content (keys_of bs) (turn_of bs) (words_of bs))))))))

-- what holds of the keys, the length of a turn and the bytes of the words of an image that is not refused
pub record Sound (bs : List ℕ) (k t : ℕ) (ws : List ℕ) : Type 0 where
  pub keys : k ≤ 63
  pub some : 1 ≤ t
  pub most : t ≤ 10000
  pub count : count_of bs ≤ 4096
  pub whole : length ws ≡ 3 * count_of bs

-- the two bytes of a number, the high one first
abbrev pub bytes16 : ℕ → List ℕ
bytes16 n = n / 256 ∷ n % 256 ∷ []

-- the image of keys, a length of a turn and the bytes of words
abbrev pub encoded : ℕ → ℕ → List ℕ → List ℕ
encoded k t ws = codes "RCK" ++ bytes16 1 ++ (k ∷ []) ++ bytes16 t ++ bytes16 (length ws / 3) ++ ws
