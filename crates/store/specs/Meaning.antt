-- What a store means, apart from how it holds its words.
use Rattle.std.specs.Prelude.{◌≡◌, ℕ, ◌%◌, ◌^◌, ◌<◌, ◌≤◌, cond, Ok, Err, Result, ◌==◌}
use Rattle.answers.specs.declared.cause.Cause.TheVariants.{Beyond}
use Rattle.answers.specs.declared.fault.Fault.{Fault}
use Rattle.answers.specs.declared.layer.Layer.{Layer}

-- what each cell holds
abbrev pub Words : Type 0
Words = ℕ → ℕ

-- the map: `cell a` is the cell that address a reads, or the fault; `takes a` says whether
-- a write at a is taken, or gives its fault; and the words: `word k` is what cell k holds
pub record Meaning : Type 0 where
  pub size : ℕ
  pub cells : ℕ
  pub cell : ℕ → Result ℕ Fault
  pub takes : ℕ → Result (Unit {0}) Fault
  pub word : Words

abbrev pub fetched : Result ℕ Fault → Words → Result ℕ Fault
fetched (Ok k) w = Ok (w k)
fetched (Err f) w = Err f

-- what reading address a answers
abbrev pub reads : Meaning → ℕ → Result ℕ Fault
reads m a = fetched (m.cell a) m.word

-- the words once cell k is given v
abbrev pub put : Words → ℕ → ℕ → Words
put w k v j = cond (j == k) v (w j)

-- the words once the cell of an address is given the low 24 bits of v
abbrev pub stored : Result ℕ Fault → Words → ℕ → Words
stored (Ok k) w v = put w k (v % 2 ^ 24)
stored (Err f) w v = w

-- the same map over other words
abbrev pub with_word : Meaning → Words → Meaning
with_word m w = record { size = m.size; cells = m.cells; cell = m.cell; takes = m.takes; word = w }

-- the store once a write of v at a was answered: a fault changes nothing
abbrev pub after : Result (Unit {0}) Fault → Meaning → ℕ → ℕ → Meaning
after (Ok u) m a v = with_word m (stored (m.cell a) m.word v)
after (Err f) m a v = m

-- new where a write was taken, old where it was not
abbrev pub settled : {S : Type 0} → Result (Unit {0}) Fault → S → S → S
settled (Ok u) new old = new
settled (Err f) new old = old

-- a fault for want of the address
abbrev pub Past : {X : Type 0} → Result X Fault → Type 0
Past (Ok x) = ⊥
Past (Err f) = f.cause ≡ Beyond

-- a cell that is read is one of n
abbrev pub Within : Result ℕ Fault → ℕ → Type 0
Within (Ok k) n = k < n
Within (Err f) n = Unit {0}

-- what faults on reading faults on writing
abbrev pub Follows : Result ℕ Fault → Result (Unit {0}) Fault → Type 0
Follows (Ok k) r = Unit {0}
Follows (Err f) (Ok u) = ⊥
Follows (Err f) (Err e) = Unit {0}

-- what holds of every store
pub record Sound (m : Meaning) : Type 0 where
  pub few : m.size ≤ 262144
  pub past_cell : (a : ℕ) → m.size ≤ a → Past (m.cell a)
  pub past_takes : (a : ℕ) → m.size ≤ a → Past (m.takes a)
  pub within : (a : ℕ) → Within (m.cell a) m.cells
  pub follows : (a : ℕ) → Follows (m.cell a) (m.takes a)
  pub narrow : (k : ℕ) → m.word k < 2 ^ 24

-- the fault of a layer that has no address a
abbrev pub beyond : Layer → ℕ → Fault
beyond l a = record { cause = Beyond; layer = l; address = a }
