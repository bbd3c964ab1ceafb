-- What MEQ and MTH find, told without their steps.
use Rattle.std.specs.Prelude.{◌≡◌, ℕ, ◌+◌, ◌-◌, ◌*◌, ◌<◌, ◌≤◌, Bool, true, false, ◌⊎◌, Ok, Err, Result}
use Rattle.answers.specs.declared.fault.Fault.{Fault}
use Rattle.ones.specs.Numbers.{address, plus}
use Rattle.ones.specs.declared.number.Ones.{Ones}
use Rattle.registers.specs.Registers.{with_index, on}
use Rattle.registers.specs.declared.index.Index.TheVariants.{B1}
use Rattle.registers.specs.declared.registers.Registers.{Registers}

-- rd is what each address reads, hit the test of a word, i the interval, b what B1 holds
module _ (rd : Ones 15 → Result (Ones 24) Fault) (hit : Ones 24 → Bool) (m : Ones 15) (i b : ℕ) where
  -- what the k-th word answers: the one at m ⊕ (b - k·i)
  abbrev pub kth : ℕ → Result (Ones 24) Fault
  kth k = rd (plus m (address (b - k * i)))

  -- it was read, and is no hit
  abbrev pub Missed : ℕ → Type 0
  Missed k = (w : Ones 24) × (kth k ≡ Ok w) × (hit w ≡ false)

  -- so was each before it
  abbrev pub Before : ℕ → Type 0
  Before k = (j : ℕ) → 0 < j → j < k → Missed j

  -- n is b - k·i for some k, the word at m ⊕ n is a hit, and none before it is
  pub record First (n : Ones 15) : Type 0 where
    pub k : ℕ
    pub stepped : 0 < k
    pub number : n.bits + k * i ≡ b
    pub word : Ones 24
    pub read : rd (plus m n) ≡ Ok word
    pub hits : hit word ≡ true
    pub before : Before k

  -- each word down to the last number that is not below zero was read, and is no hit
  abbrev pub NoHit : Type 0
  NoHit = (k : ℕ) → 0 < k → k * i ≤ b → Missed k

  -- the k-th word gives the fault f, and none before it is a hit
  pub record Stops (f : Fault) : Type 0 where
    pub k : ℕ
    pub stepped : 0 < k
    pub within : k * i ≤ b
    pub read : kth k ≡ Err f
    pub before : Before k

-- the registers r become r', with the answer x: B1 is the number that hit, and P goes on by two; or none hit, B1 is zero,
-- and P goes on by one; or a fault leaves the registers as they were
abbrev pub Ends : (Ones 15 → Result (Ones 24) Fault) → (Ones 24 → Bool) → Ones 15 → ℕ → Registers → Registers → Result (Unit {0}) Fault → Type 0
Ends rd hit m i r r' (Ok u) =
    ((n : Ones 15) × First rd hit m i r.b1.bits n × (r' ≡ on 2 (with_index r B1 n)))
    ⊎ (NoHit rd hit m i r.b1.bits × (r' ≡ on 1 (with_index r B1 (address 0))))
Ends rd hit m i r r' (Err f) = Stops rd hit m i r.b1.bits f × (r' ≡ r)

-- rd' reads as rd does at each of those words
abbrev pub Agree : (Ones 15 → Result (Ones 24) Fault) → (Ones 15 → Result (Ones 24) Fault) → Ones 15 → ℕ → ℕ → Type 0
Agree rd rd' m i b = (k : ℕ) → 0 < k → k * i ≤ b → rd' (plus m (address (b - k * i))) ≡ rd (plus m (address (b - k * i)))

pub record Searches (rd : Ones 15 → Result (Ones 24) Fault) (hit : Ones 24 → Bool) (m : Ones 15) (i : ℕ) (r r' : Registers) (x : Result (Unit {0}) Fault) : Type 0 where
  pub ends : Ends rd hit m i r r' x
  -- no other end is possible, whatever all other words are
  pub only : (rd' : Ones 15 → Result (Ones 24) Fault) → Agree rd rd' m i r.b1.bits
      → (s : Registers) (y : Result (Unit {0}) Fault) → Ends rd' hit m i r s y → (s ≡ r') × (y ≡ x)
