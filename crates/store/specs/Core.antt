-- Cores: each address is its own cell.
use Rattle.std.specs.Prelude.{◌≡◌, ℕ, ◌^◌, ◌<◌, ◌≤◌, Bool, true, false, cond, Ok, Err, Result, nat_lt, refl}
use Rattle.answers.specs.declared.fault.Fault.{Fault}
use Rattle.answers.specs.declared.layer.Layer.{Layer}
use Rattle.std.proofs.lemmas.Bool.{lt-ltb, le-ltb, ltb-true, cond_both}
use Rattle.store.specs.Meaning.{Meaning, Words, Sound, Within, Follows, beyond}

-- x below n, and cause 5 from n up
abbrev pub below : {X : Type 0} → Layer → ℕ → ℕ → X → Result X Fault
below l n a x = cond (nat_lt a n) (Ok x) (Err (beyond l a))

-- a core of layer l that has n words w
abbrev pub core : Layer → ℕ → Words → Meaning
core l n w = record { size = n; cells = n; cell = λ a. below l n a a; takes = λ a. below l n a tt; word = w }

-- the same in words: n addresses and n cells, address a reads and takes cell a, whose word is
-- w a; and from n up each address faults with cause 5, this layer and itself
pub record Core (l : Layer) (n : ℕ) (w : Words) (m : Meaning) : Type 0 where
  pub size : m.size ≡ n
  pub cells : m.cells ≡ n
  pub reads_cell : (a : ℕ) → a < n → m.cell a ≡ Ok a
  pub takes_write : (a : ℕ) → a < n → m.takes a ≡ Ok tt
  pub words : (k : ℕ) → m.word k ≡ w k
  pub no_cell : (a : ℕ) → n ≤ a → m.cell a ≡ Err (beyond l a)
  pub no_write : (a : ℕ) → n ≤ a → m.takes a ≡ Err (beyond l a)

pub is_core : (l : Layer) (n : ℕ) (w : Words) → Core l n w (core l n w)
is_core l n w = record {
  size = refl;
  cells = refl;
  reads_cell = λ a h. rw (lt-ltb a n h);
  takes_write = λ a h. rw (lt-ltb a n h);
  words = λ k. refl;
  no_cell = λ a h. rw (le-ltb a n h);
  no_write = λ a h. rw (le-ltb a n h);
}

both_fault : (l : Layer) (a : ℕ) (b : Bool) → Follows (cond b (Ok a) (Err (beyond l a))) (cond b (Ok tt) (Err (beyond l a)))
both_fault l a true = tt
both_fault l a false = tt

pub core_sound : (l : Layer) (n : ℕ) (w : Words) → n ≤ 262144 → ((k : ℕ) → w k < 2 ^ 24) → Sound (core l n w)
core_sound l n w h e = record {
  few = h;
  past_cell = λ a p. rw (le-ltb a n p);
  past_takes = λ a p. rw (le-ltb a n p);
  within = λ a. cond_both (nat_lt a n) (Ok a) (Err (beyond l a)) (λ r. Within r n) (ltb-true a n) (λ _. tt);
  follows = λ a. both_fault l a (nat_lt a n);
  narrow = e;
}
