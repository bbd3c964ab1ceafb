-- One store's addresses and cells before another's.
use Rattle.std.specs.Prelude.{ℕ, ◌+◌, ◌-◌, ◌^◌, ◌<◌, ◌≤◌, min, Bool, true, false, cond, Ok, Err, Result, nat_lt}
use Rattle.std.proofs.Common.{arith}
use Rattle.answers.specs.declared.fault.Fault.{Fault}
use Rattle.answers.specs.declared.layer.Layer.TheVariants as layers
use Rattle.layers.specs.declared.pair.Pair.{Pair}
use Rattle.std.proofs.lemmas.Bool.{le-ltb, cond_both}
use Rattle.store.specs.Meaning.{Meaning, Sound, Past, Within, Follows, beyond}

abbrev pub moved : ℕ → Result ℕ Fault → Result ℕ Fault
moved c (Ok k) = Ok (c + k)
moved c (Err e) = Err e

-- x below s, y from there to n, and a refusal from n up
abbrev pub split : {X : Type 0} → ℕ → ℕ → ℕ → Result X Fault → Result X Fault → Result X Fault
split s n a x y = cond (nat_lt a s) x (cond (nat_lt a n) y (Err (beyond layers.Pair a)))

abbrev pub joined : ℕ → (ℕ → ℕ) → (ℕ → ℕ) → ℕ → ℕ
joined c w u k = cond (nat_lt k c) (w k) (u (k - c))

abbrev pub paired : Meaning → Meaning → Meaning
paired m n = record {
  size = min (m.size + n.size) 262144;
  cells = m.cells + n.cells;
  cell = λ a. split m.size (min (m.size + n.size) 262144) a (m.cell a) (moved m.cells (n.cell (a - m.size)));
  takes = λ a. split m.size (min (m.size + n.size) 262144) a (m.takes a) (n.takes (a - m.size));
  word = joined m.cells m.word n.word;
}

past_split : {X : Type 0} (s n a : ℕ) (x y : Result X Fault) → s ≤ n → n ≤ a → Past (split s n a x y)
past_split s n a x y h p =
    let q : s ≤ a = omega arith in rw (le-ltb a s q, le-ltb a n p)

within_moved : (c d : ℕ) (r : Result ℕ Fault) → Within r d → Within (moved c r) (c + d)
within_moved c d (Ok k) h = omega arith
within_moved c d (Err e) h = tt

within_more : (c d : ℕ) (r : Result ℕ Fault) → Within r c → Within r (c + d)
within_more c d (Ok k) h = omega arith
within_more c d (Err e) h = tt

within_split : (b b' : Bool) (f : Fault) (t : ℕ) (x y : Result ℕ Fault) → Within x t → Within y t → Within (cond b x (cond b' y (Err f))) t
within_split true b' f t x y h k = h
within_split false true f t x y h k = k
within_split false false f t x y h k = tt

follows_moved : (c : ℕ) (r : Result ℕ Fault) (s : Result (Unit {0}) Fault) → Follows r s → Follows (moved c r) s
follows_moved c (Ok k) s h = tt
follows_moved c (Err e) s h = h

follows_split : (b b' : Bool) (f : Fault) (x y : Result ℕ Fault) (x' y' : Result (Unit {0}) Fault) → Follows x x' → Follows y y' → Follows (cond b x (cond b' y (Err f))) (cond b x' (cond b' y' (Err f)))
follows_split true b' f x y x' y' h k = h
follows_split false true f x y x' y' h k = k
follows_split false false f x y x' y' h k = tt

pub paired_sound : (m n : Meaning) → Sound m → Sound n → Sound (paired m n)
paired_sound m n h k =
    let s = m.size in let t = min (m.size + n.size) 262144 in let c = m.cells in
    let f : s ≤ t = let q = h.few in omega arith in
    record {
      few = omega arith;
      past_cell = λ a p. past_split s t a (m.cell a) (moved c (n.cell (a - s))) f p;
      past_takes = λ a p. past_split s t a (m.takes a) (n.takes (a - s)) f p;
      within = λ a. within_split (nat_lt a s) (nat_lt a t) (beyond layers.Pair a) (c + n.cells) (m.cell a) (moved c (n.cell (a - s)))
          (within_more c n.cells (m.cell a) (h.within a)) (within_moved c n.cells (n.cell (a - s)) (k.within (a - s)));
      follows = λ a. follows_split (nat_lt a s) (nat_lt a t) (beyond layers.Pair a) (m.cell a) (moved c (n.cell (a - s))) (m.takes a) (n.takes (a - s))
          (h.follows a) (follows_moved c (n.cell (a - s)) (n.takes (a - s)) (k.follows (a - s)));
      narrow = λ j. cond_both (nat_lt j c) (m.word j) (n.word (j - c)) (λ x. x < 2 ^ 24) (λ _. h.narrow j) (λ _. k.narrow (j - c));
    }

-- the pair once a write of v at a is taken by the store that has the address
abbrev pub written : {F S : Type 0} → Meaning → (F → ℕ → ℕ → F) → (S → ℕ → ℕ → S) → Pair F S → ℕ → ℕ → Pair F S
written m f g p a v = cond (nat_lt a m.size)
    (record { first = f p.first a v; second = p.second })
    (record { first = p.first; second = g p.second (a - m.size) v })
