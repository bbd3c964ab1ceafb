-- What RTJ leaves, by its rule.
use Rattle.std.proofs.Common.{◌≡◌, ℕ, ◌/◌, ◌%◌, ◌^◌, ◌<◌, Ok, Err, Result, refl, ap, ◌∙◌, arith}
use Rattle.answers.specs.declared.fault.Fault.{Fault}
use Rattle.ones.specs.Numbers.{low, word, counted, with_low}
use Rattle.ones.specs.declared.number.Ones.{Ones}
use Rattle.operands.specs.ReturnJump.{Jumped}
use Rattle.pages.specs.View.{original}
use Rattle.registers.specs.declared.registers.Registers.{Registers}
use Rattle.rules.specs.Carried.{Carried}
use Rattle.rules.specs.Sight.{sight}
use Rattle.rules.specs.Table.{rtj}
use Rattle.std.proofs.lemmas.Bool.{eq-eqb, ne_eqb, cond-true, cond-false}
use Rattle.store.specs.Meaning.{Meaning, Sound, with_word, put}

-- a word n with the low bits b
module _ (n : ℕ) (b : Ones 15) (h : n < 2 ^ 24) where
  new_low : (with_low (word n) b).bits % 2 ^ 24 % 2 ^ 15 ≡ b.bits
  unfolding with_low low
  new_low = let f = b.fits in omega arith

  old_upper : (with_low (word n) b).bits % 2 ^ 24 / 2 ^ 15 ≡ n / 2 ^ 15
  unfolding with_low low
  old_upper = let f = b.fits in omega arith

module _ {S : Type 0} (meaning : S → Meaning) (wrote : S → ℕ → ℕ → S) (g : ℕ) (m : Ones 15) (r r' : Registers) (s s' : S) (sound : Sound (meaning s))
    (c : Carried meaning wrote g (rtj m (sight (meaning s) g) r) r r' s s' (Ok tt)) where
  -- by what address m answers
  at_cell : (t : Result (Unit {0}) Fault) → (meaning s).takes (original g m.bits) ≡ t
      → (k : Result ℕ Fault) → (meaning s).cell (original g m.bits) ≡ k → Jumped g m r r' (meaning s) (meaning s')
  at_cell (Err f) e k q = let z = rw e at c.answer in let y : ◌≡◌ {A = ℕ} 0 1 = cc in absurd (omega arith)
  at_cell (Ok u) e (Err f) q = let z = rw (e, q) at c.answer in let y : ◌≡◌ {A = ℕ} 0 1 = cc in absurd (omega arith)
  at_cell (Ok u) e (Ok k) q =
      let v = (with_low (word ((meaning s).word k)) (counted r.p 1)).bits % 2 ^ 24 in
      let x : meaning s' ≡ with_word (meaning s) (put (meaning s).word k v) = rw (e, q, e, q) at c.effect in
      let y : (meaning s').word k ≡ v = ap (λ (w : Meaning). w.word k) x ∙ cond-true _ _ _ (eq-eqb k k refl) in
      record {
        cell = k;
        there = q;
        low = rw y (new_low ((meaning s).word k) (counted r.p 1) (sound.narrow k));
        upper = rw y (old_upper ((meaning s).word k) (counted r.p 1) (sound.narrow k));
        others = λ j d. ap (λ (w : Meaning). w.word j) x ∙ cond-false _ _ _ (ne_eqb j k d);
        map = rw x;
        registers = rw (e, q) at c.registers;
      }

  pub jumped : Jumped g m r r' (meaning s) (meaning s')
  jumped = at_cell _ refl _ refl
