-- Writes through a map change only cells that it takes writes for.
use Rattle.std.proofs.Common.{◌≡◌, ℕ, ◌%◌, ◌^◌, Bool, true, false, cond, eqb, ◌⊎◌, List, [], ◌∷◌, Ok, Err, Result, refl, ◌∙◌, inl, inr, arith}
use Rattle.answers.specs.declared.fault.Fault.{Fault}
use Rattle.pages.specs.View.{original}
use Rattle.std.proofs.lemmas.Bool.Decides.{nat_tests}
use Rattle.store.specs.Meaning.{Meaning, Words, after, stored}
use Rattle.view.specs.Seen.{takes_at}
use Rattle.view.specs.Writes.{Write, after_writes}
use Rattle.step.specs.Laws.{SameMap, Writable, WritesOnly}

put_at : (w : Words) (c v k : ℕ) (b : Bool) → eqb k c ≡ b → (cond b v (w k) ≡ w k) ⊎ (c ≡ k)
put_at w c v k true e = inr (grind (arith, nat_tests))
put_at w c v k false e = inl refl

stored_word : (x : Result ℕ Fault) (w : Words) (v k : ℕ) → (stored x w v k ≡ w k) ⊎ (x ≡ Ok k)
stored_word (Ok c) w v k = elim (put_at w c (v % 2 ^ 24) k (eqb k c) refl) [ inl e ↦ inl e | inr e ↦ inr (rw e refl) ]
stored_word (Err f) w v k = inl refl

-- one write
after_word : (x : Result (Unit {0}) Fault) (m : Meaning) (a v k : ℕ) → ((after x m a v).word k ≡ m.word k) ⊎ ((m.cell a ≡ Ok k) × (x ≡ Ok tt))
after_word (Ok u) m a v k = elim (stored_word (m.cell a) m.word v k) [ inl e ↦ inl e | inr e ↦ inr (e, refl) ]
after_word (Err f) m a v k = inl refl

pub after_map : (x : Result (Unit {0}) Fault) (m : Meaning) (a v : ℕ) → SameMap m (after x m a v)
after_map (Ok u) m a v = record { size = refl; cells = refl; cell = refl; takes = refl }
after_map (Err f) m a v = record { size = refl; cells = refl; cell = refl; takes = refl }

map_trans : (m n o : Meaning) → SameMap m n → SameMap n o → SameMap m o
map_trans m n o h k = record { size = cc; cells = cc; cell = cc; takes = cc }

writable_back : (m n : Meaning) (g k : ℕ) → SameMap m n → Writable n g k → Writable m g k
writable_back m n g k h (a, c, t) = (a, rw h.cell at c, rw h.takes at t)

-- and so a list of them
writes_only_then : (m n o : Meaning) (g k : ℕ) → SameMap m n → (n.word k ≡ m.word k) ⊎ Writable m g k → (o.word k ≡ n.word k) ⊎ Writable n g k → (o.word k ≡ m.word k) ⊎ Writable m g k
writes_only_then m n o g k h (inl d) (inl e) = inl (e ∙ d)
writes_only_then m n o g k h (inl d) (inr e) = inr (writable_back m n g k h e)
writes_only_then m n o g k h (inr d) e = inr d

first_write : (m : Meaning) (g : ℕ) (x : Write) (k : ℕ) → ((after (takes_at m g x.at) m (original g x.at.bits) x.word.bits).word k ≡ m.word k) ⊎ Writable m g k
first_write m g x k =
    elim (after_word (takes_at m g x.at) m (original g x.at.bits) x.word.bits k) [ inl e ↦ inl e | inr e ↦ inr (x.at, e.0, e.1) ]

pub writes_only : (g : ℕ) (xs : List Write) (m : Meaning) → WritesOnly m (after_writes g xs m) g
writes_only g [] m = record { map = record { size = refl; cells = refl; cell = refl; takes = refl }; words = λ k. inl refl }
writes_only g (x ∷ xs) m =
    let n = after (takes_at m g x.at) m (original g x.at.bits) x.word.bits in
    let h : SameMap m n = after_map (takes_at m g x.at) m (original g x.at.bits) x.word.bits in
    let rest : WritesOnly n (after_writes g xs n) g = writes_only g xs n in
    record {
      map = map_trans m n (after_writes g xs n) h rest.map;
      words = λ k. writes_only_then m n (after_writes g xs n) g k h (first_write m g x k) (rest.words k);
    }
