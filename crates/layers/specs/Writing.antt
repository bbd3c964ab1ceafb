-- A write that a layer takes, seen through the layer.
use Rattle.std.specs.Prelude.{◌≡◌, ℕ, ◌+◌, ◌-◌, ◌<◌, ◌≤◌, min, Bool, true, false, cond, ◌≢◌, List, Ok, Err, Result, nat_lt, refl}
use Rattle.std.proofs.Common.{sym, ap, subst, inl, inr, arith}
use Rattle.std.proofs.Math.Path.{fun_ext}
use Rattle.answers.specs.declared.fault.Fault.{Fault}
use Rattle.layers.specs.Pair.{paired, joined, moved, written}
use Rattle.layers.specs.Protection.{guarded, protected}
use Rattle.layers.specs.declared.pair.Pair.{Pair}
use Rattle.layers.specs.declared.range.Range.{Range}
use Rattle.std.proofs.lemmas.Bool.{cases_eq, cases_lt, eq-eqb, le-ltb, lt-ltb, ltb-true, ne_eqb}
use Rattle.store.specs.Meaning.{Meaning, Words, Sound, Within, after, put, stored, with_word}

-- what is taken above is taken below
pub guarded_taken : (b : Bool) (f : Fault) (r : Result (Unit {0}) Fault) → guarded b f r ≡ Ok tt → r ≡ Ok tt
guarded_taken b f (Ok u) h = refl
guarded_taken b f (Err e) h = let z : ◌≡◌ {A = ℕ} 0 1 = cc in absurd (omega arith)

pub protected_writes : (rs : List Range) (m n : Meaning) (a v : ℕ) → n ≡ after (Ok tt) m a v → protected rs n ≡ after (Ok tt) (protected rs m) a v
protected_writes rs m n a v e = ap (protected rs) e

put_first : (c : ℕ) (w u : Words) (k v : ℕ) → k < c → (j : ℕ) → joined c (put w k v) u j ≡ put (joined c w u) k v j
put_first c w u k v h j =
    elim (cases_eq j k) [ inl e ↦ (let l : j < c = omega arith in rw (eq-eqb j k e, lt-ltb j c l)) | inr d ↦ rw (ne_eqb j k d) ]

put_second : (c : ℕ) (w u : Words) (k v j : ℕ) → joined c w (put u k v) j ≡ put (joined c w u) (c + k) v j
put_second c w u k v j =
    elim (cases_lt j c) [
      | inl l ↦ (let d : j ≢ c + k = λ e. omega arith in rw (lt-ltb j c l, ne_eqb j (c + k) d))
      | inr l ↦
          elim (cases_eq j (c + k)) [
            | inl e ↦ (let f : j - c ≡ k = omega arith in rw (le-ltb j c l, eq-eqb j (c + k) e, eq-eqb (j - c) k f))
            | inr d ↦ (let f : j - c ≢ k = λ e. d (omega arith) in rw (le-ltb j c l, ne_eqb j (c + k) d, ne_eqb (j - c) k f))
          ]
    ]

stored_first : (c : ℕ) (w u : Words) (v : ℕ) (r : Result ℕ Fault) → Within r c → (j : ℕ) → joined c (stored r w v) u j ≡ stored r (joined c w u) v j
stored_first c w u v (Ok k) h j = put_first c w u k _ h j
stored_first c w u v (Err e) h j = refl

stored_second : (c : ℕ) (w u : Words) (v : ℕ) (r : Result ℕ Fault) (j : ℕ) → joined c w (stored r u v) j ≡ stored (moved c r) (joined c w u) v j
stored_second c w u v (Ok k) j = put_second c w u k _ j
stored_second c w u v (Err e) j = refl

pub first_after : (m n : Meaning) → Sound m → (a v : ℕ) → a < m.size → paired (after (Ok tt) m a v) n ≡ after (Ok tt) (paired m n) a v
first_after m n h a v p =
    rw (lt-ltb a m.size p) (ap (with_word (paired m n)) (fun_ext (stored_first m.cells m.word n.word v (m.cell a) (h.within a))))

pub second_after : (m n : Meaning) (a v : ℕ) → m.size ≤ a → a < min (m.size + n.size) 262144 → paired m (after (Ok tt) n (a - m.size) v) ≡ after (Ok tt) (paired m n) a v
second_after m n a v p q =
    rw (le-ltb a m.size p, lt-ltb a (min (m.size + n.size) 262144) q)
    (ap (with_word (paired m n)) (fun_ext (stored_second m.cells m.word n.word v (n.cell (a - m.size)))))

-- a write that the pair takes from its size up to that of both is one that the second store takes
taken_second : (b : Bool) (f : Fault) (r : Result (Unit {0}) Fault) → cond b r (Err f) ≡ Ok tt → (b ≡ true) × (r ≡ Ok tt)
taken_second true f r h = (refl, h)
taken_second false f r h = let z : ◌≡◌ {A = ℕ} 0 1 = cc in absurd (omega arith)

module _ {F S : Type 0} (mf : F → Meaning) (ms : S → Meaning) (f : F → ℕ → ℕ → F) (g : S → ℕ → ℕ → S) (p : Pair F S) (a v : ℕ) where
  at_first : Sound (mf p.first) → ((mf p.first).takes a ≡ Ok tt → mf (f p.first a v) ≡ after (Ok tt) (mf p.first) a v)
      → a < (mf p.first).size → (paired (mf p.first) (ms p.second)).takes a ≡ Ok tt
      → paired (mf (f p.first a v)) (ms p.second) ≡ after (Ok tt) (paired (mf p.first) (ms p.second)) a v
  at_first s h l t =
      rw (h (rw (lt-ltb a (mf p.first).size l) at t)) (first_after (mf p.first) (ms p.second) s a v l)

  at_second : ((b : ℕ) → (ms p.second).takes b ≡ Ok tt → ms (g p.second b v) ≡ after (Ok tt) (ms p.second) b v)
      → (mf p.first).size ≤ a → (paired (mf p.first) (ms p.second)).takes a ≡ Ok tt
      → paired (mf p.first) (ms (g p.second (a - (mf p.first).size) v)) ≡ after (Ok tt) (paired (mf p.first) (ms p.second)) a v
  at_second h l t =
      let k = taken_second (nat_lt a (min ((mf p.first).size + (ms p.second).size) 262144)) _ ((ms p.second).takes (a - (mf p.first).size)) (rw (le-ltb a (mf p.first).size l) at t) in
      rw (h (a - (mf p.first).size) k.1) (second_after (mf p.first) (ms p.second) a v l (ltb-true _ _ k.0))

  pub pair_writes : Sound (mf p.first) → ((mf p.first).takes a ≡ Ok tt → mf (f p.first a v) ≡ after (Ok tt) (mf p.first) a v)
      → ((b : ℕ) → (ms p.second).takes b ≡ Ok tt → ms (g p.second b v) ≡ after (Ok tt) (ms p.second) b v)
      → (paired (mf p.first) (ms p.second)).takes a ≡ Ok tt
      → paired (mf (written (mf p.first) f g p a v).first) (ms (written (mf p.first) f g p a v).second) ≡ after (Ok tt) (paired (mf p.first) (ms p.second)) a v
  pair_writes s h k t =
      elim (cases_lt a (mf p.first).size) [
        | inl l ↦
            let e : written (mf p.first) f g p a v ≡ record { first = f p.first a v; second = p.second } = rw (lt-ltb a (mf p.first).size l) in
            subst (λ (q : Pair F S). paired (mf q.first) (ms q.second) ≡ after (Ok tt) (paired (mf p.first) (ms p.second)) a v) (sym e) (at_first s h l t)
        | inr l ↦
            let e : written (mf p.first) f g p a v ≡ record { first = p.first; second = g p.second (a - (mf p.first).size) v } = rw (le-ltb a (mf p.first).size l) in
            subst (λ (q : Pair F S). paired (mf q.first) (ms q.second) ≡ after (Ok tt) (paired (mf p.first) (ms p.second)) a v) (sym e) (at_second k l t)
      ]
