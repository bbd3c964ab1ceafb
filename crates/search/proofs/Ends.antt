-- A search by what it finds.
use Rattle.std.proofs.Common.{◌≡◌, ℕ, zero, suc, ◌-◌, ◌*◌, ◌^◌, ◌<◌, ◌≤◌, Bool, true, false, cond, ◌⊎◌, Some, None, Ok, Err, Option, Result, sym, refl, ◌∙◌, inl, inr, mul-le-mul_right, arith, lit<, lit≤}
use Rattle.answers.specs.declared.fault.Fault.{Fault}
use Rattle.ones.proofs.Laws.{low_bits}
use Rattle.ones.proofs.Same.{is_low}
use Rattle.ones.specs.Numbers.{address, plus}
use Rattle.ones.specs.declared.number.Ones.{Ones}
use Rattle.registers.specs.declared.registers.Registers.{Registers}
use Rattle.rules.specs.Parts.{sought, search_ended}
use Rattle.rules.specs.Sight.{Done, bind, quiet, left, outcome}
use Rattle.search.specs.Found.{kth, Missed, Before, First, NoHit, Stops, Ends, Agree, Searches}
use Rattle.std.proofs.lemmas.Bool.{lt-ltb, le-ltb, cases_lt, cases_order}

-- how the numbers below b end
abbrev Ended : (Ones 15 → Result (Ones 24) Fault) → (Ones 24 → Bool) → Ones 15 → ℕ → ℕ → Result (Option (Ones 15)) Fault → Type 0
Ended rd hit m i b (Ok (Some n)) = First rd hit m i b n
Ended rd hit m i b (Ok None) = NoHit rd hit m i b
Ended rd hit m i b (Err f) = Stops rd hit m i b f

module _ (rd : Ones 15 → Result (Ones 24) Fault) (hit : Ones 24 → Bool) (m : Ones 15) (i : ℕ) (p : 0 < i) where
  -- a word of the rest is one later of the whole
  later : (b j : ℕ) → Missed rd hit m i (b - i) j → Missed rd hit m i b (suc j)
  later b j (w, e, h) = let q : b - i - j * i ≡ b - suc j * i = omega arith in (w, rw q at e, h)

  -- so are all before it
  all_later : (b k : ℕ) → Missed rd hit m i b 1 → Before rd hit m i (b - i) k → Before rd hit m i b (suc k)
  all_later b k u h zero l g = absurd (omega arith)
  all_later b k u h (suc zero) l g = u
  all_later b k u h (suc (suc j)) l g = later b (suc j) (h (suc j) (omega arith) (omega arith))

  -- the first word was no hit
  on_one : (b : ℕ) → i ≤ b → Missed rd hit m i b 1 → (o : Result (Option (Ones 15)) Fault) → Ended rd hit m i (b - i) o → Ended rd hit m i b o
  on_one b l u (Ok (Some n)) e =
      record {
        k = suc e.k;
        stepped = omega arith;
        number = let q = e.number in omega arith;
        word = e.word;
        read = e.read;
        hits = e.hits;
        before = all_later b e.k u e.before;
      }
  on_one b l u (Ok None) e = λ k q r. all_later b k u (λ j y z. e j y (omega (arith, mul-le-mul_right i z))) k q (omega arith)
  on_one b l u (Err f) e =
      record {
        k = suc e.k;
        stepped = omega arith;
        within = let q = e.within in omega arith;
        read = let q : b - i - e.k * i ≡ b - suc e.k * i = omega arith in rw q at e.read;
        before = all_later b e.k u e.before;
      }

  -- the first word decides, or the rest does
  first_word : (b : ℕ) → i ≤ b → b < 2 ^ 15 → (x : Result (Ones 24) Fault) → rd (plus m (address (b - i))) ≡ x
      → (o : Result (Option (Ones 15)) Fault) → Ended rd hit m i (b - i) o → Ended rd hit m i b (bind x (λ w. cond (hit w) (Ok (Some (address (b - i)))) o))
  first_word b l h (Err f) e o d =
      record {
        k = 1;
        stepped = omega arith;
        within = omega arith;
        read = let q : b - 1 * i ≡ b - i = omega arith in rw q e;
        before = λ j y z. absurd (omega arith);
      }
  first_word b l h (Ok w) e o d = at_word (hit w) refl
    where
      at_word : (t : Bool) → hit w ≡ t → Ended rd hit m i b (cond t (Ok (Some (address (b - i)))) o)
      at_word true t =
          record {
            k = 1;
            stepped = omega arith;
            number = let q : (address (b - i)).bits ≡ b - i = low_bits (lit< tt) (lit≤ tt) (b - i) (omega arith) in omega arith;
            word = w;
            read = e;
            hits = t;
            before = λ j y z. absurd (omega arith);
          }
      at_word false t = on_one b l (w, (let q : b - 1 * i ≡ b - i = omega arith in rw q e), t) o d

  -- all words
  ended : (n b : ℕ) → b < n → b < 2 ^ 15 → Ended rd hit m i b (sought n rd hit m i b)
  unfolding sought
  ended zero b l h = absurd (omega arith)
  ended (suc n) b l h =
      elim (cases_lt b i) [
        | inl q ↦ rw (lt-ltb b i q) (λ k y z. absurd (omega (arith, mul-le-mul_right i y)))
        | inr q ↦ rw (le-ltb b i q) (first_word b q h _ refl _ (ended n (b - i) (omega arith) (omega arith)))
      ]

-- the k-th word decides
abbrev Decides : (Ones 15 → Result (Ones 24) Fault) → (Ones 24 → Bool) → Ones 15 → ℕ → ℕ → ℕ → Result (Option (Ones 15)) Fault → Type 0
Decides rd hit m i b k (Ok (Some n)) = (w : Ones 24) × (kth rd hit m i b k ≡ Ok w) × (hit w ≡ true) × (n ≡ address (b - k * i))
Decides rd hit m i b k (Ok None) = ⊥
Decides rd hit m i b k (Err f) = kth rd hit m i b k ≡ Err f

-- some word decides, and none before it
abbrev Decided : (Ones 15 → Result (Ones 24) Fault) → (Ones 24 → Bool) → Ones 15 → ℕ → ℕ → Result (Option (Ones 15)) Fault → Type 0
Decided rd hit m i b o = (k : ℕ) × (0 < k) × (k * i ≤ b) × Before rd hit m i b k × Decides rd hit m i b k o

-- either some word decides, or there is no hit
cases_ended : (rd : Ones 15 → Result (Ones 24) Fault) (hit : Ones 24 → Bool) (m : Ones 15) (i b : ℕ) → b < 2 ^ 15
    → (o : Result (Option (Ones 15)) Fault) → Ended rd hit m i b o → Decided rd hit m i b o ⊎ (NoHit rd hit m i b × (o ≡ Ok None))
cases_ended rd hit m i b h (Ok (Some n)) e =
    let q = e.number in
    let l = n.fits in
    let x : n ≡ address (b - e.k * i) = is_low n (lit< tt) (lit≤ tt) (b - e.k * i) (omega arith) in
    inl (e.k, e.stepped, omega arith, e.before, (e.word, rw x at e.read, e.hits, x))
cases_ended rd hit m i b h (Ok None) e = inr (e, refl)
cases_ended rd hit m i b h (Err f) e = inl (e.k, e.stepped, e.within, e.before, e.read)

module _ (rd rd' : Ones 15 → Result (Ones 24) Fault) (hit : Ones 24 → Bool) (m : Ones 15) (i b k : ℕ) (a : rd (plus m (address (b - k * i))) ≡ rd' (plus m (address (b - k * i)))) where
  -- a word that decides is not one that was passed
  apart : (o : Result (Option (Ones 15)) Fault) → Missed rd hit m i b k → Decides rd' hit m i b k o → ⊥
  apart (Ok (Some n)) (w, e, t) (w', e', t', q) = let z : ◌≡◌ {A = ℕ} 0 1 = cc in omega arith
  apart (Ok None) u d = d
  apart (Err f) (w, e, t) d = let z : ◌≡◌ {A = ℕ} 0 1 = cc in omega arith

  -- it decides one thing
  agreed : (o o' : Result (Option (Ones 15)) Fault) → Decides rd hit m i b k o → Decides rd' hit m i b k o' → o' ≡ o
  agreed (Ok (Some n)) (Ok (Some n')) (w, e, t, q) (w', e', t', q') = cc
  agreed (Ok (Some n)) (Ok None) d e = absurd e
  agreed (Ok (Some n)) (Err f) (w, e, t, q) d = cc
  agreed (Ok None) o' d e = absurd d
  agreed (Err f) (Ok (Some n)) d (w, e, t, q) = cc
  agreed (Err f) (Ok None) d e = absurd e
  agreed (Err f) (Err f') d e = cc

module _ (rd rd' : Ones 15 → Result (Ones 24) Fault) (hit : Ones 24 → Bool) (m : Ones 15) (i b : ℕ) (a : Agree rd rd' m i b) (o o' : Result (Option (Ones 15)) Fault) where
  -- by which word decides first
  by_order : Decided rd hit m i b o → Decided rd' hit m i b o' → o' ≡ o
  by_order (k, p, l, u, d) (k', p', l', u', d') = elim (cases_order k k') [
    | inl e ↦ agreed rd rd' hit m i b k (sym (a k p l)) o o' d (rw e d')
    | inr (inl e) ↦ absurd (apart rd' rd hit m i b k (a k p l) o (u' k p e) d)
    | inr (inr e) ↦ absurd (apart rd rd' hit m i b k' (sym (a k' p' l')) o' (u k' p' e) d')
  ]

  -- two ends over words that agree are one
  alone : b < 2 ^ 15 → Ended rd hit m i b o → Ended rd' hit m i b o' → o' ≡ o
  alone h d e = joined (cases_ended rd hit m i b h o d) (cases_ended rd' hit m i b h o' e)
    where
      joined : Decided rd hit m i b o ⊎ (NoHit rd hit m i b × (o ≡ Ok None)) → Decided rd' hit m i b o' ⊎ (NoHit rd' hit m i b × (o' ≡ Ok None)) → o' ≡ o
      joined (inl x) (inl y) = by_order x y
      joined (inl (k, p, l, u, d)) (inr (n, e)) = absurd (apart rd' rd hit m i b k (a k p l) o (n k p l) d)
      joined (inr (n, e)) (inl (k, p, l, u, d)) = absurd (apart rd rd' hit m i b k (sym (a k p l)) o' (n k p l) d)
      joined (inr (n, e)) (inr (n', e')) = e' ∙ sym e

-- the rule, once its words are looked at
abbrev ruled : Registers → Result (Option (Ones 15)) Fault → Result Done Fault
ruled r o = bind o (λ n. quiet (search_ended r n))

module _ (rd : Ones 15 → Result (Ones 24) Fault) (hit : Ones 24 → Bool) (m : Ones 15) (i : ℕ) (r : Registers) where
  -- in terms of the registers, and back
  so : (o : Result (Option (Ones 15)) Fault) → Ended rd hit m i r.b1.bits o → Ends rd hit m i r (left r (ruled r o)) (outcome (ruled r o))
  so (Ok (Some n)) e = inl (n, e, refl)
  so (Ok None) e = inr (e, refl)
  so (Err f) e = (e, refl)

  back : (s : Registers) (y : Result (Unit {0}) Fault) → Ends rd hit m i r s y
      → (o : Result (Option (Ones 15)) Fault) × Ended rd hit m i r.b1.bits o × (s ≡ left r (ruled r o)) × (y ≡ outcome (ruled r o))
  back s (Ok u) (inl (n, e, q)) = (Ok (Some n), e, q, refl)
  back s (Ok u) (inr (e, q)) = (Ok None, e, q, refl)
  back s (Err f) (e, q) = (Err f, e, q, refl)

-- the rule says what a search finds
pub finds : (rd : Ones 15 → Result (Ones 24) Fault) (hit : Ones 24 → Bool) (m : Ones 15) (i : ℕ) → 0 < i → (r : Registers)
    → (o : Result (Option (Ones 15)) Fault) → o ≡ sought (suc r.b1.bits) rd hit m i r.b1.bits
    → Searches rd hit m i r (left r (ruled r o)) (outcome (ruled r o))
finds rd hit m i p r o q =
    let e : Ended rd hit m i r.b1.bits o = rw q (ended rd hit m i p (suc r.b1.bits) r.b1.bits (omega arith) r.b1.fits) in
    record {
      ends = so rd hit m i r o e;
      only = λ rd' a s y d.
          let x = back rd' hit m i r s y d in
          let z : x.0 ≡ o = alone rd rd' hit m i r.b1.bits a o x.0 r.b1.fits e x.1 in
          (rw z at x.2, rw z at x.3);
    }
