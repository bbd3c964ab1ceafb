-- A write that a core takes puts one word.
use Rattle.std.specs.Prelude.{◌≡◌, ℕ, ◌%◌, ◌^◌, ◌<◌, min, Bool, true, false, cond, List, length, Ok, Err, nat_lt, slice_index, refl}
use Rattle.std.proofs.Common.{ap, sym, length-set, ⊎_elim, arith}
use Rattle.std.proofs.Math.Path.{fun_ext}
use Rattle.answers.specs.declared.layer.Layer.TheVariants as layers
use Rattle.store.specs.Plain.{plain, rewritten}
use Rattle.std.proofs.lemmas.List.{get_or-set_same, get_or-set_other}
use Rattle.std.proofs.lemmas.Bool.{eq-eqb, ne_eqb, cases_eq, lt-ltb, ltb-true}
use Rattle.answers.specs.declared.layer.Layer.{Layer}
use Rattle.answers.specs.declared.fault.Fault.{Fault}
use Rattle.store.specs.Core.{core, below}
use Rattle.store.specs.Meaning.{Words, put, after, beyond}

pub core_write : (l : Layer) (n a v : ℕ) (w w' : Words) → a < n → ((j : ℕ) → w' j ≡ put w a (v % 2 ^ 24) j) → core l n w' ≡ after (Ok tt) (core l n w) a v
core_write l n a v w w' h e = rw (lt-ltb a n h) (ap (core l n) (fun_ext e))

taken_below : (b : Bool) (f : Fault) {u : Unit {0}} → Ok u ≡ cond b (Ok tt) (Err f) → b ≡ true
taken_below true f h = refl
taken_below false f h = let z : ◌≡◌ {A = ℕ} 0 1 = cc in absurd (omega arith)

pub below_taken : (l : Layer) (n a : ℕ) {u : Unit {0}} → Ok u ≡ below l n a tt → a < n
below_taken l n a h = ltb-true a n (taken_below (nat_lt a n) (beyond l a) h)

put_word : (ws : List ℕ) (a v j : ℕ) → a < length ws → slice_index (rewritten ws a v) j % 2 ^ 24 ≡ put (λ k. slice_index ws k % 2 ^ 24) a (v % 2 ^ 24) j
put_word ws a v j h =
    ⊎_elim (λ e. rw (eq-eqb j a e, e, get_or-set_same) (omega arith)) (λ d. rw (ne_eqb j a d, get_or-set_other)) (cases_eq j a)

pub plain_writes : (ws : List ℕ) (a v : ℕ) → (plain ws).takes a ≡ Ok tt → plain (rewritten ws a v) ≡ after (Ok tt) (plain ws) a v
plain_writes ws a v h =
    let l : a < min (length ws) 262144 = below_taken layers.Plain (min (length ws) 262144) a (sym h) in
    let k : a < length ws = omega arith in
    rw length-set (core_write layers.Plain (min (length ws) 262144) a v _ _ l (λ j. put_word ws a v j k))
