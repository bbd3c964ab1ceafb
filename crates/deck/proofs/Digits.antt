-- The steps of reading digits.
use Rattle.std.proofs.Common.{◌≡◌, ℕ, ◌+◌, ◌*◌, ◌^◌, ◌<◌, ◌≤◌, true, false, cond, ltb, List, [], ◌∷◌, length, get_or, drop, Ok, Err, Some, None, MatchOption, Option, Result, sym, refl, ap, ◌∙◌, le-mul_of_pos_right, arith, le-ltb, lt-ltb}
use Rattle.std.proofs.lemmas.List.{at_drop_more}
use Rattle.std.proofs.lemmas.Bool.Decides.{nat_tests}
use Rattle.std.specs.Char.{digit_value}
use Rattle.std.specs.Option.{SomeIff}
use Rattle.deck.specs.declared.problem.Problem.{Problem}
use Rattle.deck.specs.declared.problem.Problem.TheVariants.{Large, Number}
use Rattle.deck.specs.Numbers.{digit, all_digits, value_after, fitting}

-- the library's value of a digit is ours, up to base 16
digit_is : (base b : ℕ) → base ≤ 16 → digit_value b < base → digit b ≡ digit_value b
digit_is base b h d = grind (arith, nat_tests)

digit_none : (base b : ℕ) → base ≤ 16 → base ≤ digit_value b → base ≤ digit b
digit_none base b h d = grind (arith, nat_tests)

-- what the digits bs say after a value that was read, or that was too large
abbrev pub after : ℕ → Option ℕ → List ℕ → Result ℕ Problem
after base (Some n) bs = cond (all_digits base bs) (fitting (value_after base n bs)) (Err Number)
after base None bs = cond (all_digits base bs) (Err Large) (Err Number)

-- digits that follow make a number no less
value_ge : (base n : ℕ) (bs : List ℕ) → 0 < base → n ≤ value_after base n bs
value_ge base n [] h = omega arith
value_ge base n (b ∷ bs) h = let more = value_ge base (n * base + digit b) bs h in let up = le-mul_of_pos_right n h in omega (arith, more, up)

overflows : (base n : ℕ) (bs : List ℕ) → 0 < base → 2 ^ 32 ≤ n → fitting (value_after base n bs) ≡ Err Large
overflows base n bs p h =
    ap (λ t. cond t (Ok (value_after base n bs)) (Err Large)) (le-ltb (value_after base n bs) (2 ^ 32) (omega (arith, value_ge base n bs p)))

-- one digit more, where Q says of the value before that r is the value with it, if that fits
module _ (base b d : ℕ) (r : Option ℕ) (bs : List ℕ) (Q : ℕ → Type 0) (low : 2 ≤ base) (below : ltb (digit b) base ≡ true) (is : d ≡ digit b) (gives : (n : ℕ) → Q n → SomeIff r (n * base + d < 2 ^ 32) (n * base + d)) where
  joined : (n : ℕ) (t : Option ℕ) → r ≡ t → SomeIff t (n * base + d < 2 ^ 32) (n * base + d) → after base t bs ≡ after base (Some n) (b ∷ bs)
  joined n (Some x) e m = rw (m.1, is, below) refl
  joined n None e m =
      rw (below, overflows base (n * base + digit b) bs (omega arith) (omega (arith, m, is))) refl

  next : (v : Option ℕ) → MatchOption v (r ≡ None) Q → after base r bs ≡ after base v (b ∷ bs)
  next None m = rw (m, below) refl
  next (Some n) q = joined n r refl (gives n q)

pub digit_on : (base d : ℕ) (v r : Option ℕ) (bs : List ℕ) (i : ℕ) (whole : Result ℕ Problem) (Q : ℕ → Type 0) → 2 ≤ base → base ≤ 16 → i < length bs → digit_value (get_or bs i 0) < base → d ≡ digit_value (get_or bs i 0) → ((n : ℕ) → Q n → SomeIff r (n * base + d < 2 ^ 32) (n * base + d)) → MatchOption v (r ≡ None) Q → after base v (drop i bs) ≡ whole → after base r (drop (i + 1) bs) ≡ whole
digit_on base d v r bs i whole Q low high h below e gives m inv =
    let b = get_or bs i 0 in
    let is = digit_is base b high below in
    next base b d r (drop (i + 1) bs) Q low (lt-ltb (digit b) base (omega arith)) (e ∙ sym is) gives v m ∙ sym (at_drop_more (after base v) bs i 0 h) ∙ inv

stopped : (base : ℕ) (v : Option ℕ) (b : ℕ) (bs : List ℕ) → ltb (digit b) base ≡ false → after base v (b ∷ bs) ≡ Err Number
stopped base None b bs f = rw f refl
stopped base (Some n) b bs f = rw f refl

pub digit_stop : (base : ℕ) (v : Option ℕ) (bs : List ℕ) (i : ℕ) → base ≤ 16 → i < length bs → base ≤ digit_value (get_or bs i 0) → after base v (drop i bs) ≡ Err Number
digit_stop base v bs i high h none =
    at_drop_more (after base v) bs i 0 h ∙ stopped base v (get_or bs i 0) (drop (i + 1) bs) (le-ltb (digit (get_or bs i 0)) base (digit_none base (get_or bs i 0) high none))
