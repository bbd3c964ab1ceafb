-- Each case computes, once what is given stands in its place.
use Rattle.std.proofs.Common.{◌≡◌, ◌^◌, Bool, true, false, ◌||◌, Ok, refl, ap, lit<}
use Rattle.instruction.specs.Decode.{decoded}
use Rattle.instruction.specs.declared.action.Action.{Action}
use Rattle.instruction.specs.declared.action.Action.TheVariants.{ZeroJump, Shift}
use Rattle.instruction.specs.declared.action.Relation.TheVariants.{Equal, NotBelow, Below}
use Rattle.instruction.specs.declared.action.Shifted.TheVariants as shifted
use Rattle.instruction.specs.declared.instruction.Instruction.TheVariants.{Act, ReturnJump, Operate}
use Rattle.instruction.specs.declared.operation.Operation.{Operation}
use Rattle.instruction.specs.declared.operation.Operation.TheVariants.{Take, TakeTwo}
use Rattle.instruction.specs.declared.operation.Take.TheVariants as takes
use Rattle.instruction.specs.declared.operation.TakeTwo.TheVariants as pairs
use Rattle.ones.proofs.Same.{same}
use Rattle.ones.specs.Numbers.{low, address, word, counted, with_low, value, complement, plus, below, alike, right, joined}
use Rattle.ones.specs.Signed.{overflows}
use Rattle.ones.specs.declared.number.Ones.{Ones}
use Rattle.registers.specs.declared.index.Index.TheVariants.{B0}
use Rattle.registers.specs.declared.keys.Keys.{Keys}
use Rattle.registers.specs.declared.registers.Registers.{Registers}
use Rattle.rules.specs.Parts.{effective}
use Rattle.rules.specs.Sight.{Sight, quiet, trapping}
use Rattle.rules.specs.Table.{acted, rtj, operated, executed, step}
use Rattle.bench.specs.Cases.{coded, WorkedCases}
use Rattle.bench.proofs.Words.{by_digits, low_part, plainly, plain}

or_true : (b : Bool) → b || true ≡ true
or_true true = refl
or_true false = refl

or_false : (b : Bool) → b || false ≡ b
or_false true = refl
or_false false = refl

-- the words of the cases, decoded
jump_if_zero : (m : Ones 15) → decoded (coded 0o030 m) ≡ Act (ZeroJump Equal) m
jump_if_zero m = rw (by_digits 0o030 m (lit< tt), low_part 0o030 m (lit< tt))

jump_if_below : (m : Ones 15) → decoded (coded 0o033 m) ≡ Act (ZeroJump Below) m
jump_if_below m = rw (by_digits 0o033 m (lit< tt), low_part 0o033 m (lit< tt))

jump_if_not_below : (m : Ones 15) → decoded (coded 0o032 m) ≡ Act (ZeroJump NotBelow) m
jump_if_not_below m = rw (by_digits 0o032 m (lit< tt), low_part 0o032 m (lit< tt))

add : (m : Ones 15) → decoded (coded 0o300 m) ≡ Operate (Take takes.Add) (plainly m)
add m = rw (by_digits 0o300 m (lit< tt), plain 0o300 m (lit< tt) refl)

add_two : (m : Ones 15) → decoded (coded 0o320 m) ≡ Operate (TakeTwo pairs.Add) (plainly m)
add_two m = rw (by_digits 0o320 m (lit< tt), plain 0o320 m (lit< tt) refl)

compare : (m : Ones 15) → decoded (coded 0o520 m) ≡ Operate (Take takes.Compare) (plainly m)
compare m = rw (by_digits 0o520 m (lit< tt), plain 0o520 m (lit< tt) refl)

shift : decoded (word 0o12077776) ≡ Act (Shift shifted.A B0) (address 0o77776)
unfolding decoded low
shift = ap (Act (Shift shifted.A B0)) (same (address 0o12077776) (address 0o77776) refl)

return_jump : decoded (word 0o00700100) ≡ ReturnJump (address 0o00100)
unfolding decoded low
return_jump = ap ReturnJump (same (address 0o00700100) (address 0o00100) refl)

-- the low word of 00000001 00000000
low_word : word (2 ^ 24) ≡ word 0
unfolding low
low_word = same _ _ refl

module _ (keys : Keys) (s : Sight) (r : Registers) where
  -- a word that was fetched is carried out
  fetched : (w : Ones 24) → s.reads r.p ≡ Ok w → step keys s r ≡ executed (decoded w) keys s r
  unfolding step
  fetched w e = rw e

  -- without a memory operand
  acts : (w : Ones 24) (o : Action) (y : Ones 15) → decoded w ≡ Act o y → s.reads r.p ≡ Ok w → step keys s r ≡ quiet (acted o keys y r)
  acts w o y d e = rw (fetched w e, d)

  -- a return jump
  links : (w : Ones 24) (m : Ones 15) → decoded w ≡ ReturnJump m → s.reads r.p ≡ Ok w → step keys s r ≡ trapping (rtj m s r)
  links w m d e = rw (fetched w e, d)

  -- with the operand at m itself
  operates : (w : Ones 24) (o : Operation) (m : Ones 15) → decoded w ≡ Operate o (plainly m) → s.reads r.p ≡ Ok w → step keys s r ≡ trapping (operated o m s r)
  unfolding effective
  operates w o m d e = rw (fetched w e, d)

pub worked_cases : WorkedCases
unfolding low plus complement value overflows below alike right joined with_low counted
worked_cases = record {
  sum_to_zero = refl;
  sum_from_negative_zero = refl;
  sum_sets_latch = λ keys s r m e a x. rw (operates keys s r _ _ m (add m) e, x, a, or_true r.latch);
  negative_zero_jumps = λ keys s r m a. (
    λ e. rw (acts keys s r _ _ m (jump_if_zero m) e, a),
    λ e. rw (acts keys s r _ _ m (jump_if_below m) e, a),
    λ e. rw (acts keys s r _ _ m (jump_if_not_below m) e, a),
  );
  page_ends = λ ds w e p f l. (rw (e, p, f, l), rw (e, l), refl);
  shift_copies_sign = λ keys s r e a. rw (acts keys s r _ _ _ shift e, a);
  double_sum_carries = λ keys s r m e a q x y. rw (operates keys s r _ _ m (add_two m) e, x, y, a, q, or_false r.latch, low_word);
  return_jump_links = λ keys s r p e t x. rw (links keys s r _ _ return_jump (rw (p, e)), t, x, p);
  compare_goes_three_ways = λ keys s r m e a q. (
    λ x. rw (operates keys s r _ _ m (compare m) e, x, a),
    λ x. rw (operates keys s r _ _ m (compare m) e, x, a, q),
    λ x. rw (operates keys s r _ _ m (compare m) e, x, a, q),
  );
  three_bytes_are_a_word = (refl, refl);
}
