use Rattle.std.proofs.Common.{◌≡◌, ◌-◌, ◌+◌, rules, arith}
use Rattle.std.proofs.lemmas.Bool.{not-false}
use Rattle.std.proofs.lemmas.Result.{err_from_is_err_and}
use Rattle.operands.proofs.Chains.{direct, spent, more}
use Rattle.operands.proofs.addressing.effective.Goals as goal
use Rattle.operands.proofs.addressing.effective.Goals.{else-loop-read-test, then-loop-read-test+then-not-place}

pub returns-in_err-word : goal.returns-in_err-word
returns-in_err-word g c =
    let m = more _ _ _ _ c.loop-read.invariant (not-false _ c.if-not-place.false) (λ e. omega arith) in
    let p = err_from_is_err_and c.from_residual.result c.from_residual.ensures.1 in
    search rules

pub loop-read-preserved : goal.loop-read-preserved
loop-read-preserved g c =
    let m = more _ _ _ _ c.loop-read.invariant (not-false _ c.if-not-place.false) (λ e. omega arith) in
    let k : 64 - c.loop-read._read - 1 ≡ 64 - (c.loop-read._read + 1) = omega arith in
    search rules

pub returns-then-place : goal.returns-then-place
returns-then-place g c = elim c.loop-read-test.branch [
  | else-loop-read-test w ↦ spent _ _ _ _ c.loop-read.invariant c.if-place.true (omega arith)
  | then-loop-read-test+then-not-place w ↦ search rules
]

pub returns-else-place : goal.returns-else-place
returns-else-place g c = let m = direct _ _ _ _ c.loop-read.invariant c.if-place.false in search rules
