use Rattle.std.proofs.Common.{◌<◌, arith, rules}
use Rattle.std.proofs.lemmas.Result.{err_from_is_err_and}
use Rattle.search.proofs.Seeks.{missed, tried}
use Rattle.search.proofs.seeking.seek.Goals as goal

pub loop-number-preserved : goal.loop-number-preserved
loop-number-preserved g c =
    let p : 0 < c.from-step.result = omega arith in
    let k = tried _ _ _ _ _ _ c.loop-number.invariant.1 c.loop-number.invariant.2 c.loop-number-test.true p in
    let e = k.2 in
    (k.0, k.1, search rules)

pub returns-in_err-word : goal.returns-in_err-word
returns-in_err-word g c =
    let p : 0 < c.from-step.result = omega arith in
    let k = tried _ _ _ _ _ _ c.loop-number.invariant.1 c.loop-number.invariant.2 c.loop-number-test.true p in
    let e = k.2 in
    let f = err_from_is_err_and c.from_residual.result c.from_residual.ensures.1 in
    search rules

pub returns-then-hits : goal.returns-then-hits
returns-then-hits g c =
    let p : 0 < c.from-step.result = omega arith in
    let k = tried _ _ _ _ _ _ c.loop-number.invariant.1 c.loop-number.invariant.2 c.loop-number-test.true p in
    let e = k.2 in
    search rules

pub returns : goal.returns
returns g c = let m = missed _ _ _ _ _ _ c.loop-number.invariant.2 c.loop-number-test.false in search rules
