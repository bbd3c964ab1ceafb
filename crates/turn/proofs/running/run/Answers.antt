use Rattle.std.proofs.Common.{arith}
use Rattle.turn.proofs.Ending.{at_length, more, stopped}
use Rattle.turn.proofs.running.run.Goals as goal

pub loop-count-preserved : goal.loop-count-preserved
loop-count-preserved g c = more _ _ _ _ _ _ _ _ _ _ _ _ _ c.loop-count.invariant c.loop-count-test.true c.advance.ensures c.in_default.is

pub returns-in-Err : goal.returns-in-Err
returns-in-Err g c = stopped _ _ _ _ _ _ _ _ _ _ _ _ _ _ c.loop-count.invariant c.loop-count-test.true c.advance.ensures c.in-Err.is

pub returns : goal.returns
returns g c = at_length _ _ _ _ _ _ _ _ _ _ c.loop-count.invariant (omega arith)
