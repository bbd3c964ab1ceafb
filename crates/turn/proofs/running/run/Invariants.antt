use Rattle.turn.proofs.Ending.{Sofar}
use Rattle.turn.proofs.running.run.Given as goal

abbrev pub invariant-loop-count : goal.invariant-loop-count
invariant-loop-count g l = Sofar g.S.Store.meaning g.S.Store.wrote l.keys l.group.number l.length l.initial.«record» l.initial.store l.count l.«record» l.store
