use Rattle.std.proofs.Common.{rules}
use Rattle.rules.proofs.immediate.combine.Goals as goal
use Rattle.rules.proofs.immediate.combine.Goals.{in-Index, in-A, in-Q}

pub returns : goal.returns
returns g c = elim c.match-target.branch [
  | in-Index w ↦ rw w.in-Index.is (w.by_address.result, rw w.index.ensures at w.by_address.ensures, search rules)
  | in-A w ↦ rw w.in-A.is (w.by_word-registers.result, rw w.widened.ensures at w.by_word-registers.ensures, search rules)
  | in-Q w ↦ rw w.in-Q.is (w.by_word-registers-in-Q.result, rw w.widened-in-Q.ensures at w.by_word-registers-in-Q.ensures, search rules)
]
