use Rattle.std.proofs.Common.{rules}
use Rattle.ones.specs.Numbers.{disjunction}
use Rattle.ones.proofs.number.Ones.or.Goals as goal

pub returns : goal.returns
unfolding disjunction
returns g c = search rules
