use Rattle.std.proofs.Common.{rules}
use Rattle.ones.specs.Numbers.{exclusive}
use Rattle.ones.proofs.number.Ones.xor.Goals as goal

pub returns : goal.returns
unfolding exclusive
returns g c = search rules
