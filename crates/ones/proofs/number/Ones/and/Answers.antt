use Rattle.std.proofs.Common.{rules}
use Rattle.ones.specs.Numbers.{conjunction}
use Rattle.ones.proofs.number.Ones.and.Goals as goal

pub returns : goal.returns
unfolding conjunction
returns g c = search rules
