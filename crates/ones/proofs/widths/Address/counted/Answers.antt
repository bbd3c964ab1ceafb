use Rattle.std.proofs.Common.{rules}
use Rattle.ones.specs.Numbers.{counted}
use Rattle.ones.proofs.widths.Address.counted.Goals as goal

pub returns : goal.returns
unfolding counted
returns c = record { answer = search rules; bits = search rules }
