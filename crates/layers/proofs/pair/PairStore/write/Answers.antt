use Rattle.std.proofs.Common.{rules}
use Rattle.layers.specs.Writing.{first_after}
use Rattle.layers.proofs.pair.PairStore.write.Goals as goal

pub returns-in-First-clause-effect : goal.returns-in-First-clause-effect
returns-in-First-clause-effect g c = let h = g.F.Store.sound c.args.self.now.first in search (rules, first_after)
