use Rattle.std.proofs.Common.{refl, rules}
use Rattle.std.proofs.lemmas.List.Recursion.{or_is}
use Rattle.layers.specs.Ranges.{covered, inside}
use Rattle.layers.proofs.range.Ranges.cover.Goals as goal

pub returns : goal.returns
returns c = or_is (λ rs. covered rs c.args.address) (λ r. inside r c.args.address) refl (λ _ _. refl) c.args.self.now (record { low = 0; high = 0 }) _ (search rules) (search rules)
