use Rattle.std.proofs.Common.{◌≡◌, ltb, rules}
use Rattle.ones.specs.Numbers.{below}
use Rattle.ones.proofs.Laws.{below_signed}
use Rattle.ones.proofs.number.Ones.below.Goals as goal

pub returns : goal.returns
unfolding below
returns g c =
    let e : ltb c.flipped.result c.flipped-2.result ≡ below c.args.self c.args.other = search rules in
    record { answer = e; signed = below_signed c.args.self c.args.other _ e }
