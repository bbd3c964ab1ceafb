use Rattle.std.proofs.Common.{◌≡◌, rules}
use Rattle.ones.specs.Numbers.{right}
use Rattle.ones.proofs.Laws.{right_signed}
use Rattle.ones.proofs.number.Ones.right.Goals as goal

pub returns : goal.returns
unfolding right
returns g c =
    let e : c.of.result ≡ right c.args.self c.args.count = search rules in
    record { answer = e; signed = right_signed c.args.self c.args.count _ e }
