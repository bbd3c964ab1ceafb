use Rattle.std.proofs.Common.{◌≡◌, rules}
use Rattle.ones.specs.Numbers.{left}
use Rattle.ones.proofs.Laws.{left_around}
use Rattle.ones.proofs.number.Ones.left.Goals as goal

pub returns : goal.returns
unfolding left
returns g c =
    let e : c.of.result ≡ left c.args.self c.args.count = search rules in
    record { answer = e; around = left_around c.args.self c.args.count _ e }
