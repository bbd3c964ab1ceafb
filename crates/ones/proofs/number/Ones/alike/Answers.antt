use Rattle.std.proofs.Common.{◌≡◌, eqb, rules}
use Rattle.ones.specs.Numbers.{alike}
use Rattle.ones.proofs.Laws.{alike_signed}
use Rattle.ones.proofs.number.Ones.alike.Goals as goal

pub returns : goal.returns
unfolding alike
returns g c =
    let e : eqb c.settled.result c.settled-2.result ≡ alike c.args.self c.args.other = search rules in
    record { answer = e; signed = alike_signed c.args.self c.args.other _ e }
