use Rattle.std.proofs.Common.{◌≡◌, rules}
use Rattle.ones.specs.Numbers.{plus}
use Rattle.ones.proofs.Laws.{plus_exact, plus_all_ones}
use Rattle.ones.proofs.number.Ones.plus.Goals as goal

pub returns : goal.returns
unfolding plus
returns g c =
    let e : c.of.result ≡ plus c.args.self c.args.other = search rules in
    record {
      answer = e;
      exact = plus_exact c.args.self c.args.other _ e;
      all_ones = plus_all_ones c.args.self c.args.other _ e;
    }
