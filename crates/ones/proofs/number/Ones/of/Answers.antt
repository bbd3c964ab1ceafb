use Rattle.std.proofs.Common.{ℕ, ◌%◌, ap, arith}
use Rattle.std.proofs.lemmas.Nat.{one_shl}
use Rattle.ones.proofs.Same.{is_low}
use Rattle.ones.proofs.number.Ones.of.Goals as goal

pub returns : goal.returns
returns g c =
    let e = ap (λ (m : ℕ). c.args.n % m) (one_shl g.row.W 64 (omega arith)) in
    record { bits = e; answer = λ wide narrow. is_low _ wide narrow c.args.n e }
