use Rattle.std.proofs.lemmas.Bool.Decides.{Decides-at}
use Rattle.ones.proofs.Exact.{overflows_tells}
use Rattle.ones.proofs.Laws.{overflow}
use Rattle.ones.proofs.number.Ones.sum_overflows.Goals as goal

pub returns : goal.returns
returns g c =
    let e = overflow c.args.self c.args.other _ c.crosses.ensures in
    record { answer = e; exact = Decides-at _ _ e (overflows_tells g.row.W _) }
