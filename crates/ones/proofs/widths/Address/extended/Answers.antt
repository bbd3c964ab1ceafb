use Rattle.std.proofs.Common.{◌≡◌, rules}
use Rattle.ones.specs.Numbers.{extended}
use Rattle.ones.proofs.Laws.{extended_signed}
use Rattle.ones.proofs.widths.Address.extended.Goals as goal

pub returns : goal.returns
unfolding extended
returns c =
    let e : c.low.result ≡ extended c.args.self = search rules in
    record { answer = e; signed = extended_signed c.args.self _ e }
