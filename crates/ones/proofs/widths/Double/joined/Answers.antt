use Rattle.std.proofs.Common.{◌≡◌, rules}
use Rattle.ones.specs.Numbers.{joined}
use Rattle.ones.proofs.Laws.{joined_upper, joined_lower}
use Rattle.ones.proofs.widths.Double.joined.Goals as goal

pub returns : goal.returns
unfolding joined
returns c =
    let e : c.low.result ≡ joined c.args.first c.args.second = search rules in
    record {
      answer = e;
      upper = joined_upper c.args.first c.args.second _ e;
      lower = joined_lower c.args.first c.args.second _ e;
    }
