use Rattle.std.proofs.Common.{◌≡◌, ap, ◌∙◌, rules}
use Rattle.ones.specs.declared.number.Ones.{Ones}
use Rattle.ones.specs.Numbers.{complement}
use Rattle.ones.proofs.Laws.{complement_bits, complement_negated}
use Rattle.ones.proofs.number.Ones.complement.Goals as goal

pub returns : goal.returns
unfolding complement
returns g c =
    let e : c.of.result ≡ complement c.args.self = search rules in
    record {
      answer = e;
      bits = ap (λ (r : Ones g.row.W). r.bits) e ∙ complement_bits c.args.self;
      negated = complement_negated c.args.self _ e;
    }
