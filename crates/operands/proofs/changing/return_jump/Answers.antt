use Rattle.std.proofs.Common.{rules}
use Rattle.operands.proofs.Returning.{jumped}
use Rattle.operands.proofs.changing.return_jump.Goals as goal

pub returns : goal.returns
returns g c =
    record {
      carried = search rules;
      returns = jumped g.S.Store.meaning g.S.Store.wrote _ _ _ _ _ _ (g.S.Store.sound c.args.store.now) (search rules);
    }
