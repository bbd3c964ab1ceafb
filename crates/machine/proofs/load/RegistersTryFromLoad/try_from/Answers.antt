use Rattle.std.proofs.Common.{rules}
use Rattle.machine.proofs.Loading.{all_fit}
use Rattle.machine.proofs.load.RegistersTryFromLoad.try_from.Goals as goal

pub returns : goal.returns
returns c =
    all_fit c.args.load _ _ _ _ _ _ c.in_ok-value.ensures c.in_ok-value-2.ensures c.in_ok-value-3.ensures c.in_ok-value-4.ensures c.in_ok-value-5.ensures (search rules)
