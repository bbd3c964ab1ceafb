use Rattle.std.proofs.Common.{refl}
use Rattle.bench.proofs.Cases.{worked_cases}
use Rattle.bench.proofs.worked_cases_hold.Goals as goal

pub returns : goal.returns
returns c = record { cases = worked_cases; count = refl }
