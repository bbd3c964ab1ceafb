use Rattle.std.proofs.Common.{rules}
use Rattle.registers.proofs.Same.{as_keys}
use Rattle.registers.proofs.key.KeysTryFromU32.try_from.Goals as goal
use Rattle.std.proofs.lemmas.Bool.{lt-ltb}

pub returns-then-n-lt64 : goal.returns-then-n-lt64
returns-then-n-lt64 c = search (rules, as_keys, lt-ltb)
