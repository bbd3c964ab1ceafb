use Rattle.std.proofs.Common.{rules}
use Rattle.store.specs.Bytes.{packed_writes}
use Rattle.store.proofs.packed.PackedStore.write.Goals as goal

pub returns-clause-effect : goal.returns-clause-effect
returns-clause-effect c = search (rules, packed_writes)
